-- The two ends of a text: whole blocks alone, or a last part behind them. Assumes nothing.
use mathlib.Core.Path.{◌≡◌, refl, sym, ap, ap₂, ◌∙◌}
use mathlib.Core.Bool.{Bool, true, false}
use mathlib.Core.List.{List, [], ◌∷◌, ◌++◌, append-nil}
use Prim.Native.Nat.{ℕ, ◌*◌, ◌-◌, ◌/◌, ◌<◌, ◌≤◌}
use native.Mathlib.Nat.{not-suc-le-zero}
use native.Mathlib.Omega.{arith}
use lib.ListN.{length, take, drop, length-append, drop_of_length-le}
use lib.Seq.{take_at, drop_at, take_all}
use Rattle.standards.specs.Strings.{◌xor◌}
use Rattle.standards.specs.Rfc7253.{Key, wholes, rest, padded, Offset, Blocks, Sum, last_offset, last_text, last_sum, text, end_offset, seal_sum, open_sum}
use Rattle.ocb_laws.proofs.Sizes.{last_length, rest_length}
use Rattle.ocb_steps.specs.declared.Run.{Run}
use Rattle.ocb_steps.specs.Steps.{turned, summed, Last, last_plain}
use Rattle.ocb_walk.specs.Walked.{run_at, Walked, checksum, Ended}
use Rattle.ocb_walk.proofs.WalkLaws.{written}

last_offset_none : (K : Key) (O S : List ℕ) → length S ≡ 0 → last_offset K O S ≡ O
unfolding last_offset
last_offset_none K O [] h = refl
last_offset_none K O (x ∷ S) h = absurd (omega arith)

last_offset_some : (K : Key) (O S : List ℕ) → 0 < length S → last_offset K O S ≡ O xor K.L-*
unfolding last_offset
last_offset_some K O [] h = absurd (not-suc-le-zero h)
last_offset_some K O (x ∷ S) h = refl

last_sum_none : (s P : List ℕ) → length P ≡ 0 → last_sum s P ≡ s
unfolding last_sum
last_sum_none s [] h = refl
last_sum_none s (x ∷ P) h = absurd (omega arith)

last_sum_some : (s P : List ℕ) → 0 < length P → last_sum s P ≡ s xor padded P
unfolding last_sum
last_sum_some s [] h = absurd (not-suc-le-zero h)
last_sum_some s (x ∷ P) h = refl

no_places : (S : List ℕ) → length S ≡ 0 → S ≡ []
no_places [] h = refl
no_places (x ∷ S) h = absurd (omega arith)

-- a last part's plaintext is as long as the part
plain_length : (opens : Bool) (K : Key) (O S : List ℕ) → length (last_plain opens K O S) ≡ length S
plain_length false K O S = refl
plain_length true K O S = last_length K O S

-- the checksum of the whole blocks with that plaintext in it is the one that goes into the tag
checksum_is : (opens : Bool) (K : Key) (O S : List ℕ)
    → last_sum (Sum (summed opens K) K O S (wholes S)) (last_plain opens K (Offset K O (wholes S)) (rest S)) ≡ checksum opens K O S
unfolding seal_sum open_sum
checksum_is false K O S = refl
checksum_is true K O S = refl

module _ (opens : Bool) (K : Key) (O S : List ℕ) where
  -- the offset behind the whole blocks, and the plaintext of what is left
  abbrev whole : List ℕ
  whole = Offset K O (wholes S)

  abbrev plain : List ℕ
  plain = last_plain opens K whole (rest S)

  abbrev End : List ℕ → Run → Type 0
  End T r = Ended (turned opens) (checksum opens) K O S T r

  module _ {T : List ℕ} {r : Run} (long : length T ≡ length S) (W : Walked opens K O S T r) where
    pub ended_whole : length S ≤ length S / 16 * 16 → End T r
    unfolding run_at text end_offset wholes
    ended_whole h =
        let none : length (rest S) ≡ 0 = omega (arith, rest_length S) in
        let none' : length plain ≡ 0 = plain_length opens K whole (rest S) ∙ none in
        let e₁ = no_places (rest S) none in
        let e₂ = no_places (last_text K whole (rest S)) (last_length K whole (rest S) ∙ none) in
        record {
          run_is = W.run ∙ cc (last_offset_none K whole (rest S) none, last_sum_none (Sum (summed opens K) K O S (wholes S)) plain none', checksum_is opens K O S);
          text_is = W.text ∙ ap (λ (x : List ℕ). Blocks (turned opens K) K O S (wholes S) ++ x) (e₁ ∙ sym e₂);
        }

    front_size : length (Blocks (turned opens K) K O S (wholes S)) ≡ wholes S * 16
    unfolding wholes
    front_size =
        let e = ap length W.text ∙ length-append (Blocks (turned opens K) K O S (wholes S)) (rest S) in
        omega (arith, rest_length S)

    -- k places are lent behind the whole blocks, and become y
    pub ended_part : {P y : List ℕ} {r' : Run} (k : ℕ) → length S / 16 * 16 < length S → k ≡ length S - length S / 16 * 16
        → P ≡ last_plain opens K r.offset (take k (drop (length S / 16 * 16) T)) → Last K P (take k (drop (length S / 16 * 16) T)) r y r'
        → End (written T (length S / 16 * 16) k y) r'
    unfolding run_at text end_offset wholes
    ended_part {P} {y} k h ek ep last =
        let n : ℕ = length S / 16 in
        let behind : drop (n * 16) T ≡ rest S = ap (drop (n * 16)) W.text ∙ drop_at (Blocks (turned opens K) K O S n) (rest S) (n * 16) front_size in
        let front : take (n * 16) T ≡ Blocks (turned opens K) K O S n = ap (take (n * 16)) W.text ∙ take_at (Blocks (turned opens K) K O S n) (rest S) (n * 16) front_size in
        let lent : take k (drop (n * 16) T) ≡ rest S = ap (take k) behind ∙ take_all k (rest S) (omega (arith, rest_length S)) in
        let nothing : drop k (drop (n * 16) T) ≡ [] = ap (drop k) behind ∙ drop_of_length-le (rest S) {i = k} (omega (arith, rest_length S)) in
        let at : r.offset ≡ whole = ap (λ (z : Run). z.offset) W.run in
        let some : 0 < length (rest S) = omega (arith, rest_length S) in
        let some' : 0 < length plain = omega (arith, plain_length opens K whole (rest S)) in
        let plaintext : P ≡ plain = ep ∙ ap₂ (last_plain opens K) at lent in
        record {
          run_is =
              last.run
              ∙ ap₂ (λ (z : Run) (p : List ℕ). record { done = z.done; offset = z.offset xor K.L-*; sum = z.sum xor padded p }) W.run plaintext
              ∙ cc (last_offset_some K whole (rest S) some, last_sum_some (Sum (summed opens K) K O S n) plain some', checksum_is opens K O S);
          text_is =
              ap₂ (λ (x z : List ℕ). x ++ (y ++ z)) front nothing
              ∙ ap (λ (x : List ℕ). Blocks (turned opens K) K O S n ++ x) (append-nil y ∙ last.text ∙ ap₂ (last_text K) at lent);
        }
