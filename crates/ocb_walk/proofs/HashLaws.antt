-- HASH's loop, whose invariant is that the run is the definition's of the blocks that came, and its two ends. Assumes nothing.
use mathlib.Core.Path.{◌≡◌, refl, sym, ap, ◌∙◌}
use mathlib.Core.List.{List, [], ◌∷◌, ◌++◌}
use Prim.Native.Nat.{ℕ, ◌+◌, ◌-◌, ◌*◌, ◌/◌, ◌%◌, ◌<◌, ◌≤◌}
use native.Mathlib.Omega.{arith}
use lib.ListN.{length, take, drop, length-append, length-drop}
use lib.Seq.{take_all, take_at, drop_at, drop-drop}
use Rattle.standards.specs.Strings.{zeros}
use Rattle.standards.specs.Rfc7253.{Key, wholes, block_at, rest, Offset, hash_block, Sum, last_hash, HASH}
use Rattle.ocb_laws.proofs.Sizes.{rest_length}
use Rattle.ocb_steps.specs.declared.Run.{Run}
use Rattle.ocb_steps.specs.Steps.{after}
use Rattle.ocb_walk.specs.Walked.{run_at}
use Rattle.ocb_walk.proofs.WalkLaws.{run_more, run_none}

abbrev pub hashed : Key → List ℕ → ℕ → Run
hashed K A i = run_at (hash_block K) K (zeros 16) A i

pub hashed_done : {r : Run} (K : Key) (A : List ℕ) (i : ℕ) → r ≡ hashed K A i → r.done ≡ i
unfolding run_at
hashed_done K A i e = ap (λ (z : Run). z.done) e

pub hashed_more : {b : List ℕ} {r r' : Run} (K : Key) (A : List ℕ) (i : ℕ) → r ≡ hashed K A i → b ≡ take 16 (drop (i * 16) A)
    → r' ≡ after (hash_block K) K b r → r' ≡ hashed K A (i + 1)
unfolding block_at
hashed_more {b} {r} {r'} K A i e eb er = let m = run_more (hash_block K) K (zeros 16) A i in cc

-- the blocks of n bytes that came made the run r, and S is still to come
pub record Hashing (K : Key) (A S : List ℕ) (n : ℕ) (r : Run) : Type 0 where
  pub sixteen : n ≡ 16
  pub run : r ≡ hashed K A r.done
  pub left : S ≡ drop (r.done * 16) A
  pub within : r.done * 16 ≤ length A

module _ (K : Key) (A : List ℕ) where
  pub hashing_none : {S : List ℕ} {n : ℕ} {r : Run} → S ≡ A → n ≡ 16 → r ≡ record { done = 0; offset = zeros 16; sum = zeros 16 } → Hashing K A S n r
  hashing_none {S} {n} {r} eS en er =
      let start : r ≡ hashed K A 0 = er ∙ run_none (hash_block K) K (zeros 16) A in
      let done : r.done ≡ 0 = ap (λ (z : Run). z.done) er in
      record {
        sixteen = en;
        run = start ∙ ap (hashed K A) (sym done);
        left = eS ∙ ap (λ (i : ℕ). drop (i * 16) A) (sym done);
        within = omega arith;
      }

  pub hashing_more : {S S' c : List ℕ} {n n' : ℕ} {r r' : Run} (b : List ℕ) → Hashing K A S n r → n' ≡ n → (S ≡ b ++ S') × (length b ≡ n)
      → c ≡ take 16 (drop 0 b) → r' ≡ after (hash_block K) K c r → Hashing K A S' n' r'
  hashing_more {S} {S'} {c} {n} {n'} {r} {r'} b H en (eS, eb) ec er =
      let long : length b ≡ 16 = eb ∙ H.sixteen in
      let came : drop (r.done * 16) A ≡ b ++ S' = sym H.left ∙ eS in
      let block : c ≡ take 16 (drop (r.done * 16) A) = ec ∙ take_all 16 b (omega arith) ∙ sym (ap (take 16) came ∙ take_at b S' 16 long) in
      let run : r' ≡ hashed K A (r.done + 1) = hashed_more K A r.done H.run block er in
      let done : r'.done ≡ r.done + 1 = hashed_done K A (r.done + 1) run in
      let size : length A - r.done * 16 ≡ length b + length S' = sym (length-drop (r.done * 16) A) ∙ ap length came ∙ length-append b S' in
      let place : r.done * 16 + 16 ≡ r'.done * 16 = omega arith in
      record {
        sixteen = en ∙ H.sixteen;
        run = run ∙ ap (hashed K A) (sym done);
        left =
            sym (ap (drop 16) came ∙ drop_at b S' 16 long) ∙ drop-drop 16 (r.done * 16) A ∙ ap (λ (i : ℕ). drop i A) place;
        within = omega (arith, H.within);
      }

  -- a block that comes lies in A
  pub hashing_reach : {S : List ℕ} {n : ℕ} {r : Run} (b S' : List ℕ) → Hashing K A S n r → (S ≡ b ++ S') × (length b ≡ n) → r.done + 1 ≤ length A / 16
  hashing_reach {S} {n} {r} b S' H (eS, eb) =
      let size : length A - r.done * 16 ≡ length b + length S' = sym (length-drop (r.done * 16) A) ∙ ap length (sym H.left ∙ eS) ∙ length-append b S' in
      omega (arith, H.sixteen, H.within)

  -- where less than a block is left, all whole blocks came
  pub hashing_all : {S : List ℕ} {n : ℕ} {r : Run} → Hashing K A S n r → length S < n → r ≡ hashed K A (length A / 16)
  hashing_all {S} {n} {r} H h =
      let size : length S ≡ length A - r.done * 16 = ap length H.left ∙ length-drop (r.done * 16) A in
      let all : r.done ≡ length A / 16 = omega (arith, H.sixteen, H.within) in
      H.run ∙ ap (hashed K A) all

last_hash_none : (K : Key) (O s S : List ℕ) → length S ≡ 0 → last_hash K O s S ≡ s
unfolding last_hash
last_hash_none K O s [] h = refl
last_hash_none K O s (x ∷ S) h = absurd (omega arith)

module _ {r : Run} (K : Key) (A : List ℕ) (done : r ≡ hashed K A (length A / 16)) where
  pub hash_whole : length A ≤ length A / 16 * 16 → r.sum ≡ HASH K A
  unfolding HASH wholes run_at
  hash_whole h =
      let n : ℕ = length A / 16 in
      cc (last_hash_none K (Offset K (zeros 16) n) (Sum (hash_block K) K (zeros 16) A n) (rest A) (omega (arith, rest_length A)))

  -- P is what stands behind the whole blocks
  pub hash_part : {z P : List ℕ} → P ≡ drop (length A - length A % 16) A → z ≡ last_hash K r.offset r.sum P → z ≡ HASH K A
  unfolding HASH wholes rest run_at
  hash_part {z} {P} eP ez =
      let place : length A - length A % 16 ≡ length A / 16 * 16 = omega arith in
      let lent : P ≡ rest A = eP ∙ ap (λ (i : ℕ). drop i A) place in
      cc
