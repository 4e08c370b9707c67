-- What holds of a text and a run after i blocks of the walk, and how one block and a pair take it on: stated once for both ways.
-- Assumes nothing.
use mathlib.Core.Path.{◌≡◌, refl, sym, ap, ap₂, ◌∙◌, subst, subst₂}
use mathlib.Core.Bool.{Bool}
use mathlib.Core.List.{List, ◌++◌, append_assoc}
use Prim.Native.Nat.{ℕ, ◌+◌, ◌*◌, ◌-◌, ◌/◌, ◌<◌, ◌≤◌}
use native.Mathlib.Numerals.{add-one}
use native.Mathlib.Omega.{arith}
use lib.ListN.{length, take, drop, length-append, length-drop}
use lib.Seq.{take_at, drop_at, take-take, drop-drop, length-take-le}
use Rattle.block.proofs.StringLaws.{drop-take}
use Rattle.standards.specs.Strings.{◌xor◌, zeros}
use Rattle.standards.specs.Rfc7253.{Key, ntz, wholes, block_at, rest, Offset, Blocks, Sum}
use Rattle.ocb_numbers.specs.Numbers.{Fits, InTable}
use Rattle.ocb_laws.proofs.TableLaws.{fits_reach}
use Rattle.ocb_steps.specs.declared.Run.{Run}
use Rattle.ocb_steps.specs.Steps.{turned, summed, next_offset, after, One, Two}
use Rattle.ocb_walk.specs.Walked.{run_at, Walked}

-- the text T when the k places that were lent from place p on have become y
abbrev pub written : List ℕ → ℕ → ℕ → List ℕ → List ℕ
written T p k y = take p T ++ (y ++ drop k (drop p T))

-- ---- the definitions at i + 1, as the code counts

offset_more : (K : Key) (O : List ℕ) (i : ℕ) → Offset K O (i + 1) ≡ Offset K O i xor K.L (ntz (i + 1))
unfolding Offset
offset_more K O i = subst (λ (n : ℕ). Offset K O n ≡ Offset K O i xor K.L (ntz n)) (sym (add-one i)) refl

blocks_more : (f : List ℕ → List ℕ → List ℕ) (K : Key) (O S : List ℕ) (i : ℕ)
    → Blocks f K O S (i + 1) ≡ Blocks f K O S i ++ f (Offset K O (i + 1)) (block_at S i)
unfolding Blocks
blocks_more f K O S i =
    subst (λ (n : ℕ). Blocks f K O S n ≡ Blocks f K O S i ++ f (Offset K O n) (block_at S i)) (sym (add-one i)) refl

sum_more : (g : List ℕ → List ℕ → List ℕ) (K : Key) (O S : List ℕ) (i : ℕ)
    → Sum g K O S (i + 1) ≡ Sum g K O S i xor g (Offset K O (i + 1)) (block_at S i)
unfolding Sum
sum_more g K O S i =
    subst (λ (n : ℕ). Sum g K O S n ≡ Sum g K O S i xor g (Offset K O n) (block_at S i)) (sym (add-one i)) refl

next_at : (g : List ℕ → List ℕ → List ℕ) (K : Key) (O S : List ℕ) (i : ℕ) → next_offset K (run_at g K O S i) ≡ Offset K O (i + 1)
unfolding next_offset run_at
next_at g K O S i = sym (offset_more K O i)

-- the run goes on block by block
pub run_more : (g : List ℕ → List ℕ → List ℕ) (K : Key) (O S : List ℕ) (i : ℕ) → after g K (block_at S i) (run_at g K O S i) ≡ run_at g K O S (i + 1)
unfolding after run_at
run_more g K O S i = let e = next_at g K O S i in let s = sum_more g K O S i in cc

pub run_none : (g : List ℕ → List ℕ → List ℕ) (K : Key) (O S : List ℕ) → ◌≡◌ {A = Run} (record { done = 0; offset = O; sum = zeros 16 }) (run_at g K O S 0)
unfolding run_at Offset Sum
run_none g K O S = refl

-- ---- blocks done

-- T is S after i blocks
pub record Done (opens : Bool) (K : Key) (O S T : List ℕ) (r : Run) (i : ℕ) : Type 0 where
  pub run : r ≡ run_at (summed opens K) K O S i
  pub text : T ≡ Blocks (turned opens K) K O S i ++ drop (i * 16) S
  pub size : length (Blocks (turned opens K) K O S i) ≡ i * 16

module _ (opens : Bool) (K : Key) (O S : List ℕ) where
  -- what the first i blocks have become, and what block i becomes after a run r
  abbrev made : ℕ → List ℕ
  made = Blocks (turned opens K) K O S

  abbrev next : Run → List ℕ → List ℕ
  next r b = turned opens K (next_offset K r) b

  pub done_none : Done opens K O S S (record { done = 0; offset = O; sum = zeros 16 }) 0
  unfolding Blocks
  done_none = record { run = run_none (summed opens K) K O S; text = refl; size = refl }

  done_drop : {T : List ℕ} {r : Run} (i : ℕ) → Done opens K O S T r i → drop (i * 16) T ≡ drop (i * 16) S
  done_drop i D = ap (drop (i * 16)) D.text ∙ drop_at (made i) (drop (i * 16) S) (i * 16) D.size

  done_take : {T : List ℕ} {r : Run} (i : ℕ) → Done opens K O S T r i → take (i * 16) T ≡ made i
  done_take i D = ap (take (i * 16)) D.text ∙ take_at (made i) (drop (i * 16) S) (i * 16) D.size

  pub done_length : {T : List ℕ} {r : Run} (i : ℕ) → Done opens K O S T r i → i * 16 ≤ length S → length T ≡ length S
  done_length i D h = ap length D.text ∙ simp (length-append, length-drop) (omega (arith, D.size))

  grown : {T y : List ℕ} {r : Run} (i : ℕ) → Done opens K O S T r i → y ≡ next r (block_at S i) → made (i + 1) ≡ made i ++ y
  grown i D ey =
      let at : next_offset K _ ≡ Offset K O (i + 1) = ap (next_offset K) D.run ∙ next_at (summed opens K) K O S i in
      blocks_more (turned opens K) K O S i
      ∙ ap (λ (x : List ℕ). made i ++ x) (ap (λ (o : List ℕ). turned opens K o (block_at S i)) (sym at) ∙ sym ey)

  -- one block more, of which y is made
  more : {T y : List ℕ} {r r' : Run} (i : ℕ) → Done opens K O S T r i → length y ≡ 16 → y ≡ next r (block_at S i)
      → r' ≡ after (summed opens K) K (block_at S i) r → Done opens K O S (made i ++ (y ++ drop ((i + 1) * 16) S)) r' (i + 1)
  more {y = y} i D h ey er =
      let b : made (i + 1) ≡ made i ++ y = grown i D ey in
      record {
        run = er ∙ ap (after (summed opens K) K (block_at S i)) D.run ∙ run_more (summed opens K) K O S i;
        text = sym (append_assoc (made i) y (drop ((i + 1) * 16) S)) ∙ ap (λ (x : List ℕ). x ++ drop ((i + 1) * 16) S) (sym b);
        size = ap length b ∙ length-append (made i) y ∙ omega (arith, D.size);
      }

  -- k places are lent from block i on, at place p, and become y
  module _ {T : List ℕ} {r : Run} (i p k : ℕ) (place : p ≡ i * 16) (D : Done opens K O S T r i) (y : List ℕ) (kept : length y ≡ length (take k (drop p T))) where
    front : take p T ≡ made i
    front = ap (λ (x : ℕ). take x T) place ∙ done_take i D

    onward : drop p T ≡ drop (i * 16) S
    onward = ap (λ (x : ℕ). drop x T) place ∙ done_drop i D

    behind : (j : ℕ) → i * 16 + k ≡ j → drop k (drop p T) ≡ drop j S
    behind j e = ap (drop k) onward ∙ drop-drop k (i * 16) S ∙ ap (λ (x : ℕ). drop x S) e

    pub done_one : {r' : Run} → i * 16 + 16 ≤ length S → k ≡ 16 → One opens K (take k (drop p T)) r y r' → Done opens K O S (written T p k y) r' (i + 1)
    unfolding block_at
    done_one {r'} h ek one =
        let lent : take k (drop p T) ≡ block_at S i = ap₂ (λ (x : ℕ) (l : List ℕ). take x l) ek onward in
        let size : length y ≡ 16 = kept ∙ ap length lent ∙ length-take-le 16 (drop (i * 16) S) (omega (arith, length-drop (i * 16) S)) in
        subst (λ (x : List ℕ). Done opens K O S x r' (i + 1))
        (sym (ap₂ (λ (x z : List ℕ). x ++ (y ++ z)) front (behind ((i + 1) * 16) (omega arith))))
        (more i D size (one.text ∙ ap (next r) lent) (one.run ∙ ap (λ (b : List ℕ). after (summed opens K) K b r) lent))

    -- a pair is one block more and one block more: c and d are what its halves become, r₁ is the run between them
    pub done_two : {r' : Run} → i * 16 + 32 ≤ length S → k ≡ 32 → Two opens K (take k (drop p T)) r y r' → Done opens K O S (written T p k y) r' (i + 2)
    unfolding block_at
    done_two {r'} h ek two =
        let pair : List ℕ = take k (drop p T) in
        let lent : pair ≡ take (16 + 16) (drop (i * 16) S) = ap₂ (λ (x : ℕ) (l : List ℕ). take x l) ek onward in
        let size : length y ≡ 32 = kept ∙ ap length lent ∙ length-take-le 32 (drop (i * 16) S) (omega (arith, length-drop (i * 16) S)) in
        let b₁ : block_at pair 0 ≡ block_at S i = ap (take 16) lent ∙ take-take 16 32 (drop (i * 16) S) (omega arith) in
        let next_place : i * 16 + 16 ≡ (i + 1) * 16 = omega arith in
        let b₂ : block_at pair 1 ≡ block_at S (i + 1) =
        ap (λ (x : List ℕ). take 16 (drop 16 x)) lent
        ∙ ap (take 16) (drop-take 16 16 (drop (i * 16) S))
        ∙ take-take 16 16 (drop 16 (drop (i * 16) S)) (omega arith)
        ∙ ap (take 16) (drop-drop 16 (i * 16) S ∙ ap (λ (x : ℕ). drop x S) next_place) in
        let r₁ : Run = after (summed opens K) K (block_at pair 0) r in
        let c : List ℕ = next r (block_at pair 0) in
        let d : List ℕ = next r₁ (block_at pair 1) in
        let halves : length c + length d ≡ 32 = sym (length-append c d) ∙ ap length (sym two.text) ∙ size in
        let D₁ = more i D two.half (ap (next r) b₁) (ap (λ (b : List ℕ). after (summed opens K) K b r) b₁) in
        let D₂ = more (i + 1) D₁ (omega (arith, two.half)) (ap (next r₁) b₂) (two.run ∙ ap (λ (b : List ℕ). after (summed opens K) K b r₁) b₂) in
        let end : List ℕ = drop ((i + 1 + 1) * 16) S in
        let joined : made (i + 1) ++ (d ++ end) ≡ written T p k y =
        ap (λ (x : List ℕ). x ++ (d ++ end)) (grown i D (ap (next r) b₁))
        ∙ append_assoc (made i) c (d ++ end)
        ∙ ap₂ (λ (x z : List ℕ). x ++ z) (sym front)
        (sym (append_assoc c d end) ∙ ap₂ (λ (x z : List ℕ). x ++ z) (sym two.text) (sym (behind ((i + 1 + 1) * 16) (omega arith)))) in
        subst₂ (λ (x : List ℕ) (j : ℕ). Done opens K O S x r' j) joined (omega arith) D₂

-- ---- the loop

pub record Going (opens : Bool) (K : Key) (O S T : List ℕ) (r : Run) (i : ℕ) : Type 0 where
  pub within : i ≤ length S / 16
  pub long : length T ≡ length S
  pub done : Done opens K O S T r i

-- b blocks that are lent from block i on, at place p, lie in the text, and the L values up to theirs in the table
pub lent_blocks : {m : ℕ} (b j i p : ℕ) (S T : List ℕ) → Fits m (length S) → length T ≡ length S → 0 < b → i + b ≤ length S / 16 → j ≡ i + b → p ≡ i * 16
    → InTable m j × (length (take (p + b * 16 - p) (drop p T)) ≡ b * 16)
lent_blocks b j i p S T f e some l ej ep = (
  fits_reach f j (omega arith) (omega arith),
  length-take-le (p + b * 16 - p) (drop p T) (omega (arith, length-drop p T)) ∙ omega arith,
)

pub run_done : {opens : Bool} {K : Key} {O S T : List ℕ} {r : Run} {i : ℕ} → Done opens K O S T r i → r.done ≡ i
unfolding run_at
run_done D = ap (λ (z : Run). z.done) D.run

-- all whole blocks are done
pub walked : {opens : Bool} {K : Key} {O T : List ℕ} {r : Run} (S : List ℕ) (i : ℕ) → i ≡ length S / 16 → Done opens K O S T r i → Walked opens K O S T r
unfolding wholes rest
walked {opens} {K} {O} {T} {r} S i e D = let D' = subst (Done opens K O S T r) e D in record { run = D'.run; text = D'.text }
