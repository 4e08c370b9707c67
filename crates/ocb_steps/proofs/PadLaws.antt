-- The padding of a part: it is copied over the front of zeros, and marked behind. Assumes nothing.
use mathlib.Core.Path.{◌≡◌, refl, ap, ◌∙◌}
use mathlib.Core.List.{List, ◌∷◌, ◌++◌}
use Prim.Native.Nat.{ℕ, suc, ◌<◌}
use native.Mathlib.Nat.{suc-sub-suc}
use native.Mathlib.Omega.{arith}
use lib.ListN.{length, take, drop, set, get_or}
use lib.Seq.{take_all, drop-cons, set_at}
use Rattle.standards.specs.Strings.{zeros}
use Rattle.standards.specs.Rfc7253.{padded}
use Rattle.block.proofs.StringLaws.{drop_zeros}

pub pad_made : (p r : List ℕ) → length p < 16 → r ≡ take 16 p ++ drop (length p) (zeros 16) → set r (length p) 0x80 ≡ padded p
unfolding padded
pad_made p r h e =
    let n : ℕ = length p in
    let hz : length p < length (zeros 16) = h in
    ap (λ (x : List ℕ). set x n 0x80) e
    ∙ ap (λ (x : List ℕ). set (x ++ drop n (zeros 16)) n 0x80) (take_all 16 p (omega arith))
    ∙ ap (λ (x : List ℕ). set (p ++ x) n 0x80) (drop-cons (zeros 16) n 0 hz)
    ∙ set_at p (get_or (zeros 16) n 0) (drop (suc n) (zeros 16)) 0x80 n refl
    ∙ ap (λ (x : List ℕ). p ++ (0x80 ∷ x)) (drop_zeros (suc n) 16)
    ∙ ap (λ (x : ℕ). p ++ (0x80 ∷ zeros x)) (suc-sub-suc 15 n)
