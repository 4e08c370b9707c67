-- A refusal has a number that is not 0. Assumes nothing.
use mathlib.Core.Path.{◌≡◌, refl, sym, ap, ◌∙◌}
use mathlib.Core.Bool.{cond}
use Prim.Native.Nat.{ℕ}
use native.Mathlib.Omega.{arith}
use lib.Dec.{eqb}
use Rattle.ocb_numbers.specs.declared.Refusal.TheVariants.{Key, State, Nonce, Tag, Text, Data, WrongTag}
use Rattle.ocb_numbers.proofs.Refusals as sizes
use Rattle.spill_form.specs.declared.Refusal.{Refusal}
use Rattle.spill_form.specs.declared.Refusal.TheVariants.{OutputLength, Table, Flawed, Behind, OtherTenant, NoRow, NonceUsed, Full, NoTenant, Sizes}
use Rattle.spill_form.specs.Numbers.{number_of}

pub numbered_from_1 : (r : Refusal) → number_of r ≡ 0 → ⊥
numbered_from_1 OutputLength e = omega arith
numbered_from_1 Table e = omega arith
numbered_from_1 Flawed e = omega arith
numbered_from_1 Behind e = omega arith
numbered_from_1 OtherTenant e = omega arith
numbered_from_1 NoRow e = omega arith
numbered_from_1 NonceUsed e = omega arith
numbered_from_1 Full e = omega arith
numbered_from_1 NoTenant e = omega arith
numbered_from_1 (Sizes r) e = sizes.numbered_from_1 r e

-- and no other refusal has it
refusal_by : ℕ → Refusal
refusal_by n =
    cond (eqb n 9) OutputLength (cond (eqb n 10) Table (cond (eqb n 11) Flawed (cond (eqb n 12) Behind (cond (eqb n 13) OtherTenant
    (cond (eqb n 14) NoRow (cond (eqb n 15) NonceUsed (cond (eqb n 16) Full (cond (eqb n 17) NoTenant (Sizes (sizes.refusal_by n))))))))))

by_number : (r : Refusal) → refusal_by (number_of r) ≡ r
unfolding refusal_by
by_number OutputLength = refl
by_number Table = refl
by_number Flawed = refl
by_number Behind = refl
by_number OtherTenant = refl
by_number NoRow = refl
by_number NonceUsed = refl
by_number Full = refl
by_number NoTenant = refl
by_number (Sizes Key) = refl
by_number (Sizes State) = refl
by_number (Sizes Nonce) = refl
by_number (Sizes Tag) = refl
by_number (Sizes Text) = refl
by_number (Sizes Data) = refl
by_number (Sizes WrongTag) = refl

pub number_single : (r s : Refusal) → number_of r ≡ number_of s → r ≡ s
number_single r s e = sym (by_number r) ∙ ap refusal_by e ∙ by_number s
