-- `aes_vectors::expand` is safe and gives an admitted number of rounds: the key's length was asked for. Assumes nothing.
use Rattle.std.specs.Prelude.{Result, Ok, Err, is_err}
use mathlib.Core.Bool.{false}
use mathlib.Core.Path.{◌≡◌, refl, sym, subst⁻¹, ◌∙◌}
use Prim.Native.Nat.{ℕ, ◌≤◌}
use native.Mathlib.Omega.{arith}
use borrow.Author.Rules.{rules}
use lib.ListN.{length}
use lib.Seq.{length-take-le}
use Rattle.sizes.specs.Sizes.{KeyLength, Rounds}
use Rattle.sizes.proofs.KeyLaws.{key_words, rounds_for_lem}
use Rattle.ocb_numbers.specs.declared.Refusal.{Refusal}
use Rattle.ocb_numbers.specs.Numbers.{outcome_number, set_up_number}
use Rattle.ocb_numbers.proofs.Refusals.{set_up_sizes}
use Rattle.aes_vectors.proofs.expand.Goals as goal

-- What is not refused is a key's length,
admitted : (n : ℕ) (r : Result Unit Refusal) → outcome_number r ≡ set_up_number n 1 → is_err r ≡ false → KeyLength n
admitted n (Ok _) by none = (set_up_sizes n 1 (sym by)).0
admitted n (Err e) by none = cc

-- and so at most the longest key's.
in_place : (n : ℕ) → KeyLength n → n ≤ 32
in_place n k = let words = key_words k in omega arith

pub returns-then-is_err : goal.returns-then-is_err
returns-then-is_err c = record { admitted = refl }

pub slice_bounds-bytes-end : goal.slice_bounds-bytes-end
slice_bounds-bytes-end c =
    let most = in_place _ (admitted c.args.key.length _ c.refuse_set_up.ensures (sym c.is_err.ensures.value ∙ c.if-is_err.false)) in
    let place : length c.args.key.bytes ≡ 32 = search rules in
    omega arith

pub slice_bounds-expand_key-end : goal.slice_bounds-expand_key-end
slice_bounds-expand_key-end c =
    let most = in_place _ (admitted c.args.key.length _ c.refuse_set_up.ensures (sym c.is_err.ensures.value ∙ c.if-is_err.false)) in
    let place : length c.args.key.bytes ≡ 32 = search rules in
    sym (length-take-le _ _ (omega arith))

pub expand_key-requires : goal.expand_key-requires
expand_key-requires c =
    let long = admitted c.args.key.length _ c.refuse_set_up.ensures (sym c.is_err.ensures.value ∙ c.if-is_err.false) in
    let most = in_place _ long in
    let place : length c.args.key.bytes ≡ 32 = search rules in
    subst⁻¹ KeyLength (length-take-le _ _ (omega arith)) long

pub returns : goal.returns
returns c =
    subst⁻¹ Rounds c.rounds_for.ensures
    (rounds_for_lem (admitted c.args.key.length _ c.refuse_set_up.ensures (sym c.is_err.ensures.value ∙ c.if-is_err.false)))
