-- `Halves::doubled` meets its contract: the bit carried is the low word's top bit, the bit lost the high word's. Assumes nothing.
use mathlib.Core.Path.{◌≡◌, sym, ap₂, ◌∙◌}
use mathlib.Core.List.{◌++◌}
use Prim.Native.Nat.{ℕ, ◌*◌, ◌/◌, ◌%◌, ◌^◌}
use native.Mathlib.Omega.{arith}
use borrow.Author.Rules.{rules}
use lib.Bits.{bit_or}
use Rattle.standards.specs.Strings.{◌⊕◌, to_bytes}
use Rattle.block.specs.declared.Halves.{Halves}
use Rattle.block.proofs.DoubleLaws.{double_words}
use Rattle.block.proofs.Halves.doubled.Goals as goal

pub returns : goal.returns
unfolding ◌⊕◌
returns c =
    let x : Halves = c.args.self in
    let carried = c.top_bit-carried in
    let lost = c.top_bit-lost in
    let low-top : carried.result ≡ x.low / 2 ^ 63 = omega (arith, carried.ensures) in
    let high-top : lost.result ≡ x.high / 2 ^ 63 = omega (arith, lost.ensures) in
    ap₂ (λ (a b : ℕ). to_bytes 8 (bit_or (x.high * 2 % 2 ^ 64) a) ++ to_bytes 8 (x.low * 2 % 2 ^ 64 ⊕ b * 0x87)) low-top high-top
    ∙ sym (double_words x.high x.low (search rules) (search rules))
