-- The words of a block: it is the bytes of its first eight bytes' number and of its last eight's. Assumes nothing.
use mathlib.Core.Path.{◌≡◌, sym, ap, ap₂, ◌∙◌}
use mathlib.Core.List.{List, ◌++◌}
use Prim.Native.Nat.{ℕ, ◌+◌, ◌≤◌}
use native.Mathlib.Omega.{arith}
use lib.Dec.{lit<}
use lib.ListN.{length, take, drop, length-drop}
use lib.Seq.{take-add, take_all, length-take-le}
use Rattle.standards.specs.Strings.{num, to_bytes, Bytes, Block}
use Rattle.block.proofs.NumberLaws.{digits_number}
use Rattle.block.proofs.StringLaws.{bytes_take, bytes_drop}
use Rattle.block.proofs.Owned.{owned_block}
use Rattle.block.proofs.HalvesFromBlock.from.Goals as goal

-- eight bytes are those of their number
word : (b : List ℕ) (at : ℕ) → at + 8 ≤ length b → Bytes b → to_bytes 8 (num (take 8 (drop at b))) ≡ take 8 (drop at b)
word b at h hb =
    let S : List ℕ = take 8 (drop at b) in
    let e : length S ≡ 8 = length-take-le 8 (drop at b) (omega (arith, length-drop at b)) in
    ap (λ (k : ℕ). to_bytes k (num S)) (sym e) ∙ digits_number 256 (lit< tt) S (bytes_take 8 (drop at b) (bytes_drop at b hb))

both : (b : List ℕ) → Block b → to_bytes 8 (num (take 8 (drop 0 b))) ++ to_bytes 8 (num (take 8 (drop 8 b))) ≡ b
both b h =
    ap₂ (λ (S T : List ℕ). S ++ T) (word b 0 (omega (arith, h.size)) h.bytes) (word b 8 (omega (arith, h.size)) h.bytes)
    ∙ sym (take-add 8 8 b)
    ∙ take_all 16 b (omega (arith, h.size))

pub returns : goal.returns
returns c =
    let low = c.load_be64-2 in
    let high = c.load_be64 in
    ap₂ (λ (a b : ℕ). to_bytes 8 a ++ to_bytes 8 b) high.ensures low.ensures ∙ both c.args.b (owned_block c.args.b _ c.well_formed.0)
