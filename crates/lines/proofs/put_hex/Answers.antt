-- `lines::put_hex` meets its contract. The loop's invariant: the first `i` bytes of `s` stand in hex over `out` from place `at` on. Assumes nothing.
use mathlib.Core.Path.{◌≡◌, ap, ◌∙◌}
use mathlib.Core.List.{List}
use Prim.Native.Nat.{ℕ}
use native.Mathlib.Omega.{arith}
use lib.ListN.{length, take}
use lib.Seq.{paste-zero, take-length}
use Rattle.lines.specs.Text.{hex, over}
use Rattle.lines.proofs.Over.{hex_length, hex_turn}
use Rattle.lines.proofs.put_hex.Goals as goal

pub loop-i-init : goal.loop-i-init
unfolding hex
loop-i-init c = let a = c.args in paste-zero a.out.now a.at a.s.now

pub loop-i-preserved : goal.loop-i-preserved
loop-i-preserved c =
    let l = c.loop-i in
    let a = c.args in
    hex_turn a.out.now a.at a.s.now l.i c.loop-i-test.true (omega arith) l.auto.out l.invariant c.glyph.ensures c.glyph-in-loop-i.ensures

pub returns : goal.returns
returns c =
    let l = c.loop-i in
    let a = c.args in
    let S : List ℕ = a.s.now in
    let e : l.i ≡ length S = omega arith in
    record {
      next-is = omega (arith, hex_length S);
      left = l.invariant ∙ ap (λ (x : List ℕ). over a.out.now a.at (hex x)) (ap (λ (k : ℕ). take k S) e ∙ take-length S);
    }
