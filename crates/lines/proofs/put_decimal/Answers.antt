-- `lines::put_decimal` meets its contract: the digits that `io::decimal` gives are the definition's. Assumes nothing.
use mathlib.Core.Path.{subst, ◌∙◌}
use mathlib.Core.List.{List}
use Prim.Native.Nat.{ℕ}
use native.Mathlib.Omega.{arith}
use Rattle.lines.specs.Text.{Puts}
use Rattle.lines.proofs.Decimal.{decimal_is, twenty}
use Rattle.lines.proofs.put_decimal.Goals as goal

pub put-requires : goal.put-requires
put-requires c =
    let d = c.decimal-k in
    omega (arith, d.ensures.in_bounds.1, twenty c.args.n d.result (omega arith) d.ensures.len)

pub returns : goal.returns
returns c =
    let d = c.decimal-k in
    let n = c.args.n in
    let e = d.ensures.digits ∙ decimal_is d.result 20 n (twenty n d.result (omega arith) d.ensures.len) d.ensures.len in
    subst (λ (x : List ℕ). Puts c.args.out.now c.args.at x c.put.result c.put.new.out) e c.put.ensures
