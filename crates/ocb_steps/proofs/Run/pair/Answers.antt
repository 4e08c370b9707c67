-- `Run::pair` meets its contract: one block and one more. Assumes nothing.
use mathlib.Core.Path.{◌≡◌, ◌∙◌}
use Prim.Native.Nat.{◌+◌}
use native.Mathlib.Omega.{arith}
use Rattle.ocb_variables.specs.Held.{key_of}
use Rattle.ocb_steps.proofs.StepLaws.{two_made, one_done}
use Rattle.ocb_steps.proofs.Run.pair.Goals as goal

pub one-requires : goal.one-requires
one-requires g c =
    let halves = c.split_at_mut-first.ensures in
    (record { filled = c.requires.0.filled; counted = omega arith; early = omega (arith, c.requires.0.early) }, halves.front_len)

pub one-requires-2 : goal.one-requires-2
one-requires-2 g c =
    let halves = c.split_at_mut-first.ensures in
    let next : c.one.result.done ≡ c.args.self.done + 1 = one_done g.W.Way.opens (key_of c.args.k.now) c.one.ensures in
    (record { filled = c.requires.0.filled; counted = omega arith; early = omega (arith, c.requires.0.early) }, omega (arith, halves.back_len, c.requires.1))

pub returns : goal.returns
returns g c =
    let halves = c.split_at_mut-first.ensures in
    two_made g.W.Way.opens (key_of c.args.k.now) c.requires.1 halves.front halves.back (c.one.auto.one ∙ halves.front_len) c.one.ensures c.one-2.ensures
