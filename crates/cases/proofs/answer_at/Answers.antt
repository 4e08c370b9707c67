-- `cases::answer_at` meets its contract: text and tag are copied to the front of their buffers and changed there. Assumes nothing.
use mathlib.Core.List.{List}
use Prim.Native.Nat.{ℕ, ◌-◌}
use native.Mathlib.Omega.{arith}
use Rattle.cases.specs.Places.{case_at}
use Rattle.cases.proofs.Laid.{body_length, lays}
use Rattle.cases.proofs.answer_at.Goals as goal

pub returns : goal.returns
returns c =
    let S : List ℕ = c.args.case.now in
    let t = c.args.t in
    lays (case_at S t) c.args.text.now c.args.tag.now
    c.put.ensures.left (body_length S t.text (t.tag - t.text) (omega arith))
    c.put-2.ensures.left (body_length S t.tag (t.end - t.tag) (omega arith))
    c.work.ensures
