-- `walk` meets its contract. The loop's invariant: i pairs of blocks are done. Assumes nothing.
use mathlib.Core.Path.{◌≡◌, subst, subst⁻¹}
use Prim.Native.Nat.{ℕ, ◌+◌, ◌-◌, ◌*◌, ◌/◌}
use native.Mathlib.Omega.{arith}
use lib.ListN.{length}
use Rattle.ocb_variables.specs.Held.{key_of}
use Rattle.ocb_steps.specs.declared.Run.{Run}
use Rattle.ocb_walk.proofs.WalkLaws.{Going, Done, done_none, done_one, done_two, done_length, lent_blocks, run_done, walked}
use Rattle.ocb_walk.proofs.text.walk.Goals as goal

pub loop-i-init : goal.loop-i-init
loop-i-init g c =
    let opens = g.W.Way.opens in
    let K = key_of c.args.k.now in
    let text = c.args.s.now in
    let none = subst⁻¹ (λ (r : Run). Done opens K c.args.o text text r 0) c.start-r.ensures (done_none opens K c.args.o text) in
    record { within = omega arith; long = omega arith; done = none }

pub loop-i-preserved : goal.loop-i-preserved
loop-i-preserved g c =
    let opens = g.W.Way.opens in
    let K = key_of c.args.k.now in
    let text = c.args.s.now in
    let l = c.loop-i in
    let p : ℕ = l.i * 32 in
    let D = done_two opens K c.args.o text (l.i * 2) p (p + 32 - p) (omega arith) l.invariant.done _ c.pair-r.auto.pair (omega arith) (omega arith) c.pair-r.ensures in
    let next : l.i * 2 + 2 ≡ (l.i + 1) * 2 = omega arith in
    subst (Going opens K c.args.o text _ _) next
    (record { within = omega arith; long = done_length opens K c.args.o text (l.i * 2 + 2) D (omega arith); done = D })

pub pair-r-requires : goal.pair-r-requires
pair-r-requires g c =
    let text = c.args.s.now in
    let l = c.loop-i in
    let done = run_done l.invariant.done in
    lent_blocks 2 (l.r.done + 1 + 1) (l.i * 2) (l.i * 32) text l.s c.requires l.invariant.long (omega arith) (omega arith) (omega (arith, done)) (omega arith)

pub one-r-requires : goal.one-r-requires
one-r-requires g c =
    let text = c.args.s.now in
    let l = c.loop-i in
    let done = run_done l.invariant.done in
    let p : ℕ = length text / 32 * 32 in
    lent_blocks 1 (l.r.done + 1) (l.i * 2) p text l.s c.requires l.invariant.long (omega arith) (omega arith) (omega (arith, done)) (omega arith)

pub returns-then-e-s : goal.returns-then-e-s
returns-then-e-s g c =
    let K = key_of c.args.k.now in
    let text = c.args.s.now in
    let l = c.loop-i in
    let p : ℕ = length text / 32 * 32 in
    walked text (l.i * 2 + 1) (omega arith)
    (done_one g.W.Way.opens K c.args.o text (l.i * 2) p (p + 16 - p) (omega arith) l.invariant.done _ c.one-r.auto.one (omega arith) (omega arith) c.one-r.ensures)

pub returns-else-e-s : goal.returns-else-e-s
returns-else-e-s g c = walked c.args.s.now (c.loop-i.i * 2) (omega arith) c.loop-i.invariant.done
