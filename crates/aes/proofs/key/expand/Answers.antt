-- `aes::key::expand` meets its contract: first the key is copied, then each turn adds a word. Words before i are not written again.
-- Assumes nothing.
use mathlib.Core.Path.{◌≡◌, sym, ◌∙◌}
use mathlib.Core.List.{List}
use Prim.Native.Nat.{ℕ, ◌*◌, ◌≤◌}
use native.Mathlib.Omega.{arith}
use lib.ListN.{length, drop}
use lib.Seq.{take_all}
use Rattle.aes.proofs.KeyLaws.{key_copied, key_turn}
use Rattle.aes.proofs.key.expand.Goals as goal

pub loop-i-init : goal.loop-i-init
loop-i-init c =
    let sizes = c.requires in
    let key : List ℕ = c.args.key.now in
    let w : List ℕ = c.args.w.now in
    let fits : 4 * c.args.nk ≤ length w = omega (arith, sizes.room, sizes.longer) in
    key_copied c.args.nk (length w) key _ (drop (length key) w) sizes.key_size fits c.copy.ensures

pub loop-i-preserved : goal.loop-i-preserved
loop-i-preserved c =
    let l = c.loop-i in
    let sizes = c.requires in
    key_turn _ _ l.i l.w _ _ sizes.some l.auto.i l.invariant c.next_word-v.ensures c.put_word.ensures

pub returns : goal.returns
returns c =
    let l = c.loop-i in
    let sizes = c.requires in
    let e : l.i ≡ c.args.n = omega (arith, sizes.longer) in
    let f : length l.w ≤ 4 * c.args.n = omega (arith, l.auto.w, sizes.room) in
    sym (take_all _ _ f) ∙ rw e at l.invariant
