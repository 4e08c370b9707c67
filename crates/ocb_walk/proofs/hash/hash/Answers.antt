-- `hash` meets its contract. The loop's invariant: the run is that of the blocks that came, and the rest are still to come. Assumes nothing.
use mathlib.Core.Path.{◌≡◌, sym, ap, ◌∙◌}
use Prim.Native.Nat.{◌+◌, ◌%◌}
use native.Mathlib.Omega.{arith}
use borrow.Author.Tests.{eqb-true}
use lib.ListN.{length}
use Rattle.ocb_laws.proofs.TableLaws.{fits_reach}
use Rattle.ocb_variables.specs.Held.{key_of}
use Rattle.ocb_walk.proofs.HashLaws.{hashing_none, hashing_more, hashing_reach, hashing_all, hash_whole, hash_part}
use Rattle.ocb_walk.proofs.hash.hash.Goals as goal

pub loop-block-init : goal.loop-block-init
loop-block-init c =
    let blocks = c.chunks_exact-blocks.ensures in
    let all = c.into_iter-block-iterator.ensures.into_iter_gives in
    hashing_none (key_of c.args.k.now) c.args.ad.now (ap (λ it. it.rest.now) all ∙ blocks.rest) (ap (λ it. it.size) all ∙ blocks.size) c.start-r.ensures

pub hash_one-r-requires : goal.hash_one-r-requires
hash_one-r-requires c =
    let l = c.loop-block in
    let steps = c.in-Some.ensures.steps in
    fits_reach c.requires (l.r.done + 1) (omega arith) (hashing_reach (key_of c.args.k.now) c.args.ad.now c.in-Some.block.now _ l.invariant steps.1)

pub loop-block-preserved : goal.loop-block-preserved
loop-block-preserved c =
    let steps = c.in-Some.ensures.steps in
    hashing_more (key_of c.args.k.now) c.args.ad.now c.in-Some.block.now c.loop-block.invariant steps.0 steps.1 c.load.ensures c.hash_one-r.ensures

pub returns-then-is_empty : goal.returns-then-is_empty
returns-then-is_empty c =
    let K = key_of c.args.k.now in
    let A = c.args.ad.now in
    let part = c.remainder-part.result.now in
    let none : length part ≡ 0 = eqb-true (length part) 0 (sym c.is_empty.ensures ∙ c.if-is_empty.true) in
    let left : length part ≡ length A % 16 = ap length c.remainder-part.ensures ∙ c.chunks_exact-blocks.ensures.remainder_len in
    hash_whole K A (hashing_all K A c.loop-block.invariant c.in-None.ensures.steps.1.0) (omega arith)

pub returns : goal.returns
returns c =
    let K = key_of c.args.k.now in
    let A = c.args.ad.now in
    hash_part K A (hashing_all K A c.loop-block.invariant c.in-None.ensures.steps.1.0) (c.remainder-part.ensures ∙ c.chunks_exact-blocks.ensures.remainder) c.hash_last.ensures
