use Rattle.ocb_variables.specs.Held.{key_of}
use Rattle.ocb_walk.proofs.HashLaws.{Hashing}
use Rattle.ocb_walk.proofs.hash.hash.Given as goal

abbrev pub invariant-loop-block : goal.invariant-loop-block
invariant-loop-block l = Hashing (key_of l.k) l.ad l.block-iterator.rest.now l.block-iterator.size l.r
