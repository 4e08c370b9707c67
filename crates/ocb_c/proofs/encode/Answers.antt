-- `encode` meets its contract: its six parts are written one behind the other. Assumes nothing.
use mathlib.Core.Path.{refl}
use borrow.Author.Rules.{rules}
use Rattle.ocb_c.proofs.BufferLaws.{Sizes, encode_made}
use Rattle.ocb_c.proofs.encode.Goals as goal

pub returns : goal.returns
returns c =
    -- the sizes that the types say
    let sizes : Sizes c.args.s = record { keys = search rules; rounds = search rules; star = search rules; dollar = search rules; m = search rules; table = search rules } in
    encode_made c.args.s sizes c.args.buffer.now c.requires
    c.copy_at.ensures c.store_be64.ensures refl c.store.ensures c.store-2.ensures
    c.store_be64-2.ensures refl c.copy_at-2.ensures
