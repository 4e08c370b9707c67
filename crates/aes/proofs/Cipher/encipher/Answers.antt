-- `aes::Cipher::encipher` meets its contract: its rounds on the block's state, with the tables that are lent.
-- Assumes nothing.
use mathlib.Core.Path.{sym, ap, ◌∙◌}
use borrow.Author.Rules.{rules}
use Rattle.sizes.proofs.KeyLaws.{rounds_within}
use Rattle.standards.specs.Fips197.{to_block, cipher, encipher}
use Rattle.aes.specs.Cipher.Body.{enc_is, enciphers_sbox}
use Rattle.aes.proofs.Cipher.encipher.Goals as goal

pub cipher-requires : goal.cipher-requires
cipher-requires c =
    let tables = enciphers_sbox c.args.self.now.forward.now c.args.self.now.enciphers in
    let within = rounds_within c.args.self.now.admitted in
    search rules

pub returns : goal.returns
unfolding encipher
returns c =
    let there = c.from_block.ensures in
    c.to_block.ensures ∙ ap to_block (c.cipher.ensures ∙ ap (cipher _ _) there) ∙ sym (enc_is _ _ _)
