-- `aes::Cipher::decipher` meets its contract: its rounds on the block's state, with the tables that are lent.
-- Assumes nothing.
use mathlib.Core.Path.{sym, ap, ◌∙◌}
use borrow.Author.Rules.{rules}
use Rattle.sizes.proofs.KeyLaws.{rounds_within}
use Rattle.standards.specs.Fips197.{to_block, inv_cipher, decipher}
use Rattle.aes.specs.Cipher.Body.{dec_is, deciphers_inv_sbox}
use Rattle.aes.proofs.Cipher.decipher.Goals as goal

pub inv_cipher-requires : goal.inv_cipher-requires
inv_cipher-requires c =
    let tables = deciphers_inv_sbox c.args.self.now.backward.now c.args.self.now.deciphers in
    let within = rounds_within c.args.self.now.admitted in
    search rules

pub returns : goal.returns
unfolding decipher
returns c =
    let there = c.from_block.ensures in
    c.to_block.ensures ∙ ap to_block (c.inv_cipher.ensures ∙ ap (inv_cipher _ _) there) ∙ sym (dec_is _ _ _)
