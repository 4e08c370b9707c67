-- `aes::expand_key` meets its contract: the words of the key's rounds are written over the front of zeros.
-- Assumes nothing.
use native.Mathlib.Omega.{arith}
use Rattle.aes.proofs.Expansion.{round_keys_made}
use Rattle.aes.proofs.expand_key.Goals as goal

pub returns : goal.returns
returns c =
    round_keys_made c.args.key.now (omega (arith, c.rounds_for.ensures)) c.expand.ensures
