-- What depends on the nonce (RFC 7253, section 4.2), under the cipher E of a key. t is the tag's length in bytes.
use Rattle.std.specs.Prelude.{List, ℕ, ◌+◌, ◌-◌, ◌*◌, ◌/◌, ◌%◌, ◌^◌}
use Rattle.standards.specs.InBytes.{nonce_block, bottom_of, top_of, stretch_of}
use Rattle.ocb_numbers.specs.Numbers.{NonceSize, TagSize}
use Rattle.ocb_variables.specs.declared.NonceVariables.{NonceVariables}

-- the lengths of nonce and tag that are admitted
pub record Admitted (n t : ℕ) : Type 0 where
  pub nonce_size : NonceSize n
  pub tag_size : TagSize t

-- bottom, and the Stretch of Ktop
unfoldable pub variables_of : (List ℕ → List ℕ) → ℕ → List ℕ → NonceVariables
variables_of E t N = record {
  bottom = bottom_of (nonce_block t N);
  stretch = stretch_of (E (top_of (nonce_block t N)));
}

-- the 64 bits behind the first `bottom` of two words of 64 bits: the first offset is cut a word at a time
abbrev pub bits_from : ℕ → ℕ → ℕ → ℕ
bits_from hi lo bottom = (hi * 2 ^ 64 + lo) / 2 ^ (64 - bottom) % 2 ^ 64
