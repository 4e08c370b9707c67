-- The sizes of src/lib.rt, for contracts and proofs, which see the numerals behind the names. What fixes each is said there.
use Rattle.std.specs.Prelude.{◌≡◌, Bool, true, false, ◌||◌, List, [], ◌∷◌, map, ℕ, ◌+◌, ◌*◌, ◌/◌, eqb}

-- ---- AES

-- THE KEYS: the lengths that are admitted, in bytes
abbrev pub key_lengths : List ℕ
key_lengths = 16 ∷ 24 ∷ 32 ∷ []

-- and the rounds that go with each: one for each word of four bytes, and six more
abbrev pub rounds_for : ℕ → ℕ
rounds_for n = n / 4 + 6

abbrev pub round_numbers : List ℕ
round_numbers = map rounds_for key_lengths

-- n is one of a list
abbrev pub among : List ℕ → ℕ → Bool
among [] n = false
among (k ∷ ks) n = eqb n k || among ks n

-- n bytes are a key's length
pub record KeyLength (n : ℕ) : Type 0 where
  pub admitted : among key_lengths n ≡ true

-- nr rounds go with a key's length
pub record Rounds (nr : ℕ) : Type 0 where
  pub admitted : among round_numbers nr ≡ true

-- the most rounds, and the bytes of their round keys: sixteen for each, and sixteen before the first
abbrev pub most_rounds : ℕ
most_rounds = rounds_for 32

abbrev pub round_key_bytes : ℕ
round_key_bytes = 16 * (most_rounds + 1)

-- ---- OCB3

abbrev pub m_most : ℕ
m_most = 26

abbrev pub table_bytes : ℕ
table_bytes = 16 * (m_most + 1)

abbrev pub nonce_least : ℕ
nonce_least = 6

abbrev pub nonce_most : ℕ
nonce_most = 15

abbrev pub tag_least : ℕ
tag_least = 1

abbrev pub tag_most : ℕ
tag_most = 16
