-- What the steps of a walk leave. A step is lent the bytes S and a run r, and leaves the bytes S' and the run r'. `opens` says which way a text goes.
use Rattle.std.specs.Prelude.{◌≡◌, Bool, true, false, List, ◌++◌, ℕ, ◌+◌, length}
use Rattle.standards.specs.Strings.{◌xor◌}
use Rattle.standards.specs.Rfc7253.{Key, ntz, block_at, seal_block, open_block, plain_block, padded, last_text}
use Rattle.ocb_steps.specs.declared.Run.{Run}

-- ---- Sealing enciphers whole blocks, opening deciphers them

-- what a block becomes under its offset
abbrev pub turned : Bool → Key → List ℕ → List ℕ → List ℕ
turned false = seal_block
turned true = open_block

-- what the checksum takes of a block under its offset: its plaintext
abbrev pub summed : Bool → Key → List ℕ → List ℕ → List ℕ
summed false K = plain_block
summed true K = open_block K

-- ---- One block more

-- Offset_i = Offset_{i-1} xor L_{ntz(i)}, for the block behind those that are done
unfoldable pub next_offset : Key → Run → List ℕ
next_offset K r = r.offset xor K.L (ntz (r.done + 1))

-- the run behind a block S of which the sum takes what g makes of its offset and its bytes
unfoldable pub after : (List ℕ → List ℕ → List ℕ) → Key → List ℕ → Run → Run
after g K S r = record { done = r.done + 1; offset = next_offset K r; sum = r.sum xor g (next_offset K r) S }

pub record One (opens : Bool) (K : Key) (S : List ℕ) (r : Run) (S' : List ℕ) (r' : Run) : Type 0 where
  pub run : r' ≡ after (summed opens K) K S r
  pub text : S' ≡ turned opens K (next_offset K r) S

-- two blocks are one and one, the first of sixteen bytes
pub record Two (opens : Bool) (K : Key) (S : List ℕ) (r : Run) (S' : List ℕ) (r' : Run) : Type 0 where
  pub run : r' ≡ after (summed opens K) K (block_at S 1) (after (summed opens K) K (block_at S 0) r)
  pub text : S' ≡ turned opens K (next_offset K r) (block_at S 0) ++ turned opens K (next_offset K (after (summed opens K) K (block_at S 0) r)) (block_at S 1)
  pub half : length (turned opens K (next_offset K r) (block_at S 0)) ≡ 16

-- ---- The last part, of 1 to 15 bytes, whose plaintext is P

-- it is what stands there before it is sealed, or once it is opened
abbrev pub last_plain : Bool → Key → List ℕ → List ℕ → List ℕ
last_plain false K O S = S
last_plain true K O S = last_text K O S

pub record Last (K : Key) (P S : List ℕ) (r : Run) (S' : List ℕ) (r' : Run) : Type 0 where
  pub run : r' ≡ record { done = r.done; offset = r.offset xor K.L-*; sum = r.sum xor padded P }
  pub text : S' ≡ last_text K r.offset S
