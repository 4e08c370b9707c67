-- How long the strings of RFC 7253 are, and that their numbers are bytes. Each step takes blocks to blocks, so the walks do, by induction.
-- Assumes nothing.
use mathlib.Core.Path.{◌≡◌, refl, ◌∙◌}
use mathlib.Core.List.{List, [], ◌∷◌}
use Prim.Native.Nat.{ℕ, zero, suc, ◌*◌, ◌-◌, ◌<◌, ◌≤◌}
use native.Mathlib.Omega.{arith}
use lib.Dec.{lit<}
use lib.ListN.{length, take, drop, length-append, length-drop}
use lib.Seq.{length-take-le}
use Rattle.standards.specs.Strings.{◌xor◌, zeros, Bytes, Block}
use Rattle.standards.specs.Rfc7253.{Key, wholes, block_at, rest, padded, Offset, seal_block, open_block, plain_block, Blocks, Sum, last_offset, last_text, last_sum, HASH, text, end_offset, seal_sum, Tag}
use Rattle.block.proofs.StringLaws.{xor_length, bytes_none, bytes_cons, bytes_zeros, bytes_append, bytes_take, bytes_drop, bytes_xor, block_zeros, block_xor}
use Rattle.ocb_laws.proofs.Cipher.{Cipher, Makes}

-- ---- the blocks of a string

pub whole_block : (S : List ℕ) (i : ℕ) → Bytes S → i < wholes S → Block (block_at S i)
unfolding wholes block_at
whole_block S i hS h = record {
  size = length-take-le 16 (drop (i * 16) S) (omega (arith, length-drop (i * 16) S));
  bytes = bytes_take 16 (drop (i * 16) S) (bytes_drop (i * 16) S hS);
}

pub rest_length : (S : List ℕ) → length (rest S) ≡ length S - wholes S * 16
unfolding rest
rest_length S = length-drop (wholes S * 16) S

pub rest_short : (S : List ℕ) → length (rest S) < 16
unfolding wholes
rest_short S = omega (arith, rest_length S)

rest_bytes : (S : List ℕ) → Bytes S → Bytes (rest S)
unfolding rest
rest_bytes S hS = bytes_drop (wholes S * 16) S hS

padded_bytes : (S : List ℕ) → Bytes S → Bytes (padded S)
unfolding padded
padded_bytes S hS =
    bytes_append S (0x80 ∷ zeros (15 - length S)) hS (bytes_cons 0x80 (zeros (15 - length S)) (lit< tt) (bytes_zeros (15 - length S)))

-- ---- the walks, over what makes the blocks and what goes into the sum

pub last_length : (K : Key) (O S : List ℕ) → length (last_text K O S) ≡ length S
unfolding last_text
last_length K O S = xor_length S (take (length S) (K.ENCIPHER (O xor K.L-*)))

module _ {K : Key} (C : Cipher K) where
  pub offset_block : (O : List ℕ) (i : ℕ) → Block O → Block (Offset K O i)
  unfolding Offset
  offset_block O zero hO = hO
  offset_block O (suc i) hO = block_xor (Offset K O i) (K.L _) (offset_block O i hO) (C.table _)

  pub seal_makes : Makes (seal_block K)
  unfolding seal_block
  seal_makes O b hO hb = block_xor O (K.ENCIPHER (b xor O)) hO (C.enc_block (b xor O) (block_xor b O hb hO.bytes)).bytes

  pub open_makes : Makes (open_block K)
  unfolding open_block
  open_makes O b hO hb = block_xor O (K.DECIPHER (b xor O)) hO (C.dec_block (b xor O) (block_xor b O hb hO.bytes)).bytes

  plain_makes : Makes plain_block
  plain_makes O b hO hb = hb

  module _ (O S : List ℕ) (hO : Block O) (hS : Bytes S) where
    pub made : (f : List ℕ → List ℕ → List ℕ) → Makes f → (i : ℕ) → i < wholes S → Block (f (Offset K O (suc i)) (block_at S i))
    made f hf i h = hf (Offset K O (suc i)) (block_at S i) (offset_block O (suc i) hO) (whole_block S i hS h)

    pub blocks_length : (f : List ℕ → List ℕ → List ℕ) → Makes f → (i : ℕ) → i ≤ wholes S → length (Blocks f K O S i) ≡ i * 16
    unfolding Blocks
    blocks_length f hf zero h = refl
    blocks_length f hf (suc i) h =
        length-append (Blocks f K O S i) (f (Offset K O (suc i)) (block_at S i))
        ∙ omega (arith, blocks_length f hf i (omega arith), (made f hf i h).size)

    blocks_bytes : (f : List ℕ → List ℕ → List ℕ) → Makes f → (i : ℕ) → i ≤ wholes S → Bytes (Blocks f K O S i)
    unfolding Blocks
    blocks_bytes f hf zero h = bytes_none
    blocks_bytes f hf (suc i) h =
        bytes_append (Blocks f K O S i) (f (Offset K O (suc i)) (block_at S i)) (blocks_bytes f hf i (omega arith)) (made f hf i h).bytes

    sum_block : (g : List ℕ → List ℕ → List ℕ) → Makes g → (i : ℕ) → i ≤ wholes S → Block (Sum g K O S i)
    unfolding Sum
    sum_block g hg zero h = block_zeros
    sum_block g hg (suc i) h =
        block_xor (Sum g K O S i) (g (Offset K O (suc i)) (block_at S i)) (sum_block g hg i (omega arith)) (made g hg i h).bytes

  -- ---- the last part

  last_bytes : (O S : List ℕ) → Block O → Bytes S → Bytes (last_text K O S)
  unfolding last_text
  last_bytes O S hO hS =
      let pad : List ℕ = K.ENCIPHER (O xor K.L-*) in
      bytes_xor S (take (length S) pad) hS
      (bytes_take (length S) pad (C.enc_block (O xor K.L-*) (block_xor O K.L-* hO C.star)).bytes)

  last_offset_block : (O S : List ℕ) → Block O → Block (last_offset K O S)
  unfolding last_offset
  last_offset_block O [] hO = hO
  last_offset_block O (x ∷ S) hO = block_xor O K.L-* hO C.star

  last_sum_block : (s S : List ℕ) → Block s → Bytes S → Block (last_sum s S)
  unfolding last_sum
  last_sum_block s [] hs hS = hs
  last_sum_block s (x ∷ S) hs hS = block_xor s (padded (x ∷ S)) hs (padded_bytes (x ∷ S) hS)

  -- ---- the whole text and the tag

  module _ (O S : List ℕ) (hO : Block O) (hS : Bytes S) where
    pub text_length_lem : (f : Key → List ℕ → List ℕ → List ℕ) → Makes (f K) → length (text f K O S) ≡ length S
    unfolding text wholes
    text_length_lem f hf =
        length-append (Blocks (f K) K O S (wholes S)) (last_text K (Offset K O (wholes S)) (rest S))
        ∙ omega (arith, blocks_length O S hO hS (f K) hf (wholes S) (omega arith), last_length K (Offset K O (wholes S)) (rest S), rest_length S)

    pub text_bytes : (f : Key → List ℕ → List ℕ → List ℕ) → Makes (f K) → Bytes (text f K O S)
    unfolding text
    text_bytes f hf =
        bytes_append (Blocks (f K) K O S (wholes S)) (last_text K (Offset K O (wholes S)) (rest S))
        (blocks_bytes O S hO hS (f K) hf (wholes S) (omega arith))
        (last_bytes (Offset K O (wholes S)) (rest S) (offset_block O (wholes S) hO) (rest_bytes S hS))

    pub end_block : Block (end_offset K O S)
    unfolding end_offset
    end_block = last_offset_block (Offset K O (wholes S)) (rest S) (offset_block O (wholes S) hO)

    pub seal_sum_block : Block (seal_sum K O S)
    unfolding seal_sum
    seal_sum_block =
        last_sum_block (Sum plain_block K O S (wholes S)) (rest S)
        (sum_block O S hO hS plain_block plain_makes (wholes S) (omega arith)) (rest_bytes S hS)

  tag_enciphered : (s O : List ℕ) → Block s → Block O → Block (K.ENCIPHER (s xor O xor K.L-$))
  tag_enciphered s O hs hO =
      C.enc_block (s xor O xor K.L-$) (block_xor (s xor O) K.L-$ (block_xor s O hs hO.bytes) C.dollar)

  pub tag_length : (s O A : List ℕ) → Block s → Block O → length (Tag K s O A) ≡ 16
  unfolding Tag
  tag_length s O A hs hO = xor_length (K.ENCIPHER (s xor O xor K.L-$)) (HASH K A) ∙ (tag_enciphered s O hs hO).size
