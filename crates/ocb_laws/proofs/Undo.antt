-- Opening undoes sealing, and sealing undoes opening: the text, the checksum and the last offset.
-- Block i of the new text is made of block i of the old one under the same offset, so what holds of one block holds of the walk.
-- Stated once, over what makes the new text's blocks; the two directions cite it.
-- Assumes nothing.
use mathlib.Core.Path.{◌≡◌, refl, sym, ap, ap₂, ◌∙◌}
use mathlib.Core.Logic.{⊎_elim}
use mathlib.Core.List.{List, [], ◌∷◌, ◌++◌, append_assoc}
use Prim.Native.Nat.{ℕ, zero, suc, ◌+◌, ◌*◌, ◌/◌, ◌<◌, ◌≤◌}
use native.Mathlib.Nat.{not-suc-le-zero, le_of_suc-le-suc, eq-or-lt_of_le}
use native.Mathlib.Omega.{arith}
use lib.ListN.{length, take, drop, take-append-drop}
use lib.Seq.{take_at, drop_at, take-add}
use Rattle.standards.specs.Strings.{◌xor◌, Bytes, Block}
use Rattle.standards.specs.Rfc7253.{Key, wholes, block_at, rest, Offset, seal_block, open_block, plain_block, Blocks, Sum, last_offset, last_text, last_sum, text, end_offset, seal_sum, open_sum}
use Rattle.block.proofs.StringLaws.{xor_length, xor_cancel, xor_comm, xor_take, block_xor}
use Rattle.ocb_laws.proofs.Cipher.{Cipher, Makes}
use Rattle.ocb_laws.proofs.Sizes.{whole_block, offset_block, seal_makes, open_makes, made, blocks_length, last_length, text_length_lem}

-- ---- one block

-- an offset on both sides of X goes, and one on both sides of b
outer : (O X : List ℕ) → Block O → Block X → O xor X xor O ≡ X
outer O X hO hX = ap (λ (Y : List ℕ). Y xor O) (xor_comm O X (hO.size ∙ sym hX.size)) ∙ xor_cancel X O

inner : (O b : List ℕ) → Block O → Block b → O xor (b xor O) ≡ b
inner O b hO hb = xor_comm O (b xor O) (hO.size ∙ sym (xor_length b O ∙ hb.size)) ∙ xor_cancel b O

-- g after f is h, under one offset
abbrev pub After : (f g h : List ℕ → List ℕ → List ℕ) → Type 0
After f g h = (O b : List ℕ) → Block O → Block b → g O (f O b) ≡ h O b

module _ {K : Key} (C : Cipher K) where
  pub open_seal_block : After (seal_block K) (open_block K) plain_block
  unfolding seal_block open_block
  open_seal_block O b hO hb =
      let hx : Block (b xor O) = block_xor b O hb hO.bytes in
      ap (λ (X : List ℕ). O xor K.DECIPHER X) (outer O (K.ENCIPHER (b xor O)) hO (C.enc_block (b xor O) hx))
      ∙ ap (λ (X : List ℕ). O xor X) (C.dec_enc (b xor O) hx)
      ∙ inner O b hO hb

  pub seal_open_block : After (open_block K) (seal_block K) plain_block
  unfolding seal_block open_block
  seal_open_block O b hO hb =
      let hx : Block (b xor O) = block_xor b O hb hO.bytes in
      ap (λ (X : List ℕ). O xor K.ENCIPHER X) (outer O (K.DECIPHER (b xor O)) hO (C.dec_block (b xor O) hx))
      ∙ ap (λ (X : List ℕ). O xor X) (C.enc_dec (b xor O) hx)
      ∙ inner O b hO hb

-- the last part, twice
last_twice : (K : Key) (O S : List ℕ) → last_text K O (last_text K O S) ≡ S
unfolding last_text
last_twice K O S =
    let pad : List ℕ = K.ENCIPHER (O xor K.L-*) in
    let once : S xor take (length S) pad ≡ S xor pad = xor_take S pad in
    xor_take (S xor take (length S) pad) pad ∙ ap (λ (X : List ℕ). X xor pad) once ∙ xor_cancel S pad

-- the last offset asks only whether there is a last part
last_offset_same : (K : Key) (O S T : List ℕ) → length S ≡ length T → last_offset K O S ≡ last_offset K O T
unfolding last_offset
last_offset_same K O [] [] e = refl
last_offset_same K O [] (y ∷ T) e = absurd (omega arith)
last_offset_same K O (x ∷ S) [] e = absurd (omega arith)
last_offset_same K O (x ∷ S) (y ∷ T) e = refl

-- the blocks as they are
plain_blocks : (K : Key) (O S : List ℕ) (i : ℕ) → Blocks plain_block K O S i ≡ take (i * 16) S
unfolding Blocks block_at
plain_blocks K O S zero = refl
plain_blocks K O S (suc i) =
    let e : i * 16 + 16 ≡ suc i * 16 = omega arith in
    ap (λ (a : List ℕ). a ++ take 16 (drop (i * 16) S)) (plain_blocks K O S i) ∙ sym (take-add (i * 16) 16 S) ∙ ap (λ (k : ℕ). take k S) e

-- ---- the text that f makes of S

module _ {K : Key} (C : Cipher K) (O S : List ℕ) (hO : Block O) (hS : Bytes S) (f : Key → List ℕ → List ℕ → List ℕ) (hf : Makes (f K)) where
  block_of : (n i : ℕ) (behind : List ℕ) → i < n → n ≤ wholes S
      → block_at (Blocks (f K) K O S n ++ behind) i ≡ f K (Offset K O (suc i)) (block_at S i)
  unfolding Blocks block_at
  block_of zero i behind l h = absurd (not-suc-le-zero l)
  block_of (suc n) i behind l h =
      let front : List ℕ = Blocks (f K) K O S n in
      let y : List ℕ = f K (Offset K O (suc n)) (block_at S n) in
      ap (λ (z : List ℕ). take 16 (drop (i * 16) z)) (append_assoc front y behind)
      ∙ ⊎_elim
      (λ (e : i ≡ n).
      ap (λ (k : ℕ). take 16 (drop (k * 16) (front ++ (y ++ behind)))) e
      ∙ ap (take 16) (drop_at front (y ++ behind) (n * 16) (blocks_length C O S hO hS (f K) hf n (omega arith)))
      ∙ take_at y behind 16 (made C O S hO hS (f K) hf n h).size
      ∙ ap (λ (k : ℕ). f K (Offset K O (suc k)) (block_at S k)) (sym e))
      (λ (q : i < n). block_of n i (y ++ behind) q (omega arith))
      (eq-or-lt_of_le (le_of_suc-le-suc l))

  text_block : (i : ℕ) → i < wholes S → block_at (text f K O S) i ≡ f K (Offset K O (suc i)) (block_at S i)
  unfolding text
  text_block i h = block_of (wholes S) i (last_text K (Offset K O (wholes S)) (rest S)) h (omega arith)

  text_wholes : wholes (text f K O S) ≡ wholes S
  unfolding wholes
  text_wholes = ap (λ (n : ℕ). n / 16) (text_length_lem C O S hO hS f hf)

  text_rest : rest (text f K O S) ≡ last_text K (Offset K O (wholes S)) (rest S)
  unfolding rest text
  text_rest =
      ap (λ (n : ℕ). drop (n * 16) (text f K O S)) text_wholes
      ∙ drop_at (Blocks (f K) K O S (wholes S)) (last_text K (Offset K O (wholes S)) (rest S)) (wholes S * 16)
      (blocks_length C O S hO hS (f K) hf (wholes S) (omega arith))

  -- what g takes of the new text, h took of the old
  module _ (g h : List ℕ → List ℕ → List ℕ) (after : After (f K) g h) where
    block_after : (i : ℕ) → i < wholes S → g (Offset K O (suc i)) (block_at (text f K O S) i) ≡ h (Offset K O (suc i)) (block_at S i)
    block_after i l =
        ap (g (Offset K O (suc i))) (text_block i l)
        ∙ after (Offset K O (suc i)) (block_at S i) (offset_block C O (suc i) hO) (whole_block S i hS l)

    blocks_after : (i : ℕ) → i ≤ wholes S → Blocks g K O (text f K O S) i ≡ Blocks h K O S i
    unfolding Blocks
    blocks_after zero l = refl
    blocks_after (suc i) l = ap₂ (λ (a b : List ℕ). a ++ b) (blocks_after i (omega arith)) (block_after i l)

    sum_after : (i : ℕ) → i ≤ wholes S → Sum g K O (text f K O S) i ≡ Sum h K O S i
    unfolding Sum
    sum_after zero l = refl
    sum_after (suc i) l = ap₂ (λ (a b : List ℕ). a xor b) (sum_after i (omega arith)) (block_after i l)

  text_undone : (g : Key → List ℕ → List ℕ → List ℕ) → After (f K) (g K) plain_block → text g K O (text f K O S) ≡ S
  unfolding text rest
  text_undone g after =
      ap₂ (λ (n : ℕ) (r : List ℕ). Blocks (g K) K O (text f K O S) n ++ last_text K (Offset K O n) r) text_wholes text_rest
      ∙ ap₂ (λ (a b : List ℕ). a ++ b)
      (blocks_after (g K) plain_block after (wholes S) (omega arith) ∙ plain_blocks K O S (wholes S))
      (last_twice K (Offset K O (wholes S)) (rest S))
      ∙ take-append-drop (wholes S * 16) S

  end_undone : end_offset K O (text f K O S) ≡ end_offset K O S
  unfolding end_offset
  end_undone =
      ap₂ (λ (n : ℕ) (r : List ℕ). last_offset K (Offset K O n) r) text_wholes text_rest
      ∙ last_offset_same K (Offset K O (wholes S)) (last_text K (Offset K O (wholes S)) (rest S)) (rest S) (last_length K (Offset K O (wholes S)) (rest S))

-- ---- the two directions

module _ {K : Key} (C : Cipher K) (O S : List ℕ) (hO : Block O) (hS : Bytes S) where
  pub open_seal : text open_block K O (text seal_block K O S) ≡ S
  open_seal = text_undone C O S hO hS seal_block (seal_makes C) open_block (open_seal_block C)

  pub open_seal_sum : open_sum K O (text seal_block K O S) ≡ seal_sum K O S
  unfolding open_sum seal_sum
  open_seal_sum =
      ap₂ (λ (n : ℕ) (r : List ℕ). last_sum (Sum (open_block K) K O (text seal_block K O S) n) (last_text K (Offset K O n) r))
      (text_wholes C O S hO hS seal_block (seal_makes C)) (text_rest C O S hO hS seal_block (seal_makes C))
      ∙ ap₂ last_sum
      (sum_after C O S hO hS seal_block (seal_makes C) (open_block K) plain_block (open_seal_block C) (wholes S) (omega arith))
      (last_twice K (Offset K O (wholes S)) (rest S))

  pub open_seal_end : end_offset K O (text seal_block K O S) ≡ end_offset K O S
  open_seal_end = end_undone C O S hO hS seal_block (seal_makes C)

  pub seal_open : text seal_block K O (text open_block K O S) ≡ S
  seal_open = text_undone C O S hO hS open_block (open_makes C) seal_block (seal_open_block C)

  pub seal_open_sum : seal_sum K O (text open_block K O S) ≡ open_sum K O S
  unfolding open_sum seal_sum
  seal_open_sum =
      ap₂ (λ (n : ℕ) (r : List ℕ). last_sum (Sum plain_block K O (text open_block K O S) n) r)
      (text_wholes C O S hO hS open_block (open_makes C)) (text_rest C O S hO hS open_block (open_makes C))
      ∙ ap (λ (s : List ℕ). last_sum s (last_text K (Offset K O (wholes S)) (rest S)))
      (sum_after C O S hO hS open_block (open_makes C) plain_block (open_block K) (λ O b hO hb. refl) (wholes S) (omega arith))

  pub seal_open_end : end_offset K O (text open_block K O S) ≡ end_offset K O S
  seal_open_end = end_undone C O S hO hS open_block (open_makes C)
