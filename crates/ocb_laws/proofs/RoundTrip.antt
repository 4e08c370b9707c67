-- OCB-DECRYPT takes back what OCB-ENCRYPT gave, and takes nothing else: from the laws that opening and sealing undo each other.
-- Assumes nothing.
use mathlib.Core.Path.{◌≡◌, refl, sym, ap, ap₂, subst, ◌∙◌}
use mathlib.Core.Bool.{Bool, true, false}
use mathlib.Core.List.{List, ◌++◌}
use Prim.Native.Nat.{ℕ, ◌+◌, ◌-◌, ◌≤◌}
use native.Mathlib.Omega.{arith}
use lib.Dec.{T as So}
use lib.ListN.{length, take, length-append}
use lib.Seq.{take_at, drop_at, length-take-le}
use Rattle.standards.specs.Strings.{Bytes, Block}
use Rattle.standards.specs.Rfc7253.{Key, Offset-0, seal_block, open_block, text, end_offset, seal_sum, open_sum, Tag, OCB-ENCRYPT, OCB-DECRYPT, VALID, same, valid_if, decrypted}
use Rattle.block.proofs.StringLaws.{same_self, same_equal}
use Rattle.ocb_laws.proofs.Cipher.{Cipher}
use Rattle.ocb_laws.proofs.Sizes.{seal_makes, open_makes, text_length_lem, text_bytes, end_block, seal_sum_block, tag_length}
use Rattle.ocb_laws.proofs.Undo.{open_seal, open_seal_sum, open_seal_end, seal_open, seal_open_sum, seal_open_end}

-- ---- the tag behind the ciphertext

pub decrypt_split : (K : Key) (N A C T : List ℕ) (t : ℕ) → length T ≡ t → OCB-DECRYPT K t N A (C ++ T) ≡ decrypted K t N A C T
unfolding OCB-DECRYPT
decrypt_split K N A C T t h =
    let at : length C ≡ length (C ++ T) - t = omega (arith, length-append C T) in
    ap₂ (decrypted K t N A) (take_at C T (length (C ++ T) - t) at) (drop_at C T (length (C ++ T) - t) at)

valid-is : (b : Bool) (S P : List ℕ) → valid_if b S ≡ VALID P → (b ≡ true) × (S ≡ P)
valid-is true S P e = (refl, cc)
valid-is false S P e = let z : ◌≡◌ {A = ℕ} 0 1 = cc in absurd (omega arith)

-- ---- the laws

module _ {K : Key} (E : Cipher K) (t : ℕ) (N A : List ℕ) (short : t ≤ 16) (first : Block (Offset-0 K t N)) where
  pub decrypt_encrypt : (P : List ℕ) → Bytes P → OCB-DECRYPT K t N A (OCB-ENCRYPT K t N A P) ≡ VALID P
  unfolding OCB-ENCRYPT decrypted
  decrypt_encrypt P hP =
      let O : List ℕ = Offset-0 K t N in
      let tag : List ℕ = Tag K (seal_sum K O P) (end_offset K O P) A in
      let size : length tag ≡ 16 = tag_length E (seal_sum K O P) (end_offset K O P) A (seal_sum_block E O P first hP) (end_block E O P first hP) in
      decrypt_split K N A (text seal_block K O P) (take t tag) t (length-take-le t tag (omega arith))
      ∙ ap₂ (λ (b : Bool) (S : List ℕ). valid_if b S)
      (ap₂ (λ (s o : List ℕ). same (take t (Tag K s o A)) (take t tag)) (open_seal_sum E O P first hP) (open_seal_end E O P first hP) ∙ same_self (take t tag))
      (open_seal E O P first hP)

  pub encrypt_decrypt : (C T P : List ℕ) → Bytes C → length T ≡ t → OCB-DECRYPT K t N A (C ++ T) ≡ VALID P → OCB-ENCRYPT K t N A P ≡ C ++ T
  unfolding OCB-ENCRYPT decrypted
  encrypt_decrypt C T P hC hT e =
      let O : List ℕ = Offset-0 K t N in
      let tag : List ℕ = take t (Tag K (open_sum K O C) (end_offset K O C) A) in
      let v = valid-is (same tag T) (text open_block K O C) P (sym (decrypt_split K N A C T t hT) ∙ e) in
      ap (OCB-ENCRYPT K t N A) (sym v.1)
      ∙ ap₂ (λ (a b : List ℕ). a ++ b)
      (seal_open E O C first hC)
      (ap₂ (λ (s o : List ℕ). take t (Tag K s o A)) (seal_open_sum E O C first hC) (seal_open_end E O C first hC) ∙ same_equal tag T (subst So (sym v.0) tt))

  -- what is decrypted is bytes
  pub decrypt_bytes : (C T P : List ℕ) → Bytes C → length T ≡ t → OCB-DECRYPT K t N A (C ++ T) ≡ VALID P → Bytes P
  unfolding decrypted
  decrypt_bytes C T P hC hT e =
      let O : List ℕ = Offset-0 K t N in
      let tag : List ℕ = take t (Tag K (open_sum K O C) (end_offset K O C) A) in
      let v = valid-is (same tag T) (text open_block K O C) P (sym (decrypt_split K N A C T t hT) ∙ e) in
      subst Bytes v.1 (text_bytes E O C first hC open_block (open_makes E))

  -- the tag makes a ciphertext t bytes longer than its plaintext
  pub encrypt_length : (P : List ℕ) → Bytes P → length (OCB-ENCRYPT K t N A P) ≡ length P + t
  unfolding OCB-ENCRYPT
  encrypt_length P hP =
      let O : List ℕ = Offset-0 K t N in
      let tag : List ℕ = Tag K (seal_sum K O P) (end_offset K O P) A in
      let size : length tag ≡ 16 = tag_length E (seal_sum K O P) (end_offset K O P) A (seal_sum_block E O P first hP) (end_block E O P first hP) in
      length-append (text seal_block K O P) (take t tag)
      ∙ ap₂ (λ (i j : ℕ). i + j) (text_length_lem E O P first hP seal_block (seal_makes E)) (length-take-le t tag (omega arith))
