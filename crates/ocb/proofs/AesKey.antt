-- The key of RFC 7253 that AES makes of a key's bytes: its cipher keeps the laws, and a state that set_up made of them holds that key, as far as
-- its table goes. Here alone the cipher is named as FIPS 197's. Assumes nothing.
use mathlib.Core.Path.{◌≡◌, ap₂, subst, ◌∙◌}
use mathlib.Core.List.{List}
use Prim.Native.Nat.{ℕ, suc, ◌*◌, ◌/◌}
use lib.ListN.{length, drop}
use Rattle.sizes.specs.Sizes.{rounds_for, KeyLength}
use Rattle.standards.specs.Strings.{zeros, Bytes, Block}
use Rattle.standards.specs.Fips197.{key_expansion}
use Rattle.standards.specs.Rfc7253.{Key, keyed, double, doubled, block_at, Offset-0}
use Rattle.standards.specs.AesOcb.{AES}
use Rattle.block.proofs.StringLaws.{bytes_take, bytes_drop, block_zeros}
use Rattle.ocb_laws.proofs.Readings.{offset_same}
use Rattle.aes.specs.Cipher.{enc, dec}
use Rattle.aes.specs.Cipher.Body.{enc_is, dec_is}
use Rattle.aes.proofs.Promise.{enc_block, dec_block, dec_enc, enc_dec}
use Rattle.aes.specs.Schedule.{round_keys_of}
use Rattle.aes.proofs.Expansion.{expansion_bytes, round_keys_front}
use Rattle.aes.proofs.FrontLaws.{enc_alike, dec_alike}
use Rattle.ocb_laws.proofs.Cipher.{Cipher}
use Rattle.ocb_laws.proofs.Agree.{Agrees}
use Rattle.ocb_variables.specs.declared.State.{State}
use Rattle.ocb_variables.specs.Held.{held}
use Rattle.ocb_variables.specs.State.{state_for}
use Rattle.ocb_variables.proofs.BlockLaws.{double_block, doubled_block, initial_offset_block}
use Rattle.ocb_variables.proofs.KeyLaws.{state_agrees}
use Rattle.ocb_numbers.specs.Numbers.{NonceSize, TagSize}
use Rattle.ocb.specs.Terms.{HoldsBytes}

-- the cipher of nr rounds under round keys w, with any L values that are bytes
cipher_under : (nr : ℕ) (w star dollar : List ℕ) (L : ℕ → List ℕ) → Bytes w → Bytes star → Bytes dollar → ((i : ℕ) → Bytes (L i))
    → Cipher (record { ENCIPHER = enc nr w; DECIPHER = dec nr w; L-* = star; L-$ = dollar; L = L })
cipher_under nr w star dollar L h hs hd hl = record {
  enc_block = λ b. enc_block nr w b h;
  dec_block = λ b. dec_block nr w b h;
  dec_enc = λ b. dec_enc nr w b h;
  enc_dec = λ b. enc_dec nr w b h;
  star = hs;
  dollar = hd;
  table = hl;
}

-- ---- the key of round keys w, by doubling

abbrev key_of : ℕ → List ℕ → Key
key_of nr w = keyed (enc nr w) (dec nr w)

key_cipher : (nr : ℕ) (w : List ℕ) → Bytes w → Cipher (key_of nr w)
key_cipher nr w h =
    let star : List ℕ = enc nr w (zeros 16) in
    let dollar : List ℕ = double star in
    cipher_under nr w star dollar (λ i. doubled (suc i) dollar) h (enc_block nr w (zeros 16) h block_zeros).bytes (double_block star).bytes
    (λ i. (doubled_block i dollar).bytes)

-- ---- FIPS 197's cipher with the key k

module _ (k : List ℕ) where
  abbrev words : ℕ
  words = length k / 4

  abbrev nr : ℕ
  nr = rounds_for (length k)

  -- under expanded round keys
  fips : key_of nr (key_expansion words nr k) ≡ AES words k
  fips = let w : List ℕ = key_expansion words nr k in ap₂ keyed (λ i b. enc_is nr w b i) (λ i b. dec_is nr w b i)

  pub aes_cipher : Bytes k → Cipher (AES words k)
  aes_cipher h = subst Cipher fips (key_cipher nr (key_expansion words nr k) (expansion_bytes words nr k h))

  -- and under those with zeros behind, as a state keeps them
  kept : KeyLength (length k) → key_of nr (round_keys_of k) ≡ AES words k
  kept h =
      let e = round_keys_front k h in
      let w : List ℕ = key_expansion words nr k in
      ap₂ keyed (λ i b. enc_alike nr (round_keys_of k) w e b i) (λ i b. dec_alike nr (round_keys_of k) w e b i) ∙ fips

  pub state_holds : KeyLength (length k) → (m : ℕ) → Agrees m (held (state_for k m)) (AES words k)
  state_holds h m = subst (Agrees m (held (state_for k m))) (kept h) (state_agrees (round_keys_of k) nr m)

-- the first offset is a block, for the sizes that are admitted
pub first_block : (K : Key) → Cipher K → (t : ℕ) (N : List ℕ) → NonceSize (length N) → TagSize t → Bytes N → Block (Offset-0 K t N)
first_block K C t N n i h =
    subst Block (offset_same t N n.from n.to i.from i.to h K C.enc_block) (initial_offset_block K.ENCIPHER t N)

-- ---- the key that any state holds, whoever made it

pub held_cipher : (s : State) → HoldsBytes s → Cipher (held s)
unfolding block_at
held_cipher s h =
    cipher_under s.values.rounds s.round_keys s.values.star s.values.dollar (λ i. block_at s.table i) h.keys h.star h.dollar
    (λ i. bytes_take 16 (drop (i * 16) s.table) (bytes_drop (i * 16) s.table h.table))
