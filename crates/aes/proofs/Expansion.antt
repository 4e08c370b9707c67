-- The round keys of a key are bytes, sixteen for each round and sixteen more: word after word. In the place that is kept for them they are the
-- front, and all that the cipher looks at.
-- Assumes nothing.
use mathlib.Core.Path.{◌≡◌, sym, ap, ap₂, ◌∙◌}
use mathlib.Core.Bool.{Bool, true, false, cond}
use mathlib.Core.List.{List, ◌++◌}
use Prim.Native.Nat.{ℕ, zero, suc, ◌+◌, ◌-◌, ◌*◌, ◌/◌, ◌%◌, ◌<◌, ◌≤◌}
use native.Mathlib.Omega.{arith}
use lib.Dec.{eqb, ltb, lit<}
use lib.ListN.{length, get_or, drop, length-append, length-replicate}
use lib.Seq.{take_at, take_all}
use Rattle.standards.specs.Strings.{zeros, Bytes}
use Rattle.standards.specs.Fips197.{rcon, rcon_word, rot_word, sub_word, temp, word, next_word, schedule, key_expansion}
use Rattle.sizes.specs.Sizes.{rounds_for, KeyLength, round_key_bytes}
use Rattle.sizes.proofs.KeyLaws.{key_words}
use Rattle.block.proofs.StringLaws.{drop_zeros, bytes_zeros, bytes_append}
use Rattle.field.proofs.FieldLaws.{xtime_below}
use Rattle.field.proofs.BoxLaws.{sbox_below}
use Rattle.aes_steps.proofs.StateLaws.{at_four, column_bytes, add_bytes, word_bytes}
use Rattle.aes.specs.Schedule.{round_keys_of}
use Rattle.aes.proofs.FrontLaws.{front}

rcon_below : (i : ℕ) → rcon i < 256
unfolding rcon
rcon_below zero = lit< tt
rcon_below (suc i) = xtime_below (rcon i) (rcon_below i)

rcon_bytes : (j : ℕ) → Bytes (rcon_word j)
rcon_bytes j = at_four (λ x. x < 256) (rcon_below (j - 1)) (lit< tt) (lit< tt) (lit< tt) (lit< tt)

rot_bytes : (a : List ℕ) → Bytes a → Bytes (rot_word a)
rot_bytes a h = at_four (λ x. x < 256) (h 1) (h 2) (h 3) (h 0) (lit< tt)

sub_bytes_lem : (a : List ℕ) → Bytes a → Bytes (sub_word a)
sub_bytes_lem a h = column_bytes _ (λ r. sbox_below (get_or a r 0) (h r))

cond_bytes : (t : Bool) (a b : List ℕ) → Bytes a → Bytes b → Bytes (cond t a b)
cond_bytes true a b ha hb = ha
cond_bytes false a b ha hb = hb

temp_bytes : (nk i : ℕ) (t : List ℕ) → Bytes t → Bytes (temp nk i t)
temp_bytes nk i t h =
    cond_bytes (eqb (i % nk) 0) _ _
    (add_bytes (sub_word (rot_word t)) (rcon_word (i / nk)) (sub_bytes_lem (rot_word t) (rot_bytes t h)) (rcon_bytes (i / nk)))
    (cond_bytes (ltb 6 nk) _ _ (cond_bytes (eqb (i % nk) 4) _ _ (sub_bytes_lem t h) h) h)

next_bytes : (nk : ℕ) (w : List ℕ) (i : ℕ) → Bytes w → Bytes (next_word nk w i)
unfolding next_word
next_bytes nk w i h =
    add_bytes (word w (i - nk)) (temp nk i (word w (i - 1))) (word_bytes w (i - nk) h) (temp_bytes nk i (word w (i - 1)) (word_bytes w (i - 1) h))

schedule_bytes : (nk : ℕ) (key : List ℕ) → Bytes key → (n : ℕ) → Bytes (schedule nk key n)
unfolding schedule
schedule_bytes nk key h zero = h
schedule_bytes nk key h (suc n) =
    let w : Bytes (schedule nk key n) = schedule_bytes nk key h n in
    bytes_append (schedule nk key n) _ w (next_bytes nk _ (nk + n) w)

schedule_length : (nk : ℕ) (key : List ℕ) (n : ℕ) → length (schedule nk key n) ≡ length key + 4 * n
unfolding schedule next_word
schedule_length nk key zero = omega arith
schedule_length nk key (suc n) =
    let e : length (schedule nk key n) ≡ length key + 4 * n = schedule_length nk key n in
    length-append (schedule nk key n) (next_word nk (schedule nk key n) (nk + n)) ∙ omega arith

pub expansion_bytes : (nk nr : ℕ) (key : List ℕ) → Bytes key → Bytes (key_expansion nk nr key)
unfolding key_expansion
expansion_bytes nk nr key h = schedule_bytes nk key h (4 * (nr + 1) - nk)

pub expansion_length : (nk nr : ℕ) (key : List ℕ) → length key ≡ 4 * nk → nk ≤ 4 * (nr + 1) → length (key_expansion nk nr key) ≡ 16 * (nr + 1)
unfolding key_expansion
expansion_length nk nr key e l = schedule_length nk key (4 * (nr + 1) - nk) ∙ omega arith

-- ---- in their place

module _ (k : List ℕ) where
  abbrev words : ℕ
  words = length k / 4

  abbrev nr : ℕ
  nr = rounds_for (length k)

  pub round_keys_bytes : Bytes k → Bytes (round_keys_of k)
  unfolding round_keys_of
  round_keys_bytes h = bytes_append (key_expansion words nr k) (zeros (round_key_bytes - 16 * (nr + 1))) (expansion_bytes words nr k h) (bytes_zeros (round_key_bytes - 16 * (nr + 1)))

  -- as the code makes them: the n words of its rounds, and what is left of a place of zeros
  pub round_keys_made : {n : ℕ} {w : List ℕ} → n ≡ 4 * (nr + 1) → w ≡ schedule words k (n - words) → w ++ drop (4 * n) (zeros round_key_bytes) ≡ round_keys_of k
  unfolding round_keys_of key_expansion
  round_keys_made {n} en ew =
      let place : 4 * n ≡ 16 * (nr + 1) = omega arith in
      ap₂ ◌++◌ (ew ∙ ap (λ (i : ℕ). schedule words k (i - words)) en)
      (ap (λ (i : ℕ). drop i (zeros round_key_bytes)) place ∙ drop_zeros (16 * (nr + 1)) round_key_bytes)

  module _ (h : KeyLength (length k)) where
    long : length (key_expansion words nr k) ≡ 16 * (nr + 1)
    long = let n = key_words h in expansion_length words nr k n.0 (omega arith)

    pub round_keys_length : length (round_keys_of k) ≡ round_key_bytes
    unfolding round_keys_of
    round_keys_length =
        let n = key_words h in
        length-append (key_expansion words nr k) _ ∙ ap₂ ◌+◌ long (length-replicate {A = ℕ} (round_key_bytes - 16 * (nr + 1)) 0) ∙ omega arith

    pub round_keys_front : front nr (round_keys_of k) ≡ front nr (key_expansion words nr k)
    unfolding round_keys_of
    round_keys_front =
        take_at (key_expansion words nr k) _ (16 * (nr + 1)) long ∙ sym (take_all (16 * (nr + 1)) (key_expansion words nr k) (omega (arith, long)))
