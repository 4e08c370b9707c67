-- The nonce block and Stretch as the code makes them: the front and the nonce are pasted over zeros, and so are Stretch's last eight bytes over
-- the zeros behind Ktop. Masks of one byte are remainders and multiples. Assumes nothing.
use mathlib.Core.Path.{◌≡◌, refl, sym, ap, ap₂, ◌∙◌, subst}
use mathlib.Core.List.{List, ◌∷◌, ◌++◌, append-nil}
use Prim.Native.Nat.{ℕ, zero, suc, ◌+◌, ◌*◌, ◌-◌, ◌/◌, ◌%◌, ◌<◌, ◌≤◌}
use native.Mathlib.Nat.{not-suc-le-zero, le_of_suc-le-suc, mod-lt, mod-eq_of_lt}
use native.Mathlib.Numerals.{add-one}
use native.Mathlib.Omega.{arith}
use lib.Bits.{bit_and, bit_or, and_mask, and_high}
use lib.Dec.{lit<}
use lib.ListN.{length, take, drop, get_or, set, get_or-append, drop_of_length-le, length-append, length-drop, length-replicate}
use lib.Seq.{get_or-take, get_or-drop, length-take-le, take_all, take_at, set-append_left, paste, paste-suc}
use Rattle.standards.specs.Strings.{◌⊕◌, ◌xor◌, zeros}
use Rattle.standards.specs.InBytes.{nonce_front, nonce_block, bottom_of, top_of, stretch_of, cut_of, initial_offset}
use Rattle.block.proofs.StringLaws.{xor_length, xor_at}
use Rattle.ocb_variables.specs.declared.NonceVariables.{NonceVariables}
use Rattle.ocb_variables.specs.Nonce.{variables_of}

-- ---- the nonce block

-- twice (8 t mod 128), and zeros: what stands before the nonce, and what the nonce is pasted over
abbrev head : ℕ → ℕ → List ℕ
head t n = 8 * t % 128 * 2 ∷ zeros n

abbrev pub ground : ℕ → List ℕ
ground t = head t 15

take_zeros : (j k : ℕ) → j ≤ k → take j (zeros k) ≡ zeros j
take_zeros zero k h = refl
take_zeros (suc j) zero h = absurd (not-suc-le-zero h)
take_zeros (suc j) (suc k) h = ap (λ (S : List ℕ). 0 ∷ S) (take_zeros j k (le_of_suc-le-suc h))

module _ (t : ℕ) (N : List ℕ) (h : length N ≤ 15) where
  head_left : take (16 - length N) (ground t) ≡ head t (15 - length N)
  head_left =
      let e : 16 - length N ≡ suc (15 - length N) = omega arith in
      let l : 15 - length N ≤ 15 = omega arith in
      ap (λ (k : ℕ). take k (ground t)) e ∙ ap (λ (S : List ℕ). 8 * t % 128 * 2 ∷ S) (take_zeros (15 - length N) 15 l)

  -- the nonce is laid over the ground's end
  laid : take (16 - length N) (ground t) ++ (N ++ drop (16 - length N + length N) (ground t)) ≡ head t (15 - length N) ++ N
  laid =
      ap₂ (λ (S U : List ℕ). S ++ (N ++ U)) head_left (drop_of_length-le (ground t) {i = 16 - length N + length N} (omega arith))
      ∙ ap (λ (S : List ℕ). head t (15 - length N) ++ S) (append-nil N)

  -- and the byte before it is marked
  pub nonce_made : (r : List ℕ) → r ≡ take (16 - length N) (ground t) ++ (N ++ drop (16 - length N + length N) (ground t))
      → set r (15 - length N) (bit_or (get_or r (15 - length N) 0) 1) ≡ nonce_block t N
  unfolding nonce_block nonce_front
  nonce_made r e =
      let n : ℕ = 15 - length N in
      let l : n < length (head t n) = omega (arith, length-replicate {A = ℕ} n 0) in
      ap (λ (S : List ℕ). set S n (bit_or (get_or S n 0) 1)) (e ∙ laid)
      ∙ ap (λ (x : ℕ). set (head t n ++ N) n (bit_or x 1)) (get_or-append (head t n) N 0 n l)
      ∙ set-append_left (head t n) N n (bit_or (get_or (head t n) n 0) 1) l

-- ---- bottom and top

bottom_mask : (b : List ℕ) → bit_and (get_or b 15 0) 63 ≡ bottom_of b
unfolding bottom_of
bottom_mask b = and_mask (get_or b 15 0) 6

top_mask : (b : List ℕ) → get_or b 15 0 < 256 → set b 15 (bit_and (get_or b 15 0) 192) ≡ top_of b
unfolding top_of
top_mask b h =
    let q : get_or b 15 0 / 64 < 4 = omega arith in
    ap (set b 15) (and_high (get_or b 15 0) 2 6 ∙ ap (λ (x : ℕ). x * 64) (mod-eq_of_lt q))

-- ---- Stretch

-- the eight bytes behind Ktop
abbrev pub behind : List ℕ → List ℕ
behind k = take 8 k xor take 8 (drop 1 k)

module _ (k : List ℕ) (hk : length k ≡ 16) where
  behind_length : length (behind k) ≡ 8
  behind_length = xor_length (take 8 k) (take 8 (drop 1 k)) ∙ length-take-le 8 k (omega arith)

  behind_at : (j : ℕ) → j < 8 → get_or (behind k) j 0 ≡ get_or k j 0 ⊕ get_or k (j + 1) 0
  behind_at j h =
      let left : length (take 8 k) ≡ 8 = length-take-le 8 k (omega arith) in
      let right : length (take 8 (drop 1 k)) ≡ 8 = length-take-le 8 (drop 1 k) (omega (arith, length-drop 1 k)) in
      let next : 1 + j ≡ j + 1 = omega arith in
      xor_at (take 8 k) (take 8 (drop 1 k)) j (omega arith) (omega arith)
      ∙ ap₂ ◌⊕◌ (get_or-take 8 k j 0 h) (get_or-take 8 (drop 1 k) j 0 h ∙ get_or-drop 1 k j 0 ∙ ap (λ (i : ℕ). get_or k i 0) next)

  -- byte 16 + j is laid
  pub stretch_turn : (s r : List ℕ) (j : ℕ) → length s ≡ 24 → j < 8 → r ≡ paste s 16 (behind k) j
      → set r (16 + j) (get_or k j 0 ⊕ get_or k (j + 1) 0) ≡ paste s 16 (behind k) (j + 1)
  stretch_turn s r j hs h e =
      ap₂ (λ (S : List ℕ) (x : ℕ). set S (16 + j) x) e (sym (behind_at j h))
      ∙ paste-suc s 16 (behind k) j 0 (omega arith) (omega (arith, behind_length))
      ∙ ap (paste s 16 (behind k)) (sym (add-one j))

  -- all eight are laid behind Ktop
  pub stretch_made : (r : List ℕ) → r ≡ paste (k ++ zeros 8) 16 (behind k) 8 → r ≡ stretch_of k
  unfolding stretch_of
  stretch_made r e =
      e
      ∙ ap (λ (S : List ℕ). S ++ take 8 (behind k) ++ drop 24 (k ++ zeros 8)) (take_at k (zeros 8) 16 hk)
      ∙ ap (λ (S : List ℕ). k ++ S ++ drop 24 (k ++ zeros 8)) (take_all 8 (behind k) (omega (arith, behind_length)))
      ∙ ap (λ (S : List ℕ). k ++ behind k ++ S) (drop_of_length-le (k ++ zeros 8) {i = 24} (simp length-append (omega arith)))
      ∙ append-nil (k ++ behind k)

-- ---- all of them, as the code makes them one after the other

pub variables_made : {b k s : List ℕ} (E : List ℕ → List ℕ) (t : ℕ) (N : List ℕ) → b ≡ nonce_block t N → get_or b 15 0 < 256
    → k ≡ E (set b 15 (bit_and (get_or b 15 0) 192)) → s ≡ stretch_of k
    → ◌≡◌ {A = NonceVariables} (record { bottom = bit_and (get_or b 15 0) 63; stretch = s }) (variables_of E t N)
unfolding variables_of
variables_made {b} {k} {s} E t N eb hb ek es =
    let bottom : bit_and (get_or b 15 0) 63 ≡ bottom_of (nonce_block t N) = bottom_mask b ∙ ap bottom_of eb in
    let stretch : s ≡ stretch_of (E (top_of (nonce_block t N))) =
    es ∙ ap stretch_of (ek ∙ ap E (top_mask b hb ∙ ap top_of eb)) in
    cc

pub bottom_below : {v : NonceVariables} (E : List ℕ → List ℕ) (t : ℕ) (N : List ℕ) → v ≡ variables_of E t N → v.bottom < 64
unfolding variables_of bottom_of
bottom_below {v} E t N e = subst (λ (w : NonceVariables). w.bottom < 64) (sym e) (mod-lt (get_or (nonce_block t N) 15 0) (lit< tt))

pub offset_made : {v : NonceVariables} {r : List ℕ} (E : List ℕ → List ℕ) (t : ℕ) (N : List ℕ)
    → v ≡ variables_of E t N → r ≡ cut_of v.stretch v.bottom → r ≡ initial_offset E t N
unfolding variables_of initial_offset
offset_made {v} E t N ev er = er ∙ ap (λ (w : NonceVariables). cut_of w.stretch w.bottom) ev
