-- RFC 7253's nonce-dependent variables (section 4.2) are the same read in bits and read in bytes: a string of bytes and the string of its bits are one
-- number, so both readings cut the same digits from it. Assumes nothing.
use mathlib.Core.Path.{◌≡◌, refl, sym, ap, ap₂, ◌∙◌, subst, subst₂}
use mathlib.Core.Bool.{Bool}
use mathlib.Core.List.{List, [], ◌∷◌, ◌++◌, append_assoc}
use Prim.Native.Nat.{ℕ, zero, suc, ◌+◌, ◌-◌, ◌*◌, ◌/◌, ◌%◌, ◌^◌, ◌<◌, ◌≤◌}
use native.Mathlib.Nat.{mod-eq_of_lt, pow-suc, add-zero, suc_inj}
use native.Mathlib.Omega.{arith}
use lib.Bits.{bit_or, xor_shr, xor_mod, or_lt}
use lib.Dec.{T, lit<}
use lib.ListN.{length, get_or, take, drop, set, length-append, length-drop, length-set, length-replicate, drop_of_length-le}
use lib.Pow.{pow-add, shr_lt}
use lib.Seq.{take_all, take_at, drop_at, take-nil, drop-nil, take-suc, set_split, length-take-le, take-append-add, drop-append-add}
use Rattle.standards.specs.Strings.{◌⊕◌, ◌xor◌, zeros, digits, number, num2str, str2num, to_bytes, num, bits, bytes, part, Bytes, Block}
use Rattle.standards.specs.Rfc7253.{Key, Nonce, bottom, top, Stretch, cut, Offset-0, same}
use Rattle.standards.specs.InBytes.{nonce_front, nonce_block, bottom_of, top_of, stretch_of, cut_of, initial_offset}
use Rattle.block.proofs.NumberLaws.{Digits, below_append, number_append, number-last, number_below, digits_length, digits_append, digits_below, number_digits, digits_number}
use Rattle.block.proofs.StringLaws.{same_equal, xor_append, xor_length, bytes_append, bytes_cons, bytes_set, bytes_take, bytes_drop, bytes_xor, bytes_zeros}
use Rattle.block.proofs.Tests.{each, below}

two_positive : 0 < 2
two_positive = lit< tt

byte_positive : 0 < 256
byte_positive = lit< tt

-- ---- the bits of a string of bytes

bits_length : (S : List ℕ) → length (bits S) ≡ 8 * length S
unfolding bits
bits_length [] = refl
bits_length (x ∷ S) = length-append (num2str x 8) (bits S) ∙ omega (arith, digits_length 2 8 x, bits_length S)

bits_append : (S U : List ℕ) → bits (S ++ U) ≡ bits S ++ bits U
unfolding bits
bits_append [] U = refl
bits_append (x ∷ S) U = ap (λ (l : List ℕ). num2str x 8 ++ l) (bits_append S U) ∙ sym (append_assoc (num2str x 8) (bits S) (bits U))

-- what lies behind the first byte's bits
take_past : (x n : ℕ) (U : List ℕ) → take (8 * suc n) (num2str x 8 ++ U) ≡ num2str x 8 ++ take (8 * n) U
take_past x n U =
    let e : 8 * suc n ≡ length (num2str x 8) + 8 * n = omega (arith, digits_length 2 8 x) in
    ap (λ (k : ℕ). take k (num2str x 8 ++ U)) e ∙ take-append-add (num2str x 8) U (8 * n)

drop_past : (x n : ℕ) (U : List ℕ) → drop (8 * suc n) (num2str x 8 ++ U) ≡ drop (8 * n) U
drop_past x n U =
    let e : 8 * suc n ≡ length (num2str x 8) + 8 * n = omega (arith, digits_length 2 8 x) in
    ap (λ (k : ℕ). drop k (num2str x 8 ++ U)) e ∙ drop-append-add (num2str x 8) U (8 * n)

bits_take : (n : ℕ) (S : List ℕ) → bits (take n S) ≡ take (8 * n) (bits S)
unfolding bits
bits_take zero S = refl
bits_take (suc n) [] = sym (take-nil (8 * suc n))
bits_take (suc n) (x ∷ S) = ap (λ (U : List ℕ). num2str x 8 ++ U) (bits_take n S) ∙ sym (take_past x n (bits S))

bits_drop : (n : ℕ) (S : List ℕ) → bits (drop n S) ≡ drop (8 * n) (bits S)
unfolding bits
bits_drop zero S = refl
bits_drop (suc n) [] = sym (drop-nil (8 * suc n))
bits_drop (suc n) (x ∷ S) = bits_drop n S ∙ sym (drop_past x n (bits S))

digits_xor : (k x y : ℕ) → digits 2 k (x ⊕ y) ≡ digits 2 k x xor digits 2 k y
unfolding digits ◌xor◌ ◌⊕◌
digits_xor zero x y = refl
digits_xor (suc k) x y =
    ap₂ (λ (S : List ℕ) (b : ℕ). S ++ (b ∷ [])) (ap (digits 2 k) (xor_shr x y 1) ∙ digits_xor k (x / 2) (y / 2)) (xor_mod x y 1)
    ∙ sym (xor_append (digits 2 k (x / 2)) (digits 2 k (y / 2)) (x % 2 ∷ []) (y % 2 ∷ []) (digits_length 2 k (x / 2) ∙ sym (digits_length 2 k (y / 2))))

bits_xor : (S U : List ℕ) → length S ≡ length U → bits (S xor U) ≡ bits S xor bits U
unfolding bits ◌xor◌
bits_xor [] [] e = refl
bits_xor [] (y ∷ U) e = absurd (omega arith)
bits_xor (x ∷ S) [] e = absurd (omega arith)
bits_xor (x ∷ S) (y ∷ U) e =
    ap₂ (λ (a b : List ℕ). a ++ b) (digits_xor 8 x y) (bits_xor S U (suc_inj e))
    ∙ sym (xor_append (num2str x 8) (num2str y 8) (bits S) (bits U) (digits_length 2 8 x ∙ sym (digits_length 2 8 y)))

-- ---- the number of both

eight_bits : (n : ℕ) → 2 ^ (8 * n) ≡ 256 ^ n
eight_bits zero = refl
eight_bits (suc n) =
    let e : 8 * suc n ≡ 8 * n + 8 = omega arith in
    ap (λ (k : ℕ). 2 ^ k) e ∙ pow-add 2 (8 * n) 8 ∙ ap (λ (k : ℕ). k * 256) (eight_bits n) ∙ sym (pow-suc 256 n)

bits_number : (S : List ℕ) → Bytes S → str2num (bits S) ≡ num S
unfolding bits number
bits_number [] h = refl
bits_number (x ∷ S) h =
    number_append 2 (num2str x 8) (bits S)
    ∙ ap₂ (λ (a b : ℕ). a + b)
    (ap₂ (λ (a b : ℕ). a * b) (number_digits 2 two_positive 8 x ∙ mod-eq_of_lt (h 0)) (ap (λ (k : ℕ). 2 ^ k) (bits_length S) ∙ eight_bits (length S)))
    (bits_number S (λ i. h (suc i)))

bits_digits : (S : List ℕ) → Digits 2 (bits S)
unfolding bits
bits_digits [] = λ i. two_positive
bits_digits (x ∷ S) = below_append 2 (num2str x 8) (bits S) (digits_below 2 two_positive 8 x) (bits_digits S)

-- the bits of a string are the digits of its number
as_digits : (S : List ℕ) → Bytes S → bits S ≡ digits 2 (8 * length S) (num S)
as_digits S h =
    sym (digits_number 2 two_positive (bits S) (bits_digits S))
    ∙ ap₂ (digits 2) (bits_length S) (bits_number S h)

-- ---- parts of the bits

-- the digits behind the first i, of those above the last k
part_digits : (i j k n : ℕ) → take j (drop i (digits 2 (i + (j + k)) n)) ≡ digits 2 j (n / 2 ^ k)
part_digits i j k n =
    ap (take j) (ap (drop i) (digits_append 2 i (j + k) n) ∙ drop_at (digits 2 i (n / 2 ^ (j + k))) (digits 2 (j + k) n) i (digits_length 2 i (n / 2 ^ (j + k))))
    ∙ ap (take j) (digits_append 2 j k n)
    ∙ take_at (digits 2 j (n / 2 ^ k)) (digits 2 k n) j (digits_length 2 j (n / 2 ^ k))

-- a block's number: its first fifteen bytes', and its last
block_last : (b : List ℕ) → length b ≡ 16 → b ≡ take 15 b ++ (get_or b 15 0 ∷ [])
block_last b h = sym (take_all 16 b (omega arith)) ∙ take-suc b 15 0 (omega arith)

block_number : (b : List ℕ) → length b ≡ 16 → num b ≡ num (take 15 b) * 256 + get_or b 15 0
block_number b h = ap num (block_last b h) ∙ number-last 256 (take 15 b) (get_or b 15 0)

module _ (b : List ℕ) (h : Block b) where
  bits_of : bits b ≡ digits 2 128 (num b)
  bits_of = as_digits b h.bytes ∙ ap (λ (k : ℕ). digits 2 (8 * k) (num b)) h.size

  pub low_bits : str2num (part (bits b) 123 128) ≡ bottom_of b
  unfolding bottom_of
  low_bits =
      ap (λ (S : List ℕ). str2num (take 6 (drop 122 S))) bits_of
      ∙ ap str2num (part_digits 122 6 0 (num b))
      ∙ number_digits 2 two_positive 6 (num b / 2 ^ 0)
      ∙ omega (arith, block_number b h.size)

  top_number : num (top_of b) ≡ num b / 64 * 64
  unfolding top_of
  top_number =
      let x : ℕ = get_or b 15 0 / 64 * 64 in
      let none : drop 16 b ≡ [] = drop_of_length-le b {i = 16} (omega (arith, h.size)) in
      ap num (set_split b 15 x (omega (arith, h.size)) ∙ ap (λ (S : List ℕ). take 15 b ++ (x ∷ S)) none)
      ∙ number-last 256 (take 15 b) x
      ∙ omega (arith, block_number b h.size)

  pub top_block : Block (top_of b)
  unfolding top_of
  top_block = record {
    size = length-set b 15 (get_or b 15 0 / 64 * 64) ∙ h.size;
    bytes = bytes_set b 15 (get_or b 15 0 / 64 * 64) h.bytes (omega (arith, h.bytes 15));
  }

  -- the high 122 bits as a number
  high_number : number 2 (digits 2 122 (num b / 64)) ≡ num b / 64
  high_number =
      let l : num b < 2 ^ (122 + 6) = subst (λ (k : ℕ). num b < 256 ^ k) h.size (number_below 256 b h.bytes) in
      number_digits 2 two_positive 122 (num b / 64) ∙ mod-eq_of_lt (shr_lt 122 6 l)

  pub high_bits : bytes (part (bits b) 1 122 ++ zeros 6) ≡ top_of b
  unfolding bytes number
  high_bits =
      let D : List ℕ = digits 2 122 (num b / 64) in
      let e : take 122 (bits b) ≡ D = ap (take 122) bits_of ∙ part_digits 0 122 6 (num b) in
      let l : length (D ++ zeros 6) ≡ 128 = length-append D (zeros 6) ∙ ap (λ (k : ℕ). k + 6) (digits_length 2 122 (num b / 64)) in
      let n : str2num (D ++ zeros 6) ≡ num (top_of b) =
      number_append 2 D (zeros 6) ∙ ap (λ (k : ℕ). k * 64 + 0) high_number ∙ add-zero (num b / 64 * 64) ∙ sym top_number in
      ap (λ (S : List ℕ). bytes (S ++ zeros 6)) e
      ∙ ap₂ (λ (k m : ℕ). to_bytes (k / 8) m) l n
      ∙ ap (λ (k : ℕ). to_bytes k (num (top_of b))) (sym top_block.size)
      ∙ digits_number 256 byte_positive (top_of b) top_block.bytes

-- ---- Stretch and what is cut from it

pub stretch_same : (k : List ℕ) → Block k → bits (stretch_of k) ≡ Stretch k
unfolding stretch_of Stretch
stretch_same k h =
    let l : length (take 8 k) ≡ length (take 8 (drop 1 k)) =
    length-take-le 8 k (omega (arith, h.size)) ∙ sym (length-take-le 8 (drop 1 k) (omega (arith, h.size, length-drop 1 k))) in
    bits_append k (take 8 k xor take 8 (drop 1 k))
    ∙ ap (λ (S : List ℕ). bits k ++ S)
    (bits_xor (take 8 k) (take 8 (drop 1 k)) l
    ∙ ap₂ (λ (S U : List ℕ). S xor U) (bits_take 8 k) (bits_take 8 (drop 1 k) ∙ ap (take 64) (bits_drop 1 k)))

pub stretch_size : (k : List ℕ) → Block k → length (stretch_of k) ≡ 24
unfolding stretch_of
stretch_size k h =
    length-append k (take 8 k xor take 8 (drop 1 k))
    ∙ ap₂ (λ (i j : ℕ). i + j) h.size (xor_length (take 8 k) (take 8 (drop 1 k)) ∙ length-take-le 8 k (omega (arith, h.size)))

pub stretch_bytes : (k : List ℕ) → Block k → Bytes (stretch_of k)
unfolding stretch_of
stretch_bytes k h =
    bytes_append k (take 8 k xor take 8 (drop 1 k)) h.bytes
    (bytes_xor (take 8 k) (take 8 (drop 1 k)) (bytes_take 8 k h.bytes) (bytes_take 8 (drop 1 k) (bytes_drop 1 k h.bytes)))

pub cut_same : (S : List ℕ) (bottom : ℕ) → length S ≡ 24 → Bytes S → bottom < 64 → cut_of S bottom ≡ cut (bits S) bottom
unfolding cut cut_of bytes
cut_same S bottom hl hb h =
    let n : ℕ = num S / 2 ^ (64 - bottom) in
    let whole : 8 * length S ≡ bottom + (128 + (64 - bottom)) = omega arith in
    let count : 128 + bottom + 1 - (1 + bottom) ≡ 128 = omega arith in
    let first : 1 + bottom - 1 ≡ bottom = omega arith in
    let e : part (bits S) (1 + bottom) (128 + bottom) ≡ digits 2 128 (num S / 2 ^ (64 - bottom)) =
    ap₂ (λ (j k : ℕ). take j (drop k (bits S))) count first
    ∙ ap (λ (U : List ℕ). take 128 (drop bottom U)) (as_digits S hb ∙ ap (λ (k : ℕ). digits 2 k (num S)) whole)
    ∙ part_digits bottom 128 (64 - bottom) (num S) in
    sym (ap bytes e ∙ ap₂ (λ (k m : ℕ). to_bytes (k / 8) m) (digits_length 2 128 n) (number_digits 2 two_positive 128 n))

-- ---- the nonce block

-- what stands before the nonce, for each of the sizes: one computed test over them all
front_in_bits : ℕ → ℕ → List ℕ
front_in_bits t n = num2str (8 * t % 128) 7 ++ (zeros (120 - 8 * n) ++ (1 ∷ []))

front_test : ℕ → ℕ → Bool
front_test t n = same (bits (nonce_front t n)) (front_in_bits t n)

fronts : T (each (λ t. each (λ n. front_test (1 + t) (6 + n)) 10) 16)
unfolding front_test front_in_bits nonce_front same bits digits
fronts = tt

front_same : (t n : ℕ) → 1 ≤ t → t ≤ 16 → 6 ≤ n → n ≤ 15 → bits (nonce_front t n) ≡ front_in_bits t n
unfolding front_test
front_same t n ht kt hn kn =
    let et : 1 + (t - 1) ≡ t = omega arith in
    let en : 6 + (n - 6) ≡ n = omega arith in
    same_equal (bits (nonce_front t n)) (front_in_bits t n)
    (subst₂ (λ (i j : ℕ). T (front_test i j)) et en
    (below (λ j. front_test (1 + (t - 1)) (6 + j)) 10 (below (λ i. each (λ j. front_test (1 + i) (6 + j)) 10) 16 fronts (t - 1) (omega arith)) (n - 6) (omega arith)))

module _ (t : ℕ) (N : List ℕ) (least : 6 ≤ length N) (most : length N ≤ 15) (ht : 1 ≤ t) (kt : t ≤ 16) (h : Bytes N) where
  pub nonce_same : bits (nonce_block t N) ≡ Nonce t N
  unfolding nonce_block Nonce front_in_bits
  nonce_same =
      bits_append (nonce_front t (length N)) N
      ∙ ap (λ (S : List ℕ). S ++ bits N) (front_same t (length N) ht kt least most)
      ∙ append_assoc (num2str (8 * t % 128) 7) (zeros (120 - 8 * length N) ++ (1 ∷ [])) (bits N)
      ∙ ap (λ (S : List ℕ). num2str (8 * t % 128) 7 ++ S) (append_assoc (zeros (120 - 8 * length N)) (1 ∷ []) (bits N))

  pub nonce_block_lem : Block (nonce_block t N)
  unfolding nonce_block nonce_front
  nonce_block_lem =
      let front : List ℕ = 8 * t % 128 * 2 ∷ zeros (15 - length N) in
      let x : ℕ = bit_or (get_or front (15 - length N) 0) 1 in
      let even : Bytes front = bytes_cons (8 * t % 128 * 2) (zeros (15 - length N)) (omega arith) (bytes_zeros (15 - length N)) in
      record {
        size =
            length-append (set front (15 - length N) x) N
            ∙ omega (arith, length-set front (15 - length N) x, length-replicate {A = ℕ} (15 - length N) 0);
        bytes = bytes_append (set front (15 - length N) x) N
            (bytes_set front (15 - length N) x even (or_lt 8 (get_or front (15 - length N) 0) 1 (even (15 - length N)) (lit< tt))) h;
      }

  pub bottom_same : bottom_of (nonce_block t N) ≡ bottom t N
  unfolding bottom
  bottom_same = sym (low_bits (nonce_block t N) nonce_block_lem) ∙ ap (λ (S : List ℕ). str2num (part S 123 128)) nonce_same

  pub top_same : top_of (nonce_block t N) ≡ top t N
  unfolding top
  top_same = sym (high_bits (nonce_block t N) nonce_block_lem) ∙ ap (λ (S : List ℕ). bytes (part S 1 122 ++ zeros 6)) nonce_same

  -- THE FIRST OFFSET IS THE SAME IN BOTH READINGS, for a cipher that gives blocks
  pub offset_same : (K : Key) → ((b : List ℕ) → Block b → Block (K.ENCIPHER b)) → initial_offset K.ENCIPHER t N ≡ Offset-0 K t N
  unfolding initial_offset Offset-0
  offset_same K blocks =
      let b : List ℕ = nonce_block t N in
      let k : List ℕ = K.ENCIPHER (top_of (nonce_block t N)) in
      let hk : Block k = blocks (top_of b) (top_block b nonce_block_lem) in
      cut_same (stretch_of k) (bottom_of b) (stretch_size k hk) (stretch_bytes k hk) (unfold bottom_of in omega arith)
      ∙ ap (λ (S : List ℕ). cut S (bottom_of b)) (stretch_same k hk)
      ∙ ap₂ (λ (S : List ℕ) (n : ℕ). cut (Stretch (K.ENCIPHER S)) n) top_same bottom_same
