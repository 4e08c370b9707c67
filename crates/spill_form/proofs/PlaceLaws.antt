-- Where rows start, and the bytes of a string from a place on. Assumes nothing.
use mathlib.Core.Path.{◌≡◌, refl, sym, ap, ap₂, ◌∙◌}
use mathlib.Core.List.{List, ◌++◌}
use Prim.Native.Nat.{ℕ, ◌+◌, ◌*◌, ◌^◌, ◌<◌, ◌≤◌}
use native.Mathlib.Nat.{add-zero, mul-suc, mul-le-mul_left}
use native.Mathlib.Numerals.{add-one}
use native.Mathlib.Omega.{arith}
use lib.Dec.{lit≤}
use lib.ListN.{length, take, drop, take-append-drop, length-take, length-drop}
use lib.Seq.{take_at, take-append-le, take-take, take-add, drop-append-add, drop-append-le, drop_at, drop-drop}
use Rattle.standards.specs.Strings.{Bytes}
use Rattle.block.specs.Words.{le, le_bytes}
use Rattle.block.proofs.StringLaws.{bytes_take, bytes_drop}
use Rattle.block.proofs.WordLaws.{le_le_bytes, le_bytes_le}
use Rattle.spill_form.specs.File.{bytes_at, word_at, row_size, row_at}
use Rattle.spill_form.specs.declared.Form.{Form}

-- ---- where rows start

pub row_next : (f : Form) (i : ℕ) → row_at f (i + 1) ≡ row_at f i + row_size f
unfolding row_at
row_next f i = omega (arith, ap (λ (k : ℕ). row_size f * k) (add-one i) ∙ mul-suc (row_size f) i)

row_mono : (f : Form) (i n : ℕ) → i ≤ n → row_at f i ≤ row_at f n
unfolding row_at
row_mono f i n h = omega (arith, mul-le-mul_left (row_size f) h)

pub row_within : (f : Form) (i n : ℕ) → i < n → row_at f i + row_size f ≤ row_at f n
row_within f i n h = omega (arith, row_next f i, row_mono f (i + 1) n (omega arith))

pub row_least : (f : Form) (i : ℕ) → 4 ≤ row_at f i
unfolding row_at
row_least f i = omega arith

-- ---- the bytes from a place on

pub bytes_at_length : (S : List ℕ) (i n : ℕ) → i + n ≤ length S → length (bytes_at S i n) ≡ n
bytes_at_length S i n h = simp (length-take, length-drop) (omega arith)

pub bytes_at_bytes : (S : List ℕ) (i n : ℕ) → Bytes S → Bytes (bytes_at S i n)
bytes_at_bytes S i n h = bytes_take n (drop i S) (bytes_drop i S h)

-- some of what stands between two strings, and all of it
pub bytes_at_in : (A M Z : List ℕ) (i k m : ℕ) → i ≡ length A + k → k + m ≤ length M → bytes_at (A ++ (M ++ Z)) i m ≡ bytes_at M k m
bytes_at_in A M Z i k m e h =
    ap (λ (j : ℕ). take m (drop j (A ++ (M ++ Z)))) e
    ∙ ap (take m) (drop-append-add A (M ++ Z) k ∙ drop-append-le k M Z (omega arith))
    ∙ take-append-le m (drop k M) Z (simp length-drop (omega arith))

pub bytes_at_whole : (A M Z : List ℕ) (i m : ℕ) → i ≡ length A → m ≡ length M → bytes_at (A ++ (M ++ Z)) i m ≡ M
bytes_at_whole A M Z i m ei em =
    ap₂ (λ (j k : ℕ). take k (drop j (A ++ (M ++ Z)))) (ei ∙ sym (add-zero (length A))) em
    ∙ ap (take (length M)) (drop-append-add A (M ++ Z) 0)
    ∙ take_at M Z (length M) refl

-- those from a place on and what is behind them are all from there on
pub drop_bytes_at : (S : List ℕ) (i n : ℕ) → drop i S ≡ bytes_at S i n ++ drop (i + n) S
drop_bytes_at S i n = sym (take-append-drop n (drop i S)) ∙ ap (λ (l : List ℕ). bytes_at S i n ++ l) (drop-drop n i S)

-- side by side
pub bytes_at_join : (S : List ℕ) (i n m : ℕ) → bytes_at S i n ++ bytes_at S (i + n) m ≡ bytes_at S i (n + m)
bytes_at_join S i n m = ap (λ (l : List ℕ). bytes_at S i n ++ take m l) (sym (drop-drop n i S)) ∙ sym (take-add n m (drop i S))

-- and taken apart again
pub bytes_at_front : (S : List ℕ) (p t l : ℕ) → bytes_at S p t ≡ take t (bytes_at S p (t + l))
bytes_at_front S p t l = sym (take-take t (t + l) (drop p S) (omega arith))

pub bytes_at_back : (S : List ℕ) (p t l : ℕ) → p + (t + l) ≤ length S → bytes_at S (p + t) l ≡ drop t (bytes_at S p (t + l))
bytes_at_back S p t l h =
    sym (drop_at (bytes_at S p t) (bytes_at S (p + t) l) t (bytes_at_length S p t (omega arith))) ∙ ap (drop t) (bytes_at_join S p t l)

-- ---- numbers in four bytes

pub four_bytes : (n : ℕ) → n < 4294967296 → le (le_bytes 4 n) ≡ n
four_bytes n h = le_le_bytes 4 n (omega (arith, lit≤ {m = 4294967296} {n = 256 ^ 4} tt))

pub word_at_bytes : (S : List ℕ) (i : ℕ) → Bytes S → i + 4 ≤ length S → le_bytes 4 (word_at S i) ≡ bytes_at S i 4
word_at_bytes S i b h =
    ap (λ (k : ℕ). le_bytes k (word_at S i)) (sym (bytes_at_length S i 4 h)) ∙ le_bytes_le (bytes_at S i 4) (bytes_at_bytes S i 4 b)
