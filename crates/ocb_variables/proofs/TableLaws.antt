-- The table of L values: its size, its rows, and the loop that fills it. A row is a double, so it has sixteen bytes, and row i starts at byte 16 i.
-- Assumes nothing.
use mathlib.Core.Path.{◌≡◌, refl, sym, ap, ap₂, ◌∙◌}
use mathlib.Core.List.{List, ◌++◌, append_assoc}
use Prim.Native.Nat.{ℕ, zero, suc, ◌+◌, ◌*◌, ◌-◌, ◌<◌, ◌≤◌}
use native.Mathlib.Decide.{dec_lt}
use native.Mathlib.Nat.{not-suc-le-zero}
use native.Mathlib.Numerals.{add-one}
use native.Mathlib.Omega.{arith}
use lib.ListN.{length, take, drop, length-append, length-replicate}
use lib.Seq.{take_at, drop_at, drop-drop}
use Rattle.sizes.specs.Sizes.{m_most, table_bytes}
use Rattle.standards.specs.Strings.{zeros, Bytes}
use Rattle.standards.specs.Rfc7253.{double, doubled, block_at}
use Rattle.block.proofs.StringLaws.{drop_zeros, bytes_none, bytes_append, bytes_zeros}
use Rattle.ocb_variables.specs.State.{rows, table_of}
use Rattle.ocb_variables.proofs.BlockLaws.{doubled_block}

-- ---- size and bytes

rows_length : (d : List ℕ) (m : ℕ) → length (rows d m) ≡ m * 16
unfolding rows
rows_length d zero = refl
rows_length d (suc m) =
    length-append (rows d m) (doubled (suc m) d) ∙ omega (arith, rows_length d m, (doubled_block m d).size)

rows_bytes : (d : List ℕ) (m : ℕ) → Bytes (rows d m)
unfolding rows
rows_bytes d zero = bytes_none
rows_bytes d (suc m) = bytes_append (rows d m) (doubled (suc m) d) (rows_bytes d m) (doubled_block m d).bytes

pub table_length : (d : List ℕ) (m : ℕ) → m ≤ m_most → length (table_of d m) ≡ table_bytes
unfolding table_of
table_length d m h = simp (length-append, length-replicate, rows_length d (m + 1)) (omega arith)

pub table_bytes_lem : (d : List ℕ) (m : ℕ) → Bytes (table_of d m)
unfolding table_of
table_bytes_lem d m =
    bytes_append (rows d (m + 1)) (zeros (table_bytes - (m + 1) * 16)) (rows_bytes d (m + 1)) (bytes_zeros (table_bytes - (m + 1) * 16))

-- ---- row i, whatever stands behind the rows

row-at : (d : List ℕ) (m i : ℕ) (behind : List ℕ) → i < m → block_at (rows d m ++ behind) i ≡ doubled (suc i) d
unfolding rows block_at
row-at d zero i behind h = absurd (not-suc-le-zero h)
row-at d (suc m) i behind h =
    ap (λ (S : List ℕ). block_at S i) (append_assoc (rows d m) (doubled (suc m) d) behind)
    ∙ go (dec_lt i m) (row-at d m i (doubled (suc m) d ++ behind))
  where
    Here : Type 0
    Here = block_at (rows d m ++ (doubled (suc m) d ++ behind)) i ≡ doubled (suc i) d

    go : Dec (i < m) → (i < m → Here) → Here
    go (yes l) earlier = earlier l
    go (no g) earlier =
        let e : i ≡ m = omega arith in
        ap (block_at (rows d m ++ (doubled (suc m) d ++ behind))) e
        ∙ ap (take 16) (drop_at (rows d m) (doubled (suc m) d ++ behind) (m * 16) (rows_length d m))
        ∙ take_at (doubled (suc m) d) behind 16 (doubled_block m d).size
        ∙ ap (λ (k : ℕ). doubled (suc k) d) (sym e)

pub table_at : (d : List ℕ) (m i : ℕ) → i ≤ m → block_at (table_of d m) i ≡ doubled (suc i) d
unfolding table_of
table_at d m i h = row-at d (m + 1) i (zeros (table_bytes - (m + 1) * 16)) (omega arith)

-- ---- the loop that fills the table

-- after i turns: i rows over the front of what stood there, and the last row made
pub record Filled (d before t l : List ℕ) (i : ℕ) : Type 0 where
  pub table : t ≡ rows d i ++ drop (i * 16) before
  pub last : l ≡ doubled i d

pub filled_none : (d before : List ℕ) → Filled d before before d 0
unfolding rows doubled
filled_none d before = record { table = refl; last = refl }

-- before the store: what is kept in front of the next row, and behind it
kept_front : (d before t l : List ℕ) (i : ℕ) → Filled d before t l i → take (i * 16) t ≡ rows d i
kept_front d before t l i F = ap (take (i * 16)) F.table ∙ take_at (rows d i) (drop (i * 16) before) (i * 16) (rows_length d i)

kept_back : (d before t l : List ℕ) (i : ℕ) → Filled d before t l i → drop (i * 16 + 16) t ≡ drop (i * 16 + 16) before
kept_back d before t l i F =
    sym (drop-drop 16 (i * 16) t)
    ∙ ap (drop 16) (ap (drop (i * 16)) F.table ∙ drop_at (rows d i) (drop (i * 16) before) (i * 16) (rows_length d i))
    ∙ drop-drop 16 (i * 16) before

pub filled_more : (d before t l t' l' : List ℕ) (i : ℕ) → Filled d before t l i → l' ≡ double l
    → t' ≡ take (i * 16) t ++ (l' ++ drop (i * 16 + 16) t) → Filled d before t' l' (i + 1)
unfolding rows doubled
filled_more d before t l t' l' i F el et =
    let next : i * 16 + 16 ≡ (i + 1) * 16 = omega arith in
    let made : l' ≡ doubled (suc i) d = el ∙ ap double F.last in
    record {
      table =
          et
          ∙ ap₂ (λ (S T : List ℕ). S ++ (l' ++ T)) (kept_front d before t l i F) (kept_back d before t l i F)
          ∙ sym (append_assoc (rows d i) l' (drop (i * 16 + 16) before))
          ∙ ap₂ (λ (S T : List ℕ). S ++ T)
          (ap (λ (S : List ℕ). rows d i ++ S) made ∙ ap (rows d) (sym (add-one i)))
          (ap (λ (k : ℕ). drop k before) next);
      last = made ∙ ap (λ (k : ℕ). doubled k d) (sym (add-one i));
    }

pub filled_all : (d t l : List ℕ) (m : ℕ) → Filled d (zeros table_bytes) t l (m + 1) → t ≡ table_of d m
unfolding table_of
filled_all d t l m F = F.table ∙ ap (λ (S : List ℕ). rows d (m + 1) ++ S) (drop_zeros ((m + 1) * 16) table_bytes)
