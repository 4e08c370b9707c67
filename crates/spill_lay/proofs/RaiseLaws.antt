-- Raising the places in the rows of entries gives the rows of the same entries at the raised place. Assumes nothing.
use mathlib.Core.Path.{◌≡◌, sym, ap, ap₂, ◌∙◌}
use mathlib.Core.List.{List, [], ◌∷◌, ◌++◌, append_assoc, append-nil}
use Prim.Native.Nat.{ℕ, zero, suc, ◌+◌, ◌*◌, ◌<◌, ◌≤◌}
use native.Mathlib.Nat.{add-zero}
use native.Mathlib.Omega.{arith}
use lib.ListN.{length, get_or, take, drop, take-append-drop, length-append}
use lib.Seq.{take-suc, drop-cons, length-take-le, take-length, drop-length}
use Rattle.block.specs.Words.{le, le_bytes}
use Rattle.block.proofs.WordLaws.{le_bytes_length}
use Rattle.spill_form.specs.File.{word_at, row_size, row_at}
use Rattle.spill_form.specs.Entries.{Entry, body, row, rows, bodies}
use Rattle.spill_form.specs.declared.Form.{Form}
use Rattle.spill_form.proofs.PlaceLaws.{bytes_at_whole, four_bytes}
use Rattle.spill_form.proofs.BuildLaws.{Proper, blank, Each, each_take, rows_size, rows_append, bodies_append}
use Rattle.spill_lay.specs.Steps.{over, raised}
use Rattle.spill_lay.proofs.StepLaws.{over_mid}

-- one row: its place alone is written
module _ (f : Form) (A : List ℕ) (q by : ℕ) (e : Entry) (W : List ℕ) (p : Proper e) (small : q < 4294967296) where
  front : List ℕ
  front = A ++ (e.nonce ++ e.ad)

  front_size : length front ≡ length A + 16
  unfolding front
  front_size = simp length-append (omega (arith, p.nonce_size, p.ad_size))

  tail : List ℕ
  tail = le_bytes 4 (length (body f e)) ++ take f.tag_in_row e.tag

  around : (x : ℕ) → A ++ (row f x e ++ W) ≡ front ++ (le_bytes 4 x ++ (tail ++ W))
  unfolding row front tail
  around x = simp append_assoc

  place_word : {at : ℕ} → at ≡ length A → word_at (A ++ (row f q e ++ W)) (at + 16) ≡ q
  place_word {at} h =
      ap (λ (l : List ℕ). word_at l (at + 16)) (around q)
      ∙ ap le (bytes_at_whole front (le_bytes 4 q) (tail ++ W) (at + 16) 4 (omega (arith, front_size)) (sym (le_bytes_length 4 q)))
      ∙ four_bytes q small

  pub raise_one : {at : ℕ} → at ≡ length A
      → over (A ++ (row f q e ++ W)) (at + 16) (le_bytes 4 (word_at (A ++ (row f q e ++ W)) (at + 16) + by)) ≡ A ++ (row f (q + by) e ++ W)
  raise_one {at} h =
      ap (λ (x : ℕ). over (A ++ (row f q e ++ W)) (at + 16) (le_bytes 4 (x + by))) (place_word h)
      ∙ ap (λ (l : List ℕ). over l (at + 16) (le_bytes 4 (q + by))) (around q)
      ∙ over_mid front (le_bytes 4 q) (tail ++ W) (le_bytes 4 (q + by)) (at + 16) (omega (arith, front_size)) (le_bytes_length 4 (q + by) ∙ sym (le_bytes_length 4 q))
      ∙ sym (around (q + by))

module _ (f : Form) (form : f.tag_in_row ≤ 16) (h : List ℕ) (four : length h ≡ 4) (p by : ℕ) (es : List Entry) (each : Each es) (Z : List ℕ)
    (small : p + length (bodies f es) < 4294967296) where
  -- the first i rows are raised
  abbrev partly : ℕ → List ℕ
  partly i = h ++ (rows f (p + by) (take i es) ++ (rows f (p + length (bodies f (take i es))) (drop i es) ++ Z))

  bodies_most : (i : ℕ) → i ≤ length es → length (bodies f (take i es)) ≤ length (bodies f es)
  bodies_most i l =
      let e : length (bodies f es) ≡ length (bodies f (take i es)) + length (bodies f (drop i es)) =
      ap (λ (x : List Entry). length (bodies f x)) (sym (take-append-drop i es))
      ∙ ap length (bodies_append f (take i es) (drop i es))
      ∙ length-append (bodies f (take i es)) (bodies f (drop i es)) in
      omega arith

  step : (i : ℕ) → i < length es → over (partly i) (row_at f i + 16) (le_bytes 4 (word_at (partly i) (row_at f i + 16) + by)) ≡ partly (suc i)
  unfolding rows row_at bodies
  step i l =
      let e : Entry = get_or es i blank in
      let ys : List Entry = drop (suc i) es in
      let q : ℕ = p + length (bodies f (take i es)) in
      let R : List ℕ = rows f (p + by) (take i es) in
      let A : List ℕ = h ++ R in
      let W : List ℕ = rows f (q + length (body f e)) ys ++ Z in
      let size : row_at f i ≡ length A =
      let a = rows_size f form (p + by) (take i es) (each_take es i (omega arith) each) in
      let b = ap (λ (n : ℕ). row_size f * n) (length-take-le i es (omega arith)) in
      sym (length-append h R ∙ omega arith) in
      let cut : drop i es ≡ e ∷ ys = drop-cons es i blank l in
      let now : partly i ≡ A ++ (row f q e ++ W) = ap (λ (x : List Entry). h ++ (R ++ (rows f q x ++ Z))) cut ∙ simp append_assoc in
      let first : take (suc i) es ≡ take i es ++ (e ∷ []) = take-suc es i blank l in
      let up : rows f (p + by) (take (suc i) es) ≡ R ++ (row f (q + by) e ++ []) =
      ap (rows f (p + by)) first ∙ rows_append f (p + by) (take i es) (e ∷ [])
      ∙ (let z : p + by + length (bodies f (take i es)) ≡ q + by = omega arith in ap (λ (x : ℕ). R ++ (row f x e ++ [])) z) in
      let next : p + length (bodies f (take (suc i) es)) ≡ q + length (body f e) =
      let z : length (bodies f (take (suc i) es)) ≡ length (bodies f (take i es)) + length (body f e) =
      ap (λ (x : List Entry). length (bodies f x)) first ∙ ap length (bodies_append f (take i es) (e ∷ [])) ∙ simp (length-append, append-nil) in
      omega arith in
      let then : partly (suc i) ≡ A ++ (row f (q + by) e ++ W) =
      ap₂ (λ (x : List ℕ) (k : ℕ). h ++ (x ++ (rows f k ys ++ Z))) up next ∙ simp (append_assoc, append-nil) in
      ap (λ (x : List ℕ). over x (row_at f i + 16) (le_bytes 4 (word_at x (row_at f i + 16) + by))) now
      ∙ raise_one f A q by e W (each i l) (omega (arith, bodies_most i (omega arith))) size
      ∙ sym then

  raised_is : (i : ℕ) → i ≤ length es → raised f by i (h ++ (rows f p es ++ Z)) ≡ partly i
  unfolding raised rows bodies
  raised_is zero l = ap (λ (k : ℕ). h ++ (rows f k es ++ Z)) (sym (add-zero p))
  raised_is (suc i) l =
      ap (λ (x : List ℕ). over x (row_at f i + 16) (le_bytes 4 (word_at x (row_at f i + 16) + by))) (raised_is i (omega arith)) ∙ step i (omega arith)

  pub raised_rows : {n : ℕ} → n ≡ length es → raised f by n (h ++ (rows f p es ++ Z)) ≡ h ++ (rows f (p + by) es ++ Z)
  unfolding rows
  raised_rows {n} e =
      ap (λ (k : ℕ). raised f by k (h ++ (rows f p es ++ Z))) e
      ∙ raised_is (length es) (omega arith)
      ∙ ap₂ (λ (x y : List Entry). h ++ (rows f (p + by) x ++ (rows f (p + length (bodies f (take (length es) es))) y ++ Z))) (take-length es) (drop-length es)
