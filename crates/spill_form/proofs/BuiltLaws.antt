-- An accepted file is the one that is built from its entries. Assumes nothing.
use mathlib.Core.Path.{◌≡◌, refl, sym, ap, ap₂, subst, ◌∙◌}
use mathlib.Core.List.{List, ◌++◌, append_assoc}
use Prim.Native.Nat.{ℕ, zero, suc, ◌+◌, ◌<◌, ◌≤◌}
use native.Mathlib.Nat.{add-zero, zero-add, mul-zero}
use native.Mathlib.Numerals.{add-one}
use native.Mathlib.Omega.{arith}
use lib.ListN.{length, get_or, take, drop, take-append-drop, length-append}
use lib.Seq.{drop-length, take_at, drop_at}
use Rattle.standards.specs.Strings.{Bytes}
use Rattle.block.specs.Words.{le_bytes}
use Rattle.spill_form.specs.File.{bytes_at, row_size, least_body, count, row_at, place_of, length_of, running}
use Rattle.spill_form.specs.Accepted.{Accepted}
use Rattle.spill_form.specs.Entries.{text_length, tag_of, entry, entries_from, entries, body, row, rows, bodies, build}
use Rattle.spill_form.specs.declared.Form.{Form}
use Rattle.spill_form.proofs.PlaceLaws.{row_next, row_within, bytes_at_length, bytes_at_join, drop_bytes_at, word_at_bytes}
use Rattle.spill_form.proofs.BuildLaws.{Proper, blank, Each}

-- parts side by side, by their places
joined : (S : List ℕ) (i j n m : ℕ) → j ≡ i + n → bytes_at S i n ++ bytes_at S j m ≡ bytes_at S i (n + m)
joined S i j n m e = ap (λ (k : ℕ). bytes_at S i n ++ bytes_at S k m) e ∙ bytes_at_join S i n m

-- ---- the list of entries

pub entries_length : (f : Form) (S : List ℕ) (i n : ℕ) → length (entries_from f S i n) ≡ n
unfolding entries_from
entries_length f S i zero = refl
entries_length f S i (suc n) = ap suc (entries_length f S (suc i) n)

pub entries_at : (f : Form) (S : List ℕ) (i n j : ℕ) → j < n → get_or (entries_from f S i n) j blank ≡ entry f S (i + j)
unfolding entries_from
entries_at f S i zero j h = absurd (omega arith)
entries_at f S i (suc n) zero h = ap (entry f S) (sym (add-zero i))
entries_at f S i (suc n) (suc j) h =
    let e : suc i + j ≡ i + suc j = omega arith in
    entries_at f S (suc i) n j (omega arith) ∙ ap (entry f S) e

module _ (f : Form) (S : List ℕ) (small : f.tag_in_row ≤ 16) (a : Accepted f S) where
  -- the table and the rows lie within the file
  row_end : (i : ℕ) → i < count S → row_at f i + row_size f ≤ length S
  row_end i h = omega (arith, row_within f i (count S) h, a.table.room)

  text_and_tag : (i : ℕ) → i < count S → text_length f S i + least_body f ≡ length_of f S i
  text_and_tag i h = omega (arith, (a.rows i h).least)

  row_tag : (i : ℕ) → i < count S → length (bytes_at S (row_at f i + 24) f.tag_in_row) ≡ f.tag_in_row
  row_tag i h = bytes_at_length S (row_at f i + 24) f.tag_in_row (omega (arith, row_end i h))

  pub body_is : (i : ℕ) → i < count S → body f (entry f S i) ≡ bytes_at S (place_of f S i) (length_of f S i)
  unfolding body entry
  body_is i h =
      ap (λ (l : List ℕ). bytes_at S (place_of f S i) (text_length f S i) ++ l)
      (drop_at (bytes_at S (row_at f i + 24) f.tag_in_row) (bytes_at S (place_of f S i + text_length f S i) (least_body f)) f.tag_in_row (row_tag i h))
      ∙ bytes_at_join S (place_of f S i) (text_length f S i) (least_body f)
      ∙ ap (bytes_at S (place_of f S i)) (text_and_tag i h)

  pub body_length : (i : ℕ) → i < count S → length (body f (entry f S i)) ≡ length_of f S i
  body_length i h = ap length (body_is i h) ∙ bytes_at_length S (place_of f S i) (length_of f S i) (a.rows i h).end

  pub entry_proper : (i : ℕ) → i < count S → Proper (entry f S i)
  unfolding entry
  entry_proper i h =
      let r = row_end i h in
      record {
        nonce_size = bytes_at_length S (row_at f i) 12 (omega arith);
        ad_size = bytes_at_length S (row_at f i + 12) 4 (omega arith);
        tag_size =
            length-append (bytes_at S (row_at f i + 24) f.tag_in_row) (bytes_at S (place_of f S i + text_length f S i) (least_body f))
            ∙ (let x = row_tag i h in
            let y = bytes_at_length S (place_of f S i + text_length f S i) (least_body f) (omega (arith, text_and_tag i h, (a.rows i h).end)) in omega arith);
        tenant = (a.rows i h).tenant;
      }

  pub each_entries : Each (entries f S)
  each_entries i h =
      let l : i < count S = omega (arith, entries_length f S 0 (count S)) in
      subst Proper (sym (entries_at f S 0 (count S) i l ∙ ap (entry f S) (zero-add i))) (entry_proper i l)

  pub entry_text_size : (i : ℕ) → i < count S → length (entry f S i).text ≡ text_length f S i
  unfolding entry
  entry_text_size i h = bytes_at_length S (place_of f S i) (text_length f S i) (omega (arith, text_and_tag i h, (a.rows i h).end))

  module _ (b : Bytes S) where
    row_is : (i : ℕ) → i < count S → row f (running f S i) (entry f S i) ≡ bytes_at S (row_at f i) (row_size f)
    unfolding row entry
    row_is i h =
        let at : ℕ = row_at f i in
        let w : ℕ = f.tag_in_row in
        let r = row_end i h in
        let ep : le_bytes 4 (running f S i) ≡ bytes_at S (at + 16) 4 =
        ap (le_bytes 4) (sym (a.rows i h).place) ∙ word_at_bytes S (at + 16) b (omega arith) in
        let ez : le_bytes 4 (length (body f (entry f S i))) ≡ bytes_at S (at + 20) 4 =
        ap (le_bytes 4) (body_length i h) ∙ word_at_bytes S (at + 20) b (omega arith) in
        let et : take w (tag_of f S i) ≡ bytes_at S (at + 24) w = take_at (bytes_at S (at + 24) w) (bytes_at S (place_of f S i + text_length f S i) (least_body f)) w (row_tag i h) in
        let j1 : bytes_at S (at + 20) 4 ++ bytes_at S (at + 24) w ≡ bytes_at S (at + 20) (4 + w) = joined S (at + 20) (at + 24) 4 w (omega arith) in
        let j2 : bytes_at S (at + 16) 4 ++ bytes_at S (at + 20) (4 + w) ≡ bytes_at S (at + 16) (4 + (4 + w)) = joined S (at + 16) (at + 20) 4 (4 + w) (omega arith) in
        let j3 : bytes_at S (at + 12) 4 ++ bytes_at S (at + 16) (4 + (4 + w)) ≡ bytes_at S (at + 12) (4 + (4 + (4 + w))) = joined S (at + 12) (at + 16) 4 (4 + (4 + w)) (omega arith) in
        let j4 : bytes_at S at 12 ++ bytes_at S (at + 12) (4 + (4 + (4 + w))) ≡ bytes_at S at (12 + (4 + (4 + (4 + w)))) = joined S at (at + 12) 12 (4 + (4 + (4 + w))) refl in
        let z : 12 + (4 + (4 + (4 + w))) ≡ row_size f = omega arith in
        let e1 : le_bytes 4 (length (body f (entry f S i))) ++ take w (tag_of f S i) ≡ bytes_at S (at + 20) (4 + w) = ap₂ (λ (x y : List ℕ). x ++ y) ez et ∙ j1 in
        let e2 : le_bytes 4 (running f S i) ++ (le_bytes 4 (length (body f (entry f S i))) ++ take w (tag_of f S i)) ≡ bytes_at S (at + 16) (4 + (4 + w)) =
        ap₂ (λ (x y : List ℕ). x ++ y) ep e1 ∙ j2 in
        ap (λ (l : List ℕ). bytes_at S at 12 ++ (bytes_at S (at + 12) 4 ++ l)) e2
        ∙ ap (λ (l : List ℕ). bytes_at S at 12 ++ l) j3
        ∙ j4
        ∙ ap (bytes_at S at) z

    rows_built : (k i : ℕ) → i + k ≡ count S → rows f (running f S i) (entries_from f S i k) ++ drop (row_at f (count S)) S ≡ drop (row_at f i) S
    unfolding rows entries_from running
    rows_built zero i e = ap (λ (j : ℕ). drop (row_at f j) S) (sym e ∙ add-zero i)
    rows_built (suc k) i e =
        let h : i < count S = omega arith in
        let next : running f S i + length (body f (entry f S i)) ≡ running f S (suc i) = ap (λ (x : ℕ). running f S i + x) (body_length i h) in
        let rest : List ℕ = rows f (running f S (suc i)) (entries_from f S (suc i) k) in
        let at_next : row_at f (suc i) ≡ row_at f i + row_size f = ap (row_at f) (sym (add-one i)) ∙ row_next f i in
        ap (λ (p : ℕ). (row f (running f S i) (entry f S i) ++ rows f p (entries_from f S (suc i) k)) ++ drop (row_at f (count S)) S) next
        ∙ append_assoc (row f (running f S i) (entry f S i)) rest (drop (row_at f (count S)) S)
        ∙ ap₂ (λ (x y : List ℕ). x ++ y) (row_is i h) (rows_built k (suc i) (omega arith) ∙ ap (λ (j : ℕ). drop j S) at_next)
        ∙ sym (drop_bytes_at S (row_at f i) (row_size f))

    bodies_built : (k i : ℕ) → i + k ≡ count S → bodies f (entries_from f S i k) ≡ drop (running f S i) S
    unfolding bodies entries_from running
    bodies_built zero i e =
        sym (ap (λ (j : ℕ). drop (running f S j) S) (sym (add-zero i) ∙ e) ∙ ap (λ (j : ℕ). drop j S) a.ended ∙ drop-length S)
    bodies_built (suc k) i e =
        let h : i < count S = omega arith in
        ap₂ (λ (x y : List ℕ). x ++ y)
        (body_is i h ∙ ap (λ (p : ℕ). bytes_at S p (length_of f S i)) (a.rows i h).place)
        (bodies_built k (suc i) (omega arith))
        ∙ sym (drop_bytes_at S (running f S i) (length_of f S i))

    -- THE LAW: nothing of an accepted file is lost in its entries
    pub built : build f (entries f S) ≡ S
    unfolding build running row_at
    built =
        let n : ℕ = count S in
        let len = entries_length f S 0 n in
        let t = a.table.counted in
        let head : le_bytes 4 (length (entries f S)) ≡ bytes_at S 0 4 = ap (le_bytes 4) len ∙ word_at_bytes S 0 b t in
        let start : row_at f (length (entries f S)) ≡ running f S 0 = ap (row_at f) len in
        let first : row_at f 0 ≡ 4 = ap (λ (x : ℕ). 4 + x) (mul-zero (row_size f)) in
        ap₂ (λ (x : List ℕ) (p : ℕ). x ++ (rows f p (entries f S) ++ bodies f (entries f S))) head start
        ∙ ap (λ (l : List ℕ). bytes_at S 0 4 ++ (rows f (running f S 0) (entries f S) ++ l)) (bodies_built n 0 (omega arith))
        ∙ ap (λ (l : List ℕ). bytes_at S 0 4 ++ l) (rows_built n 0 (omega arith) ∙ ap (λ (k : ℕ). drop k S) first)
        ∙ take-append-drop 4 S
