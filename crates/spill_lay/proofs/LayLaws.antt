-- The steps of adding, one after the other, leave the file of the entries and the new one. Assumes nothing.
use mathlib.Core.Path.{◌≡◌, refl, sym, ap, ap₂, subst, ◌∙◌}
use mathlib.Core.List.{List, [], ◌∷◌, ◌++◌, append_assoc, append-nil}
use Prim.Native.Nat.{ℕ, ◌+◌, ◌-◌, ◌≤◌}
use native.Mathlib.Omega.{arith}
use lib.ListN.{length, take, drop, take-append-drop, length-append, length-drop}
use lib.Seq.{take_all, length-take-le, take-append-add, drop-drop}
use Rattle.block.specs.Words.{le_bytes}
use Rattle.block.proofs.WordLaws.{le_bytes_length}
use Rattle.spill_form.specs.File.{most_rows, most_bytes, bytes_at, row_size, least_body, count, row_at}
use Rattle.spill_form.specs.Entries.{Entry, entries, body, row, rows, bodies, build}
use Rattle.spill_form.specs.declared.Form.{Form}
use Rattle.spill_form.proofs.PlaceLaws.{row_next, row_least}
use Rattle.ocb_variables.specs.declared.State.{State}
use Rattle.spill_lay.specs.Laying.{Laying}
use Rattle.spill_lay.specs.declared.Sealed.{Sealed}
use Rattle.spill_form.specs.Adding.{new_length, new_entry, added}
use Rattle.spill_form.proofs.BuiltLaws.{entries_length, each_entries, built}
use Rattle.spill_form.proofs.PlaceLaws.{bytes_at_whole, four_bytes}
use Rattle.spill_form.proofs.BuildLaws.{Proper, Each, body_size, row_size_lem, rows_size, rows_append, bodies_append, build_length}
use Rattle.spill_lay.specs.Steps.{over, moved, raised, SealedAt}
use Rattle.spill_lay.proofs.StepLaws.{over_mid}
use Rattle.spill_lay.proofs.RaiseLaws.{raised_rows}

-- over the front of what stands behind a string
over_next : (A Y N : List ℕ) (at : ℕ) → at ≡ length A → length N ≤ length Y → over (A ++ Y) at N ≡ A ++ (N ++ drop (length N) Y)
over_next A Y N at e h =
    ap (λ (l : List ℕ). over (A ++ l) at N) (sym (take-append-drop (length N) Y))
    ∙ over_mid A (take (length N) Y) (drop (length N) Y) N at e (sym (length-take-le (length N) Y h))

-- a buffer B whose first bytes are the file of the entries es, and a new entry e
module _ (f : Form) (form : f.tag_in_row ≤ 16) (es : List Entry) (each : Each es) (e : Entry) (p : Proper e) (B : List ℕ) (file : ℕ)
    (lent : file ≤ length B) (file_is : take file B ≡ build f es) (most : file ≤ 65536)
    (room : file + row_size f + length (body f e) ≤ length B) where
  n : ℕ
  n = length es

  end : ℕ
  end = row_at f (length es)

  by : ℕ
  by = row_size f

  h : List ℕ
  h = le_bytes 4 (length es)

  R : List ℕ
  R = rows f (row_at f (length es)) es

  D : List ℕ
  D = bodies f es

  X : List ℕ
  X = drop file B

  table_size : length (h ++ R) ≡ end
  unfolding h R end row_at
  table_size =
      let a = le_bytes_length 4 (length es) in
      let b = rows_size f form (row_at f (length es)) es each in
      length-append h R ∙ omega arith

  file_size : file ≡ end + length D
  unfolding end D
  file_size = sym (length-take-le file B lent) ∙ ap length file_is ∙ build_length f form es each

  whole : B ≡ (h ++ R) ++ (D ++ X)
  unfolding h R D X build
  whole = sym (take-append-drop file B) ∙ ap (λ (l : List ℕ). l ++ drop file B) file_is ∙ simp append_assoc

  Y : List ℕ
  Y = drop (file + by) B

  G : List ℕ
  G = take by (D ++ X)

  G-size : length G ≡ by
  unfolding G X by
  G-size = length-take-le by (D ++ X) (omega (arith, length-append D X, length-drop file B))

  Y-size : length (body f e) ≤ length Y
  unfolding Y by
  Y-size = omega (arith, length-drop (file + by) B)

  -- the bodies moved up
  step1 : moved B end file by ≡ ((h ++ R) ++ G) ++ (D ++ Y)
  unfolding moved over G Y
  step1 =
      let k : file - end ≡ length D = omega (arith, file_size) in
      let body_part : bytes_at B end (file - end) ≡ D =
      ap₂ (λ (l : List ℕ) (m : ℕ). bytes_at l end m) whole k ∙ bytes_at_whole (h ++ R) D X end (length D) (sym table_size) refl in
      let front : take (end + by) B ≡ (h ++ R) ++ G =
      ap₂ (λ (i : ℕ) (l : List ℕ). take (i + by) l) (sym table_size) whole ∙ take-append-add (h ++ R) (D ++ X) by in
      let place : end + by + length D ≡ file + by = omega (arith, file_size) in
      ap₂ (λ (a b : List ℕ). a ++ (b ++ drop (end + by + length b) B)) front body_part
      ∙ ap (λ (i : ℕ). ((h ++ R) ++ G) ++ (D ++ drop i B)) place

  C : List ℕ
  C = e.text

  T2 : List ℕ
  T2 = drop f.tag_in_row e.tag

  CT : length (body f e) ≡ length C + length T2
  unfolding C T2 body
  CT = length-append e.text (drop f.tag_in_row e.tag)

  before : List ℕ
  before = ((h ++ R) ++ G) ++ D

  before_size : length before ≡ file + by
  unfolding before
  before_size = length-append ((h ++ R) ++ G) D ∙ omega (arith, length-append (h ++ R) G, table_size, G-size, file_size)

  -- the ciphertext and what of the tag stands behind it
  step2 : over (((h ++ R) ++ G) ++ (D ++ Y)) (file + by) C ≡ before ++ (C ++ drop (length C) Y)
  unfolding before
  step2 =
      ap (λ (l : List ℕ). over l (file + by) C) (sym (append_assoc ((h ++ R) ++ G) D Y))
      ∙ over_next (((h ++ R) ++ G) ++ D) Y C (file + by) (sym before_size) (omega (arith, CT, Y-size))

  Y3 : List ℕ
  Y3 = drop (file + by + length (body f e)) B

  step3 : {k : ℕ} → k ≡ file + by + length C → over (before ++ (C ++ drop (length C) Y)) k T2 ≡ before ++ (C ++ (T2 ++ Y3))
  unfolding Y3 Y
  step3 {k} ek =
      let rest : drop (length T2) (drop (length C) (drop (file + by) B)) ≡ drop (file + by + length (body f e)) B =
      drop-drop (length T2) (length C) (drop (file + by) B) ∙ drop-drop (length C + length T2) (file + by) B ∙ ap (λ (i : ℕ). drop (file + by + i) B) (sym CT) in
      ap (λ (l : List ℕ). over l k T2) (sym (append_assoc before C (drop (length C) Y)))
      ∙ over_next (before ++ C) (drop (length C) Y) T2 k (omega (arith, length-append before C, before_size))
      (omega (arith, length-drop (length C) Y, CT, Y-size))
      ∙ ap (λ (l : List ℕ). (before ++ C) ++ (T2 ++ l)) rest
      ∙ append_assoc before C (T2 ++ drop (file + by + length (body f e)) B)

  r : List ℕ
  r = row f (file + row_size f) e

  behind : List ℕ
  behind = D ++ (C ++ (T2 ++ Y3))

  -- the row
  step4 : over (before ++ (C ++ (T2 ++ Y3))) end r ≡ (h ++ R) ++ (r ++ behind)
  unfolding before behind r by
  step4 =
      let around : (((h ++ R) ++ G) ++ D) ++ (C ++ (T2 ++ Y3)) ≡ (h ++ R) ++ (G ++ (D ++ (C ++ (T2 ++ Y3)))) = simp append_assoc in
      ap (λ (l : List ℕ). over l end (row f (file + row_size f) e)) around
      ∙ over_mid (h ++ R) G (D ++ (C ++ (T2 ++ Y3))) (row f (file + row_size f) e) end (sym table_size) (row_size_lem f form (file + row_size f) e p ∙ sym G-size)

  -- the count
  h' : List ℕ
  h' = le_bytes 4 (length es + 1)

  step5 : over ((h ++ R) ++ (r ++ behind)) 0 h' ≡ h' ++ (R ++ (r ++ behind))
  unfolding h h'
  step5 =
      ap (λ (l : List ℕ). over l 0 (le_bytes 4 (length es + 1))) (append_assoc h R (r ++ behind))
      ∙ over_mid [] h (R ++ (r ++ behind)) (le_bytes 4 (length es + 1)) 0 refl (le_bytes_length 4 (length es + 1) ∙ sym (le_bytes_length 4 (length es)))

  -- the places
  step6 : raised f by n (h' ++ (R ++ (r ++ behind))) ≡ h' ++ (rows f (row_at f (length es) + by) es ++ (r ++ behind))
  unfolding R h' n end D
  step6 =
      raised_rows f form h' (le_bytes_length 4 (length es + 1)) (row_at f (length es)) by es each (r ++ behind)
      (omega (arith, file_size)) refl

  -- the file of the entries and the new one
  target : build f (es ++ (e ∷ [])) ++ Y3 ≡ h' ++ (rows f (row_at f (length es) + by) es ++ (r ++ behind))
  unfolding build rows bodies body h' by r behind C T2 D end
  target =
      let len : length (es ++ (e ∷ [])) ≡ length es + 1 = length-append es (e ∷ []) in
      let at : row_at f (length (es ++ (e ∷ []))) ≡ row_at f (length es) + row_size f = ap (row_at f) len ∙ row_next f (length es) in
      let place : row_at f (length es) + row_size f + length (bodies f es) ≡ file + row_size f = omega (arith, file_size) in
      let rs : rows f (row_at f (length es) + row_size f) (es ++ (e ∷ [])) ≡ rows f (row_at f (length es) + row_size f) es ++ (row f (file + row_size f) e ++ []) =
      rows_append f (row_at f (length es) + row_size f) es (e ∷ []) ∙ ap (λ (x : ℕ). rows f (row_at f (length es) + row_size f) es ++ (row f x e ++ [])) place in
      let bs = bodies_append f es (e ∷ []) in
      ap₂ (λ (x y : ℕ). (le_bytes 4 (x) ++ (rows f y (es ++ (e ∷ [])) ++ bodies f (es ++ (e ∷ [])))) ++ Y3) len at
      ∙ ap₂ (λ (x y : List ℕ). (le_bytes 4 (length es + 1) ++ (x ++ y)) ++ Y3) rs bs
      ∙ simp (append_assoc, append-nil)

  -- as the code goes: the bodies, the ciphertext, the tag's rest, the row, the count, the places
  pub laid_out : {n' end' k size : ℕ} {B1 B2 B3 B4 B5 B6 : List ℕ} → n' ≡ length es → end' ≡ row_at f (length es)
      → k ≡ file + row_size f + length e.text → size ≡ length (body f e)
      → B1 ≡ moved B end' file (row_size f)
      → B2 ≡ over B1 (file + row_size f) e.text
      → B3 ≡ over B2 k (drop f.tag_in_row e.tag)
      → B4 ≡ over B3 end' (e.nonce ++ (e.ad ++ (le_bytes 4 (file + row_size f) ++ (le_bytes 4 size ++ take f.tag_in_row e.tag))))
      → B5 ≡ over B4 0 (le_bytes 4 (n' + 1))
      → B6 ≡ raised f (row_size f) n' B5
      → B6 ≡ build f (es ++ (e ∷ [])) ++ drop (file + row_size f + length (body f e)) B
  unfolding by end n C T2 r h' Y3 row
  laid_out {n'} {end'} {k} {size} {B1} {B2} {B3} {B4} {B5} {B6} en ee ek ez e1 e2 e3 e4 e5 e6 =
      let f1 : B1 ≡ ((h ++ R) ++ G) ++ (D ++ Y) = e1 ∙ ap (λ (x : ℕ). moved B x file (row_size f)) ee ∙ step1 in
      let f2 : B2 ≡ before ++ (C ++ drop (length C) Y) = e2 ∙ ap (λ (l : List ℕ). over l (file + row_size f) e.text) f1 ∙ step2 in
      let f3 : B3 ≡ before ++ (C ++ (T2 ++ Y3)) = e3 ∙ ap (λ (l : List ℕ). over l k T2) f2 ∙ step3 ek in
      let f4 : B4 ≡ (h ++ R) ++ (r ++ behind) =
      e4 ∙ ap₂ (λ (l : List ℕ) (x : ℕ). over l x (e.nonce ++ (e.ad ++ (le_bytes 4 (file + row_size f) ++ (le_bytes 4 size ++ take f.tag_in_row e.tag))))) f3 ee
      ∙ ap (λ (z : ℕ). over (before ++ (C ++ (T2 ++ Y3))) end (e.nonce ++ (e.ad ++ (le_bytes 4 (file + row_size f) ++ (le_bytes 4 z ++ take f.tag_in_row e.tag))))) ez
      ∙ step4 in
      let f5 : B5 ≡ h' ++ (R ++ (r ++ behind)) =
      e5 ∙ ap₂ (λ (l : List ℕ) (x : ℕ). over l 0 (le_bytes 4 (x + 1))) f4 en ∙ step5 in
      e6 ∙ ap₂ (λ (l : List ℕ) (x : ℕ). raised f (row_size f) x l) f5 en ∙ step6 ∙ sym target

-- ---- what the code's needs come to

pub record Facts (f : Form) (B : List ℕ) (file n : ℕ) (P : List ℕ) : Type 0 where
  pub form : f.tag_in_row ≤ 16
  pub few : n ≤ most_rows
  pub four : 4 ≤ row_at f n
  pub end_most : row_at f n ≤ file
  pub room : file + (24 + f.tag_in_row) + (length P + (16 - f.tag_in_row)) ≤ length B
  pub most : file + (24 + f.tag_in_row) + (length P + (16 - f.tag_in_row)) ≤ most_bytes

pub facts : {f : Form} {B : List ℕ} {file n : ℕ} {N : List ℕ} {tenant : ℕ} {P : List ℕ} → Laying f B file n N tenant P → Facts f B file n P
facts {f} {B} {file} {n} l =
    let long = length-take-le file B l.accepted.lent in
    let e = ap (row_at f) l.counted in
    record {
      form = l.form;
      few = omega (arith, l.few);
      four = row_least f n;
      end_most = omega (arith, l.accepted.content.table.room);
      room = omega (arith, l.room);
      most = omega (arith, l.most);
    }

-- the calls are those of the seal
pub calls_are : (f : Form) (s : State) (B : List ℕ) (file : ℕ) (N : List ℕ) (tenant : ℕ) (P : List ℕ) {B₁ B₂ : List ℕ} {at : ℕ} {r : Sealed}
    → SealedAt s B₁ at N tenant P r B₂ → r.calls ≡ (added f s B file N tenant P).calls
unfolding added
calls_are f s B file N tenant P sealed = sealed.calls

-- as the code goes, in the code's own terms
pub laid_by : (f : Form) (s : State) (B : List ℕ) (file n : ℕ) (N : List ℕ) (tenant : ℕ) (P : List ℕ) → Laying f B file n N tenant P
    → {end by at place size rows lift : ℕ} {r : Sealed} {B1 B2 B3 B4 B5 B6 : List ℕ} → end ≡ row_at f n
    → B1 ≡ moved B end file by
    → SealedAt s B1 at N tenant P r B2
    → B3 ≡ over B2 (at + length P) (take (16 - f.tag_in_row) (drop f.tag_in_row r.tag))
    → B4 ≡ over B3 end (N ++ (le_bytes 4 tenant ++ (le_bytes 4 place ++ (le_bytes 4 size ++ take f.tag_in_row r.tag))))
    → B5 ≡ over B4 0 (le_bytes 4 rows)
    → B6 ≡ raised f lift n B5
    → by ≡ row_size f → at ≡ file + row_size f → place ≡ file + row_size f → size ≡ length P + least_body f → rows ≡ n + 1
    → lift ≡ row_size f
    → B6 ≡ (added f s B file N tenant P).buffer
unfolding added
laid_by f s B file n N tenant P l {end} {by} {at} {place} {size} {rows} {lift} {r} {B1} {B2} {B3} {B4} {B5} {B6} ee e1 sealed_there e3 e4 e5 e6 eb ea ep ez er el =
    let sealed : SealedAt s B1 (file + row_size f) N tenant P r B2 = subst (λ (x : ℕ). SealedAt s B1 x N tenant P r B2) ea sealed_there in
    let S : List ℕ = take file B in
    let es : List Entry = entries f S in
    let e : Entry = new_entry s N tenant P in
    let long : length S ≡ file = length-take-le file B l.accepted.lent in
    let en : n ≡ length es = l.counted ∙ sym (entries_length f S 0 (count S)) in
    let tag_size : length e.tag ≡ 16 = sym (ap length sealed.tag) ∙ sealed.tag_long in
    let p : Proper e = record {
      nonce_size = l.nonce_size;
      ad_size = le_bytes_length 4 tenant;
      tag_size = tag_size;
      tenant = λ z. l.tenant_set (sym (four_bytes tenant l.tenant_size) ∙ z);
    } in
    let body_long : length (body f e) ≡ length P + (16 - f.tag_in_row) = body_size f l.form e p ∙ ap (λ (x : ℕ). x + (16 - f.tag_in_row)) sealed.long in
    let rest : take (16 - f.tag_in_row) (drop f.tag_in_row r.tag) ≡ drop f.tag_in_row e.tag =
    take_all (16 - f.tag_in_row) (drop f.tag_in_row r.tag) (omega (arith, length-drop f.tag_in_row r.tag, sealed.tag_long))
    ∙ ap (drop f.tag_in_row) sealed.tag in
    let end_is : file + row_size f + length (body f e) ≡ new_length f S (length P) = omega (arith, body_long, long) in
    laid_out f l.form es (each_entries f S l.form l.accepted.content) e p B file l.accepted.lent (sym (built f S l.form l.accepted.content l.bytes))
    (omega (arith, l.most, long)) (omega (arith, l.room, end_is))
    en (ee ∙ ap (row_at f) en) (ap (λ (x : ℕ). file + row_size f + x) (sym sealed.long)) (sym body_long)
    (e1 ∙ ap (moved B end file) eb) sealed.left
    (e3 ∙ ap₂ (λ (x : ℕ) (y : List ℕ). over B2 (x + length P) y) ea rest)
    (e4 ∙ ap₂ (λ (x y : ℕ). over B3 end (N ++ (le_bytes 4 tenant ++ (le_bytes 4 x ++ (le_bytes 4 y ++ take f.tag_in_row r.tag))))) ep ez
    ∙ ap (λ (x : List ℕ). over B3 end (N ++ (le_bytes 4 tenant ++ (le_bytes 4 (file + row_size f) ++ (le_bytes 4 (length P + least_body f) ++ take f.tag_in_row x))))) sealed.tag)
    (e5 ∙ ap (λ (x : ℕ). over B4 0 (le_bytes 4 x)) er) (e6 ∙ ap (λ (x : ℕ). raised f x n B5) el)
    ∙ ap (λ (x : ℕ). build f (es ++ (e ∷ [])) ++ drop x B) end_is
