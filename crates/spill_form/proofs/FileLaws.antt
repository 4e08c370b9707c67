-- The numbers 10, 11 and 12 against the tests that the code makes, and what a file is known to be where they are 0. Assumes nothing.
use mathlib.Core.Path.{◌≡◌, refl, sym, ap, ap₂, subst₂, ◌∙◌}
use mathlib.Core.Bool.{Bool, true, false, not, ◌||◌}
use mathlib.Core.List.{List}
use Prim.Native.Nat.{ℕ, zero, suc, ◌+◌, ◌<◌, ◌≤◌}
use native.Mathlib.Nat.{le_antisymm}
use native.Mathlib.Numerals.{add-one}
use native.Mathlib.Omega.{arith}
use borrow.Author.Tests.{ltb-false, eqb-true, eqb-false, not-false, lt-ltb, le-ltb, eq-eqb, ne_eqb}
use lib.Dec.{eqb, ltb, lit<, lit≤}
use lib.ListN.{length, take}
use Rattle.ocb_numbers.proofs.RuleLaws.{Numbered, first-at, first-none, none_applies}
use Rattle.spill_form.specs.File.{most_rows, most_bytes, least_body, count, row_at, tenant_of, place_of, length_of, running, no_table, flawed, any_below, content_rules, content_number, file_rules, file_number, ◌or_else◌}
use Rattle.spill_form.specs.Accepted.{Tabled, Sound, Accepted, Within, HasRow, Passed}
use Rattle.spill_form.specs.declared.Form.{Form}
use Rattle.spill_form.proofs.PlaceLaws.{row_within}

-- ---- tests

pub or-false : (a b : Bool) → a || b ≡ false → (a ≡ false) × (b ≡ false)
or-false true b e = absurd (let z : ◌≡◌ {A = ℕ} 0 1 = cc in omega arith)
or-false false b e = (refl, e)

pub or_right : (a b : Bool) → b ≡ true → a || b ≡ true
or_right true b e = refl
or_right false b e = e

-- ---- a test below a number

pub any_at : (test : ℕ → Bool) (n i : ℕ) → i < n → test i ≡ true → any_below test n ≡ true
unfolding any_below
any_at test zero i h e = absurd (omega arith)
any_at test (suc n) i h e = go (eqb i n) refl (λ l. any_at test n i l e)
  where
    go : (b : Bool) → eqb i n ≡ b → (i < n → any_below test n ≡ true) → any_below test n || test n ≡ true
    go true p before = or_right (any_below test n) (test n) (ap test (sym (eqb-true i n p)) ∙ e)
    go false p before = let ne : i ≡ n → ⊥ = eqb-false i n p in rw (before (omega arith))

none_below : (test : ℕ → Bool) (n i : ℕ) → any_below test n ≡ false → i < n → test i ≡ false
none_below test n i e h = go (test i) refl
  where
    go : (b : Bool) → test i ≡ b → test i ≡ false
    go false p = p
    go true p = absurd (let w = any_at test n i h p in let z : ◌≡◌ {A = ℕ} 0 1 = cc in omega arith)

all-below : (test : ℕ → Bool) (n : ℕ) → ((i : ℕ) → i < n → test i ≡ false) → any_below test n ≡ false
unfolding any_below
all-below test zero h = refl
all-below test (suc n) h = rw (all-below test n (λ i l. h i (omega arith))) (h n (omega arith))

-- a turn of a loop that looks for one
pub none_more : (test : ℕ → Bool) (i : ℕ) → any_below test i ≡ false → test i ≡ false → any_below test (i + 1) ≡ false
unfolding any_below
none_more test i e h = ap (any_below test) (add-one i) ∙ rw e h

-- ---- the table

module _ (f : Form) (S : List ℕ) where
  tabled : no_table f S ≡ false → Tabled f S
  unfolding no_table
  tabled e =
      let p = or-false (ltb (length S) 4 || ltb most_rows (count S)) _ e in
      let q = or-false (ltb (length S) 4) _ p.0 in
      record { counted = ltb-false _ _ q.0; few = ltb-false _ _ q.1; room = ltb-false _ _ p.1 }

  has_table : Tabled f S → no_table f S ≡ false
  unfolding no_table
  has_table t = simp (le-ltb _ _ t.counted, le-ltb _ _ t.few, le-ltb _ _ t.room)

-- ---- a row

module _ (f : Form) (S : List ℕ) (i : ℕ) where
  sound : flawed f S i ≡ false → Sound f S i
  unfolding flawed
  sound e =
      let p = or-false (eqb (tenant_of f S i) 0 || ltb (length_of f S i) (least_body f) || not (eqb (place_of f S i) (running f S i))) _ e in
      let q = or-false (eqb (tenant_of f S i) 0 || ltb (length_of f S i) (least_body f)) _ p.0 in
      let r = or-false (eqb (tenant_of f S i) 0) _ q.0 in
      record {
        tenant = eqb-false _ _ r.0;
        least = ltb-false _ _ r.1;
        place = eqb-true _ _ (not-false _ q.1);
        end = ltb-false _ _ p.1;
      }

  unflawed : Sound f S i → flawed f S i ≡ false
  unfolding flawed
  unflawed s = simp (ne_eqb _ _ s.tenant, le-ltb _ _ s.least, eq-eqb _ _ s.place, le-ltb _ _ s.end)

-- every row that is counted is there
pub has_row : (f : Form) (S : List ℕ) (i : ℕ) → f.tag_in_row ≤ 16 → Tabled f S → i < count S → HasRow f S i
has_row f S i small t h = record {
  form = small;
  few = omega (arith, t.few);
  inside = omega (arith, row_within f i (count S) h, t.room);
}

-- ---- the loop over the rows

pub passed_none : (f : Form) (S : List ℕ) {run : ℕ} → run ≡ row_at f (count S) → run ≤ length S → Passed f S 0 run
unfolding running any_below
passed_none f S e h = record { counted = omega arith; run_is = e; none = refl; most = h }

pub turn : (f : Form) (S : List ℕ) (i : ℕ) {run size : ℕ} → Passed f S i run → i < count S → size ≡ length_of f S i → flawed f S i ≡ false
    → Passed f S (i + 1) (run + size)
unfolding running
turn f S i {run} {size} p h es e =
    let s = sound f S i e in
    let next : running f S (suc i) ≡ running f S (i + 1) = ap (running f S) (sym (add-one i)) in
    record {
      counted = omega arith;
      run_is = ap₂ (λ (x y : ℕ). x + y) p.run_is es ∙ next;
      none = none_more (flawed f S) i p.none e;
      most = omega (arith, p.run_is, es, s.place, s.end);
    }

-- ---- the numbers as the code gives them

module _ (f : Form) (S : List ℕ) where
  pub number_10 : no_table f S ≡ true → 10 ≡ content_number f S
  unfolding content_number
  number_10 e = sym (first-at 0 (content_rules f S) tt e)

  module _ (t : Tabled f S) where
    pub number_11 : any_below (flawed f S) (count S) ≡ true → 11 ≡ content_number f S
    unfolding content_number
    number_11 e = sym (first-at 1 (content_rules f S) (has_table f S t, tt) e)

    module _ (none : any_below (flawed f S) (count S) ≡ false) where
      pub number_12 : running f S (count S) < length S → 12 ≡ content_number f S
      unfolding content_number
      number_12 h = sym (first-at 2 (content_rules f S) (has_table f S t, (none, tt)) (lt-ltb _ _ h))

      pub number_0 : length S ≤ running f S (count S) → 0 ≡ content_number f S
      unfolding content_number
      number_0 h = sym (first-none (content_rules f S) (has_table f S t, (none, (le-ltb _ _ h, tt))))

-- ---- a file is accepted exactly if its number is 0

-- bodies of sound rows end within the file
running_most : (f : Form) (S : List ℕ) → row_at f (count S) ≤ length S → (i : ℕ) → ((j : ℕ) → j < i → Sound f S j) → running f S i ≤ length S
unfolding running
running_most f S h zero s = h
running_most f S h (suc i) s = let t = s i (omega arith) in omega (arith, t.place, t.end)

content_numbered : (f : Form) (S : List ℕ) → Numbered 12 (content_rules f S)
content_numbered f S = (lit< tt, lit≤ tt, (lit< tt, lit≤ tt, (lit< tt, lit≤ tt, tt)))

accepted : (f : Form) (S : List ℕ) → content_number f S ≡ 0 → Accepted f S
unfolding content_number
accepted f S e =
    let none = none_applies 12 (content_rules f S) (content_numbered f S) e in
    let t = tabled f S none.0 in
    let s : (i : ℕ) → i < count S → Sound f S i = λ i h. sound f S i (none_below (flawed f S) (count S) i none.1.0 h) in
    record {
      table = t;
      rows = s;
      ended = le_antisymm (running_most f S t.room (count S) s) (ltb-false _ _ none.1.1.0);
    }

accepts : (f : Form) (S : List ℕ) → Accepted f S → content_number f S ≡ 0
accepts f S a =
    sym (number_0 f S a.table (all-below (flawed f S) (count S) (λ i h. unflawed f S i (a.rows i h))) (omega (arith, a.ended)))

module _ (f : Form) (B : List ℕ) (file : ℕ) where
  pub fits : file ≤ length B → file ≤ most_bytes → content_number f (take file B) ≡ file_number f B file
  unfolding file_number content_number
  fits h k = sym (simp (le-ltb (length B) file h, le-ltb most_bytes file k))

  pub within : file_number f B file ≡ 0 → Within f B file
  unfolding file_number content_number
  within e =
      let none = none_applies 12 (file_rules f B file) (lit< tt, lit≤ tt, content_numbered f (take file B)) e in
      let short = or-false (ltb (length B) file) _ none.0 in
      record {
        lent = ltb-false _ _ short.0;
        most = ltb-false _ _ short.1;
        content = accepted f (take file B) (first-none (content_rules f (take file B)) none.1);
      }

  pub file_accepted : Within f B file → file_number f B file ≡ 0
  file_accepted w = sym (fits w.lent w.most) ∙ accepts f (take file B) w.content

-- ---- the number of a file as the code gives it, whose table is that of the form f and the bytes S

module _ (f : Form) (B : List ℕ) (file : ℕ) (h : file ≤ length B) (k : file ≤ most_bytes) where
  pub tableless_file : no_table f (take file B) ≡ true → 10 ≡ file_number f B file
  tableless_file e = number_10 f (take file B) e ∙ fits f B file h k

  module _ {g : Form} {S : List ℕ} (same : (g ≡ f) × (S ≡ take file B)) (t : Tabled g S) where
    by : {n : ℕ} → n ≡ content_number g S → n ≡ file_number f B file
    by e = e ∙ ap₂ content_number same.0 same.1 ∙ fits f B file h k

    pub flawed_file : any_below (flawed g S) (count S) ≡ true → 11 ≡ file_number f B file
    flawed_file e = by (number_11 g S t e)

    pub longer_file : {run : ℕ} → Passed g S (count S) run → run < length S → 12 ≡ file_number f B file
    longer_file p l = by (number_12 g S t p.none (omega (arith, p.run_is)))

    pub whole_file : {run : ℕ} → Passed g S (count S) run → length S ≤ run → 0 ≡ file_number f B file
    whole_file p l = by (number_0 g S t p.none (omega (arith, p.run_is)))

-- a file whose number is 0 is accepted
pub checked : (f : Form) (B : List ℕ) (file : ℕ) {g : Form} {S : List ℕ} → (g ≡ f) × (S ≡ take file B) → 0 ≡ file_number f B file → Accepted g S
checked f B file same none = subst₂ Accepted (sym same.0) (sym same.1) (within f B file (sym none)).content

-- ---- one number or the next

pub else-first : (n m : ℕ) → (n ≡ 0 → ⊥) → n or_else m ≡ n
else-first zero m h = absurd (h refl)
else-first (suc n) m h = refl

pub else_zero : (n m : ℕ) → n or_else m ≡ 0 → (n ≡ 0) × (m ≡ 0)
else_zero zero m e = (refl, e)
else_zero (suc n) m e = absurd (omega arith)
