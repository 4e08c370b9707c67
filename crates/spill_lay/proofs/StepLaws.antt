-- Laws of writing over a buffer. Assumes nothing.
use mathlib.Core.Path.{◌≡◌, refl, sym, ap, ap₂, ◌∙◌}
use mathlib.Core.Bool.{Bool, cond}
use mathlib.Core.List.{List, [], ◌++◌, append_assoc, append-nil}
use Prim.Native.Nat.{ℕ, suc, ◌+◌, ◌-◌, ◌≤◌}
use native.Mathlib.Numerals.{add-one}
use native.Mathlib.Omega.{arith}
use borrow.Author.Tests.{eq-eqb}
use lib.ListN.{length, take, drop, length-append, length-take, length-drop}
use lib.Seq.{take_at, drop_at, length-take-le, drop-append-add, drop-drop}
use borrow.Rule.Slice.PartMut.{put_mid, Post-is}
use Rattle.std.specs.List.{copy_within}
use Rattle.block.specs.Words.{le_bytes}
use Rattle.block.proofs.WordLaws.{le_bytes_length}
use Rattle.spill_form.specs.File.{bytes_at, word_at, row_at}
use Rattle.spill_form.specs.declared.Form.{Form}
use Rattle.spill_form.proofs.PlaceLaws.{bytes_at_length, bytes_at_whole}
use Rattle.standards.specs.Strings.{zeros}
use Rattle.ocb_variables.specs.declared.State.{State}
use Rattle.ocb.specs.Answers.{Outcome, sealed, Leaves}
use Rattle.ocb.specs.declared.Answer.{Answer}
use Rattle.spill_form.specs.Adding.{of_twelve, sealed_for}
use Rattle.spill_lay.specs.Steps.{over, moved, raised, SealedAt}

pub over_length : (B : List ℕ) (at : ℕ) (M : List ℕ) → at + length M ≤ length B → length (over B at M) ≡ length B
unfolding over
over_length B at M h = simp (length-append, length-take, length-drop) (omega arith)

-- over what stands between two strings
pub over_mid : (A M Z N : List ℕ) (at : ℕ) → at ≡ length A → length N ≡ length M → over (A ++ (M ++ Z)) at N ≡ A ++ (N ++ Z)
unfolding over
over_mid A M Z N at e l =
    ap₂ (λ (x y : List ℕ). x ++ (N ++ y)) (take_at A (M ++ Z) at (sym e))
    (ap₂ (λ (i j : ℕ). drop (i + j) (A ++ (M ++ Z))) e l ∙ drop-append-add A (M ++ Z) (length M) ∙ drop_at M Z (length M) refl)

-- ---- writing, as block's functions promise it

pub copied : (B : List ℕ) (at : ℕ) (M : List ℕ) {x : List ℕ} → x ≡ take at B ++ (M ++ drop (at + length M) B) → x ≡ over B at M
unfolding over
copied B at M e = e

pub stored : (B : List ℕ) (at n : ℕ) {x : List ℕ} → x ≡ take at B ++ (le_bytes 4 n ++ drop (at + 4) B) → x ≡ over B at (le_bytes 4 n)
unfolding over
stored B at n e = e ∙ ap (λ (k : ℕ). take at B ++ (le_bytes 4 n ++ drop (at + k) B)) (sym (le_bytes_length 4 n))

-- and as copy_within does
pub moved_up : (B : List ℕ) (from to by : ℕ) → from ≤ to → to + by ≤ length B → copy_within B from to (from + by) ≡ moved B from to by
unfolding moved over
moved_up B from to by k h =
    let long : length (bytes_at B from (to - from)) ≡ to - from = bytes_at_length B from (to - from) (omega arith) in
    append_assoc (take (from + by) B) (bytes_at B from (to - from)) (drop (from + by + (to - from)) B)
    ∙ ap (λ (n : ℕ). take (from + by) B ++ (bytes_at B from (to - from) ++ drop (from + by + n) B)) (sym long)

-- ---- raising the places

pub raised_next : (f : Form) (by i : ℕ) (B : List ℕ) {x x' : List ℕ} {at place : ℕ} → x ≡ raised f by i B → at ≡ row_at f i → place ≡ word_at x (at + 16)
    → x' ≡ over x (at + 16) (le_bytes 4 (place + by)) → x' ≡ raised f by (i + 1) B
unfolding raised
raised_next f by i B {x} {x'} {at} {place} ex ea ep e =
    let next : raised f by (suc i) B ≡ raised f by (i + 1) B = ap (λ (k : ℕ). raised f by k B) (sym (add-one i)) in
    let step : over x (at + 16) (le_bytes 4 (place + by)) ≡ over (raised f by i B) (row_at f i + 16) (le_bytes 4 (word_at (raised f by i B) (row_at f i + 16) + by)) = cc in
    e ∙ step ∙ next

-- ---- one behind the other

pub over-over : (B : List ℕ) (at k : ℕ) (M N : List ℕ) → k ≡ at + length M → at + length M ≤ length B → over (over B at M) k N ≡ over B at (M ++ N)
unfolding over
over-over B at k M N ek h =
    let A : List ℕ = take at B in
    let Z : List ℕ = drop (at + length M) B in
    let la : length A ≡ at = length-take-le at B (omega arith) in
    let e : k ≡ length (A ++ M) = omega (arith, length-append A M) in
    let X : A ++ (M ++ Z) ≡ (A ++ M) ++ Z = sym (append_assoc A M Z) in
    let front : take k (A ++ (M ++ Z)) ≡ A ++ M = ap (take k) X ∙ take_at (A ++ M) Z k (sym e) in
    let place : at + length M + length N ≡ at + length (M ++ N) = omega (arith, length-append M N) in
    let back : drop (k + length N) (A ++ (M ++ Z)) ≡ drop (at + length (M ++ N)) B =
    ap₂ (λ (i : ℕ) (l : List ℕ). drop (i + length N) l) e X
    ∙ drop-append-add (A ++ M) Z (length N)
    ∙ drop-drop (length N) (at + length M) B
    ∙ ap (λ (i : ℕ). drop i B) place in
    ap₂ (λ (x y : List ℕ). x ++ (N ++ y)) front back
    ∙ append_assoc A M (N ++ drop (at + length (M ++ N)) B)
    ∙ ap (λ (l : List ℕ). A ++ l) (sym (append_assoc M N (drop (at + length (M ++ N)) B)))

pub row_written : (B : List ℕ) (at : ℕ) (N : List ℕ) (t p z : ℕ) (T : List ℕ) {B1 B2 B3 B4 B5 : List ℕ} → length N ≡ 12 → at + (24 + length T) ≤ length B
    → B1 ≡ over B at N → B2 ≡ over B1 (at + 12) (le_bytes 4 t) → B3 ≡ over B2 (at + 16) (le_bytes 4 p) → B4 ≡ over B3 (at + 20) (le_bytes 4 z) → B5 ≡ over B4 (at + 24) T
    → B5 ≡ over B at (N ++ (le_bytes 4 t ++ (le_bytes 4 p ++ (le_bytes 4 z ++ T))))
row_written B at N t p z T {B1} {B2} {B3} {B4} {B5} n h e1 e2 e3 e4 e5 =
    let lt = le_bytes_length 4 t in
    let lp = le_bytes_length 4 p in
    let lz = le_bytes_length 4 z in
    let M2 : List ℕ = N ++ le_bytes 4 t in
    let l2 : length M2 ≡ 16 = length-append N (le_bytes 4 t) ∙ omega arith in
    let M3 : List ℕ = M2 ++ le_bytes 4 p in
    let l3 : length M3 ≡ 20 = length-append M2 (le_bytes 4 p) ∙ omega arith in
    let M4 : List ℕ = M3 ++ le_bytes 4 z in
    let l4 : length M4 ≡ 24 = length-append M3 (le_bytes 4 z) ∙ omega arith in
    let f2 : B2 ≡ over B at M2 = e2 ∙ ap (λ (x : List ℕ). over x (at + 12) (le_bytes 4 t)) e1 ∙ over-over B at (at + 12) N (le_bytes 4 t) (omega arith) (omega arith) in
    let f3 : B3 ≡ over B at M3 = e3 ∙ ap (λ (x : List ℕ). over x (at + 16) (le_bytes 4 p)) f2 ∙ over-over B at (at + 16) M2 (le_bytes 4 p) (omega arith) (omega arith) in
    let f4 : B4 ≡ over B at M4 = e4 ∙ ap (λ (x : List ℕ). over x (at + 20) (le_bytes 4 z)) f3 ∙ over-over B at (at + 20) M3 (le_bytes 4 z) (omega arith) (omega arith) in
    let all : M4 ++ T ≡ N ++ (le_bytes 4 t ++ (le_bytes 4 p ++ (le_bytes 4 z ++ T))) = simp append_assoc in
    e5 ∙ ap (λ (x : List ℕ). over x (at + 24) T) f4 ∙ over-over B at (at + 24) M4 T (omega arith) (omega arith) ∙ ap (over B at) all

-- ---- a text sealed where it lies

pub of_twelve_lem : (N : List ℕ) → length N ≡ 12 → of_twelve N ≡ N
of_twelve_lem N h = ap (λ (b : Bool). cond b N []) (eq-eqb (length N) 12 h)

pub sealed_at : (s : State) (B : List ℕ) (at : ℕ) (N : List ℕ) (tenant : ℕ) (P : List ℕ) {t : ℕ} {B1 A C T : List ℕ} {r : Answer}
    → length N ≡ 12 → at + length P ≤ length B
    → B1 ≡ over B at P → A ≡ le_bytes 4 t ++ [] → length C ≡ length (take (at + length P - at) (drop at B1)) → length T ≡ 16
    → Leaves (sealed s N A (take (at + length P - at) (drop at B1)) (zeros 16)) r C T → t ≡ tenant
    → SealedAt s B at N tenant P (record { calls = r.calls; tag = T }) (put_mid at (at + length P - at) B1 C)
unfolding over
sealed_at s B at N tenant P {t} {B1} {A} {C} {T} {r} twelve h e1 ea l lt L et =
    let Z : List ℕ = drop (at + length P) B in
    let la : length (take at B) ≡ at = length-take-le at B (omega arith) in
    let k : at + length P - at ≡ length P = omega arith in
    let lent : take (at + length P - at) (drop at B1) ≡ P =
    ap₂ (λ (n : ℕ) (x : List ℕ). bytes_at x at n) k e1 ∙ bytes_at_whole (take at B) P Z at (length P) (sym la) refl in
    let ad : A ≡ le_bytes 4 tenant = ea ∙ append-nil (le_bytes 4 t) ∙ ap (le_bytes 4) et in
    let same : sealed s N A (take (at + length P - at) (drop at B1)) (zeros 16) ≡ sealed_for s N tenant P =
    ap₂ (λ (a p : List ℕ). sealed s N a p (zeros 16)) ad lent ∙ ap (λ (n : List ℕ). sealed s n (le_bytes 4 tenant) P (zeros 16)) (sym (of_twelve_lem N twelve)) in
    let text : C ≡ (sealed_for s N tenant P).text = L.text_left ∙ ap (λ (o : Outcome). o.text) same in
    let long : length C ≡ length P = l ∙ ap length lent in
    let front : take at B1 ≡ take at B = ap (take at) e1 ∙ take_at (take at B) (P ++ Z) at la in
    let back : drop (at + length P) B1 ≡ Z =
    ap (drop (at + length P)) e1 ∙ ap (λ (i : ℕ). drop (i + length P) (take at B ++ (P ++ Z))) (sym la)
    ∙ drop-append-add (take at B) (P ++ Z) (length P) ∙ drop_at P Z (length P) refl in
    record {
      calls = L.calls ∙ ap (λ (o : Outcome). o.calls) same;
      tag = L.tag_left ∙ ap (λ (o : Outcome). o.tag) same;
      tag_long = lt;
      long = sym (ap length text) ∙ long;
      left =
          ap (λ (x : List ℕ). take at B1 ++ (C ++ x)) (Post-is at (at + length P) B1 (omega arith) ∙ back)
          ∙ ap₂ (λ (x : List ℕ) (n : ℕ). x ++ (C ++ drop (at + n) B)) front (sym long)
          ∙ ap (λ (x : List ℕ). take at B ++ (x ++ drop (at + length x) B)) text;
    }
