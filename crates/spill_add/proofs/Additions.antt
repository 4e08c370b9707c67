-- The theorems of adding. Each speaks of any answer that meets the promise of add (specs/Adds.antt), and so of what the code answers: a file with a row
-- added is accepted, reads every earlier row as before and the new row as given, and nothing else in the buffer changes. Assumes nothing.
use mathlib.Core.Path.{◌≡◌, refl, sym, ap, ap₂, subst, ◌∙◌}
use mathlib.Core.Bool.{Bool, true, false, cond, ◌||◌}
use mathlib.Core.List.{List, [], ◌∷◌, ◌++◌, append-nil}
use Prim.Native.Nat.{ℕ, zero, suc, ◌+◌, ◌<◌, ◌≤◌}
use native.Mathlib.Nat.{zero-add}
use native.Mathlib.Omega.{arith}
use borrow.Author.Tests.{ltb-true, ltb-false}
use lib.Dec.{eqb, ltb}
use lib.ListN.{length, get_or, take, drop, length-append, length-drop, get_or-append}
use lib.Seq.{take_at, drop_at, get_or-append_seam}
use Rattle.standards.specs.Strings.{zeros}
use Rattle.block.specs.Words.{le, le_bytes}
use Rattle.block.proofs.StringLaws.{bytes_take}
use Rattle.block.proofs.WordLaws.{le_bytes_length}
use Rattle.ocb_numbers.specs.Numbers as calls
use Rattle.ocb_variables.specs.declared.State.{State}
use Rattle.ocb.specs.Answers.{Outcome, sealed}
use Rattle.ocb.proofs.AnyState.{asked, seal_lengths, seal_count, open_count}
use Rattle.ocb.proofs.Demands.{seal_opens}
use Rattle.spill_form.specs.File.{most_rows, count, row_at, ad_of, file_number, ◌or_else◌}
use Rattle.spill_form.specs.Accepted.{Accepted, Within}
use Rattle.spill_form.specs.Entries.{Entry, text_length, entry, entries, body, bodies, build}
use Rattle.spill_form.specs.Reading.{row_number, at_front, by_open, opened_entry, opened_row, reading}
use Rattle.spill_form.specs.Adding.{Adding, new_length, add_number, sealed_for, new_entry, unless_add, added, adding}
use Rattle.spill_form.specs.declared.Form.{Form}
use Rattle.spill_form.proofs.PlaceLaws.{row_next, four_bytes}
use Rattle.spill_form.proofs.FileLaws.{within, file_accepted, else_zero}
use Rattle.spill_form.proofs.BuildLaws.{Proper, blank, Each, Holds, body_size, bodies_append, build_length, build_count, build_accepted, entry_read, text_size, ad_read}
use Rattle.spill_form.proofs.BuiltLaws.{entries_length, entries_at, each_entries, entry_text_size, built}
use Rattle.spill_read.proofs.ReadLaws.{number_0}
use Rattle.spill_read.proofs.Isolation.{SameEntry, reads_by_entry}
use Rattle.spill_lay.proofs.StepLaws.{of_twelve_lem}
use Rattle.spill_add.specs.Adds.{Adds, Given, Spares}
use Rattle.spill_add.specs.declared.Addition.{Addition}
use Rattle.spill_add.proofs.AddLaws.{Room, room_for, seal_asked, admitted}

-- ---- the promise admits one answer

pub add_single : (x : Adding) (r q : Addition) {B₁ B₂ : List ℕ} → Adds x r B₁ → Adds x q B₂ → (r ≡ q) × (B₁ ≡ B₂)
add_single x r q R Q = (
  λ i. record {
    number = (R.number ∙ sym Q.number) i;
    calls = (R.calls ∙ sym Q.calls) i;
    file = (R.file ∙ sym Q.file) i;
  },
  R.buffer_left ∙ sym Q.buffer_left,
)

not_refused : (n : ℕ) (B : List ℕ) (file : ℕ) (x : Adding) → (unless_add n B file x).number ≡ 0 → n ≡ 0
not_refused zero B file x e = refl
not_refused (suc n) B file x e = e

-- what a refusal leaves
refused_left : (n : ℕ) (B : List ℕ) (file : ℕ) (x : Adding) {r : Addition} {B' : List ℕ} → Adds (unless_add n B file x) r B' → x.number ≡ 0 → (r.number ≡ 0 → ⊥)
    → (r.calls ≡ 0) × (r.file ≡ file) × (B' ≡ B)
refused_left zero B file x L done h = absurd (h (L.number ∙ done))
refused_left (suc n) B file x L done h = (L.calls, L.file, L.buffer_left)

-- each of a list with one more at its end
each_more : (es : List Entry) (e : Entry) → Each es → Proper e → Each (es ++ (e ∷ []))
each_more es e each p i h = go (ltb i (length es)) refl
  where
    go : (b : Bool) → ltb i (length es) ≡ b → Proper (get_or (es ++ (e ∷ [])) i blank)
    go true q = let l : i < length es = ltb-true i (length es) q in subst Proper (sym (get_or-append es (e ∷ []) blank i l)) (each i l)
    go false q =
        let l : i ≡ length es = omega (arith, ltb-false i (length es) q, length-append es (e ∷ [])) in
        subst Proper (sym (ap (λ (j : ℕ). get_or (es ++ (e ∷ [])) j blank) l ∙ get_or-append_seam es e [] blank)) p

-- ---- an addition that is not refused

module _ (f : Form) (small : f.tag_in_row ≤ 16) (s : State) (B : List ℕ) (file : ℕ) (N : List ℕ) (tenant : ℕ) (P : List ℕ) (g : Given s B N tenant P)
    (accepts : (adding f s B file N tenant P).number ≡ 0) where
  abbrev S : List ℕ
  S = take file B

  abbrev es : List Entry
  es = entries f S

  abbrev e : Entry
  e = new_entry s N tenant P

  abbrev all : List Entry
  all = es ++ (e ∷ [])

  abbrev A : List ℕ
  A = le_bytes 4 tenant

  numbers : (file_number f B file ≡ 0) × (add_number f S N tenant (length P) (length B) ≡ 0) × ((sealed_for s N tenant P).number ≡ 0)
  unfolding adding
  numbers =
      let z =
      not_refused (file_number f B file or_else add_number f S N tenant (length P) (length B) or_else (sealed_for s N tenant P).number) B file
      (added f s B file N tenant P) accepts in
      let p = else_zero (file_number f B file) _ z in
      let q = else_zero (add_number f S N tenant (length P) (length B)) _ p.1 in
      (p.0, q.0, q.1)

  is_done : adding f s B file N tenant P ≡ added f s B file N tenant P
  unfolding adding
  is_done = let a = numbers.0 in let b = numbers.1 in let c = numbers.2 in simp (a, b, c)

  w : Within f B file
  w = within f B file numbers.0

  room : Room f S N tenant (length P) (length B)
  room = room_for f S N tenant (length P) (length B) numbers.1

  nonce_size : length N ≡ 12
  nonce_size = admitted s N tenant P numbers.2

  -- sealed under the nonce as it is
  sealed_is : sealed_for s N tenant P ≡ sealed s N A P (zeros 16)
  sealed_is = ap (λ (n : List ℕ). sealed s n A P (zeros 16)) (of_twelve_lem N nonce_size)

  lengths : (length e.text ≡ length P) × (length e.tag ≡ 16)
  lengths =
      let l = seal_lengths s g.state_bytes N A P (zeros 16) g.nonce_bytes g.text_bytes in
      (ap (λ (o : Outcome). length o.text) sealed_is ∙ l.0, ap (λ (o : Outcome). length o.tag) sealed_is ∙ l.1)

  new_proper : Proper e
  new_proper = record {
    nonce_size = nonce_size;
    ad_size = le_bytes_length 4 tenant;
    tag_size = lengths.1;
    tenant = λ z. room.tenant_set (sym (four_bytes tenant g.tenant_size) ∙ z);
  }

  count-is : length es ≡ count S
  count-is = entries_length f S 0 (count S)

  entry_at : (i : ℕ) → i < count S → get_or es i blank ≡ entry f S i
  entry_at i h = entries_at f S 0 (count S) i h ∙ ap (entry f S) (zero-add i)

  each : Each es
  each = each_entries f S small w.content

  each_all : Each all
  each_all = each_more es e each new_proper

  all_length : length all ≡ count S + 1
  all_length = length-append es (e ∷ []) ∙ omega (arith, count-is)

  all_size : length (build f all) ≡ new_length f S (length P)
  unfolding bodies
  all_size =
      let old_size : length S ≡ row_at f (count S) + length (bodies f es) =
      sym (ap length (built f S small w.content (bytes_take file B g.buffer_bytes))) ∙ build_length f small es each
      ∙ ap (λ (n : ℕ). row_at f n + length (bodies f es)) count-is in
      let bs : length (bodies f all) ≡ length (bodies f es) + length (body f e) = ap length (bodies_append f es (e ∷ [])) ∙ simp (length-append, append-nil) in
      let b = body_size f small e new_proper in
      build_length f small all each_all
      ∙ ap (λ (n : ℕ). row_at f n + length (bodies f all)) all_length
      ∙ omega (arith, row_next f (count S), lengths.0)

  holds : Holds f all
  holds = record {
    form = small;
    each = each_all;
    few = omega (arith, all_length, w.content.table.few, let ne : count S ≡ most_rows → ⊥ = room.few in ne);
    most = omega (arith, all_size, room.most);
  }

  -- ---- the new file

  abbrev new : ℕ
  new = new_length f S (length P)

  abbrev B' : List ℕ
  B' = build f all ++ drop new B

  file_is : take new B' ≡ build f all
  file_is = take_at (build f all) (drop new B) new all_size

  accepted' : file_number f B' new ≡ 0
  accepted' =
      file_accepted f B' new
      (record {
        lent = omega (arith, length-append (build f all) (drop new B), all_size);
        most = room.most;
        content = subst (λ (F : List ℕ). Accepted f F) (sym file_is) (build_accepted f all holds);
      })

  whole_length : length B' ≡ length B
  whole_length = length-append (build f all) (drop new B) ∙ omega (arith, all_size, length-drop new B, room.lent)

  behind_file : drop new B' ≡ drop new B
  behind_file = drop_at (build f all) (drop new B) new all_size

  count' : count (take new B') ≡ count S + 1
  count' = ap count file_is ∙ build_count f all holds ∙ all_length

  -- ---- the earlier rows

  earlier : (i : ℕ) → i < count S → SameEntry f (take new B') i f S i
  earlier i h =
      let below : i < length all = omega (arith, all_length) in
      let at_i : get_or all i blank ≡ entry f S i = get_or-append es (e ∷ []) blank i (omega (arith, count-is)) ∙ entry_at i h in
      record {
        entry_same = ap (λ (F : List ℕ). entry f F i) file_is ∙ entry_read f all holds i below ∙ at_i;
        length_same =
            ap (λ (F : List ℕ). text_length f F i) file_is
            ∙ text_size f all holds i below
            ∙ ap (λ (x : Entry). length x.text) at_i
            ∙ entry_text_size f S small w.content i h;
      }

  -- ---- the new row

  abbrev n : ℕ
  n = count S

  newest : get_or all n blank ≡ e
  newest = ap (λ (j : ℕ). get_or all j blank) (sym count-is) ∙ get_or-append_seam es e [] blank

  below_new : n < length all
  below_new = omega (arith, all_length)

  entry_new : entry f (take new B') n ≡ e
  entry_new = ap (λ (F : List ℕ). entry f F n) file_is ∙ entry_read f all holds n below_new ∙ newest

  length_new : text_length f (take new B') n ≡ length P
  length_new =
      ap (λ (F : List ℕ). text_length f F n) file_is ∙ text_size f all holds n below_new ∙ ap (λ (x : Entry). length x.text) newest ∙ lengths.0

  tenant_new : le (ad_of f (take new B') n) ≡ tenant
  tenant_new =
      ap (λ (F : List ℕ). le (ad_of f F n)) file_is ∙ ap le (ad_read f all holds n below_new) ∙ ap (λ (x : Entry). le x.ad) newest
      ∙ four_bytes tenant g.tenant_size

  -- what was sealed opens to the text, and takes as many calls
  opens : ((opened_entry s e).number ≡ 0) × ((opened_entry s e).text ≡ P)
  opens =
      let o : Outcome = sealed_for s N tenant P in
      let q : Outcome = opened_entry s e in
      seal_opens s g.state_bytes N A P (zeros 16) g.nonce_bytes g.text_bytes
      {r = record { number = o.number; calls = o.calls }} {C = o.text} {T' = o.tag}
      (record {
        number = ap (λ (x : Outcome). x.number) sealed_is;
        calls = ap (λ (x : Outcome). x.calls) sealed_is;
        text_left = ap (λ (x : Outcome). x.text) sealed_is;
        tag_left = ap (λ (x : Outcome). x.tag) sealed_is;
      })
      numbers.2
      {q = record { number = q.number; calls = q.calls }} {P' = q.text} {T'' = q.tag}
      (record { number = refl; calls = refl; text_left = refl; tag_left = refl })

  calls_same : (opened_entry s e).calls ≡ (sealed_for s N tenant P).calls
  calls_same =
      let none : asked s N A P (zeros 16) ≡ 0 = seal_asked s N A P (zeros 16) ∙ ap (λ (x : Outcome). x.number) (sym sealed_is) ∙ numbers.2 in
      let l = lengths.0 in
      let t = lengths.1 in
      let same : asked s N A e.text e.tag ≡ asked s N A P (zeros 16) = cc in
      open_count s N A e.text e.tag (same ∙ none) ∙ ap (λ (x : ℕ). calls.count (length A) x) l
      ∙ sym (ap (λ (x : Outcome). x.calls) sealed_is ∙ seal_count s N A P (zeros 16) none)

  new_reads : (out : List ℕ) → length P ≤ length out
      → reading f s B' new n tenant out ≡ record { number = 0; calls = (sealed_for s N tenant P).calls; written = length P; out = P ++ drop (length P) out }
  unfolding reading opened_row
  new_reads out h =
      let r : row_number f (take new B') n tenant (length out) ≡ 0 =
      sym (number_0 f (take new B') n tenant (length out) (omega (arith, count')) tenant_new (omega (arith, length_new))) in
      simp (accepted', r) (by_open_lem (text_length f (take new B') n) (opened_entry s (entry f (take new B') n)) length_new (ap (opened_entry s) entry_new))
    where
      by_open_lem : (k : ℕ) (o : Outcome) → k ≡ length P → o ≡ opened_entry s e
          → by_open k o out ≡ record { number = 0; calls = (sealed_for s N tenant P).calls; written = length P; out = P ++ drop (length P) out }
      by_open_lem k o ek eo =
          let a : o.number ≡ 0 = ap (λ (x : Outcome). x.number) eo ∙ opens.0 in
          let b : o.calls ≡ (sealed_for s N tenant P).calls = ap (λ (x : Outcome). x.calls) eo ∙ calls_same in
          let c : o.text ≡ P = ap (λ (x : Outcome). x.text) eo ∙ opens.1 in
          ap (λ (m : ℕ). cond (eqb m 0 || eqb m 7) (at_front k o out) (record { number = o.number; calls = 0; written = 0; out = out })) a ∙ cc

-- ---- THE THEOREMS

module _ (f : Form) (small : f.tag_in_row ≤ 16) (s : State) (B : List ℕ) (file : ℕ) (N : List ℕ) (tenant : ℕ) (P : List ℕ) (g : Given s B N tenant P)
    {r : Addition} {B' : List ℕ} (L : Adds (adding f s B file N tenant P) r B') where
  module _ (accepts : r.number ≡ 0) where
    -- what the answer is, where it is not a refusal
    is : record { number = 0; calls = r.calls; file = r.file; buffer = B' } ≡ added f s B file N tenant P
    unfolding added
    is =
        let d = is_done f small s B file N tenant P g (sym L.number ∙ accepts) in
        let c = L.calls in
        let l = L.file in
        let b = L.buffer_left in
        cc

    -- the new file passes 10 to 12
    pub add_accepted : file_number f B' r.file ≡ 0
    unfolding added
    add_accepted =
        subst (λ (x : Adding). file_number f x.buffer x.file ≡ 0) (sym is) (accepted' f small s B file N tenant P g (sym L.number ∙ accepts))

    -- it has one row more
    pub add_count : count (take r.file B') ≡ count (take file B) + 1
    unfolding added
    add_count =
        subst (λ (x : Adding). count (take x.file x.buffer) ≡ count (take file B) + 1) (sym is)
        (count' f small s B file N tenant P g (sym L.number ∙ accepts))

    -- every earlier row reads as before: number, calls, text, for every state, every tenant and every output
    pub add_keeps : (s' : State) (i asking : ℕ) (out : List ℕ) → i < count (take file B)
        → reading f s' B' r.file i asking out ≡ reading f s' B file i asking out
    unfolding added
    add_keeps s' i asking out h =
        let a = sym L.number ∙ accepts in
        let new : ℕ = new_length f (take file B) (length P) in
        subst (λ (x : Adding). reading f s' x.buffer x.file i asking out ≡ reading f s' B file i asking out) (sym is)
        (reads_by_entry f f s' _ B new file i i asking out (accepted' f small s B file N tenant P g a) (numbers f small s B file N tenant P g a).0
        (omega (arith, count' f small s B file N tenant P g a)) h (earlier f small s B file N tenant P g a i h))

    -- the new row reads as given, under the state that sealed it, with as many calls
    pub add_gives : (out : List ℕ) → length P ≤ length out
        → reading f s B' r.file (count (take file B)) tenant out
        ≡ record { number = 0; calls = r.calls; written = length P; out = P ++ drop (length P) out }
    unfolding added
    add_gives out h =
        subst (λ (x : Adding). reading f s x.buffer x.file (count (take file B)) tenant out
        ≡ record { number = 0; calls = x.calls; written = length P; out = P ++ drop (length P) out }) (sym is)
        (new_reads f small s B file N tenant P g (sym L.number ∙ accepts) out h)

  -- what never changes
  done_spares : r.number ≡ 0 → Spares B file r B'
  unfolding added
  done_spares z =
      let buffer_is = ap (λ (x : Adding). x.buffer) (is z) in
      let file_is = ap (λ (x : Adding). x.file) (is z) in
      record {
        as_long = ap length buffer_is ∙ whole_length f small s B file N tenant P g (sym L.number ∙ z);
        behind = ap₂ drop file_is buffer_is ∙ behind_file f small s B file N tenant P g (sym L.number ∙ z) ∙ ap (λ (k : ℕ). drop k B) (sym file_is);
        kept = λ h. absurd (h z);
      }

  refused_spares : (r.number ≡ 0 → ⊥) → Spares B file r B'
  unfolding adding added
  refused_spares h =
      let number : ℕ = file_number f B file or_else add_number f (take file B) N tenant (length P) (length B) or_else (sealed_for s N tenant P).number in
      let left = refused_left number B file (added f s B file N tenant P) L refl h in
      record { as_long = ap length left.2; behind = ap (drop r.file) left.2; kept = λ z. left }

  pub add_spares : Spares B file r B'
  add_spares = go r.number refl
    where
      go : (k : ℕ) → r.number ≡ k → Spares B file r B'
      go zero z = done_spares z
      go (suc k) z = refused_spares (λ y. omega arith)
