-- What is known of a row that is read, and what reading leaves. Assumes nothing.
use mathlib.Core.Path.{◌≡◌, refl, sym, ap, ap₂, subst, subst⁻¹, subst₂, ◌∙◌}
use mathlib.Core.Bool.{Bool, cond, not, ◌||◌}
use mathlib.Core.List.{List, ◌++◌}
use Prim.Native.Nat.{ℕ, zero, suc, ◌+◌, ◌<◌, ◌≤◌}
use native.Mathlib.Omega.{arith}
use borrow.Author.Tests.{leb-false, ltb-false, eqb-true, not-false, le-ltb, lt-leb, eq-eqb, ne_eqb}
use lib.Dec.{lit<, lit≤}
use lib.ListN.{length, take}
use Rattle.standards.specs.Rfc7253.{Plaintext, VALID, INVALID, OCB-DECRYPT}
use Rattle.ocb_numbers.specs.Numbers.{refusal}
use Rattle.ocb_numbers.proofs.RuleLaws.{first-none, none_applies}
use Rattle.ocb_numbers.proofs.Refusals.{refusal_most}
use Rattle.ocb_variables.specs.declared.State.{State}
use Rattle.ocb_variables.specs.Held.{held}
use Rattle.ocb.specs.Answers.{open_refused, unless, verdict, decrypted, opened}
use Rattle.ocb.proofs.AnyState.{asked}
use Rattle.spill_form.specs.File.{bytes_at, row_size, least_body, count, row_at, tenant_of, place_of, length_of, file_number, ◌or_else◌}
use Rattle.spill_form.specs.Accepted.{Accepted}
use Rattle.spill_form.specs.Entries.{text_length, tag_of, entry}
use Rattle.spill_form.specs.Reading.{Reading, row_rules, row_number, read_refused, unless_read, at_front, by_open, opened_row, reading}
use Rattle.spill_form.specs.declared.Form.{Form}
use Rattle.spill_form.proofs.PlaceLaws.{row_within}
use Rattle.spill_form.proofs.FileLaws.{else-first}
use Rattle.spill_form.proofs.BuildLaws.{Proper}
use Rattle.spill_form.proofs.BuiltLaws.{entry_proper, entry_text_size}
use Rattle.std.specs.Prelude.{Result, Err}
use Rattle.spill_form.specs.Numbers.{number_of}
use Rattle.spill_form.specs.declared.Refusal.{Refusal}
use Rattle.spill_form.proofs.Numbers.{numbered_from_1}
use Rattle.spill_read.specs.Reads.{Reads, refused, reply_of}
use Rattle.spill_read.specs.declared.Reply.{Reply}

-- ---- the numbers of a row

module _ (f : Form) (S : List ℕ) (i asking room : ℕ) where
  pub number_0 : i < count S → tenant_of f S i ≡ asking → text_length f S i ≤ room → 0 ≡ row_number f S i asking room
  unfolding row_number
  number_0 below own h = sym (first-none (row_rules f S i asking room) (lt-leb _ _ below, (ap not (eq-eqb _ _ own), (le-ltb _ _ h, tt))))

  pub record Readable : Type 0 where
    pub below : i < count S
    pub own : tenant_of f S i ≡ asking
    pub fits : text_length f S i ≤ room

  pub readable : row_number f S i asking room ≡ 0 → Readable
  unfolding row_number
  readable e =
      let none = none_applies 14 (row_rules f S i asking room) (lit< tt, lit≤ tt, (lit< tt, lit≤ tt, (lit< tt, lit≤ tt, tt))) e in
      record { below = leb-false _ _ none.0; own = eqb-true _ _ (not-false _ none.1.0); fits = ltb-false _ _ none.1.1.0 }

-- ---- a row of an accepted file: all of it lies within the file, and open asks for the number of its sizes

pub record RowOf (f : Form) (S : List ℕ) (i : ℕ) : Type 0 where
  pub few : i ≤ 256
  pub row_end : row_at f i + row_size f ≤ length S
  pub least : least_body f ≤ length_of f S i
  pub body_end : place_of f S i + length_of f S i ≤ length S

module _ (f : Form) (S : List ℕ) (i : ℕ) (small : f.tag_in_row ≤ 16) (a : Accepted f S) (h : i < count S) where
  pub row_of : RowOf f S i
  row_of =
      let s = a.rows i h in
      record {
        few = omega (arith, a.table.few);
        row_end = omega (arith, row_within f i (count S) h, a.table.room);
        least = s.least;
        body_end = s.end;
      }

  pub row_asked : (s : State)
      → asked s (entry f S i).nonce (entry f S i).ad (entry f S i).text (entry f S i).tag
      ≡ refusal s.values.m s.values.rounds 12 4 (text_length f S i) 16
  row_asked s =
      let p : Proper (entry f S i) = entry_proper f S small a i h in
      let n = p.nonce_size in
      let d = p.ad_size in
      let t = p.tag_size in
      let x = entry_text_size f S small a i h in
      cc

-- ---- what open says: 0 or 7 if no size is refused, else the number

module _ (s : State) (N A C T : List ℕ) (n : ℕ) (out : List ℕ) where
  pub open_done : asked s N A C T ≡ 0 → by_open n (opened s N A C T) out ≡ at_front n (opened s N A C T) out
  unfolding opened
  open_done none = rw none (go (OCB-DECRYPT (held s) (length T) N A (C ++ T)) _)
    where
      go : (D : Plaintext) (calls : ℕ) → by_open n (verdict D calls C T) out ≡ at_front n (verdict D calls C T) out
      go (VALID P) calls = refl
      go INVALID calls = refl

  pub open_refused_lem : {k : ℕ} → k ≡ asked s N A C T → (k ≡ 0 → ⊥) → by_open n (opened s N A C T) out ≡ read_refused out k
  unfolding opened
  open_refused_lem {k} e h =
      ap (λ (j : ℕ). by_open n (unless j (open_refused C T) (decrypted (held s) N A C T)) out) (sym e)
      ∙ go k h (omega (arith, e, refusal_most s.values.m s.values.rounds (length N) (length A) (length C) (length T)))
    where
      go : (j : ℕ) → (j ≡ 0 → ⊥) → j ≤ 6 → by_open n (unless j (open_refused C T) (decrypted (held s) N A C T)) out ≡ read_refused out j
      go zero h l = absurd (h refl)
      go (suc j) h l =
          ap₂ (λ (x y : Bool). cond (x || y) (at_front n (open_refused C T (suc j)) out) (read_refused out (suc j))) (ne_eqb (suc j) 0 h)
          (ne_eqb (suc j) 7 (λ z. omega arith))

-- ---- a row, from its parts as the code finds them

module _ (f : Form) (S : List ℕ) (i : ℕ) (small : f.tag_in_row ≤ 16) (a : Accepted f S) (h : i < count S)
    (s : State) (out : List ℕ) {n number : ℕ} (en : n ≡ text_length f S i) (asks : number ≡ refusal s.values.m s.values.rounds 12 4 n 16) where
  asks_row : number ≡ asked s (entry f S i).nonce (entry f S i).ad (entry f S i).text (entry f S i).tag
  asks_row = asks ∙ ap (λ (k : ℕ). refusal s.values.m s.values.rounds 12 4 k 16) en ∙ sym (row_asked f S i small a h s)

  pub row_refused : (number ≡ 0 → ⊥) → Reads (opened_row f s S i out) (record { number = number; calls = 0; written = 0 }) out
  unfolding opened_row
  row_refused refuses =
      let e = entry f S i in
      subst (λ (x : Reading). Reads x (record { number = number; calls = 0; written = 0 }) out)
      (sym (open_refused_lem s e.nonce e.ad e.text e.tag (text_length f S i) out asks_row refuses))
      (record { number = refl; calls = refl; written = refl; out_left = refl })

  pub row_opened : {at place : ℕ} {T : List ℕ} {r : Reply} {out' : List ℕ} → at ≡ row_at f i → place ≡ place_of f S i → number ≡ 0
      → T ≡ bytes_at S (at + 24) f.tag_in_row ++ bytes_at S (place + n) (least_body f)
      → Reads (at_front n (opened s (bytes_at S at 12) (bytes_at S (at + 12) 4) (bytes_at S place n) T) out) r out'
      → Reads (opened_row f s S i out) r out'
  unfolding opened_row entry
  row_opened {at} {place} {T} {r} {out'} ea ep none et given =
      let e = entry f S i in
      let tag : T ≡ tag_of f S i = let z = ea in let y = ep in let x = en in et ∙ cc in
      let same : at_front n (opened s (bytes_at S at 12) (bytes_at S (at + 12) 4) (bytes_at S place n) T) out
      ≡ at_front (text_length f S i) (opened s e.nonce e.ad e.text e.tag) out = cc in
      subst (λ (x : Reading). Reads x r out')
      (same ∙ sym (open_done s e.nonce e.ad e.text e.tag (text_length f S i) out (sym asks_row ∙ none))) given

-- ---- reading as a whole

pub not_read : (n : ℕ) {x : ℕ} (out : List ℕ) (done : Reading) → x ≡ n → (x ≡ 0 → ⊥)
    → Reads (unless_read n out done) (record { number = x; calls = 0; written = 0 }) out
not_read zero out done e h = absurd (h e)
not_read (suc n) out done e h = record { number = e; calls = refl; written = refl; out_left = refl }

module _ (f : Form) (s : State) (B : List ℕ) (file i asking : ℕ) (out : List ℕ) where
  pub refused_file : (e : Refusal) → number_of e ≡ file_number f B file → Reads (reading f s B file i asking out) (refused e) out
  unfolding reading
  refused_file e by =
      let h = numbered_from_1 e in
      not_read _ out _ (by ∙ sym (else-first (file_number f B file) _ (λ z. h (by ∙ z)))) h

  -- the form g and the bytes S are those of the file that is checked
  module _ {g : Form} {S : List ℕ} (same : (g ≡ f) × (S ≡ take file B)) (accepted : 0 ≡ file_number f B file) where
    numbers : file_number f B file or_else row_number f (take file B) i asking (length out) ≡ row_number g S i asking (length out)
    numbers =
        let z : file_number f B file ≡ 0 = sym accepted in
        rw z (ap₂ (λ (h : Form) (T : List ℕ). row_number h T i asking (length out)) (sym same.0) (sym same.1))

    pub refused_row : (e : Refusal) → number_of e ≡ row_number g S i asking (length out) → Reads (reading f s B file i asking out) (refused e) out
    unfolding reading
    refused_row e by = not_read _ out _ (by ∙ sym numbers) (numbered_from_1 e)

    pub read_row : {r : Reply} {out' : List ℕ} → 0 ≡ row_number g S i asking (length out) → Reads (opened_row g s S i out) r out'
        → Reads (reading f s B file i asking out) r out'
    unfolding reading
    read_row {r} {out'} none given =
        let z : file_number f B file or_else row_number f (take file B) i asking (length out) ≡ 0 = numbers ∙ sym none in
        rw z (subst₂ (λ (h : Form) (T : List ℕ). Reads (opened_row h s T i out) r out') same.0 same.1 given)

-- the reply of a refusal that was handed on
pub replied : {x : Reading} {out : List ℕ} {r : Result Reply Refusal} (e : Refusal) → r ≡ Err e → Reads x (refused e) out → Reads x (reply_of r) out
replied {x} {out} e is given = subst⁻¹ (λ (r : Result Reply Refusal). Reads x (reply_of r) out) is given
