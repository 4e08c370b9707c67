-- The theorems of reading. Each speaks of any answer that meets the promise of read (specs/Reads.antt), and so of what the code answers. On an accepted
-- file, row and tenant choose which body is read, and nothing else of the file matters. Assumes nothing.
use mathlib.Core.Path.{◌≡◌, refl, sym, ap, ap₂, subst, subst₂, ◌∙◌}
use mathlib.Core.Bool.{Bool, true, false, cond, ◌||◌}
use mathlib.Core.List.{List, ◌++◌}
use Prim.Native.Nat.{ℕ, zero, suc, ◌+◌, ◌-◌, ◌<◌, ◌≤◌}
use native.Mathlib.Omega.{arith}
use borrow.Author.Tests.{lt-leb, ne_eqb}
use lib.Dec.{leb, eqb}
use lib.ListN.{length, take, drop, length-append, length-drop}
use lib.Seq.{take_at, drop_at}
use Rattle.standards.specs.Strings.{Bytes, zeros}
use Rattle.block.proofs.StringLaws.{bytes_take}
use Rattle.ocb_variables.specs.declared.State.{State}
use Rattle.ocb.specs.Answers.{Outcome}
use Rattle.ocb.specs.Terms.{HoldsBytes}
use Rattle.ocb.proofs.AnyState.{open_length}
use Rattle.ocb.proofs.Demands.{refused_zero}
use Rattle.spill_form.specs.File.{bytes_at, least_body, count, row_at, ad_of, place_of, length_of, file_number, ◌or_else◌}
use Rattle.spill_form.specs.Accepted.{Accepted}
use Rattle.spill_form.specs.Entries.{Entry, text_length, entry}
use Rattle.spill_form.specs.Reading.{Reading, row_number, read_refused, unless_read, at_front, by_open, opened_entry, opened_row, reading}
use Rattle.spill_form.specs.declared.Form.{Form}
use Rattle.spill_form.proofs.PlaceLaws.{bytes_at_bytes, bytes_at_front, bytes_at_back}
use Rattle.spill_form.proofs.FileLaws.{else_zero, within}
use Rattle.spill_form.proofs.BuiltLaws.{entry_text_size}
use Rattle.spill_read.specs.Reads.{Reads, SameRow, Spares}
use Rattle.spill_read.specs.declared.Reply.{Reply}
use Rattle.spill_read.proofs.ReadLaws.{readable}

-- ---- the promise admits one answer

pub read_single : (x : Reading) (r q : Reply) {out₁ out₂ : List ℕ} → Reads x r out₁ → Reads x q out₂ → (r ≡ q) × (out₁ ≡ out₂)
read_single x r q R Q = (
  λ i. record {
    number = (R.number ∙ sym Q.number) i;
    calls = (R.calls ∙ sym Q.calls) i;
    written = (R.written ∙ sym Q.written) i;
  },
  R.out_left ∙ sym Q.out_left,
)

-- ---- rows that hold the same entry read alike

-- row i of S, and row j of S', of any forms
pub record SameEntry (f : Form) (S : List ℕ) (i : ℕ) (f' : Form) (S' : List ℕ) (j : ℕ) : Type 0 where
  pub entry_same : entry f S i ≡ entry f' S' j
  pub length_same : text_length f S i ≡ text_length f' S' j

module _ (f : Form) (S : List ℕ) (i : ℕ) (f' : Form) (S' : List ℕ) (j : ℕ) (same : SameEntry f S i f' S' j) where
  ad_same : ad_of f S i ≡ ad_of f' S' j
  unfolding entry
  ad_same = ap (λ (e : Entry). e.ad) same.entry_same

  row_number_same : (asking room : ℕ) → i < count S → j < count S' → row_number f S i asking room ≡ row_number f' S' j asking room
  unfolding row_number
  row_number_same asking room h k =
      let ci : leb (count S) i ≡ false = lt-leb _ _ h in
      let cj : leb (count S') j ≡ false = lt-leb _ _ k in
      let es = same.length_same in
      let ea = ad_same in
      cc

  opened_same : (s : State) (out : List ℕ) → opened_row f s S i out ≡ opened_row f' s S' j out
  unfolding opened_row
  opened_same s out = let es = same.length_same in let ee = same.entry_same in cc

pub reads_by_entry : (f f' : Form) (s : State) (B B' : List ℕ) (file file' i j asking : ℕ) (out : List ℕ)
    → file_number f B file ≡ 0 → file_number f' B' file' ≡ 0
    → i < count (take file B) → j < count (take file' B')
    → SameEntry f (take file B) i f' (take file' B') j
    → reading f s B file i asking out ≡ reading f' s B' file' j asking out
unfolding reading
reads_by_entry f f' s B B' file file' i j asking out a a' h k same =
    let n = row_number_same f (take file B) i f' (take file' B') j same asking (length out) h k in
    let o = opened_same f (take file B) i f' (take file' B') j same s out in
    simp (a, a', n, o)

-- ---- no other row's body affects the answer

same_entry : (f : Form) (S S' : List ℕ) (i : ℕ) → Accepted f S → Accepted f S' → i < count S → i < count S' → SameRow f S S' i
    → SameEntry f S i f S' i
unfolding entry
same_entry f S S' i a a' h h' same =
    let r = a.rows i h in
    let r' = a'.rows i h' in
    let t : ℕ = text_length f S i in
    let t' : ℕ = text_length f S' i in
    let l : ℕ = least_body f in
    let et : t ≡ t' = ap (λ (x : ℕ). x - l) same.length_same in
    let z : length_of f S i ≡ t + l = omega (arith, r.least) in
    let z' : length_of f S' i ≡ t' + l = omega (arith, r'.least) in
    let p : ℕ = place_of f S i in
    let p' : ℕ = place_of f S' i in
    let eb : bytes_at S p (t + l) ≡ bytes_at S' p' (t' + l) = sym (ap (bytes_at S p) z) ∙ same.body_same ∙ ap (bytes_at S' p') z' in
    let text : bytes_at S p t ≡ bytes_at S' p' t' = bytes_at_front S p t l ∙ ap₂ take et eb ∙ sym (bytes_at_front S' p' t' l) in
    let back : bytes_at S (p + t) l ≡ bytes_at S' (p' + t') l =
    bytes_at_back S p t l (omega (arith, z, r.end)) ∙ ap₂ drop et eb ∙ sym (bytes_at_back S' p' t' l (omega (arith, z', r'.end))) in
    let en = same.nonce_same in
    let ea = same.tenant_same in
    let eg = same.tag_same in
    record { entry_same = cc; length_same = et }

-- two accepted files, in buffers of any lengths and with anything behind them, whose row i is the same: number, calls, length written and every byte of
-- the output are the same, whatever the other rows and bodies are
pub read_isolated : (f : Form) (s : State) (B B' : List ℕ) (file file' i asking : ℕ) (out : List ℕ)
    → file_number f B file ≡ 0 → file_number f B' file' ≡ 0
    → i < count (take file B) → i < count (take file' B')
    → SameRow f (take file B) (take file' B') i
    → {r q : Reply} {out₁ out₂ : List ℕ} → Reads (reading f s B file i asking out) r out₁ → Reads (reading f s B' file' i asking out) q out₂
    → (r ≡ q) × (out₁ ≡ out₂)
read_isolated f s B B' file file' i asking out a a' h h' same {r} {q} {out₁} {out₂} R Q =
    let alike : reading f s B file i asking out ≡ reading f s B' file' i asking out =
    reads_by_entry f f s B B' file file' i i asking out a a' h h'
    (same_entry f (take file B) (take file' B') i (within f B file a).content (within f B' file' a').content h h' same) in
    read_single (reading f s B' file' i asking out) r q (subst (λ (x : Reading). Reads x r out₁) alike R) Q

-- ---- what never changes

-- of a reading that is refused
refused_spares : (out : List ℕ) {number : ℕ} → Spares out (record { number = number; calls = 0; written = 0 }) out
refused_spares out = record {
  within = omega arith;
  as_long = refl;
  behind = refl;
  cleared = λ z. refl;
  kept = λ z y. (refl, refl, refl);
}

-- of a text of n bytes that is opened at the front
front_spares : (out : List ℕ) (n : ℕ) (o : Outcome) → n ≤ length out → length o.text ≡ n → (o.number ≡ 7 → o.text ≡ zeros n)
    → eqb o.number 0 || eqb o.number 7 ≡ true
    → Spares out (record { number = o.number; calls = o.calls; written = n }) (o.text ++ drop n out)
front_spares out n o fits long zero_after_7 told = record {
  within = fits;
  as_long = omega (arith, length-append o.text (drop n out), length-drop n out);
  behind = drop_at o.text (drop n out) n long;
  cleared = λ z. take_at o.text (drop n out) n long ∙ zero_after_7 z;
  kept = λ z y. absurd (let a = ne_eqb o.number 0 z in let b = ne_eqb o.number 7 y in let c : ◌≡◌ {A = ℕ} 0 1 = cc in omega arith);
}

abbrev replied : Reading → Reply
replied x = record { number = x.number; calls = x.calls; written = x.written }

abbrev Leaves : List ℕ → Reading → Type 0
Leaves out x = Spares out (replied x) x.out

opened_spares : (out : List ℕ) (n : ℕ) (o : Outcome) → n ≤ length out → length o.text ≡ n → (o.number ≡ 7 → o.text ≡ zeros n)
    → Leaves out (by_open n o out)
opened_spares out n o fits long zero_after_7 = go (eqb o.number 0 || eqb o.number 7) refl
  where
    go : (b : Bool) → eqb o.number 0 || eqb o.number 7 ≡ b → Leaves out (cond b (at_front n o out) (read_refused out o.number))
    go true e = front_spares out n o fits long zero_after_7 e
    go false e = refused_spares out

-- whatever is refused beforehand
spares_unless : (n : ℕ) (out : List ℕ) (done : Reading) → (n ≡ 0 → Leaves out done) → Leaves out (unless_read n out done)
spares_unless zero out done h = h refl
spares_unless (suc n) out done h = refused_spares out

module _ (f : Form) (s : State) (B : List ℕ) (file i asking : ℕ) (out : List ℕ) (small : f.tag_in_row ≤ 16) (state_bytes : HoldsBytes s) (buffer_bytes : Bytes B) where
  S-bytes : Bytes (take file B)
  S-bytes = bytes_take file B buffer_bytes

  nonce_bytes : Bytes (entry f (take file B) i).nonce
  unfolding entry
  nonce_bytes = bytes_at_bytes (take file B) (row_at f i) 12 S-bytes

  text_bytes : Bytes (entry f (take file B) i).text
  unfolding entry
  text_bytes = bytes_at_bytes (take file B) (place_of f (take file B) i) (text_length f (take file B) i) S-bytes

  row_spares : file_number f B file or_else row_number f (take file B) i asking (length out) ≡ 0 → Leaves out (opened_row f s (take file B) i out)
  unfolding opened_row
  row_spares none =
      let S : List ℕ = take file B in
      let e : Entry = entry f S i in
      let numbers = else_zero (file_number f B file) _ none in
      let a = (within f B file numbers.0).content in
      let r = readable f S i asking (length out) numbers.1 in
      let long : length e.text ≡ text_length f S i = entry_text_size f S small a i r.below in
      opened_spares out (text_length f S i) (opened_entry s e) r.fits
      (open_length s state_bytes e.nonce e.ad e.text e.tag nonce_bytes text_bytes ∙ long)
      (λ z. (refused_zero s e.nonce e.ad e.text e.tag (record { number = refl; calls = refl; text_left = refl; tag_left = refl }) z).0 ∙ ap zeros long)

  pub read_spares : {r : Reply} {out' : List ℕ} → Reads (reading f s B file i asking out) r out' → Spares out r out'
  unfolding reading
  read_spares {r} {out'} R =
      let x : Reading = reading f s B file i asking out in
      let done : Leaves out x = spares_unless _ out (opened_row f s (take file B) i out) row_spares in
      let same = read_single x (replied x) r (record { number = refl; calls = refl; written = refl; out_left = refl }) R in
      subst₂ (Spares out) same.0 same.1 done
