-- What is known where adding is not refused, and adding as a whole. Assumes nothing.
use mathlib.Core.Path.{◌≡◌, refl, sym, ap, ap₂, subst, subst⁻¹, ◌∙◌}
use mathlib.Core.Bool.{Bool, true, false, cond, ◌||◌}
use mathlib.Core.List.{List, []}
use Prim.Native.Nat.{ℕ, zero, suc, ◌<◌, ◌≤◌}
use native.Mathlib.Omega.{arith}
use borrow.Author.Tests.{ltb-false, eqb-true, eqb-false}
use lib.Dec.{eqb, ltb, lit<, lit≤}
use lib.ListN.{length, take}
use Rattle.standards.specs.Strings.{Bytes, zeros}
use Rattle.block.specs.Words.{le_bytes}
use Rattle.block.proofs.StringLaws.{bytes_take}
use Rattle.block.proofs.WordLaws.{le_bytes_length}
use Rattle.ocb_numbers.specs.Numbers.{refusal}
use Rattle.ocb_numbers.proofs.RuleLaws.{none_applies}
use Rattle.ocb_numbers.proofs.Refusals.{in_range}
use Rattle.ocb_variables.specs.declared.State.{State}
use Rattle.ocb_variables.specs.Held.{held}
use Rattle.ocb.specs.Answers.{seal_refused, unless, encrypted, sealed}
use Rattle.ocb.proofs.AnyState.{asked}
use Rattle.spill_form.specs.File.{most_rows, most_bytes, count, file_number, ◌or_else◌}
use Rattle.spill_form.specs.Adding.{Adding, new_length, nonce_in, add_rules, add_number, of_twelve, sealed_for, unless_add, added, adding}
use Rattle.spill_form.specs.declared.Form.{Form}
use Rattle.spill_form.proofs.FileLaws.{or-false, else-first, within}
use Rattle.spill_lay.specs.Laying.{Laying}
use Rattle.std.specs.Prelude.{Result, Err}
use Rattle.spill_form.specs.Numbers.{number_of}
use Rattle.spill_form.specs.declared.Refusal.{Refusal}
use Rattle.spill_form.proofs.Numbers.{numbered_from_1}
use Rattle.spill_add.specs.Adds.{Adds, refused, addition_of}
use Rattle.spill_add.specs.declared.Addition.{Addition}

-- ---- where none of 17, 15 and 16 is given, for a file S in a buffer of `room` bytes and a text of k bytes

module _ (f : Form) (S N : List ℕ) (tenant k room : ℕ) where
  pub record Room : Type 0 where
    pub tenant_set : tenant ≡ 0 → ⊥
    pub fresh : nonce_in f S N ≡ false
    pub few : count S ≡ most_rows → ⊥
    pub most : new_length f S k ≤ most_bytes
    pub lent : new_length f S k ≤ room

  pub room_for : add_number f S N tenant k room ≡ 0 → Room
  unfolding add_number
  room_for e =
      let none = none_applies 17 (add_rules f S N tenant k room) (lit< tt, lit≤ tt, (lit< tt, lit≤ tt, (lit< tt, lit≤ tt, tt))) e in
      let p = or-false (eqb (count S) most_rows || ltb most_bytes (new_length f S k)) _ none.1.1.0 in
      let q = or-false (eqb (count S) most_rows) _ p.0 in
      record {
        tenant_set = eqb-false _ _ none.0;
        fresh = none.1.0;
        few = eqb-false _ _ q.0;
        most = ltb-false _ _ q.1;
        lent = ltb-false _ _ p.1;
      }

-- ---- seal's numbers

pub seal_asked : (s : State) (N A P T : List ℕ) → asked s N A P T ≡ (sealed s N A P T).number
unfolding sealed
seal_asked s N A P T = go (asked s N A P T)
  where
    go : (n : ℕ) → n ≡ (unless n (seal_refused P T) (encrypted (held s) N A P T)).number
    go zero = refl
    go (suc n) = refl

-- a nonce is as long as it is, or as none
twelve_long : (N : List ℕ) → length (of_twelve N) ≡ cond (eqb (length N) 12) 12 0
twelve_long N = go (eqb (length N) 12) refl
  where
    go : (b : Bool) → eqb (length N) 12 ≡ b → length (cond b N []) ≡ cond b 12 0
    go true e = eqb-true (length N) 12 e
    go false e = refl

module _ (s : State) (N : List ℕ) (tenant : ℕ) (P : List ℕ) where
  asks : asked s (of_twelve N) (le_bytes 4 tenant) P (zeros 16) ≡ refusal s.values.m s.values.rounds (cond (eqb (length N) 12) 12 0) 4 (length P) 16
  asks =
      let a = twelve_long N in
      let b = le_bytes_length 4 tenant in
      let c : length (zeros 16) ≡ 16 = refl in
      cc

  pub seal_number : {k : ℕ} → k ≡ refusal s.values.m s.values.rounds (cond (eqb (length N) 12) 12 0) 4 (length P) 16 → k ≡ (sealed_for s N tenant P).number
  seal_number e = e ∙ sym asks ∙ seal_asked s (of_twelve N) (le_bytes 4 tenant) P (zeros 16)

  -- where seal admits, the nonce has twelve bytes
  pub admitted : (sealed_for s N tenant P).number ≡ 0 → length N ≡ 12
  admitted e = go (eqb (length N) 12) refl (sym asks ∙ seal_asked s (of_twelve N) (le_bytes 4 tenant) P (zeros 16) ∙ e)
    where
      go : (b : Bool) → eqb (length N) 12 ≡ b → refusal s.values.m s.values.rounds (cond b 12 0) 4 (length P) 16 ≡ 0 → length N ≡ 12
      go true p q = eqb-true _ _ p
      go false p q = absurd (omega (arith, (in_range s.values.m s.values.rounds 0 4 (length P) 16 q).1.nonce_size.from))

-- ---- adding as a whole

pub not_added : (n : ℕ) {x : ℕ} (B : List ℕ) (file : ℕ) (done : Adding) → x ≡ n → (x ≡ 0 → ⊥)
    → Adds (unless_add n B file done) (record { number = x; calls = 0; file = file }) B
not_added zero B file done e h = absurd (h e)
not_added (suc n) B file done e h = record { number = e; calls = refl; file = refl; buffer_left = refl }

module _ (f : Form) (s : State) (B : List ℕ) (file : ℕ) (N : List ℕ) (tenant : ℕ) (P : List ℕ) where
  -- the three numbers, in their order
  abbrev number₁ : ℕ
  number₁ = file_number f B file

  abbrev number₂ : ℕ
  number₂ = add_number f (take file B) N tenant (length P) (length B)

  abbrev number₃ : ℕ
  number₃ = (sealed_for s N tenant P).number

  pub refused_file : (e : Refusal) → number_of e ≡ number₁ → Adds (adding f s B file N tenant P) (refused file e) B
  unfolding adding
  refused_file e by =
      let h = numbered_from_1 e in
      not_added _ B file _ (by ∙ sym (else-first number₁ _ (λ z. h (by ∙ z)))) h

  -- the form g and the bytes S are those of the file that is checked
  pub room_is : {g : Form} {S : List ℕ} {x : ℕ} → (g ≡ f) × (S ≡ take file B) → x ≡ add_number g S N tenant (length P) (length B) → x ≡ number₂
  room_is same e = e ∙ ap₂ (λ (h : Form) (T : List ℕ). add_number h T N tenant (length P) (length B)) same.0 same.1

  module _ (accepted : number₁ ≡ 0) where
    pub refused_add : (e : Refusal) → number_of e ≡ number₂ → Adds (adding f s B file N tenant P) (refused file e) B
    unfolding adding
    refused_add e by =
        let h = numbered_from_1 e in
        let z : number₁ or_else number₂ or_else number₃ ≡ number₂ = rw accepted (else-first number₂ number₃ (λ z. h (by ∙ z))) in
        not_added (number₁ or_else number₂ or_else number₃) B file _ (by ∙ sym z) h

    module _ (has_room : number₂ ≡ 0) where
      pub refused_seal : (e : Refusal) → number_of e ≡ number₃ → Adds (adding f s B file N tenant P) (refused file e) B
      unfolding adding
      refused_seal e by =
          let z : number₁ or_else number₂ or_else number₃ ≡ number₃ = simp (accepted, has_room) in
          not_added (number₁ or_else number₂ or_else number₃) B file _ (by ∙ sym z) (numbered_from_1 e)

      module _ (seals : number₃ ≡ 0) where
        pub done : {calls size : ℕ} {B' : List ℕ} → size ≡ new_length f (take file B) (length P)
            → (calls ≡ (added f s B file N tenant P).calls) × (B' ≡ (added f s B file N tenant P).buffer)
            → Adds (adding f s B file N tenant P) (record { number = 0; calls = calls; file = size }) B'
        unfolding adding added
        done {calls} {size} {B'} es p =
            let z : number₁ or_else number₂ or_else number₃ ≡ 0 = simp (accepted, has_room, seals) in
            let is : unless_add (number₁ or_else number₂ or_else number₃) B file (added f s B file N tenant P) ≡ added f s B file N tenant P =
            ap (λ (n : ℕ). unless_add n B file (added f s B file N tenant P)) z in
            subst (λ (x : Adding). Adds x (record { number = 0; calls = calls; file = size }) B') (sym is)
            (record { number = refl; calls = p.0; file = es; buffer_left = p.1 })

        pub laying : {n : ℕ} → f.tag_in_row ≤ 16 → Bytes B → tenant < 4294967296 → n ≡ count (take file B) → Laying f B file n N tenant P
        laying {n} small bytes tenant_size en =
            let w = within f B file accepted in
            let r = room_for f (take file B) N tenant (length P) (length B) has_room in
            let ne : count (take file B) ≡ most_rows → ⊥ = r.few in
            record {
              form = small;
              bytes = bytes_take file B bytes;
              accepted = w;
              counted = en;
              few = omega (arith, w.content.table.few);
              most = r.most;
              room = r.lent;
              nonce_size = admitted s N tenant P seals;
              tenant_set = r.tenant_set;
              tenant_size = tenant_size;
            }

-- the answer of a refusal that was handed on
pub answered : {x : Adding} {B : List ℕ} {r : Result Addition Refusal} (file : ℕ) (e : Refusal) → r ≡ Err e → Adds x (refused file e) B → Adds x (addition_of file r) B
answered {x} {B} file e is given = subst⁻¹ (λ (r : Result Addition Refusal). Adds x (addition_of file r) B) is given
