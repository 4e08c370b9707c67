-- A buffer that ocb_set_up wrote holds the state that set_up gives, and each promise of the functions that ocb_link exports admits one answer. Assumes nothing.
use mathlib.Core.Path.{◌≡◌, refl, sym, ap, ◌∙◌}
use mathlib.Core.Bool.{not}
use mathlib.Core.List.{List}
use Prim.Native.Nat.{ℕ, zero, suc, ◌≤◌}
use native.Mathlib.Omega.{arith}
use borrow.Author.Tests.{eq-eqb}
use lib.Dec.{lit<}
use lib.ListN.{length}
use Rattle.sizes.specs.Sizes.{rounds_for, KeyLength, m_most}
use Rattle.sizes.proofs.KeyLaws.{rounds_for_lem, rounds_within}
use Rattle.standards.specs.Strings.{Bytes}
use Rattle.aes.specs.Schedule.{round_keys_of}
use Rattle.aes.proofs.Expansion.{round_keys_bytes, round_keys_length}
use Rattle.ocb_variables.specs.State.{state_of, state_for}
use Rattle.ocb_variables.proofs.KeyLaws.{state_sized}
use Rattle.ocb.specs.declared.Answer.{Answer}
use Rattle.ocb_numbers.specs.Numbers.{set_up_number}
use Rattle.ocb_numbers.proofs.RuleLaws.{first-none}
use Rattle.ocb_numbers.proofs.Refusals.{set_up_sizes}
use Rattle.ocb.specs.Answers.{zero_state, made_unless, set_up, Leaves}
use Rattle.ocb.proofs.Demands.{single}
use Rattle.spill_read.specs.Reads.{Reads}
use Rattle.spill_read.specs.declared.Reply.{Reply}
use Rattle.spill_read.proofs.Isolation as reading
use Rattle.spill_add.specs.Adds.{Adds}
use Rattle.spill_add.specs.declared.Addition.{Addition}
use Rattle.spill_add.proofs.Additions as adding
use Rattle.ocb_c.specs.Buffer.{state_size, decoded}
use Rattle.ocb_c.specs.Lent.{buffer_rules, size_number, into, set_up_in, Kept, sealed_in, opened_in, read_in, added_in}
use Rattle.ocb_c.proofs.BufferLaws.{Sizes, decode-encode}

-- ---- the buffer's size

pub size_right : (B : List ℕ) → length B ≡ state_size → 0 ≡ size_number B
unfolding size_number
size_right B h = sym (first-none (buffer_rules B) (ap not (eq-eqb (length B) state_size h), tt))

-- ---- the state that set_up gives, in the buffer that ocb_set_up leaves

refused_sizes : Sizes zero_state
unfolding zero_state
refused_sizes = record { keys = refl; star = refl; dollar = refl; rounds = lit< tt; m = lit< tt; table = refl }

made_sizes : (key : List ℕ) (m : ℕ) → Bytes key → KeyLength (length key) → m ≤ m_most → Sizes (state_for key m)
unfolding state_of
made_sizes key m bytes h hm =
    let made = state_sized (round_keys_of key) (rounds_for (length key)) m (round_keys_bytes key bytes) hm in
    let within = rounds_within (rounds_for_lem h) in
    record {
      keys = round_keys_length key h;
      rounds = omega arith;
      star = made.star.size;
      dollar = made.dollar.size;
      m = omega arith;
      table = made.table;
    }

state_sizes : (key : List ℕ) (m : ℕ) → Bytes key → Sizes (set_up key m).state
unfolding set_up
state_sizes key m bytes = go (set_up_number (length key) m) refl
  where
    go : (n : ℕ) → set_up_number (length key) m ≡ n → Sizes (made_unless n (state_for key m)).state
    go zero e = let sizes = set_up_sizes (length key) m e in made_sizes key m bytes sizes.0 sizes.1.to
    go (suc n) e = refused_sizes

-- ocb_seal and ocb_open then go on from just that state
pub set_up_held : (B key : List ℕ) (m : ℕ) → Bytes key → length B ≡ state_size → decoded (set_up_in B key m).buffer ≡ (set_up key m).state
unfolding set_up_in
set_up_held B key m hk h =
    ap (λ (n : ℕ). decoded (into n B (set_up key m)).buffer) (sym (size_right B h))
    ∙ decode-encode (set_up key m).state (state_sizes key m hk)

-- ---- each promise admits one answer

pub set_up_single : (B key : List ℕ) (m n k : ℕ) {B₁ B₂ : List ℕ} → Kept (set_up_in B key m) n B₁ → Kept (set_up_in B key m) k B₂ → (n ≡ k) × (B₁ ≡ B₂)
set_up_single B key m n k K L = (K.number_is ∙ sym L.number_is, K.buffer_left ∙ sym L.buffer_left)

module _ (B N A S T : List ℕ) (r q : Answer) {S₁ T₁ S₂ T₂ : List ℕ} where
  pub seal_single : Leaves (sealed_in B N A S T) r S₁ T₁ → Leaves (sealed_in B N A S T) q S₂ T₂ → (r ≡ q) × (S₁ ≡ S₂) × (T₁ ≡ T₂)
  seal_single = single (sealed_in B N A S T) r q

  pub open_single : Leaves (opened_in B N A S T) r S₁ T₁ → Leaves (opened_in B N A S T) q S₂ T₂ → (r ≡ q) × (S₁ ≡ S₂) × (T₁ ≡ T₂)
  open_single = single (opened_in B N A S T) r q

pub read_single : (B F : List ℕ) (file row tenant : ℕ) (out : List ℕ) (r q : Reply) {out₁ out₂ : List ℕ}
    → Reads (read_in B F file row tenant out) r out₁ → Reads (read_in B F file row tenant out) q out₂ → (r ≡ q) × (out₁ ≡ out₂)
read_single B F file row tenant out r q = reading.read_single (read_in B F file row tenant out) r q

pub add_single : (B F : List ℕ) (file : ℕ) (N : List ℕ) (tenant : ℕ) (P : List ℕ) (r q : Addition) {F₁ F₂ : List ℕ}
    → Adds (added_in B F file N tenant P) r F₁ → Adds (added_in B F file N tenant P) q F₂ → (r ≡ q) × (F₁ ≡ F₂)
add_single B F file N tenant P r q = adding.add_single (added_in B F file N tenant P) r q
