-- The promise of adding, and the words in which its theorems are said (proofs/Additions.antt).
use Rattle.std.specs.Prelude.{◌≡◌, Result, Ok, Err, List, ℕ, ◌<◌, length, drop}
use Rattle.standards.specs.Strings.{Bytes}
use Rattle.ocb_variables.specs.declared.State.{State}
use Rattle.ocb.specs.Terms.{HoldsBytes}
use Rattle.spill_form.specs.Adding.{Adding}
use Rattle.spill_form.specs.Numbers.{number_of}
use Rattle.spill_form.specs.declared.Refusal.{Refusal}
use Rattle.spill_add.specs.declared.Addition.{Addition}

-- THE PROMISE: the answer r, and the buffer that is left, are those of the adding
pub record Adds (x : Adding) (r : Addition) (B : List ℕ) : Type 0 where
  pub number : r.number ≡ x.number
  pub calls : r.calls ≡ x.calls
  pub file : r.file ≡ x.file
  pub buffer_left : B ≡ x.buffer

-- the answer of a refusal, and of an outcome, where the file has so many bytes
abbrev pub refused : ℕ → Refusal → Addition
refused file e = record { number = number_of e; calls = 0; file = file }

abbrev pub addition_of : ℕ → Result Addition Refusal → Addition
addition_of file (Ok r) = r
addition_of file (Err e) = refused file e

-- what every program has: a state of bytes, a buffer, a nonce and a text of bytes, a tenant's number of four bytes
pub record Given (s : State) (B N : List ℕ) (tenant : ℕ) (P : List ℕ) : Type 0 where
  pub state_bytes : HoldsBytes s
  pub buffer_bytes : Bytes B
  pub nonce_bytes : Bytes N
  pub tenant_size : tenant < 4294967296
  pub text_bytes : Bytes P

-- what an answer r leaves of a buffer: bytes past the file never change, and a refused addition calls nothing and changes nothing at all
pub record Spares (B : List ℕ) (file : ℕ) (r : Addition) (B' : List ℕ) : Type 0 where
  pub as_long : length B' ≡ length B
  pub behind : drop r.file B' ≡ drop r.file B
  pub kept : (r.number ≡ 0 → ⊥) → (r.calls ≡ 0) × (r.file ≡ file) × (B' ≡ B)
