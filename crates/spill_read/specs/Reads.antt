-- The promise of reading, and the words in which its theorems are said (proofs/Isolation.antt).
use Rattle.std.specs.Prelude.{◌≡◌, Result, Ok, Err, List, ℕ, ◌+◌, ◌≤◌, length, take, drop}
use Rattle.standards.specs.Strings.{zeros}
use Rattle.spill_form.specs.File.{bytes_at, row_at, nonce_of, ad_of, place_of, length_of}
use Rattle.spill_form.specs.Numbers.{number_of}
use Rattle.spill_form.specs.Reading.{Reading}
use Rattle.spill_form.specs.declared.Refusal.{Refusal}
use Rattle.spill_form.specs.declared.Form.{Form}
use Rattle.spill_read.specs.declared.Reply.{Reply}

-- THE PROMISE: the reply r, and the output that is left, are the reading's
pub record Reads (x : Reading) (r : Reply) (out : List ℕ) : Type 0 where
  pub number : r.number ≡ x.number
  pub calls : r.calls ≡ x.calls
  pub written : r.written ≡ x.written
  pub out_left : out ≡ x.out

-- the reply of a refusal, and of an outcome
abbrev pub refused : Refusal → Reply
refused e = record { number = number_of e; calls = 0; written = 0 }

abbrev pub reply_of : Result Reply Refusal → Reply
reply_of (Ok r) = r
reply_of (Err e) = refused e

-- row i of the two files S and S' has the same nonce, tenant, length and body bytes, and the same bytes of the tag where the row has any
pub record SameRow (f : Form) (S S' : List ℕ) (i : ℕ) : Type 0 where
  pub nonce_same : nonce_of f S i ≡ nonce_of f S' i
  pub tenant_same : ad_of f S i ≡ ad_of f S' i
  pub length_same : length_of f S i ≡ length_of f S' i
  pub body_same : bytes_at S (place_of f S i) (length_of f S i) ≡ bytes_at S' (place_of f S' i) (length_of f S' i)
  pub tag_same : bytes_at S (row_at f i + 24) f.tag_in_row ≡ bytes_at S' (row_at f i + 24) f.tag_in_row

-- what a reply r leaves of an output: bytes past the plaintext never change; with 7 the output is zero over the plaintext's length; any other refusal
-- calls nothing, writes nothing and changes nothing
pub record Spares (out : List ℕ) (r : Reply) (out' : List ℕ) : Type 0 where
  pub within : r.written ≤ length out
  pub as_long : length out' ≡ length out
  pub behind : drop r.written out' ≡ drop r.written out
  pub cleared : r.number ≡ 7 → take r.written out' ≡ zeros r.written
  pub kept : (r.number ≡ 0 → ⊥) → (r.number ≡ 7 → ⊥) → (r.calls ≡ 0) × (r.written ≡ 0) × (out' ≡ out)
