-- What set_up, seal and open answer and leave, for every input: the product's table of numbers, over RFC 7253 as a state holds its key.
use Rattle.std.specs.Prelude.{◌≡◌, List, ◌++◌, ℕ, zero, suc, length, take, drop}
use Rattle.sizes.specs.Sizes.{round_key_bytes, table_bytes}
use Rattle.standards.specs.Strings.{zeros}
use Rattle.standards.specs.Rfc7253.{Key, Plaintext, VALID, INVALID, OCB-ENCRYPT, OCB-ENCRYPT-inputs, OCB-DECRYPT, OCB-DECRYPT-inputs}
use Rattle.ocb_numbers.specs.Numbers.{set_up_number, refusal}
use Rattle.ocb_variables.specs.declared.State.{State}
use Rattle.ocb_variables.specs.Held.{held}
use Rattle.ocb_variables.specs.State.{state_for}
use Rattle.ocb.specs.declared.SetUp.{SetUp}
use Rattle.ocb.specs.declared.Answer.{Answer}

-- ---- set_up

-- zeros: no rounds and m = 0, which seal and open answer with 2
unfoldable pub zero_state : State
zero_state = record {
  round_keys = zeros round_key_bytes;
  table = zeros table_bytes;
  values = record { rounds = 0; m = 0; star = zeros 16; dollar = zeros 16 };
}

abbrev pub made_unless : ℕ → State → SetUp
made_unless zero state = record { number = 0; state = state }
made_unless (suc n) state = record { number = suc n; state = zero_state }

unfoldable pub set_up : List ℕ → ℕ → SetUp
set_up key m = made_unless (set_up_number (length key) m) (state_for key m)

-- ---- seal and open: the number, the count of cipher calls, and the text and the tag as they stand afterwards

pub record Outcome : Type 0 where
  pub number : ℕ
  pub calls : ℕ
  pub text : List ℕ
  pub tag : List ℕ

-- nothing is called, and text and tag are as they were
abbrev pub untouched : List ℕ → List ℕ → ℕ → Outcome
untouched text tag n = record { number = n; calls = 0; text = text; tag = tag }

-- what a refusal of the sizes by number leaves, of seal and of open
abbrev pub seal_refused : List ℕ → List ℕ → ℕ → Outcome
seal_refused P T n = untouched P T n

abbrev pub open_refused : List ℕ → List ℕ → ℕ → Outcome
open_refused C T n = untouched C T n

-- the outcome of a refusal with this number, or of the work where it is 0
abbrev pub unless : ℕ → (ℕ → Outcome) → Outcome → Outcome
unless zero refused done = done
unless (suc n) refused done = refused (suc n)

-- by RFC 7253 under a key K, with a nonce N, associated data A, a text P and a tag place T: the ciphertext and the tag, each in its place
abbrev pub encrypted : Key → List ℕ → List ℕ → List ℕ → List ℕ → Outcome
encrypted K N A P T = record {
  number = 0;
  calls = length (OCB-ENCRYPT-inputs K (length T) N A P);
  text = take (length P) (OCB-ENCRYPT K (length T) N A P);
  tag = drop (length P) (OCB-ENCRYPT K (length T) N A P);
}

-- the plaintext of a ciphertext C and its tag T, or 7 and zeros
abbrev pub verdict : Plaintext → ℕ → List ℕ → List ℕ → Outcome
verdict (VALID P) calls C T = record { number = 0; calls = calls; text = P; tag = T }
verdict INVALID calls C T = record { number = 7; calls = calls; text = zeros (length C); tag = T }

abbrev pub decrypted : Key → List ℕ → List ℕ → List ℕ → List ℕ → Outcome
decrypted K N A C T = verdict (OCB-DECRYPT K (length T) N A (C ++ T)) (length (OCB-DECRYPT-inputs K (length T) N A (C ++ T))) C T

unfoldable pub sealed : State → List ℕ → List ℕ → List ℕ → List ℕ → Outcome
sealed s N A P T = unless (refusal s.values.m s.values.rounds (length N) (length A) (length P) (length T)) (seal_refused P T) (encrypted (held s) N A P T)

unfoldable pub opened : State → List ℕ → List ℕ → List ℕ → List ℕ → Outcome
opened s N A C T = unless (refusal s.values.m s.values.rounds (length N) (length A) (length C) (length T)) (open_refused C T) (decrypted (held s) N A C T)

-- THE PROMISE: the answer r, and the text and the tag that are left, are the outcome's
pub record Leaves (o : Outcome) (r : Answer) (text tag : List ℕ) : Type 0 where
  pub number : r.number ≡ o.number
  pub calls : r.calls ≡ o.calls
  pub text_left : text ≡ o.text
  pub tag_left : tag ≡ o.tag
