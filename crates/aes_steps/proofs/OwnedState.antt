-- What owning a state tells of it: `c.good` of a parameter by value. It is four columns of four bytes.
-- Assumes nothing.
use mathlib.Core.Path.{◌≡◌, refl, ◌∙◌}
use mathlib.Core.List.{List, [], ◌∷◌}
use Prim.Native.Nat.{ℕ, zero, suc, ◌<◌}
use native.Mathlib.Nat.{not-suc-le-zero, le_of_suc-le-suc}
use native.Mathlib.Omega.{arith}
use lib.Dec.{lit<}
use lib.ListN.{length, get_or}
use mir.Val.{Val}
use mir.Syntax.{w8}
use denote.Laws.{Is}
use denote.Shadow.{shadow}
use denote.Plain.{UInt}
use denote.Array.{Array, each}
use Rattle.standards.specs.Strings.{Bytes}
use Rattle.standards.specs.Fips197.{State}
use Rattle.block.proofs.Owned.{owned_length, owned_bytes}
use Rattle.aes_steps.proofs.StateLaws.{IsState}

pub four : {A : Type 0} (d : A) (xs : List A) → length xs ≡ 4 → xs ≡ get_or xs 0 d ∷ get_or xs 1 d ∷ get_or xs 2 d ∷ get_or xs 3 d ∷ []
four d [] e = absurd (omega arith)
four d (a ∷ []) e = absurd (omega arith)
four d (a ∷ b ∷ []) e = absurd (omega arith)
four d (a ∷ b ∷ c ∷ []) e = absurd (omega arith)
four d (a ∷ b ∷ c ∷ x ∷ []) e = refl
four d (a ∷ b ∷ c ∷ x ∷ y ∷ ys) e = absurd (omega arith)

-- of each column
column_length : (s : State) (us : List Val) → shadow (each (List ℕ) (Array (UInt w8) 4).own_val s us) → (c : ℕ) → c < length s → length (get_or s c []) ≡ 4
column_length [] us o c l = absurd (not-suc-le-zero l)
column_length (a ∷ s) [] o c l = absurd o
column_length (a ∷ s) (u ∷ us) o zero l = owned_length 4 a (u ∷ []) o.0
column_length (a ∷ s) (u ∷ us) o (suc c) l = column_length s us o.1 c (le_of_suc-le-suc l)

column_bytes : (s : State) (us : List Val) → shadow (each (List ℕ) (Array (UInt w8) 4).own_val s us) → (c : ℕ) → Bytes (get_or s c [])
column_bytes [] us o c r = lit< tt
column_bytes (a ∷ s) [] o c r = absurd o
column_bytes (a ∷ s) (u ∷ us) o zero r = owned_bytes 4 a (u ∷ []) o.0 r
column_bytes (a ∷ s) (u ∷ us) o (suc c) r = column_bytes s us o.1 c r

pub owned_state : (s : State) (vs : List Val) → Is (Array (Array (UInt w8) 4) 4) s vs → IsState s
owned_state s vs o =
    let long : (c : ℕ) → c < length s → length (get_or s c []) ≡ 4 = column_length s o.0 o.1.1 in
    let l : length s ≡ 4 = o.1.0.1 in
    record {
      shape =
          four [] s l
          ∙ (λ i. four 0 (get_or s 0 []) (long 0 (omega arith)) i ∷ four 0 (get_or s 1 []) (long 1 (omega arith)) i
          ∷ four 0 (get_or s 2 []) (long 2 (omega arith)) i ∷ four 0 (get_or s 3 []) (long 3 (omega arith)) i ∷ []);
      byte = λ r c. column_bytes s o.0 o.1.1 c r;
    }
