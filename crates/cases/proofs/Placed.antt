-- What a table that was found says of its case: it is of good form, and its places are in order and within it. Assumes nothing.
use mathlib.Core.Path.{◌≡◌, refl, sym, ◌∙◌}
use mathlib.Core.Bool.{Bool, true, false, cond}
use mathlib.Core.List.{List, [], ◌∷◌}
use Prim.Native.Nat.{ℕ, zero, suc}
use native.Mathlib.Omega.{arith}
use borrow.Author.Tests.{ltb-false, eqb-true, not-false}
use lib.ListN.{get_or}
use Rattle.std.proofs.lemmas.Bool.{or_parts}
use Rattle.cases.specs.Case.{lengths, flaws, any, malformed}
use Rattle.cases.specs.Places.{places, found}
use Rattle.cases.specs.declared.table.Table.{Table}
use Rattle.std.specs.Prelude.{Option, None, Some}
use Rattle.cases.proofs.Flaws.{Formed}

none_at : (tests : List Bool) (i : ℕ) → any tests ≡ false → get_or tests i false ≡ false
none_at [] i e = refl
none_at (test ∷ tests) zero e = (or_parts test (any tests) e).0
none_at (test ∷ tests) (suc i) e = none_at tests i (or_parts test (any tests) e).1

-- the converse of `good`
pub formed : (S : List ℕ) → malformed S ≡ false → Formed S
unfolding malformed
formed S e =
    let none : (i : ℕ) → get_or (flaws S) i false ≡ false = λ i. none_at (flaws S) i e in
    record {
      table = ltb-false _ _ (none 0);
      first = ltb-false _ _ (none 1);
      key = ltb-false _ _ (none 2);
      nonce = ltb-false _ _ (none 3);
      ad = ltb-false _ _ (none 4);
      text = ltb-false _ _ (none 5);
      tag = ltb-false _ _ (none 6);
      size = eqb-true _ _ (not-false _ (none 7));
    }

pub record Placed (S : List ℕ) (t : Table) : Type 0 where
  pub well : malformed S ≡ false
  pub is : t ≡ places S (lengths S)
  pub form : Formed S

pub is_bad : (S : List ℕ) → None ≡ found S → malformed S ≡ true
unfolding found
is_bad S e = go (malformed S) e
  where
    go : (b : Bool) → None ≡ cond b None (Some (places S (lengths S))) → b ≡ true
    go true e = refl
    go false e = absurd (let z : ◌≡◌ {A = ℕ} 0 1 = cc in omega arith)

is_good : (S : List ℕ) (t : Table) → Some t ≡ found S → Placed S t
unfolding found
is_good S t e = let w = go (malformed S) e in record { well = w.0; is = w.1; form = formed S w.0 }
  where
    go : (b : Bool) → Some t ≡ cond b None (Some (places S (lengths S))) → (b ≡ false) × (t ≡ places S (lengths S))
    go true e = absurd (let z : ◌≡◌ {A = ℕ} 0 1 = cc in omega arith)
    go false e = (refl, cc)

-- what was found for S is the table t
pub found_good : {x : Option Table} {S : List ℕ} {t : Table} → x ≡ found S → x ≡ Some t → Placed S t
found_good {x} {S} {t} e is = is_good S t (sym is ∙ e)
