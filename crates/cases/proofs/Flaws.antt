-- One flaw makes a case bad; none makes it good, with its bodies at the places that the lengths give. Assumes nothing.
use mathlib.Core.Path.{◌≡◌, sym, ap}
use mathlib.Core.Bool.{Bool, true, false, cond}
use mathlib.Core.List.{List, [], ◌∷◌}
use Prim.Native.Nat.{ℕ, zero, suc, ◌+◌, ◌≤◌}
use borrow.Author.Tests.{le-ltb, eq-eqb}
use lib.Dec.{eqb}
use lib.ListN.{length, get_or}
use Rattle.std.proofs.lemmas.Bool.{or_left, or_right}
use Rattle.cases.specs.Case.{word, total, lengths, flaws, any, malformed}
use Rattle.cases.specs.Places.{places, found}
use Rattle.cases.specs.declared.table.Table.{Table}
use Rattle.std.specs.Prelude.{Option, None, Some}

any_at : (tests : List Bool) (i : ℕ) → get_or tests i false ≡ true → any tests ≡ true
any_at [] i e = e
any_at (test ∷ tests) zero e = or_left test (any tests) e
any_at (test ∷ tests) (suc i) e = or_right test (any tests) (any_at tests i e)

pub bad : (S : List ℕ) (i : ℕ) → get_or (flaws S) i false ≡ true → None ≡ found S
unfolding found malformed
bad S i e = sym (ap (λ (b : Bool). cond b None (Some (places S (lengths S)))) (any_at (flaws S) i e))

-- a case with a table, lengths up to 8,192 each, and as many bytes as they ask for
pub record Formed (S : List ℕ) : Type 0 where
  pub table : 22 ≤ length S
  pub first : get_or S 0 0 ≤ 1
  pub key : word S 2 ≤ 8192
  pub nonce : word S 6 ≤ 8192
  pub ad : word S 10 ≤ 8192
  pub text : word S 14 ≤ 8192
  pub tag : word S 18 ≤ 8192
  pub size : length S ≡ total (lengths S)

pub formed_well : (S : List ℕ) → Formed S → malformed S ≡ false
unfolding malformed
formed_well S f =
    simp
    (le-ltb _ _ f.table, le-ltb _ _ f.first, le-ltb _ _ f.key, le-ltb _ _ f.nonce, le-ltb _ _ f.ad, le-ltb _ _ f.text, le-ltb _ _ f.tag, eq-eqb _ _ f.size)

pub good : (S : List ℕ) → Formed S → Some (places S (lengths S)) ≡ found S
unfolding found
good S f = sym (ap (λ (b : Bool). cond b None (Some (places S (lengths S)))) (formed_well S f))

-- the places by the lengths as they were read
pub placed : (S : List ℕ) {k n a t g : ℕ} → k ≡ word S 2 → n ≡ word S 6 → a ≡ word S 10 → t ≡ word S 14 → g ≡ word S 18
    → ◌≡◌ {A = Option Table}
    (Some (record {
      opens = eqb (get_or S 0 0) 1;
      m = get_or S 1 0;
      nonce = 22 + k;
      ad = 22 + k + n;
      text = 22 + k + n + a;
      tag = 22 + k + n + a + t;
      end = 22 + k + n + a + t + g;
    }))
    (Some (places S (lengths S)))
placed S ek en ea et eg = cc
