-- How an example of RFC 7253 over AES stays below the checker's limit of steps: what depends on the key alone, its round keys and L_*, is computed in
-- theorems of its own, and the procedure over a key that has them as literals.
use mathlib.Core.Path.{◌≡◌, ap, sym, subst, ◌∙◌}
use mathlib.Core.List.{List}
use Prim.Native.Nat.{ℕ}
use Rattle.standards.specs.Strings.{zeros}
use Rattle.standards.specs.Fips197.{encipher, decipher, key_expansion}
use Rattle.standards.specs.Rfc7253.{Key, keyed}
use Rattle.standards.specs.AesOcb.{AES-128}

-- P, which says something of a key K of RFC 7253, holds of AES-128 under the key given
pub record Under (key : List ℕ) (P : Key → Type 0) : Type 0 where
  pub holds : P (AES-128 key)

-- the key with the round keys w, with what is a key's own where L_* is s
abbrev pub ready : List ℕ → List ℕ → Key
ready w s =
    let K : Key = keyed (encipher 10 w) (decipher 10 w) in
    let own : Key = keyed (λ b. s) (decipher 10 w) in
    record { ENCIPHER = K.ENCIPHER; DECIPHER = K.DECIPHER; L-* = own.L-*; L-$ = own.L-$; L = own.L }

pub under : {P : Key → Type 0} (key w s : List ℕ) → key_expansion 4 10 key ≡ w → encipher 10 w (zeros 16) ≡ s → P (ready w s) → Under key P
under {P} key w s expanded star p =
    let known : AES-128 key ≡ ready w s = ap (λ (v : List ℕ). keyed (encipher 10 v) (decipher 10 v)) expanded ∙ ap (ready w) star in
    record { holds = subst P (sym known) p }
