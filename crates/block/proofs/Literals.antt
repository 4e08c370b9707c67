-- A string of known length, written out place by place: what an array's literal in the code is.
-- By induction on the string. Assumes nothing.
use mathlib.Core.Path.{◌≡◌, refl, ap₂}
use mathlib.Core.List.{List, [], ◌∷◌}
use Prim.Native.Nat.{ℕ, zero, suc, ◌<◌, suc-le-suc}
use native.Mathlib.Nat.{zero-lt-suc, suc_inj}
use native.Mathlib.Omega.{arith}
use lib.Dec.{lit<}
use lib.ListN.{length, get_or}
use Rattle.standards.specs.Strings.{tabulate, Bytes}

pub is_literal : (n : ℕ) (f : ℕ → ℕ) (S : List ℕ) → length S ≡ n → ((i : ℕ) → i < n → get_or S i 0 ≡ f i) → S ≡ tabulate n f
is_literal zero f [] e h = refl
is_literal zero f (x ∷ S) e h = absurd (omega arith)
is_literal (suc n) f [] e h = absurd (omega arith)
is_literal (suc n) f (x ∷ S) e h =
    ap₂ (λ (y : ℕ) (T : List ℕ). y ∷ T) (h 0 (zero-lt-suc n)) (is_literal n (λ i. f (suc i)) S (suc_inj e) (λ i l. h (suc i) (suc-le-suc l)))

pub places : (n : ℕ) (S : List ℕ) → length S ≡ n → S ≡ tabulate n (λ i. get_or S i 0)
places n S e = is_literal n (λ i. get_or S i 0) S e (λ i h. refl)

pub tabulate_bytes : (n : ℕ) (f : ℕ → ℕ) → ((i : ℕ) → f i < 256) → Bytes (tabulate n f)
tabulate_bytes zero f h i = lit< tt
tabulate_bytes (suc n) f h zero = h 0
tabulate_bytes (suc n) f h (suc i) = tabulate_bytes n (λ k. f (suc k)) (λ k. h (suc k)) i
