-- Laws of putting strings into a buffer one behind the other, and of strings in hex. Assumes nothing.
use mathlib.Core.Path.{◌≡◌, refl, sym, ap, ap₂, ◌∙◌}
use mathlib.Core.List.{List, [], ◌∷◌, ◌++◌, append_assoc}
use Prim.Native.Nat.{ℕ, ◌+◌, ◌*◌, ◌/◌, ◌%◌, ◌≤◌, ◌<◌}
use native.Mathlib.Numerals.{add-one}
use native.Mathlib.Omega.{arith}
use lib.ListN.{length, get_or, take, drop, set, length-append}
use lib.Seq.{take_at, drop_at, drop-drop, length-take-le, take-suc, sets-eq}
use Rattle.io.specs.Digits.{hex_digit_ascii}
use Rattle.lines.specs.Text.{hex, over, Puts}

-- a string put behind another
pub over-over : (d : List ℕ) (at : ℕ) (S T : List ℕ) → at ≤ length d → over (over d at S) (at + length S) T ≡ over d at (S ++ T)
over-over d at S T h =
    let front : List ℕ = take at d ++ S in
    let back : List ℕ = drop (at + length S) d in
    let long : length front ≡ at + length S = length-append (take at d) S ∙ ap (λ (k : ℕ). k + length S) (length-take-le at d h) in
    let e : at + length S + length T ≡ at + length (S ++ T) = omega (arith, length-append S T) in
    let behind : drop (at + length S + length T) (front ++ back) ≡ drop (at + length (S ++ T)) d =
    sym (drop-drop (length T) (at + length S) (front ++ back))
    ∙ ap (drop (length T)) (drop_at front back (at + length S) long)
    ∙ drop-drop (length T) (at + length S) d
    ∙ ap (λ (k : ℕ). drop k d) e in
    ap₂ (λ (x y : List ℕ). x ++ T ++ y) (take_at front back (at + length S) long) behind
    ∙ ap (λ (x : List ℕ). x ++ drop (at + length (S ++ T)) d) (append_assoc (take at d) S T)

pub puts : {d d' d'' S T : List ℕ} {at n n' : ℕ} → at ≤ length d → Puts d at S n d' → Puts d' n T n' d'' → Puts d at (S ++ T) n' d''
puts {d} {d'} {d''} {S} {T} {at} {n} {n'} h p q = record {
  next-is = omega (arith, p.next-is, q.next-is, length-append S T);
  left = q.left ∙ ap₂ (λ (x : List ℕ) (k : ℕ). over x k T) p.left p.next-is ∙ over-over d at S T h;
}

-- ---- hex

pub hex_length : (S : List ℕ) → length (hex S) ≡ 2 * length S
unfolding hex
hex_length [] = refl
hex_length (b ∷ S) = let ih = hex_length S in omega arith

pub hex_snoc : (S : List ℕ) (b : ℕ) → hex (S ++ (b ∷ [])) ≡ hex S ++ (hex_digit_ascii (b / 16) ∷ hex_digit_ascii (b % 16) ∷ [])
unfolding hex
hex_snoc [] b = refl
hex_snoc (x ∷ S) b = ap (λ (r : List ℕ). hex_digit_ascii (x / 16) ∷ hex_digit_ascii (x % 16) ∷ r) (hex_snoc S b)

-- a turn of the loop that puts two digits
pub hex_turn : (d : List ℕ) (at : ℕ) (S : List ℕ) (i : ℕ) {out : List ℕ} {g h : ℕ} → i < length S → at + 2 * length S ≤ length d → length out ≡ length d
    → out ≡ over d at (hex (take i S)) → g ≡ hex_digit_ascii (get_or S i 0 / 16) → h ≡ hex_digit_ascii (get_or S i 0 % 16)
    → set (set out (at + 2 * i) g) (at + 2 * i + 1) h ≡ over d at (hex (take (i + 1) S))
hex_turn d at S i {out} {g} {h} below room long e eg eh =
    let done : List ℕ = hex (take i S) in
    let place : at + 2 * i ≡ at + length done = omega (arith, hex_length (take i S), length-take-le i S (omega arith)) in
    let more : take i S ++ (get_or S i 0 ∷ []) ≡ take (i + 1) S = sym (take-suc S i 0 below) ∙ ap (λ (k : ℕ). take k S) (sym (add-one i)) in
    ap (λ (k : ℕ). set (set out (at + 2 * i) g) k h) (add-one (at + 2 * i))
    ∙ sets-eq (g ∷ h ∷ []) out (at + 2 * i) (omega arith)
    ∙ ap₂ (λ (x : List ℕ) (k : ℕ). over x k (g ∷ h ∷ [])) e place
    ∙ over-over d at done (g ∷ h ∷ []) (omega arith)
    ∙ ap₂ (λ (x y : ℕ). over d at (done ++ (x ∷ y ∷ []))) eg eh
    ∙ ap (over d at) (sym (hex_snoc (take i S) (get_or S i 0)) ∙ ap hex more)
