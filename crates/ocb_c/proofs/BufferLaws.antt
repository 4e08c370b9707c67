-- A state in a buffer, its parts one behind the other: what is written is read back as the same state. Assumes nothing.
use mathlib.Core.Path.{◌≡◌, refl, sym, ap, ap₂, ◌∙◌}
use mathlib.Core.List.{List, [], ◌++◌, append_assoc, append-nil}
use Prim.Native.Nat.{ℕ, ◌+◌, ◌^◌, ◌<◌, ◌≤◌}
use native.Mathlib.Nat.{mod-eq_of_lt}
use native.Mathlib.Omega.{arith}
use lib.Dec.{lit<}
use lib.ListN.{length, take, drop, length-append, length-take, length-drop, drop_of_length-le}
use lib.Seq.{take_all, take_at, drop_at, drop-drop}
use borrow.Rule.Slice.PartMut.{put_mid}
use Rattle.sizes.specs.Sizes.{round_key_bytes, table_bytes}
use Rattle.standards.specs.Strings.{num, to_bytes}
use Rattle.block.proofs.NumberLaws.{digits_length, number_digits}
use Rattle.ocb_variables.specs.declared.State.{State}
use Rattle.ocb_c.specs.Buffer.{rounds_at, star_at, dollar_at, m_at, table_at, state_size, encoded, decoded}

-- what every State value of a program has: its arrays' lengths, and two numbers that fit their eight bytes
pub record Sizes (s : State) : Type 0 where
  pub keys : length s.round_keys ≡ round_key_bytes
  pub rounds : s.values.rounds < 256 ^ 8
  pub star : length s.values.star ≡ 16
  pub dollar : length s.values.dollar ≡ 16
  pub m : s.values.m < 256 ^ 8
  pub table : length s.table ≡ table_bytes

-- ---- reading

-- the fields, each read where it lies
pub decode_made : {keys star dollar table : List ℕ} {rounds m : ℕ} (B : List ℕ)
    → keys ≡ take round_key_bytes B → rounds ≡ num (take 8 (drop rounds_at B)) → star ≡ take 16 (drop star_at B)
    → dollar ≡ take 16 (drop dollar_at B) → m ≡ num (take 8 (drop m_at B)) → table ≡ take table_bytes (drop table_at B)
    → ◌≡◌ {A = State} (record { round_keys = keys; values = record { rounds = rounds; star = star; dollar = dollar; m = m }; table = table }) (decoded B)
unfolding decoded
decode_made B ek er es ed em et = cc

-- what lies behind p, which lies n bytes into B
behind : (B p q : List ℕ) (n k : ℕ) → drop n B ≡ p ++ q → length p ≡ k → drop (n + k) B ≡ q
behind B p q n k e h = sym (drop-drop k n B) ∙ ap (drop k) e ∙ drop_at p q k h

-- a number's eight bytes, read where they lie
number_read : (B q : List ℕ) (n x : ℕ) → drop n B ≡ to_bytes 8 x ++ q → x < 256 ^ 8 → num (take 8 (drop n B)) ≡ x
number_read B q n x e h =
    ap num (ap (take 8) e ∙ take_at (to_bytes 8 x) q 8 (digits_length 256 8 x)) ∙ number_digits 256 (lit< tt) 8 x ∙ mod-eq_of_lt h

pub decode-encode : (s : State) → Sizes s → decoded (encoded s) ≡ s
unfolding encoded
decode-encode s h =
    let B : List ℕ = encoded s in
    let v = s.values in
    let rounds : List ℕ = to_bytes 8 v.rounds in
    let m : List ℕ = to_bytes 8 v.m in
    let at_rounds : drop rounds_at B ≡ rounds ++ (v.star ++ (v.dollar ++ (m ++ s.table))) = drop_at s.round_keys _ rounds_at h.keys in
    let at_star : drop star_at B ≡ v.star ++ (v.dollar ++ (m ++ s.table)) = behind B rounds _ rounds_at 8 at_rounds (digits_length 256 8 v.rounds) in
    let at_dollar : drop dollar_at B ≡ v.dollar ++ (m ++ s.table) = behind B v.star _ star_at 16 at_star h.star in
    let at_m : drop m_at B ≡ m ++ s.table = behind B v.dollar _ dollar_at 16 at_dollar h.dollar in
    let at_table : drop table_at B ≡ s.table = behind B m _ m_at 8 at_m (digits_length 256 8 v.m) in
    sym
    (decode_made B
    (sym (take_at s.round_keys _ round_key_bytes h.keys))
    (sym (number_read B _ rounds_at v.rounds at_rounds h.rounds))
    (sym (ap (take 16) at_star ∙ take_at v.star _ 16 h.star))
    (sym (ap (take 16) at_dollar ∙ take_at v.dollar _ 16 h.dollar))
    (sym (number_read B _ m_at v.m at_m h.m))
    (sym (ap (take table_bytes) at_table ∙ take_all table_bytes s.table (omega (arith, h.table)))))

-- ---- writing

-- the front F of a buffer B, of n bytes, grows by the part of k bytes that is written behind it, whatever stands after
grown : (B part rest : List ℕ) (n k : ℕ) {B' F : List ℕ} → take n B ≡ F → B' ≡ take n B ++ (part ++ rest) → length F ≡ n → length part ≡ k
    → (take (n + k) B' ≡ F ++ part) × (length (F ++ part) ≡ n + k)
grown B part rest n k {B'} {F} e e' hF hp =
    let long : length (F ++ part) ≡ n + k = length-append F part ∙ ap₂ ◌+◌ hF hp in
    (ap (take (n + k)) (e' ∙ ap (λ (x : List ℕ). x ++ (part ++ rest)) e ∙ sym (append_assoc F part rest)) ∙ take_at (F ++ part) rest (n + k) long, long)

-- and the buffer stays as long as it was
as_long : (B part : List ℕ) (n k : ℕ) {B' : List ℕ} → B' ≡ take n B ++ (part ++ drop (n + k) B) → length part ≡ k → n + k ≤ length B → length B' ≡ length B
as_long B part n k e hp h = ap length e ∙ simp (length-append, length-take, length-drop) (omega arith)

-- a part that is lent to be written, put back
put_back : {x : List ℕ} (B part : List ℕ) (n k : ℕ) {B' : List ℕ} → x ≡ part → B' ≡ put_mid n k B x → B' ≡ take n B ++ (part ++ drop (n + k) B)
put_back B part n k e b = b ∙ ap (put_mid n k B) e ∙ ap (λ (rest : List ℕ). take n B ++ (part ++ rest)) (drop-drop k n B)

-- encode: six parts written one behind the other; B₁ to B₆ is the buffer after each
pub encode_made : {B₁ x₂ B₂ B₃ B₄ x₅ B₅ B₆ : List ℕ} (s : State) → Sizes s → (B : List ℕ) → length B ≡ state_size
    → B₁ ≡ take 0 B ++ (s.round_keys ++ drop (0 + length s.round_keys) B)
    → x₂ ≡ to_bytes 8 s.values.rounds → B₂ ≡ put_mid rounds_at 8 B₁ x₂
    → B₃ ≡ take star_at B₂ ++ (s.values.star ++ drop dollar_at B₂) → B₄ ≡ take dollar_at B₃ ++ (s.values.dollar ++ drop m_at B₃)
    → x₅ ≡ to_bytes 8 s.values.m → B₅ ≡ put_mid m_at 8 B₄ x₅
    → B₆ ≡ take table_at B₅ ++ (s.table ++ drop (table_at + length s.table) B₅) → B₆ ≡ encoded s
unfolding encoded
encode_made {B₁} {x₂} {B₂} {B₃} {B₄} {x₅} {B₅} {B₆} s h B l b₁ e₂ b₂ b₃ b₄ e₅ b₅ b₆ =
    let v = s.values in
    let rounds : List ℕ = to_bytes 8 v.rounds in
    let m : List ℕ = to_bytes 8 v.m in
    let b₂' = put_back B₁ rounds rounds_at 8 e₂ b₂ in
    let b₅' = put_back B₄ m m_at 8 e₅ b₅ in
    let f₁ : take rounds_at B₁ ≡ s.round_keys = ap (take rounds_at) b₁ ∙ take_at s.round_keys _ rounds_at h.keys in
    let f₂ = grown B₁ rounds _ rounds_at 8 f₁ b₂' h.keys (digits_length 256 8 v.rounds) in
    let f₃ = grown B₂ v.star _ star_at 16 f₂.0 b₃ f₂.1 h.star in
    let f₄ = grown B₃ v.dollar _ dollar_at 16 f₃.0 b₄ f₃.1 h.dollar in
    let f₅ = grown B₄ m _ m_at 8 f₄.0 b₅' f₄.1 (digits_length 256 8 v.m) in
    let l₁ : length B₁ ≡ state_size = as_long B s.round_keys 0 (length s.round_keys) b₁ refl (omega (arith, h.keys)) ∙ l in
    let l₂ : length B₂ ≡ state_size = as_long B₁ rounds rounds_at 8 b₂' (digits_length 256 8 v.rounds) (omega arith) ∙ l₁ in
    let l₃ : length B₃ ≡ state_size = as_long B₂ v.star star_at 16 b₃ h.star (omega arith) ∙ l₂ in
    let l₄ : length B₄ ≡ state_size = as_long B₃ v.dollar dollar_at 16 b₄ h.dollar (omega arith) ∙ l₃ in
    let l₅ : length B₅ ≡ state_size = as_long B₄ m m_at 8 b₅' (digits_length 256 8 v.m) (omega arith) ∙ l₄ in
    let none : drop (table_at + length s.table) B₅ ≡ [] = drop_of_length-le B₅ {i = table_at + length s.table} (omega (arith, h.table)) in
    b₆
    ∙ ap₂ (λ (x y : List ℕ). x ++ (s.table ++ y)) f₅.0 none
    ∙ ap (λ (x : List ℕ). s.round_keys ++ rounds ++ v.star ++ v.dollar ++ m ++ x) (append-nil s.table)
    ∙ simp append_assoc
