-- From what a step's calls ensure to what the step ensures, over plain values. Assumes nothing.
use mathlib.Core.Path.{◌≡◌, refl, sym, ap, ap₂, ◌∙◌}
use mathlib.Core.Bool.{Bool, true, false, cond}
use mathlib.Core.List.{List, [], ◌∷◌, ◌++◌, append-nil}
use Prim.Native.Nat.{ℕ, ◌+◌, ◌<◌}
use native.Mathlib.Nat.{not-suc-le-zero}
use native.Mathlib.Omega.{arith}
use lib.ListN.{length, take, drop, length-drop, drop_of_length-le}
use lib.Seq.{take_all}
use Rattle.standards.specs.Strings.{◌xor◌}
use Rattle.standards.specs.Rfc7253.{Key, ntz, block_at, hash_block, padded, last_text, last_hash}
use Rattle.block.proofs.StringLaws.{xor_take}
use Rattle.ocb_steps.specs.declared.Run.{Run}
use Rattle.ocb_steps.specs.Steps.{turned, summed, next_offset, after, One, Two, Last, last_plain}

-- ---- a store over the whole of a block

stored_one : (S b : List ℕ) → length S ≡ 16 → take 0 S ++ (b ++ drop 16 S) ≡ b
stored_one S b h = ap (λ (x : List ℕ). b ++ x) (drop_of_length-le S {i = 16} (omega arith)) ∙ append-nil b

-- ---- whole blocks

-- one block more: o is its offset, x what the sum takes, s the sum
after_made : {o x s : List ℕ} (g : List ℕ → List ℕ → List ℕ) (K : Key) (S : List ℕ) (r : Run) → o ≡ r.offset xor K.L (ntz (r.done + 1)) → x ≡ g o S
    → s ≡ r.sum xor x → ◌≡◌ {A = Run} (record { done = r.done + 1; offset = o; sum = s }) (after g K S r)
unfolding after next_offset
after_made g K S r eo ex es = cc

-- what the checksum takes is what stood there, or what stands there now
plain_summed : {b : List ℕ} (opens : Bool) (K : Key) (o a : List ℕ) → b ≡ turned opens K o a → cond opens b a ≡ summed opens K o a
plain_summed false K o a e = refl
plain_summed true K o a e = e

-- a block a becomes b, and x is what the checksum takes of it
module _ (opens : Bool) (K : Key) where
  pub one_made : {a o b x s S' : List ℕ} (S : List ℕ) (r : Run) → length S ≡ 16 → a ≡ take 16 (drop 0 S) → o ≡ r.offset xor K.L (ntz (r.done + 1))
      → b ≡ turned opens K o a → x ≡ cond opens b a → s ≡ r.sum xor x → S' ≡ take 0 S ++ (b ++ drop 16 S)
      → One opens K S r S' (record { done = r.done + 1; offset = o; sum = s })
  unfolding next_offset
  one_made {b = b} S r h ea eo eb ep es et =
      let ex = ep ∙ plain_summed opens K _ _ eb in
      let whole = ea ∙ take_all 16 S (omega arith) in
      record {
        run = after_made (summed opens K) K S r eo (ex ∙ ap (summed opens K _) whole) es;
        text = et ∙ stored_one S b h ∙ eb ∙ ap₂ (turned opens K) eo whole;
      }

  pub one_done : {S S' : List ℕ} {r r' : Run} → One opens K S r S' r' → r'.done ≡ r.done + 1
  unfolding after
  one_done one = ap (λ (z : Run). z.done) one.run

  -- one block and one more are two
  pub two_made : {S S₁ S₂ b₁ b₂ : List ℕ} {r r₁ r₂ : Run} → length S ≡ 32 → S₁ ≡ take 16 S → S₂ ≡ drop 16 S → length b₁ ≡ 16
      → One opens K S₁ r b₁ r₁ → One opens K S₂ r₁ b₂ r₂ → Two opens K S r (b₁ ++ b₂) r₂
  unfolding block_at
  two_made {S} {S₁} {S₂} {b₁} {b₂} {r} {r₁} h e₁ e₂ hb one more =
      let block₂ : S₂ ≡ block_at S 1 = e₂ ∙ sym (take_all 16 (drop 16 S) (omega (arith, length-drop 16 S))) in
      let run₁ : r₁ ≡ after (summed opens K) K (block_at S 0) r = one.run ∙ ap (λ (B : List ℕ). after (summed opens K) K B r) e₁ in
      let first : b₁ ≡ turned opens K (next_offset K r) (block_at S 0) = one.text ∙ ap (turned opens K (next_offset K r)) e₁ in
      record {
        run = more.run ∙ ap₂ (λ (B : List ℕ) (z : Run). after (summed opens K) K B z) block₂ run₁;
        text =
            ap₂ (λ (x y : List ℕ). x ++ y) first
            (more.text ∙ ap₂ (λ (z : Run) (B : List ℕ). turned opens K (next_offset K z) B) run₁ block₂);
        half = ap length (sym first) ∙ hb;
      }

-- a block of associated data
pub hash_made : {o t x s : List ℕ} (K : Key) (b : List ℕ) (r : Run) → o ≡ r.offset xor K.L (ntz (r.done + 1)) → t ≡ b xor o → x ≡ K.ENCIPHER t
    → s ≡ r.sum xor x → ◌≡◌ {A = Run} (record { done = r.done + 1; offset = o; sum = s }) (after (hash_block K) K b r)
unfolding hash_block
hash_made K b r eo et ex es = after_made (hash_block K) K b r eo (ex ∙ ap K.ENCIPHER et) es

-- ---- the last part, of plaintext P: o is its offset, d the padded part, m the pad

pub last_made : {o d s m S' : List ℕ} (K : Key) (P S : List ℕ) (r : Run) → o ≡ r.offset xor K.L-* → d ≡ padded P → s ≡ r.sum xor d
    → m ≡ K.ENCIPHER o → S' ≡ S xor m → Last K P S r S' (record { done = r.done; offset = o; sum = s })
unfolding last_text
last_made {m = m} K P S r eo ed es em et = record {
  run = cc;
  text = et ∙ sym (xor_take S m) ∙ ap (λ (x : List ℕ). S xor take (length S) x) (em ∙ ap K.ENCIPHER eo);
}

-- whichever way it goes: b is the part padded as it stood, d as it stands, x what the checksum takes
pub last_either : {o b d x s m S' : List ℕ} (opens : Bool) (K : Key) (S : List ℕ) (r : Run) → b ≡ padded S → o ≡ r.offset xor K.L-* → d ≡ padded S'
    → x ≡ cond opens d b → s ≡ r.sum xor x → m ≡ K.ENCIPHER o → S' ≡ S xor m
    → Last K (last_plain opens K r.offset S) S r S' (record { done = r.done; offset = o; sum = s })
last_either false K S r eb eo ed ex es em et = last_made K S S r eo (ex ∙ eb) es em et
last_either true K S r eb eo ed ex es em et =
    let opened = last_made K _ S r eo (ex ∙ ed) es em et in
    last_made K (last_text K r.offset S) S r eo (ex ∙ ed ∙ ap padded opened.text) es em et

-- a last part of the associated data
pub last_hash_some : (K : Key) (O s S : List ℕ) → 0 < length S → last_hash K O s S ≡ s xor K.ENCIPHER (padded S xor (O xor K.L-*))
unfolding last_hash
last_hash_some K O s [] h = absurd (not-suc-le-zero h)
last_hash_some K O s (x ∷ S) h = refl
