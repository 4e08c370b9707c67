-- The two lists of numbers: what an admitted size is known to be, and that nothing else is refused. Each test is one of a list's rules.
-- Assumes nothing.
use mathlib.Core.Path.{◌≡◌, refl, sym, ap, ◌∙◌}
use mathlib.Core.Bool.{Bool, cond, true, false, not, ◌||◌}
use Prim.Native.Nat.{ℕ, ◌≤◌}
use native.Mathlib.Omega.{arith}
use borrow.Author.Tests.{ltb-false, not-false, le-ltb}
use lib.Dec.{eqb, ltb, lit<, lit≤}
use Rattle.sizes.specs.Sizes.{key_lengths, round_numbers, among, KeyLength, Rounds, m_most, nonce_least, nonce_most, tag_least, tag_most}
use Rattle.ocb_numbers.specs.declared.Refusal.{Refusal}
use Rattle.ocb_numbers.specs.declared.Refusal.TheVariants.{Key, State, Nonce, Tag, Text, Data, WrongTag}
use Rattle.ocb_numbers.specs.Numbers.{number_of, outside, limit, too_long, set_up_rules, set_up_number, size_rules, refusal, Inside, Fits, InRange}
use Rattle.ocb_numbers.proofs.RuleLaws.{Numbered, first-none, none_applies, first_most}

-- ---- in least..most

pub inside : (least most n : ℕ) → outside least most n ≡ false → Inside least most n
inside least most n e = go (ltb n least) refl e
  where
    go : (b : Bool) → ltb n least ≡ b → b || ltb most n ≡ false → Inside least most n
    go true p q = let z : ◌≡◌ {A = ℕ} 0 1 = cc in absurd (omega arith)
    go false p q = record { from = ltb-false n least p; to = ltb-false most n q }

not_outside : (least most n : ℕ) → Inside least most n → outside least most n ≡ false
not_outside least most n i = simp (le-ltb n least i.from, le-ltb most n i.to)

-- ---- within the limit

fits : (m n : ℕ) → m ≤ m_most → too_long m n ≡ false → Fits m n
fits m n h e = record { filled = h; short = ltb-false (limit m) n e }

not_too_long : {m n : ℕ} → Fits m n → too_long m n ≡ false
not_too_long {m} {n} f = le-ltb (limit m) n f.short

-- ---- a refusal has a number that is not 0

pub numbered_from_1 : (r : Refusal) → number_of r ≡ 0 → ⊥
numbered_from_1 Key e = omega arith
numbered_from_1 State e = omega arith
numbered_from_1 Nonce e = omega arith
numbered_from_1 Tag e = omega arith
numbered_from_1 Text e = omega arith
numbered_from_1 Data e = omega arith
numbered_from_1 WrongTag e = omega arith

-- and no other refusal has it
abbrev pub refusal_by : ℕ → Refusal
refusal_by n = cond (eqb n 1) Key (cond (eqb n 2) State (cond (eqb n 3) Nonce (cond (eqb n 4) Tag (cond (eqb n 5) Text (cond (eqb n 6) Data WrongTag)))))

by_number : (r : Refusal) → refusal_by (number_of r) ≡ r
by_number Key = refl
by_number State = refl
by_number Nonce = refl
by_number Tag = refl
by_number Text = refl
by_number Data = refl
by_number WrongTag = refl

pub number_single : (r s : Refusal) → number_of r ≡ number_of s → r ≡ s
number_single r s e = sym (by_number r) ∙ ap refusal_by e ∙ by_number s

-- ---- set_up

pub set_up_sizes : (key m : ℕ) → set_up_number key m ≡ 0 → KeyLength key × Inside 1 m_most m
unfolding set_up_number
set_up_sizes key m e =
    let none = none_applies 2 (set_up_rules key m) (lit< tt, lit≤ tt, (lit< tt, lit≤ tt, tt)) e in
    (record { admitted = not-false (among key_lengths key) none.0 }, inside 1 m_most m none.1.0)

-- ---- seal and open

numbered : (m rounds nonce ad text tag : ℕ) → Numbered 6 (size_rules m rounds nonce ad text tag)
numbered m rounds nonce ad text tag =
    (lit< tt, lit≤ tt, (lit< tt, lit≤ tt, (lit< tt, lit≤ tt, (lit< tt, lit≤ tt, (lit< tt, lit≤ tt, (lit< tt, lit≤ tt, tt))))))

module _ (m rounds nonce ad text tag : ℕ) where
  pub in_range : refusal m rounds nonce ad text tag ≡ 0 → Rounds rounds × InRange m nonce ad text tag
  unfolding refusal
  in_range e =
      let none = none_applies 6 (size_rules m rounds nonce ad text tag) (numbered m rounds nonce ad text tag) e in
      let filled = inside 1 m_most m none.0 in
      let sizes = none.1.1 in (
        record { admitted = not-false (among round_numbers rounds) none.1.0 },
        record {
          filled = filled;
          nonce_size = inside nonce_least nonce_most nonce sizes.0;
          tag_size = inside tag_least tag_most tag sizes.1.0;
          text_size = fits m text filled.to sizes.1.1.0;
          ad_size = fits m ad filled.to sizes.1.1.1.0;
        },
      )

  -- and the reverse
  pub admits : Rounds rounds → InRange m nonce ad text tag → refusal m rounds nonce ad text tag ≡ 0
  unfolding refusal
  admits r a =
      first-none (size_rules m rounds nonce ad text tag) (
        not_outside 1 m_most m a.filled,
        (
          ap not r.admitted,
          (
            not_outside nonce_least nonce_most nonce a.nonce_size,
            (not_outside tag_least tag_most tag a.tag_size, (not_too_long a.text_size, (not_too_long a.ad_size, tt))),
          ),
        ),
      )

  -- the largest number of a refusal is 6
  pub refusal_most : refusal m rounds nonce ad text tag ≤ 6
  unfolding refusal
  refusal_most = first_most 6 (size_rules m rounds nonce ad text tag) (numbered m rounds nonce ad text tag)

-- ---- both sides of the limit, computed

-- the number by m, data and text, with 10 rounds, a nonce of 12 bytes and a tag of 16
abbrev number_by : ℕ → ℕ → ℕ → ℕ
number_by m ad text = refusal m 10 12 ad text 16

-- by 32 bytes for m = 1, by 2^30 for m = 26; where both are too long the text's number is given
pub limit_edges :
    (number_by 1 0 32 ≡ 0) × (number_by 1 0 33 ≡ 5) × (number_by 1 32 0 ≡ 0) × (number_by 1 33 0 ≡ 6) × (number_by 1 32 32 ≡ 0) × (number_by 1 33 33 ≡ 5)
    × (number_by 26 1073741824 1073741824 ≡ 0) × (number_by 26 0 1073741825 ≡ 5) × (number_by 26 1073741825 0 ≡ 6)
unfolding refusal
limit_edges = (refl, refl, refl, refl, refl, refl, refl, refl, refl)
