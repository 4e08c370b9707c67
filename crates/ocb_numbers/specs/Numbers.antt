-- The product's table of numbers: which sizes are refused, by which number, and the count of cipher calls where none is. Sizes stand in the order of a
-- call's parts: those of the state, nonce, associated data, text, tag.
use Rattle.std.specs.Prelude.{Bool, cond, not, ◌||◌, List, [], ◌∷◌, ℕ, ◌+◌, ◌/◌, ◌^◌, ◌<◌, ◌≤◌, ltb, Result, Ok, Err}
use Rattle.sizes.specs.Sizes.{key_lengths, round_numbers, among, m_most, nonce_least, nonce_most, tag_least, tag_most}
use Rattle.ocb_numbers.specs.declared.Refusal.{Refusal}
use Rattle.ocb_numbers.specs.declared.Refusal.TheVariants.{Key, State, Nonce, Tag, Text, Data, WrongTag}

-- ---- The numbers: each with the test that gives it. The first rule that applies gives its number; where none does, the number is 0.

pub record Rule : Type 0 where
  pub number : ℕ
  pub applies : Bool

infix 50 ◌if◌
abbrev pub ◌if◌ : ℕ → Bool → Rule
n if test = record { number = n; applies = test }

abbrev pub first : List Rule → ℕ
first [] = 0
first (rule ∷ rules) = cond rule.applies rule.number (first rules)

-- n is not in least..most
abbrev pub outside : ℕ → ℕ → ℕ → Bool
outside least most n = ltb n least || ltb most n

-- THE LIMIT: texts and data have at most this many bytes, 2^m blocks
abbrev pub limit : ℕ → ℕ
limit m = 2 ^ (m + 4)

-- n bytes are too many
abbrev pub too_long : ℕ → ℕ → Bool
too_long m n = ltb (limit m) n

-- of set_up, by the key's size and m
abbrev pub set_up_rules : ℕ → ℕ → List Rule
set_up_rules key m = (1 if not (among key_lengths key)) ∷ (2 if outside 1 m_most m) ∷ []

unfoldable pub set_up_number : ℕ → ℕ → ℕ
set_up_number key m = first (set_up_rules key m)

-- of seal and open alike, by the state's m and rounds, and by the sizes
abbrev pub size_rules : ℕ → ℕ → ℕ → ℕ → ℕ → ℕ → List Rule
size_rules m rounds nonce ad text tag =
    (2 if outside 1 m_most m) ∷ (2 if not (among round_numbers rounds)) ∷ (3 if outside nonce_least nonce_most nonce) ∷ (4 if outside tag_least tag_most tag)
    ∷ (5 if too_long m text) ∷ (6 if too_long m ad) ∷ []

unfoldable pub refusal : ℕ → ℕ → ℕ → ℕ → ℕ → ℕ → ℕ
refusal m rounds nonce ad text tag = first (size_rules m rounds nonce ad text tag)

-- ---- The numbers as a program has them: that of a refusal, and that of an outcome, which is 0 where nothing is refused

abbrev pub number_of : Refusal → ℕ
number_of Key = 1
number_of State = 2
number_of Nonce = 3
number_of Tag = 4
number_of Text = 5
number_of Data = 6
number_of WrongTag = 7

abbrev pub outcome_number : Result Unit Refusal → ℕ
outcome_number (Ok _) = 0
outcome_number (Err r) = number_of r

-- ---- Sizes that no number refuses

-- n is in least..most
pub record Inside (least most n : ℕ) : Type 0 where
  pub from : least ≤ n
  pub to : n ≤ most

abbrev pub NonceSize : ℕ → Type 0
NonceSize = Inside nonce_least nonce_most

abbrev pub TagSize : ℕ → Type 0
TagSize = Inside tag_least tag_most

-- n bytes are within m
pub record Fits (m n : ℕ) : Type 0 where
  pub filled : m ≤ m_most
  pub short : n ≤ limit m

-- the L value of block i is one of L_0 to L_m
pub record InTable (m i : ℕ) : Type 0 where
  pub filled : m ≤ m_most
  pub counted : 0 < i
  pub early : i ≤ 2 ^ m

-- the sizes that are admitted
pub record InRange (m nonce ad text tag : ℕ) : Type 0 where
  pub filled : Inside 1 m_most m
  pub nonce_size : NonceSize nonce
  pub ad_size : Fits m ad
  pub text_size : Fits m text
  pub tag_size : TagSize tag

-- ---- The count of cipher calls

-- the blocks begun of n bytes
abbrev pub blocks : ℕ → ℕ
blocks n = (n + 15) / 16

-- those of associated data and text, one for the nonce and one for the tag
abbrev pub count : ℕ → ℕ → ℕ
count ad text = blocks text + blocks ad + 2
