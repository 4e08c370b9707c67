-- A case of the test program and what is said of it: a table of contents of 22 bytes, five bodies behind it, and the answer through set_up, seal and open.
use Rattle.std.specs.Prelude.{Bool, true, false, not, cond, ◌||◌, List, [], ◌∷◌, ℕ, ◌+◌, eqb, ltb, length, get_or, take, drop}
use Rattle.block.specs.Words.{le}
use Rattle.ocb.specs.Answers.{Outcome, untouched, unless, set_up, sealed, opened}
use Rattle.ocb.specs.declared.SetUp.{SetUp}

-- ---- The table of contents: 0 seal or 1 open, m, and five lengths of four bytes, the lowest byte first

-- the number that the four bytes of S from place i on are
abbrev pub word : List ℕ → ℕ → ℕ
word S i = le (take 4 (drop i S))

-- the lengths of key, nonce, associated data, text and tag
pub record Lengths : Type 0 where
  pub key : ℕ
  pub nonce : ℕ
  pub ad : ℕ
  pub text : ℕ
  pub tag : ℕ

abbrev pub lengths : List ℕ → Lengths
lengths S = record { key = word S 2; nonce = word S 6; ad = word S 10; text = word S 14; tag = word S 18 }

abbrev pub total : Lengths → ℕ
total l = 22 + l.key + l.nonce + l.ad + l.text + l.tag

-- what is wrong with a case: no table, a first byte above 1, a length above 8,192, too few or too many bytes
abbrev pub flaws : List ℕ → List Bool
flaws S =
    ltb (length S) 22
    ∷ ltb 1 (get_or S 0 0)
    ∷ ltb 8192 (word S 2)
    ∷ ltb 8192 (word S 6)
    ∷ ltb 8192 (word S 10)
    ∷ ltb 8192 (word S 14)
    ∷ ltb 8192 (word S 18)
    ∷ not (eqb (length S) (total (lengths S)))
    ∷ []

abbrev pub any : List Bool → Bool
any [] = false
any (test ∷ tests) = test || any tests

unfoldable pub malformed : List ℕ → Bool
malformed S = any (flaws S)

-- ---- The case

pub record Case : Type 0 where
  pub opens : Bool
  pub m : ℕ
  pub key : List ℕ
  pub nonce : List ℕ
  pub ad : List ℕ
  pub text : List ℕ
  pub tag : List ℕ

-- the n bytes of S from place i on
abbrev pub body : List ℕ → ℕ → ℕ → List ℕ
body S i n = take n (drop i S)

-- the bodies, one behind the other, with lengths l
abbrev pub bodies : List ℕ → Lengths → Case
bodies S l = record {
  opens = eqb (get_or S 0 0) 1;
  m = get_or S 1 0;
  key = body S 22 l.key;
  nonce = body S (22 + l.key) l.nonce;
  ad = body S (22 + l.key + l.nonce) l.ad;
  text = body S (22 + l.key + l.nonce + l.ad) l.text;
  tag = body S (22 + l.key + l.nonce + l.ad + l.text) l.tag;
}

pub data Decoded : Type 0 where
  bad : Decoded
  good : Case → Decoded

unfoldable pub decode : List ℕ → Decoded
decode S = cond (malformed S) bad (good (bodies S (lengths S)))

-- ---- The answer

abbrev pub worked : Bool → SetUp → List ℕ → List ℕ → List ℕ → List ℕ → Outcome
worked true u N A S T = opened u.state N A S T
worked false u N A S T = sealed u.state N A S T

-- if set-up refuses, its number with count 0, and text and tag as given
abbrev pub after : SetUp → Bool → List ℕ → List ℕ → List ℕ → List ℕ → Outcome
after u opens N A S T = unless u.number (untouched S T) (worked opens u N A S T)

unfoldable pub outcome : Case → Outcome
outcome c = after (set_up c.key c.m) c.opens c.nonce c.ad c.text c.tag
