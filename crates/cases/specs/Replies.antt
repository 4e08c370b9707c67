-- What the entry points leave in the buffers lent to them, for each thing that a case may be decoded to.
use Rattle.std.specs.Prelude.{◌≡◌, Bool, cond, ◌&&◌, List, [], ◌++◌, ℕ, leb, length, drop, Ok, Err}
use Rattle.std.specs.declared.result.Result as std
use Rattle.ocb.specs.declared.Answer.{Answer}
use Rattle.cases.specs.Case.{Case, Decoded, bad, good, outcome}
use Rattle.lines.specs.Text.{over}
use Rattle.cases.specs.Output.{output}
use Rattle.cases.specs.declared.Reply.{Reply}
use Rattle.cases.specs.declared.NoReply.{NoReply}
use Rattle.cases.specs.declared.NoReply.TheVariants.{Bad, NoRoom}

-- ---- answer

-- the buffer d with S in the place of its first n bytes
abbrev pub front : List ℕ → ℕ → List ℕ → List ℕ
front S n d = S ++ drop n d

-- the answer r is that of the case c, whose text and tag stand afterwards at the front of what were the buffers text and tag
pub record Lays (c : Case) (r : Answer) (text tag text' tag' : List ℕ) : Type 0 where
  pub number : r.number ≡ (outcome c).number
  pub calls : r.calls ≡ (outcome c).calls
  pub text_left : text' ≡ front (outcome c).text (length c.text) text
  pub tag_left : tag' ≡ front (outcome c).tag (length c.tag) tag

-- what is replied: an answer, or why there is none
abbrev pub Replied : Type 0
Replied = std.Result Reply NoReply

pub record Result : Type 0 where
  pub reply : Replied
  pub text : List ℕ
  pub tag : List ℕ

-- the buffers text and tag have room for the case's
abbrev pub room : Case → List ℕ → List ℕ → Bool
room c text tag = leb (length c.text) (length text) && leb (length c.tag) (length tag)

abbrev pub laid : Case → List ℕ → List ℕ → Result
laid c text tag = record {
  reply = Ok (record { number = (outcome c).number; calls = (outcome c).calls; text = length c.text; tag = length c.tag });
  text = front (outcome c).text (length c.text) text;
  tag = front (outcome c).tag (length c.tag) tag;
}

unfoldable pub result_of : Decoded → List ℕ → List ℕ → Result
result_of bad text tag = record { reply = Err Bad; text = text; tag = tag }
result_of (good c) text tag = cond (room c text tag) (laid c text tag) (record { reply = Err NoRoom; text = text; tag = tag })

-- the reply r, and the buffers that are left, are the result's
pub record Left (x : Result) (r : Replied) (text tag : List ℕ) : Type 0 where
  pub reply : r ≡ x.reply
  pub text_left : text ≡ x.text
  pub tag_left : tag ≡ x.tag

-- ---- respond

-- what is written to a buffer: nothing if it has fewer than 33,000 bytes, which is more than any output has
unfoldable pub written : Decoded → List ℕ → List ℕ
written d out = cond (leb 33000 (length out)) (output d) []

-- r bytes were written at the front of what was out
pub record Responds (d : Decoded) (out : List ℕ) (r : ℕ) (out' : List ℕ) : Type 0 where
  pub count : r ≡ length (written d out)
  pub left : out' ≡ over out 0 (written d out)
