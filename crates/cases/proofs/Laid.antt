-- A string put at the front of a buffer and changed there in place: from what work leaves of the front to what answer leaves of the buffer.
-- Assumes nothing.
use mathlib.Core.Path.{◌≡◌, ap, ap₂, subst, ◌∙◌}
use mathlib.Core.List.{List, ◌++◌}
use Prim.Native.Nat.{ℕ, ◌+◌, ◌≤◌}
use native.Mathlib.Nat.{zero-add}
use native.Mathlib.Omega.{arith}
use lib.ListN.{length, take, drop, length-take, length-drop}
use lib.Seq.{take_at, drop_at}
use Rattle.ocb.specs.Answers.{set_up, Leaves}
use Rattle.ocb.specs.declared.Answer.{Answer}
use Rattle.cases.specs.Case.{Case, body, after, outcome}
use Rattle.lines.specs.Text.{over}
use Rattle.cases.specs.Replies.{Lays}

pub body_length : (S : List ℕ) (i n : ℕ) → i + n ≤ length S → length (body S i n) ≡ n
body_length S i n h = simp (length-take, length-drop) (omega arith)

module _ (d S : List ℕ) {d' : List ℕ} {n : ℕ} (put : d' ≡ over d 0 S) (long : length S ≡ n) where
  taken : take n d' ≡ S
  taken = ap (take n) put ∙ take_at S (drop (0 + length S) d) n long

  behind : drop n d' ≡ drop (length S) d
  behind = ap (drop n) put ∙ drop_at S (drop (0 + length S) d) n long ∙ ap (λ (k : ℕ). drop k d) (zero-add (length S))

pub lays : (c : Case) {r : Answer} (text tag : List ℕ) {text1 tag1 text2 tag2 : List ℕ} {n k : ℕ}
    → text1 ≡ over text 0 c.text → length c.text ≡ n → tag1 ≡ over tag 0 c.tag → length c.tag ≡ k
    → Leaves (after (set_up c.key c.m) c.opens c.nonce c.ad (take n text1) (take k tag1)) r text2 tag2
    → Lays c r text tag (text2 ++ drop n text1) (tag2 ++ drop k tag1)
unfolding outcome
lays c {r} text tag {text1} {tag1} {text2} {tag2} {n} {k} et nt eg ng L =
    let given : Leaves (outcome c) r text2 tag2 =
    subst (λ (x : List ℕ). Leaves (after (set_up c.key c.m) c.opens c.nonce c.ad x c.tag) r text2 tag2) (taken text c.text et nt)
    (subst (λ (x : List ℕ). Leaves (after (set_up c.key c.m) c.opens c.nonce c.ad (take n text1) x) r text2 tag2) (taken tag c.tag eg ng) L) in
    record {
      number = given.number;
      calls = given.calls;
      text_left = ap₂ (λ (x y : List ℕ). x ++ y) given.text_left (behind text c.text et nt);
      tag_left = ap₂ (λ (x y : List ℕ). x ++ y) given.tag_left (behind tag c.tag eg ng);
    }
