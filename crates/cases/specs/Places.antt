-- What table::find finds: nothing in a bad case, or where the bodies of a case begin and end.
use Rattle.std.specs.Prelude.{cond, List, ◌≡◌, ℕ, ◌+◌, ◌-◌, ◌≤◌, eqb, length, get_or, Option, None, Some}
use Rattle.cases.specs.Case.{Lengths, lengths, malformed, Case, body}
use Rattle.cases.specs.declared.table.Table.{Table}

abbrev pub places : List ℕ → Lengths → Table
places S l = record {
  opens = eqb (get_or S 0 0) 1;
  m = get_or S 1 0;
  nonce = 22 + l.key;
  ad = 22 + l.key + l.nonce;
  text = 22 + l.key + l.nonce + l.ad;
  tag = 22 + l.key + l.nonce + l.ad + l.text;
  end = 22 + l.key + l.nonce + l.ad + l.text + l.tag;
}

unfoldable pub found : List ℕ → Option Table
found S = cond (malformed S) None (Some (places S (lengths S)))

-- the case whose bodies are at the places of t
abbrev pub case_at : List ℕ → Table → Case
case_at S t = record {
  opens = t.opens;
  m = t.m;
  key = body S 22 (t.nonce - 22);
  nonce = body S t.nonce (t.ad - t.nonce);
  ad = body S t.ad (t.text - t.ad);
  text = body S t.text (t.tag - t.text);
  tag = body S t.tag (t.end - t.tag);
}

-- the places of t are in order and within S
pub record Within (S : List ℕ) (t : Table) : Type 0 where
  pub nonce_place : 22 ≤ t.nonce
  pub ad_place : t.nonce ≤ t.ad
  pub text_place : t.ad ≤ t.text
  pub tag_place : t.text ≤ t.tag
  pub end_place : t.tag ≤ t.end
  pub size : t.end ≡ length S

-- the buffers text and tag have room for the last two bodies
pub record Room (t : Table) (text tag : List ℕ) : Type 0 where
  pub text_room : t.tag - t.text ≤ length text
  pub tag_room : t.end - t.tag ≤ length tag
