-- From the table that was found to what answer leaves: bad, no room, or the answer. Assumes nothing.
use mathlib.Core.Path.{◌≡◌, refl, sym, ap, subst, ◌∙◌}
use mathlib.Core.Bool.{Bool, true, false, cond}
use mathlib.Core.List.{List}
use Prim.Native.Nat.{ℕ, ◌+◌, ◌-◌, ◌<◌}
use native.Mathlib.Nat.{add-sub_cancel_left}
use native.Mathlib.Omega.{arith}
use borrow.Author.Tests.{le-leb, lt-leb}
use lib.ListN.{length}
use Rattle.std.proofs.lemmas.Bool.{and_right}
use Rattle.ocb.specs.declared.Answer.{Answer}
use Rattle.cases.specs.Case.{word, Lengths, lengths, bodies, Decoded, bad, good, decode}
use Rattle.cases.specs.Places.{places, found, case_at, Within, Room}
use Rattle.cases.specs.Replies.{Lays, Replied, room, laid, result_of, Left}
use Rattle.cases.specs.declared.table.Table.{Table}
use Rattle.cases.specs.declared.NoReply.{NoReply}
use Rattle.cases.specs.declared.NoReply.TheVariants.{Bad, NoRoom}
use Rattle.std.specs.Option.{ok_or}
use Rattle.std.specs.Prelude.{Option, None, Some, Result, Ok, Err}
use Rattle.cases.proofs.Placed.{Placed, is_bad}
use Rattle.cases.proofs.Laid.{body_length}

pub within : {S : List ℕ} {t : Table} → Placed S t → Within S t
within {S} {t} p =
    let e1 : t.nonce ≡ 22 + word S 2 = ap (λ (x : Table). x.nonce) p.is in
    let e2 : t.ad ≡ 22 + word S 2 + word S 6 = ap (λ (x : Table). x.ad) p.is in
    let e3 : t.text ≡ 22 + word S 2 + word S 6 + word S 10 = ap (λ (x : Table). x.text) p.is in
    let e4 : t.tag ≡ 22 + word S 2 + word S 6 + word S 10 + word S 14 = ap (λ (x : Table). x.tag) p.is in
    let e5 : t.end ≡ 22 + word S 2 + word S 6 + word S 10 + word S 14 + word S 18 = ap (λ (x : Table). x.end) p.is in
    let size = p.form.size in
    record {
      nonce_place = omega arith;
      ad_place = omega arith;
      text_place = omega arith;
      tag_place = omega arith;
      end_place = omega arith;
      size = omega arith;
    }

-- the bodies by their lengths and by their places
same_bodies : (S : List ℕ) (l : Lengths) → bodies S l ≡ case_at S (places S l)
same_bodies S l =
    let e1 = add-sub_cancel_left 22 l.key in
    let e2 = add-sub_cancel_left (22 + l.key) l.nonce in
    let e3 = add-sub_cancel_left (22 + l.key + l.nonce) l.ad in
    let e4 = add-sub_cancel_left (22 + l.key + l.nonce + l.ad) l.text in
    let e5 = add-sub_cancel_left (22 + l.key + l.nonce + l.ad + l.text) l.tag in
    cc

decoded_good : (S : List ℕ) (t : Table) → Placed S t → decode S ≡ good (case_at S t)
unfolding decode
decoded_good S t p =
    ap (λ (b : Bool). cond b bad (good (bodies S (lengths S)))) p.well
    ∙ ap good (same_bodies S (lengths S) ∙ ap (case_at S) (sym p.is))

-- what find does not find is refused as bad
pub refused : (x : Option Table) {e : NoReply} → ◌≡◌ {A = Result Table NoReply} (Err e) (ok_or x Bad) → x ≡ None → e ≡ Bad
refused None h none = cc
refused (Some t) h none = absurd (let z : ◌≡◌ {A = ℕ} 0 1 = cc in omega arith)

pub answered_bad : (S text tag : List ℕ) → None ≡ found S → Left (result_of (decode S) text tag) (Err Bad) text tag
unfolding decode result_of
answered_bad S text tag e =
    subst (λ (b : Bool). Left (result_of (cond b bad (good (bodies S (lengths S)))) text tag) (Err Bad) text tag) (sym (is_bad S e))
    (record { reply = refl; text_left = refl; tag_left = refl })

module _ {S : List ℕ} {t : Table} (p : Placed S t) (text tag : List ℕ) where
  text_size : length (case_at S t).text ≡ t.tag - t.text
  text_size = let w = within p in body_length S t.text (t.tag - t.text) (omega arith)

  tag_size : length (case_at S t).tag ≡ t.end - t.tag
  tag_size = let w = within p in body_length S t.tag (t.end - t.tag) (omega arith)

  by_room : (b : Bool) {r : Replied} {text' tag' : List ℕ} → room (case_at S t) text tag ≡ b
      → Left (cond b (laid (case_at S t) text tag) (record { reply = Err NoRoom; text = text; tag = tag })) r text' tag'
      → Left (result_of (decode S) text tag) r text' tag'
  unfolding result_of
  by_room b {r} {text'} {tag'} e L =
      subst (λ (d : Decoded). Left (result_of d text tag) r text' tag') (sym (decoded_good S t p))
      (subst (λ (x : Bool). Left (cond x (laid (case_at S t) text tag) (record { reply = Err NoRoom; text = text; tag = tag })) r text' tag') (sym e) L)

  no_room : room (case_at S t) text tag ≡ false → Left (result_of (decode S) text tag) (Err NoRoom) text tag
  no_room e = by_room false e (record { reply = refl; text_left = refl; tag_left = refl })

  pub no_text_room : length text < t.tag - t.text → Left (result_of (decode S) text tag) (Err NoRoom) text tag
  no_text_room h = no_room (let e = lt-leb (length (case_at S t).text) (length text) (omega (arith, text_size)) in rw e)

  pub no_tag_room : length tag < t.end - t.tag → Left (result_of (decode S) text tag) (Err NoRoom) text tag
  no_tag_room h = no_room (and_right _ _ (lt-leb (length (case_at S t).tag) (length tag) (omega (arith, tag_size))))

  pub answered : {r : Answer} {text' tag' : List ℕ} → Room t text tag → Lays (case_at S t) r text tag text' tag'
      → Left (result_of (decode S) text tag) (Ok (record { number = r.number; calls = r.calls; text = t.tag - t.text; tag = t.end - t.tag })) text' tag'
  answered h L =
      let et = le-leb (length (case_at S t).text) (length text) (omega (arith, text_size)) in
      let eg = le-leb (length (case_at S t).tag) (length tag) (omega (arith, tag_size)) in
      let nt = text_size in
      let ng = tag_size in
      by_room true (rw (et, eg)) (record { reply = cc; text_left = L.text_left; tag_left = L.tag_left })
