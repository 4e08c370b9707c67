-- From what answer replies, with buffers of 8,192 bytes, to what respond writes: such buffers have room, so the reply says how the case was decoded.
-- Assumes nothing.
use mathlib.Core.Path.{◌≡◌, refl, sym, ap, ap₂, subst, ◌∙◌}
use mathlib.Core.Bool.{Bool, true, false, cond}
use mathlib.Core.List.{List}
use Prim.Native.Nat.{ℕ, ◌+◌, ◌-◌, ◌≤◌, ◌<◌}
use native.Mathlib.Nat.{min-le_left, le_trans}
use native.Mathlib.Omega.{arith}
use borrow.Author.Tests.{le-leb, lt-leb}
use lib.ListN.{length, take, drop, length-append, length-drop, length-take, length-replicate}
use Rattle.standards.specs.Strings.{zeros}
use lib.Seq.{take_at}
use Rattle.cases.specs.Case.{word, lengths, malformed, bodies, Case, Decoded, bad, good, decode, outcome}
use Rattle.lines.specs.Text.{lines, Puts}
use Rattle.cases.specs.Output.{bad_line, output}
use Rattle.cases.specs.Replies.{front, Replied, room, laid, result_of, Left, written, Responds}
use Rattle.cases.specs.declared.Reply.{Reply}
use Rattle.cases.specs.declared.NoReply.TheVariants.{Bad, NoRoom}
use Rattle.std.specs.Prelude.{Ok, Err}
use Rattle.cases.proofs.Placed.{formed}

-- ---- no body is longer than 8,192 bytes

pub length_take_most : (n : ℕ) (S : List ℕ) {most : ℕ} → n ≤ most → length (take n S) ≤ most
length_take_most n S h = simp length-take (le_trans (min-le_left n (length S)) h)

record Small (c : Case) : Type 0 where
  pub text_most : length c.text ≤ 8192
  pub tag_most_lem : length c.tag ≤ 8192

small : (S : List ℕ) (c : Case) → decode S ≡ good c → Small c
unfolding decode
small S c e = go (malformed S) refl e
  where
    go : (b : Bool) → malformed S ≡ b → cond b bad (good (bodies S (lengths S))) ≡ good c → Small c
    go true w h = absurd (let z : ◌≡◌ {A = ℕ} 0 1 = cc in omega arith)
    go false w h =
        let f = formed S w in
        let e : bodies S (lengths S) ≡ c = cc in
        subst Small e (record { text_most = length_take_most (word S 14) _ f.text; tag_most_lem = length_take_most (word S 18) _ f.tag })

-- ---- what a reply says

-- the answer a is that to a case
record Gave (d : Decoded) (a : Reply) (text tag text' tag' : List ℕ) : Type 0 where
  pub case : Case
  pub is : d ≡ good case
  pub number : a.number ≡ (outcome case).number
  pub calls : a.calls ≡ (outcome case).calls
  pub text_size : a.text ≡ length case.text
  pub tag_size : a.tag ≡ length case.tag
  pub text_left : text' ≡ front (outcome case).text (length case.text) text
  pub tag_left : tag' ≡ front (outcome case).tag (length case.tag) tag

module _ (text tag : List ℕ) {text' tag' : List ℕ} where
  bad_reply : (d : Decoded) → Left (result_of d text tag) (Err Bad) text' tag' → d ≡ bad
  unfolding result_of
  bad_reply bad L = refl
  bad_reply (good c) L = go (room c text tag) L.reply
    where
      go : (b : Bool) → ◌≡◌ {A = Replied} (Err Bad) (cond b (laid c text tag) (record { reply = Err NoRoom; text = text; tag = tag })).reply → good c ≡ bad
      go true e = absurd (let z : ◌≡◌ {A = ℕ} 0 1 = cc in omega arith)
      go false e = absurd (let z : ◌≡◌ {A = ℕ} 0 1 = cc in omega arith)

  no_room_reply : (d : Decoded) → ((c : Case) → d ≡ good c → room c text tag ≡ true) → Left (result_of d text tag) (Err NoRoom) text' tag' → ⊥
  unfolding result_of
  no_room_reply bad roomy L = let e = L.reply in let z : ◌≡◌ {A = ℕ} 0 1 = cc in omega arith
  no_room_reply (good c) roomy L = go (room c text tag) (roomy c refl) L.reply
    where
      go : (b : Bool) → b ≡ true → ◌≡◌ {A = Replied} (Err NoRoom) (cond b (laid c text tag) (record { reply = Err NoRoom; text = text; tag = tag })).reply → ⊥
      go true h e = let z : ◌≡◌ {A = ℕ} 0 1 = cc in omega arith
      go false h e = let z : ◌≡◌ {A = ℕ} 0 1 = cc in omega arith

  answer_reply : (d : Decoded) {a : Reply} → Left (result_of d text tag) (Ok a) text' tag' → Gave d a text tag text' tag'
  unfolding result_of
  answer_reply bad L = let e = L.reply in absurd (let z : ◌≡◌ {A = ℕ} 0 1 = cc in omega arith)
  answer_reply (good c) {a} L = go (room c text tag) L
    where
      go : (b : Bool) → Left (cond b (laid c text tag) (record { reply = Err NoRoom; text = text; tag = tag })) (Ok a) text' tag'
          → Gave (good c) a text tag text' tag'
      go true L =
          let e = L.reply in
          record { case = c; is = refl; number = cc; calls = cc; text_size = cc; tag_size = cc; text_left = L.text_left; tag_left = L.tag_left }
      go false L = let e = L.reply in absurd (let z : ◌≡◌ {A = ℕ} 0 1 = cc in omega arith)

-- ---- buffers of 8,192 bytes

-- numbers n and k, a text and a tag are those of the case that was decoded
pub record Told (d : Decoded) (n k : ℕ) (text tag : List ℕ) : Type 0 where
  pub case : Case
  pub is : d ≡ good case
  pub number : n ≡ (outcome case).number
  pub calls : k ≡ (outcome case).calls
  pub text_is : text ≡ (outcome case).text
  pub tag_is : tag ≡ (outcome case).tag

pub shown : {d : Decoded} {n k : ℕ} {text tag : List ℕ} → Told d n k text tag → lines n k text tag ≡ output d
unfolding output
shown {d} {n} {k} {text} {tag} w =
    let o = outcome w.case in
    let same : lines n k text tag ≡ lines o.number o.calls o.text o.tag =
    ap₂ (λ (i j : ℕ). lines i j text tag) w.number w.calls ∙ ap₂ (λ (v z : List ℕ). lines o.number o.calls v z) w.text_is w.tag_is in
    same ∙ sym (ap output w.is)

-- the front of a buffer that kept its length
fronted : (S : List ℕ) (n : ℕ) (d : List ℕ) {d' : List ℕ} → d' ≡ front S n d → length d' ≡ length d → n ≤ length d → take n d' ≡ S
fronted S n d {d'} e same h =
    let sum : length d' ≡ length S + (length d - n) = ap length e ∙ length-append S (drop n d) ∙ ap (λ (k : ℕ). length S + k) (length-drop n d) in
    ap (take n) e ∙ take_at S (drop n d) n (omega arith)

blank : length (zeros 8192) ≡ 8192
blank = length-replicate {A = ℕ} 8192 0

-- answer, with blank buffers, replied x to the case S
module _ (S : List ℕ) {x : Replied} {text' tag' : List ℕ} (left : Left (result_of (decode S) (zeros 8192) (zeros 8192)) x text' tag') where
  replied : {y : Replied} → x ≡ y → Left (result_of (decode S) (zeros 8192) (zeros 8192)) y text' tag'
  replied e = subst (λ (r : Replied). Left (result_of (decode S) (zeros 8192) (zeros 8192)) r text' tag') e left

  pub told_bad : x ≡ Err Bad → decode S ≡ bad
  told_bad e = bad_reply (zeros 8192) (zeros 8192) (decode S) (replied e)

  pub shown_bad : x ≡ Err Bad → bad_line ≡ output (decode S)
  unfolding output
  shown_bad e = sym (ap output (told_bad e))

  pub has_room : x ≡ Err NoRoom → ⊥
  has_room e =
      no_room_reply (zeros 8192) (zeros 8192) (decode S)
      (λ c h. let s = small S c h in
      let et = le-leb (length c.text) (length (zeros 8192)) (omega (arith, blank)) in
      let eg = le-leb (length c.tag) (length (zeros 8192)) (omega (arith, blank)) in rw (et, eg)) (replied e)

  module _ {a : Reply} (e : x ≡ Ok a) where
    gave : Gave (decode S) a (zeros 8192) (zeros 8192) text' tag'
    gave = answer_reply (zeros 8192) (zeros 8192) (decode S) (replied e)

    pub sizes : (a.text ≤ 8192) × (a.tag ≤ 8192)
    sizes = let s = small S gave.case gave.is in (omega (arith, gave.text_size), omega (arith, gave.tag_size))

    pub told : length text' ≡ 8192 → length tag' ≡ 8192 → Told (decode S) a.number a.calls (take a.text text') (take a.tag tag')
    told st sg =
        let s = small S gave.case gave.is in
        let o = outcome gave.case in
        let et : take (length gave.case.text) text' ≡ o.text =
        fronted o.text (length gave.case.text) (zeros 8192) gave.text_left (st ∙ sym blank) (omega (arith, blank)) in
        let eg : take (length gave.case.tag) tag' ≡ o.tag =
        fronted o.tag (length gave.case.tag) (zeros 8192) gave.tag_left (sg ∙ sym blank) (omega (arith, blank)) in
        record {
          case = gave.case;
          is = gave.is;
          number = gave.number;
          calls = gave.calls;
          text_is = ap (λ (i : ℕ). take i text') gave.text_size ∙ et;
          tag_is = ap (λ (i : ℕ). take i tag') gave.tag_size ∙ eg;
        }

-- ---- what respond leaves

pub nothing : (d : Decoded) (out : List ℕ) → length out < 33000 → Responds d out 0 out
unfolding written
nothing d out h = let e = lt-leb 33000 (length out) h in record { count = rw e; left = rw e }

pub responds : (d : Decoded) (out : List ℕ) {W out' : List ℕ} {r : ℕ} → 33000 ≤ length out → W ≡ output d → Puts out 0 W r out' → Responds d out r out'
unfolding written
responds d out {W} {out'} {r} h e p =
    let l = le-leb 33000 (length out) h in
    let put : Puts out 0 (output d) r out' = subst (λ (x : List ℕ). Puts out 0 x r out') e p in
    record { count = rw l (omega (arith, put.next-is)); left = rw l put.left }
