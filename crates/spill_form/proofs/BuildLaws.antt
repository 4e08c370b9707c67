-- The file that is built from entries is accepted and holds just these entries. Assumes nothing.
use mathlib.Core.Path.{◌≡◌, refl, sym, ap, ap₂, subst, ◌∙◌}
use mathlib.Core.List.{List, [], ◌∷◌, ◌++◌, append_assoc, append-nil}
use Prim.Native.Nat.{ℕ, zero, suc, ◌+◌, ◌*◌, ◌<◌, ◌≤◌}
use native.Mathlib.Nat.{add-zero, mul-suc, mul-zero}
use native.Mathlib.Omega.{arith}
use lib.ListN.{length, get_or, take, drop, take-append-drop, length-append, length-take, length-drop}
use lib.Seq.{split_at, take-suc, take-length, length-take-le, get_or-take}
use Rattle.block.specs.Words.{le, le_bytes}
use Rattle.block.proofs.WordLaws.{le_bytes_length}
use Rattle.spill_form.specs.File.{most_rows, most_bytes, bytes_at, word_at, row_size, least_body, count, row_at, nonce_of, ad_of, place_of, length_of, running}
use Rattle.spill_form.specs.Accepted.{Sound, Accepted}
use Rattle.spill_form.specs.Entries.{Entry, text_length, tag_of, entry, body, row, rows, bodies, build}
use Rattle.spill_form.specs.declared.Form.{Form}
use Rattle.spill_form.proofs.PlaceLaws.{bytes_at_in, bytes_at_whole, four_bytes}

-- ---- entries that a file can hold

pub record Proper (e : Entry) : Type 0 where
  pub nonce_size : length e.nonce ≡ 12
  pub ad_size : length e.ad ≡ 4
  pub tag_size : length e.tag ≡ 16
  pub tenant : le e.ad ≡ 0 → ⊥

abbrev pub blank : Entry
blank = record { nonce = []; ad = []; text = []; tag = [] }

abbrev pub Each : List Entry → Type 0
Each es = (i : ℕ) → i < length es → Proper (get_or es i blank)

-- few enough, and not too long
pub record Holds (f : Form) (es : List Entry) : Type 0 where
  pub form : f.tag_in_row ≤ 16
  pub each : Each es
  pub few : length es ≤ most_rows
  pub most : length (build f es) ≤ most_bytes

-- ---- sizes

module _ (f : Form) (small : f.tag_in_row ≤ 16) where
  pub body_size : (e : Entry) → Proper e → length (body f e) ≡ length e.text + least_body f
  unfolding body
  body_size e p = simp (length-append, length-drop) (omega (arith, p.tag_size))

  pub row_size_lem : (place : ℕ) (e : Entry) → Proper e → length (row f place e) ≡ row_size f
  unfolding row
  row_size_lem place e p =
      simp (length-append, length-take, le_bytes_length) (omega (arith, p.nonce_size, p.ad_size, p.tag_size))

  pub rows_size : (place : ℕ) (es : List Entry) → Each es → length (rows f place es) ≡ row_size f * length es
  unfolding rows
  rows_size place [] h = sym (mul-zero (row_size f))
  rows_size place (e ∷ es) h =
      length-append (row f place e) (rows f (place + length (body f e)) es)
      ∙ ap₂ (λ (x y : ℕ). x + y) (row_size_lem place e (h 0 (omega arith))) (rows_size (place + length (body f e)) es (λ i l. h (suc i) (omega arith)))
      ∙ (let s = mul-suc (row_size f) (length es) in omega arith)

pub rows_append : (f : Form) (place : ℕ) (xs ys : List Entry) → rows f place (xs ++ ys) ≡ rows f place xs ++ rows f (place + length (bodies f xs)) ys
unfolding rows bodies
rows_append f place [] ys = ap (λ (p : ℕ). rows f p ys) (sym (add-zero place))
rows_append f place (x ∷ xs) ys =
    let b : List ℕ = body f x in
    let e : place + length b + length (bodies f xs) ≡ place + length (b ++ bodies f xs) = omega (arith, length-append b (bodies f xs)) in
    ap (λ (l : List ℕ). row f place x ++ l)
    (rows_append f (place + length b) xs ys ∙ ap (λ (p : ℕ). rows f (place + length b) xs ++ rows f p ys) e)
    ∙ sym (append_assoc (row f place x) (rows f (place + length b) xs) (rows f (place + length (b ++ bodies f xs)) ys))

pub bodies_append : (f : Form) (xs ys : List Entry) → bodies f (xs ++ ys) ≡ bodies f xs ++ bodies f ys
unfolding bodies
bodies_append f [] ys = refl
bodies_append f (x ∷ xs) ys = ap (λ (l : List ℕ). body f x ++ l) (bodies_append f xs ys) ∙ sym (append_assoc (body f x) (bodies f xs) (bodies f ys))

pub each_take : (es : List Entry) (i : ℕ) → i ≤ length es → Each es → Each (take i es)
each_take es i h ok j l =
    let long = length-take-le i es h in
    subst Proper (sym (get_or-take i es j blank (omega arith))) (ok j (omega arith))

pub build_length : (f : Form) → f.tag_in_row ≤ 16 → (es : List Entry) → Each es → length (build f es) ≡ row_at f (length es) + length (bodies f es)
unfolding build row_at
build_length f small es each =
    let place : ℕ = row_at f (length es) in
    length-append (le_bytes 4 (length es)) (rows f place es ++ bodies f es)
    ∙ ap₂ (λ (x y : ℕ). x + y) (le_bytes_length 4 (length es)) (length-append (rows f place es) (bodies f es))
    ∙ omega (arith, rows_size f small place es each)

same_fields : {a b c d : List ℕ} {e : Entry} → a ≡ e.nonce → b ≡ e.ad → c ≡ e.text → d ≡ e.tag
    → ◌≡◌ {A = Entry} (record { nonce = a; ad = b; text = c; tag = d }) e
same_fields {a} {b} {c} {d} {e} ea eb ec ed =
    let w : ◌≡◌ {A = Entry} (record { nonce = a; ad = b; text = c; tag = d }) (record { nonce = e.nonce; ad = e.ad; text = e.text; tag = e.tag }) = cc in w

-- ---- entry i of a list, in the file that is built

module _ (f : Form) (es : List Entry) (ok : Holds f es) where
  head : List ℕ
  head = le_bytes 4 (length es)

  start : ℕ
  start = row_at f (length es)

  build_size : length (build f es) ≡ start + length (bodies f es)
  unfolding start
  build_size = build_length f ok.form es ok.each

  pub build_count : count (build f es) ≡ length es
  unfolding build
  build_count =
      let long = le_bytes_length 4 (length es) in
      let e : word_at (build f es) 0 ≡ length es =
      ap le (bytes_at_whole [] (le_bytes 4 (length es)) (rows f (row_at f (length es)) es ++ bodies f es) 0 4 refl (sym long))
      ∙ four_bytes (length es) (omega (arith, ok.few)) in
      omega (arith, e)

  module _ (i : ℕ) (h : i < length es) where
    abbrev pub e : Entry
    e = get_or es i blank

    xs : List Entry
    xs = take i es

    ys : List Entry
    ys = drop (suc i) es

    split : es ≡ xs ++ (e ∷ ys)
    unfolding xs ys
    split = split_at es i blank h

    p : Proper e
    p = ok.each i h

    pub placed : ℕ
    placed = start + length (bodies f xs)

    front : List ℕ
    front = head ++ rows f start xs

    front_size : length front ≡ row_at f i
    unfolding front head xs row_at
    front_size =
        length-append head (rows f start xs)
        ∙ (let a = le_bytes_length 4 (length es) in
        let b = rows_size f ok.form start xs (each_take es i (omega arith) ok.each) in
        let c = ap (λ (n : ℕ). row_size f * n) (length-take-le i es (omega arith)) in omega arith)

    r : List ℕ
    r = row f placed e

    -- the file around row i, and around body i
    behind : List ℕ
    behind = rows f (placed + length (body f e)) ys ++ bodies f es

    by_row : build f es ≡ front ++ (r ++ behind)
    unfolding build rows front head r behind placed start
    by_row =
        let es_is : rows f start es ≡ rows f start xs ++ (row f placed e ++ rows f (placed + length (body f e)) ys) =
        ap (rows f start) split ∙ rows_append f start xs (e ∷ ys) in
        ap (λ (l : List ℕ). head ++ (l ++ bodies f es)) es_is ∙ simp append_assoc

    before : List ℕ
    before = head ++ (rows f start es ++ bodies f xs)

    by_body : build f es ≡ before ++ (body f e ++ bodies f ys)
    unfolding build bodies before head start
    by_body =
        let bs : bodies f es ≡ bodies f xs ++ (body f e ++ bodies f ys) = ap (bodies f) split ∙ bodies_append f xs (e ∷ ys) in
        ap (λ (l : List ℕ). head ++ (rows f start es ++ l)) bs ∙ simp append_assoc

    before_size : length before ≡ placed
    unfolding before head placed start row_at
    before_size =
        let a = le_bytes_length 4 (length es) in
        let b = rows_size f ok.form start es ok.each in
        simp length-append (omega arith)

    in_row : (k m : ℕ) → k + m ≤ row_size f → bytes_at (build f es) (row_at f i + k) m ≡ bytes_at r k m
    unfolding r
    in_row k m l =
        ap (λ (S : List ℕ). bytes_at S (row_at f i + k) m) by_row
        ∙ bytes_at_in front (row f placed e) behind (row_at f i + k) k m (ap (λ (x : ℕ). x + k) (sym front_size)) (omega (arith, row_size_lem f ok.form placed e p))

    -- the fields of the row
    nonce_is : bytes_at r 0 12 ≡ e.nonce
    unfolding r row
    nonce_is = bytes_at_whole [] e.nonce _ 0 12 refl (sym p.nonce_size)

    ad_is : bytes_at r 12 4 ≡ e.ad
    unfolding r row
    ad_is = bytes_at_whole e.nonce e.ad _ 12 4 (sym p.nonce_size) (sym p.ad_size)

    place_is : bytes_at r 16 4 ≡ le_bytes 4 placed
    unfolding r row
    place_is =
        ap (λ (S : List ℕ). bytes_at S 16 4) (sym (append_assoc e.nonce e.ad _))
        ∙ bytes_at_whole (e.nonce ++ e.ad) (le_bytes 4 placed) _ 16 4 (simp length-append (omega (arith, p.nonce_size, p.ad_size))) (sym (le_bytes_length 4 placed))

    size_is : bytes_at r 20 4 ≡ le_bytes 4 (length (body f e))
    unfolding r row
    size_is =
        let n : List ℕ = le_bytes 4 placed in
        let l = le_bytes_length 4 placed in
        let z : List ℕ = le_bytes 4 (length (body f e)) in
        let tag : List ℕ = take f.tag_in_row e.tag in
        let around : e.nonce ++ (e.ad ++ (n ++ (z ++ tag))) ≡ (e.nonce ++ (e.ad ++ n)) ++ (z ++ tag) = simp append_assoc in
        ap (λ (S : List ℕ). bytes_at S 20 4) around
        ∙ bytes_at_whole (e.nonce ++ (e.ad ++ n)) z tag 20 4 (simp length-append (omega (arith, p.nonce_size, p.ad_size, l))) (sym (le_bytes_length 4 (length (body f e))))

    tail-is : bytes_at r 24 f.tag_in_row ≡ take f.tag_in_row e.tag
    unfolding r row
    tail-is =
        let n : List ℕ = le_bytes 4 placed in
        let l = le_bytes_length 4 placed in
        let z : List ℕ = le_bytes 4 (length (body f e)) in
        let lz = le_bytes_length 4 (length (body f e)) in
        let tag : List ℕ = take f.tag_in_row e.tag in
        let around : e.nonce ++ (e.ad ++ (n ++ (z ++ tag))) ≡ (e.nonce ++ (e.ad ++ (n ++ z))) ++ (tag ++ []) = simp (append_assoc, append-nil) in
        ap (λ (S : List ℕ). bytes_at S 24 f.tag_in_row) around
        ∙ bytes_at_whole (e.nonce ++ (e.ad ++ (n ++ z))) tag [] 24 f.tag_in_row (simp length-append (omega (arith, p.nonce_size, p.ad_size, l, lz)))
        (sym (length-take-le f.tag_in_row e.tag (omega (arith, p.tag_size, ok.form))))

    -- the fields as they are read
    bodies_least : placed + length (body f e) ≤ length (build f es)
    unfolding placed bodies start
    bodies_least =
        let bs : bodies f es ≡ bodies f xs ++ (body f e ++ bodies f ys) = ap (bodies f) split ∙ bodies_append f xs (e ∷ ys) in
        let l : length (bodies f es) ≡ length (bodies f xs) + (length (body f e) + length (bodies f ys)) = ap length bs ∙ simp length-append in
        omega (arith, build_size)

    pub place_read : place_of f (build f es) i ≡ placed
    place_read = ap le (in_row 16 4 (omega arith) ∙ place_is) ∙ four_bytes placed (omega (arith, bodies_least, ok.most))

    pub size_read : length_of f (build f es) i ≡ length (body f e)
    size_read = ap le (in_row 20 4 (omega arith) ∙ size_is) ∙ four_bytes (length (body f e)) (omega (arith, bodies_least, ok.most))

    pub text_size : text_length f (build f es) i ≡ length e.text
    text_size = omega (arith, size_read, body_size f ok.form e p)

    pub ad_read : ad_of f (build f es) i ≡ e.ad
    ad_read = in_row 12 4 (omega arith) ∙ ad_is

    in_body : (k m : ℕ) → k + m ≤ length (body f e) → bytes_at (build f es) (placed + k) m ≡ bytes_at (body f e) k m
    in_body k m l =
        ap (λ (S : List ℕ). bytes_at S (placed + k) m) by_body
        ∙ bytes_at_in before (body f e) (bodies f ys) (placed + k) k m (ap (λ (x : ℕ). x + k) (sym before_size)) l

    nonce_read : nonce_of f (build f es) i ≡ e.nonce
    nonce_read = ap (λ (k : ℕ). bytes_at (build f es) k 12) (sym (add-zero (row_at f i))) ∙ in_row 0 12 (omega arith) ∙ nonce_is

    text_front : bytes_at (body f e) 0 (length e.text) ≡ e.text
    unfolding body
    text_front = bytes_at_whole [] e.text _ 0 (length e.text) refl refl

    text_read : bytes_at (build f es) (place_of f (build f es) i) (text_length f (build f es) i) ≡ e.text
    text_read =
        let l = body_size f ok.form e p in
        ap₂ (bytes_at (build f es)) (place_read ∙ sym (add-zero placed)) text_size
        ∙ in_body 0 (length e.text) (omega arith)
        ∙ text_front

    tag_back : bytes_at (body f e) (length e.text) (least_body f) ≡ drop f.tag_in_row e.tag
    unfolding body
    tag_back =
        let T : List ℕ = drop f.tag_in_row e.tag in
        ap (λ (S : List ℕ). bytes_at S (length e.text) (least_body f)) (ap (λ (l : List ℕ). e.text ++ l) (sym (append-nil T)))
        ∙ bytes_at_whole e.text T [] (length e.text) (least_body f) refl (simp length-drop (omega (arith, p.tag_size)))

    tag_read : tag_of f (build f es) i ≡ e.tag
    tag_read =
        let l = body_size f ok.form e p in
        ap₂ (λ (x y : List ℕ). x ++ y)
        (in_row 24 f.tag_in_row (omega arith) ∙ tail-is)
        (ap₂ (λ (x y : ℕ). bytes_at (build f es) (x + y) (least_body f)) place_read text_size ∙ in_body (length e.text) (least_body f) (omega arith) ∙ tag_back)
        ∙ take-append-drop f.tag_in_row e.tag

    pub entry_read : entry f (build f es) i ≡ e
    unfolding entry
    entry_read =
        let a = nonce_read in
        let b = ad_read in
        let c = text_read in
        let d = tag_read in
        same_fields a b c d

  -- ---- the file is accepted

  -- the running places are those of the bodies before
  running_is : (i : ℕ) → (h : i ≤ length es) → running f (build f es) i ≡ row_at f (length es) + length (bodies f (take i es))
  unfolding running bodies
  running_is zero h = ap (row_at f) build_count ∙ sym (add-zero (row_at f (length es)))
  running_is (suc i) h =
      let below : i < length es = omega arith in
      let more : bodies f (take (suc i) es) ≡ bodies f (take i es) ++ (body f (get_or es i blank) ++ []) =
      ap (bodies f) (take-suc es i blank below) ∙ bodies_append f (take i es) (get_or es i blank ∷ []) in
      let l : length (bodies f (take (suc i) es)) ≡ length (bodies f (take i es)) + length (body f (get_or es i blank)) =
      ap length more ∙ simp (length-append, append-nil) in
      omega (arith, running_is i (omega arith), size_read i below)

  sound_row : (i : ℕ) → i < length es → Sound f (build f es) i
  unfolding placed xs start
  sound_row i h =
      let p : Proper (get_or es i blank) = ok.each i h in
      record {
        tenant = λ z. p.tenant (ap le (sym (ad_read i h)) ∙ z);
        least = omega (arith, size_read i h, body_size f ok.form (get_or es i blank) p);
        place = place_read i h ∙ sym (running_is i (omega arith));
        end = omega (arith, place_read i h, size_read i h, bodies_least i h);
      }

  pub build_accepted : Accepted f (build f es)
  unfolding start row_at
  build_accepted =
      let n = build_count in
      let size = build_size in
      record {
        table = record {
          counted = omega arith;
          few = omega (arith, ok.few);
          room = omega (arith, ap (row_at f) n);
        };
        rows = λ i h. sound_row i (omega arith);
        ended =
            ap (running f (build f es)) n
            ∙ running_is (length es) (omega arith)
            ∙ ap (λ (l : List Entry). row_at f (length es) + length (bodies f l)) (take-length es)
            ∙ sym size;
      }
