-- A spill file: the number of rows, the rows, and the bodies back to back in row order; and the numbers 10, 11 and 12, by which a file is not accepted.
-- A number in it has four bytes, the lowest first. All of it stands over the file's form.
use Rattle.std.specs.Prelude.{Bool, false, not, ◌||◌, List, [], ◌∷◌, ℕ, zero, suc, ◌+◌, ◌-◌, ◌*◌, eqb, ltb, length, take, drop}
use Rattle.block.specs.Words.{le}
use Rattle.ocb_numbers.specs.Numbers.{Rule, ◌if◌, first}
use Rattle.spill_form.specs.declared.Form.{Form}

-- the most rows and the most bytes of a file
abbrev pub most_rows : ℕ
most_rows = 256

abbrev pub most_bytes : ℕ
most_bytes = 65536

-- the n bytes of S from place i on
abbrev pub bytes_at : List ℕ → ℕ → ℕ → List ℕ
bytes_at S i n = take n (drop i S)

-- the number that the four bytes of S from place i on are
abbrev pub word_at : List ℕ → ℕ → ℕ
word_at S i = le (bytes_at S i 4)

-- ---- The form: how many of a tag's sixteen bytes stand in the row, behind its 24 others. The rest of them stand behind the ciphertext.

-- the form in which the whole tag stands behind the ciphertext
abbrev pub tags_in_bodies : Form
tags_in_bodies = record { tag_in_row = 0 }

-- a row's size, and the least length of a body
abbrev pub row_size : Form → ℕ
row_size f = 24 + f.tag_in_row

abbrev pub least_body : Form → ℕ
least_body f = 16 - f.tag_in_row

-- ---- The table of the file S: the number of rows, then the rows

abbrev pub count : List ℕ → ℕ
count S = word_at S 0

-- where row i starts; for i the number of rows, where the table ends
unfoldable pub row_at : Form → ℕ → ℕ
row_at f i = 4 + row_size f * i

-- of row i: the nonce; the tenant number's four bytes, which are the associated data too; that number; the body's place and its length
abbrev pub nonce_of : Form → List ℕ → ℕ → List ℕ
nonce_of f S i = bytes_at S (row_at f i) 12

abbrev pub ad_of : Form → List ℕ → ℕ → List ℕ
ad_of f S i = bytes_at S (row_at f i + 12) 4

abbrev pub tenant_of : Form → List ℕ → ℕ → ℕ
tenant_of f S i = le (ad_of f S i)

abbrev pub place_of : Form → List ℕ → ℕ → ℕ
place_of f S i = word_at S (row_at f i + 16)

abbrev pub length_of : Form → List ℕ → ℕ → ℕ
length_of f S i = word_at S (row_at f i + 20)

-- the running place: the table's end and the bodies before body i
unfoldable pub running : Form → List ℕ → ℕ → ℕ
running f S zero = row_at f (count S)
running f S (suc i) = running f S i + length_of f S i

-- ---- The numbers

-- there is no table: no count, more rows than may be, or too few bytes for them
unfoldable pub no_table : Form → List ℕ → Bool
no_table f S = ltb (length S) 4 || ltb most_rows (count S) || ltb (length S) (row_at f (count S))

-- row i has the tenant 0, a length under the least, a place other than the running one, or a body past the end
unfoldable pub flawed : Form → List ℕ → ℕ → Bool
flawed f S i =
    eqb (tenant_of f S i) 0 || ltb (length_of f S i) (least_body f) || not (eqb (place_of f S i) (running f S i))
    || ltb (length S) (place_of f S i + length_of f S i)

-- a test holds of a number below n
unfoldable pub any_below : (ℕ → Bool) → ℕ → Bool
any_below test zero = false
any_below test (suc n) = any_below test n || test n

-- of the file's bytes S
abbrev pub content_rules : Form → List ℕ → List Rule
content_rules f S = (10 if no_table f S) ∷ (11 if any_below (flawed f S) (count S)) ∷ (12 if ltb (running f S (count S)) (length S)) ∷ []

unfoldable pub content_number : Form → List ℕ → ℕ
content_number f S = first (content_rules f S)

-- of the file that is the first `file` bytes of a buffer B; where it is 0 the file is accepted
abbrev pub file_rules : Form → List ℕ → ℕ → List Rule
file_rules f B file = (10 if (ltb (length B) file || ltb most_bytes file)) ∷ content_rules f (take file B)

unfoldable pub file_number : Form → List ℕ → ℕ → ℕ
file_number f B file = first (file_rules f B file)

-- a number, or the next one where it is 0
infixr 40 ◌or_else◌
abbrev pub ◌or_else◌ : ℕ → ℕ → ℕ
zero or_else n = n
suc k or_else n = suc k
