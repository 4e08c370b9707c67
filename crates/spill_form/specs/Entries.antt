-- What a file holds, as a list of entries, and the file that holds given entries. The two undo each other (proofs/BuildLaws.antt, BuiltLaws.antt), so
-- what is done to a file is said of its list of entries.
use Rattle.std.specs.Prelude.{List, [], ◌∷◌, ◌++◌, ℕ, zero, suc, ◌+◌, ◌-◌, length, take, drop}
use Rattle.block.specs.Words.{le_bytes}
use Rattle.spill_form.specs.File.{bytes_at, least_body, count, row_at, nonce_of, ad_of, place_of, length_of}
use Rattle.spill_form.specs.declared.Form.{Form}

-- a nonce, a tenant number's four bytes, a ciphertext and its tag
pub record Entry : Type 0 where
  pub nonce : List ℕ
  pub ad : List ℕ
  pub text : List ℕ
  pub tag : List ℕ

-- ---- The entries of the file S

-- how long the ciphertext of row i is, and so its plaintext
abbrev pub text_length : Form → List ℕ → ℕ → ℕ
text_length f S i = length_of f S i - least_body f

-- the tag's bytes in row i, then those behind the ciphertext
abbrev pub tag_of : Form → List ℕ → ℕ → List ℕ
tag_of f S i = bytes_at S (row_at f i + 24) f.tag_in_row ++ bytes_at S (place_of f S i + text_length f S i) (least_body f)

unfoldable pub entry : Form → List ℕ → ℕ → Entry
entry f S i = record { nonce = nonce_of f S i; ad = ad_of f S i; text = bytes_at S (place_of f S i) (text_length f S i); tag = tag_of f S i }

-- of n rows from row i on
unfoldable pub entries_from : Form → List ℕ → ℕ → ℕ → List Entry
entries_from f S i zero = []
entries_from f S i (suc n) = entry f S i ∷ entries_from f S (suc i) n

abbrev pub entries : Form → List ℕ → List Entry
entries f S = entries_from f S 0 (count S)

-- ---- The file of entries

-- the ciphertext and what of the tag stands behind it
unfoldable pub body : Form → Entry → List ℕ
body f e = e.text ++ drop f.tag_in_row e.tag

-- the row of an entry whose body is at a place
unfoldable pub row : Form → ℕ → Entry → List ℕ
row f place e = e.nonce ++ (e.ad ++ (le_bytes 4 place ++ (le_bytes 4 (length (body f e)) ++ take f.tag_in_row e.tag)))

-- the rows of entries whose first body is at a place
unfoldable pub rows : Form → ℕ → List Entry → List ℕ
rows f place [] = []
rows f place (e ∷ es) = row f place e ++ rows f (place + length (body f e)) es

unfoldable pub bodies : Form → List Entry → List ℕ
bodies f [] = []
bodies f (e ∷ es) = body f e ++ bodies f es

unfoldable pub build : Form → List Entry → List ℕ
build f es = le_bytes 4 (length es) ++ (rows f (row_at f (length es)) es ++ bodies f es)
