-- A spill file of two rows, written out by hand from the words of request E4 (compare/spill.py lays out the same bytes), and what the definitions of
-- spill_form/specs make of it, computed: its entries, and each number from both sides. Bytes stand as in the file, a number's lowest byte first; no
-- definition that is tested here makes them.
use mathlib.Core.Path.{◌≡◌, refl}
use mathlib.Core.List.{List, [], ◌∷◌, ◌++◌}
use Prim.Native.Nat.{ℕ}
use lib.ListN.{length, replicate}
use Rattle.standards.specs.Rfc7253.{same}
use Rattle.block.specs.Words.{le, le_bytes}
use Rattle.ocb_numbers.specs.Numbers.{refusal}
use Rattle.ocb_variables.specs.declared.State.{State}
use Rattle.ocb.specs.Answers.{Outcome, zero_state, sealed, opened}
use Rattle.spill_form.specs.File.{tags_in_bodies, row_at, running, no_table, flawed, any_below, content_number, file_number, ◌or_else◌}
use Rattle.spill_form.specs.Entries.{Entry, entry, entries_from, entries, body, row, rows, bodies, build}
use Rattle.spill_form.specs.Reading.{Reading, row_number, unless_read, by_open, opened_row, reading}
use Rattle.spill_form.specs.Adding.{Adding, new_length, add_number, of_twelve, new_entry, unless_add, added, adding}
use Rattle.spill_form.specs.declared.Form.{Form}
use Rattle.examples_shared.proofs.Hex.{hex}

-- on an `unfolding` line it opens the definitions; what seal and open do by the cipher stays shut
file_opened : Unit {0}
unfolding file_number content_number any_below flawed no_table running row_at entry entries_from body row rows bodies build row_number opened_row reading add_number
    added adding sealed opened refusal zero_state same le le_bytes hex
file_opened = tt

-- ---- The file: four bytes that count the rows; each row a nonce of twelve bytes, then four bytes each of tenant, place and length; behind the rows the
-- bodies without a gap, each a ciphertext and its tag of sixteen bytes

abbrev nonce_a : List ℕ
nonce_a = hex 12 0xa0a1a2a3a4a5a6a7a8a9aaab

abbrev nonce_b : List ℕ
nonce_b = hex 12 0xb0b1b2b3b4b5b6b7b8b9babb

abbrev row_of : List ℕ → ℕ → ℕ → ℕ → List ℕ
row_of nonce tenant place size = nonce ++ hex 4 tenant ++ hex 4 place ++ hex 4 size

-- tenant 16,909,060 at place 4 + 24 * 2 = 52, with 17 bytes; tenant 7 at place 52 + 17 = 69, with 16
abbrev row_a : List ℕ
row_a = row_of nonce_a 0x04030201 0x34000000 0x11000000

abbrev row_b : List ℕ
row_b = row_of nonce_b 0x07000000 0x45000000 0x10000000

abbrev tag_a : List ℕ
tag_a = hex 16 0xd0d1d2d3d4d5d6d7d8d9dadbdcdddedf

abbrev tag_b : List ℕ
tag_b = hex 16 0xe0e1e2e3e4e5e6e7e8e9eaebecedeeef

-- a ciphertext of one byte and its tag; one of none and its tag
abbrev both_bodies : List ℕ
both_bodies = hex 1 0xc0 ++ tag_a ++ tag_b

abbrev of_two : List ℕ → List ℕ → List ℕ → List ℕ
of_two first second rest = hex 4 0x02000000 ++ first ++ second ++ rest

-- 85 bytes
abbrev two : List ℕ
two = of_two row_a row_b both_bodies

abbrev entry_a : Entry
entry_a = record { nonce = nonce_a; ad = hex 4 0x04030201; text = hex 1 0xc0; tag = tag_a }

abbrev entry_b : Entry
entry_b = record { nonce = nonce_b; ad = hex 4 0x07000000; text = []; tag = tag_b }

entries_two : entries tags_in_bodies two ≡ entry_a ∷ entry_b ∷ []
unfolding file_opened
entries_two = refl

build_two : build tags_in_bodies (entry_a ∷ entry_b ∷ []) ≡ two
unfolding file_opened
build_two = refl

-- ---- The numbers of a file: 10 its size and its table, 11 its rows, 12 what stands behind its bodies

-- of the file S at the front of a longer buffer
abbrev number : List ℕ → ℕ
number S = file_number tags_in_bodies (S ++ hex 3 0xfefefe) (length S)

-- of the file where a row has these tenant, place and size
abbrev with_a : ℕ → ℕ → ℕ → ℕ
with_a tenant place size = number (of_two (row_of nonce_a tenant place size) row_b both_bodies)

abbrev with_b : ℕ → ℕ → ℕ → ℕ
with_b tenant place size = number (of_two row_a (row_of nonce_b tenant place size) both_bodies)

accepted : (number two ≡ 0) × (number (hex 4 0) ≡ 0)
unfolding file_opened
accepted = (refl, refl)

-- 10: the file is longer than the buffer by a byte
past_buffer : (file_number tags_in_bodies two 85 ≡ 0) × (file_number tags_in_bodies two 86 ≡ 10)
unfolding file_opened
past_buffer = (refl, refl)

-- the table does not fit: no four bytes of a count; a row that wants a byte, and, with tenant 0, one that does not
no_table_lem : (number [] ≡ 10) × (number (hex 1 0) ≡ 10) × (number (hex 2 0) ≡ 10) × (number (hex 3 0) ≡ 10)
    × (number (hex 4 0x01000000 ++ hex 23 0) ≡ 10) × (number (hex 4 0x01000000 ++ hex 24 0) ≡ 11)
unfolding file_opened
no_table_lem = (refl, refl, refl, refl, refl, refl)

-- 256 rows of tenant 0, and 257; 2^29 rows, whose table would fit if sums wrapped at 2^32
many_rows : (number (hex 4 0x00010000 ++ replicate 6144 0) ≡ 11) × (number (hex 4 0x01010000 ++ replicate 6168 0) ≡ 10) × (number (hex 4 0x00000020) ≡ 10)
unfolding file_opened
many_rows = (refl, refl, refl)

-- a file of 65,536 bytes, whose one body has 65,508, and one of 65,537
largest : (number (hex 4 0x01000000 ++ row_of nonce_a 0x07000000 0x1c000000 0xe4ff0000 ++ replicate 65508 0) ≡ 0)
    × (number (hex 4 0x01000000 ++ row_of nonce_a 0x07000000 0x1c000000 0xe5ff0000 ++ replicate 65509 0) ≡ 10)
unfolding file_opened
largest = (refl, refl)

-- 11: tenant 0
no_tenant : (with_a 0x00000000 0x34000000 0x11000000 ≡ 11) × (with_b 0x00000000 0x45000000 0x10000000 ≡ 11)
unfolding file_opened
no_tenant = (refl, refl)

-- a length of 15, where the bodies run on behind it, and one of 16
least_length :
    (number (of_two (row_of nonce_a 0x07000000 0x34000000 0x0f000000) (row_of nonce_b 0x07000000 0x43000000 0x10000000) (hex 15 0 ++ tag_b)) ≡ 11)
    × (number (of_two (row_of nonce_a 0x07000000 0x34000000 0x10000000) (row_of nonce_b 0x07000000 0x44000000 0x10000000) (hex 16 0 ++ tag_b)) ≡ 0)
unfolding file_opened
least_length = (refl, refl)

-- a place other than the running one, by a byte and by 2^24
other_place : (with_a 0x04030201 0x33000000 0x11000000 ≡ 11) × (with_a 0x04030201 0x35000000 0x11000000 ≡ 11)
    × (with_b 0x07000000 0x44000000 0x10000000 ≡ 11) × (with_b 0x07000000 0x45000001 0x10000000 ≡ 11)
unfolding file_opened
other_place = (refl, refl, refl, refl)

-- a body past the end: the last by a byte, which the file wants; the first by 2^24, and by a length that a sum of 32 bits would lose
past_end : (number (of_two row_a row_b (hex 1 0xc0 ++ tag_a ++ hex 15 0)) ≡ 11)
    × (with_a 0x04030201 0x34000000 0x11000001 ≡ 11) × (with_a 0x04030201 0x34000000 0xffffffff ≡ 11)
unfolding file_opened
past_end = (refl, refl, refl)

-- 12: a byte behind the last body, or behind a table of no rows
behind_last : (number (two ++ hex 1 0) ≡ 12) × (number (hex 5 0) ≡ 12)
unfolding file_opened
behind_last = (refl, refl)

-- 10 before 11: tenant 0, and longer than the buffer; 11 before 12: tenant 0, and a byte behind the last body
file_order : (file_number tags_in_bodies (hex 4 0x01000000 ++ hex 24 0) 28 ≡ 11) × (file_number tags_in_bodies (hex 4 0x01000000 ++ hex 24 0) 29 ≡ 10)
    × (number (of_two (row_of nonce_a 0x00000000 0x34000000 0x11000000) row_b (both_bodies ++ hex 1 0)) ≡ 11)
unfolding file_opened
file_order = (refl, refl, refl)

-- the same of a string of bytes that is no buffer's front
content_numbers : (content_number tags_in_bodies two ≡ 0) × (content_number tags_in_bodies (hex 3 0) ≡ 10)
    × (content_number tags_in_bodies (hex 4 0x01000000 ++ hex 24 0) ≡ 11) × (content_number tags_in_bodies (hex 5 0) ≡ 12)
unfolding file_opened
content_numbers = (refl, refl, refl, refl)

-- ---- Another form: four bytes of the tag in the row, and a body of twelve at least. No file has it; it shows what goes by the form

abbrev four_in_row : Form
four_in_row = record { tag_in_row = 4 }

-- rows of 28 bytes: the bodies start at 4 + 28 * 2 = 60
abbrev split : List ℕ
split = of_two (row_of nonce_a 0x04030201 0x3c000000 0x0d000000 ++ hex 4 0xd0d1d2d3) (row_of nonce_b 0x07000000 0x49000000 0x0c000000 ++ hex 4 0xe0e1e2e3)
    (hex 1 0xc0 ++ hex 12 0xd4d5d6d7d8d9dadbdcdddedf ++ hex 12 0xe4e5e6e7e8e9eaebecedeeef)

entries_split : entries four_in_row split ≡ entry_a ∷ entry_b ∷ []
unfolding file_opened
entries_split = refl

build_split : build four_in_row (entry_a ∷ entry_b ∷ []) ≡ split
unfolding file_opened
build_split = refl

-- each file in its form, and in the other's
forms : (content_number four_in_row split ≡ 0) × (content_number tags_in_bodies split ≡ 11) × (content_number four_in_row two ≡ 11)
    × (file_number four_in_row split 85 ≡ 0) × (file_number four_in_row two 85 ≡ 11)
unfolding file_opened
forms = (refl, refl, refl, refl, refl)

-- ---- Reading: 14 there is no such row, 13 it is another tenant's, 9 the output is too short, and open's numbers behind them

-- of row i, by the tenant who asks and the bytes of the output
abbrev number_of_row : ℕ → ℕ → ℕ → ℕ
number_of_row = row_number tags_in_bodies two

readable : (number_of_row 0 16909060 1 ≡ 0) × (number_of_row 1 7 0 ≡ 0) × (number_of_row 1 7 100 ≡ 0)
unfolding file_opened
readable = (refl, refl, refl)

no_row : (number_of_row 2 7 100 ≡ 14) × (number_of_row 4294967296 7 100 ≡ 14)
unfolding file_opened
no_row = (refl, refl)

-- the other row's tenant; other highest, other lowest bytes; the bytes the other way round
other_tenant : (number_of_row 0 7 100 ≡ 13) × (number_of_row 1 16909060 100 ≡ 13) × (number_of_row 0 131844 100 ≡ 13) × (number_of_row 0 16909061 100 ≡ 13)
    × (number_of_row 0 67305985 100 ≡ 13)
unfolding file_opened
other_tenant = (refl, refl, refl, refl, refl)

short_output : number_of_row 0 16909060 0 ≡ 9
unfolding file_opened
short_output = refl

-- 14 before 13 before 9
row_order : (number_of_row 2 1 0 ≡ 14) × (number_of_row 0 7 0 ≡ 13)
unfolding file_opened
row_order = (refl, refl)

-- what a number leaves, and what no number leaves as it is
abbrev out : List ℕ
out = hex 5 0x0102030405

abbrev refused_reading : ℕ → Reading
refused_reading n = record { number = n; calls = 0; written = 0; out = out }

abbrev some_reading : Reading
some_reading = record { number = 7; calls = 4; written = 2; out = hex 5 0x0000030405 }

unless_read_lem : (unless_read 0 out some_reading ≡ some_reading) × (unless_read 14 out some_reading ≡ refused_reading 14)
unless_read_lem = (refl, refl)

-- what open left of a text of two bytes: with 0 and 7 at the front of the output; with any other number, here 5, nowhere
abbrev after_open : ℕ → Reading
after_open n = by_open 2 (record { number = n; calls = 4; text = hex 2 0xf1f2; tag = tag_a }) out

by_open_lem : (after_open 0 ≡ record { number = 0; calls = 4; written = 2; out = hex 5 0xf1f2030405 })
    × (after_open 7 ≡ record { number = 7; calls = 4; written = 2; out = hex 5 0xf1f2030405 })
    × (after_open 5 ≡ refused_reading 5)
unfolding hex
by_open_lem = (refl, refl, refl)

-- from the front of a buffer, under every state: the row's nonce, the tenant number's four bytes as associated data, the ciphertext and the tag are opened
abbrev read : State → ℕ → ℕ → ℕ → List ℕ → Reading
read s = reading tags_in_bodies s (two ++ hex 3 0xfefefe)

read_two : (s : State)
    → (read s 85 0 16909060 out ≡ by_open 1 (opened s nonce_a (hex 4 0x04030201) (hex 1 0xc0) tag_a) out)
    × (read s 85 1 7 out ≡ by_open 0 (opened s nonce_b (hex 4 0x07000000) [] tag_b) out)
unfolding file_opened
read_two s = (refl, refl)

-- all numbers in their order, with the state of a refused set-up, which open answers with 2
abbrev refuse : ℕ → ℕ → ℕ → List ℕ → Reading
refuse = read zero_state

readings : (refuse 89 2 1 out ≡ refused_reading 10) × (refuse 28 2 1 out ≡ refused_reading 10) × (refuse 84 2 1 out ≡ refused_reading 11)
    × (refuse 86 2 1 out ≡ refused_reading 12) × (refuse 85 2 1 out ≡ refused_reading 14) × (refuse 85 0 7 out ≡ refused_reading 13)
    × ((refuse 85 0 7 []).number ≡ 13) × ((refuse 85 0 16909060 []).number ≡ 9) × (refuse 85 0 16909060 out ≡ refused_reading 2)
unfolding file_opened
readings = (refl, refl, refl, refl, refl, refl, refl, refl, refl)

-- ---- Adding: 17 there is no tenant 0, 15 a row has the nonce, 16 there is no room for a row or for its bytes, and seal's numbers behind them

abbrev nonce_c : List ℕ
nonce_c = hex 12 0xb0b1b2b3b4b5b6b7b8b9babc

-- 85 bytes, a row of 24, a text of 5 and its tag; the split file of as many, a row of 28, the text and the tag's other twelve
new_length_lem : (new_length tags_in_bodies two 5 ≡ 130) × (new_length four_in_row split 5 ≡ 130)
unfolding hex
new_length_lem = (refl, refl)

-- by nonce and tenant, the text's length and the buffer's
abbrev number_of_new : List ℕ → ℕ → ℕ → ℕ → ℕ
number_of_new = add_number tags_in_bodies two

-- the nonce differs from the last row's in its last byte; one of eleven bytes of a row's is in no row
room : (number_of_new nonce_c 7 5 130 ≡ 0) × (number_of_new (hex 11 0xa0a1a2a3a4a5a6a7a8a9aa) 7 5 130 ≡ 0)
unfolding file_opened
room = (refl, refl)

new_tenant_0 : number_of_new nonce_c 0 5 130 ≡ 17
unfolding file_opened
new_tenant_0 = refl

-- of the first and of the last row
nonce_used : (number_of_new nonce_a 7 5 130 ≡ 15) × (number_of_new nonce_b 7 5 130 ≡ 15)
unfolding file_opened
nonce_used = (refl, refl)

-- by the lent buffer; by 65,536 bytes, of which 65,411 are text; by 256 rows, of which there is only the count
no_room : (number_of_new nonce_c 7 5 129 ≡ 16) × (number_of_new nonce_c 7 65411 100000 ≡ 0) × (number_of_new nonce_c 7 65412 100000 ≡ 16)
    × (add_number tags_in_bodies (hex 4 0xff000000) nonce_c 7 5 130 ≡ 0) × (add_number tags_in_bodies (hex 4 0x00010000) nonce_c 7 5 130 ≡ 16)
unfolding file_opened
no_room = (refl, refl, refl, refl, refl)

-- 17 before 15 before 16
add_order : (number_of_new nonce_a 0 5 129 ≡ 17) × (number_of_new nonce_a 7 5 129 ≡ 15)
unfolding file_opened
add_order = (refl, refl)

-- nonces of 11, 12 and 13 bytes
of_twelve_lem : (of_twelve (hex 11 0xa0a1a2a3a4a5a6a7a8a9aa) ≡ []) × (of_twelve nonce_a ≡ nonce_a) × (of_twelve (hex 13 0xa0a1a2a3a4a5a6a7a8a9aaabac) ≡ [])
unfolding hex
of_twelve_lem = (refl, refl, refl)

-- what a number leaves, and what no number leaves as it is
abbrev some_adding : Adding
some_adding = record { number = 0; calls = 4; file = 130; buffer = two }

unless_add_lem : (unless_add 0 out 5 some_adding ≡ some_adding) × (unless_add 17 out 5 some_adding ≡ record { number = 17; calls = 0; file = 5; buffer = out })
unless_add_lem = (refl, refl)

-- what is sealed, under every state: the text, with the nonce, the tenant number's four bytes as associated data and a tag of sixteen bytes
abbrev text_c : List ℕ
text_c = hex 3 0xf1f2f3

abbrev sealed_c : State → Outcome
sealed_c s = sealed s nonce_c (hex 4 0x05060708) text_c (hex 16 0)

new_entry_lem : (s : State) → new_entry s nonce_c 134678021 text_c ≡ record { nonce = nonce_c; ad = hex 4 0x05060708; text = (sealed_c s).text; tag = (sealed_c s).tag }
unfolding file_opened
new_entry_lem s = refl

-- a buffer of 130 bytes with the file at its front, and the file with a third row. The text is as the state of a refused set-up leaves it, behind it a tag of
-- zeros; the bodies start at 4 + 24 * 3 = 76, and the new one at 76 + 17 + 16 = 109
abbrev lent : List ℕ
lent = two ++ replicate 43 0xee ++ hex 2 0xf8f9

abbrev three : List ℕ
three =
    hex 4 0x03000000 ++ row_of nonce_a 0x04030201 0x4c000000 0x11000000 ++ row_of nonce_b 0x07000000 0x5d000000 0x10000000
    ++ row_of nonce_c 0x05060708 0x6d000000 0x13000000 ++ both_bodies ++ text_c ++ hex 16 0

added_row : added tags_in_bodies zero_state lent 85 nonce_c 134678021 text_c ≡ record { number = 0; calls = 0; file = 128; buffer = three ++ hex 2 0xf8f9 }
unfolding file_opened
added_row = refl

added_calls : (s : State) → (added tags_in_bodies s lent 85 nonce_c 134678021 text_c).calls ≡ (sealed_c s).calls
unfolding file_opened
added_calls s = refl

-- all numbers in their order: with that state, which seal answers with 2, and with one that no set-up makes, which it takes: then 3, for nonces that it would
-- take elsewhere too, 5 for a text of 33 bytes, and none
abbrev add : State → List ℕ → ℕ → List ℕ → ℕ → List ℕ → Adding
add = adding tags_in_bodies

abbrev refused_adding : ℕ → ℕ → List ℕ → Adding
refused_adding n file buffer = record { number = n; calls = 0; file = file; buffer = buffer }

abbrev small : State
small = record { round_keys = []; table = []; values = record { rounds = 10; m = 1; star = []; dollar = [] } }

abbrev longer : List ℕ
longer = lent ++ replicate 28 0xee

addings : (add zero_state lent 131 nonce_a 0 [] ≡ refused_adding 10 131 lent) × (add zero_state lent 84 nonce_a 0 [] ≡ refused_adding 11 84 lent)
    × (add zero_state lent 86 nonce_a 0 [] ≡ refused_adding 12 86 lent) × (add zero_state lent 85 nonce_a 0 (hex 33 0) ≡ refused_adding 17 85 lent)
    × (add zero_state lent 85 nonce_a 7 (hex 33 0) ≡ refused_adding 15 85 lent) × (add zero_state lent 85 nonce_c 7 (hex 6 0) ≡ refused_adding 16 85 lent)
    × (add zero_state lent 85 (hex 11 0) 7 (hex 5 0) ≡ refused_adding 2 85 lent) × (add small lent 85 (hex 11 0) 7 (hex 5 0) ≡ refused_adding 3 85 lent)
    × (add small lent 85 (hex 13 0) 7 (hex 5 0) ≡ refused_adding 3 85 lent) × (add small longer 85 nonce_c 7 (hex 33 0) ≡ refused_adding 5 85 longer)
    × ((add small lent 85 nonce_c 134678021 text_c).number ≡ 0) × ((add small lent 85 nonce_c 134678021 text_c).file ≡ 128)
unfolding file_opened
addings = (refl, refl, refl, refl, refl, refl, refl, refl, refl, refl, refl, refl)

-- ---- One number after another

else : (0 or_else 5 ≡ 5) × (3 or_else 5 ≡ 3) × (3 or_else 0 ≡ 3)
else = (refl, refl, refl)
