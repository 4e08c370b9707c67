-- What owning an array of bytes tells of its list: `c.good` of a parameter by value, `.ok` of a call's result.
-- Assumes nothing.
use mathlib.Core.Path.{◌≡◌}
use mathlib.Core.List.{List}
use Prim.Native.Nat.{ℕ}
use lib.ListN.{length, get_or}
use mir.Syntax.{w8}
use mir.Val.{Val, Fits}
use denote.Laws.{Is}
use denote.Plain.{UInt}
use denote.Array.{Array}
use borrow.Author.Rules.{rules}
use Rattle.standards.specs.Strings.{Bytes, Block}

pub owned_length : (n : ℕ) (xs : List ℕ) (vs : List Val) → Is (Array (UInt w8) n) xs vs → length xs ≡ n
owned_length n xs vs p = p.1.0.1

pub owned_bytes : (n : ℕ) (xs : List ℕ) (vs : List Val) → Is (Array (UInt w8) n) xs vs → Bytes xs
owned_bytes n xs vs p i =
    let f : Fits w8 (get_or xs i 0) = search rules in
    f.fits

pub owned_block : (xs : List ℕ) (vs : List Val) → Is (Array (UInt w8) 16) xs vs → Block xs
owned_block xs vs p = record { size = owned_length 16 xs vs p; bytes = owned_bytes 16 xs vs p }
