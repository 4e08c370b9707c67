-- From what the port answered to what is owed: nothing of a bad case, the outcome of a good one. Assumes nothing.
use mathlib.Core.Path.{◌≡◌, sym, subst}
use mathlib.Core.Bool.{Bool}
use mathlib.Core.List.{List}
use Prim.Native.Nat.{ℕ, ◌-◌}
use native.Mathlib.Omega.{arith}
use borrow.Author.Tests.{eqb-true, eq-eqb}
use lib.Dec.{eqb}
use lib.ListN.{length, take, drop, length-drop}
use lib.Seq.{take_all}
use Rattle.ocb.specs.Answers.{Outcome}
use Rattle.cases.specs.Case.{Decoded, bad, outcome}
use Rattle.cases.proofs.Responded.{Told}
use Rattle.std.specs.Bool.{Decides}
use Rattle.stored.specs.Stored.{Tells, Owed}

-- an outcome by its parts
whole : (o : Outcome) {n k : ℕ} {text tag : List ℕ} → n ≡ o.number → k ≡ o.calls → text ≡ o.text → tag ≡ o.tag
    → ◌≡◌ {A = Outcome} (record { number = n; calls = k; text = text; tag = tag }) (record { number = o.number; calls = o.calls; text = o.text; tag = o.tag })
whole o en ek et eg = cc

pub owed_bad : (S : List ℕ) {d : Decoded} → d ≡ bad → Decides (eqb (length S) 0) (Owed d S)
owed_bad S e = subst (λ (x : Decoded). Decides (eqb (length S) 0) (Owed x S)) (sym e) (eqb-true (length S) 0, eq-eqb (length S) 0)

pub owed_good : (S : List ℕ) {r : Bool} {d : Decoded} {n k : ℕ} {text tag : List ℕ} → Told d n k text tag
    → Decides r (Tells S (record { number = n; calls = k; text = text; tag = tag })) → Decides r (Owed d S)
owed_good S {r} w tells =
    subst (λ (x : Decoded). Decides r (Owed x S)) (sym w.is)
    (subst (λ (o : Outcome). Decides r (Tells S o)) (whole (outcome w.case) w.number w.calls w.text_is w.tag_is) tells)

-- what is left from place k on, by its length
pub rest : (k : ℕ) (S : List ℕ) → take (length S - k) (drop k S) ≡ drop k S
rest k S = take_all (length S - k) (drop k S) (simp length-drop (omega arith))
