-- `seal` meets its contract: the sizes are refused as the list says, or the inner function does the work. Assumes nothing.
use mathlib.Core.Path.{subst, subst⁻¹}
use Prim.Native.Nat.{ℕ}
use lib.ListN.{length, get_or}
use mir.Syntax.{w8}
use mir.Val.{Fits}
use Rattle.standards.specs.Strings.{Bytes}
use Rattle.standards.specs.Rfc7253.{Key}
use Rattle.ocb_numbers.specs.Numbers.{InRange}
use Rattle.ocb.specs.Inner.{Encrypted}
use borrow.Author.Rules.{rules}
use Rattle.ocb.proofs.Outcomes.{seal_refused_lem, sizes, seal_done}
use Rattle.ocb.proofs.seal.Goals as goal

pub returns-in-Err : goal.returns-in-Err
returns-in-Err c =
    let a = c.args in
    seal_refused_lem a.s a.nonce.now a.ad.now a.text.now a.tag.now c.in-Err.refused c.in-Err.ensures c.into.ensures

pub lend-requires : goal.lend-requires
lend-requires c =
    let a = c.args in
    (sizes a.s a.nonce.now a.ad.now a.text.now a.tag.now c.in_default.ensures).0

pub encrypt-requires : goal.encrypt-requires
encrypt-requires c =
    let a = c.args in
    let admitted = sizes a.s a.nonce.now a.ad.now a.text.now a.tag.now c.in_default.ensures in
    subst⁻¹ (λ (m : ℕ). InRange m (length a.nonce.now) (length a.ad.now) (length a.text.now) (length a.tag.now)) c.lend.ensures.m admitted.1

pub returns : goal.returns
returns c =
    let a = c.args in
    -- a state's round keys are bytes, by their type
    let keys : Bytes a.s.round_keys = λ i. (let f : Fits w8 (get_or a.s.round_keys i 0) = search rules in f.fits) in
    let done = subst (λ (K : Key). Encrypted K a.nonce.now a.ad.now a.text.now a.tag.now c.encrypt.new.text c.encrypt.new.tag) c.lend.ensures.key c.encrypt.ensures in
    seal_done a.s a.nonce.now a.ad.now a.text.now a.tag.now c.in_default.ensures keys
    (λ i. (c.type_inv.nonce i).fits) c.calls-calls.ensures done c.encrypt.auto.text
