-- `add_form` meets its contract: three refusals, one after the other, and then the row and the body are laid. Assumes nothing.
use Rattle.std.specs.Prelude.{Err}
use mathlib.Core.Path.{◌≡◌, sym, ap, ◌∙◌}
use Prim.Native.Nat.{ℕ, ◌+◌, ◌-◌}
use native.Mathlib.Omega.{arith}
use mir.Syntax.{w8}
use mir.Val.{Fits}
use borrow.Author.Rules.{rules}
use lib.ListN.{length, get_or, take}
use lib.Seq.{length-take-le}
use Rattle.spill_form.specs.File.{count}
use Rattle.spill_form.proofs.FileLaws.{within}
use Rattle.spill_add.proofs.AddLaws.{room_is, room_for, seal_number, refused_file, refused_add, refused_seal, answered, done, laying}
use Rattle.spill_add.proofs.add_form.Goals as goal

pub returns-in_err-held : goal.returns-in_err-held
returns-in_err-held c =
    let a = c.args in
    let e = c.in_err-held.field-0.0 in
    let is : c.from_residual.result ≡ Err e = search rules in
    answered a.file e is (refused_file a.f a.s a.buffer.now a.file a.nonce.now a.tenant a.text.now e c.in_err-held.ensures.number)

pub returns-in_err-refuse_add : goal.returns-in_err-refuse_add
returns-in_err-refuse_add c =
    let a = c.args in
    let e = c.in_err-refuse_add.field-0.0 in
    let is : c.from_residual-in_err-refuse_add.result ≡ Err e = search rules in
    answered a.file e is
    (refused_add a.f a.s a.buffer.now a.file a.nonce.now a.tenant a.text.now (sym c.in_ok-held.ensures.number) e
    (room_is a.f a.s a.buffer.now a.file a.nonce.now a.tenant a.text.now c.in_ok-held.ensures.accepted c.in_err-refuse_add.ensures))

pub returns-in_err-refuse_seal : goal.returns-in_err-refuse_seal
returns-in_err-refuse_seal c =
    let a = c.args in
    let e = c.in_err-refuse_seal.field-0.0 in
    let is : c.from_residual-in_err-refuse_seal.result ≡ Err e = search rules in
    let has_room = room_is a.f a.s a.buffer.now a.file a.nonce.now a.tenant a.text.now c.in_ok-held.ensures.accepted c.in_ok-refuse_add.ensures in
    answered a.file e is
    (refused_seal a.f a.s a.buffer.now a.file a.nonce.now a.tenant a.text.now (sym c.in_ok-held.ensures.number) (sym has_room) e
    (seal_number a.s a.nonce.now a.tenant a.text.now c.in_err-refuse_seal.ensures))

pub overflow_add-size-2 : goal.overflow_add-size-2
overflow_add-size-2 c =
    let a = c.args in
    let w = within a.f a.buffer.now a.file (sym c.in_ok-held.ensures.number) in
    omega (arith, w.most, c.requires)

pub overflow_add-size-4 : goal.overflow_add-size-4
overflow_add-size-4 c =
    let a = c.args in
    let w = within a.f a.buffer.now a.file (sym c.in_ok-held.ensures.number) in
    let has_room = room_is a.f a.s a.buffer.now a.file a.nonce.now a.tenant a.text.now c.in_ok-held.ensures.accepted c.in_ok-refuse_add.ensures in
    let r = room_for a.f (take a.file a.buffer.now) a.nonce.now a.tenant (length a.text.now) (length a.buffer.now) (sym has_room) in
    omega (arith, length-take-le a.file a.buffer.now w.lent, r.most)

pub lay-calls-requires : goal.lay-calls-requires
lay-calls-requires c =
    let a = c.args in
    let has_room = room_is a.f a.s a.buffer.now a.file a.nonce.now a.tenant a.text.now c.in_ok-held.ensures.accepted c.in_ok-refuse_add.ensures in
    laying a.f a.s a.buffer.now a.file a.nonce.now a.tenant a.text.now (sym c.in_ok-held.ensures.number) (sym has_room)
    (sym (seal_number a.s a.nonce.now a.tenant a.text.now c.in_ok-refuse_seal.ensures)) c.requires
    (λ i. (let f : Fits w8 (get_or a.buffer.now i 0) = search rules in f.fits)) (omega arith) (c.count-n.ensures ∙ ap count c.in_ok-held.ensures.accepted.1)

pub returns : goal.returns
returns c =
    let a = c.args in
    let w = within a.f a.buffer.now a.file (sym c.in_ok-held.ensures.number) in
    let has_room = room_is a.f a.s a.buffer.now a.file a.nonce.now a.tenant a.text.now c.in_ok-held.ensures.accepted c.in_ok-refuse_add.ensures in
    done a.f a.s a.buffer.now a.file a.nonce.now a.tenant a.text.now (sym c.in_ok-held.ensures.number) (sym has_room)
    (sym (seal_number a.s a.nonce.now a.tenant a.text.now c.in_ok-refuse_seal.ensures))
    (ap (λ (x : ℕ). x + (24 + a.f.tag_in_row) + (length a.text.now + (16 - a.f.tag_in_row))) (sym (length-take-le a.file a.buffer.now w.lent)))
    c.lay-calls.ensures
