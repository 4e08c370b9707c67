-- `aes::key::next_word` meets its contract: the branches are the cases of `temp`.
-- Assumes nothing.
use mathlib.Core.Path.{◌≡◌, sym, ◌∙◌}
use native.Mathlib.Omega.{arith}
use Rattle.standards.specs.Fips197.{temp}
use Rattle.aes.proofs.KeyLaws.{temp_turned, temp_substituted, temp_short, temp_long, next_by}
use Rattle.aes.proofs.key.next_word.Goals as goal
use Rattle.aes.proofs.key.next_word.Goals.{then-i-nk-eq0, else-i-nk-eq0+then-nk-gt6+then-i-nk-eq4, else-i-nk-eq0+else-nk-gt6, else-nk-gt6-via-then-nk-gt6+else-i-nk-eq4, else-nk-gt6-via-else-nk-gt6}

pub returns : goal.returns
returns c =
    let nk = c.args.nk in
    let i = c.args.i in
    let t = c.key_word-t.result in
    let e : c.if-i-nk-eq0.temp ≡ temp nk i t =
    elim c.if-i-nk-eq0.branch [
      | then-i-nk-eq0 w ↦ w.temp-is ∙ w.turned-temp.ensures ∙ sym (temp_turned nk i t w.if-i-nk-eq0.true)
      | else-i-nk-eq0+then-nk-gt6+then-i-nk-eq4 w ↦
          w.temp-is ∙ w.sub_word.ensures ∙ sym (temp_substituted nk i t w.if-i-nk-eq0.false (omega (arith, w.if-nk-gt6.true)) (omega (arith, w.if-i-nk-eq4.true)))
      | else-i-nk-eq0+else-nk-gt6 w ↦
          w.temp-is ∙ sym (elim w.else-nk-gt6.branch [
            | else-nk-gt6-via-then-nk-gt6+else-i-nk-eq4 v ↦
                temp_long nk i t w.if-i-nk-eq0.false (omega (arith, v.if-nk-gt6.true)) (λ e. v.if-i-nk-eq4.false (omega (arith, e)))
            | else-nk-gt6-via-else-nk-gt6 v ↦ temp_short nk i t w.if-i-nk-eq0.false (omega (arith, v.if-nk-gt6.false))
          ])
    ] in
    next_by _ _ _ _ _ _ _ c.key_word.ensures c.key_word-t.ensures e c.add_column.ensures
