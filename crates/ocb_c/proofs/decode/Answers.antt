-- `decode` meets its contract: the length is a state's, and each field is read where it lies. Assumes nothing.
use mathlib.Core.Path.{◌≡◌, sym}
use native.Mathlib.Omega.{arith}
use lib.ListN.{length}
use Rattle.ocb_c.specs.Buffer.{state_size}
use Rattle.ocb_c.proofs.BufferLaws.{decode_made}
use Rattle.ocb_c.proofs.LentLaws.{size_right}
use Rattle.ocb_c.proofs.decode.Goals as goal

pub returns : goal.returns
returns c =
    let B = c.args.buffer.now in
    let sized : length B ≡ state_size = omega (arith, c.if-buffer-ne-STATE_SIZE.false) in (
      sym (size_right B sized),
      decode_made B
          c.copy_from_slice.ensures.after
          c.load_be64-rounds.ensures
          c.load-star.ensures
          c.load-dollar.ensures
          c.load_be64-m.ensures
          c.copy_from_slice-2.ensures.after,
    )
