-- Memory ran out with a piece in hand: it was taken, but is not in the script.
use Rattle.std.proofs.Common.{◌++◌, take, arith, length-append, length-take}
use Rattle.std.proofs.KnownBytes.{Consumes-trans}
use Rattle.qu_io.proofs.reading.take_script.Goals as goal

pub returns-in_err-extend_from_slice-clause-few : goal.returns-in_err-extend_from_slice-clause-few
returns-in_err-extend_from_slice-clause-few g c =
    let known = g.S.Source.known in
    let piece = take c.in_ok-count.count c.read.new.into in
    record {
      bytes = c.pieces.script.items ++ piece;
      taken = Consumes-trans (known c.args.input.now).bytes (known c.pieces.input).bytes
          (known c.read.new.self).bytes c.pieces.script.items piece c.pieces.invariant.taken
          c.in_ok-count.ensures.reads.takes;
      few =
          let fits = c.in_ok-count.ensures.reads.fits in
          let kept = simp length-take at c.read.auto.into in
          simp (length-append, length-take) (omega (arith, c.pieces.script.ok.0));
    }
