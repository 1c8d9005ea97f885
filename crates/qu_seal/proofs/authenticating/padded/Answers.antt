use Rattle.std.specs.Prelude.{bit_xor}
use Rattle.qu_seal.proofs.Padding.{padded_next}
use Rattle.qu_seal.proofs.authenticating.padded.Goals as goal

pub loop-byte-preserved : goal.loop-byte-preserved
loop-byte-preserved c =
    padded_next (λ byte. bit_xor byte c.args.pad) c.args.block c.loop-byte.byte-items c.loop-byte.byte-index
    c.loop-byte.invariant
