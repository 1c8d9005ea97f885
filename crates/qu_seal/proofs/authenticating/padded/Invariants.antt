use Rattle.std.proofs.Common.{◌≡◌, ◌++◌, take, drop}
use Rattle.qu_seal.specs.Authenticating.{padded}
use Rattle.qu_seal.proofs.authenticating.padded.Given as goal

-- the bytes so far are padded
abbrev pub invariant-loop-byte : goal.invariant-loop-byte
invariant-loop-byte l = l.byte-items ≡ padded l.pad (take l.byte-index l.fn.block) ++ drop l.byte-index l.fn.block
