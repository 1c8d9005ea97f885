-- What is still to read gives the number of the whole word.
use Rattle.std.proofs.Common.{◌≡◌, ◌<◌, ◌^◌, drop}
use Rattle.qu_notation.proofs.TextFacts.{number_rest}
use Rattle.qu_notation.proofs.number.read_number.Given as goal

abbrev pub invariant-loop-byte : goal.invariant-loop-byte
invariant-loop-byte l = (l.number < 2 ^ 64) × (number_rest l.number (drop l.byte-index l.word) ≡ number_rest 0 l.word)
