-- the bytes of the letters so far
use Rattle.std.proofs.Common.{◌≡◌, ◌*◌, ◌^◌, ◌≤◌, take}
use Rattle.qu_trace.specs.Letters.{bytes_of}
use Rattle.qu_world.proofs.letters.bytes_in.Given as goal

abbrev pub invariant-loop-letter : goal.invariant-loop-letter
invariant-loop-letter l = record {
  so_far : l.bytes ≡ bytes_of (take l.letter-index l.letters);
  most : l.bytes ≤ l.letter-index * 2 ^ 64;
}
