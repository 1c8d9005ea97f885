-- The bytes so far, and those of the pieces that are left.
use Rattle.std.proofs.Common.{◌≡◌, drop}
use Rattle.qu_notation.proofs.TextFacts.{texts}
use Rattle.qu_notation.proofs.NameFacts.{pieces_with}
use Rattle.qu_notation.proofs.reading_names.read_pieces.Given as goal

abbrev pub invariant-loop-piece : goal.invariant-loop-piece
invariant-loop-piece l =
    pieces_with l.name.items (drop l.piece-index (texts l.coded)) ≡ pieces_with l.initial.name.items (texts l.coded)
