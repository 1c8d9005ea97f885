-- what is written so far, put before what the rest gives, is the whole
use Rattle.std.proofs.Common.{◌≡◌, ◌++◌, drop}
use Rattle.std.specs.Prelude.{string_bytes, codes}
use Rattle.std.specs.List.{flat_map}
use Rattle.qu_print.proofs.piece.put_joined.Given as goal

abbrev pub invariant-loop-piece : goal.invariant-loop-piece
invariant-loop-piece g l =
    string_bytes l.text ++ flat_map (λ piece. codes " + " ++ g.P.Piece.text_of piece) (drop l.piece-index l.rest)
    ≡ string_bytes l.initial.text ++ flat_map (λ piece. codes " + " ++ g.P.Piece.text_of piece) l.rest
