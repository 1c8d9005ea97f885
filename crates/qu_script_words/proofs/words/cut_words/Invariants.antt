-- The words among the pieces so far.
use Rattle.std.proofs.Common.{◌≡◌, map, take}
use Rattle.std.specs.List.{filter}
use Rattle.qu_script_words.specs.Words.{has_bytes}
use Rattle.qu_script_words.proofs.words.cut_words.Given as goal

abbrev pub invariant-loop-piece : goal.invariant-loop-piece
invariant-loop-piece l =
    map (λ word. word.now) l.words.items
    ≡ filter has_bytes (map (λ piece. piece.now) (take l.piece-index l.piece-items))
