-- Texts of lines that stand behind one another.
use Rattle.std.proofs.Common.{◌≡◌, ℕ, List, [], ◌∷◌, ◌++◌}
use Rattle.std.proofs.lemmas.Grind.{flat_map-append}
use Rattle.qu_print.specs.Lines.{lines_text}

pub lines_text-append : (lines more : List (List ℕ)) → lines_text (lines ++ more) ≡ lines_text lines ++ lines_text more
unfolding lines_text
lines_text-append lines more = flat_map-append (λ line. line ++ 10 ∷ []) lines more
