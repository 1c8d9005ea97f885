-- A text that only grows begins with what it was.
use Rattle.std.proofs.Common.{◌≡◌, ℕ, List, ◌++◌, length, take, drop, sym, ap, append_assoc, ◌∙◌}
use Rattle.std.proofs.lemmas.List.{take-append-drop}
use Rattle.std.proofs.Math.Seq.{take-length, take-append_seam}

pub begins_so : (old new : List ℕ) → new ≡ old → take (length old) new ≡ old
begins_so old new is = ap (take (length old)) is ∙ take-length old

pub begins_with : (old new more : List ℕ) → new ≡ old ++ more → take (length old) new ≡ old
begins_with old new more is = ap (take (length old)) is ∙ take-append_seam old more

-- what begins with a text begins with what that text begins with
pub begins_further : (old between new more : List ℕ) → between ≡ old ++ more → take (length between) new ≡ between
    → take (length old) new ≡ old
begins_further old between new more is begins =
    let rest : List ℕ = drop (length between) new in
    let all : new ≡ old ++ (more ++ rest) =
    sym (take-append-drop (length between) new) ∙ ap (λ (text : List ℕ). text ++ rest) (begins ∙ is)
    ∙ append_assoc old more rest in
    begins_with old new (more ++ rest) all

pub ruleset writing_laws = (begins_so, begins_with, begins_further)
