-- Tests of what histories hold, and of the histories of entries.
use Rattle.std.proofs.Common.{◌≡◌, ◌||◌, Bool, true, List, [], ◌∷◌, inl, inr, refl, ap, ◌∙◌}
use Rattle.std.specs.List.{list_any}
use Rattle.std.proofs.lemmas.Bool.{false≢true, or_cases, or_left, or_right}
use Rattle.qu_stamp.specs.declared.candidate.Candidate.{Candidate}
use Rattle.qu_stamp.specs.Candidate.{same}
use Rattle.qu_stamp.proofs.Order.{equal_by_same}
use Rattle.qu_history.specs.declared.sealed.Sealed.{Sealed}
use Rattle.qu_history.specs.History.{ObjectHistory, holds}
use Rattle.qu_history.specs.Sets.{histories}

-- what is held passes
pub held_passes : (test : Candidate → Bool) (held : Candidate) (candidates : List Candidate)
    → holds held candidates ≡ true → test held ≡ true → list_any test candidates ≡ true
held_passes test held [] holding passes = absurd (false≢true holding)
held_passes test held (next ∷ later) holding passes =
    elim (or_cases (same next held) (holds held later) holding) [
      | inl alike ↦ or_left (test next) (list_any test later) (ap test (equal_by_same next held alike) ∙ passes)
      | inr there ↦ or_right (test next) (list_any test later) (held_passes test held later there passes)
    ]

-- a history of some entries passes a test where an entry's does
pub any_history : (test : ObjectHistory → Bool) (entries : List Sealed)
    → list_any (λ (entry : Sealed). test entry.history) entries ≡ list_any test (histories entries)
any_history test [] = refl
any_history test (entry ∷ later) = ap (λ (rest : Bool). test entry.history || rest) (any_history test later)
