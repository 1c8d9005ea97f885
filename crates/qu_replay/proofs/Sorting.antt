-- From std's sorted lists to lists by tickets.
use Rattle.std.proofs.Common.{ℕ, ◌≤◌, List, [], ◌∷◌, arith}
use Rattle.std.specs.List.Sorted.{IsNonDecreasingBy}
use Rattle.std.proofs.lemmas.List.Sorted.{IsNonDecreasingBy-drop}
use Rattle.qu_base.specs.declared.party.Party.{Party}
use Rattle.qu_replay.specs.declared.kept_step.KeptStep.{KeptStep}
use Rattle.qu_replay.specs.Merged.{AreByTicket}

abbrev ticket : Party × KeptStep → ℕ
ticket x = x.1.ticket

sorted_from : (low : ℕ) (x : Party × KeptStep) (xs : List (Party × KeptStep)) → low ≤ x.1.ticket
    → IsNonDecreasingBy ticket (x ∷ xs) → AreByTicket low (x ∷ xs)
unfolding AreByTicket
sorted_from low x [] first sorted = (first, tt)
sorted_from low x (y ∷ later) first sorted = (
  first,
  sorted_from x.1.ticket y later (sorted 0 1 x (omega arith) (omega arith))
      (IsNonDecreasingBy-drop ticket 1 (x ∷ y ∷ later) sorted),
)

pub sorted_of : (xs : List (Party × KeptStep)) → IsNonDecreasingBy ticket xs → AreByTicket 0 xs
unfolding AreByTicket
sorted_of [] sorted = tt
sorted_of (x ∷ xs) sorted = sorted_from 0 x xs (omega arith) sorted
