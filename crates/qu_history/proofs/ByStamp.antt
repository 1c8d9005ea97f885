-- In a history a candidate is found by its stamp: the candidates below it stand in front, and of the others the first
-- alone may be it.
use Rattle.std.proofs.Common.{◌≡◌, ◌<◌, ◌≤◌, ◌||◌, ℕ, zero, suc, List, [], ◌∷◌, length, get_or, Bool, true, false, IsTrue, Option, Some, None, refl, sym, ap, ◌∙◌, arith}
use Rattle.std.specs.Prelude.{slice_get}
use Rattle.std.specs.List.Sorted.{IsPartitionPoint, IsPartitionedBy}
use Rattle.std.proofs.lemmas.Bool.{false≢true, false_from_ne_true, and_parts, or_from}
use Rattle.qu_stamp.proofs.Order.{is_below-self, is_below-chain, equal_by_same}
use Rattle.qu_stamp.specs.declared.stamp.Stamp.{Stamp}
use Rattle.qu_stamp.specs.declared.candidate.Candidate.{Candidate}
use Rattle.qu_stamp.specs.Stamp.{is_below}
use Rattle.qu_stamp.specs.Candidate.{same}
use Rattle.qu_history.specs.History.{rises_from, is_history, holds}
use Rattle.qu_history.proofs.Rising.{history_parts}
use Rattle.qu_history.proofs.Shown.{below_from}

abbrev pub is_under : Stamp → Candidate → Bool
is_under stamp held = is_below held.stamp stamp

parted_from : (stamp : Stamp) (first : Candidate) (later : List Candidate) (one other : ℕ) (default : Candidate)
    → rises_from first.stamp later ≡ true → one ≤ other → other < length (first ∷ later)
    → is_under stamp (get_or (first ∷ later) other default) ≡ true
    → is_under stamp (get_or (first ∷ later) one default) ≡ true
unfolding rises_from
parted_from stamp first later zero zero default rising order within below = below
parted_from stamp first later zero (suc other) default rising order within below =
    is_below-chain first.stamp _ stamp (below_from first.stamp later other default rising (omega (arith, within))) below
parted_from stamp first later (suc one) zero default rising order within below = absurd (omega arith)
parted_from stamp first [] (suc one) (suc other) default rising order within below = absurd (omega arith)
parted_from stamp first (next ∷ later) (suc one) (suc other) default rising order within below =
    let parts : (is_below first.stamp next.stamp ≡ true) × (rises_from next.stamp later ≡ true) =
    and_parts _ _ rising in
    parted_from stamp next later one other default parts.1 (omega (arith, order)) (omega (arith, within)) below

pub parted_by_stamp : (candidates : List Candidate) (stamp : Stamp) → IsTrue (is_history candidates)
    → IsPartitionedBy (is_under stamp) candidates
parted_by_stamp [] stamp history one other default order within = absurd (omega arith)
parted_by_stamp (first ∷ later) stamp history one other default order within =
    parted_from stamp first later one other default (history_parts first later history).1 order within

unlike_below : (held candidate : Candidate) → is_under candidate.stamp held ≡ true → same held candidate ≡ false
unlike_below held candidate below = false_from_ne_true (same held candidate) (λ alike. false≢true
    (sym (is_below-self candidate.stamp) ∙ ap (is_under candidate.stamp) (sym (equal_by_same held candidate alike))
    ∙ below))

-- what rises from a stamp that is not below the candidate's does not have it
none_above : (stamp : Stamp) (candidate : Candidate) (later : List Candidate) → rises_from stamp later ≡ true
    → is_below stamp candidate.stamp ≡ false → holds candidate later ≡ false
unfolding rises_from
none_above stamp candidate [] rising behind = refl
none_above stamp candidate (next ∷ later) rising behind =
    let parts : (is_below stamp next.stamp ≡ true) × (rises_from next.stamp later ≡ true) = and_parts _ _ rising in
    or_from (same next candidate) (holds candidate later)
    (false_from_ne_true (same next candidate) (λ alike. false≢true (sym behind
    ∙ ap (λ (it : Candidate). is_below stamp it.stamp) (sym (equal_by_same next candidate alike)) ∙ parts.0)))
    (none_above next.stamp candidate later parts.1 (false_from_ne_true (is_below next.stamp candidate.stamp)
    (λ below. false≢true (sym behind ∙ is_below-chain stamp next.stamp candidate.stamp parts.0 below))))

or_none : (test rest : Bool) → rest ≡ false → (test || rest) ≡ test
or_none true rest none = refl
or_none false rest none = none

abbrev pub IsCut : Candidate → List Candidate → ℕ → Type 0
IsCut candidate candidates place =
    IsPartitionPoint (λ (held : Candidate). is_below held.stamp candidate.stamp ≡ true)
    (λ (held : Candidate). is_below held.stamp candidate.stamp ≡ false) candidates place

abbrev is_there : Candidate → Option Candidate → Bool
is_there candidate None = false
is_there candidate (Some held) = same held candidate

found_from : (candidate first : Candidate) (later : List Candidate) (place : ℕ) → rises_from first.stamp later ≡ true
    → IsCut candidate (first ∷ later) place
    → holds candidate (first ∷ later) ≡ is_there candidate (slice_get (first ∷ later) place)
unfolding rises_from
found_from candidate first later zero rising cut =
    or_none (same first candidate) (holds candidate later)
    (none_above first.stamp candidate later rising (cut.1 0 first (omega arith) (omega arith)))
found_from candidate first [] (suc place) rising cut =
    ap (λ (it : Bool). it || false) (unlike_below first candidate (cut.0 0 first (omega arith) (omega arith)))
found_from candidate first (next ∷ later) (suc place) rising cut =
    let parts : (is_below first.stamp next.stamp ≡ true) × (rises_from next.stamp later ≡ true) =
    and_parts _ _ rising in
    ap (λ (it : Bool). it || holds candidate (next ∷ later))
    (unlike_below first candidate (cut.0 0 first (omega arith) (omega arith)))
    ∙ found_from candidate next later place parts.1 (
      λ index default least within. cut.0 (suc index) default (omega arith) (omega (arith, within)),
      λ index default least within. cut.1 (suc index) default (omega (arith, least)) (omega (arith, within)),
    )

found : (candidate : Candidate) (candidates : List Candidate) (place : ℕ) → IsTrue (is_history candidates)
    → IsCut candidate candidates place
    → holds candidate candidates ≡ is_there candidate (slice_get candidates place)
found candidate [] place history cut = refl
found candidate (first ∷ later) place history cut =
    found_from candidate first later place (history_parts first later history).1 cut

-- the candidate is the one at the place, or there is none
pub held_there : (candidate held : Candidate) (candidates : List Candidate) (place : ℕ)
    → IsTrue (is_history candidates) → IsCut candidate candidates place → slice_get candidates place ≡ Some held
    → holds candidate candidates ≡ same held candidate
held_there candidate held candidates place history cut there =
    found candidate candidates place history cut ∙ ap (is_there candidate) there

pub held_nowhere : (candidate : Candidate) (candidates : List Candidate) (place : ℕ)
    → IsTrue (is_history candidates) → IsCut candidate candidates place → slice_get candidates place ≡ None
    → holds candidate candidates ≡ false
held_nowhere candidate candidates place history cut there =
    found candidate candidates place history cut ∙ ap (is_there candidate) there
