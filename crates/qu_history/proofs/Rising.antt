-- In a history the last stamp is the greatest, and a candidate with a stamp above it may follow.
use Rattle.std.proofs.Common.{◌≡◌, ◌<◌, ◌≤◌, ◌-◌, List, [], ◌∷◌, ◌++◌, length, get_or, true, false, ◌||◌, cond, IsTrue, refl, sym, ap, ◌∙◌, arith, sub-one}
use Rattle.std.proofs.lemmas.Bool.{false≢true, and_parts, and_from, or_left, or_right}
use Rattle.std.proofs.lemmas.List.{length_push}
use Rattle.std.proofs.lemmas.List.Folds.{list_any-append}
use Rattle.qu_stamp.proofs.Order.{is_below-self, same-self, equal_by_same}
use Rattle.qu_stamp.specs.declared.candidate.Candidate.{Candidate}
use Rattle.qu_stamp.specs.Stamp.{opening_stamp, is_below}
use Rattle.qu_stamp.specs.Candidate.{opening, same}
use Rattle.qu_history.specs.declared.limits.TheConstants.{HISTORY_LIMIT}
use Rattle.qu_history.specs.History.{rises_from, is_history, greatest_stamp, latest, holds, last_from, last}

-- of rising stamps the last is the greatest
pub greatest_stamp-rising : (first : Candidate) (later : List Candidate) → rises_from first.stamp later ≡ true
    → greatest_stamp first.stamp later ≡ (last_from first later).stamp
unfolding rises_from greatest_stamp last_from
greatest_stamp-rising first [] rising = refl
greatest_stamp-rising first (next ∷ later) rising =
    let parts : (is_below first.stamp next.stamp ≡ true) × (rises_from next.stamp later ≡ true) =
    and_parts _ _ rising in
    ap (λ above. greatest_stamp (cond above next.stamp first.stamp) later) parts.0
    ∙ greatest_stamp-rising next later parts.1

rises_from_push : (first : Candidate) (later : List Candidate) (candidate : Candidate)
    → rises_from first.stamp later ≡ true → is_below (last_from first later).stamp candidate.stamp ≡ true
    → rises_from first.stamp (later ++ candidate ∷ []) ≡ true
unfolding rises_from last_from
rises_from_push first [] candidate rising above = and_from _ _ above refl
rises_from_push first (next ∷ later) candidate rising above =
    let parts : (is_below first.stamp next.stamp ≡ true) × (rises_from next.stamp later ≡ true) =
    and_parts _ _ rising in
    and_from _ _ parts.0 (rises_from_push next later candidate parts.1 above)

last_from_push : (first : Candidate) (later : List Candidate) (candidate : Candidate)
    → last_from first (later ++ candidate ∷ []) ≡ candidate
unfolding last_from
last_from_push first [] candidate = refl
last_from_push first (next ∷ later) candidate = last_from_push next later candidate

-- the last candidate, by its place
last_from_at : (first : Candidate) (later : List Candidate) (default : Candidate)
    → get_or (first ∷ later) (length later) default ≡ last_from first later
unfolding last_from
last_from_at first [] default = refl
last_from_at first (next ∷ later) default = last_from_at next later default

pub last_at : (candidates : List Candidate) (default : Candidate) → IsTrue (is_history candidates)
    → get_or candidates (length candidates - 1) default ≡ last candidates
unfolding is_history last_from
last_at [] default history = absurd (false≢true history)
last_at (first ∷ later) default history = rw sub-one (last_from_at first later default)

-- a history begins with the opening candidate, and rises from there
pub history_parts : (first : Candidate) (later : List Candidate) → IsTrue (is_history (first ∷ later))
    → (first ≡ opening) × (rises_from first.stamp later ≡ true)
unfolding is_history
history_parts first later history =
    let parts : (same first opening ≡ true) × (rises_from first.stamp later ≡ true) = and_parts _ _ history in
    (equal_by_same first opening parts.0, parts.1)

pub length_above_zero : (candidates : List Candidate) → IsTrue (is_history candidates) → 0 < length candidates
unfolding is_history
length_above_zero [] history = absurd (false≢true history)
length_above_zero (first ∷ later) history = omega arith

pub is_history_opening : IsTrue (is_history (opening ∷ []))
unfolding is_history rises_from
is_history_opening = and_from _ _ (same-self opening) refl

-- the last candidate of a history has its greatest stamp
pub latest_is_last : (candidates : List Candidate) → IsTrue (is_history candidates)
    → latest candidates ≡ (last candidates).stamp
unfolding is_history greatest_stamp last_from
latest_is_last [] history = absurd (false≢true history)
latest_is_last (first ∷ later) history =
    let parts : (first ≡ opening) × (rises_from first.stamp later ≡ true) = history_parts first later history in
    ap (λ (start : Candidate). greatest_stamp opening_stamp (start ∷ later)) parts.0 ∙
    ap (λ above. greatest_stamp (cond above opening_stamp opening_stamp) later) (is_below-self opening_stamp) ∙
    ap (λ (start : Candidate). greatest_stamp start.stamp later) (sym parts.0) ∙
    greatest_stamp-rising first later parts.1

-- a candidate above all others may follow
pub is_history_push : (candidates : List Candidate) (candidate : Candidate) → IsTrue (is_history candidates)
    → is_below (latest candidates) candidate.stamp ≡ true → IsTrue (is_history (candidates ++ candidate ∷ []))
unfolding is_history last_from
is_history_push [] candidate history above = absurd (false≢true history)
is_history_push (first ∷ later) candidate history above =
    let parts : (same first opening ≡ true) × (rises_from first.stamp later ≡ true) = and_parts _ _ history in
    and_from _ _ parts.0
    (rises_from_push first later candidate parts.1
    (ap (λ stamp. is_below stamp candidate.stamp) (sym (latest_is_last (first ∷ later) history)) ∙ above))

-- and then it is the latest
pub latest_push : (candidates : List Candidate) (candidate : Candidate) → IsTrue (is_history candidates)
    → is_below (latest candidates) candidate.stamp ≡ true → latest (candidates ++ candidate ∷ []) ≡ candidate.stamp
latest_push candidates candidate history above =
    latest_is_last (candidates ++ candidate ∷ []) (is_history_push candidates candidate history above) ∙
    ap (λ (end : Candidate). end.stamp) (last_from_push opening candidates candidate)

-- a list holds what it held and what was put at its end
pub holds_push : (held candidate : Candidate) (candidates : List Candidate)
    → holds held (candidates ++ candidate ∷ []) ≡ (holds held candidates || (same candidate held || false))
holds_push held candidate candidates = list_any-append (λ other. same other held) candidates (candidate ∷ [])

pub holds_pushed : (candidate : Candidate) (candidates : List Candidate)
    → holds candidate (candidates ++ candidate ∷ []) ≡ true
holds_pushed candidate candidates =
    holds_push candidate candidate candidates ∙ or_right _ _ (or_left _ _ (same-self candidate))

-- a history with a candidate more, which has room
pub history_push : (candidates pushed : List Candidate) (candidate : Candidate)
    → pushed ≡ candidates ++ candidate ∷ [] → IsTrue (is_history candidates)
    → is_below (latest candidates) candidate.stamp ≡ true → length candidates < HISTORY_LIMIT
    → IsTrue (is_history pushed) × (length pushed ≤ HISTORY_LIMIT)
history_push candidates pushed candidate is history above room = (
  rw is (is_history_push candidates candidate history above),
  omega
      (arith, ap length is, length_push candidates candidate),
)
