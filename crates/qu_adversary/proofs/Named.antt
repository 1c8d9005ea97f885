-- Each candidate of a history may follow those before it.
use Rattle.std.proofs.Common.{◌≡◌, ℕ, zero, suc, ◌<◌, ◌≤◌, List, [], ◌∷◌, length, get_or, take, true, false, IsTrue, refl, sym, ap, ◌∙◌, arith}
use Rattle.std.proofs.lemmas.Bool.{and_parts, and_from, false≢true}
use Rattle.qu_stamp.specs.declared.candidate.Candidate.{Candidate}
use Rattle.qu_stamp.specs.Stamp.{is_below}
use Rattle.qu_stamp.specs.Candidate.{opening}
use Rattle.qu_history.specs.History.{rises_from, is_history, latest, last_from}
use Rattle.qu_history.proofs.Rising.{history_parts, latest_is_last}

next_above : (first : Candidate) (later : List Candidate) (index : ℕ) (default : Candidate)
    → rises_from first.stamp later ≡ true → index < length later
    → is_below (get_or (first ∷ later) index default).stamp (get_or later index default).stamp ≡ true
unfolding rises_from
next_above first [] index default rising below = absurd (omega arith)
next_above first (next ∷ later) zero default rising below = (and_parts _ _ rising).0
next_above first (next ∷ later) (suc index) default rising below =
    next_above next later index default (and_parts _ _ rising).1 (omega arith)

-- the last one of the first candidates
last_before : (first : Candidate) (later : List Candidate) (index : ℕ) (default : Candidate) → index ≤ length later
    → last_from first (take index later) ≡ get_or (first ∷ later) index default
unfolding last_from
last_before first later zero default within = refl
last_before first [] (suc index) default within = absurd (omega arith)
last_before first (next ∷ later) (suc index) default within = last_before next later index default (omega arith)

rises_before : (first : Candidate) (later : List Candidate) (index : ℕ) → rises_from first.stamp later ≡ true
    → rises_from first.stamp (take index later) ≡ true
unfolding rises_from
rises_before first later zero rising = refl
rises_before first [] (suc index) rising = refl
rises_before first (next ∷ later) (suc index) rising =
    and_from _ _ (and_parts _ _ rising).0 (rises_before next later index (and_parts _ _ rising).1)

history_before : (first : Candidate) (later : List Candidate) (index : ℕ) → IsTrue (is_history (first ∷ later))
    → IsTrue (is_history (first ∷ take index later))
unfolding is_history
history_before first later index history =
    and_from _ _ (and_parts _ _ history).0 (rises_before first later index (history_parts first later history).1)

follows : (first : Candidate) (later : List Candidate) (index : ℕ) (default : Candidate)
    → IsTrue (is_history (first ∷ later)) → index < length later
    → is_below (latest (first ∷ take index later)) (get_or later index default).stamp ≡ true
unfolding last_from
follows first later index default history below =
    ap (λ stamp. is_below stamp (get_or later index default).stamp)
    (latest_is_last (first ∷ take index later) (history_before first later index history)
    ∙ ap (λ (it : Candidate). it.stamp) (last_before first later index default (omega arith)))
    ∙ next_above first later index default (history_parts first later history).1 below

pub may_follow : (candidates : List Candidate) (place : ℕ) (default : Candidate) → IsTrue (is_history candidates)
    → 1 ≤ place → place < length candidates
    → is_below (latest (take place candidates)) (get_or candidates place default).stamp ≡ true
may_follow [] place default history one below = absurd (omega arith)
may_follow (first ∷ later) zero default history one below = absurd (omega arith)
may_follow (first ∷ later) (suc index) default history one below =
    follows first later index default history (omega arith)

-- a history begins with the opening candidate
pub begins_open : (candidates : List Candidate) → IsTrue (is_history candidates) → take 1 candidates ≡ opening ∷ []
unfolding is_history
begins_open [] history = absurd (false≢true history)
begins_open (first ∷ later) history = ap (λ (it : Candidate). it ∷ []) (history_parts first later history).0

-- so none is refused as too early
pub never_early : (candidates shown before : List Candidate) (place : ℕ) (default : Candidate)
    → IsTrue (is_history candidates) → shown ≡ candidates → before ≡ take place candidates → 1 ≤ place
    → place < length candidates → is_below (latest before) (get_or shown place default).stamp ≡ false → ⊥
never_early candidates shown before place default history same first one below early =
    false≢true
    (sym early
    ∙ ap (λ (items : List Candidate). is_below (latest items) (get_or shown place default).stamp) first
    ∙ ap (λ (items : List Candidate). is_below (latest (take place candidates)) (get_or items place default).stamp) same
    ∙ may_follow candidates place default history one below)
