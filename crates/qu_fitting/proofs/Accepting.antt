-- The histories once a candidate is accepted.
use Rattle.std.proofs.Common.{◌≡◌, ℕ, zero, suc, ◌<◌, List, [], ◌∷◌, ◌++◌, length, set, get_or, Some, refl, sym, ap, ◌∙◌, arith}
use Rattle.std.specs.Prelude.{slice_get}
use Rattle.std.proofs.lemmas.Option.{none-some, same_Some}
use Rattle.qu_stamp.specs.declared.candidate.Candidate.{Candidate}
use Rattle.qu_history.specs.History.{ObjectHistory}
use Rattle.qu_mends.specs.declared.accepted.Accepted.{Accepted}
use Rattle.qu_rows.specs.State.{ReplicaState, AreHistories}
use Rattle.qu_fitting.specs.Holding.{with_candidate, accept}
use Rattle.qu_rows.specs.Allowed.{MayAccept}
use Rattle.qu_rows.proofs.Own.{own_history}
use Rattle.qu_fitting.proofs.OwnHistories.{accept-histories}

pub length-with_candidate : (number : ℕ) (candidate : Candidate) (histories : List ObjectHistory)
    → length (with_candidate number candidate histories) ≡ length histories
unfolding with_candidate
length-with_candidate number candidate [] = refl
length-with_candidate zero candidate (history ∷ later) = refl
length-with_candidate (suc number) candidate (history ∷ later) = ap suc (length-with_candidate number candidate later)

pub other_history : (number place : ℕ) (candidate : Candidate) (histories : List ObjectHistory)
    → (place ≡ number → ⊥) → slice_get (with_candidate number candidate histories) place ≡ slice_get histories place
unfolding with_candidate
other_history number place candidate [] other = refl
other_history zero zero candidate (history ∷ later) other = absurd (other refl)
other_history zero (suc place) candidate (history ∷ later) other = refl
other_history (suc number) zero candidate (history ∷ later) other = refl
other_history (suc number) (suc place) candidate (history ∷ later) other =
    other_history number place candidate later (λ same. other (ap suc same))

pub own_history_after : (number : ℕ) (candidate : Candidate) (histories : List ObjectHistory)
    (history grown : ObjectHistory) → number < length histories → history ≡ get_or histories number history
    → grown ≡ record history { candidates = history.candidates ++ candidate ∷ [] }
    → slice_get (with_candidate number candidate histories) number ≡ Some grown
unfolding with_candidate
own_history_after number candidate [] history grown within found is_grown = absurd (omega arith)
own_history_after zero candidate (here ∷ later) history grown within found is_grown =
    ap (λ (it : ObjectHistory). Some (record it { candidates = it.candidates ++ candidate ∷ [] })) (sym found)
    ∙ ap Some (sym is_grown)
own_history_after (suc number) candidate (here ∷ later) history grown within found is_grown =
    let inner : number < length later = omega arith in
    own_history_after number candidate later history grown inner found is_grown

-- the same of a history that was read at this place
pub read_history_after : (number place : ℕ) (candidate : Candidate) (histories items : List ObjectHistory)
    (read history grown : ObjectHistory) → items ≡ histories → place ≡ number → read ≡ get_or items place read
    → history ≡ read → number < length histories
    → grown ≡ record history { candidates = history.candidates ++ candidate ∷ [] }
    → slice_get (with_candidate number candidate histories) number ≡ Some grown
read_history_after number place candidate histories items read history grown same_items same_place found
    same_history within is_grown =
    let at_number : read ≡ get_or histories number read =
    found ∙ ap (λ (list : List ObjectHistory). get_or list place read) same_items
    ∙ ap (λ (index : ℕ). get_or histories index read) same_place in
    own_history_after number candidate histories read grown within at_number
    (is_grown ∙ ap (λ (it : ObjectHistory). record it { candidates = it.candidates ++ candidate ∷ [] }) same_history)

pub put_history : (number : ℕ) (candidate : Candidate) (histories : List ObjectHistory) (history : ObjectHistory)
    → slice_get (with_candidate number candidate histories) number ≡ Some history
    → set histories number history ≡ with_candidate number candidate histories
unfolding with_candidate
put_history number candidate [] history found = absurd (none-some history found)
put_history zero candidate (here ∷ later) history found =
    ap (λ (it : ObjectHistory). it ∷ later) (sym (same_Some _ history found))
put_history (suc number) candidate (here ∷ later) history found =
    ap (λ (rest : List ObjectHistory). here ∷ rest) (put_history number candidate later history found)

-- the place of the history that the candidate makes is that of its object
pub grown_place : (state : ReplicaState) (accepted : Accepted) (history : ObjectHistory) → AreHistories state
    → MayAccept state accepted
    → slice_get (with_candidate (accepted.object).0 accepted.candidate state.histories) (accepted.object).0 ≡ Some
    history → (history.object).0 ≡ (accepted.object).0
grown_place state accepted history own may found =
    (own_history (accept state accepted) (accepted.object).0 history (accept-histories state accepted own may)
    found).object
