-- What a filter keeps of a list.
use Rattle.std.proofs.Common.{◌≡◌, Bool, true, false, cond, List, [], ◌∷◌, sym, ap, subst, ◌∙◌, arith, inl, inr}
use Rattle.std.specs.Prelude.{Contains}
use Rattle.std.specs.List.{filter}
use Rattle.std.proofs.lemmas.List.Elements.{All-contains, All-contains_itself, All-filter, filter_passes, Contains-append_cases, Contains-append_left, Contains-append_right, Contains-push}
use Rattle.qu_runs.proofs.Small.{only_one}

kept_later : {X : Type 0} (keeps : Bool) (first item : X) (kept : List X) → Contains kept item
    → Contains (cond keeps (first ∷ kept) kept) item
kept_later true first item kept held = Contains-append_right (first ∷ []) kept item held
kept_later false first item kept held = held

kept_first : {X : Type 0} (keeps : Bool) (first item : X) (kept : List X) → keeps ≡ true → first ≡ item
    → Contains (cond keeps (first ∷ kept) kept) item
kept_first keeps first item kept passing same =
    subst (λ (it : Bool). Contains (cond it (first ∷ kept) kept) item) (sym passing)
    (subst (λ (it : _). Contains (first ∷ kept) it) same
    (Contains-append_left (first ∷ []) kept first (Contains-push [] first)))

-- an item that passes is kept
pub in_filter : {X : Type 0} (test : X → Bool) (items : List X) (item : X) → Contains items item
    → test item ≡ true → Contains (filter test items) item
in_filter test [] item held passes = absurd (omega (arith, held.1))
in_filter test (first ∷ later) item held passes =
    elim (Contains-append_cases (first ∷ []) later item held) [
      | inl here ↦
          kept_first (test first) first item (filter test later) (ap test (only_one first item here) ∙ passes)
          (only_one first item here)
      | inr there ↦
          kept_later (test first) first item (filter test later) (in_filter test later item there passes)
    ]

-- what is kept is an item
pub from_filter : {X : Type 0} (test : X → Bool) (items : List X) (item : X) → Contains (filter test items) item
    → Contains items item
from_filter test items item held =
    All-contains (Contains items) (filter test items) item
    (All-filter test (Contains items) items (All-contains_itself items)) held

-- that passes
pub passes_filter : {X : Type 0} (test : X → Bool) (items : List X) (item : X) → Contains (filter test items) item
    → test item ≡ true
passes_filter test items item held =
    All-contains (λ it. test it ≡ true) (filter test items) item (filter_passes test items) held
