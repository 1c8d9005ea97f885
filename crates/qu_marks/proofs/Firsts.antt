-- The first mark of an update.
use Rattle.std.proofs.Common.{◌≡◌, ℕ, ◌+◌, ◌<◌, ◌≤◌, Bool, true, cond, List, [], ◌∷◌, length, get_or, drop, Option, None, Some, refl, sym, ap, ◌∙◌, arith, inl, inr, zero, suc}
use Rattle.std.proofs.lemmas.Bool.{cases_Bool}
use Rattle.std.proofs.lemmas.Option.{none-some}
use Rattle.std.proofs.lemmas.List.{drop_more, drop_all}
use Rattle.qu_base.specs.declared.party.ClientId.{ClientId}
use Rattle.qu_base.specs.declared.party.Digest.{Digest}
use Rattle.qu_base.specs.declared.party.ObjectId.{ObjectId}
use Rattle.qu_objects.specs.declared.act.Method.{Method}
use Rattle.qu_trace.specs.Earliest.{earlier_of, IsUpTo}
use Rattle.qu_trace.proofs.EarliestLaws.{earlier_cases, earlier_assoc, earlier_none, earlier_left, earlier_right}
use Rattle.qu_known.specs.declared.tracked.Tracked.{Tracked}
use Rattle.qu_marks.specs.FirstMark.{is_of_update, mark_of, first_mark}

-- one candidate more
pub first_mark_more : (client : ClientId) (parts : List (ObjectId × Method)) (act : Digest) (all : List Tracked)
    (index : ℕ) (default : Tracked)
    (so_far : Option ℕ) → index < length all
    → earlier_of (earlier_of so_far (mark_of client parts act (get_or all index default)))
    (first_mark client parts act (drop (index + 1) all))
    ≡ earlier_of so_far (first_mark client parts act (drop index all))
unfolding first_mark
first_mark_more client parts act all index default so_far below =
    earlier_assoc so_far (mark_of client parts act (get_or all index default))
    (first_mark client parts act (drop (index + 1) all)) ∙
    ap (λ (it : List Tracked). earlier_of so_far (first_mark client parts act it))
    (sym (drop_more all index default below))

pub first_mark_end : (client : ClientId) (parts : List (ObjectId × Method)) (act : Digest) (all : List Tracked)
    (index : ℕ) (so_far : Option ℕ)
    → length all ≤ index → earlier_of so_far (first_mark client parts act (drop index all)) ≡ so_far
unfolding first_mark
first_mark_end client parts act all index so_far past =
    ap (λ (it : List Tracked). earlier_of so_far (first_mark client parts act it)) (drop_all index all past)
    ∙ earlier_none so_far

-- ---- what the first mark is

-- a candidate of the update with this mark
pub record HasMark (client : ClientId) (parts : List (ObjectId × Method)) (act : Digest) (all : List Tracked)
    (event : ℕ) : Type 0 where
  pub place : ℕ
  pub below : place < length all
  pub found : Tracked
  pub at : get_or all place found ≡ found
  pub of_update : is_of_update client parts act found ≡ true
  pub mark : found.decided ≡ Some event

mark_of_some : (client : ClientId) (parts : List (ObjectId × Method)) (act : Digest) (tracked : Tracked) (event : ℕ)
    → mark_of client parts act tracked ≡ Some event → (is_of_update client parts act tracked ≡ true)
    × (tracked.decided ≡ Some event)
mark_of_some client parts act tracked event mark =
    elim (cases_Bool (is_of_update client parts act tracked)) [
      | inl of_it ↦ (of_it, sym (ap (λ (test : Bool). cond test tracked.decided None) of_it) ∙ mark)
      | inr other ↦ absurd (none-some event (sym (ap (λ (test : Bool). cond test tracked.decided None) other) ∙ mark))
    ]

has_mark-later : (client : ClientId) (parts : List (ObjectId × Method)) (act : Digest) (first : Tracked)
    (later : List Tracked) (event : ℕ)
    → HasMark client parts act later event → HasMark client parts act (first ∷ later) event
has_mark-later client parts act first later event has = record {
  place = suc has.place;
  below = omega (arith, has.below);
  found = has.found;
  at = has.at;
  of_update = has.of_update;
  mark = has.mark;
}

pub first_mark_found : (client : ClientId) (parts : List (ObjectId × Method)) (act : Digest) (all : List Tracked)
    (event : ℕ)
    → first_mark client parts act all ≡ Some event → HasMark client parts act all event
unfolding first_mark
first_mark_found client parts act [] event is = absurd (none-some event is)
first_mark_found client parts act (tracked ∷ later) event is =
    elim (earlier_cases (mark_of client parts act tracked) (first_mark client parts act later) event is) [
      | inl here ↦
          let both : (is_of_update client parts act tracked ≡ true) × (tracked.decided ≡ Some event) =
          mark_of_some client parts act tracked event here in
          record { place = 0; below = omega arith; found = tracked; at = refl; of_update = both.0; mark = both.1 }
      | inr there ↦ has_mark-later client parts act tracked later event (first_mark_found client parts act later event
          there)
    ]

pub first_mark_least : (client : ClientId) (parts : List (ObjectId × Method)) (act : Digest) (all : List Tracked)
    (place : ℕ) (found : Tracked)
    (event : ℕ) → place < length all → get_or all place found ≡ found → is_of_update client parts act found ≡ true
    → found.decided ≡ Some event → IsUpTo (first_mark client parts act all) event
unfolding first_mark
first_mark_least client parts act [] place found event below at of_it mark = absurd (omega arith)
first_mark_least client parts act (tracked ∷ later) zero found event below at of_it mark =
    let here : mark_of client parts act tracked ≡ Some event =
    ap (λ (it : Tracked). mark_of client parts act it) at ∙ ap (λ (test : Bool). cond test found.decided None) of_it
    ∙ mark in
    earlier_left (mark_of client parts act tracked) (first_mark client parts act later) event (event, here, omega arith)
first_mark_least client parts act (tracked ∷ later) (suc place) found event below at of_it mark =
    earlier_right (mark_of client parts act tracked) (first_mark client parts act later) event
    (first_mark_least client parts act later place found event (omega arith) at of_it mark)
