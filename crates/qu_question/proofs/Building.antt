-- What the building of a round names besides.
use Rattle.std.proofs.Common.{◌≡◌, ℕ, zero, suc, ◌-◌, cond, ◌&&◌, List, length, Option, None, Some, refl, sym, ap, ◌∙◌, arith, inl, inr}
use Rattle.std.proofs.lemmas.Bool.{cases_Bool}
use Rattle.std.proofs.lemmas.Option.{none-some, same_Some}
use Rattle.qu_base.specs.declared.party.ObjectId.{ObjectId}
use Rattle.qu_stamp.specs.declared.candidate.Candidate.{Candidate}
use Rattle.qu_history.specs.declared.limits.TheConstants.{OBJECTS_LIMIT}
use Rattle.qu_history.specs.declared.sets.SetOf.{SetOf}
use Rattle.qu_history.specs.History.{ObjectHistory}
use Rattle.qu_history.specs.Sets.{object_candidate, if_method, method_at}
use Rattle.qu_class.specs.declared.class.Class.TheVariants.{Method}
use Rattle.qu_class.specs.Class.{is_latest, is_full, class_of}
use Rattle.qu_class.specs.Repairable.{object_base}
use Rattle.qu_question.specs.declared.kept.Kept.{Kept}
use Rattle.qu_question.specs.Named.{with_named}
use Rattle.qu_question.specs.Question.{sets_of, needed_in, named_within, named_for}
use Rattle.qu_question.proofs.Naming.{AreMore, same_named, and_more, with_named-more}

-- ---- what was named stays named

by_need : (named : List ObjectId) (next : ObjectId → List ObjectId)
    → ((object : ObjectId) → AreMore named (next object))
    → (found : Option ObjectId) → AreMore named (elim found [ None ↦ named | Some object ↦ next object ])
by_need named next each None = same_named named
by_need named next each (Some object) = each object

named_within-more : (more bounds round : ℕ) (kept : List Kept) (named : List ObjectId)
    → AreMore named (named_within more bounds round kept named)
unfolding named_within
named_within-more zero bounds round kept named = same_named named
named_within-more (suc more) bounds round kept named =
    by_need named (λ object. named_within more bounds round kept (with_named object named))
    (λ object.
    and_more (with_named-more object named) (named_within-more more bounds round kept (with_named object named)))
    (needed_in bounds (sets_of bounds round kept named) named)

pub named_for-more : (bounds round : ℕ) (kept : List Kept) (named : List ObjectId)
    → AreMore named (named_for bounds round kept named)
named_for-more bounds round kept named = named_within-more (OBJECTS_LIMIT - length named) bounds round kept named

-- ---- where none is needed, none is added

within_none : (more bounds round : ℕ) (kept : List Kept) (named : List ObjectId)
    → needed_in bounds (sets_of bounds round kept named) named ≡ None
    → named_within more bounds round kept named ≡ named
unfolding named_within
within_none zero bounds round kept named none = refl
within_none (suc more) bounds round kept named none =
    ap (λ (found : Option ObjectId). elim found [
      | None ↦ named
      | Some object ↦ named_within more bounds round kept (with_named object named)
    ]) none

pub named_for-none : (bounds round : ℕ) (kept : List Kept) (named : List ObjectId)
    → needed_in bounds (sets_of bounds round kept named) named ≡ None → named_for bounds round kept named ≡ named
named_for-none bounds round kept named none =
    within_none (OBJECTS_LIMIT - length named) bounds round kept named none

-- an object of class METHOD needs none
module _ (bounds : ℕ) (entries : List ObjectHistory) (candidate : Candidate) where
  by_candidate : (found : Option Candidate) → object_candidate bounds entries ≡ found
      → if_method bounds entries found ≡ Some candidate → class_of bounds entries ≡ Method candidate
  unfolding class_of object_base if_method
  by_candidate None is method = absurd (none-some candidate method)
  by_candidate (Some first) is method =
      elim (cases_Bool (is_latest entries first && is_full bounds entries first)) [
        | inl passes ↦
            let same : first ≡ candidate =
            same_Some _ _ (sym (ap (λ test. cond test (Some first) None) passes) ∙ method) in
            rw (is, passes, same) refl
        | inr fails ↦
            absurd (none-some candidate (sym (ap (λ test. cond test (Some first) None) fails) ∙ method))
      ]

  pub class_at_method : method_at bounds entries ≡ Some candidate → class_of bounds entries ≡ Method candidate
  unfolding method_at
  class_at_method method = by_candidate (object_candidate bounds entries) refl method

-- ---- how the building goes on

within_some : (more bounds round : ℕ) (kept : List Kept) (named : List ObjectId) (object : ObjectId)
    → (more ≡ 0 → ⊥) → needed_in bounds (sets_of bounds round kept named) named ≡ Some object
    → named_within more bounds round kept named ≡ named_within (more - 1) bounds round kept (with_named object named)
unfolding named_within
within_some zero bounds round kept named object some needed = absurd (some refl)
within_some (suc more) bounds round kept named object some needed =
    let less : more ≡ suc more - 1 = omega arith in
    ap (λ (found : Option ObjectId). elim found [
      | None ↦ named
      | Some object ↦ named_within more bounds round kept (with_named object named)
    ]) needed
    ∙ ap (λ (it : ℕ). named_within it bounds round kept (with_named object named)) less

module _ (more bounds round : ℕ) (kept : List Kept) (named shown looked : List ObjectId) (sets : List SetOf)
    (shown_is : shown ≡ named) (looked_is : looked ≡ named) (sets_are : sets ≡ sets_of bounds round kept shown) where
  needs : needed_in bounds sets looked ≡ needed_in bounds (sets_of bounds round kept named) named
  needs =
      ap (λ (it : List SetOf). needed_in bounds it looked)
      (sets_are ∙ ap (λ (it : List ObjectId). sets_of bounds round kept it) shown_is)
      ∙ ap (λ (it : List ObjectId). needed_in bounds (sets_of bounds round kept named) it) looked_is

  -- where none is needed, it ends
  pub built_here : None ≡ needed_in bounds sets looked → named ≡ named_within more bounds round kept named
  built_here none = sym (within_none more bounds round kept named (sym needs ∙ sym none))

  -- and else it starts again
  pub built_with : (object : ObjectId) (grown : List ObjectId) → (more ≡ 0 → ⊥)
      → Some object ≡ needed_in bounds sets looked → grown ≡ with_named object named
      → named_within (more - 1) bounds round kept grown ≡ named_within more bounds round kept named
  built_with object grown some needed grows =
      ap (λ (it : List ObjectId). named_within (more - 1) bounds round kept it) grows
      ∙ sym (within_some more bounds round kept named object some (sym needs ∙ sym needed))

pub built_at_zero : (more bounds round : ℕ) (kept : List Kept) (named : List ObjectId) → more ≡ 0
    → named ≡ named_within more bounds round kept named
unfolding named_within
built_at_zero zero bounds round kept named none = refl
built_at_zero (suc more) bounds round kept named none = absurd (omega (arith, none))
