-- Where two sets show the same histories of the same objects, whatever their seals are, classes, choices and plans are
-- the same.
use Rattle.std.proofs.Common.{◌≡◌, ◌&&◌, ◌||◌, ℕ, Bool, false, not, cond, List, [], ◌∷◌, filter, find, Option, Some, None, Ok, refl, sym, ap, ◌∙◌}
use Rattle.std.specs.Prelude.{◌==◌, filter_map, unwrap_or}
use Rattle.std.specs.List.{list_all, list_any}
use Rattle.std.specs.Option.{option_map}
use Rattle.qu_base.specs.Bounds.{repair}
use Rattle.qu_base.specs.declared.party.ObjectId.{ObjectId}
use Rattle.qu_stamp.specs.declared.candidate.Candidate.{Candidate}
use Rattle.qu_stamp.specs.Candidate.{opening}
use Rattle.qu_history.specs.History.{ObjectHistory}
use Rattle.qu_history.specs.declared.sets.SetOf.{SetOf}
use Rattle.qu_history.specs.Text.{unsealed}
use Rattle.qu_history.specs.Sets.{entries_of, candidates_of, greatest, method_at}
use Rattle.qu_class.specs.declared.class.Class.{Class}
use Rattle.qu_class.specs.declared.class.Class.TheVariants.{Method, InlineMethod, Copy, InlineBarrier, Barrier, Needs}
use Rattle.qu_plan.specs.declared.plan.PlanFail.{PlanFail}
use Rattle.qu_plan.specs.declared.plan.PlanFail.TheVariants.{Needs as Wants, Stale}
use Rattle.qu_plan.specs.Chosen.{passes_over, is_skipped, greatest_chosen, chosen_on}
use Rattle.qu_class.specs.Class.{is_copy, is_in_sets, listed_stamp, is_of_group, agrees, class_of, inline_class, with_members, class_in}
use Rattle.qu_plan.specs.Linked.{is_at, is_above}
use Rattle.qu_plan.specs.Copying.{is_joined, link_from, plan_fail_at, joint_of, plan_with, plan_of}
use Rattle.qu_plan.specs.Linking.{Linking}
use Rattle.qu_class.specs.Repairable.{is_shown_of_kind}

module _ (bounds : ℕ) (sets others : List SetOf)
    (same : (object : ObjectId) → entries_of object sets ≡ entries_of object others)
    (same_in : (object : ObjectId) → is_in_sets sets object ≡ is_in_sets others object) where
  members_same : (class : Class) → with_members bounds sets class ≡ with_members bounds others class
  unfolding with_members inline_class
  members_same (Method candidate) = refl
  members_same (InlineMethod base) = λ i.
      elim (option_map (λ (member : ObjectId × ℕ). member.0)
      (find (λ (member : ObjectId × ℕ). not (same_in member.0 i)) base.group)) [
        | Some object ↦ Needs object
        | None ↦ cond (list_all (λ (member : ObjectId × ℕ).
            agrees bounds (same member.0 i) (listed_stamp base member) base.group) base.group)
            (InlineMethod base) (Barrier base.stamp)
      ]
  members_same Copy = refl
  members_same (InlineBarrier barrier) = refl
  members_same (Barrier prior) = refl
  members_same (Needs object) = refl

  pub class_same : (object : ObjectId) → class_in bounds sets object ≡ class_in bounds others object
  unfolding class_in
  class_same object =
      members_same (class_of bounds (entries_of object sets))
      ∙ ap (λ (entries : List ObjectHistory). with_members bounds others (class_of bounds entries)) (same object)

  pub choice_same : (link : Linking) (object : ObjectId)
      → chosen_on bounds sets link object ≡ chosen_on bounds others link object
  unfolding chosen_on greatest_chosen is_skipped
  choice_same link object = λ i.
      unwrap_or (greatest (filter (λ (candidate : Candidate).
      is_shown_of_kind false (repair bounds) (same object i) candidate
      && not (list_any (λ (member : ObjectId × ℕ). not ((member.0).0 == object.0)
      && passes_over link object member.0 (listed_stamp candidate member) (method_at bounds (same member.0 i)))
      candidate.group)) (candidates_of (same object i)))) opening

  -- ---- the plan of what is chosen

  module _ (link : Linking) (target : ObjectId) (candidate : Candidate) where
    joined_same : (member : ObjectId × ℕ)
        → is_joined bounds sets link candidate member ≡ is_joined bounds others link candidate member
    unfolding is_joined
    joined_same member = λ i.
        is_copy (class_same member.0 i)
        && is_of_group (choice_same link member.0 i) (listed_stamp candidate member) candidate.group

    link_same : (member : ObjectId × ℕ) → link_from link target member.0 (method_at bounds (entries_of member.0 sets))
        ≡ link_from link target member.0 (method_at bounds (entries_of member.0 others))
    link_same member = ap (λ (entries : List ObjectHistory). link_from link target member.0 (method_at bounds entries))
        (same member.0)

    fails_same : (members : List (ObjectId × ℕ))
        → option_map (plan_fail_at bounds sets link target candidate) (find (λ (member : ObjectId × ℕ).
        not (is_joined bounds sets link candidate member || is_at (listed_stamp candidate member)
        (link_from link target member.0 (method_at bounds (entries_of member.0 sets))))) members)
        ≡ option_map (plan_fail_at bounds others link target candidate) (find (λ (member : ObjectId × ℕ).
        not (is_joined bounds others link candidate member || is_at (listed_stamp candidate member)
        (link_from link target member.0 (method_at bounds (entries_of member.0 others))))) members)
    unfolding plan_fail_at
    fails_same members = λ i.
        option_map (λ (member : ObjectId × ℕ).
        cond (is_above (listed_stamp candidate member) (link_same member i)) (Stale member.0) (Wants member.0))
        (find (λ (member : ObjectId × ℕ).
        not (joined_same member i || is_at (listed_stamp candidate member) (link_same member i))) members)

    joint_same : (members : List (ObjectId × ℕ)) → joint_of bounds sets link target candidate members
        ≡ joint_of bounds others link target candidate members
    unfolding joint_of
    joint_same [] = refl
    joint_same (member ∷ later) = λ i.
        filter_map (λ (it : ObjectId × ℕ).
        cond (joined_same it i) (Some (it.0, choice_same link it.0 i)) None) (member ∷ later)

    with_same : (why : Option PlanFail)
        → plan_with bounds sets link target candidate why ≡ plan_with bounds others link target candidate why
    unfolding plan_with
    with_same (Some why) = refl
    with_same None =
        ap (λ (joint : List (ObjectId × Candidate)). Ok (record { joint = joint })) (joint_same candidate.group)

  pub plan_alike : (link : Linking) (target : ObjectId)
      → plan_of bounds sets link target ≡ plan_of bounds others link target
  unfolding plan_of
  plan_alike link target =
      let chosen : Candidate = chosen_on bounds sets link target in
      ap (plan_with bounds sets link target chosen) (fails_same link target chosen chosen.group)
      ∙ with_same link target chosen _
      ∙ ap (λ (it : Candidate). plan_with bounds others link target it
      (option_map (plan_fail_at bounds others link target it) (find (λ (member : ObjectId × ℕ).
      not (is_joined bounds others link it member || is_at (listed_stamp it member)
      (link_from link target member.0 (method_at bounds (entries_of member.0 others))))) it.group)))
      (choice_same link target)

is_in_unsealed : (object : ObjectId) (sets : List SetOf)
    → is_in_sets sets object ≡ list_any (λ (set : ObjectId × List ObjectHistory). (set.0).0 == object.0) (unsealed sets)
is_in_unsealed object [] = refl
is_in_unsealed object (set ∷ later) =
    ap (λ (rest : Bool). (set.object).0 == object.0 || rest) (is_in_unsealed object later)

-- sets that are one but for their HMACs are of the same objects
pub is_in_same : (sets others : List SetOf) → unsealed sets ≡ unsealed others → (object : ObjectId)
    → is_in_sets sets object ≡ is_in_sets others object
is_in_same sets others same object =
    is_in_unsealed object sets
    ∙ ap (list_any (λ (set : ObjectId × List ObjectHistory). (set.0).0 == object.0)) same
    ∙ sym (is_in_unsealed object others)
