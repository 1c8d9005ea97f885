-- Two plans that share an object are one, and copy the same there, also where each is upon seals and by facts of its
-- own:
-- if they show the same histories, and what the facts tell of the evidence is what one linking tells.
use Rattle.std.proofs.Common.{◌≡◌, ℕ, List, [], ◌∷◌, Ok, sym, subst, ◌∙◌, inl, inr}
use Rattle.std.specs.List.{AllByRecursion}
use Rattle.qu_base.specs.declared.party.ObjectId.{ObjectId}
use Rattle.qu_stamp.specs.declared.candidate.Candidate.{Candidate}
use Rattle.qu_history.specs.declared.sets.SetOf.{SetOf}
use Rattle.qu_history.specs.Sets.{entries_of}
use Rattle.qu_class.specs.declared.class.Class.TheVariants.{Copy}
use Rattle.qu_plan.specs.declared.plan.CopyPlan.{CopyPlan}
use Rattle.qu_plan.specs.Chosen.{chosen_on}
use Rattle.qu_class.specs.Class.{is_in_sets, class_in}
use Rattle.qu_plan.specs.Copying.{plan_of, Names}
use Rattle.qu_plan.specs.Evidence.{evidence_of, AreAlike}
use Rattle.qu_plan.specs.Linking.{Linking}
use Rattle.qu_plan.proofs.Copying.{IsCopied, plan_copies, one_plan}
use Rattle.qu_plan.proofs.PlanEvidence.{evidence_enough}
use Rattle.qu_plan.proofs.SameShown.{choice_same, plan_alike}

module _ (bounds : ℕ) (truth : Linking) where
  -- a plan of a target of class COPY, by facts that tell of its evidence what is true
  pub record IsTruePlan (sets : List SetOf) (link : Linking) (target : ObjectId) (plan : CopyPlan) : Type 0 where
    pub copy : class_in bounds sets target ≡ Copy
    pub alike : AreAlike link truth (evidence_of bounds sets target)
    pub is : plan_of bounds sets link target ≡ Ok plan

  module _ (sets : List SetOf) where
    true_plan : (link : Linking) (target : ObjectId) (plan : CopyPlan) → IsTruePlan sets link target plan
        → plan_of bounds sets truth target ≡ Ok plan
    true_plan link target plan it = sym (evidence_enough bounds sets link truth target it.alike) ∙ it.is

    both_chosen : (link : Linking) (joint : List (ObjectId × Candidate))
        → AllByRecursion (IsCopied bounds sets link) joint → AllByRecursion (IsCopied bounds sets truth) joint
        → (object : ObjectId) → Names joint object
        → chosen_on bounds sets link object ≡ chosen_on bounds sets truth object
    both_chosen link [] one two object never = absurd never
    both_chosen link (part ∷ later) one two object (inl same) =
        subst (λ (it : ObjectId). chosen_on bounds sets link it ≡ chosen_on bounds sets truth it) same
        ((one.0).is_chosen ∙ sym (two.0).is_chosen)
    both_chosen link (part ∷ later) one two object (inr there) = both_chosen link later one.1 two.1 object there

    true_chosen : (link : Linking) (target : ObjectId) (plan : CopyPlan) → IsTruePlan sets link target plan
        → (object : ObjectId) → Names plan.joint object
        → chosen_on bounds sets link object ≡ chosen_on bounds sets truth object
    true_chosen link target plan it object names =
        both_chosen link plan.joint (plan_copies bounds sets link target plan it.copy it.is)
        (plan_copies bounds sets truth target plan it.copy (true_plan link target plan it)) object names

  module _ (sets others : List SetOf)
      (same : (object : ObjectId) → entries_of object sets ≡ entries_of object others)
      (same_in : (object : ObjectId) → is_in_sets sets object ≡ is_in_sets others object) where
    pub record DoAgree (one two : Linking) (plan besides : CopyPlan) (object : ObjectId) : Type 0 where
      pub plans : plan ≡ besides
      pub chosen : chosen_on bounds sets one object ≡ chosen_on bounds others two object

    pub plans_agree : (one two : Linking) (target other object : ObjectId) (plan besides : CopyPlan)
        → IsTruePlan sets one target plan → IsTruePlan others two other besides → Names plan.joint object
        → Names besides.joint object → DoAgree one two plan besides object
    plans_agree one two target other object plan besides it also names beside = record {
      plans = one_plan bounds sets truth target plan (true_plan sets one target plan it) other object besides
          (plan_alike bounds sets others same same_in truth other ∙ true_plan others two other besides also) names
          beside;
      chosen = true_chosen sets one target plan it object names
          ∙ choice_same bounds sets others same same_in truth object
          ∙ sym (true_chosen others two other besides also object beside);
    }
