-- A plan is that of the definition, and copies what may be repaired.
use Rattle.std.proofs.Common.{rules, ◌≡◌, ◌⊎◌, None, Some, subst}
use Rattle.std.specs.List.{All}
use Rattle.qu_history.specs.Sets.{entries_of}
use Rattle.qu_plan.specs.declared.plan.PlanFail.{PlanFail}
use Rattle.qu_plan.specs.declared.plan.PlanFail.TheVariants.{Needs, Stale, NoMemory}
use Rattle.qu_plan.specs.Chosen.{chosen_on}
use Rattle.qu_plan.specs.Knowledge.{Knowledge}
use Rattle.qu_plan.specs.Copying.{first_fail, joint_of}
use Rattle.qu_plan.specs.Linking.{linking}
use Rattle.qu_class.specs.Rows.{AreWellFormed}
use Rattle.qu_plan.proofs.Copying.{told_fail, plan_made, one_plan, plan_sound}
use Rattle.qu_plan.proofs.plan.plan_copy.Goals as goal

pub returns-in_err-joint_of-clause-needs : goal.returns-in_err-joint_of-clause-needs
returns-in_err-joint_of-clause-needs c = λ object is.
    let why : PlanFail = (c.in_err-joint_of.field-0).0 in
    let is_chosen : c.chosen_on-chosen.result ≡ chosen_on c.args.bounds.now c.args.sets.now (linking c.args.facts.now)
    c.args.target = search rules in
    let fails : (why ≡ NoMemory) ⊎ (first_fail c.args.bounds.now c.args.sets.now (linking c.args.facts.now)
    c.args.target c.chosen_on-chosen.result ≡ Some why) = search rules in
    let same : why ≡ Needs object = search rules in
    told_fail c.args.bounds.now c.args.sets.now (linking c.args.facts.now) c.args.target c.chosen_on-chosen.result
    why (Needs object) is_chosen fails same (λ also. absurd cc)

pub returns-in_err-joint_of-clause-stale : goal.returns-in_err-joint_of-clause-stale
returns-in_err-joint_of-clause-stale c = λ object is.
    let why : PlanFail = (c.in_err-joint_of.field-0).0 in
    let is_chosen : c.chosen_on-chosen.result ≡ chosen_on c.args.bounds.now c.args.sets.now (linking c.args.facts.now)
    c.args.target = search rules in
    let fails : (why ≡ NoMemory) ⊎ (first_fail c.args.bounds.now c.args.sets.now (linking c.args.facts.now)
    c.args.target c.chosen_on-chosen.result ≡ Some why) = search rules in
    let same : why ≡ Stale object = search rules in
    told_fail c.args.bounds.now c.args.sets.now (linking c.args.facts.now) c.args.target c.chosen_on-chosen.result
    why (Stale object) is_chosen fails same (λ also. absurd cc)

pub returns-clause-value : goal.returns-clause-value
returns-clause-value c =
    let is_chosen : c.chosen_on-chosen.result ≡ chosen_on c.args.bounds.now c.args.sets.now (linking c.args.facts.now)
    c.args.target = search rules in
    let none_left : first_fail c.args.bounds.now c.args.sets.now (linking c.args.facts.now) c.args.target
    c.chosen_on-chosen.result ≡ None = search rules in
    let joint : c.in_ok-joint_of.field-0 ≡ joint_of c.args.bounds.now c.args.sets.now (linking c.args.facts.now)
    c.args.target c.chosen_on-chosen.result (c.chosen_on-chosen.result).group = search rules in
    plan_made c.args.bounds.now c.args.sets.now (linking c.args.facts.now) c.args.target c.chosen_on-chosen.result
    c.in_ok-joint_of.field-0 is_chosen none_left joint

pub returns-clause-sound : goal.returns-clause-sound
returns-clause-sound c =
    plan_sound c.args.bounds.now c.args.sets.now (linking c.args.facts.now) c.args.target
    (record { joint = c.in_ok-joint_of.field-0 }) c.requires.copy (returns-clause-value c)
    (subst (λ (known : Knowledge). All (λ part. AreWellFormed known.bounds (entries_of part.0 known.sets))
    c.in_ok-joint_of.field-0) c.in_ok-known.ensures c.in_ok-joint_of.ensures.formed)

pub returns-clause-one_plan : goal.returns-clause-one_plan
returns-clause-one_plan c =
    one_plan c.args.bounds.now c.args.sets.now (linking c.args.facts.now) c.args.target
    (record { joint = c.in_ok-joint_of.field-0 }) (returns-clause-value c)
