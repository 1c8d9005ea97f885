-- What the class of an object, and the plan of a copy, tell of what mends it.
use Rattle.std.proofs.Common.{◌≡◌, ◌==◌, ℕ, Bool, true, false, cond, List, [], ◌∷◌, All, Option, Some, Result, Ok, Err, IfOk, IsSome, inl, inr, refl, sym, subst, arith}
use Rattle.std.specs.Prelude.{find, option_map}
use Rattle.std.specs.List.{AllByRecursion}
use Rattle.std.proofs.lemmas.Bool.{eqb-true}
use Rattle.std.proofs.lemmas.List.Elements.{recursion_from_All}
use Rattle.qu_base.specs.declared.party.ObjectId.{ObjectId}
use Rattle.qu_base.proofs.Numbered.{object_is}
use Rattle.qu_stamp.specs.declared.candidate.Candidate.{Candidate}
use Rattle.qu_history.specs.History.{ObjectHistory}
use Rattle.qu_history.specs.declared.sets.SetOf.{SetOf}
use Rattle.qu_history.specs.Sets.{entries_of}
use Rattle.qu_class.specs.declared.class.Class.{Class}
use Rattle.qu_class.specs.declared.class.Class.TheVariants.{Method, InlineMethod, Copy, InlineBarrier, Barrier, Needs}
use Rattle.qu_plan.specs.declared.plan.CopyPlan.{CopyPlan}
use Rattle.qu_plan.specs.declared.plan.PlanFail.{PlanFail}
use Rattle.qu_class.specs.Rows.{MayBeRepaired, IsClassIn}
use Rattle.qu_class.proofs.ClassRows.{HasMethod}
use Rattle.qu_kept.specs.declared.course.Course.{Course}
use Rattle.qu_kept.specs.Remedy.{copied_at, copy_of}
use Rattle.qu_mends.specs.Remedy.{copy_course, course_by, IsGrounded}

some_is : (candidate : Candidate) → IsSome (Some candidate)
some_is candidate = grind arith

module _ (bounds : ℕ) (sets : List SetOf) (target : ObjectId) where
  abbrev entries : List ObjectHistory
  entries = entries_of target sets

  abbrev pub IsGroundedCourse : Course → Type 0
  IsGroundedCourse course = IsGrounded bounds entries course.remedy

  -- what a plan copies may be repaired, also what it copies on the target
  found_grounded : (joint : List (ObjectId × Candidate))
      → AllByRecursion (λ part. MayBeRepaired bounds (entries_of part.0 sets) false part.1) joint
      → IsGrounded bounds entries (copy_of target (copied_at target joint))
  found_grounded [] all = tt
  found_grounded (part ∷ later) all = by ((part.0).0 == target.0) refl (found_grounded later all.1)
    where
      by : (test : Bool) → ((part.0).0 == target.0) ≡ test
          → IsGrounded bounds entries (copy_of target (copied_at target later))
          → IsGrounded bounds entries (copy_of target (option_map (λ (it : ObjectId × Candidate). it.1)
          (cond test (Some part) (find (λ (it : ObjectId × Candidate). (it.0).0 == target.0) later))))
      by true here rest = (
        part.1,
        subst (λ (object : ObjectId). MayBeRepaired bounds (entries_of object sets) false part.1)
            (object_is part.0 target (eqb-true (part.0).0 target.0 here)) all.0,
        refl,
      )
      by false elsewhere rest = rest

  pub plan_grounded : (plan : CopyPlan)
      → All (λ part. MayBeRepaired bounds (entries_of part.0 sets) false part.1) plan.joint
      → IsGroundedCourse (copy_course target (Ok plan))
  unfolding copy_course
  plan_grounded plan all =
      found_grounded plan.joint
      (recursion_from_All (λ (part : ObjectId × Candidate). MayBeRepaired bounds (entries_of part.0 sets) false part.1)
      plan.joint all)

  pub ok_planned : {E : Type 0} (result : Result Course E) (plan : CopyPlan)
      → IfOk result (λ course. course ≡ copy_course target (Ok plan))
      → All (λ part. MayBeRepaired bounds (entries_of part.0 sets) false part.1) plan.joint
      → IfOk result IsGroundedCourse
  ok_planned (Ok course) plan is all = subst IsGroundedCourse (sym is) (plan_grounded plan all)
  ok_planned (Err error) plan is all = is

  -- what is told by a class is ground for its remedy
  pub grounded : (plan : Result CopyPlan PlanFail) (class : Class) → HasMethod bounds entries class
      → IsClassIn bounds sets target class → (class ≡ Copy → IsGroundedCourse (course_by bounds sets target plan class))
      → IsGroundedCourse (course_by bounds sets target plan class)
  unfolding course_by
  grounded plan (Method candidate) has tells copied =
      subst (λ (found : Option Candidate). IsSome found) (sym ((has candidate).0 refl)) (some_is candidate)
  grounded plan (InlineMethod candidate) has tells copied = (((tells.0).0).greatest).repairable.order
  grounded plan Copy has tells copied = copied refl
  grounded plan (InlineBarrier candidate) has tells copied = ((tells.0).greatest).repairable.order
  grounded plan (Barrier prior) has tells copied = elim tells [
    | inl own ↦ (own.0, own.1, own.2)
    | inr passed ↦ (passed.0, ((passed.1).0).greatest, passed.2)
  ]
  grounded plan (Needs member) has tells copied = tt

  pub ok_grounded : {E : Type 0} (result : Result Course E) (plan : Result CopyPlan PlanFail) (class : Class)
      → IfOk result (λ course. course ≡ course_by bounds sets target plan class)
      → HasMethod bounds entries class → IsClassIn bounds sets target class
      → (class ≡ Copy → IfOk result IsGroundedCourse) → IfOk result IsGroundedCourse
  ok_grounded (Ok course) plan class is has tells copied =
      subst IsGroundedCourse (sym is)
      (grounded plan class has tells (λ copy. subst IsGroundedCourse is (copied copy)))
  ok_grounded (Err error) plan class is has tells copied = is
