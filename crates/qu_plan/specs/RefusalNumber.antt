-- The numbers by which texts name why there is no plan.
use Rattle.std.specs.Prelude.{ℕ, Option, None, Some}
use Rattle.qu_plan.specs.declared.plan.PlanFail.{PlanFail}
use Rattle.qu_plan.specs.declared.plan.PlanFail.TheVariants.{Needs, Stale, NoMemory}
use Rattle.qu_plan.specs.declared.refusal_number.TheConstants.{NEEDS, STALE}

abbrev pub plan_fail_number : PlanFail → Option ℕ
plan_fail_number (Needs object) = Some NEEDS
plan_fail_number (Stale object) = Some STALE
plan_fail_number NoMemory = None
