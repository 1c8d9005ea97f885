-- the steps so far stand behind the others
use Rattle.std.proofs.Common.{◌≡◌, ◌++◌, map}
use Rattle.qu_replay.specs.declared.kept_step.KeptStep.{KeptStep}
use Rattle.qu_gather.proofs.held.put_steps.Given as goal

abbrev pub invariant-loop-step : goal.invariant-loop-step
invariant-loop-step l = l.steps ≡ l.fn.steps ++ map (λ (step : KeptStep). (l.me, step)) l.yielded
