-- The text tells of a run of the script's calls.
use Rattle.qu_cli.proofs.LiveFacts.{fails_well}
use Rattle.qu_cli.proofs.live.live_output.Goals as goal

pub returns-in_ok-text-in-Ok-clause-output : goal.returns-in_ok-text-in-Ok-clause-output
returns-in_ok-text-in-Ok-clause-output g c = record {
  script = c.in-Ok.script;
  spelled = c.in-Ok.ensures.value;
  ran = c.in_ok-trace-in-Ok.ensures.live;
  reports = c.in_ok-text-in-Ok.ensures;
}

pub returns-in_err-trace-in-Ok-clause-torn : goal.returns-in_err-trace-in-Ok-clause-torn
returns-in_err-trace-in-Ok-clause-torn g c =
    fails_well _ c.in-Ok.script c.from_residual.result c.in-Ok.ensures.value
