-- What the clauses on a run rest on, where the run meets the premises.
use Rattle.std.proofs.Common.{◌<◌, ◌^◌, length}
use Rattle.qu_trace.specs.declared.trace.Trace.{Trace}
use Rattle.qu_world.specs.Run.{IsRun}
use Rattle.qu_chain.specs.Laws.{Laws}
use Rattle.qu_chain.specs.Joint.{Joint}
use Rattle.qu_claims.specs.RunSetting.{setting}
use Rattle.qu_claims.specs.Premises.{MeetsPremises}
use Rattle.qu_claims.specs.Updates.{NumbersRise}
use Rattle.qu_runs.specs.Plain.{HaveParts, ArePlain}
use Rattle.qu_runs.proofs.Digests.Plain.{plain_from}
use Rattle.qu_claims.specs.Truth.{LinksAreTrue}
use Rattle.qu_laws.proofs.JointLaws.{laws, joint_laws, links_true}
use Rattle.qu_values.proofs.Requests.ClientFacts.{ClientFacts}
use Rattle.qu_runs.proofs.Acts.OneAct.{ActsAreOne, acts_are_one}
use Rattle.qu_values.proofs.Updating.UpdateFacts.{UpdateFacts, NoneIsRepeated}
use Rattle.qu_values.proofs.Updating.UpdatesOfRuns.{update_facts, numbers_rise, none_is_repeated}
use Rattle.qu_safety.proofs.KnownRuns.{client_facts}

pub record Grounded (trace : Trace) : Type 0 where
  pub plain : ArePlain trace
  pub clients : ClientFacts trace
  pub one_act : ActsAreOne trace
  pub laws : Laws (setting trace)
  pub joint : Joint (setting trace)
  pub links : LinksAreTrue trace
  pub facts : UpdateFacts trace
  pub numbers : NumbersRise trace
  pub once : NoneIsRepeated trace

pub grounded : (trace : Trace) → IsRun trace → HaveParts trace.entries → length trace.entries < 2 ^ 63
    → MeetsPremises trace → Grounded trace
grounded trace is_run parts few premises =
    let plain : ArePlain trace = plain_from trace parts few premises.unforged in
    let one_act : ActsAreOne trace = acts_are_one trace is_run plain premises.no_collision in
    let law : Laws (setting trace) = laws trace is_run plain premises.no_collision in
    let joint : Joint (setting trace) = joint_laws trace is_run plain premises.no_collision in
    record {
      plain = plain;
      clients = client_facts trace is_run plain;
      one_act = one_act;
      laws = law;
      joint = joint;
      links = links_true trace is_run plain premises.no_collision;
      facts = update_facts trace is_run plain one_act law joint;
      numbers = numbers_rise trace is_run plain one_act law joint;
      once = none_is_repeated trace is_run plain one_act law joint;
    }
