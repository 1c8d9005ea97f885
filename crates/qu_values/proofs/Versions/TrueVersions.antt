-- What correct replicas store in a run is true.
use Rattle.qu_chain.specs.Laws.{Laws}
use Rattle.qu_chain.specs.Joint.{Joint}
use Rattle.qu_trace.specs.declared.trace.Trace.{Trace}
use Rattle.qu_world.specs.Run.{IsRun}
use Rattle.qu_claims.specs.RunSetting.{setting}
use Rattle.qu_claims.specs.Truth.{IsVersionOf, LinksAreTrue, VersionsAreTrue}
use Rattle.qu_claims.specs.Updates.{IsEverAccepted}
use Rattle.qu_runs.specs.Plain.{ArePlain}
use Rattle.qu_values.proofs.Updating.UpdateFacts.{UpdateFacts}
use Rattle.qu_values.proofs.Versions.EverAccepted.{once_accepted}
use Rattle.qu_values.proofs.Versions.StoredValues.{found_of_stamp}

pub true_versions : (trace : Trace) → IsRun trace → ArePlain trace → Laws (setting trace) → Joint (setting trace)
    → UpdateFacts trace → LinksAreTrue trace → VersionsAreTrue trace
true_versions trace is_run have laws joint facts links time within place state is_state object stamp version found =
    let it : IsVersionOf trace time object stamp version =
    found_of_stamp trace laws joint is_run have time within place state is_state object stamp version found in
    let ever : IsEverAccepted trace object it.candidate =
    once_accepted trace laws time within object it.candidate it.accepted in
    record {
      of_stamp = it;
      rows = λ client row keeps. facts.written object it.candidate version it.has ever client row keeps;
      links = links time within place state is_state object stamp version found it.candidate ever it.under;
    }
