-- Each update of a run is decided once.
use Rattle.qu_chain.specs.Joint.{Joint}
use Rattle.qu_chain.specs.Laws.{Laws}
use Rattle.qu_chain.proofs.Updates.{decided_once, one_update}
use Rattle.qu_trace.specs.declared.trace.Trace.{Trace}
use Rattle.qu_claims.specs.RunSetting.{setting}
use Rattle.qu_claims.specs.Updates.{DecidesOnce, IsOf, Update}
use Rattle.qu_runs.proofs.Acts.OneAct.{ActsAreOne}
use Rattle.qu_values.proofs.Updating.UpdateFacts.{UpdateFacts, NoneIsRepeated}
use Rattle.qu_values.proofs.Updating.Updates.{one_of, acts}

pub decides_once : (trace : Trace) → Laws (setting trace) → Joint (setting trace) → ActsAreOne trace
    → UpdateFacts trace → NoneIsRepeated trace → DecidesOnce trace
decides_once trace laws joint one_act facts none_repeated = record {
  once = decided_once (setting trace) laws joint Update (IsOf trace) (one_of trace one_act) facts.shared facts.spread
      none_repeated (acts trace);
  one_update = one_update (setting trace) laws joint Update (IsOf trace) (one_of trace one_act) facts.shared
      facts.spread none_repeated (acts trace);
}
