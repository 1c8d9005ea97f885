-- the call at the place that is left, among the calls that are left, is the one at the place among all
use Rattle.std.proofs.Common.{◌≡◌, drop}
use Rattle.std.specs.Prelude.{slice_get}
use Rattle.qu_lock.specs.Calls.{calls_by}
use Rattle.qu_lock.proofs.kept.client.call_at.Given as goal

abbrev pub invariant-loop-client : goal.invariant-loop-client
invariant-loop-client l =
    slice_get (calls_by l.me (drop l.client-index l.calls)) l.left ≡ slice_get (calls_by l.me l.calls) l.place
