use Rattle.std.proofs.Common.{◌≡◌, drop}
use Rattle.qu_marks.specs.Tracker.{with_all}
use Rattle.qu_marks.proofs.tracker.Tracker.add_all.Given as goal

abbrev pub invariant-loop-new : goal.invariant-loop-new
invariant-loop-new l = with_all (drop l.new-index l.news) l.self ≡ with_all l.news l.initial.self
