use Rattle.std.proofs.Common.{◌≡◌, drop}
use Rattle.std.specs.List.{list_all}
use Rattle.qu_testing.proofs.all_hold.Given as goal

-- all facts hold where those that are left do
abbrev pub invariant-loop-fact : goal.invariant-loop-fact
invariant-loop-fact l = list_all (λ fact. fact.0) l.facts ≡ list_all (λ fact. fact.0) (drop l.fact-index l.facts)
