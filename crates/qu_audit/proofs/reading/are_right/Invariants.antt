use Rattle.std.proofs.Common.{◌≡◌, drop, map}
use Rattle.std.specs.List.{list_all, flat_map}
use Rattle.qu_history.specs.declared.sets.SetOf.{SetOf}
use Rattle.qu_history.specs.Culling.{is_right}
use Rattle.qu_claims.specs.Digested.{history_text}
use Rattle.qu_audit.proofs.reading.are_right.Given as goal

-- the sets so far are right, and the texts that are left are those of the other sets
abbrev pub invariant-loop-set : goal.invariant-loop-set
invariant-loop-set l =
    (list_all (λ (set : SetOf). list_all (is_right l.keys l.me) set.entries) (drop l.set-index l.sets)
    ≡ list_all (λ (set : SetOf). list_all (is_right l.keys l.me) set.entries) l.sets)
    × (l.left ≡ map history_text (flat_map (λ (set : SetOf). set.entries) (drop l.set-index l.sets)))
