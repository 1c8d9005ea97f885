use Rattle.std.proofs.Common.{◌≡◌, ◌++◌, take}
use Rattle.std.specs.Prelude.{map}
use Rattle.std.specs.List.{flat_map}
use Rattle.qu_history.specs.declared.sets.SetOf.{SetOf}
use Rattle.qu_claims.specs.Digested.{history_text}
use Rattle.qu_audit.proofs.texts.add_sets.Given as goal

-- the histories of the sets so far are added
abbrev pub invariant-loop-set : goal.invariant-loop-set
invariant-loop-set l =
    l.texts ≡ l.initial.texts ++ map history_text (flat_map (λ (set : SetOf). set.entries)
    (take l.set-index l.set-items))
