use Rattle.std.proofs.Common.{◌≡◌, ◌++◌, take}
use Rattle.std.specs.Prelude.{map}
use Rattle.qu_claims.specs.Digested.{history_text}
use Rattle.qu_audit.proofs.texts.add_histories.Given as goal

-- the histories so far are added
abbrev pub invariant-loop-sealed : goal.invariant-loop-sealed
invariant-loop-sealed l = l.texts ≡ l.initial.texts ++ map history_text (take l.sealed-index l.entries)
