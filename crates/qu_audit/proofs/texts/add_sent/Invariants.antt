use Rattle.std.proofs.Common.{◌≡◌, ◌++◌, take}
use Rattle.std.specs.List.{flat_map}
use Rattle.qu_claims.specs.Digested.{sent_texts}
use Rattle.qu_audit.proofs.texts.add_sent.Given as goal

-- what is digested of the letters so far is added
abbrev pub invariant-loop-place : goal.invariant-loop-place
invariant-loop-place l = l.texts ≡ l.initial.texts ++ flat_map sent_texts (take l.place l.letters)
