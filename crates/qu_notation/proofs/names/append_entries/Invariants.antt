-- what is written so far, put before what the rest gives, is the whole
use Rattle.std.proofs.Common.{◌≡◌, ◌++◌, drop}
use Rattle.std.specs.Prelude.{string_bytes, codes}
use Rattle.std.specs.List.{flat_map}
use Rattle.qu_notation.specs.Names.{entry_text}
use Rattle.qu_notation.proofs.names.append_entries.Given as goal

abbrev pub invariant-loop-entry : goal.invariant-loop-entry
invariant-loop-entry l =
    string_bytes l.text ++ flat_map (λ entry. codes "," ++ entry_text entry) (drop l.entry-index l.rest)
    ≡ string_bytes l.initial.text ++ flat_map (λ entry. codes "," ++ entry_text entry) l.rest
