-- what is written so far, put before what the rest gives, is the whole
use Rattle.std.proofs.Common.{◌≡◌, ◌++◌, drop}
use Rattle.std.specs.Prelude.{string_bytes}
use Rattle.std.specs.List.{flat_map}
use Rattle.qu_listed.specs.Frames.{shower_text}
use Rattle.qu_listing.proofs.frames.put_showers.Given as goal

abbrev pub invariant-loop-entry : goal.invariant-loop-entry
invariant-loop-entry l =
    string_bytes l.text ++ flat_map shower_text (drop l.entry-index l.entries)
    ≡ string_bytes l.initial.text ++ flat_map shower_text l.entries
