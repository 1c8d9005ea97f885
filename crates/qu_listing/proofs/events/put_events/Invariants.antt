-- what is written so far, put before what the rest gives, is the whole; and the entries so far are known
use Rattle.std.proofs.Common.{◌≡◌, ◌++◌, drop, take}
use Rattle.std.specs.Prelude.{string_bytes}
use Rattle.std.specs.List.{flat_map, enumerate_from}
use Rattle.qu_print.specs.Lines.{lines_text}
use Rattle.qu_listed.specs.Events.{listing, entry_lines}
use Rattle.qu_listing.specs.SoFar.{IsSoFar}
use Rattle.qu_listing.proofs.events.put_events.Given as goal

abbrev pub invariant-loop-index : goal.invariant-loop-index
invariant-loop-index l = record {
  text : string_bytes l.text
      ++ lines_text (flat_map (λ place. entry_lines l.receivers l.order (take place.0 l.entries) place.1)
      (enumerate_from l.index (drop l.index l.entries)))
      ≡ string_bytes l.initial.text ++ lines_text (listing l.receivers l.order l.entries);
  known : IsSoFar l.receivers (take l.index l.entries) l.known;
}
