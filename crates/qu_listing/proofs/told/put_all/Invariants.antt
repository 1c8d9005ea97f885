-- what is written so far, put before what the rest gives, is the whole
use Rattle.std.proofs.Common.{◌≡◌, ◌++◌, drop}
use Rattle.std.specs.Prelude.{string_bytes}
use Rattle.std.specs.List.{flat_map}
use Rattle.qu_listing.proofs.told.put_all.Given as goal

abbrev pub invariant-loop-item : goal.invariant-loop-item
invariant-loop-item g l =
    string_bytes l.text ++ flat_map g.T.LinePart.text_of (drop l.item-index l.items)
    ≡ string_bytes l.initial.text ++ flat_map g.T.LinePart.text_of l.items
