-- The steps of loops that keep some items of a list.
use Rattle.std.proofs.lemmas.Grind.{common_steps}
use Rattle.std.proofs.lemmas.List.Elements.{filter_map-append}

pub ruleset keeping = (common_steps, filter_map-append)
