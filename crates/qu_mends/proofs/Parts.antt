-- The steps of loops over what is mended.
use Rattle.std.proofs.lemmas.Grind.{common_steps}
use Rattle.std.proofs.lemmas.List.Elements.{filter_map-append}

pub ruleset keeping_parts = (common_steps, filter_map-append)
