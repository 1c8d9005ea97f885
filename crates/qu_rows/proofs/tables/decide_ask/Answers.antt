-- The sets were read once for each object.
use Rattle.std.proofs.Common.{List, ap, ◌∙◌}
use Rattle.qu_base.specs.declared.party.ObjectId.{ObjectId}
use Rattle.qu_objects.specs.declared.query.Ask.{Ask}
use Rattle.qu_rows.specs.Rows.{seen_each, objects_of}
use Rattle.qu_rows.proofs.tables.decide_ask.Goals as goal

pub decide_ask_on-requires-clause-seen : goal.decide_ask_on-requires-clause-seen
decide_ask_on-requires-clause-seen c =
    c.as_slice-2.ensures ∙ c.in_ok-seen.ensures.value
    ∙ ap (λ (parts : List (ObjectId × Ask)). seen_each c.args.rows.now c.args.asked.now (objects_of parts))
    (c.as_slice.ensures ∙ c.parts.ensures.parts)
