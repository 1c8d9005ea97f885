-- The sets were read once for each object.
use Rattle.std.proofs.Common.{List, ap, subst, sym, ◌∙◌}
use Rattle.std.specs.Prelude.{IsTrue}
use Rattle.qu_base.specs.declared.party.ObjectId.{ObjectId}
use Rattle.qu_objects.specs.declared.act.Method.{Method}
use Rattle.qu_objects.specs.Parts.{are_parts}
use Rattle.qu_rows.specs.Rows.{AreOperated, seen_each, objects_of}
use Rattle.qu_rows.proofs.Shown.{are_operated}
use Rattle.qu_rows.proofs.tables.decide_act.Goals as goal

pub decide_act_on-requires-clause-seen : goal.decide_act_on-requires-clause-seen
decide_act_on-requires-clause-seen c =
    c.as_slice-2.ensures ∙ c.in_ok-seen.ensures.value
    ∙ ap (λ (parts : List (ObjectId × Method)). seen_each c.args.rows.now c.args.asked.now (objects_of parts))
    (c.as_slice.ensures ∙ c.parts.ensures.parts)

pub decide_act_on-requires-clause-objects : goal.decide_act_on-requires-clause-objects
decide_act_on-requires-clause-objects c =
    subst AreOperated (sym (decide_act_on-requires-clause-seen c))
    (are_operated c.args.rows.now c.args.asked.now c.args.act.now
    (subst (λ (parts : List (ObjectId × Method)). IsTrue (are_parts parts)) c.parts.ensures.parts
    c.parts.ensures.in_order))
