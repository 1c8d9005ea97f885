-- An event that may happen makes a world of a world, and adds the bytes of its letters.
use Rattle.std.proofs.Common.{List, length, ◌<◌, ◌-◌, ◌^◌, ◌∙◌, ap, subst, arith}
use Rattle.qu_trace.specs.declared.trace.Entry.{Entry}
use Rattle.qu_world.specs.Refusals.{cause_of}
use Rattle.qu_world.specs.State.{WorldState, world_of}
use Rattle.qu_world.specs.Growth.{GrowsTo}
use Rattle.qu_world.proofs.RunLaws.{may_begin, sent_more, IsWorld-step}
use Rattle.qu_world.proofs.WorldGrowth.{step_made-grows}
use Rattle.qu_world.proofs.world.World.record.Goals as goal

pub record_event-requires : goal.record_event-requires
record_event-requires c =
    let inside = c.self.inside in
    let few : length inside.trace.entries < 2 ^ 63 =
    subst (λ (entries : List Entry). length entries < 2 ^ 63) c.as_slice.ensures c.are_few.ensures in
    record {
      begin =
          may_begin (world_of inside.trace.setup inside.replicas.items inside.clients.items inside.trace.entries)
          c.args.event c.self.invariant.0.is_world (omega (arith, few))
          (ap (λ world. cause_of world c.args.event) c.self.view_is ∙ c.requires);
      starts = c.self.invariant.1;
    }

pub invariant_of-self-2 : goal.invariant_of-self-2
invariant_of-self-2 c =
    let inside = c.self.inside in
    let made = c.record_event.new in
    let old = world_of inside.trace.setup inside.replicas.items inside.clients.items inside.trace.entries in
    let new = world_of made.trace.setup made.replicas.items made.clients.items made.trace.entries in (
      record {
        is_world =
            IsWorld-step old new c.args.event
            (ap (λ setup. world_of setup made.replicas.items made.clients.items made.trace.entries)
            c.in_ok-bytes.ensures.setup
            ∙ c.in_ok-bytes.ensures.ok)
            c.self.invariant.0.is_world
            (ap (λ world. cause_of world c.args.event) c.self.view_is ∙ c.requires);
        all =
            c.saturating_add-self-inside.ensures
            ∙ sent_more inside.sent c.in_ok-bytes.bytes _ _ (2 ^ 128 - 1) c.self.invariant.0.all
            c.in_ok-bytes.ensures.sent;
      },
      c.record_event.ensures.starts,
    )

pub returns-clause-grows : goal.returns-clause-grows
returns-clause-grows c =
    let inside = c.self.inside in
    let made = c.record_event.new in
    let old = world_of inside.trace.setup inside.replicas.items inside.clients.items inside.trace.entries in
    let new = world_of made.trace.setup made.replicas.items made.clients.items made.trace.entries in
    subst (λ (it : WorldState). GrowsTo it new) c.self.view_is
    (step_made-grows old new c.args.event
    (ap (λ setup. world_of setup made.replicas.items made.clients.items made.trace.entries)
    c.in_ok-bytes.ensures.setup
    ∙ c.in_ok-bytes.ensures.ok))
