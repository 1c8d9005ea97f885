-- The letters of the new entry begin behind those of the others.
use Rattle.std.proofs.Common.{ℕ, ◌+◌, ◌-◌, ◌^◌, min, List, [], ◌∷◌, ◌++◌, ap, ◌∙◌}
use Rattle.qu_trace.specs.declared.trace.Entry.{Entry}
use Rattle.qu_trace.proofs.StartLaws.{are_more}
use Rattle.qu_world.proofs.recording.push_event.Goals as goal

pub returns-clause-starts : goal.returns-clause-starts
returns-clause-starts c =
    let entry : Entry = record {
      event = c.args.event;
      letters = c.in_ok-made.made.letters;
      ended = c.in_ok-made.made.ended;
    } in
    are_more c.args.entries.now.items _ entry c.args.starts.now _ c.requires.starts
    (c.push_reserved-2.ensures.items
    ∙ ap (λ (items : List Entry). items ++ entry ∷ []) c.in_ok-reserve.ensures.items)
    (c.push_reserved.ensures.items
    ∙ ap (λ (items : List ℕ). items ++ c.args.starts.now.next ∷ []) c.in_ok-reserve-2.ensures.items)
    (c.saturating_add-starts.ensures
    ∙ ap (λ (count : ℕ). min (c.args.starts.now.next + count) (2 ^ 64 - 1)) c.len.ensures)
