-- the letters of the new event begin behind those of the others
use Rattle.std.proofs.Common.{ℕ, ◌+◌, ◌-◌, ◌^◌, min, ap, refl, ◌∙◌}
use Rattle.qu_trace.proofs.StartLaws.{are_more}
use Rattle.qu_listing.proofs.so_far.SoFar.note_letters.Goals as goal

pub returns-clause-starts : goal.returns-clause-starts
returns-clause-starts c =
    are_more c.args.earlier.now _ c.args.entry.now c.args.self.now.starts _ c.requires refl
    c.in_ok-push.ensures.items
    (c.saturating_add-starts.ensures
    ∙ ap (λ (count : ℕ). min (c.args.self.now.starts.next + count) (2 ^ 64 - 1)) c.len.ensures)
