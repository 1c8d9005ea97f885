use Rattle.std.proofs.Common.{◌≡◌, ◌-◌, None}
use Rattle.qu_base.specs.Format.{items_at, put_before}
use Rattle.qu_objects.specs.States.{link_form, after_link}
use Rattle.qu_objects.proofs.reading_state.next_links.Given as goal

abbrev pub invariant-loop-at : goal.invariant-loop-at
invariant-loop-at l =
    items_at link_form after_link None l.count l.fn.text ≡
    put_before l.links (items_at link_form after_link l.before (l.count - l.at) l.text)
