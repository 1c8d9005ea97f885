use Rattle.std.proofs.Common.{◌≡◌, ◌-◌}
use Rattle.qu_base.specs.Format.{items_at, put_before}
use Rattle.qu_objects.specs.Formats.{item_form}
use Rattle.qu_objects.proofs.reading_answer.read_items.Given as goal

abbrev pub invariant-loop-at : goal.invariant-loop-at
invariant-loop-at l =
    items_at {K = Unit {0}} (λ before. item_form) (λ item. tt) tt l.count l.fn.text ≡
    put_before l.items (items_at {K = Unit {0}} (λ before. item_form) (λ item. tt) tt (l.count - l.at) l.text)
