use Rattle.std.proofs.Common.{◌≡◌, ◌-◌, None}
use Rattle.qu_base.specs.Format.{items_at, put_before}
use Rattle.qu_objects.specs.States.{row_form, after_row}
use Rattle.qu_objects.proofs.reading_state.next_rows.Given as goal

abbrev pub invariant-loop-at : goal.invariant-loop-at
invariant-loop-at l =
    items_at row_form after_row None l.count l.fn.text ≡
    put_before l.rows (items_at row_form after_row l.before (l.count - l.at) l.text)
