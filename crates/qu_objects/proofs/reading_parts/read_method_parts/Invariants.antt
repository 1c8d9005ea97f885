use Rattle.std.proofs.Common.{◌≡◌, ◌-◌, None, Some}
use Rattle.qu_base.specs.Format.{items_at, put_before}
use Rattle.qu_objects.specs.Formats.{method_form, part_form, is_one_of}
use Rattle.qu_objects.proofs.reading_parts.read_method_parts.Given as goal

abbrev pub invariant-loop-at : goal.invariant-loop-at
invariant-loop-at l =
    items_at (part_form method_form (is_one_of l.known)) (λ part. Some part.0) None l.count l.fn.text ≡
    put_before l.parts (items_at (part_form method_form (is_one_of l.known)) (λ part. Some part.0) l.before
    (l.count - l.at) l.text)
