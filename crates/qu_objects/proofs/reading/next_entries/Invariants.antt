use Rattle.std.proofs.Common.{◌≡◌, ◌-◌, None}
use Rattle.qu_base.specs.Format.{items_at, put_before}
use Rattle.qu_base.specs.Texts.{named_form, after_name}
use Rattle.kind_dir.specs.Rising.{last_name}
use Rattle.qu_objects.specs.Formats.{any_name}
use Rattle.qu_objects.proofs.reading.next_entries.Given as goal

abbrev pub invariant-loop-at : goal.invariant-loop-at
invariant-loop-at l =
    items_at (named_form any_name) after_name None l.count l.fn.text ≡
    put_before l.entries (items_at (named_form any_name) after_name (last_name l.entries) (l.count - l.at) l.text)
