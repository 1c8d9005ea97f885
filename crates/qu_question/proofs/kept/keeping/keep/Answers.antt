use Rattle.std.proofs.Common.{sym, ◌∙◌}
use Rattle.qu_question.proofs.Keeping.{keep_newer, keep_older, keep_new}
use Rattle.qu_question.proofs.kept.keeping.keep.Goals as goal

pub returns-then-not-is_older : goal.returns-then-not-is_older
returns-then-not-is_older c =
    let found = rw c.as_slice.ensures.value at c.in-Some.ensures in
    sym (keep_newer c.args.new c.args.kept.now.items c.in-Some.place c.index.result.now found c.index.ensures cc)

pub returns-else-not-is_older : goal.returns-else-not-is_older
returns-else-not-is_older c =
    let found = rw c.as_slice.ensures.value at c.in-Some.ensures in
    sym (keep_older c.args.new c.args.kept.now.items c.in-Some.place c.index.result.now found c.index.ensures cc)

pub returns-in_ok-push-in-None : goal.returns-in_ok-push-in-None
returns-in_ok-push-in-None c =
    let none = rw c.as_slice.ensures.value at c.in-None.ensures in
    c.in_ok-push-in-None.ensures.items ∙ sym (keep_new c.args.new c.args.kept.now.items none)
