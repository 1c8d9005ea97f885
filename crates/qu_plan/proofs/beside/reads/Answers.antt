-- A test of the histories that are found is one of those of the sets.
use Rattle.std.proofs.Common.{List, Bool, ap, ◌∙◌}
use Rattle.std.specs.List.{list_any}
use Rattle.qu_history.specs.History.{ObjectHistory}
use Rattle.qu_class.proofs.Tested.{any_history}
use Rattle.qu_plan.specs.Beside.{is_beside, reads}
use Rattle.qu_plan.proofs.beside.reads.Goals as goal

pub returns : goal.returns
unfolding reads
returns c =
    let test : ObjectHistory → Bool =
    λ entry. list_any (is_beside c.args.bounds.now c.args.sets.now c.args.over c.args.object) entry.candidates in
    c.reads_any.ensures
    ∙ any_history test c.find.result.now
    ∙ ap (λ (entries : List ObjectHistory). list_any test entries) c.find.ensures.value
