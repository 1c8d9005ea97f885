use Rattle.std.proofs.Common.{eqb, Bool, ap, ◌∙◌}
use Rattle.std.specs.List.{list_any}
use Rattle.qu_history.specs.History.{ObjectHistory}
use Rattle.qu_class.proofs.Tested.{any_history}
use Rattle.qu_question.proofs.kept.marking.are_showing.Goals as goal

pub returns : goal.returns
returns c =
    let test : ObjectHistory → Bool = λ entry. eqb (entry.replica).0 (c.args.replica).0 in
    c.is_any_of.ensures ∙ any_history test c.find.result.now ∙ ap (list_any test) c.find.ensures.value
