-- The first events do not deliver the letter.
use Rattle.std.proofs.Common.{◌∙◌, List, ap}
use Rattle.std.proofs.lemmas.List.{take_rest}
use Rattle.qu_trace.specs.declared.trace.Entry.{Entry}
use Rattle.qu_script.specs.Waiting.{is_delivered}
use Rattle.qu_script.proofs.WaitingFacts.{delivered_behind}
use Rattle.qu_script.proofs.waiting.was_delivered_behind.Goals as goal

pub returns : goal.returns
returns c =
    c.was_delivered.ensures
    ∙ ap (λ (entries : List Entry). is_delivered entries c.args.letter) (take_rest c.args.entries.now c.args.event)
    ∙ delivered_behind c.args.entries.now c.args.event c.args.letter c.requires.not_before
