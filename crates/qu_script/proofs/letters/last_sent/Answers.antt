-- One event more.
use Rattle.std.proofs.Common.{◌∙◌, ◌+◌, drop, Option, sym, ap, arith}
use Rattle.std.specs.Option.{option_copied}
use Rattle.qu_frames.specs.declared.frame.Letter.{Letter}
use Rattle.qu_script.specs.Letters.{last_of}
use Rattle.qu_script.proofs.LetterFacts.{sent_or, sent_more, copied_or}
use Rattle.qu_script.proofs.letters.last_sent.Goals as goal

pub loop-entry-preserved : goal.loop-entry-preserved
loop-entry-preserved c =
    ap (λ (found : Option Letter).
    sent_or c.args.from c.args.to found (drop (c.loop-entry.entry-index + 1) c.args.entries.now))
    (ap option_copied c.or-found.ensures ∙ copied_or c.last_of.result c.loop-entry.found)
    ∙ sent_more c.args.from c.args.to (option_copied c.loop-entry.found) c.args.entries.now c.loop-entry.entry-index
    c.entry-item.result (option_copied c.last_of.result) (omega arith) c.entry-item.is
    (sym (c.last_of.ensures ∙ ap (last_of c.args.from c.args.to) c.as_slice.ensures))
    ∙ c.loop-entry.invariant
