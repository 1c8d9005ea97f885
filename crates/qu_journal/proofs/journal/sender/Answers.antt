-- The named step, as it was filed.
use Rattle.std.proofs.Common.{map, Some, sym, ap, ◌∙◌}
use Rattle.std.specs.Prelude.{option_map}
use Rattle.qu_frames.specs.declared.input.Input.{Input}
use Rattle.qu_post.specs.declared.filed.Filed.{Filed}
use Rattle.qu_journal.specs.Journal.{as_filed, sender_of}
use Rattle.qu_journal.proofs.Senders.{sent_by}
use Rattle.qu_journal.proofs.journal.sender.Goals as goal

pub returns-in-Some : goal.returns-in-Some
returns-in-Some c =
    ap (λ (it : Filed). Some it) c.as_filed.ensures ∙ sym (ap (option_map as_filed) c.in-Some.is)
    ∙ sent_by c.in-Frame.name c.in-Frame.field-1 c.args.filed c.taken_named.result c.taken_named.ensures
    ∙ sym (ap (λ (it : Input). sender_of it (map as_filed c.args.filed)) c.in-Frame.is)

pub returns-in-None : goal.returns-in-None
returns-in-None c =
    sym (ap (option_map as_filed) c.in-None.is)
    ∙ sent_by c.in-Frame.name c.in-Frame.field-1 c.args.filed c.taken_named.result c.taken_named.ensures
    ∙ sym (ap (λ (it : Input). sender_of it (map as_filed c.args.filed)) c.in-Frame.is)
