-- The far candidate is not too early.
use Rattle.std.proofs.Common.{◌∙◌, Err, ap, sym}
use Rattle.std.proofs.lemmas.Bool.{false≢true}
use Rattle.qu_stamp.specs.declared.stamp.Stamp.{Stamp}
use Rattle.qu_stamp.specs.declared.candidate.Candidate.{Candidate}
use Rattle.qu_stamp.specs.Stamp.{is_below}
use Rattle.qu_history.specs.declared.history.AddFail.TheVariants.{NotLater}
use Rattle.qu_history.specs.History.{ObjectHistory, latest}
use Rattle.qu_script.specs.Fake.{opening_of}
use Rattle.qu_script.proofs.FarFacts.{far_above}
use Rattle.qu_script.proofs.fake.far.Goals as goal

pub unreachable-requires : goal.unreachable-requires
unreachable-requires c =
    let told = c.in-Err-NotLater.is ∙ ap Err c.in-Err-NotLater.field-0-is in
    let stamp = c.add.ensures.told c.in-Err-NotLater.field-0-0 told in
    let early = c.add.ensures.not_later.0 (told ∙ ap (λ (it : Stamp). Err (NotLater it)) stamp) in
    false≢true
    (sym early
    ∙ ap (λ (it : ObjectHistory). is_below (latest it.candidates) c.far_candidate.result.stamp) c.in_ok-history.ensures
    ∙ ap (λ (it : Candidate). is_below (latest (opening_of c.args.me c.args.object).candidates) it.stamp)
    c.far_candidate.ensures
    ∙ far_above)
