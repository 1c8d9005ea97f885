use Rattle.std.proofs.Common.{◌≡◌, ℕ, false, Option, ◌∙◌, ap, sym, subst}
use Rattle.std.specs.Prelude.{unwrap_or}
use Rattle.qu_stamp.specs.declared.candidate.Candidate.{Candidate}
use Rattle.qu_stamp.specs.Candidate.{opening}
use Rattle.qu_history.specs.Sets.{entries_of, object_candidate}
use Rattle.qu_class.specs.Repairable.{greatest_of_kind, object_base}
use Rattle.qu_class.specs.Rows.{AreWellFormed, IsGreatestOfKind}
use Rattle.qu_class.proofs.OfKind.{plain_is_object_candidate, base_is_greatest}
use Rattle.qu_class.proofs.repairable.object_base.Goals as goal

pub returns-clause-value : goal.returns-clause-value
unfolding object_base
returns-clause-value c =
    let entries = entries_of c.args.object c.args.sets.now in
    let found : c.greatest_of_kind.result ≡ object_candidate c.args.bounds.now entries =
    c.greatest_of_kind.ensures.value
    ∙ ap (λ (least : ℕ). greatest_of_kind false least entries) c.r.ensures.value
    ∙ plain_is_object_candidate c.args.bounds.now entries in
    c.unwrap_or.ensures
    ∙ ap (unwrap_or c.greatest_of_kind.result) c.opening.ensures
    ∙ ap (λ (it : Option Candidate). unwrap_or it opening) found

pub returns-clause-formed : goal.returns-clause-formed
returns-clause-formed c = record {
  thresholds = c.r.ensures.thresholds;
  histories =
      c.greatest_of_kind.ensures.histories;
}

pub returns-clause-greatest : goal.returns-clause-greatest
returns-clause-greatest c enough =
    let entries = entries_of c.args.object c.args.sets.now in
    let formed : AreWellFormed c.args.bounds.now entries = returns-clause-formed c in
    subst (IsGreatestOfKind c.args.bounds.now entries false) (sym (returns-clause-value c))
    (base_is_greatest c.args.bounds.now entries formed enough)
