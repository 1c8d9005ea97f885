use Rattle.std.proofs.Common.{List, IsTrue, ap, subst, sym, ◌∙◌, filter}
use Rattle.std.specs.List.{All}
use Rattle.std.proofs.lemmas.List.{take_all}
use Rattle.std.proofs.lemmas.List.Elements.{All-more}
use Rattle.qu_history.specs.History.{ObjectHistory, is_history}
use Rattle.qu_history.specs.Sets.{histories, entries_of, candidates_of, greatest}
use Rattle.qu_history.proofs.Histories.{histories_within, histories_whole, history_at}
use Rattle.qu_history.proofs.Shown.{shown_next}
use Rattle.qu_plan.specs.Chosen.{may_be_chosen, greatest_chosen}
use Rattle.qu_plan.specs.Linking.{linking}
use Rattle.qu_plan.proofs.choosing.greatest_chosen.Goals as goal

pub loop-entry-preserved : goal.loop-entry-preserved
loop-entry-preserved c = record {
  value =
      shown_next (may_be_chosen c.args.known.now.bounds c.args.known.now.sets (linking c.args.known.now.facts)
      c.args.object)
      c.find-entries.result.now
      c.loop-entry.entry-index
      c.entry-item.result c.loop-entry.greatest c.last_chosen-last.result c.greater_found-greatest.result
      c.loop-entry-test.true c.entry-item.is c.loop-entry.invariant.value c.last_chosen-last.ensures.value
      c.greater_found-greatest.ensures;
  histories =
      All-more (λ (entry : ObjectHistory). IsTrue (is_history entry.candidates))
      (histories c.find-entries.result.now) c.loop-entry.entry-index c.entry-item.result.history
      (histories_within c.find-entries.result.now _ c.loop-entry-test.true) c.loop-entry.invariant.histories
      (ap (λ (entry : ObjectHistory). is_history entry.candidates)
      (sym (history_at c.find-entries.result.now _ c.entry-item.result c.loop-entry-test.true c.entry-item.is))
      ∙ c.last_chosen-last.ensures.rising);
}

pub returns-clause-value : goal.returns-clause-value
unfolding greatest_chosen
returns-clause-value c =
    let test = may_be_chosen c.args.known.now.bounds c.args.known.now.sets (linking c.args.known.now.facts)
    c.args.object in
    let all : List ObjectHistory = histories c.find-entries.result.now in
    c.loop-entry.invariant.value
    ∙ ap (λ (entries : List ObjectHistory). greatest (filter test (candidates_of entries)))
    (take_all c.loop-entry.entry-index all (histories_whole c.find-entries.result.now _ c.loop-entry-test.false)
    ∙ c.find-entries.ensures.value ∙ ap (entries_of c.args.object) c.sets.ensures)

pub returns-clause-histories : goal.returns-clause-histories
returns-clause-histories c =
    let all : List ObjectHistory = histories c.find-entries.result.now in
    subst (λ (entries : List ObjectHistory). All (λ (entry : ObjectHistory). IsTrue (is_history entry.candidates))
    entries)
    (take_all c.loop-entry.entry-index all (histories_whole c.find-entries.result.now _ c.loop-entry-test.false)
    ∙ c.find-entries.ensures.value ∙ ap (entries_of c.args.object) c.sets.ensures)
    c.loop-entry.invariant.histories
