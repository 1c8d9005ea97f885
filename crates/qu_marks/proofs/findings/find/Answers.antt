use Rattle.std.proofs.Common.{◌≡◌, List, length, map, sym, ap, subst, ◌∙◌, ◌≤◌, arith}
use Rattle.std.proofs.lemmas.List.{take_all}
use Rattle.qu_base.specs.Bounds.{replicas}
use Rattle.qu_trace.specs.declared.trace.Trace.{Trace}
use Rattle.qu_world.specs.State.{kinds_at}
use Rattle.qu_claims.specs.Times.{world_after}
use Rattle.qu_known.specs.Known.{ShownRow, AreKnown, opening_rows}
use Rattle.qu_known.specs.Answers.{rounds_answered}
use Rattle.qu_known.proofs.Rows.{known_opening}
use Rattle.qu_marks.specs.Tracker.{Tracks}
use Rattle.qu_marks.proofs.AnsweredMore.{answers_more}
use Rattle.qu_marks.proofs.findings.find.Goals as goal

pub begin-requires-clause-known : goal.begin-requires-clause-known
begin-requires-clause-known c =
    subst (λ (rows : List ShownRow). AreKnown (world_after c.args.trace.now 0).replicas rows) (sym
    c.in_ok-known.ensures)
    (subst (λ (run : Trace). AreKnown (world_after c.args.trace.now 0).replicas
    (opening_rows 0 (replicas run.setup.bounds) (kinds_at run.setup))) (sym c.trace-run.ensures)
    (known_opening c.args.trace.now))

pub loop-index-init : goal.loop-index-init
loop-index-init c = record {
  known = subst (λ (rows : List ShownRow). AreKnown (world_after c.args.trace.now 0).replicas rows)
      (sym c.in_ok-known.ensures)
      (subst (λ (run : Trace). AreKnown (world_after c.args.trace.now 0).replicas
      (opening_rows 0 (replicas run.setup.bounds) (kinds_at run.setup))) (sym c.trace-run.ensures)
      (known_opening c.args.trace.now));
  tracked = c.in_ok-tracker.ensures;
  answered = c.new-answers.ensures;
}

pub loop-index-preserved : goal.loop-index-preserved
loop-index-preserved c = record {
  known = c.in_ok-rounds.ensures.known;
  tracked = c.in_ok-rounds.ensures.tracked;
  answered = answers_more c.args.trace.now.entries c.loop-index.index c.in_ok-rounds.rounds c.loop-index.answers
      c.push.new.self
      (omega (
        arith,
        c.loop-index-test.true,
        c.loop-index.auto.index-end,
        c.len-index-end.ensures,
        ap (λ (trace : Trace). length trace.entries) c.trace-run.ensures,
      ))
      c.in_ok-rounds.ensures.answered c.loop-index.invariant.answered c.in_ok-push.ensures.ok;
}

-- after the last index, all events are tracked
pub returns-clause-tracked : goal.returns-clause-tracked
returns-clause-tracked c =
    let all : c.loop-index.index ≡ length c.args.trace.now.entries =
    omega (
      arith,
      c.loop-index-test.false,
      c.loop-index.auto.index-end,
      c.len-index-end.ensures,
      ap (λ (trace : Trace). length trace.entries) c.trace-run.ensures,
    ) in
    subst (λ count. Tracks c.args.trace.now count c.loop-index.tracker) all c.loop-index.invariant.tracked

pub returns-clause-answered : goal.returns-clause-answered
returns-clause-answered c =
    let all : length c.args.trace.now.entries ≤ c.loop-index.index =
    omega (
      arith,
      c.loop-index-test.false,
      c.loop-index.auto.index-end,
      c.len-index-end.ensures,
      ap (λ (trace : Trace). length trace.entries) c.trace-run.ensures,
    ) in
    c.loop-index.invariant.answered
    ∙ ap (map rounds_answered) (take_all c.loop-index.index c.args.trace.now.entries all)
