-- One line after another.
use Rattle.std.proofs.Common.{rules, ◌∙◌, sym, arith}
use Rattle.std.proofs.lemmas.Bool.{eqb-true}
use Rattle.qu_notation.specs.Text.{lines_of}
use Rattle.qu_language.proofs.CallFacts.{callable}
use Rattle.qu_language.proofs.ScriptFacts.{lines_more, lines_fail, lines_end}
use Rattle.qu_language.proofs.read.read_lines.Goals as goal

pub returns-in_err-phase-clause-value : goal.returns-in_err-phase-clause-value
returns-in_err-phase-clause-value c =
    let told = lines_fail c.args.live c.lines.phase c.in_err-phase.field-0.0 c.lines.number c.cut_line.result.0.now
    (lines_of c.lines.rest.now) (lines_of c.cut_line.result.1.now) c.cut_line.ensures.first
    c.in_err-phase.ensures.value in
    rw (sym c.lines.invariant.read) (search (rules, told))

pub lines-preserved : goal.lines-preserved
lines-preserved c = record {
  few = omega (arith, c.cut_line.ensures.shorter, c.lines.invariant.few);
  good = c.in_ok-phase.ensures.good;
  read = lines_more c.args.live c.lines.phase c.in_ok-phase.phase c.lines.number c.cut_line.result.0.now
      (lines_of c.lines.rest.now) (lines_of c.cut_line.result.1.now) c.cut_line.ensures.first
      c.in_ok-phase.ensures.value
      ∙ c.lines.invariant.read;
}

pub returns-clause-value : goal.returns-clause-value
returns-clause-value c =
    let empty = eqb-true _ _ (sym c.is_empty.ensures ∙ c.lines-test.false) in
    rw (sym c.lines.invariant.read ∙ lines_end c.args.live c.lines.phase c.lines.number c.lines.rest.now empty)
    c.finish.ensures.value

pub returns-clause-callable : goal.returns-clause-callable
returns-clause-callable c =
    callable c.args.live (lines_of c.args.text.now) c.finish.result (returns-clause-value c)
