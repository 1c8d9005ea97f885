-- What was gathered is a run on threads, or is told not to fit.
use Rattle.std.proofs.Common.{◌≡◌, [], Err, rules, refl, sym, ap, ◌∙◌}
use Rattle.qu_gather.specs.Gathered.{all_steps}
use Rattle.qu_gather.specs.Ticks.{late_letter}
use Rattle.qu_gather.proofs.Gathering.{gathered_run}
use Rattle.qu_gather.proofs.Telling.{in_order, whole, tells_untold, tells_early, tells_letter}
use Rattle.qu_live.proofs.ending.gather.Goals as goal

pub returns-clause-live : goal.returns-clause-live
returns-clause-live g c =
    gathered_run c.args.setup g.N.RunName.setup c.args.calls.now g.N.RunName.calls c.args.held.items _
    c.args.others.items _ c.in_ok-steps.steps c.in_ok-kept.kept _ c.in_ok-entries.entries c.requires.named
    c.requires.setup c.requires.callable c.requires.ended c.deref.ensures.value c.deref-2.ensures.value
    c.in_ok-are_their_own.ensures.own c.in_ok-steps.ensures.steps c.in_ok-steps.ensures.replicas
    c.in_ok-steps.ensures.clients c.in_ok-kept.ensures.own refl
    c.in_ok-entries.ensures.told
    (ap (late_letter c.args.setup []) (sym c.as_slice.ensures) ∙ c.in_ok-tick_in_time.ensures.in_time)

pub returns-clause-steps : goal.returns-clause-steps
returns-clause-steps g c =
    whole (all_steps c.args.held.items c.args.others.items) c.in_ok-kept.kept c.in_ok-kept.filed c.args.journal
    (in_order c.args.held.items c.args.others.items c.args.journal c.in_ok-steps.steps c.in_ok-kept.kept
    c.in_ok-kept.filed c.in_ok-steps.ensures.steps c.in_ok-kept.ensures.sorted c.in_ok-kept.ensures.ties
    c.in_ok-kept.ensures.filed_ties)
    c.in_ok-entries.ensures.filed c.in_ok-entries.ensures.sent

pub returns-in_err-entries-clause-steps : goal.returns-in_err-entries-clause-steps
returns-in_err-entries-clause-steps g c =
    let is : c.from_residual-in_err-entries.result ≡ Err c.in_err-entries.field-0.0 = search rules in
    tells_untold (all_steps c.args.held.items c.args.others.items) c.in_ok-kept.kept c.in_ok-kept.filed
    c.args.journal c.from_residual-in_err-entries.result c.in_err-entries.field-0.0
    (in_order c.args.held.items c.args.others.items c.args.journal c.in_ok-steps.steps c.in_ok-kept.kept
    c.in_ok-kept.filed c.in_ok-steps.ensures.steps c.in_ok-kept.ensures.sorted c.in_ok-kept.ensures.ties
    c.in_ok-kept.ensures.filed_ties)
    c.in_err-entries.ensures.untold is

pub returns-in_err-tick_in_time-clause-steps : goal.returns-in_err-tick_in_time-clause-steps
returns-in_err-tick_in_time-clause-steps g c =
    let is : c.from_residual-in_err-tick_in_time.result ≡ Err c.in_err-tick_in_time.field-0.0 = search rules in
    tells_early c.args.setup c.as_slice.result.now (all_steps c.args.held.items c.args.others.items) c.args.journal
    c.from_residual-in_err-tick_in_time.result c.in_err-tick_in_time.field-0.0
    (whole (all_steps c.args.held.items c.args.others.items) c.in_ok-kept.kept c.in_ok-kept.filed c.args.journal
    (in_order c.args.held.items c.args.others.items c.args.journal c.in_ok-steps.steps c.in_ok-kept.kept
    c.in_ok-kept.filed c.in_ok-steps.ensures.steps c.in_ok-kept.ensures.sorted c.in_ok-kept.ensures.ties
    c.in_ok-kept.ensures.filed_ties)
    c.in_ok-entries.ensures.filed c.in_ok-entries.ensures.sent)
    c.in_err-tick_in_time.ensures.early is

pub returns-in_err-tick_in_time-clause-early : goal.returns-in_err-tick_in_time-clause-early
returns-in_err-tick_in_time-clause-early g c =
    let is : c.from_residual-in_err-tick_in_time.result ≡ Err c.in_err-tick_in_time.field-0.0 = search rules in
    tells_letter c.args.setup (all_steps c.args.held.items c.args.others.items) c.in_ok-kept.kept c.in_ok-kept.filed
    c.args.journal c.as_slice.result.now c.from_residual-in_err-tick_in_time.result c.in_err-tick_in_time.field-0.0
    (in_order c.args.held.items c.args.others.items c.args.journal c.in_ok-steps.steps c.in_ok-kept.kept
    c.in_ok-kept.filed c.in_ok-steps.ensures.steps c.in_ok-kept.ensures.sorted c.in_ok-kept.ensures.ties
    c.in_ok-kept.ensures.filed_ties)
    c.in_ok-entries.ensures.sent (c.as_slice.ensures ∙ c.in_ok-entries.ensures.entries)
    c.in_err-tick_in_time.ensures.early is
