-- The next step takes what was sent, or is the first that does not; in the end each does.
use Rattle.std.proofs.Common.{[], List, take, refl, subst}
use Rattle.std.proofs.lemmas.Bool.Decides.{when_true, when_false}
use Rattle.std.proofs.lemmas.List.{take_all}
use Rattle.std.proofs.lemmas.Option.{slice_get_read}
use Rattle.qu_base.specs.declared.party.Party.{Party}
use Rattle.qu_replay.specs.declared.kept_step.KeptStep.{KeptStep}
use Rattle.qu_replay.specs.Entries.{WasSentBefore, WereSentBefore}
use Rattle.qu_replay.proofs.Sending.{sent_more}
use Rattle.qu_replay.proofs.entries.first_unsent.Goals as goal

pub loop-at-init : goal.loop-at-init
unfolding WereSentBefore
loop-at-init c = tt

pub returns-then-not-was_sent : goal.returns-then-not-was_sent
returns-then-not-was_sent c =
    let x : Party × KeptStep = c.index-steps-at.result in
    let sent : Type 0 = WasSentBefore (take c.loop-at.at c.args.steps.now) x.0 x.1.input in
    record {
      step = x;
      found = slice_get_read c.args.steps.now _ c.loop-at.at x refl c.loop-at-test.true c.index-steps-at.is;
      unsent = when_false sent (¬ sent) c.if-not-was_sent.true c.was_sent.ensures;
      sent = c.loop-at.invariant;
    }

pub loop-at-preserved : goal.loop-at-preserved
loop-at-preserved c =
    let all : List (Party × KeptStep) = c.args.steps.now in
    let x : Party × KeptStep = c.index-steps-at.result in
    let sent : Type 0 = WasSentBefore (take c.loop-at.at all) x.0 x.1.input in
    sent_more all c.loop-at.at x c.loop-at-test.true c.index-steps-at.is c.loop-at.invariant
    (when_true sent (¬ sent) c.if-not-was_sent.false c.was_sent.ensures)

pub returns : goal.returns
returns c = subst (WereSentBefore []) (take_all c.loop-at.at c.args.steps.now c.loop-at-test.false) c.loop-at.invariant
