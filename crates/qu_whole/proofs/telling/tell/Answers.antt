-- The first step that takes what was not sent, with the one that it names.
use Rattle.std.proofs.Common.{[], List, map, subst, sym, ◌∙◌, inr}
use Rattle.qu_base.specs.declared.party.Party.{Party}
use Rattle.qu_replay.specs.declared.kept_step.KeptStep.{KeptStep}
use Rattle.qu_replay.specs.Entries.{IsFirstUnsent, IsEntriesFail, WereSentBefore}
use Rattle.qu_journal.specs.Journal.{as_filed}
use Rattle.qu_gather.proofs.Telling.{pair_takes}
use Rattle.qu_whole.proofs.telling.tell.Goals as goal

pub returns-in-Err-Unsent-clause-untold : goal.returns-in-Err-Unsent-clause-untold
returns-in-Err-Unsent-clause-untold c =
    let first : IsFirstUnsent c.as_slice-3.result.now c.in-Err-Unsent.at =
    subst (IsEntriesFail c.as_slice-3.result.now) c.in-Err-Unsent.field-0-is c.in-Err-Unsent.ensures.err in
    inr (
      sym c.as_slice.ensures ∙ c.in_default.ensures ∙ c.as_slice-2.ensures,
      pair_takes c.args.kept c.in-Err-Unsent.at (map as_filed c.args.filed) c.unsent_pair-kept.result
          (subst (λ (it : List (Party × KeptStep)). IsFirstUnsent it c.in-Err-Unsent.at) c.as_slice-3.ensures first)
          c.unsent_pair-kept.ensures,
    )

pub returns-in-Err-NoMemory-clause-untold : goal.returns-in-Err-NoMemory-clause-untold
returns-in-Err-NoMemory-clause-untold c =
    let sent : WereSentBefore [] c.as_slice-3.result.now =
    subst (IsEntriesFail c.as_slice-3.result.now) c.in-Err-NoMemory.field-0-is c.in-Err-NoMemory.ensures.err in (
      sym c.as_slice.ensures ∙ c.in_default.ensures ∙ c.as_slice-2.ensures,
      subst (WereSentBefore []) c.as_slice-3.ensures sent,
    )
