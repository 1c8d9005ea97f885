-- Steps that take what was sent are told by their entries.
use Rattle.std.proofs.Common.{◌≡◌, [], List, sym, subst}
use Rattle.qu_base.specs.declared.party.Party.{Party}
use Rattle.qu_trace.specs.declared.trace.Entry.{Entry}
use Rattle.qu_replay.specs.declared.kept_step.KeptStep.{KeptStep}
use Rattle.qu_replay.specs.Told.{AreTold}
use Rattle.qu_replay.specs.Merged.{merged_entries}
use Rattle.qu_replay.specs.Entries.{WereSentBefore}
use Rattle.qu_replay.proofs.Sending.{sent_told}
use Rattle.qu_replay.proofs.entries.entries_of.Goals as goal

all_told : (all : List (Party × KeptStep)) (entries : List Entry) → entries ≡ merged_entries all
    → WereSentBefore [] all → AreTold [] all entries
all_told all entries is sent = subst (AreTold [] all) (sym is) (sent_told all sent)

pub returns-clause-told : goal.returns-clause-told
returns-clause-told c = all_told c.args.steps.now _ c.in_ok-merged_entries.ensures c.in_default.ensures
