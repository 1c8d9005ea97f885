-- What is told of kept and of filed steps, put into the order of their tickets.
use Rattle.std.proofs.Common.{◌≡◌, ℕ, List, [], ◌++◌, map, Option, Some, sym, ap, subst, ◌∙◌, inl, inr}
use Rattle.std.specs.Prelude.{slice_get, Result, Err}
use Rattle.qu_base.specs.declared.party.Party.{Party}
use Rattle.qu_rows.specs.State.{ReplicaState}
use Rattle.qu_client.specs.declared.state.ClientState.{ClientState}
use Rattle.qu_trace.specs.declared.trace.Entry.{Entry}
use Rattle.qu_trace.specs.declared.trace.Setup.{Setup}
use Rattle.qu_post.specs.declared.filed.Filed.{Filed}
use Rattle.qu_replay.specs.declared.kept_step.KeptStep.{KeptStep}
use Rattle.qu_replay.specs.Entries.{IsFirstUnsent, WereSentBefore}
use Rattle.qu_replay.specs.Merged.{AreByTicket, merged_entries}
use Rattle.qu_gather.specs.declared.torn.LiveFail.{LiveFail}
use Rattle.qu_gather.specs.declared.torn.LiveFail.TheVariants as fail
use Rattle.qu_gather.specs.declared.torn.Torn.TheVariants as torn
use Rattle.qu_gather.specs.Gathered.{all_steps}
use Rattle.qu_journal.specs.Journal.{as_kept, IsUnfiled, AreUnlike, IsPairOf}
use Rattle.qu_gather.specs.Torn.{TakesUnsent, IsUntold, AreWhole, TellsSteps, IsEarly, TellsEarly}
use Rattle.qu_gather.specs.Ticks.{late_letter}
use Rattle.qu_journal.proofs.Differing.{SameTickets, all_filed, unfiled_told}
use Rattle.qu_journal.proofs.Senders.{same_sender}

abbrev Step : Type 0
Step = Party × KeptStep

-- kept and filed steps, put into the order of their tickets
pub record InOrder (steps : List Step) (journal : List Filed) (merged filed : List Step) : Type 0 where
  pub sorted : AreByTicket 0 merged
  pub filed_sorted : AreByTicket 0 filed
  pub ties : SameTickets merged steps
  pub filed_ties : SameTickets filed (map as_kept journal)

-- the steps behind the locks, as they were put one behind the other, and those of the journal
pub in_order : (held : List (ReplicaState × List KeptStep)) (others : List (ClientState × List KeptStep))
    (journal : List Filed) (all merged filed : List Step) → all ≡ all_steps held others
    → AreByTicket 0 merged × AreByTicket 0 filed → SameTickets merged all → SameTickets filed (map as_kept journal)
    → InOrder (all_steps held others) journal merged filed
in_order held others journal all merged filed all_is sorted ties filed_ties = record {
  sorted = sorted.0;
  filed_sorted = sorted.1;
  ties = subst (SameTickets merged) all_is ties;
  filed_ties = filed_ties;
}

pub whole : (steps merged filed : List Step) (journal : List Filed) → InOrder steps journal merged filed
    → merged ≡ filed → WereSentBefore [] merged → AreWhole steps journal
whole steps merged filed journal order same sent = record {
  filed = all_filed steps merged filed journal order.ties order.filed_ties same;
  sent = record { merged = merged; sorted = order.sorted; ties = order.ties; sent = sent };
}

apart_told : (steps merged filed : List Step) (journal : List Filed) (kept : Option KeptStep) (step : Option Filed)
    → InOrder steps journal merged filed → AreUnlike merged filed (kept, step) → IsUnfiled steps journal kept step
apart_told steps merged filed journal kept step order is =
    subst (λ (it : Option KeptStep × Option Filed). IsUnfiled steps journal it.0 it.1) (sym is.pair_is)
    (unfiled_told steps merged filed journal is.at order.sorted order.filed_sorted order.ties order.filed_ties
    is.differ)

untold : (X : Type 0) (steps merged filed : List Step) (journal : List Filed) (told : LiveFail)
    → InOrder steps journal merged filed → IsUntold merged filed told
    → TellsSteps {X = X} steps journal (Err told)
untold X steps merged filed journal (fail.Torn (torn.Moved lock held)) order is = absurd is
untold X steps merged filed journal (fail.Torn (torn.Steps kept step)) order is =
    elim is [
      | inl apart ↦ inl (apart_told steps merged filed journal kept step order apart)
      | inr unsent ↦ inr (
        all_filed steps merged filed journal order.ties order.filed_ties unsent.0,
        record {
          merged = merged;
          sorted = order.sorted;
          ties = order.ties;
          takes = record {
            at = unsent.1.at;
            first = unsent.1.first;
            kept_is = unsent.1.kept_is;
            filed_is = unsent.1.filed_is
                ∙ same_sender unsent.1.first.step.1.input filed journal order.filed_ties;
          };
        },
      )
    ]
untold X steps merged filed journal (fail.Torn (torn.Early client letter)) order is = absurd is
untold X steps merged filed journal fail.NoMemory order is = tt

pub tells_untold : {X : Type 0} (steps merged filed : List Step) (journal : List Filed) (result : Result X LiveFail)
    (told : LiveFail) → InOrder steps journal merged filed → IsUntold merged filed told → result ≡ Err told
    → TellsSteps steps journal result
tells_untold {X = X} steps merged filed journal result told order is result_is =
    subst (TellsSteps steps journal) (sym result_is) (untold X steps merged filed journal told order is)

-- what is told of the first step that takes what was not sent
pub pair_takes : (merged : List Step) (at : ℕ) (journal : List Filed) (made : Option KeptStep × Option Filed)
    → IsFirstUnsent merged at → IsPairOf (slice_get merged at) journal made
    → TakesUnsent merged journal made.0 made.1
pair_takes merged at journal made first pair =
    let here : IsPairOf (Some first.step) journal made =
    subst (λ (it : Option Step). IsPairOf it journal made) first.found pair in
    record { at = at; first = first; kept_is = here.0; filed_is = here.1 }

early : (X : Type 0) (setup : Setup) (entries : List Entry) (steps : List Step) (journal : List Filed)
    (told : LiveFail) → AreWhole steps journal → IsEarly setup entries told
    → TellsSteps {X = X} steps journal (Err told)
early X setup entries steps journal (fail.Torn (torn.Moved lock held)) whole is = absurd is
early X setup entries steps journal (fail.Torn (torn.Steps kept filed)) whole is = absurd is
early X setup entries steps journal (fail.Torn (torn.Early client letter)) whole is = whole
early X setup entries steps journal fail.NoMemory whole is = tt

-- a tick that came too early is told of steps that fit
pub tells_early : {X : Type 0} (setup : Setup) (entries : List Entry) (steps : List Step) (journal : List Filed)
    (result : Result X LiveFail) (told : LiveFail) → AreWhole steps journal → IsEarly setup entries told
    → result ≡ Err told → TellsSteps steps journal result
tells_early {X = X} setup entries steps journal result told whole is result_is =
    subst (TellsSteps steps journal) (sym result_is) (early X setup entries steps journal told whole is)

-- and which letter came too late
early_letter : (X : Type 0) (setup : Setup) (steps merged filed : List Step) (journal : List Filed)
    (entries : List Entry) (told : LiveFail) → InOrder steps journal merged filed → WereSentBefore [] merged
    → entries ≡ merged_entries merged → IsEarly setup entries told → TellsEarly {X = X} setup steps (Err told)
early_letter X setup steps merged filed journal entries (fail.Torn (torn.Moved lock held)) order sent are is = absurd is
early_letter X setup steps merged filed journal entries (fail.Torn (torn.Steps kept step)) order sent are is = absurd is
early_letter X setup steps merged filed journal entries (fail.Torn (torn.Early client letter)) order sent are is =
    record {
      merged = merged;
      sorted = order.sorted;
      ties = order.ties;
      sent = sent;
      late = ap (late_letter setup []) (sym are) ∙ is;
    }
early_letter X setup steps merged filed journal entries fail.NoMemory order sent are is = tt

pub tells_letter : {X : Type 0} (setup : Setup) (steps merged filed : List Step) (journal : List Filed)
    (entries : List Entry) (result : Result X LiveFail) (told : LiveFail) → InOrder steps journal merged filed
    → WereSentBefore [] merged → entries ≡ merged_entries merged → IsEarly setup entries told → result ≡ Err told
    → TellsEarly setup steps result
tells_letter {X = X} setup steps merged filed journal entries result told order sent are is result_is =
    subst (TellsEarly setup steps) (sym result_is)
    (early_letter X setup steps merged filed journal entries told order sent are is)
