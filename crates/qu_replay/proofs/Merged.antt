-- In a list by tickets a step with a smaller ticket stands before, so what was kept of its letters was sent before.
use Rattle.std.proofs.Common.{◌≡◌, ℕ, zero, suc, ◌+◌, ◌<◌, ◌≤◌, Bool, cond, List, [], ◌∷◌, ◌++◌, Option, None, Some, refl, sym, ap, subst, ◌∙◌, append_assoc, arith, inl, inr}
use Rattle.std.specs.Prelude.{slice_get}
use Rattle.std.specs.List.{AllByRecursion}
use Rattle.std.proofs.lemmas.Bool.{cases_Bool, eq-eqb, ne_eqb}
use Rattle.std.proofs.lemmas.Option.{none-some, same_Some}
use Rattle.qu_base.specs.declared.party.Party.{Party}
use Rattle.qu_base.specs.declared.party.Party.TheVariants as party
use Rattle.qu_trace.specs.Faulty.{is_same}
use Rattle.qu_trace.specs.declared.trace.Setup.{Setup}
use Rattle.qu_trace.proofs.Parties.{same_self}
use Rattle.qu_world.specs.Run.{IsSetup, IsRun, run, events_of}
use Rattle.qu_replay.specs.Steps.{Actor, Replicates, Asks, actor_moved, CanTake}
use Rattle.qu_frames.specs.declared.input.LetterName.{LetterName}
use Rattle.qu_replay.specs.declared.kept_step.KeptStep.{KeptStep}
use Rattle.qu_frames.specs.declared.input.Input.{Input}
use Rattle.qu_frames.specs.declared.input.Input.TheVariants.{Frame, Tick, Invoke}
use Rattle.qu_replay.specs.Replays.{IsReplay, IsReplayOf, IsAfterLetter, RisesFrom, AreReplaysOf, own_steps, opening_actor, actor_at}
use Rattle.qu_replay.specs.Told.{AreTold}
use Rattle.qu_replay.specs.Merged.{AreByTicket, letter_kept, IsLetter, IsBroughtTo, IsBrought, merged_entries, IsKeptLetter, IsKeptInput, AreKept}
use Rattle.qu_replay.specs.Entries.{letter_named, IsNamedLetter, WasSentBefore, WereSentBefore}
use Rattle.qu_replay.proofs.Told.{own_here, own_other, told_is_run, told_from_opening}
use Rattle.qu_replay.proofs.Naming.{not_named, named_before}
use Rattle.qu_replay.proofs.Sending.{sent_told}

abbrev Merged : Type 0
Merged = List (Party × KeptStep)

-- ---- what was brought was sent before

letter_sent : (all front rest : Merged) (me : Party) (ticket : ℕ) (name : LetterName) (text : List ℕ)
    → all ≡ front ++ rest → AreByTicket ticket rest → IsLetter all me ticket name text
    → IsNamedLetter front me name text
letter_sent all front rest me ticket name text split sorted is = record {
  letter = is.letter;
  found =
      sym (named_before front rest name (not_named ticket rest name sorted is.before))
      ∙ ap (λ (it : Merged). letter_named it name) (sym split) ∙ is.found;
  to = is.to;
  text_is = is.text_is;
}

input_sent : (all front rest : Merged) (me : Party) (ticket : ℕ) (input : Input)
    → all ≡ front ++ rest → AreByTicket ticket rest → IsBroughtTo all me ticket input → WasSentBefore front me input
input_sent all front rest me ticket (Frame name text) split sorted brought =
    letter_sent all front rest me ticket name text split sorted brought
input_sent all front rest (party.Client me) ticket Tick split sorted brought = tt
input_sent all front rest (party.Client me) ticket (Invoke op) split sorted brought = tt
input_sent all front rest (party.Replica me) ticket Tick split sorted brought = absurd brought
input_sent all front rest (party.Replica me) ticket (Invoke op) split sorted brought = absurd brought

sent_from : (all front xs : Merged) (low : ℕ) → all ≡ front ++ xs → AreByTicket low xs
    → AllByRecursion (IsBrought all) xs → WereSentBefore front xs
unfolding WereSentBefore AreByTicket
sent_from all front [] low split sorted brought = tt
sent_from all front (x ∷ xs) low split sorted brought =
    let same : x.1.ticket ≤ x.1.ticket = omega arith in (
      input_sent all front (x ∷ xs) x.0 x.1.ticket x.1.input split (same, sorted.1) brought.0,
      sent_from all (front ++ x ∷ []) xs x.1.ticket (split ∙ sym (append_assoc front (x ∷ []) xs)) sorted.1 brought.1,
    )

-- where each frame is a letter of a smaller ticket, each step takes what was sent before it
pub merged_sent : (all : Merged) → AreByTicket 0 all → AllByRecursion (IsBrought all) all → WereSentBefore [] all
merged_sent all sorted brought = sent_from all [] all 0 refl sorted brought

-- ---- from what each actor kept

rises_at : (low : ℕ) (steps : List KeptStep) (index : ℕ) (step : KeptStep) → RisesFrom low steps
    → slice_get steps index ≡ Some step → low ≤ step.ticket
unfolding RisesFrom
rises_at low [] index step rises at = absurd (none-some step at)
rises_at low (first ∷ later) zero step rises at =
    subst (λ (it : KeptStep). low ≤ it.ticket) (same_Some first step at) rises.0
rises_at low (first ∷ later) (suc index) step rises at =
    let later_on : first.ticket + 1 ≤ step.ticket = rises_at (first.ticket + 1) later index step rises.2 at in
    let here : low ≤ first.ticket = rises.0 in
    omega (arith, later_on, here)

-- where tickets rise, a ticket names one step
kept_at : (low : ℕ) (steps : List KeptStep) (index : ℕ) (step : KeptStep) (place : ℕ) → RisesFrom low steps
    → slice_get steps index ≡ Some step → letter_kept steps step.ticket place ≡ slice_get step.letters place
unfolding RisesFrom letter_kept
kept_at low [] index step place rises at = absurd (none-some step at)
kept_at low (first ∷ later) zero step place rises at =
    subst (λ (it : KeptStep). letter_kept (first ∷ later) it.ticket place ≡ slice_get it.letters place)
    (same_Some first step at)
    (ap (λ (it : Bool). cond it (slice_get first.letters place) (letter_kept later first.ticket place))
    (eq-eqb first.ticket first.ticket refl))
kept_at low (first ∷ later) (suc index) step place rises at =
    let later_on : first.ticket + 1 ≤ step.ticket = rises_at (first.ticket + 1) later index step rises.2 at in
    ap (λ (it : Bool). cond it (slice_get first.letters place) (letter_kept later step.ticket place))
    (ne_eqb first.ticket step.ticket (λ same. omega (arith, later_on, same)))
    ∙ kept_at (first.ticket + 1) later index step place rises.2 at

letter_of_kept : (all : Merged) (me : Party) (ticket : ℕ) (name : LetterName) (text : List ℕ)
    → RisesFrom 0 (own_steps name.from all) → name.ticket < ticket → IsKeptLetter all me name text
    → IsLetter all me ticket name text
letter_of_kept all me ticket name text rises before is = record {
  letter = is.letter;
  before = before;
  found =
      ap (λ (it : ℕ). letter_kept (own_steps name.from all) it name.place) (sym is.ticket)
      ∙ kept_at 0 (own_steps name.from all) is.index is.step name.place rises is.at ∙ is.found;
  to = is.to;
  text_is = is.text_is;
}

brought_input : (all : Merged) (me : Party) (actor : Actor) (ticket : ℕ) (input : Input)
    → ((sender : Party) → RisesFrom 0 (own_steps sender all)) → CanTake me actor input → IsAfterLetter ticket input
    → IsKeptInput all me input → IsBroughtTo all me ticket input
brought_input all me actor ticket (Frame name text) rise can after is =
    letter_of_kept all me ticket name text (rise name.from) after is
brought_input all (party.Client me) actor ticket Tick rise can after is = tt
brought_input all (party.Client me) actor ticket (Invoke op) rise can after is = tt
brought_input all (party.Replica me) (Replicates state) ticket Tick rise can after is = absurd can
brought_input all (party.Replica me) (Asks state) ticket Tick rise can after is = absurd can
brought_input all (party.Replica me) (Replicates state) ticket (Invoke op) rise can after is = absurd can
brought_input all (party.Replica me) (Asks state) ticket (Invoke op) rise can after is = absurd can

abbrev IsStepBrought : Merged → Party → KeptStep → Type 0
IsStepBrought all me step = IsBroughtTo all me step.ticket step.input

brought_steps : (all : Merged) (me : Party) (actor last : Actor) (low : ℕ) (steps : List KeptStep)
    → ((sender : Party) → RisesFrom 0 (own_steps sender all)) → IsReplay me actor steps last → RisesFrom low steps
    → AllByRecursion (λ (step : KeptStep). IsKeptInput all me step.input) steps
    → AllByRecursion (IsStepBrought all me) steps
unfolding IsReplay RisesFrom
brought_steps all me actor last low [] rise replay rises kept = tt
brought_steps all me actor last low (step ∷ later) rise replay rises kept = (
  brought_input all me actor step.ticket step.input rise replay.0.can rises.1 kept.0,
  brought_steps all me (actor_moved me actor step.input).actor last (step.ticket + 1) later rise replay.1 rises.2
      kept.1,
)

brought_of : (all : Merged) (me : Party) (found end : Option Actor) (steps : List KeptStep)
    → ((sender : Party) → RisesFrom 0 (own_steps sender all)) → IsReplayOf me found steps end → RisesFrom 0 steps
    → AllByRecursion (λ (step : KeptStep). IsKeptInput all me step.input) steps
    → AllByRecursion (IsStepBrought all me) steps
unfolding IsReplayOf
brought_of all me None end steps rise replay rises kept =
    subst (λ (it : List KeptStep). AllByRecursion (IsStepBrought all me) it) (sym replay.0) tt
brought_of all me (Some actor) end steps rise replay rises kept =
    brought_steps all me actor replay.0 0 steps rise replay.2 rises kept

-- what holds of the steps of each actor holds of all
each_own : (P : Party → KeptStep → Type 0) (xs : Merged) → ((me : Party) → AllByRecursion (P me) (own_steps me xs))
    → AllByRecursion (λ (x : Party × KeptStep). P x.0 x.1) xs
unfolding own_steps
each_own P [] each = tt
each_own P (x ∷ xs) each = (
  (subst (AllByRecursion (P x.0)) (own_here x xs x.0 (same_self x.0)) (each x.0)).0,
  each_own P xs (λ me.
      elim (cases_Bool (is_same x.0 me)) [
        | inl same ↦ (subst (AllByRecursion (P me)) (own_here x xs me same) (each me)).1
        | inr apart ↦ subst (AllByRecursion (P me)) (own_other x xs me apart) (each me)
      ]),
)

-- what actors kept was brought, and so it was sent before
pub kept_sent : (setup : Setup) (all : Merged) (ends : Party → Option Actor) → AreReplaysOf setup all ends
    → AreByTicket 0 all → AreKept all → WereSentBefore [] all
kept_sent setup all ends replays sorted kept =
    merged_sent all sorted
    (each_own (IsStepBrought all) all
    (λ me. brought_of all me (opening_actor setup me) (ends me) (own_steps me all) kept.rise (replays me) (kept.rise me)
    (kept.inputs me)))

-- what the correct parties of a setup kept, in the order of tickets, is a run, and leads to where they are
pub merged_is_run : (setup : Setup) (all : Merged) (ends : Party → Option Actor) → IsSetup setup
    → AreReplaysOf setup all ends → AreByTicket 0 all → AreKept all
    → IsRun (record { setup = setup; entries = merged_entries all })
    × ((me : Party) → actor_at (run setup (events_of (merged_entries all))) me ≡ ends me)
merged_is_run setup all ends limits replays sorted kept =
    let told : AreTold [] all (merged_entries all) =
    sent_told all (kept_sent setup all ends replays sorted kept) in (
      told_is_run setup all (merged_entries all) ends limits replays told,
      (told_from_opening setup all (merged_entries all) ends replays told).ends,
    )
