-- What the replicas of a run hold fits its format, whatever bytes are injected.
use Rattle.std.proofs.Common.{◌≡◌, ℕ, zero, suc, ◌<◌, ◌≤◌, List, [], ◌∷◌, length, take, get_or, Option, None, Some, inl, inr, refl, sym, ap, subst, ◌∙◌, arith, add-one}
use Rattle.std.specs.Prelude.{slice_get, option_map}
use Rattle.std.specs.List.{AllByRecursion}
use Rattle.std.proofs.lemmas.Option.{none-some, same_Some, slice_get_within}
use Rattle.qu_base.specs.declared.limits.TheConstants.{OBJECT_IDS, REPLICA_IDS}
use Rattle.qu_base.specs.declared.party.Party.{Party}
use Rattle.qu_base.specs.declared.party.Party.TheVariants as party
use Rattle.qu_base.specs.Bounds.{replicas}
use Rattle.qu_base.specs.Format.{AreBytes}
use Rattle.qu_base.proofs.ThresholdFacts.{replicas_are_few, replicas_are_count}
use Rattle.qu_base.proofs.EachItem.{each_append}
use Rattle.qu_frames.specs.declared.frame.Letter.{Letter}
use Rattle.qu_rows.specs.State.{ReplicaState}
use Rattle.qu_replica.specs.Step.{replica_step}
use Rattle.qu_fitting.specs.Fits.{StateFits}
use Rattle.qu_fitting.proofs.FitState.{opening-fits}
use Rattle.qu_replica.proofs.Fits.FitSteps.{step-fits}
use Rattle.qu_trace.specs.declared.event.Event.{Event}
use Rattle.qu_trace.specs.declared.event.Event.TheVariants.{Invoke, Deliver, Tick, Inject}
use Rattle.qu_trace.specs.declared.trace.Entry.{Entry}
use Rattle.qu_trace.specs.declared.trace.Trace.{Trace}
use Rattle.qu_trace.specs.Letters.{letters_of}
use Rattle.qu_world.specs.Run.{IsRun}
use Rattle.qu_world.specs.State.{WorldState, kinds_at, letter_of, ring_of}
use Rattle.qu_world.specs.Step.{world_step}
use Rattle.qu_world.proofs.Each.{each_at, each_numbered, set_cases}
use Rattle.qu_claims.specs.Carried.{offered}
use Rattle.qu_claims.specs.Times.{world_after}
use Rattle.qu_runs.proofs.Events.Handing.{hand}
use Rattle.qu_runs.proofs.Worlds.Objects.{few_kinds}
use Rattle.qu_runs.proofs.Worlds.OpeningReplicas.{all_replicas, opening_at}
use Rattle.qu_runs.proofs.Events.Recording.{entries_after}
use Rattle.qu_runs.proofs.Small.{some_entry}
use Rattle.qu_runs.proofs.Worlds.WorldGrowth.{world_after-next}
use Rattle.qu_known.specs.Known.{HasBytes, IsOfBytes, AreOfBytes}
use Rattle.qu_known.proofs.Happened.{Happens, happens}

-- ---- bytes

abbrev LetterHasBytes : Letter → Type 0
LetterHasBytes letter = AreBytes letter.text

sent_bytes : (entries : List Entry) (count : ℕ) → AreOfBytes entries
    → AllByRecursion LetterHasBytes (letters_of (take count entries))
unfolding letters_of
sent_bytes entries zero bytes = tt
sent_bytes [] (suc count) bytes = tt
sent_bytes (entry ∷ later) (suc count) bytes =
    each_append LetterHasBytes entry.letters (letters_of (take count later)) bytes.0.letters
    (sent_bytes later count bytes.1)

found_bytes : (to : Party) (text : List ℕ) (found : Option Letter)
    → ((letter : Letter) → found ≡ Some letter → AreBytes letter.text) → option_map hand found ≡ Some (to, text)
    → AreBytes text
found_bytes to text None bytes offers = absurd (none-some (to, text) offers)
found_bytes to text (Some letter) bytes offers =
    subst (λ (it : Party × List ℕ). AreBytes it.1) (same_Some (hand letter) (to, text) offers) (bytes letter refl)

offered_bytes : (world : WorldState) (event : Event) (to : Party) (text : List ℕ)
    → AllByRecursion LetterHasBytes (letters_of world.entries) → HasBytes event
    → offered world event ≡ Some (to, text) → AreBytes text
offered_bytes world (Invoke client op) to text sent bytes offers = absurd (none-some (to, text) offers)
offered_bytes world (Deliver number) to text sent bytes offers =
    found_bytes to text (letter_of world number)
    (λ letter is. each_numbered LetterHasBytes (letters_of world.entries) number letter sent is) offers
offered_bytes world (Tick client) to text sent bytes offers = absurd (none-some (to, text) offers)
offered_bytes world (Inject who other) to text sent bytes offers =
    subst (λ (it : Party × List ℕ). AreBytes it.1) (same_Some (who, other) (to, text) offers) bytes

-- ---- the replicas of a world

abbrev pub FitReplicas : WorldState → Type 0
FitReplicas world = (place : ℕ) (state : ReplicaState) → slice_get world.replicas place ≡ Some state → StateFits state

step_fits : (old : WorldState) (event : Event) (new : WorldState) → FitReplicas old
    → ((to : Party) (text : List ℕ) → offered old event ≡ Some (to, text) → AreBytes text)
    → Happens old event new → FitReplicas new
step_fits old event new fits bytes happened place state found =
    elim (happened.does) [
      | inl quiet ↦ fits place state
          (ap (λ (them : List ReplicaState). slice_get them place) (sym quiet.replicas) ∙ found)
      | inr taken ↦ elim (set_cases old.replicas taken.me.0 place (replica_step taken.state taken.text).0 state
          (ap (λ (them : List ReplicaState). slice_get them place) (sym taken.replicas) ∙ found)) [
            | inl here ↦ subst StateFits (sym here.1)
                (step-fits taken.state taken.text (bytes (party.Replica taken.me) taken.text taken.offers)
                (fits taken.me.0 taken.state taken.is_state)).0
            | inr apart ↦ fits place state apart.1
          ]
    ]

module _ (trace : Trace) (is_run : IsRun trace) (bytes : AreOfBytes trace.entries) where
  -- what an event of the run brings a party are bytes
  pub run_offers : (count : ℕ) (default : Entry) → count < length trace.entries → (to : Party) (text : List ℕ)
      → offered (world_after trace count) (get_or trace.entries count default).event ≡ Some (to, text) → AreBytes text
  run_offers count default below to text =
      offered_bytes (world_after trace count) (get_or trace.entries count default).event to text
      (subst (λ (entries : List Entry). AllByRecursion LetterHasBytes (letters_of entries))
      (sym (entries_after trace is_run count (omega arith))) (sent_bytes trace.entries count bytes))
      (each_at IsOfBytes trace.entries count default bytes below).event

  opening_fits : FitReplicas (world_after trace 0)
  opening_fits place state found =
      let below : place < length (world_after trace 0).replicas =
      slice_get_within (world_after trace 0).replicas place state found in
      let all : length (world_after trace 0).replicas ≡ replicas trace.setup.bounds = all_replicas trace 0 in
      let few : replicas trace.setup.bounds ≤ REPLICA_IDS =
      replicas_are_few trace.setup.bounds (is_run.setup).few_faults in
      let kinds : length (kinds_at trace.setup place) ≤ length trace.setup.kinds = few_kinds trace.setup place in
      let objects : length trace.setup.kinds ≤ OBJECT_IDS = (is_run.setup).kinds in
      subst StateFits (sym (opening_at trace place state found))
      (opening-fits (record { 0 = place }) (ring_of trace.setup) (kinds_at trace.setup place)
      (omega arith)
      (replicas_are_count trace.setup.bounds (is_run.setup).some_faults (is_run.setup).few_faults) (omega arith))

  pub replicas_fit : (count : ℕ) → count ≤ length trace.entries → FitReplicas (world_after trace count)
  replicas_fit zero within = opening_fits
  replicas_fit (suc count) within =
      let default : Entry = some_entry trace.entries (omega arith) in
      let event : Event = (get_or trace.entries count default).event in
      subst (λ (many : ℕ). FitReplicas (world_after trace many)) (add-one count)
      (subst FitReplicas (sym (world_after-next trace count default (omega arith)))
      (step_fits (world_after trace count) event (world_step (world_after trace count) event)
      (replicas_fit count (omega arith)) (run_offers count default (omega arith))
      (happens (world_after trace count) event)))
