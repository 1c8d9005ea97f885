-- In a run each version that a letter carries was found by a correct replica before, and so was each answer of a
-- correct replica to a fetch that runs.
use Rattle.std.proofs.Common.{◌≡◌, ℕ, zero, suc, ◌+◌, ◌<◌, ◌≤◌, false, List, [], ◌∷◌, ◌++◌, length, get_or, Option, None, Some, Ok, inl, inr, refl, sym, ap, subst, ◌∙◌, arith, add-one, slice_get}
use Rattle.std.specs.List.{AllByRecursion}
use Rattle.std.proofs.lemmas.Bool.{false≢true, ltb-true}
use Rattle.std.proofs.lemmas.Option.{same_Some, slice_get_within}
use Rattle.qu_base.specs.declared.limits.TheConstants.{OBJECT_IDS, REPLICA_IDS}
use Rattle.qu_base.specs.declared.party.ObjectId.{ObjectId}
use Rattle.qu_base.specs.declared.party.Party.{Party}
use Rattle.qu_base.specs.declared.party.Party.TheVariants as party
use Rattle.qu_base.specs.declared.party.ReplicaId.{ReplicaId}
use Rattle.qu_base.specs.Bounds.{replicas}
use Rattle.qu_base.proofs.ThresholdFacts.{replicas_are_few, replicas_are_count}
use Rattle.qu_base.proofs.EachItem.{each_append, each_weaker}
use Rattle.qu_seal.specs.Keys.{Ring}
use Rattle.qu_stamp.specs.declared.stamp.Stamp.{Stamp}
use Rattle.qu_waiting.specs.declared.vote.Vote.{Vote}
use Rattle.qu_objects.specs.declared.state.ObjState.{ObjState}
use Rattle.qu_objects.specs.States.{state_form}
use Rattle.qu_versions.specs.declared.stored.Stored.{Stored}
use Rattle.qu_frames.specs.declared.frame.Frame.{Frame}
use Rattle.qu_frames.specs.declared.frame.Frame.TheVariants as frame
use Rattle.qu_frames.specs.declared.frame.Letter.{Letter}
use Rattle.qu_frames.specs.Decoding.{decoded}
use Rattle.qu_frames.specs.Formats.{frame_form}
use Rattle.qu_frames.specs.Signing.{sender, brought}
use Rattle.qu_frames.proofs.Signed.{brought_is_decoded, sender_known}
use Rattle.qu_rows.specs.State.{ReplicaState}
use Rattle.qu_waiting.specs.Waiting.{Running}
use Rattle.qu_fitting.specs.Fits.{StateFits, StepFits}
use Rattle.qu_replica.specs.Step.{replica_on_received, replica_step}
use Rattle.qu_fitting.proofs.FitState.{opening-fits}
use Rattle.qu_replica.proofs.Fits.FitSteps.{on_received-fits, fetched_state}
use Rattle.qu_trace.specs.declared.event.Event.{Event}
use Rattle.qu_trace.specs.declared.trace.Entry.{Entry}
use Rattle.qu_trace.specs.declared.trace.Setup.{Setup}
use Rattle.qu_trace.specs.declared.trace.Trace.{Trace}
use Rattle.qu_trace.specs.Faulty.{is_faulty}
use Rattle.qu_trace.specs.Letters.{letters_of}
use Rattle.qu_trace.proofs.LetterLaws.{letters-push}
use Rattle.qu_world.specs.State.{WorldState, kinds_at, ring_of}
use Rattle.qu_world.specs.Step.{world_step, unchanged, at_replica}
use Rattle.qu_world.specs.Run.{IsRun}
use Rattle.qu_world.proofs.Each.{each_numbered, set_cases}
use Rattle.qu_claims.specs.Handling.{WasFound}
use Rattle.qu_claims.specs.Premises.{AreUnforged}
use Rattle.qu_claims.specs.Times.{world_after}
use Rattle.qu_runs.specs.Plain.{IsPlain, ArePlain, IsFrom, WasSent}
use Rattle.qu_runs.proofs.Digests.Plain.{setup_after}
use Rattle.qu_runs.proofs.Events.Recording.{world_cases}
use Rattle.qu_runs.proofs.Fits.Fitting.{from_fits}
use Rattle.qu_runs.proofs.Small.{some_entry}
use Rattle.qu_runs.proofs.Worlds.Objects.{few_kinds}
use Rattle.qu_runs.proofs.Worlds.OpeningReplicas.{opening_at, all_replicas, keys_are, me_is, bounds_are}
use Rattle.qu_runs.proofs.Worlds.WorldGrowth.{world_after-none, world_after-next}
use Rattle.qu_accepts.proofs.ToldVersions.{TellsOnly, asked_tells, on_received_tells}
use Rattle.qu_runs.proofs.Fits.ClientLetters.{step_sends, tick_sends, invoke_sends}
use Rattle.qu_accepts.proofs.Votes.{BringsVote, Counts, AreCounted, on_received_counted, opening_counted}

-- the version under this key
abbrev pub keyed : ObjectId → Stamp → ObjState → Stored
keyed object stamp version = record { object = object; stamp = stamp; state = version }

-- a correct replica found the version under this key by this time
abbrev pub IsOfCorrect : Trace → ℕ → ObjectId → Stamp → ObjState → Type 0
IsOfCorrect trace count object stamp version = WasFound trace count (keyed object stamp version)

-- the answer is a version that fits, and that a correct replica found
pub record VoteFound (trace : Trace) (count : ℕ) (object : ObjectId) (stamp : Stamp) (vote : Vote (List ℕ)) : Type
    0 where
  pub version : ObjState
  pub fits : state_form.Fits version
  pub value : vote.value ≡ state_form.spell version
  pub found : IsOfCorrect trace count object stamp version

-- so it is where its replica is correct, which in any case is one of the setup
pub record IsVote (trace : Trace) (count : ℕ) (object : ObjectId) (stamp : Stamp) (vote : Vote (List ℕ)) : Type
    0 where
  pub within : (vote.replica).0 < replicas trace.setup.bounds
  pub told : is_faulty trace.setup (party.Replica vote.replica) ≡ false → VoteFound trace count object stamp vote

-- ---- a time later

found_more : (trace : Trace) (count : ℕ) (object : ObjectId) (stamp : Stamp) (version : ObjState)
    → IsOfCorrect trace count object stamp version → IsOfCorrect trace (count + 1) object stamp version
found_more trace count object stamp version was = record {
  past = was.past;
  earlier = let order : was.past ≤ count = was.earlier in omega arith;
  place = was.place;
  state = was.state;
  is_state = was.is_state;
  found = was.found;
}

vote_more : (trace : Trace) (count : ℕ) (object : ObjectId) (stamp : Stamp) (vote : Vote (List ℕ))
    → IsVote trace count object stamp vote → IsVote trace (count + 1) object stamp vote
vote_more trace count object stamp vote is = record {
  within = is.within;
  told = λ correct.
      let it : VoteFound trace count object stamp vote = is.told correct in
      record {
        version = it.version;
        fits = it.fits;
        value = it.value;
        found = found_more trace count object stamp it.version it.found;
      };
}

votes_more : (trace : Trace) (count need : ℕ) (fetching : List Running)
    → AreCounted need (IsVote trace count) fetching → AreCounted need (IsVote trace (count + 1)) fetching
votes_more trace count need fetching are =
    each_weaker (Counts need (IsVote trace count)) (Counts need (IsVote trace (count + 1))) fetching
    (λ running counts. record {
      needs = counts.needs;
      each = each_weaker (IsVote trace count running.object running.stamp)
          (IsVote trace (count + 1) running.object running.stamp) running.answers.votes
          (vote_more trace count running.object running.stamp) counts.each;
    }) are

-- ---- the worlds of a run

-- what replicas hold fits, each version that a letter carries was found by a correct replica, and each answer to a
-- fetch that runs is so
pub record IsTrueWorld (trace : Trace) (count : ℕ) (world : WorldState) : Type 0 where
  pub fits : (place : ℕ) (state : ReplicaState) → slice_get world.replicas place ≡ Some state → StateFits state
  pub letters : AllByRecursion (TellsOnly (IsOfCorrect trace count)) (letters_of world.entries)
  pub votes : (place : ℕ) (state : ReplicaState) → slice_get world.replicas place ≡ Some state
      → AreCounted (trace.setup.bounds + 1) (IsVote trace count) state.fetching

-- the sender of what a text brings sent this text, where it is correct
abbrev pub IsOfSender : WorldState → Party → List ℕ → Type 0
IsOfSender world to text =
    (taken : Frame) → brought (ring_of world.setup) to text ≡ Some taken
    → is_faulty world.setup (sender taken) ≡ false → WasSent world to text

from_sender : (world : WorldState) (to : Party) (text : List ℕ) → IsFrom world to text → IsOfSender world to text
from_sender world to text (inl sent) taken brings correct = sent
from_sender world to text (inr made) taken brings correct =
    let same : made.taken ≡ taken = same_Some made.taken taken (sym made.brings ∙ brings) in
    absurd (false≢true (sym correct ∙ ap (λ (it : Frame). is_faulty world.setup (sender it)) (sym same) ∙ made.faulty))

pub unforged_sender : (world : WorldState) (to : Party) (text : List ℕ) → AreUnforged world to text
    → IsOfSender world to text
unforged_sender world to text unforged taken brings correct =
    let it = unforged.sent taken brings correct in
    record { number = it.number; letter = it.letter; is_letter = it.is_letter; to_is = it.to_is; text_is = it.text_is }

module _ (trace : Trace) (count : ℕ) (are : IsTrueWorld trace count (world_after trace count)) where
  abbrev world : WorldState
  world = world_after trace count

  -- the answer that a frame brings to a replica
  pub brought_vote : (to : Party) (text : List ℕ) → IsOfSender world to text
      → ((sent : Frame) → decoded text ≡ Ok sent → frame_form.Fits sent) → (keys : Ring) → keys ≡ ring_of trace.setup
      → (received : Frame) → brought keys to text ≡ Some received → (object : ObjectId) (stamp : Stamp)
      (vote : Vote (List ℕ)) → BringsVote received object stamp vote → IsVote trace count object stamp vote
  brought_vote to text of_sender fits keys ring received brings object stamp vote is =
      let sent : Frame = frame.Fetched vote.replica object stamp is.version is.mac in
      let reads : brought (ring_of trace.setup) to text ≡ Some sent =
      ap (λ (it : Ring). brought it to text) (sym ring) ∙ brings ∙ ap (λ (it : Frame). Some it) is.is_received in
      let decodes : decoded text ≡ Ok sent = brought_is_decoded (ring_of trace.setup) to text sent reads in
      let setups : world.setup ≡ trace.setup = setup_after trace count in
      record {
        within = ltb-true _ _ (sender_known (ring_of trace.setup) to text sent reads);
        told = λ correct.
            let it : WasSent world to text =
            of_sender sent (ap (λ (setup : Setup). brought (ring_of setup) to text) setups ∙ reads)
            (ap (λ (setup : Setup). is_faulty setup (party.Replica vote.replica)) setups ∙ correct) in
            let tells : TellsOnly (IsOfCorrect trace count) it.letter =
            each_numbered (TellsOnly (IsOfCorrect trace count)) (letters_of world.entries) it.number it.letter
            are.letters it.is_letter in
            record {
              version = is.version;
              fits = fetched_state vote.replica object stamp is.version is.mac (fits sent decodes);
              value = is.value;
              found = tells vote.replica object stamp is.version is.mac (ap decoded it.text_is ∙ decodes);
            };
      }

-- ---- a step

module _ (trace : Trace) (is_run : IsRun trace) (have : ArePlain trace) (count : ℕ)
    (within : count ≤ length trace.entries) (are : IsTrueWorld trace count (world_after trace count)) where
  abbrev before : WorldState
  before = world_after trace count

  abbrev Tells : ℕ → Letter → Type 0
  Tells time letter = TellsOnly (IsOfCorrect trace time) letter

  letters_more : (entry : Entry) → AllByRecursion (Tells (count + 1)) entry.letters
      → AllByRecursion (Tells (count + 1)) (letters_of (before.entries ++ entry ∷ []))
  letters_more entry here =
      subst (AllByRecursion (Tells (count + 1))) (sym (letters-push before.entries entry))
      (each_append (Tells (count + 1)) (letters_of before.entries) entry.letters
      (each_weaker (Tells count) (Tells (count + 1)) (letters_of before.entries)
      (λ letter tells replica object stamp version mac carries.
      found_more trace count object stamp version (tells replica object stamp version mac carries)) are.letters) here)

  -- no replica moves
  others_move : (new : WorldState) (entry : Entry) → new.replicas ≡ before.replicas
      → new.entries ≡ before.entries ++ entry ∷ [] → AllByRecursion (Tells (count + 1)) entry.letters
      → IsTrueWorld trace (count + 1) new
  others_move new entry same entries here = record {
    fits = λ place state found.
        are.fits place state (ap (λ (it : List ReplicaState). slice_get it place) (sym same) ∙ found);
    letters = subst (λ (it : List Entry). AllByRecursion (Tells (count + 1)) (letters_of it)) (sym entries)
        (letters_more entry here);
    votes = λ place state found.
        votes_more trace count (trace.setup.bounds + 1) state.fetching
        (are.votes place state (ap (λ (it : List ReplicaState). slice_get it place) (sym same) ∙ found));
  }

  module _ (me : ReplicaId) (text : List ℕ) (state : ReplicaState) (from : IsFrom before (party.Replica me) text)
      (found : slice_get before.replicas me.0 ≡ Some state) where
    abbrev read : Option Frame
    read = brought state.keys (party.Replica state.me) text

    read_fits : (received : Frame) → read ≡ Some received → frame_form.Fits received
    read_fits received brings =
        from_fits trace is_run have.typed count within (party.Replica me) text from received
        (brought_is_decoded state.keys (party.Replica state.me) text received brings)

    state_fits : StateFits state
    state_fits = are.fits me.0 state found

    replica_moves : (event : Event) → IsTrueWorld trace (count + 1) (at_replica before event me text (Some state))
    replica_moves event =
        let moved : ReplicaState × List Letter = replica_step state text in
        let named : party.Replica state.me ≡ party.Replica me =
        ap (λ (it : ReplicaId). party.Replica it) (me_is trace count me.0 state found) in
        let step : StepFits (replica_on_received state read) = on_received-fits state read state_fits read_fits in
        let votes : AreCounted (trace.setup.bounds + 1) (IsVote trace (count + 1)) (moved.0).fetching =
        votes_more trace count (trace.setup.bounds + 1) (moved.0).fetching
        (on_received_counted (trace.setup.bounds + 1) (IsVote trace count) state read
        (ap (λ (it : ℕ). it + 1) (bounds_are trace count me.0 state found))
        (λ received brings object stamp vote is.
        brought_vote trace count are (party.Replica state.me) text
        (subst (λ (to : Party). IsOfSender before to text) (sym named)
        (from_sender before (party.Replica me) text from))
        (λ sent decodes. from_fits trace is_run have.typed count within (party.Replica me) text from sent decodes)
        state.keys (keys_are trace count me.0 state found) received brings object stamp vote is)
        (are.votes me.0 state found)) in
        record {
          fits = λ place other is. elim (set_cases before.replicas me.0 place moved.0 other is) [
            | inl here ↦ subst StateFits (sym here.1) step.0
            | inr apart ↦ are.fits place other apart.1
          ];
          letters = letters_more (record { event = event; letters = moved.1; ended = None })
              (on_received_tells (IsOfCorrect trace (count + 1)) state read state_fits read_fits
              (λ object stamp version holds. record {
                past = count;
                earlier = omega arith;
                place = me.0;
                state = state;
                is_state = found;
                found = holds;
              }));
          votes = λ place other is. elim (set_cases before.replicas me.0 place moved.0 other is) [
            | inl here ↦ subst (λ (it : ReplicaState). AreCounted (trace.setup.bounds + 1) (IsVote trace (count + 1))
                it.fetching) (sym here.1) votes
            | inr apart ↦ votes_more trace count (trace.setup.bounds + 1) other.fetching
                (are.votes place other apart.1)
          ];
        }

  -- what clients send tells no version
  abbrev Sent : List Letter → Type 0
  Sent letters = AllByRecursion (TellsOnly (IsOfCorrect trace (count + 1))) letters

  step_true : (event : Event) → IsPlain before event → IsTrueWorld trace (count + 1) (world_step before event)
  step_true event plain =
      world_cases before (λ (new : WorldState). IsTrueWorld trace (count + 1) new)
      (λ event. others_move (unchanged before event) (record { event = event; letters = []; ended = None }) refl refl
      tt)
      (λ event text me state from hands found. replica_moves me text state from found event)
      (λ client op state found. others_move _ _ refl refl
      (invoke_sends state Sent tt (asked_tells (IsOfCorrect trace (count + 1)) state) op))
      (λ event text client state from hands found. others_move _ _ refl refl
      (step_sends state Sent tt (asked_tells (IsOfCorrect trace (count + 1)) state) text))
      (λ client state found. others_move _ _ refl refl
      (tick_sends state Sent tt (asked_tells (IsOfCorrect trace (count + 1)) state)))
      event plain

-- ---- runs

opening_true : (trace : Trace) → IsRun trace → IsTrueWorld trace 0 (world_after trace 0)
unfolding letters_of
opening_true trace is_run = record {
  fits = λ place state found.
      let below : place < length (world_after trace 0).replicas =
      slice_get_within (world_after trace 0).replicas place state found in
      let all : length (world_after trace 0).replicas ≡ replicas trace.setup.bounds = all_replicas trace 0 in
      let few : replicas trace.setup.bounds ≤ REPLICA_IDS =
      replicas_are_few trace.setup.bounds (is_run.setup).few_faults in
      let kinds : length (kinds_at trace.setup place) ≤ length trace.setup.kinds = few_kinds trace.setup place in
      let most : length trace.setup.kinds ≤ OBJECT_IDS = (is_run.setup).kinds in
      subst StateFits (sym (opening_at trace place state found))
      (opening-fits (record { 0 = place }) (ring_of trace.setup) (kinds_at trace.setup place)
      (omega (arith, below, all, few))
      (replicas_are_count trace.setup.bounds (is_run.setup).some_faults (is_run.setup).few_faults)
      (omega (arith, kinds, most)));
  letters = subst (λ (world : WorldState). AllByRecursion (TellsOnly (IsOfCorrect trace 0)) (letters_of world.entries))
      (sym (world_after-none trace)) tt;
  votes = λ place state found.
      subst (λ (it : ReplicaState). AreCounted (trace.setup.bounds + 1) (IsVote trace 0) it.fetching)
      (sym (opening_at trace place state found))
      (opening_counted (trace.setup.bounds + 1) (IsVote trace 0) (record { 0 = place }) (ring_of trace.setup)
      (kinds_at trace.setup place));
}

-- each world of a run is true
pub true_world : (trace : Trace) → IsRun trace → ArePlain trace → (count : ℕ) → count ≤ length trace.entries
    → IsTrueWorld trace count (world_after trace count)
true_world trace is_run have zero within = opening_true trace is_run
true_world trace is_run have (suc count) within =
    let before : IsTrueWorld trace count (world_after trace count) = true_world trace is_run have count (omega arith) in
    let default : Entry = some_entry trace.entries (omega arith) in
    let after : IsTrueWorld trace (count + 1) (world_after trace (count + 1)) =
    subst (IsTrueWorld trace (count + 1)) (sym (world_after-next trace count default (omega arith)))
    (step_true trace is_run have count (omega arith) before (get_or trace.entries count default).event
    (have.plain_at count default (omega arith))) in
    subst (λ (it : ℕ). IsTrueWorld trace it (world_after trace it)) (add-one count) after
