-- What replicas learn was found by correct replicas before: of as many identical answers as are needed one is of a
-- correct replica.
use Rattle.std.proofs.Common.{◌≡◌, ℕ, ◌+◌, ◌<◌, true, List, [], ◌∷◌, length, get_or, Option, None, Some, IfSome, inl, inr, refl, sym, ap, subst, ◌∙◌, arith, slice_get}
use Rattle.std.specs.List.{AllByRecursion}
use Rattle.std.proofs.lemmas.Bool.{and_parts, false≢true, not-true}
use Rattle.std.proofs.lemmas.List.{append-nil}
use Rattle.std.proofs.lemmas.List.Elements.{All-nil, All-cons, All-contains, All-from_recursion}
use Rattle.std.proofs.lemmas.Option.{get_or_from_slice_get}
use Rattle.std.proofs.lemmas.Slice.Eq.{bytes_eq-Decides}
use Rattle.qu_base.specs.declared.party.ObjectId.{ObjectId}
use Rattle.qu_base.specs.declared.party.Party.{Party}
use Rattle.qu_base.specs.declared.party.Party.TheVariants as party
use Rattle.qu_base.specs.declared.party.ReplicaId.{ReplicaId}
use Rattle.qu_base.specs.Bounds.{replicas}
use Rattle.qu_base.proofs.PrefixCodes.{one_spelling}
use Rattle.qu_base.proofs.ThresholdFacts.{replicas_are_few}
use Rattle.qu_base.proofs.EachItem.{each_weaker}
use Rattle.qu_stamp.specs.declared.stamp.Stamp.{Stamp}
use Rattle.qu_waiting.specs.declared.vote.Vote.{Vote}
use Rattle.qu_waiting.specs.Fetching.{same_bytes, completes}
use Rattle.qu_objects.specs.declared.state.ObjState.{ObjState}
use Rattle.qu_objects.specs.States.{state_form}
use Rattle.qu_objects.proofs.StateLaws.{state-exact}
use Rattle.qu_frames.specs.declared.frame.Frame.{Frame}
use Rattle.qu_frames.specs.declared.frame.Frame.TheVariants as frame
use Rattle.qu_frames.specs.Signing.{brought}
use Rattle.qu_frames.proofs.Signed.{brought_is_decoded}
use Rattle.qu_rows.specs.State.{ReplicaState}
use Rattle.qu_waiting.specs.Waiting.{Running}
use Rattle.qu_waiting.specs.Slots.{fetch_under}
use Rattle.qu_replica.specs.Step.{is_found, completes_fetch, learned}
use Rattle.qu_replica.proofs.States.Learning.{Learned, is_learned}
use Rattle.qu_replica.proofs.Fits.FitSteps.{fetched_state}
use Rattle.qu_trace.specs.declared.trace.Entry.{Entry}
use Rattle.qu_trace.specs.declared.trace.Trace.{Trace}
use Rattle.qu_trace.specs.Faulty.{is_good}
use Rattle.qu_world.specs.Run.{IsRun}
use Rattle.qu_claims.specs.Carried.{Brings, handed}
use Rattle.qu_claims.specs.Handling.{WasFound, Learns}
use Rattle.qu_claims.specs.Premises.{AreUnforged}
use Rattle.qu_claims.specs.Times.{world_after}
use Rattle.qu_runs.specs.Plain.{ArePlain}
use Rattle.qu_runs.proofs.Fits.Fitting.{handed_fits}
use Rattle.qu_runs.proofs.Worlds.FewFaults.{few_faulty}
use Rattle.qu_runs.proofs.Worlds.OpeningReplicas.{keys_are, me_is}
use Rattle.qu_accepts.proofs.GoodVoters.{GoodVote, completing_voter}
use Rattle.qu_accepts.proofs.Votes.{BringsVote, Counts, found_under}
use Rattle.qu_accepts.proofs.TrueVotes.{keyed, IsOfCorrect, VoteFound, IsVote, IsTrueWorld, unforged_sender, brought_vote, true_world}

-- the fetch that an answer completes
record IsCompleted (old : ReplicaState) (replica : ReplicaId) (object : ObjectId) (stamp : Stamp) (text : List ℕ) : Type
    0 where
  running : Running
  under : fetch_under object stamp old.fetching ≡ Some running
  done : completes running.answers replica text ≡ true

completed : (old : ReplicaState) (replica : ReplicaId) (object : ObjectId) (stamp : Stamp) (version : ObjState)
    → is_found old replica object stamp version ≡ true
    → IsCompleted old replica object stamp (state_form.spell version)
completed old replica object stamp version found =
    by (fetch_under object stamp old.fetching) refl (and_parts _ _ found).1
  where
    by : (under : Option Running) → fetch_under object stamp old.fetching ≡ under
        → completes_fetch under replica (state_form.spell version) ≡ true
        → IsCompleted old replica object stamp (state_form.spell version)
    by None is done = absurd (false≢true done)
    by (Some running) is done = record { running = running; under = is; done = done }

module _ (trace : Trace) (is_run : IsRun trace) (have : ArePlain trace) (at : ℕ) (below : at < length trace.entries)
    (place : ℕ) (old : ReplicaState) (is_old : slice_get (world_after trace at).replicas place ≡ Some old)
    (entry : Entry) (is_entry : slice_get trace.entries at ≡ Some entry) (text : List ℕ)
    (is_handed : handed (world_after trace at) entry.event ≡ Some (party.Replica (record { 0 = place }), text)) where
  abbrev me : Party
  me = party.Replica (record { 0 = place })

  abbrev here : IsTrueWorld trace at (world_after trace at)
  here = true_world trace is_run have at (omega arith)

  hands : handed (world_after trace at) (get_or trace.entries at entry).event ≡ Some (me, text)
  hands =
      ap (λ (it : Entry). handed (world_after trace at) it.event)
      (get_or_from_slice_get trace.entries at entry entry is_entry) ∙ is_handed

  unforged : AreUnforged (world_after trace at) me text
  unforged =
      subst (λ (given : Option (Party × List ℕ)). IfSome given
      (λ (it : Party × List ℕ). AreUnforged (world_after trace at) it.0 it.1)) hands (have.unforged at entry below)

  -- an answer that a text brings
  handed_vote : (taken : Frame) → Brings old text taken → (object : ObjectId) (stamp : Stamp) (vote : Vote (List ℕ))
      → BringsVote taken object stamp vote → IsVote trace at object stamp vote
  handed_vote taken brings object stamp vote is =
      brought_vote trace at here me text (unforged_sender (world_after trace at) me text unforged)
      (handed_fits trace is_run have.typed at entry below me text hands) old.keys (keys_are trace at place old is_old)
      taken
      (subst (λ (it : ReplicaId). brought old.keys (party.Replica it) text ≡ Some taken)
      (me_is trace at place old is_old) brings) object stamp vote is

  -- each answer to the fetch that runs under a key
  votes_under : (object : ObjectId) (stamp : Stamp) (running : Running)
      → fetch_under object stamp old.fetching ≡ Some running
      → (running.answers.need ≡ trace.setup.bounds + 1)
      × AllByRecursion (IsVote trace at object stamp) running.answers.votes
  votes_under object stamp running under =
      let votes : List (Vote (List ℕ)) = running.answers.votes in
      let counted = found_under (Counts (trace.setup.bounds + 1) (IsVote trace at)) object stamp old.fetching running
      (here.votes place old is_old) under in (
        counted.0.needs,
        subst (λ (it : ObjectId). AllByRecursion (IsVote trace at it stamp) votes) counted.1
            (subst (λ (it : Stamp). AllByRecursion (IsVote trace at running.object it) votes) counted.2
            counted.0.each),
      )

  -- the version that an answer brings which completes its fetch
  pub found_true : (replica : ReplicaId) (object : ObjectId) (stamp : Stamp) (version : ObjState) (mac : List ℕ)
      → Brings old text (frame.Fetched replica object stamp version mac)
      → is_found old replica object stamp version ≡ true → IsOfCorrect trace at object stamp version
  found_true replica object stamp version mac brings found =
      let taken : Frame = frame.Fetched replica object stamp version mac in
      let spelled : List ℕ = state_form.spell version in
      let last : IsCompleted old replica object stamp spelled = completed old replica object stamp version found in
      let votes : List (Vote (List ℕ)) = (last.running).answers.votes in
      let new : Vote (List ℕ) = record { replica = replica; value = spelled } in
      let n : ℕ = replicas trace.setup.bounds in
      let under = votes_under object stamp last.running last.under in
      let is_new : IsVote trace at object stamp new =
      handed_vote taken brings object stamp new
      (record { version = version; mac = mac; is_received = refl; value = refl }) in
      let each : AllByRecursion (IsVote trace at object stamp) (new ∷ votes) = (is_new, under.1) in
      let known : AllByRecursion (λ (vote : Vote (List ℕ)). (vote.replica).0 < n) (new ∷ votes) =
      each_weaker (IsVote trace at object stamp) (λ (vote : Vote (List ℕ)). (vote.replica).0 < n) (new ∷ votes)
      (λ vote is. is.within) each in
      let good : GoodVote (λ answer. same_bytes answer spelled) (is_good trace.setup) (new ∷ votes) =
      completing_voter n trace.setup.bounds (is_good trace.setup) (last.running).answers new
      (replicas_are_few trace.setup.bounds (is_run.setup).few_faults)
      (All-from_recursion (λ (vote : Vote (List ℕ)). (vote.replica).0 < n) (new ∷ votes) known)
      (few_faulty trace.setup n (is_run.setup).few) under.0 last.done in
      let vote : Vote (List ℕ) = good.vote in
      let told : VoteFound trace at object stamp vote =
      (All-contains (IsVote trace at object stamp) (new ∷ votes) vote
      (All-from_recursion (IsVote trace at object stamp) (new ∷ votes) each) good.among).told
      (not-true _ good.correct) in
      let fits : state_form.Fits version =
      fetched_state replica object stamp version mac
      (handed_fits trace is_run have.typed at entry below me text hands taken
      (brought_is_decoded old.keys (party.Replica old.me) text taken brings)) in
      let text_is : vote.value ≡ spelled = (bytes_eq-Decides vote.value spelled).0 good.passes in
      let same : told.version ≡ version =
      one_spelling state_form state-exact told.version version told.fits fits (sym told.value ∙ text_is) in
      subst (IsOfCorrect trace at object stamp) same told.found

  -- what a replica learns of a frame was found before
  pub learns_true : (taken : Frame) → Brings old text taken → Learns trace at old (learned old taken)
  learns_true taken brings =
      let is : Learned old taken (learned old taken) = is_learned old taken in
      elim is.versions [
        | inl same ↦ record {
          me = is.me;
          keys = is.keys;
          histories = is.histories;
          more = [];
          versions = same ∙ sym (append-nil old.versions);
          were_found = All-nil (WasFound trace at);
        }
        | inr found ↦ record {
          me = is.me;
          keys = is.keys;
          histories = is.histories;
          more = keyed found.object found.stamp found.version ∷ [];
          versions = found.versions;
          were_found = All-cons (WasFound trace at) (keyed found.object found.stamp found.version) []
              (found_true found.replica found.object found.stamp found.version found.mac
              (brings ∙ ap (λ (it : Frame). Some it) found.is_taken) found.found)
              (All-nil (WasFound trace at));
        }
      ]
