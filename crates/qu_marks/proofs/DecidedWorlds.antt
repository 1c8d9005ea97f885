-- What is decided in the worlds of a run, by the rules that mark it, is what the theory of what is decided calls so.
use Rattle.std.proofs.Common.{◌≡◌, ◌+◌, ◌≤◌, true, ap, ◌∙◌, arith, not, ℕ}
use Rattle.std.specs.Prelude.{count_by, nat_le}
use Rattle.std.proofs.lemmas.Bool.{le-leb, leb-true, and_from, and_parts}
use Rattle.qu_base.specs.declared.party.ObjectId.{ObjectId}
use Rattle.qu_base.specs.Bounds.{quorum, AreThresholds}
use Rattle.qu_stamp.specs.declared.candidate.Candidate.{Candidate}
use Rattle.qu_trace.specs.declared.trace.Setup.{Setup}
use Rattle.qu_world.specs.State.{WorldState}
use Rattle.qu_claims.specs.Accepted.{accepts, is_accepted}
use Rattle.qu_marks.specs.Tracker.{is_established, IsDecidedIn}
use Rattle.qu_runs.proofs.Worlds.WorldGrowth.{HasMore, is_accepted-more, count-more}
use Rattle.qu_claims.specs.Setting.{IsAccepted, IsEstablished, acceptors}
use Rattle.qu_claims.specs.Decided.{IsDecided}
use Rattle.qu_world.specs.Run.{IsRun}
use Rattle.qu_trace.specs.declared.trace.Trace.{Trace}
use Rattle.qu_runs.proofs.Worlds.Settings.{accepted_of, acceptors_are, is_accepted_by}
use Rattle.qu_base.proofs.ThresholdFacts.{are_thresholds}
use Rattle.qu_claims.specs.RunSetting.{setting}
use Rattle.qu_runs.proofs.Digests.Plain.{setup_after}
use Rattle.qu_claims.specs.Times.{world_after}

is_established-more : (old new : WorldState) → HasMore old new → (object : ObjectId) (candidate : Candidate)
    → is_established old object candidate ≡ true → is_established new object candidate ≡ true
is_established-more old new more object candidate established =
    let parts = and_parts (not candidate.stamp.barrier) _ established in
    let count : count_by (accepts object candidate) old.replicas ≤ count_by (accepts object candidate) new.replicas =
    count-more object candidate old.replicas new.replicas more.replicas in
    let enough : quorum old.setup.bounds ≤ count_by (accepts object candidate) old.replicas + old.setup.bounds =
    leb-true _ _ parts.1 in
    and_from (not candidate.stamp.barrier) _ parts.0
    (ap (λ (setup : Setup).
    nat_le (quorum setup.bounds) (count_by (accepts object candidate) new.replicas + setup.bounds)) more.setup
    ∙ le-leb _ _ (omega arith))

-- what is decided stays so
still_decided : (old new : WorldState) → HasMore old new → (object : ObjectId) (candidate : Candidate)
    → IsDecidedIn old object candidate → IsDecidedIn new object candidate
still_decided old new more object candidate (IsDecidedIn.by_acceptors same accepted established) =
    IsDecidedIn.by_acceptors candidate (is_accepted-more old new more object candidate accepted)
    (is_established-more old new more object candidate established)
still_decided old new more object candidate (IsDecidedIn.as_prior same child decided prior accepted) =
    IsDecidedIn.as_prior candidate child (still_decided old new more object child decided) prior
    (is_accepted-more old new more object candidate accepted)

-- what is decided was accepted
pub accepted_by_decided : (world : WorldState) (object : ObjectId) (candidate : Candidate)
    → IsDecidedIn world object candidate → is_accepted world object candidate ≡ true
accepted_by_decided world object candidate (IsDecidedIn.by_acceptors same accepted established) = accepted
accepted_by_decided world object candidate (IsDecidedIn.as_prior same child decided prior accepted) = accepted

-- ---- the worlds of a run

pub in_setting : (trace : Trace) (time : ℕ) (object : ObjectId) (candidate : Candidate)
    → IsDecidedIn (world_after trace time) object candidate → IsDecided (setting trace) time object candidate
unfolding setting
in_setting trace time object candidate (IsDecidedIn.by_acceptors same accepted established) =
    let world : WorldState = world_after trace time in
    let parts = and_parts (not candidate.stamp.barrier) _ established in
    let enough : quorum world.setup.bounds ≤ count_by (accepts object candidate) world.replicas + world.setup.bounds =
    leb-true _ _ parts.1 in
    let counted : acceptors (setting trace) time object candidate ≡ count_by (accepts object candidate) world.replicas =
    acceptors_are trace time object candidate in
    IsDecided.established candidate parts.0 (rw (setup_after trace time) at (rw (← counted) at enough))
in_setting trace time object candidate (IsDecidedIn.as_prior same child decided prior accepted) =
    IsDecided.prior candidate child (in_setting trace time object child decided) prior
    (accepted_of trace time object candidate accepted)

module _ (trace : Trace) (is_run : IsRun trace) where
  established_accepted : (time : ℕ) (object : ObjectId) (candidate : Candidate)
      → IsEstablished (setting trace) time object candidate → IsAccepted (setting trace) time object candidate
  unfolding setting
  established_accepted time object candidate established =
      let thresholds : AreThresholds trace.setup.bounds =
      are_thresholds trace.setup.bounds (is_run.setup).some_faults in
      omega arith

  pub in_world : (time : ℕ) (object : ObjectId) (candidate : Candidate)
      → IsDecided (setting trace) time object candidate → IsDecidedIn (world_after trace time) object candidate
  unfolding setting
  in_world time object candidate (IsDecided.established same plain established) =
      let world : WorldState = world_after trace time in
      let counted : acceptors (setting trace) time object candidate
      ≡ count_by (accepts object candidate) world.replicas = acceptors_are trace time object candidate in
      let enough : quorum trace.setup.bounds
      ≤ count_by (accepts object candidate) world.replicas + trace.setup.bounds = omega (arith, counted, established) in
      IsDecidedIn.by_acceptors candidate
      (is_accepted_by trace time object candidate (established_accepted time object candidate established))
      (and_from (not candidate.stamp.barrier) _ plain
      (ap (λ (setup : Setup).
      nat_le (quorum setup.bounds) (count_by (accepts object candidate) world.replicas + setup.bounds))
      (setup_after trace time)
      ∙ le-leb _ _ enough))
  in_world time object candidate (IsDecided.prior same child decided prior accepted) =
      IsDecidedIn.as_prior candidate child (in_world time object child decided) prior
      (is_accepted_by trace time object candidate accepted)

  pub decided_is_accepted : (time : ℕ) (object : ObjectId) (candidate : Candidate)
      → IsDecided (setting trace) time object candidate → is_accepted (world_after trace time) object candidate ≡ true
  decided_is_accepted time object candidate decided =
      accepted_by_decided (world_after trace time) object candidate (in_world time object candidate decided)

  pub decided_in_more : (time later : ℕ) → HasMore (world_after trace time) (world_after trace later)
      → (object : ObjectId) (candidate : Candidate)
      → IsDecided (setting trace) time object candidate → IsDecided (setting trace) later object candidate
  decided_in_more time later more object candidate decided =
      in_setting trace later object candidate
      (still_decided (world_after trace time) (world_after trace later) more object candidate
      (in_world time object candidate decided))
