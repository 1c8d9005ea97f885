-- What a replica says when it tells Already: the version of an established candidate keeps the update, so that a
-- candidate of the update on the way to it is decided, and its version has the answer.
use Rattle.std.proofs.Common.{◌≡◌, ℕ, ◌+◌, ◌<◌, ◌≤◌, true, List, length, Some, sym, ap, ◌∙◌, arith}
use Rattle.std.proofs.lemmas.Option.{get_or_from_slice_get}
use Rattle.qu_base.specs.declared.party.ClientId.{ClientId}
use Rattle.qu_base.specs.declared.party.Digest.{Digest}
use Rattle.qu_base.specs.declared.party.ObjectId.{ObjectId}
use Rattle.qu_base.specs.Bounds.{quorum}
use Rattle.qu_stamp.specs.declared.candidate.Candidate.{Candidate}
use Rattle.qu_history.specs.Sets.{entries_of, method_at}
use Rattle.qu_claims.specs.Setting.{acceptors, IsEstablished}
use Rattle.qu_chain.specs.Laws.{Laws}
use Rattle.qu_claims.specs.Decided.{IsDecided}
use Rattle.qu_chain.specs.Joint.{Joint}
use Rattle.qu_quick.proofs.FreshNumbers.{up_to_decided}
use Rattle.qu_objects.specs.declared.act.Method.{Method}
use Rattle.qu_objects.specs.declared.answer.Answer.{Answer}
use Rattle.qu_objects.specs.declared.state.KeptRow.{KeptRow}
use Rattle.qu_objects.specs.declared.state.ObjState.{ObjState}
use Rattle.qu_objects.specs.Digesting.{act_digest}
use Rattle.qu_frames.specs.declared.frame.Body.TheVariants as body
use Rattle.qu_verdicts.specs.declared.verdict.Verdict.{Verdict}
use Rattle.qu_verdicts.specs.declared.verdict.Verdict.TheVariants as verdict
use Rattle.qu_trace.specs.declared.trace.Entry.{Entry}
use Rattle.qu_trace.specs.declared.trace.Trace.{Trace}
use Rattle.qu_world.specs.Run.{IsRun}
use Rattle.qu_claims.specs.Carried.{handed}
use Rattle.qu_claims.specs.Handled.{IsHandled, IsMadeFor}
use Rattle.qu_runs.specs.Plain.{ArePlain}
use Rattle.qu_claims.specs.RunSetting.{setting}
use Rattle.qu_claims.specs.Times.{world_after}
use Rattle.qu_laws.proofs.KeptEntries.{base_accepted}
use Rattle.qu_claims.specs.Handling.{Handles}
use Rattle.qu_accepts.proofs.Handling.{mid_bounds, same_culled}
use Rattle.qu_chain.proofs.Ancestry.{acceptors-later}
use Rattle.qu_replies.specs.Replies.{Keeps, HasKept, IsReplyTo, culled_in}
use Rattle.qu_claims.specs.Updates.{IsEverAccepted}
use Rattle.qu_claims.specs.Values.{HasVersion}
use Rattle.qu_values.proofs.Versions.EverAccepted.{quorum_ever}
use Rattle.qu_replies.proofs.RepliesInRuns.{act_of_update, update_brings, update_known}
use Rattle.qu_values.proofs.Versions.StoredValues.{upon_is}
use Rattle.qu_values.proofs.Updating.UpdateFacts.{UpdateFacts}
use Rattle.qu_claims.specs.Truth.{IsAncestorOrSelf, IsWritten}
use Rattle.qu_history.specs.declared.sets.SetOf.{SetOf}

-- on an object, a candidate of the act that was decided by this time, whose version keeps the answer, and the
-- established one that rests on it
pub record KeptPart (trace : Trace) (client : ClientId) (number : ℕ) (parts : List (ObjectId × Method))
    (answer : Answer) (time : ℕ) (object : ObjectId) : Type 0 where
  pub candidate : Candidate
  pub made : IsMadeFor trace candidate client number parts
  pub version : ObjState
  pub has : HasVersion trace object candidate version
  pub keeps : Keeps client number (act_digest client number parts) answer version
  pub decided : IsDecided (setting trace) time object candidate
  pub complete : Candidate
  pub upon : IsAncestorOrSelf trace object candidate complete
  pub established : IsEstablished (setting trace) time object complete

module _ (trace : Trace) (is_run : IsRun trace) (have : ArePlain trace) (laws : Laws (setting trace))
    (joint : Joint (setting trace)) (facts : UpdateFacts trace) where
  -- ---- what a reply keeps

  module _ (at : ℕ) (below : at < length trace.entries) (replica : ℕ) (client : ClientId) (number round : ℕ)
      (answer : Answer) (reply : IsReplyTo trace at replica client number round (verdict.Already answer))
      (parts : List (ObjectId × Method)) (handled : IsHandled trace client number parts) (its : Answer)
      (object : ObjectId) (kept : HasKept (reply.handles).mid client number (act_digest client number parts)
      (culled_in (reply.handles).mid reply.sets) its object) where
    abbrev given : Verdict
    given = verdict.Already answer

    abbrev act : Digest
    act = act_digest client number parts

    abbrev handles : Handles trace at replica reply.old reply.new
    handles = reply.handles

    -- the base in the sets that it kept
    method_kept : method_at trace.setup.bounds (entries_of object (culled_in handles.mid reply.sets))
        ≡ Some kept.base
    method_kept =
        ap (λ (bounds : ℕ). method_at bounds (entries_of object (culled_in handles.mid reply.sets)))
        (sym (mid_bounds trace at replica reply.old reply.new handles)) ∙ kept.method

    base_shown : quorum trace.setup.bounds
        ≤ acceptors (setting trace) at object kept.base + (setting trace).faults
    base_shown =
        let at_first : quorum trace.setup.bounds
        ≤ acceptors (setting trace) handles.since object kept.base + (setting trace).faults =
        base_accepted trace is_run have handles.since (omega (arith, below, handles.came)) handles.entry replica
        handles.receiver handles.is_receiver handles.text
        (ap (λ (it : Entry). handed (world_after trace handles.since) it.event)
        (get_or_from_slice_get trace.entries handles.since handles.entry handles.entry handles.is_entry)
        ∙ handles.is_handed) client number round reply.sets
        (body.Act (act_of_update trace is_run have at below replica client number round given tt reply).parts)
        reply.mac (update_brings trace is_run have at below replica client number round given tt reply)
        (update_known trace is_run have at below replica client number round given tt reply) object kept.base
        (ap (λ (sets : List SetOf). method_at trace.setup.bounds (entries_of object sets))
        (same_culled trace at replica reply.old reply.new handles reply.sets) ∙ method_kept) in
        let later : acceptors (setting trace) handles.since object kept.base
        ≤ acceptors (setting trace) at object kept.base =
        acceptors-later (setting trace) laws.lasting handles.since at handles.came object kept.base in
        omega (arith, at_first, later)

    base_established : IsEstablished (setting trace) at object kept.base
    unfolding setting
    base_established =
        let shown : quorum trace.setup.bounds
        ≤ acceptors (setting trace) at object kept.base + (setting trace).faults = base_shown in
        let few : (setting trace).faults ≤ trace.setup.bounds = laws.lasting.sizes.borne in
        omega (arith, shown, few)

    base_ever : IsEverAccepted trace object kept.base
    base_ever = quorum_ever trace laws at (omega arith) object kept.base base_shown

    base_plain : (setting trace).plain kept.base ≡ true
    base_plain =
        facts.plain_base object kept.base (entries_of object (culled_in handles.mid reply.sets)) method_kept base_ever

    -- the version that is found under its stamp is its own
    base_version : HasVersion trace object kept.base kept.version
    base_version =
        upon_is trace laws joint is_run have at below replica reply.old reply.new handles object kept.base base_ever
        kept.version kept.of_base

    pub kept_part : KeptPart trace client number parts its at object
    unfolding setting
    kept_part =
        let row : KeptRow = record { client = client; number = number; act = act; answer = its } in
        let it : IsWritten trace object kept.base client row =
        facts.written object kept.base kept.version base_version base_ever client row kept.keeps in
        let made : IsMadeFor trace it.first (it.update).client (it.update).number (it.update).parts =
        (it.is_of).made in
        record {
          candidate = it.first;
          made = record {
            handled = handled;
            of_client = made.of_client ∙ it.of_client;
            of_act = made.of_act ∙ ap (λ (digest : Digest). Some digest) (sym it.of_act);
          };
          version = it.its;
          has = it.has;
          keeps = it.keeps;
          decided = up_to_decided trace laws joint at (omega arith) object kept.base base_plain base_established
              it.first it.accepted it.up_to;
          complete = kept.base;
          upon = it.up_to;
          established = base_established;
        }
