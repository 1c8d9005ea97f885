-- Candidates with one stamp were made upon the same histories, where no two texts have one digest: the stamp holds the
-- digest of the culled sets.
use Rattle.std.proofs.Common.{◌≡◌, List, length, Some, refl, sym, ap, subst, ◌∙◌, arith}
use Rattle.std.specs.Prelude.{Contains}
use Rattle.qu_base.specs.declared.party.ObjectId.{ObjectId}
use Rattle.qu_base.specs.declared.party.Party.TheVariants as party
use Rattle.qu_base.proofs.Items.{contains_at}
use Rattle.qu_seal.specs.declared.constants.TheConstants.{SETS_TAG}
use Rattle.qu_seal.specs.Digesting.{digest_of}
use Rattle.qu_stamp.specs.declared.stamp.Stamp.{Stamp}
use Rattle.qu_stamp.specs.declared.candidate.Candidate.{Candidate}
use Rattle.qu_history.specs.declared.sets.SetOf.{SetOf}
use Rattle.qu_history.specs.Formats.{sets_form}
use Rattle.qu_history.specs.Text.{sets_text, sets_digest}
use Rattle.qu_agreed.proofs.Unsealed.{entries_of-one, sets_text-one}
use Rattle.qu_class.specs.Class.{is_in_sets}
use Rattle.qu_plan.proofs.SameShown.{is_in_same}
use Rattle.qu_frames.specs.declared.frame.Frame.{Frame}
use Rattle.qu_frames.specs.Formats.{frame_form}
use Rattle.qu_fitting.proofs.FitCulled.{culled-fits}
use Rattle.qu_fitting.proofs.FitRequests.{request-fits}
use Rattle.qu_trace.specs.declared.event.Event.{Event}
use Rattle.qu_trace.specs.declared.trace.Entry.{Entry}
use Rattle.qu_trace.specs.declared.trace.Trace.{Trace}
use Rattle.qu_world.specs.Run.{IsRun}
use Rattle.qu_world.proofs.Each.{each_at}
use Rattle.qu_claims.specs.Digested.{Text, texts_of, digested, NoCollision}
use Rattle.qu_claims.specs.Grounds.{Accepts}
use Rattle.qu_claims.specs.Handled.{Request, handled_by}
use Rattle.qu_claims.specs.Handling.{Handles}
use Rattle.qu_claims.specs.Named.{shown_to}
use Rattle.qu_claims.specs.Origins.{Origin}
use Rattle.qu_claims.specs.Times.{world_after}
use Rattle.qu_runs.specs.Plain.{HasEventParts, ArePlain}
use Rattle.qu_runs.proofs.Digests.DigestedTexts.{request_digested}
use Rattle.qu_runs.proofs.Events.Handing.{handed_offers}
use Rattle.qu_runs.proofs.Fits.Carrying.{brings_decoded}
use Rattle.qu_runs.proofs.Fits.Fitting.{offered_fits}
use Rattle.qu_accepts.proofs.Handled.{request_upon, upon_handled}

-- the text of sets
abbrev text_of : List SetOf → Text
text_of sets = record { tag = SETS_TAG; bytes = sets_text sets }

module _ (trace : Trace) (is_run : IsRun trace) (plain : ArePlain trace) where
  -- the culled sets upon which a candidate was accepted
  abbrev pub sets_upon : (object : ObjectId) (candidate : Candidate) → Origin trace (length trace.entries) object
      candidate → List SetOf
  sets_upon object candidate it = ((it.delivered).accepts).sets

  -- the event of an entry has parts
  event_parts : (entry : Entry) → Contains trace.entries entry → (event : Event) → event ≡ entry.event
      → HasEventParts event
  event_parts entry among event is =
      subst HasEventParts (ap (λ (it : Entry). it.event) among.2 ∙ sym is)
      (each_at (λ (it : Entry). HasEventParts it.event) trace.entries among.0 entry (plain.typed).parts among.1)

  sets_fit : (object : ObjectId) (candidate : Candidate)
      (it : Origin trace (length trace.entries) object candidate) → sets_form.Fits (sets_upon object candidate it)
  sets_fit object candidate it =
      let handles : Handles trace it.past it.place it.old it.new = (it.delivered).handles in
      let one : Accepts handles.mid it.new handles.carried = (it.delivered).accepts in
      let fits : frame_form.Fits handles.carried =
      offered_fits trace is_run plain.typed handles.since (omega (arith, it.earlier, handles.came))
      (handles.entry).event
      (event_parts handles.entry (contains_at trace.entries handles.since handles.entry handles.is_entry)
      (handles.entry).event refl)
      (party.Replica (record { 0 = it.place })) handles.text
      (handed_offers (world_after trace handles.since) (handles.entry).event (party.Replica (record { 0 = it.place }))
      handles.text handles.is_handed) handles.carried
      (brings_decoded handles.receiver handles.text handles.carried handles.brings) in
      subst sets_form.Fits one.culls
      (culled-fits (handles.mid).keys (handles.mid).me one.sent
      (request-fits one.client one.number one.round one.sent one.asks one.mac
      (subst (λ (sent : Frame). frame_form.Fits sent) one.is_request fits)).shown)

  sets_digested : (object : ObjectId) (candidate : Candidate)
      (it : Origin trace (length trace.entries) object candidate) → Contains (digested trace)
      (text_of (sets_upon object candidate it))
  sets_digested object candidate it =
      let sets : List SetOf = sets_upon object candidate it in
      let handles : Handles trace it.past it.place it.old it.new = (it.delivered).handles in
      let request : Request = request_upon handles.mid it.new handles.carried (it.delivered).accepts in
      let handled : handled_by trace (handles.entry).event ≡ Some request =
      upon_handled trace is_run it.past it.earlier it.place it.old it.new object it.delivered in
      let among : Contains (texts_of (Some request)) (text_of sets) = (0, omega arith, refl) in
      request_digested trace handles.entry (Some request) (text_of sets)
      (contains_at trace.entries handles.since handles.entry handles.is_entry) handled among

  -- the stamp holds the digest of the sets
  digest_named : (object : ObjectId) (candidate : Candidate)
      (it : Origin trace (length trace.entries) object candidate) → ((candidate.stamp).set).0 ≡ digest_of SETS_TAG
      (sets_text (sets_upon object candidate it))
  unfolding sets_digest
  digest_named object candidate it = ap (λ (made : Stamp). (made.set).0) (it.made).stamp

  -- ---- what it names

  module _ (no_collision : NoCollision trace) (object : ObjectId) (first second : Candidate)
      (one : Origin trace (length trace.entries) object first)
      (other : Origin trace (length trace.entries) object second) (same : first.stamp ≡ second.stamp) where
    same_text : sets_text (sets_upon object first one) ≡ sets_text (sets_upon object second other)
    same_text =
        let sets : List SetOf = sets_upon object first one in
        let others : List SetOf = sets_upon object second other in
        let digests : digest_of SETS_TAG (sets_text sets) ≡ digest_of SETS_TAG (sets_text others) =
        sym (digest_named object first one) ∙ ap (λ (stamp : Stamp). (stamp.set).0) same
        ∙ digest_named object second other in
        ap (λ (it : Text). it.bytes)
        (no_collision (text_of sets) (text_of others) (sets_digested object first one)
        (sets_digested object second other) digests)

    pub same_histories : (of : ObjectId) → shown_to trace (length trace.entries) object first one of
        ≡ shown_to trace (length trace.entries) object second other of
    same_histories of =
        entries_of-one (sets_upon object first one) (sets_upon object second other) (sets_fit object first one)
        (sets_fit object second other) same_text of

    -- and so the sets are of the same objects
    pub same_objects : (of : ObjectId) → is_in_sets (sets_upon object first one) of
        ≡ is_in_sets (sets_upon object second other) of
    same_objects =
        is_in_same (sets_upon object first one) (sets_upon object second other)
        (sets_text-one (sets_upon object first one) (sets_upon object second other) (sets_fit object first one)
        (sets_fit object second other) same_text)
