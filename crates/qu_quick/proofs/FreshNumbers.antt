-- When an operation begins, what is established keeps of its client only lower numbers: its rows were written by
-- operations that began before.
use Rattle.std.proofs.Common.{◌≡◌, ℕ, ◌+◌, ◌<◌, ◌≤◌, true, List, length, Option, None, Some, refl, sym, ap, subst, ◌∙◌, arith, inl, inr, false}
use Rattle.std.specs.Prelude.{slice_get, Contains}
use Rattle.qu_base.specs.Bounds.{quorum}
use Rattle.qu_base.specs.declared.party.ClientId.{ClientId}
use Rattle.qu_base.specs.declared.party.ObjectId.{ObjectId}
use Rattle.qu_base.specs.declared.party.Party.TheVariants as party
use Rattle.qu_base.specs.declared.party.ReplicaId.{ReplicaId}
use Rattle.qu_seal.specs.Keys.{Ring}
use Rattle.qu_stamp.specs.declared.candidate.Candidate.{Candidate}
use Rattle.qu_history.specs.declared.sets.SetOf.{SetOf}
use Rattle.qu_history.specs.Culling.{culled}
use Rattle.qu_history.specs.Formats.{sets_form}
use Rattle.qu_history.specs.Sets.{entries_of, method_at}
use Rattle.qu_objects.specs.declared.state.KeptRow.{KeptRow}
use Rattle.qu_objects.specs.declared.state.ObjState.{ObjState}
use Rattle.qu_kept.specs.Rows.{row_of}
use Rattle.qu_kept.specs.Standing.{IsLower}
use Rattle.qu_frames.specs.declared.frame.Body.{Body}
use Rattle.qu_frames.specs.declared.frame.Letter.{Letter}
use Rattle.qu_machine.specs.declared.record.OpRecord.{OpRecord}
use Rattle.qu_trace.specs.declared.trace.Trace.{Trace}
use Rattle.qu_trace.specs.Faulty.{is_faulty}
use Rattle.qu_trace.specs.Operation.{operations_of}
use Rattle.qu_rows.specs.State.{ReplicaState}
use Rattle.qu_versions.specs.Versions.{version_at}
use Rattle.qu_world.specs.Run.{IsRun}
use Rattle.qu_claims.specs.Decided.{IsDecided}
use Rattle.qu_claims.specs.RunSetting.{setting}
use Rattle.qu_claims.specs.Setting.{IsAccepted, IsEstablished, acceptors}
use Rattle.qu_claims.specs.Times.{world_after}
use Rattle.qu_claims.specs.Truth.{IsAncestorOrSelf, IsWritten}
use Rattle.qu_claims.specs.Updates.{Update, IsOf, IsEverAccepted}
use Rattle.qu_claims.specs.Values.{HasVersion}
use Rattle.qu_chain.specs.Joint.{Joint}
use Rattle.qu_chain.specs.Laws.{Laws}
use Rattle.qu_chain.proofs.Ancestry.{accepted_by_attested, accepted_by_decided, attested_by_established, some-later}
use Rattle.qu_chain.proofs.Deciding.{decided_down}
use Rattle.qu_runs.specs.Plain.{ArePlain}
use Rattle.qu_laws.proofs.Acceptors.{method_is_shown}
use Rattle.qu_shown.proofs.AskedLetters.{AskedBy}
use Rattle.qu_rounds.specs.Invocations.{IsRequestOf}
use Rattle.qu_values.proofs.Requests.ClientFacts.{IsAskedBy, ClientFacts}
use Rattle.qu_runs.proofs.Acts.OneAct.{ActsAreOne, one_made_for}
use Rattle.qu_values.proofs.Updating.UpdateFacts.{UpdateFacts}
use Rattle.qu_values.proofs.Updating.Updates.{acts, last_is}
use Rattle.qu_values.proofs.Versions.EverAccepted.{quorum_ever}
use Rattle.qu_values.proofs.Versions.StoredValues.{version_is}
use Rattle.qu_points.proofs.Operations.Began.{earlier_is_lower, invoked_within}
use Rattle.qu_quick.proofs.MadeBefore.{own_client, IsAskedAt, asked_by_letter, MakesAct, made_before}

-- the operation of an update, which began before this time
record IsBegunBefore (trace : Trace) (time : ℕ) (client : ClientId) (number : ℕ) : Type 0 where
  operation : OpRecord
  of_trace : Contains (operations_of trace) operation
  of_client : operation.client ≡ client
  of_number : operation.number ≡ number
  before : operation.invoked < time

begun_by_request : (trace : Trace) (past time : ℕ) (client other : ClientId) (number turn : ℕ) (asks : Body)
    → IsRequestOf trace past client number asks → past < time → client ≡ other → number ≡ turn
    → IsBegunBefore trace time other turn
begun_by_request trace past time client other number turn asks request earlier same_client same_number =
    let begun : (request.operation).invoked ≤ past = request.begun in
    record {
      operation = request.operation;
      of_trace = request.of_trace;
      of_client = request.of_client ∙ same_client;
      of_number = request.of_number ∙ same_number;
      before = omega arith;
    }

-- what is up to an established candidate is decided
pub up_to_decided : (trace : Trace) → Laws (setting trace) → Joint (setting trace) → (time : ℕ)
    → time ≤ (setting trace).last → (object : ObjectId) (base : Candidate) → (setting trace).plain base ≡ true
    → IsEstablished (setting trace) time object base → (first : Candidate) → IsEverAccepted trace object first
    → IsAncestorOrSelf trace object first base → IsDecided (setting trace) time object first
up_to_decided trace laws joint time within object base plain established first accepted (inl same) =
    subst (IsDecided (setting trace) time object) (sym same) (IsDecided.established base plain established)
up_to_decided trace laws joint time within object base plain established first accepted (inr under) =
    decided_down (setting trace) laws joint time within object first base accepted under
    (IsDecided.established base plain established)

module _ (trace : Trace) (is_run : IsRun trace) (have : ArePlain trace) (clients : ClientFacts trace)
    (one_act : ActsAreOne trace) (laws : Laws (setting trace)) (joint : Joint (setting trace))
    (facts : UpdateFacts trace) where
  -- what a correct client is asked for is one of an operation, which began before
  request_of_asked : (time : ℕ) (client : ClientId) (number round : ℕ)
      (asked : IsAskedAt trace time client number round) → is_faulty trace.setup (party.Client client) ≡ false
      → IsRequestOf trace time client number asked.asks
  request_of_asked time client number round asked correct =
      let within : time < length trace.entries = asked.within in
      let letter : AskedBy trace time client number round asked.sets asked.asks =
      asked_by_letter trace have time client number round asked correct in
      clients.asks time letter.asked letter.letter client number round asked.sets asked.asks
      (record { within = omega arith; is_letter = letter.is_letter; is_request = letter.is_request })

  -- what is accepted of an update of a correct client is of an operation that began before
  begun_before_accepted : (time : ℕ) → time ≤ length trace.entries
      → (object : ObjectId) (candidate : Candidate) → IsAccepted (setting trace) time object candidate
      → (update : Update) → IsOf trace update object candidate
      → is_faulty trace.setup (party.Client update.client) ≡ false
      → IsBegunBefore trace time update.client update.number
  begun_before_accepted time within object candidate accepted update is_of correct =
      let made : (past : ℕ) × (past < time) × MakesAct trace is_run have past candidate =
      made_before trace is_run have time within object candidate accepted (acts trace update object candidate is_of) in
      let past : ℕ = made.0 in
      let upon : MakesAct trace is_run have past candidate = made.2 in
      let same : (upon.client ≡ update.client) × (upon.number ≡ update.number) × (upon.parts ≡ update.parts) =
      one_made_for trace one_act candidate upon.client update.client upon.number update.number upon.parts update.parts
      upon.made is_of.made in
      begun_by_request trace past time upon.client update.client upon.number update.number (upon.asked).asks
      (request_of_asked past upon.client upon.number upon.round upon.asked
      (subst (λ (who : ClientId). is_faulty trace.setup (party.Client who) ≡ false) (sym same.0) correct)) made.1
      same.0 same.1

  -- a candidate that has a version has no barrier
  plain_of_version : (object : ObjectId) (candidate : Candidate) (version : ObjState)
      → IsEverAccepted trace object candidate → HasVersion trace object candidate version
      → (setting trace).plain candidate ≡ true
  unfolding setting
  plain_of_version object candidate version ever (HasVersion.of_opening same kind is_kind) = refl
  plain_of_version object candidate version ever
      (HasVersion.of_copy same it base before state below plain not_act prior accepted has after) = plain
  plain_of_version object candidate version ever
      (HasVersion.of_update same it update bases befores afters state below is_of rests has values is lower) =
      facts.plain object candidate ever (acts trace update object candidate is_of)

  -- what began before a time at which the base is established wrote each row of the base's version
  row_began : (time : ℕ) → time ≤ length trace.entries → (object : ObjectId) (base : Candidate)
      → IsEstablished (setting trace) time object base
      → (version : ObjState) → HasVersion trace object base version
      → (client : ClientId) → is_faulty trace.setup (party.Client client) ≡ false
      → (row : KeptRow) → row_of client version.kept ≡ Some row
      → IsBegunBefore trace time client row.number
  row_began time within object base established version has client correct row found =
      let bound : time ≤ (setting trace).last = omega (arith, last_is trace, within) in
      let ever : IsEverAccepted trace object base =
      some-later (setting trace) laws.lasting time (setting trace).last bound object base
      (accepted_by_attested (setting trace) laws.lasting time object base
      (attested_by_established (setting trace) laws.lasting time object base established)) in
      let it : IsWritten trace object base client row = facts.written object base version has ever client row found in
      let accepted : IsAccepted (setting trace) time object it.first =
      accepted_by_decided (setting trace) laws.lasting time object it.first
      (up_to_decided trace laws joint time bound object base
      (plain_of_version object base version ever has) established it.first
      it.accepted it.up_to) in
      let begun : IsBegunBefore trace time (it.update).client (it.update).number =
      begun_before_accepted time within object it.first accepted it.update it.is_of
      (ap (λ (who : ClientId). is_faulty trace.setup (party.Client who)) it.of_client ∙ correct) in
      subst (IsBegunBefore trace time client) it.of_number
      (subst (λ (who : ClientId). IsBegunBefore trace time who (it.update).number) it.of_client begun)

  lower_by : (number : ℕ) (found : Option KeptRow) → ((row : KeptRow) → found ≡ Some row → row.number < number)
      → IsLower number found
  lower_by number None lower = tt
  lower_by number (Some row) lower = lower row refl

  module _ (operation : OpRecord) (among : Contains (operations_of trace) operation) where
    fresh_number : (object : ObjectId) (base : Candidate) → IsEstablished (setting trace) operation.invoked object base
        → (version : ObjState) → HasVersion trace object base version
        → IsLower operation.number (row_of operation.client version.kept)
    fresh_number object base established version has =
        lower_by operation.number (row_of operation.client version.kept) (λ row found.
        let begun : IsBegunBefore trace operation.invoked operation.client row.number =
        row_began operation.invoked (invoked_within trace operation among) object base established version has
        operation.client (own_client trace is_run operation among) row found in
        subst (λ (it : ℕ). it < operation.number) begun.of_number
        (earlier_is_lower trace begun.operation operation begun.of_trace among begun.of_client begun.before))

    -- ---- the base that a request shows which was sent by the event at which the operation began

    module _ (at : ℕ) (letter : Letter) (round number : ℕ) (sets : List SetOf) (asks : Body)
        (asked : IsAskedBy trace operation.invoked at letter operation.client number round sets asks)
        (fits : sets_form.Fits sets) (keys : Ring) (same : keys.bounds ≡ trace.setup.bounds) (me : ReplicaId)
        (object : ObjectId) (base : Candidate)
        (method : method_at trace.setup.bounds (entries_of object (culled keys me sets)) ≡ Some base) where
      base_shown : quorum trace.setup.bounds
          ≤ acceptors (setting trace) operation.invoked object base + (setting trace).faults
      base_shown =
          method_is_shown trace operation.invoked sets fits
          (clients.held operation.invoked at letter operation.client number round sets asks asked) keys same me object
          base method

      base_established : IsEstablished (setting trace) operation.invoked object base
      unfolding setting
      base_established =
          let shown : quorum trace.setup.bounds
          ≤ acceptors (setting trace) operation.invoked object base + (setting trace).faults = base_shown in
          let few : (setting trace).faults ≤ trace.setup.bounds = laws.lasting.sizes.borne in
          omega (arith, shown, few)

      pub base_ever : IsEverAccepted trace object base
      base_ever =
          quorum_ever trace laws operation.invoked (invoked_within trace operation among) object base base_shown

      module _ (count : ℕ) (within : count ≤ length trace.entries) (place : ℕ) (state : ReplicaState)
          (is_state : slice_get (world_after trace count).replicas place ≡ Some state) (version : ObjState)
          (found : version_at object base.stamp state.versions ≡ Some version) where
        -- what a replica finds under its stamp is its own
        pub found_version : HasVersion trace object base version
        found_version =
            version_is trace laws joint is_run have count within place state is_state object base base_ever version
            found

        -- and keeps of the client only lower numbers
        pub found_lower : IsLower operation.number (row_of operation.client version.kept)
        found_lower = fresh_number object base base_established version found_version
