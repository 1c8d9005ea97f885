-- A replica accepts only upon sets of objects that it has: it refuses a request with an object that it does not have.
use Rattle.std.proofs.Common.{◌≡◌, ◌⊎◌, ℕ, ◌+◌, Bool, true, false, not, ◌&&◌, cond, List, [], ◌∷◌, ◌++◌, length, Option, None, Some, refl, sym, ap, ◌∙◌, arith, inl, inr, length-append}
use Rattle.std.specs.Prelude.{slice_get, nat_le, nat_lt, find, option_map, ◌≤◌}
use Rattle.std.specs.List.{list_all}
use Rattle.std.proofs.lemmas.Option.{none-some}
use Rattle.qu_base.specs.declared.party.ClientId.{ClientId}
use Rattle.qu_base.specs.declared.party.ObjectId.{ObjectId}
use Rattle.qu_base.specs.declared.party.ReplicaId.{ReplicaId}
use Rattle.qu_seal.specs.Keys.{Ring}
use Rattle.qu_stamp.specs.declared.candidate.Candidate.{Candidate}
use Rattle.qu_history.specs.declared.sets.SetOf.{SetOf}
use Rattle.qu_history.specs.Culling.{culled}
use Rattle.qu_frames.specs.declared.frame.Body.TheVariants as body
use Rattle.qu_frames.specs.declared.frame.Frame.{Frame}
use Rattle.qu_frames.specs.declared.frame.Frame.TheVariants as frame
use Rattle.qu_verdicts.specs.declared.verdict.Refusal.{Refusal}
use Rattle.qu_verdicts.specs.declared.verdict.Refusal.TheVariants as refusal
use Rattle.qu_rows.specs.declared.decision.Decision.{Decision}
use Rattle.qu_rows.specs.State.{ReplicaState, own_candidates}
use Rattle.qu_rows.specs.Rows.{Asked, asked_at, refuse, row_unknown, decide_act, decide_ask, decide_repair, decision_on}
use Rattle.qu_rows.specs.declared.decision.Decision.TheVariants.{Waits}
use Rattle.qu_mends.specs.Table.{first_given}
use Rattle.qu_replica.specs.Step.{carried_out, replica_on_frame}
use Rattle.std.proofs.lemmas.Bool.{and_parts, and_from}
use Rattle.std.proofs.lemmas.Bool.Decides.{nat_tests}
use Rattle.qu_trace.specs.declared.trace.Setup.{Setup}
use Rattle.qu_trace.specs.declared.trace.Trace.{Trace}
use Rattle.qu_claims.specs.Grounds.{Accepts, IsDelivered, AddsTo}
use Rattle.qu_claims.specs.Handled.{is_of_setup}
use Rattle.qu_claims.specs.Handling.{Learns, Handles}
use Rattle.qu_claims.specs.Times.{world_after}
use Rattle.qu_runs.proofs.Worlds.Objects.{run_has, found_within}
use Rattle.qu_grounds.proofs.ActAcceptance.{accepted_in, AcceptsNothing, unknown, carried, stays, alike_candidates}
use Rattle.qu_frames.specs.declared.frame.Body.{Body}
use Rattle.qu_replica.specs.Growth.{HoldsAlike}
use Rattle.qu_waiting.specs.Waiting.{TakenRequest}

-- ---- the rows

first_row : (Passed : Type 0) (row : Option Decision) (later : List (Option Decision)) → AcceptsNothing row
    → (row ≡ None → Passed) → (accepted_in (first_given (Waits []) (row ∷ later)) ≡ []) ⊎ Passed
unfolding first_given
first_row Passed (Some decision) later nothing past = inl (nothing decision refl)
first_row Passed None later nothing past = inr (past refl)

pass_first : {X : Type 0} (why : X → Refusal) (bad : Bool) (item : X) (found : Option X) (rest : Bool)
    → option_map (λ (it : X). refuse (why it)) (cond bad (Some item) found) ≡ None
    → (option_map (λ (it : X). refuse (why it)) found ≡ None → rest ≡ true) → (not bad && rest) ≡ true
pass_first why true item found rest none later = absurd (none-some (refuse (why item)) (sym none))
pass_first why false item found rest none later = later none

-- where no item is found, each passes
all_pass : {X : Type 0} (why : X → Refusal) (bad : X → Bool) (items : List X)
    → option_map (λ (it : X). refuse (why it)) (find bad items) ≡ None → list_all (λ item. not (bad item)) items ≡ true
all_pass why bad [] none = refl
all_pass why bad (item ∷ later) none =
    pass_first why (bad item) item (find bad later) (list_all (λ it. not (bad it)) later) none (all_pass why bad later)

-- the objects of the sets are the replica's
abbrev pub are_had : ReplicaState → List SetOf → Bool
are_had state sets = list_all (λ (set : SetOf). not (nat_le (length state.histories) (set.object).0)) sets

pub not_unknown : (state : ReplicaState) (asked : Asked) → row_unknown state asked ≡ None
    → are_had state asked.sets ≡ true
unfolding row_unknown
not_unknown state asked none =
    all_pass (λ (set : SetOf). refusal.UnknownObject set.object)
    (λ (set : SetOf). nat_le (length state.histories) (set.object).0) asked.sets none

-- culling leaves no object out
pub culled_had : (state : ReplicaState) (keys : Ring) (me : ReplicaId) (sets : List SetOf)
    → are_had state (culled keys me sets) ≡ are_had state sets
unfolding culled
culled_had state keys me [] = refl
culled_had state keys me (set ∷ later) =
    ap (λ (rest : Bool). not (nat_le (length state.histories) (set.object).0) && rest)
    (culled_had state keys me later)

-- a replica accepts nothing upon a request, or has such sets
request_had : (state : ReplicaState) (asked : Asked) (asks : Body)
    → (accepted_in (decision_on state asked asks) ≡ []) ⊎ (are_had state asked.sets ≡ true)
unfolding decide_act decide_ask decide_repair
request_had state asked (body.Act parts) =
    first_row (are_had state asked.sets ≡ true) (row_unknown state asked) _ (unknown state asked)
    (not_unknown state asked)
request_had state asked (body.Ask parts) =
    first_row (are_had state asked.sets ≡ true) (row_unknown state asked) _ (unknown state asked)
    (not_unknown state asked)
request_had state asked (body.Mend target) =
    first_row (are_had state asked.sets ≡ true) (row_unknown state asked) _ (unknown state asked)
    (not_unknown state asked)

-- ---- the step

not_added : (candidates : List Candidate) (candidate : Candidate) → candidates ≡ candidates ++ candidate ∷ [] → ⊥
not_added candidates candidate same =
    let sum : length (candidates ++ candidate ∷ []) ≡ length candidates + 1 =
    length-append candidates (candidate ∷ []) in
    let equal : length candidates ≡ length (candidates ++ candidate ∷ []) = ap length same in
    omega arith

step_had : (state : ReplicaState) (client : ClientId) (number round : ℕ) (sets : List SetOf) (asks : Body)
    (mac : List ℕ) (object : ObjectId) (candidate : Candidate)
    → own_candidates (replica_on_frame state (frame.Request client number round sets asks mac)).0
    object ≡ own_candidates state object ++ candidate ∷ [] → are_had state sets ≡ true
step_had state client number round sets asks mac object candidate added =
    let asked : Asked = asked_at state client number sets asks in
    let decision : Decision = decision_on state asked asks in
    let request : TakenRequest = record {
      client = client;
      number = number;
      round = round;
      sets = sets;
      body = asks;
      mac = mac;
    } in
    elim (request_had state asked asks) [
      | inl none ↦
          let same : HoldsAlike (carried_out state request decision).0 state =
          stays state _ (accepted_in decision) (carried state request decision) none in
          absurd (not_added (own_candidates state object) candidate
          (sym (alike_candidates (carried_out state request decision).0 state same object) ∙ added))
      | inr had ↦ sym (culled_had state state.keys state.me sets) ∙ had
    ]

had_by : (mid new : ReplicaState) (taken : Frame) (object : ObjectId) (accepts : Accepts mid new taken)
    → AddsTo accepts.asks accepts.group object → HoldsAlike new (replica_on_frame mid taken).0
    → are_had mid accepts.sent ≡ true
had_by mid new taken object accepts adds made =
    step_had mid accepts.client accepts.number accepts.round accepts.sent accepts.asks
    accepts.mac object (accepts.candidates object)
    (ap (λ (it : Frame). own_candidates (replica_on_frame mid it).0 object) (sym accepts.is_request)
    ∙ sym (alike_candidates new (replica_on_frame mid taken).0 made object) ∙ accepts.added object adds)

-- ---- the same in a run

one_known : (size number count : ℕ) → size ≤ count → not (nat_le size number) ≡ true → nat_lt number count ≡ true
one_known size number count few had = grind (arith, nat_tests)

all_known : (setup : Setup) (size : ℕ) → size ≤ length setup.kinds → (sets : List SetOf)
    → list_all (λ (set : SetOf). not (nat_le size (set.object).0)) sets ≡ true → list_all (is_of_setup setup) sets
    ≡ true
all_known setup size few [] had = refl
all_known setup size few (set ∷ sets) had =
    let parts : (not (nat_le size (set.object).0) ≡ true)
    × (list_all (λ (it : SetOf). not (nat_le size (it.object).0)) sets ≡ true) = and_parts _ _ had in
    and_from _ _ (one_known size (set.object).0 (length setup.kinds) few parts.0)
    (all_known setup size few sets parts.1)

-- the objects that a replica has are the setup's, whatever it learns
pub known_sent : (trace : Trace) (time place : ℕ) (old mid : ReplicaState)
    → slice_get (world_after trace time).replicas place ≡ Some old → Learns trace time old mid → (sent : List SetOf)
    → are_had mid sent ≡ true → list_all (is_of_setup trace.setup) sent ≡ true
known_sent trace time place old mid is_old learns sent had =
    let few : length old.histories ≤ length trace.setup.kinds =
    found_within (length trace.setup.kinds) (world_after trace time).replicas place old (run_has trace time) is_old in
    let same : length mid.histories ≡ length old.histories = ap length learns.histories in
    all_known trace.setup (length mid.histories) (omega (arith, few, same)) sent had

-- a request that made a replica accept a candidate shows objects of the setup
pub delivered_known : (trace : Trace) (at place : ℕ) (old new : ReplicaState) (object : ObjectId)
    (delivered : IsDelivered trace at place old new object)
    → list_all (is_of_setup trace.setup) (delivered.accepts).sent ≡ true
delivered_known trace at place old new object delivered =
    let handles : Handles trace at place old new = delivered.handles in
    known_sent trace at place old handles.mid handles.is_old handles.learns (delivered.accepts).sent
    (had_by handles.mid new handles.carried object delivered.accepts delivered.adds handles.made)
