-- What an act makes a replica accept: the rows that accept nothing, and the one that accepts.
use Rattle.std.proofs.Common.{map, ◌≡◌, ◌⊎◌, ℕ, zero, suc, ◌<◌, Bool, true, false, cond, List, [], ◌∷◌, ◌++◌, length, Option, None, Some, inl, inr, refl, sym, subst, ap, ◌∙◌, arith}
use Rattle.std.specs.Prelude.{◌==◌, slice_get, option_map, option_and_then, IsTrue}
use Rattle.std.proofs.lemmas.Option.{none-some, same_Some}
use Rattle.std.specs.List.{AllByRecursion}
use Rattle.std.proofs.lemmas.Bool.{false≢true, eqb-true, eq-eqb}
use Rattle.std.proofs.lemmas.List.{length-map}
use Rattle.qu_kept.specs.Standing.{AreLower}
use Rattle.qu_kept.proofs.EachObject.{objects_named, distinct_parts, values_are}
use Rattle.qu_fitting.proofs.CarriedEach.{AreBases, AreBefores, fresh_candidates, versions_made, accepted_each, versions_each, done_each}
use Rattle.qu_fitting.proofs.PassedRows.{base_of, before_of, passed_method, passed_version, passed_current}
use Rattle.qu_fitting.specs.Holding.{accepted_of, stored_all}
use Rattle.qu_fitting.proofs.AcceptingAll.{accept_all-is, accepted_grows, accepted_may, history_of}
use Rattle.qu_claims.specs.Grounds.{stored_of}
use Rattle.qu_claims.specs.Parts.{Names}
use Rattle.qu_versions.specs.declared.stored.Stored.{Stored}
use Rattle.qu_base.specs.declared.party.ClientId.{ClientId}
use Rattle.qu_base.specs.declared.party.Digest.{Digest}
use Rattle.qu_base.specs.declared.party.ObjectId.{ObjectId}
use Rattle.qu_stamp.specs.declared.stamp.Stamp.{Stamp}
use Rattle.qu_stamp.specs.declared.candidate.Candidate.{Candidate}
use Rattle.qu_stamp.specs.Stamp.{is_below}
use Rattle.qu_history.specs.declared.sets.SetOf.{SetOf}
use Rattle.qu_history.specs.Culling.{culled}
use Rattle.qu_history.specs.History.{ObjectHistory}
use Rattle.qu_history.specs.Sets.{latest_of}
use Rattle.qu_objects.specs.declared.act.Method.{Method}
use Rattle.qu_objects.specs.declared.query.Ask.{Ask}
use Rattle.qu_objects.specs.declared.state.ObjState.{ObjState}
use Rattle.qu_objects.specs.Digesting.{act_digest}
use Rattle.qu_objects.specs.Parts.{are_parts}
use Rattle.qu_kept.specs.declared.repeats.Standing.{Standing}
use Rattle.qu_kept.specs.declared.repeats.Standing.TheVariants.{Fresh, Already, Spent}
use Rattle.qu_kept.specs.Rows.{row_of}
use Rattle.qu_kept.specs.Standing.{IsLower, standing_of}
use Rattle.qu_kept.proofs.StandingLaws.{fresh_where}
use Rattle.qu_frames.specs.declared.frame.Body.TheVariants as body
use Rattle.qu_frames.specs.declared.frame.Frame.TheVariants as frame
use Rattle.qu_verdicts.specs.declared.verdict.Refusal.{Refusal}
use Rattle.qu_verdicts.specs.declared.verdict.Refusal.TheVariants as refusal
use Rattle.qu_verdicts.specs.declared.verdict.Verdict.TheVariants.{Done}
use Rattle.qu_verdicts.specs.declared.verdict.Verdict.TheVariants as verdict
use Rattle.qu_mends.specs.declared.accepted.Accepted.{Accepted}
use Rattle.qu_mends.specs.declared.seen.Seen.{Seen}
use Rattle.qu_rows.specs.declared.decision.Decision.{Decision}
use Rattle.qu_rows.specs.declared.decision.Decision.TheVariants.{Answers, Waits}
use Rattle.qu_rows.specs.State.{ReplicaState, own_candidates, own_latest}
use Rattle.qu_mends.specs.Table.{candidates_in}
use Rattle.qu_fitting.specs.Holding.{with_candidate, accept_all}
use Rattle.qu_rows.specs.Rows.{Asked, asked_at, refuse, seen_each, base_versions, shown_of, fresh_stamp, standing_in, done_again, repeated, row_unknown, row_thin, row_retry, row_current, row_method, row_version, row_kept, row_time, row_full, row_done, row_told, decide_act, decide_ask}
use Rattle.qu_mends.specs.Table.{first_given}
use Rattle.qu_replica.specs.Step.{carried_out, replica_on_frame}
use Rattle.qu_versions.specs.Versions.{version_at}
use Rattle.qu_rows.specs.Allowed.{HasParts, MayAcceptAll, MayDecide}
use Rattle.qu_rows.proofs.Allowed.{decision_on-may}
use Rattle.qu_claims.specs.Grounds.{Accepts, Performs}
use Rattle.qu_kept.specs.declared.remedy.Remedy.TheVariants.{Fresh}
use Rattle.qu_replica.specs.Growth.{HoldsAlike}
use Rattle.qu_waiting.specs.Waiting.{TakenRequest}

-- ---- the rows that accept nothing

abbrev pub accepted_in : Decision → List Accepted
accepted_in (Answers verdict accepted) = accepted
accepted_in (Waits missing) = []

abbrev pub AcceptsNothing : Option Decision → Type 0
AcceptsNothing row = (decision : Decision) → row ≡ Some decision → accepted_in decision ≡ []

refusing : {A : Type 0} (why : A → Refusal) (refused : Option A)
    → AcceptsNothing (option_map (λ it. refuse (why it)) refused)
refusing why None decision given = absurd (none-some decision given)
refusing why (Some it) decision given = ap accepted_in (sym (same_Some (refuse (why it)) decision given))

answering : (test : Bool) (stamps : List (ObjectId × Stamp)) (standing : Standing)
    → AcceptsNothing (cond test (done_again stamps standing) None)
answering false stamps standing decision given = absurd (none-some decision given)
answering true stamps Fresh decision given = absurd (none-some decision given)
answering true stamps (Spent object number) decision given = absurd (none-some decision given)
answering true stamps (Already answer) decision given =
    ap accepted_in (sym (same_Some (Answers (Done stamps answer) []) decision given))

repeating : (standing : Standing) → AcceptsNothing (repeated standing)
repeating Fresh decision given = absurd (none-some decision given)
repeating (Already answer) decision given =
    ap accepted_in (sym (same_Some (Answers (verdict.Already answer) []) decision given))
repeating (Spent object number) decision given =
    ap accepted_in (sym (same_Some (refuse (refusal.Spent object number)) decision given))

waiting : (missing : List (ObjectId × Stamp)) (test : Bool) → AcceptsNothing (cond test (Some (Waits missing)) None)
waiting missing false decision given = absurd (none-some decision given)
waiting missing true decision given = ap accepted_in (sym (same_Some (Waits missing) decision given))

pub unknown : (state : ReplicaState) (asked : Asked) → AcceptsNothing (row_unknown state asked)
unfolding row_unknown
unknown state asked = refusing _ _

pub thin : (state : ReplicaState) (asked : Asked) → AcceptsNothing (row_thin state asked)
unfolding row_thin
thin state asked = refusing _ _

retry : (state : ReplicaState) (asked : Asked) (parts : List (ObjectId × Method)) (seen : List Seen)
    → AcceptsNothing (row_retry state asked parts seen)
unfolding row_retry
retry state asked parts seen = answering _ _ _

kept : (asked : Asked) (parts : List (ObjectId × Method)) (before : List ObjState)
    → AcceptsNothing (row_kept asked parts before)
unfolding row_kept
kept asked parts before = repeating _

current : (state : ReplicaState) (seen : List Seen) → AcceptsNothing (row_current state seen)
unfolding row_current
current state seen = refusing _ _

method : (seen : List Seen) → AcceptsNothing (row_method seen)
unfolding row_method
method seen = refusing _ _

version : (state : ReplicaState) (seen : List Seen) → AcceptsNothing (row_version state seen)
unfolding row_version
version state seen = waiting _ _

time : (seen : List Seen) → AcceptsNothing (row_time seen)
unfolding row_time
time seen = refusing _ _

full : (state : ReplicaState) (seen : List Seen) → AcceptsNothing (row_full state seen)
unfolding row_full
full state seen = refusing _ _

told-accepts : (parts : List (ObjectId × Ask)) (seen : List Seen) (before : List ObjState)
    → AcceptsNothing (row_told parts seen before)
unfolding row_told
told-accepts parts seen before decision given = ap accepted_in (sym (same_Some _ decision given))

-- past a row that accepts nothing, the later ones decide
pub past : (P : List Accepted → Type 0) (row : Option Decision) (later : List (Option Decision)) → P []
    → AcceptsNothing row → (row ≡ None → P (accepted_in (first_given (Waits []) later)))
    → P (accepted_in (first_given (Waits []) (row ∷ later)))
unfolding first_given
past P None later none nothing next = next refl
past P (Some decision) later none nothing next = subst P (sym (nothing decision refl)) none

no_more : accepted_in (first_given (Waits []) []) ≡ []
unfolding first_given
no_more = refl

pub ask_accepts : (state : ReplicaState) (asked : Asked) (parts : List (ObjectId × Ask)) (objects : List ObjectId)
    → accepted_in (decide_ask state asked parts objects) ≡ []
unfolding decide_ask
ask_accepts state asked parts objects =
    let none : List Accepted → Type 0 = λ accepted. accepted ≡ [] in
    past none _ _ refl (unknown state asked) (λ _.
    past none _ _ refl (thin state asked) (λ _.
    past none _ _ refl (current state _) (λ _.
    past none _ _ refl (method _) (λ _.
    past none _ _ refl (version state _) (λ _.
    past none _ _ refl (told-accepts parts _ _) (λ _. no_more))))))

-- ---- the row that accepts

-- an act that no row refused or answered before is above what is kept of its client
not_repeated : (standing : Standing) → repeated standing ≡ None → standing ≡ Fresh
not_repeated Fresh none = refl
not_repeated (Already answer) none = absurd (none-some _ (sym none))
not_repeated (Spent object number) none = absurd (none-some _ (sym none))

each_lower : (client : ClientId) (number : ℕ) (before : ObjectId → ObjState) (objects : List ObjectId)
    → AreLower client number (map before objects)
    → AllByRecursion (λ object. IsLower number (row_of client (before object).kept)) objects
each_lower client number before [] lower = tt
each_lower client number before (object ∷ later) lower =
    (lower.0, each_lower client number before later lower.1)

module _ (state : ReplicaState) (asked : Asked) (parts : List (ObjectId × Method)) where
  abbrev objects : List ObjectId
  objects = objects_named parts

  abbrev seen : List Seen
  seen = seen_each state asked objects

  abbrev bases : ObjectId → Candidate
  bases = base_of state asked

  abbrev befores : ObjectId → ObjState
  befores = before_of state asked

  abbrev pub fresh : ObjectId → Candidate
  fresh = fresh_candidates state asked bases befores objects

  abbrev pub afters : ObjectId → ObjState
  afters = versions_made state asked bases befores parts

  -- an act accepts one candidate on each of its objects, for which there are grounds
  pub record MakesAll (accepted : List Accepted) : Type 0 where
    pub are_bases : AreBases state asked bases befores objects
    pub are_befores : AreBefores state asked bases befores objects
    pub current : AllByRecursion (λ object. is_below (latest_of (shown_of asked object)) (own_latest state object)
        ≡ false) objects
    pub lower : AllByRecursion (λ object. IsLower asked.number (row_of asked.client (befores object).kept)) objects
    pub all : accepted ≡ accepted_each fresh afters objects

  module _ (act : Digest) (is_act : asked.act ≡ Some act) (in_order : IsTrue (are_parts parts)) where
    are_lower : AreBefores state asked bases befores objects → row_kept asked parts (base_versions state seen) ≡ None
        → AllByRecursion (λ object. IsLower asked.number (row_of asked.client (befores object).kept)) objects
    unfolding row_kept
    are_lower are_befores none =
        let stands : Option Digest → Standing =
        λ found. elim found [
          | None ↦ Fresh
          | Some digest ↦ standing_of asked.client asked.number digest parts (map befores objects)
        ] in
        let is_new : standing_in asked parts (map befores objects) ≡ Fresh =
        not_repeated _ (ap (λ (versions : List ObjState). repeated (standing_in asked parts versions))
        (sym (versions_each state asked bases befores objects are_befores)) ∙ none) in
        each_lower asked.client asked.number befores objects
        ((fresh_where asked.client asked.number act parts (map befores objects) in_order
        (length-map objects befores ∙ length-map parts (λ part. part.0))).0 (sym (ap stands is_act) ∙ is_new))

    pub makes_all : row_current state seen ≡ None → row_method seen ≡ None
        → row_version state seen ≡ None → row_kept asked parts (base_versions state seen) ≡ None
        → MakesAll (accepted_each fresh afters objects)
    makes_all is_current is_method is_version is_new =
        let are_befores : AreBefores state asked bases befores objects =
        passed_version state asked objects is_version in
        record {
          are_bases = passed_method state asked objects is_method;
          are_befores = are_befores;
          current = passed_current state asked objects is_current;
          lower = are_lower are_befores is_new;
          all = refl;
        }

    done : row_current state seen ≡ None → row_method seen ≡ None
        → row_version state seen ≡ None → row_kept asked parts (base_versions state seen) ≡ None
        → MakesAll (accepted_in (first_given (Waits []) (row_done asked parts seen (base_versions state seen) ∷ [])))
    unfolding first_given
    done is_current is_method is_version is_new =
        let made : MakesAll (accepted_each fresh afters objects) =
        makes_all is_current is_method is_version is_new in
        subst MakesAll
        (sym (ap (λ (row : Option Decision). accepted_in (first_given (Waits []) (row ∷ [])))
        (done_each state asked bases befores parts (distinct_parts parts in_order) made.are_bases made.are_befores)))
        made

    abbrev MakesAllOrNone : List Accepted → Type 0
    MakesAllOrNone accepted = (accepted ≡ []) ⊎ MakesAll accepted

    act_accepts : MakesAllOrNone (accepted_in (decide_act state asked parts objects))
    unfolding decide_act
    act_accepts =
        past MakesAllOrNone _ _ (inl refl) (unknown state asked) (λ _.
        past MakesAllOrNone _ _ (inl refl) (thin state asked) (λ _.
        past MakesAllOrNone _ _ (inl refl) (retry state asked parts _) (λ _.
        past MakesAllOrNone _ _ (inl refl) (current state _) (λ is_current.
        past MakesAllOrNone _ _ (inl refl) (method _) (λ is_method.
        past MakesAllOrNone _ _ (inl refl) (version state _) (λ is_version.
        past MakesAllOrNone _ _ (inl refl) (kept asked parts _) (λ is_new.
        past MakesAllOrNone _ _ (inl refl) (time _) (λ _.
        past MakesAllOrNone _ _ (inl refl) (full state _)
        (λ _. inr (done is_current is_method is_version is_new))))))))))

-- ---- what is accepted of an object

abbrev accepts : (ObjectId → Candidate) → (ObjectId → ObjState) → ObjectId → Accepted
accepts candidates versions object =
    record { object = object; candidate = candidates object; state = Some (versions object) }

module _ (candidates : ObjectId → Candidate) (versions : ObjectId → ObjState) where
  of_named : (parts : List (ObjectId × Method)) (object : ObjectId) → Names parts object
      → accepted_of object (accepted_each candidates versions (objects_named parts))
      ≡ Some (accepts candidates versions object)
  of_named [] object names = absurd names
  of_named (part ∷ later) object names = by ((part.0).0 == object.0) refl names (of_named later object)
    where
      by : (test : Bool) → ((part.0).0 == object.0) ≡ test → Names (part ∷ later) object
          → (Names later object → accepted_of object (accepted_each candidates versions (objects_named later))
          ≡ Some (accepts candidates versions object))
          → cond test (Some (accepts candidates versions part.0))
          (accepted_of object (accepted_each candidates versions (objects_named later)))
          ≡ Some (accepts candidates versions object)
      by true is names so_far =
          ap (λ (number : ℕ). Some (accepts candidates versions (record { 0 = number }))) (eqb-true _ _ is)
      by false is (inl same) so_far =
          absurd (false≢true (sym is ∙ eq-eqb _ _ (ap (λ (it : ObjectId). it.0) same)))
      by false is (inr named) so_far = so_far named

  of_other : (parts : List (ObjectId × Method)) (object : ObjectId) → (Names parts object → ⊥)
      → accepted_of object (accepted_each candidates versions (objects_named parts)) ≡ None
  of_other [] object other = refl
  of_other (part ∷ later) object other =
      by ((part.0).0 == object.0) refl (of_other later object (λ named. other (inr named)))
    where
      by : (test : Bool) → ((part.0).0 == object.0) ≡ test
          → accepted_of object (accepted_each candidates versions (objects_named later)) ≡ None
          → cond test (Some (accepts candidates versions part.0))
          (accepted_of object (accepted_each candidates versions (objects_named later))) ≡ None
      by true is so_far = absurd (other (inl (ap (λ (number : ℕ). record { 0 = number }) (eqb-true _ _ is))))
      by false is so_far = so_far

  pub stored_each : (parts : List (ObjectId × Method))
      → stored_all (accepted_each candidates versions (objects_named parts)) ≡ stored_of candidates versions parts
  stored_each [] = refl
  stored_each (part ∷ later) =
      ap (λ (stored : List Stored). record {
        object = part.0;
        stamp = (candidates part.0).stamp;
        state = versions part.0;
      } ∷ stored) (stored_each later)

each_named : (P : ObjectId → Type 0) (parts : List (ObjectId × Method)) → AllByRecursion P (objects_named parts)
    → (object : ObjectId) → Names parts object → P object
each_named P [] all object names = absurd names
each_named P (part ∷ later) all object (inl same) = subst P same all.0
each_named P (part ∷ later) all object (inr named) = each_named P later all.1 object named

-- ---- the step

pub alike_candidates : (one other : ReplicaState) → HoldsAlike one other → (object : ObjectId)
    → own_candidates one object ≡ own_candidates other object
alike_candidates one other alike object =
    ap (λ (it : List ObjectHistory). candidates_in (slice_get it object.0)) alike.histories

pub carried : (state : ReplicaState) (request : TakenRequest) (decision : Decision)
    → HoldsAlike (carried_out state request decision).0 (accept_all state (accepted_in decision))
unfolding accept_all
carried state request (Answers verdict accepted) = record { me = refl; keys = refl; histories = refl; versions = refl }
carried state request (Waits missing) = record { me = refl; keys = refl; histories = refl; versions = refl }

pub may_accept : (state : ReplicaState) (decision : Decision) → MayDecide state decision
    → MayAcceptAll state (accepted_in decision)
may_accept state (Answers verdict accepted) may = may
may_accept state (Waits missing) may = tt

-- the candidate stands behind those that its object had
pub candidates_after : (number : ℕ) (candidate : Candidate) (histories : List ObjectHistory)
    → number < length histories → candidates_in (slice_get (with_candidate number candidate histories) number)
    ≡ candidates_in (slice_get histories number) ++ candidate ∷ []
unfolding with_candidate
candidates_after number candidate [] within = absurd (omega arith)
candidates_after zero candidate (history ∷ later) within = refl
candidates_after (suc number) candidate (history ∷ later) within =
    let inner : number < length later = omega arith in
    candidates_after number candidate later inner

-- a replica that accepts nothing holds what it did
pub stays : (state new : ReplicaState) (accepted : List Accepted) → HoldsAlike new (accept_all state accepted)
    → accepted ≡ [] → HoldsAlike new state
unfolding accept_all
stays state new accepted is_new none =
    subst (λ (it : List Accepted). HoldsAlike new (accept_all state it)) none is_new

-- the candidates of an object once these are accepted
pub own_after : (state new : ReplicaState) (accepted : List Accepted) → MayAcceptAll state accepted
    → HoldsAlike new (accept_all state accepted) → (object : ObjectId)
    → own_candidates new object
    ≡ candidates_in (history_of state.histories object (accepted_of object accepted))
own_after state new accepted may is_new object =
    alike_candidates new (accept_all state accepted) is_new object
    ∙ ap (λ (it : ReplicaState). own_candidates it object) (accept_all-is state accepted)
    ∙ ap candidates_in (accepted_grows state object accepted state.histories may)

module _ (state new : ReplicaState) (asked : Asked) (parts : List (ObjectId × Method)) (accepted : List Accepted)
    (made : MakesAll state asked parts accepted) (is_new : HoldsAlike new (accept_all state accepted))
    (in_order : IsTrue (are_parts parts)) where
  abbrev candidates : ObjectId → Candidate
  candidates = fresh state asked parts

  abbrev versions : ObjectId → ObjState
  versions = afters state asked parts

  performs : Performs state new asked parts (fresh state asked parts)
  performs = record {
    bases = base_of state asked;
    grounds = λ object names. record {
      method = each_named _ parts made.are_bases object names;
      prior = refl;
      group = refl;
      stamp = refl;
      current = each_named _ parts made.current object names;
    };
    versions = versions;
    performed = record {
      befores = before_of state asked;
      of_bases = λ object names.
          sym (ap (option_and_then (λ (base : Candidate). version_at object base.stamp state.versions))
          (each_named _ parts made.are_bases object names))
          ∙ each_named _ parts made.are_befores object names;
      values = values_are asked.client asked.number parts (fresh_stamp asked) (before_of state asked)
          (distinct_parts parts in_order);
      lower = λ object names. each_named _ parts made.lower object names;
      afters = λ object names. refl;
    };
    stored = is_new.versions ∙ ap (λ (it : ReplicaState). it.versions) (accept_all-is state accepted)
        ∙ ap (λ (it : List Accepted). state.versions ++ stored_all it) made.all
        ∙ ap (λ (it : List Stored). state.versions ++ it) (stored_each candidates versions parts);
  }

  -- each of its objects has the fresh candidate behind the others, and no other object has one more
  pub added_to : MayAcceptAll state accepted → (object : ObjectId) → Names parts object
      → own_candidates new object ≡ own_candidates state object ++ fresh state asked parts object ∷ []
  added_to may object names =
      let one : Accepted = accepts candidates versions object in
      let found : accepted_of object accepted ≡ Some one =
      ap (accepted_of object) made.all ∙ of_named candidates versions parts object names in
      own_after state new accepted may is_new object
      ∙ ap (λ (it : Option Accepted). candidates_in (history_of state.histories object it)) found
      ∙ candidates_after object.0 (candidates object) state.histories
      (accepted_may state object accepted one may found).known

  none_added : MayAcceptAll state accepted → (object : ObjectId) → (Names parts object → ⊥)
      → own_candidates new object ≡ own_candidates state object
  none_added may object apart =
      own_after state new accepted may is_new object
      ∙ ap (λ (it : Option Accepted). candidates_in (history_of state.histories object it))
      (ap (accepted_of object) made.all ∙ of_other candidates versions parts object apart)

moves : (state new : ReplicaState) (client : ClientId) (number round : ℕ) (sent : List SetOf) (mac : List ℕ)
    (parts : List (ObjectId × Method)) (accepted : List Accepted)
    → MakesAll state (asked_at state client number sent (body.Act parts)) parts accepted
    → HoldsAlike new (accept_all state accepted) → IsTrue (are_parts parts) → MayAcceptAll state accepted
    → Accepts state new (frame.Request client number round sent (body.Act parts) mac)
moves state new client number round sent mac parts accepted made is_new in_order may =
    let asked : Asked = asked_at state client number sent (body.Act parts) in
    record {
      client = client;
      number = number;
      round = round;
      sent = sent;
      sets = culled state.keys state.me sent;
      culls = refl;
      asks = body.Act parts;
      mac = mac;
      is_request = refl;
      group = [];
      candidates = fresh state asked parts;
      added = added_to state new asked parts accepted made is_new in_order may;
      others = none_added state new asked parts accepted made is_new in_order may;
      reasons = performs state new asked parts accepted made is_new in_order;
    }

pub act_moves : (state : ReplicaState) (client : ClientId) (number round : ℕ) (sets : List SetOf) (mac : List ℕ)
    (parts : List (ObjectId × Method)) → HasParts (frame.Request client number round sets (body.Act parts) mac)
    → HoldsAlike (replica_on_frame state (frame.Request client number round sets (body.Act parts) mac)).0 state
    ⊎ Accepts state (replica_on_frame state (frame.Request client number round sets (body.Act parts) mac)).0
    (frame.Request client number round sets (body.Act parts) mac)
act_moves state client number round sets mac parts in_order =
    let asked : Asked = asked_at state client number sets (body.Act parts) in
    let decision : Decision = decide_act state asked parts (objects_named parts) in
    let request : TakenRequest = record {
      client = client;
      number = number;
      round = round;
      sets = sets;
      body = body.Act parts;
      mac = mac;
    } in
    let new : ReplicaState = (carried_out state request decision).0 in
    let is_new : HoldsAlike new (accept_all state (accepted_in decision)) = carried state request decision in
    elim (act_accepts state asked parts (act_digest client number parts) refl in_order) [
      | inl none ↦ inl (stays state new (accepted_in decision) is_new none)
      | inr made ↦
          inr (moves state new client number round sets mac parts (accepted_in decision) made is_new in_order
          (may_accept state decision (decision_on-may state asked (body.Act parts) in_order)))
    ]
