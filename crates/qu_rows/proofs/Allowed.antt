-- What a replica decides upon a request, it may accept.
use Rattle.std.proofs.Common.{◌≡◌, ℕ, ◌+◌, ◌<◌, ◌≤◌, Bool, true, false, cond, IsTrue, List, [], ◌∷◌, length, Option, None, Some, inl, inr, refl, sym, subst, ap, ◌∙◌, arith}
use Rattle.std.specs.Prelude.{◌==◌, nat_le, find, option_map}
use Rattle.std.specs.List.{AllByRecursion, cons_option}
use Rattle.std.proofs.lemmas.Bool.{false≢true, leb-false, ltb-false, cases_Bool, cases_lt, eqb-true}
use Rattle.std.proofs.lemmas.Option.{none-some, same_Some}
use Rattle.qu_base.specs.declared.party.ObjectId.{ObjectId}
use Rattle.qu_base.specs.Bounds.{quorum}
use Rattle.qu_base.proofs.ThresholdFacts.{some_quorum}
use Rattle.qu_base.proofs.Items.{not_first}
use Rattle.qu_stamp.specs.declared.stamp.Stamp.{Stamp}
use Rattle.qu_stamp.specs.declared.limits.TheConstants.{LAST_TIME}
use Rattle.qu_stamp.specs.declared.candidate.Candidate.{Candidate}
use Rattle.qu_stamp.specs.Stamp.{is_below}
use Rattle.qu_stamp.proofs.Order.{is_below_by_time}
use Rattle.qu_history.specs.declared.sets.SetOf.{SetOf}
use Rattle.qu_history.specs.declared.limits.TheConstants.{HISTORY_LIMIT}
use Rattle.qu_history.specs.History.{ObjectHistory, latest}
use Rattle.qu_history.specs.Sets.{histories, entries_of, latest_of, method_at}
use Rattle.qu_objects.specs.declared.act.Method.{Method}
use Rattle.qu_objects.specs.declared.query.Ask.{Ask}
use Rattle.qu_objects.specs.declared.state.ObjState.{ObjState}
use Rattle.qu_kept.specs.declared.repeats.Standing.{Standing}
use Rattle.qu_kept.proofs.EachObject.{AreDistinct, distinct_parts}
use Rattle.qu_kept.specs.declared.repeats.Standing.TheVariants as standing
use Rattle.qu_plan.proofs.Versions.{no_method}
use Rattle.qu_frames.specs.declared.frame.Body.{Body}
use Rattle.qu_frames.specs.declared.frame.Body.TheVariants as body
use Rattle.qu_verdicts.specs.declared.verdict.Refusal.{Refusal}
use Rattle.qu_verdicts.specs.declared.verdict.Refusal.TheVariants.{UnknownObject, NotCurrent, TimeSpent, HistoryFull}
use Rattle.qu_verdicts.specs.declared.verdict.Refusal.TheVariants as refusal
use Rattle.qu_verdicts.specs.declared.verdict.Verdict.TheVariants.{Done}
use Rattle.qu_verdicts.specs.declared.verdict.Verdict.TheVariants as verdict
use Rattle.qu_rows.proofs.MendedObjects.{mending_may}
use Rattle.qu_mends.specs.declared.accepted.Accepted.{Accepted}
use Rattle.qu_mends.specs.declared.seen.Seen.{Seen}
use Rattle.qu_rows.specs.declared.decision.Decision.{Decision}
use Rattle.qu_rows.specs.declared.decision.Decision.TheVariants.{Answers, Waits}
use Rattle.qu_rows.specs.State.{ReplicaState, own_candidates, own_latest}
use Rattle.qu_rows.specs.Rows.{Asked, refuse, refuse_first, objects_of, seen_of, seen_each, method_base, shown_of, stamp_after, fresh_stamp, fresh_candidate, group_seen, accepted_by, done_again, repeated, row_unknown, row_thin, row_retry, row_current, row_method, row_version, row_kept, row_time, row_full, row_done, row_told, row_few, missing_of, evidence_for, waits_for, row_evidence, mending_on, decision_by, decide_act, decide_ask, decide_repair, decision_on}
use Rattle.qu_mends.specs.Table.{first_given, has_no_room}
use Rattle.qu_rows.specs.Allowed.{MayAccept, MayAcceptAll, MayDecide, has_parts}

-- a row that may be carried out, so that what follows it is to be shown
abbrev MayGive : ReplicaState → Option Decision → Type 0
MayGive state row = (decision : Decision) → row ≡ Some decision → MayDecide state decision

past : (state : ReplicaState) (row : Option Decision) (later : List (Option Decision)) → MayGive state row
    → (row ≡ None → MayDecide state (first_given (Waits []) later))
    → MayDecide state (first_given (Waits []) (row ∷ later))
unfolding first_given
past state None later may next = next refl
past state (Some decision) later may next = may decision refl

-- a refusal accepts nothing
refusing : {A : Type 0} (state : ReplicaState) (why : A → Refusal) (refused : Option A)
    → MayGive state (option_map (λ it. refuse (why it)) refused)
refusing state why None decision given = absurd (none-some decision given)
refusing state why (Some it) decision given = subst (MayDecide state) (same_Some (refuse (why it)) decision given) tt

unknown : (state : ReplicaState) (asked : Asked) → MayGive state (row_unknown state asked)
unfolding row_unknown
unknown state asked = refusing state _ _

thin : (state : ReplicaState) (asked : Asked) → MayGive state (row_thin state asked)
unfolding row_thin
thin state asked = refusing state _ _

current : (state : ReplicaState) (seen : List Seen) → MayGive state (row_current state seen)
unfolding row_current
current state seen = refusing state _ _

method : (state : ReplicaState) (seen : List Seen) → MayGive state (row_method seen)
unfolding row_method
method state seen = refusing state _ _

time : (state : ReplicaState) (seen : List Seen) → MayGive state (row_time seen)
unfolding row_time
time state seen = refusing state _ _

full : (state : ReplicaState) (seen : List Seen) → MayGive state (row_full state seen)
unfolding row_full
full state seen = refusing state _ _

-- no object of the sets is unknown, so one that has entries is known
known_by_entries : (number : ℕ) (sets : List SetOf) (object : ObjectId)
    → find (λ (set : SetOf). nat_le number (set.object).0) sets ≡ None → (entries_of object sets ≡ [] → ⊥)
    → object.0 < number
unfolding entries_of
known_by_entries number [] object none some = absurd (some refl)
known_by_entries number (set ∷ sets) object none some =
    let bad : Bool = nat_le number (set.object).0 in
    let later : Option SetOf = find (λ (it : SetOf). nat_le number (it.object).0) sets in
    let good : (bad ≡ false) × (later ≡ None) = not_first bad set later none in
    let is_it : Bool = (set.object).0 == object.0 in
    let rest : List ObjectHistory = entries_of object sets in
    elim (cases_Bool is_it) [
      | inl here ↦
          let equal : (set.object).0 ≡ object.0 = eqb-true _ _ here in
          rw (← equal) (leb-false _ _ good.0)
      | inr there ↦
          known_by_entries number sets object good.1
          (λ (empty : rest ≡ []). some (ap (λ (test : Bool). cond test (histories set.entries) rest) there ∙ empty))
    ]

-- a stamp with the time after the latest is above all that the replica accepted
pub fresh_later : (latest own fresh : Stamp) → fresh.time ≡ latest.time + 1 → is_below latest own ≡ false
    → is_below own fresh ≡ true
fresh_later latest own fresh next current =
    elim (cases_lt latest.time own.time) [
      | inl above ↦ absurd (false≢true (sym current ∙ is_below_by_time latest own above))
      | inr within ↦ is_below_by_time own fresh (omega arith)
    ]

answering : (state : ReplicaState) (test : Bool) (stamps : List (ObjectId × Stamp)) (standing : Standing)
    → MayGive state (cond test (done_again stamps standing) None)
answering state false stamps standing decision given = absurd (none-some decision given)
answering state true stamps standing.Fresh decision given = absurd (none-some decision given)
answering state true stamps (standing.Spent object number) decision given = absurd (none-some decision given)
answering state true stamps (standing.Already answer) decision given =
    subst (MayDecide state) (same_Some (Answers (Done stamps answer) []) decision given) tt

repeating : (state : ReplicaState) (standing : Standing) → MayGive state (repeated standing)
repeating state standing.Fresh decision given = absurd (none-some decision given)
repeating state (standing.Spent object number) decision given =
    subst (MayDecide state) (same_Some (refuse (refusal.Spent object number)) decision given) tt
repeating state (standing.Already answer) decision given =
    subst (MayDecide state) (same_Some (Answers (verdict.Already answer) []) decision given) tt

waiting : (state : ReplicaState) (missing : List (ObjectId × Stamp)) (test : Bool)
    → MayGive state (cond test (Some (Waits missing)) None)
waiting state missing false decision given = absurd (none-some decision given)
waiting state missing true decision given =
    subst (MayDecide state) (same_Some (Waits missing) decision given) tt

retry : (state : ReplicaState) (asked : Asked) (parts : List (ObjectId × Method)) (seen : List Seen)
    → MayGive state (row_retry state asked parts seen)
unfolding row_retry
retry state asked parts seen = answering state _ _ _

kept : (state : ReplicaState) (asked : Asked) (parts : List (ObjectId × Method)) (before : List ObjState)
    → MayGive state (row_kept asked parts before)
unfolding row_kept
kept state asked parts before = repeating state _

version : (state : ReplicaState) (seen : List Seen) → MayGive state (row_version state seen)
unfolding row_version
version state seen = waiting state _ _

told-may : (state : ReplicaState) (parts : List (ObjectId × Ask)) (seen : List Seen) (before : List ObjState)
    → MayGive state (row_told parts seen before)
unfolding row_told
told-may state parts seen before decision given = subst (MayDecide state) (same_Some _ decision given) tt

made_upon : (asked : Asked) (group : List (ObjectId × ℕ)) (latest : Stamp) (base : Option Candidate)
    (fresh : Candidate)
    → option_map (λ (it : Candidate). record { stamp = stamp_after asked latest; prior = it.stamp; group = group }) base
    ≡ Some fresh → (base ≡ None → ⊥) × (fresh.stamp ≡ stamp_after asked latest)
made_upon asked group latest None fresh made = absurd (none-some fresh made)
made_upon asked group latest (Some it) fresh made =
    ((λ none. none-some it (sym none)), sym (ap (λ (candidate : Candidate). candidate.stamp) (same_Some _ _ made)))

-- a fresh candidate rests upon one, and has the fresh stamp
pub made_of : (asked : Asked) (group : List (ObjectId × ℕ)) (one : Seen) (fresh : Candidate)
    → fresh_candidate asked group one ≡ Some fresh
    → (one.method ≡ None → ⊥) × (fresh.stamp ≡ stamp_after asked one.latest)
made_of asked group one fresh made = made_upon asked group one.latest one.method fresh made

in_time_of : (latest fresh : Stamp) → fresh.time ≡ latest.time + 1 → latest.time < LAST_TIME → fresh.time ≤ LAST_TIME
in_time_of latest fresh next spent = omega arith

pub unmapped : {A B : Type 0} (f : A → B) (found : Option A) → option_map f found ≡ None → found ≡ None
unmapped f None none = refl
unmapped f (Some it) none = absurd (none-some (f it) (sym none))

-- the fresh candidate of an object that no row refused
may_accept_fresh : (state : ReplicaState) (asked : Asked) (group : List (ObjectId × ℕ)) (object : ObjectId)
    → find (λ (set : SetOf). nat_le (length state.histories) (set.object).0) asked.sets ≡ None
    → is_below (latest_of (shown_of asked object)) (own_latest state object) ≡ false
    → nat_le LAST_TIME (latest_of (shown_of asked object)).time ≡ false
    → nat_le HISTORY_LIMIT (length (own_candidates state object)) ≡ false
    → (fresh : Candidate) → fresh_candidate asked group (seen_of state asked object) ≡ Some fresh
    → (version : ObjState)
    → MayAccept state (record { object = object; candidate = fresh; state = Some version })
may_accept_fresh state asked group object known current in_time room fresh made version =
    let parts : (method_base state asked object ≡ None → ⊥) × (fresh.stamp ≡ fresh_stamp asked object) =
    made_of asked group (seen_of state asked object) fresh made in
    let next : fresh.stamp.time ≡ (latest_of (shown_of asked object)).time + 1 =
    ap (λ (stamp : Stamp). stamp.time) parts.1 in
    record {
      known = known_by_entries (length state.histories) asked.sets object known
          (λ empty. parts.0 (ap (λ (entries : List ObjectHistory). method_at state.keys.bounds entries) empty
          ∙ no_method state.keys.bounds));
      later = fresh_later (latest_of (shown_of asked object)) (own_latest state object) fresh.stamp next current;
      room = leb-false _ _ room;
      in_time = in_time_of (latest_of (shown_of asked object)) fresh.stamp next (leb-false _ _ in_time);
    }

abbrev accept_with : ObjectId → ObjState → Candidate → Accepted
accept_with object version fresh = record { object = object; candidate = fresh; state = Some version }

-- what is accepted is of other objects than this one
abbrev AreApart : ObjectId → List Accepted → Type 0
AreApart object accepted = AllByRecursion (λ other. other.object ≡ object → ⊥) accepted

made_apart : (this object : ObjectId) (version : ObjState) (made : Option Candidate) (later : List Accepted)
    → (object ≡ this → ⊥) → AreApart this later
    → AreApart this (cons_option (option_map (accept_with object version) made) later)
made_apart this object version None later other so_far = so_far
made_apart this object version (Some fresh) later other so_far = (other, so_far)

made_each : (state : ReplicaState) (object : ObjectId) (version : ObjState) (made : Option Candidate)
    (later : List Accepted)
    → ((fresh : Candidate) → made ≡ Some fresh → MayAccept state (accept_with object version fresh))
    → AreApart object later → MayAcceptAll state later
    → MayAcceptAll state (cons_option (option_map (accept_with object version) made) later)
made_each state object version None later may apart so_far = so_far
made_each state object version (Some fresh) later may apart so_far = (may fresh refl, apart, so_far)

module _ (state : ReplicaState) (asked : Asked) (group : List (ObjectId × ℕ)) where
  -- what an act makes a replica accept on these objects
  abbrev accepted : List ObjectId → List ObjState → List Accepted
  accepted objects versions = accepted_by asked group (seen_each state asked objects) versions

  abbrev made : ObjectId → Option Candidate
  made object = fresh_candidate asked group (seen_of state asked object)

  -- on other objects it is of other objects
  accepted_apart : (this : ObjectId) (objects : List ObjectId) (versions : List ObjState)
      → AllByRecursion (λ object. object ≡ this → ⊥) objects → AreApart this (accepted objects versions)
  accepted_apart this [] versions others = tt
  accepted_apart this (object ∷ objects) [] others = tt
  accepted_apart this (object ∷ objects) (version ∷ versions) others =
      made_apart this object version (made object) (accepted objects versions) others.0
      (accepted_apart this objects versions others.1)

  -- what an act makes may be accepted
  accepted_may : (objects : List ObjectId) (versions : List ObjState) → AreDistinct objects
      → find (λ (set : SetOf). nat_le (length state.histories) (set.object).0) asked.sets ≡ None
      → AllByRecursion (λ one. is_below one.latest (own_latest state one.object) ≡ false) (seen_each state asked objects)
      → AllByRecursion (λ one. nat_le LAST_TIME one.latest.time ≡ false) (seen_each state asked objects)
      → AllByRecursion (λ one. has_no_room (own_candidates state one.object) ≡ false) (seen_each state asked objects)
      → MayAcceptAll state (accepted objects versions)
  accepted_may [] versions apart known current in_time room = tt
  accepted_may (object ∷ objects) [] apart known current in_time room = tt
  accepted_may (object ∷ objects) (version ∷ versions) apart known current in_time room =
      made_each state object version (made object) (accepted objects versions)
      (λ fresh is. may_accept_fresh state asked group object known current.0 in_time.0 room.0 fresh is version)
      (accepted_apart object objects versions apart.0)
      (accepted_may objects versions apart.1 known current.1 in_time.1 room.1)

-- where none is refused, none is bad
pub none_refused : {X : Type 0} (bad : X → Bool) (why : X → Refusal) (items : List X)
    → refuse_first bad why items ≡ None → AllByRecursion (λ it. bad it ≡ false) items
none_refused bad why [] none = tt
none_refused {X = X} bad why (item ∷ later) none = by_test (bad item) refl none (none_refused bad why later)
  where
    by_test : (test : Bool) → bad item ≡ test
        → option_map (λ (it : X). refuse (why it)) (cond test (Some item) (find bad later)) ≡ None
        → (refuse_first bad why later ≡ None → AllByRecursion (λ it. bad it ≡ false) later)
        → (bad item ≡ false) × AllByRecursion (λ it. bad it ≡ false) later
    by_test true is refused so_far = absurd (none-some (refuse (why item)) (sym refused))
    by_test false is passed so_far = (is, so_far passed)

no_unknown : (state : ReplicaState) (asked : Asked) → row_unknown state asked ≡ None
    → find (λ (set : SetOf). nat_le (length state.histories) (set.object).0) asked.sets ≡ None
unfolding row_unknown
no_unknown state asked none = unmapped (λ (set : SetOf). refuse (UnknownObject set.object)) _ none

done : (state : ReplicaState) (asked : Asked) (parts : List (ObjectId × Method)) (objects : List ObjectId)
    (before : List ObjState) → AreDistinct objects → row_unknown state asked ≡ None
    → row_current state (seen_each state asked objects) ≡ None → row_time (seen_each state asked objects) ≡ None
    → row_full state (seen_each state asked objects) ≡ None
    → MayGive state (row_done asked parts (seen_each state asked objects) before)
unfolding row_current row_time row_full row_done
done state asked parts objects before apart unknown current time full decision given =
    let seen : List Seen = seen_each state asked objects in
    subst (MayDecide state) (same_Some _ decision given)
    (accepted_may state asked (group_seen asked seen) objects _ apart (no_unknown state asked unknown)
    (none_refused _ (λ (it : Seen). NotCurrent it.object (own_latest state it.object)) seen current)
    (none_refused _ (λ (it : Seen). TimeSpent it.object) seen time)
    (none_refused _ (λ (it : Seen). HistoryFull it.object) seen full))

nothing : (state : ReplicaState) → MayDecide state (first_given (Waits []) [])
unfolding first_given
nothing state = tt

may_act : (state : ReplicaState) (asked : Asked) (parts : List (ObjectId × Method)) (objects : List ObjectId)
    → AreDistinct objects → MayDecide state (decide_act state asked parts objects)
unfolding decide_act
may_act state asked parts objects apart =
    past state _ _ (unknown state asked) (λ known.
    past state _ _ (thin state asked) (λ _.
    past state _ _ (retry state asked parts _) (λ _.
    past state _ _ (current state _) (λ is_current.
    past state _ _ (method state _) (λ _.
    past state _ _ (version state _) (λ _.
    past state _ _ (kept state asked parts _) (λ _.
    past state _ _ (time state _) (λ in_time.
    past state _ _ (full state _) (λ room.
    past state _ _ (done state asked parts objects _ apart known is_current in_time room) (λ _. nothing state))))))))))

may_ask : (state : ReplicaState) (asked : Asked) (parts : List (ObjectId × Ask)) (objects : List ObjectId)
    → MayDecide state (decide_ask state asked parts objects)
unfolding decide_ask
may_ask state asked parts objects =
    past state _ _ (unknown state asked) (λ _.
    past state _ _ (thin state asked) (λ _.
    past state _ _ (current state _) (λ _.
    past state _ _ (method state _) (λ _.
    past state _ _ (version state _) (λ _.
    past state _ _ (told-may state parts _ _) (λ _. nothing state))))))

refused_if : (state : ReplicaState) (why : Refusal) (test : Bool)
    → MayGive state (cond test (Some (refuse why)) None)
refused_if state why false decision given = absurd (none-some decision given)
refused_if state why true decision given = subst (MayDecide state) (same_Some (refuse why) decision given) tt

few : (state : ReplicaState) (asked : Asked) (target : ObjectId) → MayGive state (row_few state asked target)
unfolding row_few
few state asked target = refused_if state _ _

-- an object that the row of few entries passes has a quorum of them
pub enough_shown : (state : ReplicaState) (asked : Asked) (target : ObjectId) → row_few state asked target ≡ None
    → quorum state.keys.bounds ≤ length (shown_of asked target)
unfolding row_few
enough_shown state asked target none =
    ltb-false (length (shown_of asked target)) (quorum state.keys.bounds) (not_first _ _ None none).0

-- and is known, as a quorum is one at least
pub known_target : (state : ReplicaState) (asked : Asked) (target : ObjectId) → row_unknown state asked ≡ None
    → quorum state.keys.bounds ≤ length (shown_of asked target) → target.0 < length state.histories
known_target state asked target known enough =
    known_by_entries (length state.histories) asked.sets target (no_unknown state asked known)
    (λ empty. let none : length (shown_of asked target) ≡ 0 = ap length empty
    in absurd (omega (arith, none, some_quorum state.keys.bounds)))

waits-may : (state : ReplicaState) (missing : List (ObjectId × Stamp)) → MayGive state (waits_for missing)
waits-may state [] decision given = absurd (none-some decision given)
waits-may state (key ∷ more) decision given =
    subst (MayDecide state) (same_Some (Waits (key ∷ more)) decision given) tt

evidence : (state : ReplicaState) (asked : Asked) (target : ObjectId)
    → MayGive state (row_evidence state asked target)
unfolding row_evidence
evidence state asked target = waits-may state (missing_of state (evidence_for state asked target))

mended : (state : ReplicaState) (asked : Asked) (target : ObjectId) → row_unknown state asked ≡ None
    → row_few state asked target ≡ None
    → MayGive state (Some (decision_by target (mending_on state asked target)))
mended state asked target known enough decision given =
    subst (MayDecide state) (same_Some (decision_by target (mending_on state asked target)) decision given)
    (mending_may state asked target (no_unknown state asked known)
    (known_target state asked target known (enough_shown state asked target enough)))

pub may_repair : (state : ReplicaState) (asked : Asked) (target : ObjectId)
    → MayDecide state (decide_repair state asked target)
unfolding decide_repair
may_repair state asked target =
    past state _ _ (unknown state asked) (λ known.
    past state _ _ (thin state asked) (λ _.
    past state _ _ (few state asked target) (λ enough.
    past state _ _ (evidence state asked target) (λ _.
    past state _ _ (mended state asked target known enough) (λ _. nothing state)))))

pub decision_on-may : (state : ReplicaState) (asked : Asked) (asks : Body) → IsTrue (has_parts asks)
    → MayDecide state (decision_on state asked asks)
decision_on-may state asked (body.Act parts) are =
    may_act state asked parts (objects_of parts) (distinct_parts parts are)
decision_on-may state asked (body.Ask parts) are = may_ask state asked parts (objects_of parts)
decision_on-may state asked (body.Mend target) are = may_repair state asked target
