-- What a replica's state is with what it gains.
use Rattle.std.proofs.Common.{◌≡◌, ◌<◌, ◌≤◌, Bool, true, false, cond, List, [], ◌∷◌, ◌++◌, length, Option, None, Some, refl, sym, subst, ap, ◌∙◌}
use Rattle.std.specs.Prelude.{slice_get, IfSome, unwrap_or}
use Rattle.std.specs.List.{AllByRecursion}
use Rattle.std.proofs.lemmas.List.{append-nil}
use Rattle.qu_base.specs.declared.party.ClientId.{ClientId}
use Rattle.qu_base.specs.declared.party.ObjectId.{ObjectId}
use Rattle.qu_base.specs.declared.party.ReplicaId.{ReplicaId}
use Rattle.qu_stamp.specs.declared.stamp.Stamp.{Stamp}
use Rattle.qu_history.specs.History.{ObjectHistory}
use Rattle.qu_versions.specs.declared.limits.TheConstants.{MOST_VERSIONS}
use Rattle.qu_versions.specs.declared.stored.Stored.{Stored}
use Rattle.qu_versions.specs.Versions.{has_version, with_version}
use Rattle.qu_mends.specs.declared.accepted.Accepted.{Accepted}
use Rattle.qu_waiting.specs.Waiting.{Waiting, Running}
use Rattle.qu_rows.specs.State.{ReplicaState, AreHistories, are_own}
use Rattle.qu_rows.specs.Allowed.{MayAcceptAll}
use Rattle.qu_replica.specs.declared.planned.Gain.{Gain}
use Rattle.qu_waiting.specs.declared.next.Turn.{Turn}
use Rattle.qu_waiting.specs.declared.next.Next.TheVariants.{Nothing, Lacks}
use Rattle.qu_fitting.specs.Holding.{stored_all, accept_all}
use Rattle.qu_fitting.specs.Holding.{with_histories}
use Rattle.qu_replica.specs.State.{with_gain}
use Rattle.qu_waiting.specs.Slots.{next_slot, with_turn, with_slot, with_fetches, without_fetch, first_waiting, without_request, AreSlots, TurnFits}
use Rattle.qu_replica.specs.Growth.{MayGain}
use Rattle.qu_replica.specs.Step.{answers_needed, with_waiting, with_found}
use Rattle.qu_fitting.proofs.AcceptingAll.{with_candidates, accept_all-is, accept_all-histories}
use Rattle.qu_replica.proofs.States.Growth.{accept_all-me}
use Rattle.qu_waiting.proofs.SlotLaws.{turned, in_its_slot, set_over}

-- ---- no history more

pub gain_keeps : (state : ReplicaState) (gain : Gain) → gain.histories ≡ [] → AreHistories state
    → AreSlots state.waiting → TurnFits state.waiting gain.turn
    → length ((state.versions ++ gain.found) ++ gain.versions) ≤ MOST_VERSIONS → MayGain state gain
gain_keeps state gain none own slots turn room = record {
  known = subst (λ (it : List ObjectHistory). AllByRecursion
      (λ (history : ObjectHistory). (history.object).0 < length state.histories) it) (sym none) tt;
  own = subst (λ (it : List ObjectHistory). are_own state.me 0 (with_histories it state.histories) ≡ true) (sym none)
      own;
  slots = turned state.waiting gain.turn slots turn;
  room = room;
}

pub gain_is_nothing : (state : ReplicaState) (gain : Gain) → gain.histories ≡ [] → gain.found ≡ []
    → gain.versions ≡ [] → gain.turn ≡ None → gain.fetching ≡ None → with_gain state gain ≡ state
gain_is_nothing state gain histories found versions turn fetching =
    let kept : (state.versions ++ gain.found) ++ gain.versions ≡ state.versions =
    ap (λ (more : List Stored). (state.versions ++ gain.found) ++ more) versions
    ∙ append-nil (state.versions ++ gain.found)
    ∙ ap (λ (more : List Stored). state.versions ++ more) found ∙ append-nil state.versions in
    λ i. record state {
      histories = with_histories (histories i) state.histories;
      versions = kept i;
      waiting = with_turn (turn i) state.waiting;
      fetching = unwrap_or (fetching i) state.fetching;
    }

-- ---- candidates that are accepted

module _ (state : ReplicaState) (accepted : List Accepted) (base : Gain) (grown : List ObjectHistory)
    (versions : List Stored) (is_grown : with_histories grown state.histories ≡ (accept_all state accepted).histories)
    (is_stored : versions ≡ stored_all accepted) where
  pub gain_is_accepted : base.histories ≡ [] → base.versions ≡ []
      → with_gain state (record base { histories = grown; versions = versions })
      ≡ accept_all (with_gain state base) accepted
  gain_is_accepted none empty =
      let histories : with_histories grown state.histories
      ≡ with_candidates accepted (with_histories base.histories state.histories) =
      is_grown ∙ ap (λ (it : ReplicaState). it.histories) (accept_all-is state accepted)
      ∙ ap (λ (it : List ObjectHistory). with_candidates accepted (with_histories it state.histories)) (sym none) in
      let before : List Stored = state.versions ++ base.found in
      let after : List Stored = stored_all accepted in
      let all : before ++ versions ≡ (before ++ base.versions) ++ after =
      ap (λ (more : List Stored). before ++ more) is_stored
      ∙ ap (λ (them : List Stored). them ++ after) (sym (append-nil before))
      ∙ ap (λ (more : List Stored). (before ++ more) ++ after) (sym empty) in
      (λ i. record state {
        histories = histories i;
        versions = all i;
        waiting = with_turn base.turn state.waiting;
        fetching = unwrap_or base.fetching state.fetching;
      })
      ∙ sym (accept_all-is (with_gain state base) accepted)

  pub gain_may : AreHistories state → MayAcceptAll state accepted
      → AllByRecursion (λ (history : ObjectHistory). (history.object).0 < length state.histories) grown
      → AreSlots state.waiting → TurnFits state.waiting base.turn
      → length ((state.versions ++ base.found) ++ versions) ≤ MOST_VERSIONS
      → MayGain state (record base { histories = grown; versions = versions })
  gain_may own may known slots turn room = record {
    known = known;
    own = subst (λ (them : List ObjectHistory). are_own state.me 0 them ≡ true) (sym is_grown)
        (subst (λ (me : ReplicaId). are_own me 0 (accept_all state accepted).histories ≡ true)
        (accept_all-me state accepted) (accept_all-histories state accepted own may));
    slots = turned state.waiting base.turn slots turn;
    room = room;
  }

-- ---- a request that waits

-- ---- a version that is found

abbrev pub turn_for : Option Waiting → Option Turn
turn_for None = None
turn_for (Some waiting) = Some (record { client = waiting.request.client; next = Nothing })

woken_turn : (woken : Option Waiting) (slots : List (Option Waiting))
    → with_turn (turn_for woken) slots ≡ without_request woken slots
woken_turn None slots = refl
woken_turn (Some waiting) slots = refl

stored_behind : (state : ReplicaState) (stored : Stored) (held : Bool)
    → (state.versions ++ cond held [] (stored ∷ [])) ++ []
    ≡ cond held state.versions (state.versions ++ stored ∷ [])
stored_behind state stored held =
    append-nil (state.versions ++ cond held [] (stored ∷ [])) ∙ behind held
  where
    behind : (held : Bool) → state.versions ++ cond held [] (stored ∷ [])
        ≡ cond held state.versions (state.versions ++ stored ∷ [])
    behind true = append-nil state.versions
    behind false = refl

-- what is gained where a version is found, before a request is handled
abbrev pub found_gain : Bool → Stored → Gain
found_gain held stored = record {
  histories = [];
  found = cond held [] (stored ∷ []);
  versions = [];
  turn = None;
  fetching = None;
}

module _ (state : ReplicaState) (stored : Stored) (held : Bool) (fetching : List Running)
    (is_held : held ≡ has_version stored.object stored.stamp state.versions)
    (is_fetching : fetching ≡ without_fetch stored.object stored.stamp state.fetching) where
  held_versions : (state.versions ++ cond held [] (stored ∷ [])) ++ []
      ≡ with_version stored.object stored.stamp stored.state state.versions
  held_versions = stored_behind state stored held
      ∙ ap (λ (test : Bool). cond test state.versions (state.versions ++ stored ∷ [])) is_held

  pub gain_is_found : (woken : Option Waiting) → first_waiting stored.object stored.stamp state.waiting ≡ woken
      → with_gain state (record (found_gain held stored) { turn = turn_for woken; fetching = Some fetching })
      ≡ with_found state stored.object stored.stamp stored.state
  gain_is_found woken lowest =
      let slots : with_turn (turn_for woken) state.waiting
      ≡ without_request (first_waiting stored.object stored.stamp state.waiting) state.waiting =
      woken_turn woken state.waiting
      ∙ ap (λ (it : Option Waiting). without_request it state.waiting) (sym lowest) in
      λ i. record state { versions = held_versions i; waiting = slots i; fetching = is_fetching i }

  -- the request that was woken waits again
  pub gain_waits_again : (waiting : Waiting) → AreSlots state.waiting
      → first_waiting stored.object stored.stamp state.waiting ≡ Some waiting
      → (missing : List (ObjectId × Stamp)) (fetches : List Running)
      → fetches ≡ with_fetches (answers_needed state) missing fetching
      → with_gain state (record (found_gain held stored) {
        turn = Some (record { client = waiting.request.client; next = Lacks missing });
        fetching = Some fetches;
      }) ≡ with_waiting (with_found state stored.object stored.stamp stored.state) waiting.request missing
  gain_waits_again waiting all lowest missing fetches is_fetches =
      let client : ClientId = waiting.request.client in
      let again : Option Waiting = Some (record { request = waiting.request; missing = missing }) in
      let here : slice_get state.waiting client.0 ≡ Some (Some waiting) =
      in_its_slot stored.object stored.stamp state.waiting waiting all lowest in
      let slots : with_turn (Some (record { client = client; next = Lacks missing })) state.waiting
      ≡ with_slot client again
      (without_request (first_waiting stored.object stored.stamp state.waiting) state.waiting) =
      ap (λ (it : Option (Option Waiting)). with_slot client (next_slot (Lacks missing) (unwrap_or it None))
      state.waiting) here
      ∙ sym (set_over state.waiting client.0 None again)
      ∙ ap (λ (it : Option Waiting). with_slot client again (without_request it state.waiting)) (sym lowest) in
      let all_fetches : fetches ≡ with_fetches (answers_needed state) missing
      (without_fetch stored.object stored.stamp state.fetching) =
      is_fetches ∙ ap (with_fetches (answers_needed state) missing) is_fetching in
      λ i. record state { versions = held_versions i; waiting = slots i; fetching = all_fetches i }

  pub turn_again : (waiting : Waiting) → AreSlots state.waiting
      → first_waiting stored.object stored.stamp state.waiting ≡ Some waiting
      → (missing : List (ObjectId × Stamp))
      → TurnFits state.waiting (Some (record { client = waiting.request.client; next = Lacks missing }))
  turn_again waiting all lowest missing =
      subst (λ (it : Option (Option Waiting)). IfSome (next_slot (Lacks missing) (unwrap_or it None))
      (λ (slot : Waiting). ((slot.request).client).0 ≡ (waiting.request.client).0))
      (sym (in_its_slot stored.object stored.stamp state.waiting waiting all lowest)) refl
