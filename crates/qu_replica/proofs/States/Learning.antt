-- What a frame tells a replica: nothing, an answer to a fetch, or a version that is found.
use Rattle.std.proofs.Common.{◌≡◌, ◌⊎◌, Bool, true, false, cond, List, [], ◌∷◌, ◌++◌, Option, None, Some, inl, inr, refl, ℕ, slice_get, ap, option_map, sym, ◌&&◌, ◌∙◌}
use Rattle.std.proofs.lemmas.Bool.{cond_both, cases_Bool}
use Rattle.qu_base.specs.declared.party.ObjectId.{ObjectId}
use Rattle.qu_base.specs.declared.party.ReplicaId.{ReplicaId}
use Rattle.qu_stamp.specs.declared.stamp.Stamp.{Stamp}
use Rattle.qu_objects.specs.declared.state.ObjState.{ObjState}
use Rattle.qu_frames.specs.declared.frame.Frame.{Frame}
use Rattle.qu_frames.specs.declared.frame.Frame.TheVariants as frame
use Rattle.qu_frames.specs.declared.frame.Letter.{Letter}
use Rattle.qu_objects.specs.States.{state_form}
use Rattle.qu_waiting.specs.Fetching.{completes, with_answer}
use Rattle.qu_versions.specs.Versions.{has_version}
use Rattle.qu_waiting.specs.Waiting.{Waiting, Running}
use Rattle.qu_rows.specs.State.{ReplicaState}
use Rattle.qu_waiting.specs.Slots.{is_running, fetch_under, with_votes, first_waiting}
use Rattle.qu_replica.specs.Step.{has_kind, is_found, with_found, with_told, learned, if_handled, completes_fetch, replica_on_frame}
use Rattle.std.proofs.lemmas.Option.{none-some}

-- the frame has a version that completes its fetch, and none is held under its key: it is stored
pub record HasFound (old : ReplicaState) (taken : Frame) (mid : ReplicaState) : Type 0 where
  pub replica : ReplicaId
  pub object : ObjectId
  pub stamp : Stamp
  pub version : ObjState
  pub mac : List ℕ
  pub is_taken : taken ≡ frame.Fetched replica object stamp version mac
  pub found : is_found old replica object stamp version ≡ true
  pub lacked : has_version object stamp old.versions ≡ false
  pub versions : mid.versions ≡ old.versions ++ record { object = object; stamp = stamp; state = version } ∷ []

pub record Learned (old : ReplicaState) (taken : Frame) (mid : ReplicaState) : Type 0 where
  pub me : mid.me ≡ old.me
  pub keys : mid.keys ≡ old.keys
  pub kinds : mid.kinds ≡ old.kinds
  pub histories : mid.histories ≡ old.histories
  pub versions : (mid.versions ≡ old.versions) ⊎ HasFound old taken mid

nothing_learned : (state : ReplicaState) (taken : Frame) → Learned state taken state
nothing_learned state taken =
    record { me = refl; keys = refl; kinds = refl; histories = refl; versions = inl refl }

told : (state : ReplicaState) (replica : ReplicaId) (object : ObjectId) (stamp : Stamp) (version : ObjState)
    (mac : List ℕ) → Learned state (frame.Fetched replica object stamp version mac)
    (with_told state replica object stamp version)
told state replica object stamp version mac =
    cond_both _ _ _ (Learned state (frame.Fetched replica object stamp version mac))
    (λ _. record { me = refl; keys = refl; kinds = refl; histories = refl; versions = inl refl })
    (λ _. nothing_learned state (frame.Fetched replica object stamp version mac))

found_so : (state : ReplicaState) (replica : ReplicaId) (object : ObjectId) (stamp : Stamp) (version : ObjState)
    (mac : List ℕ) → is_found state replica object stamp version ≡ true
    → Learned state (frame.Fetched replica object stamp version mac) (with_found state object stamp version)
found_so state replica object stamp version mac found = record {
  me = refl;
  keys = refl;
  kinds = refl;
  histories = refl;
  versions = by_held (has_version object stamp state.versions) refl;
}
  where
    by_held : (held : Bool) → has_version object stamp state.versions ≡ held
        → ((with_found state object stamp version).versions ≡ state.versions)
        ⊎ HasFound state (frame.Fetched replica object stamp version mac) (with_found state object stamp version)
    by_held true is = inl (rw is refl)
    by_held false is = inr (record {
      replica = replica;
      object = object;
      stamp = stamp;
      version = version;
      mac = mac;
      is_taken = refl;
      found = found;
      lacked = is;
      versions = rw is refl;
    })

pub is_learned : (state : ReplicaState) (taken : Frame) → Learned state taken (learned state taken)
is_learned state (frame.Fetched replica object stamp version mac) =
    cond_both _ _ _ (Learned state (frame.Fetched replica object stamp version mac))
    (λ found. found_so state replica object stamp version mac found)
    (λ _. told state replica object stamp version mac)
is_learned state (frame.Request client number round sets body mac) = nothing_learned state _
is_learned state (frame.Reply replica client number round verdict culled shown mac) = nothing_learned state _
is_learned state (frame.Fetch replica object stamp mac) = nothing_learned state _

-- ---- a version that comes

no_votes : (object : ObjectId) (stamp : Stamp) (replica : ReplicaId) (text : List ℕ) (fetching : List Running)
    → fetch_under object stamp fetching ≡ None → with_votes object stamp replica text fetching ≡ fetching
unfolding with_votes
no_votes object stamp replica text [] none = refl
no_votes object stamp replica text (running ∷ later) none =
    elim (cases_Bool (is_running object stamp running)) [
      | inl is ↦ absurd (none-some running (sym (sym (ap (λ (test : Bool). cond test (Some running)
          (fetch_under object stamp later)) is) ∙ none)))
      | inr not ↦
          let rest : fetch_under object stamp later ≡ None =
          sym (ap (λ (test : Bool). cond test (Some running) (fetch_under object stamp later)) not) ∙ none in
          (λ i. cond (not i) (record running { answers = with_answer running.answers replica text }) running
          ∷ no_votes object stamp replica text later rest i)
    ]

module _ (state : ReplicaState) (replica : ReplicaId) (object : ObjectId) (stamp : Stamp) (version : ObjState)
    (mac : List ℕ) where
  abbrev text : List ℕ
  text = state_form.spell version

  -- what is made of it, by the tests
  abbrev made_by : Bool → Bool → ReplicaState × List Letter
  made_by of_kind found =
      if_handled
      (cond (of_kind && found) (with_found state object stamp version)
      (cond of_kind (record state { fetching = with_votes object stamp replica text state.fetching }) state))
      (cond (of_kind && found) (option_map (λ (waiting : Waiting). waiting.request)
      (first_waiting object stamp state.waiting)) None)

  by_tests : (of_kind found : Bool) → has_kind (slice_get state.kinds object.0) version.value ≡ of_kind
      → completes_fetch (fetch_under object stamp state.fetching) replica text ≡ found
      → replica_on_frame state (frame.Fetched replica object stamp version mac) ≡ made_by of_kind found
  by_tests of_kind found kind_is found_is = λ i. made_by (kind_is i) (found_is i)

  pub fetched_unasked : fetch_under object stamp state.fetching ≡ None
      → replica_on_frame state (frame.Fetched replica object stamp version mac) ≡ (state, [])
  fetched_unasked none =
      by_tests _ false refl (ap (λ (it : Option Running). completes_fetch it replica text) none)
      ∙ uncounted (has_kind (slice_get state.kinds object.0) version.value)
    where
      uncounted : (of_kind : Bool) → made_by of_kind false ≡ (state, [])
      uncounted true = ap (λ (them : List Running). (record state { fetching = them }, []))
          (no_votes object stamp replica text state.fetching none)
      uncounted false = refl

  pub fetched_counted : (running : Running) → has_kind (slice_get state.kinds object.0) version.value ≡ true
      → fetch_under object stamp state.fetching ≡ Some running → completes running.answers replica text ≡ false
      → replica_on_frame state (frame.Fetched replica object stamp version mac)
      ≡ (record state { fetching = with_votes object stamp replica text state.fetching }, [])
  fetched_counted running kind runs still =
      by_tests true false kind (ap (λ (it : Option Running). completes_fetch it replica text) runs ∙ still)

  pub fetched_found : (running : Running) → has_kind (slice_get state.kinds object.0) version.value ≡ true
      → fetch_under object stamp state.fetching ≡ Some running → completes running.answers replica text ≡ true
      → replica_on_frame state (frame.Fetched replica object stamp version mac)
      ≡ if_handled (with_found state object stamp version)
      (option_map (λ (waiting : Waiting). waiting.request) (first_waiting object stamp state.waiting))
  fetched_found running kind runs last =
      by_tests true true kind (ap (λ (it : Option Running). completes_fetch it replica text) runs ∙ last)
