-- A frame that is handled at the event that hands it over, and what a replica keeps when it learns or handles.
use Rattle.std.proofs.Common.{◌≡◌, ℕ, [], List, refl, sym, ap, ◌∙◌}
use Rattle.std.specs.Prelude.{slice_get}
use Rattle.std.proofs.lemmas.List.{append-nil}
use Rattle.std.proofs.lemmas.List.Elements.{All-nil}
use Rattle.qu_base.specs.declared.party.ObjectId.{ObjectId}
use Rattle.qu_base.specs.declared.party.Party.{Party}
use Rattle.qu_base.specs.declared.party.Party.TheVariants as party
use Rattle.std.proofs.lemmas.Option.{same_Some}
use Rattle.qu_frames.specs.Signing.{brought}
use Rattle.qu_history.specs.History.{ObjectHistory}
use Rattle.qu_history.specs.declared.sets.SetOf.{SetOf}
use Rattle.qu_history.specs.Culling.{culled}
use Rattle.qu_base.specs.declared.party.ReplicaId.{ReplicaId}
use Rattle.qu_seal.specs.Keys.{Ring}
use Rattle.qu_runs.proofs.Worlds.OpeningReplicas.{keys_are, me_is, bounds_are}
use Rattle.qu_rows.specs.State.{ReplicaState, own_candidates}
use Rattle.qu_mends.specs.Table.{candidates_in}
use Rattle.qu_trace.specs.declared.trace.Entry.{Entry}
use Rattle.qu_trace.specs.declared.trace.Trace.{Trace}
use Rattle.qu_claims.specs.Carried.{handed}
use Rattle.qu_claims.specs.Handling.{WasFound, Learns, handled_now, Handles}
use Rattle.qu_claims.specs.Times.{world_after}
use Rattle.qu_replica.specs.Growth.{HoldsAlike}

pub holds_alike : (one other : ReplicaState) → one ≡ other → HoldsAlike one other
holds_alike one other same = record {
  me = ap (λ (it : ReplicaState). it.me) same;
  keys = ap (λ (it : ReplicaState). it.keys) same;
  histories = ap (λ (it : ReplicaState). it.histories) same;
  versions = ap (λ (it : ReplicaState). it.versions) same;
}

abbrev pub learns_nothing : (trace : Trace) (at : ℕ) (state : ReplicaState) → Learns trace at state state
learns_nothing trace at state = record {
  me = refl;
  keys = refl;
  histories = refl;
  more = [];
  versions = sym (append-nil state.versions);
  were_found = All-nil (WasFound trace at);
}

-- what a replica learns leaves its candidates as they were
pub mid_candidates : (trace : Trace) (at : ℕ) (old mid : ReplicaState) → Learns trace at old mid → (object : ObjectId)
    → own_candidates mid object ≡ own_candidates old object
mid_candidates trace at old mid learns object =
    ap (λ (it : List ObjectHistory). candidates_in (slice_get it object.0)) learns.histories

-- what a replica keeps of sets in culling it kept when they came
pub same_culled : (trace : Trace) (at place : ℕ) (old new : ReplicaState) (handles : Handles trace at place old new)
    (sets : List SetOf) → culled (handles.receiver).keys (handles.receiver).me sets
    ≡ culled (handles.mid).keys (handles.mid).me sets
same_culled trace at place old new handles sets =
    ap (λ (keys : Ring). culled keys (handles.receiver).me sets)
    (keys_are trace handles.since place handles.receiver handles.is_receiver
    ∙ sym (keys_are trace at place old handles.is_old) ∙ sym (handles.learns).keys)
    ∙ ap (λ (me : ReplicaId). culled (handles.mid).keys me sets)
    (me_is trace handles.since place handles.receiver handles.is_receiver
    ∙ sym (me_is trace at place old handles.is_old) ∙ sym (handles.learns).me)

pub mid_bounds : (trace : Trace) (at place : ℕ) (old new : ReplicaState) (handles : Handles trace at place old new)
    → (handles.mid).keys.bounds ≡ trace.setup.bounds
mid_bounds trace at place old new handles =
    ap (λ (keys : Ring). keys.bounds) (handles.learns).keys ∙ bounds_are trace at place old handles.is_old

-- ---- one event

abbrev place_of : Party → ℕ
place_of (party.Replica me) = me.0
place_of (party.Client me) = 0

-- an event makes one replica handle one frame
pub one_handled : (trace : Trace) (at place elsewhere : ℕ) (old new others news : ReplicaState)
    (one : Handles trace at place old new) (two : Handles trace at elsewhere others news)
    → (place ≡ elsewhere) × (one.carried ≡ two.carried)
one_handled trace at place elsewhere old new others news one two =
    let events : one.now ≡ two.now = same_Some one.now two.now (sym one.is_now ∙ two.is_now) in
    let same : (party.Replica (record { 0 = place }), one.given) ≡ (party.Replica (record { 0 = elsewhere }), two.given)
    = same_Some _ _ (sym one.is_given ∙ ap (λ (it : Entry). handed (world_after trace at) it.event) events
    ∙ two.is_given) in
    let places : place ≡ elsewhere = ap (λ (it : Party × List ℕ). place_of it.0) same in
    let olds : old ≡ others =
    same_Some old others (sym one.is_old ∙ ap (slice_get (world_after trace at).replicas) places ∙ two.is_old) in (
      places,
      same_Some one.carried two.carried (sym one.is_carried
          ∙ ap (λ (it : ReplicaState). handled_now it (brought it.keys (party.Replica it.me) one.given)) olds
          ∙ ap (λ (it : Party × List ℕ). handled_now others (brought others.keys (party.Replica others.me) it.1)) same
          ∙ two.is_carried),
    )
