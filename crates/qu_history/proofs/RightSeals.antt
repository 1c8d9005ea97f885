-- What a replica sealed is right for each replica of its ring, and sets whose entries are all right are culled to
-- themselves, with nothing left out.
use Rattle.std.proofs.Common.{◌≡◌, ℕ, ◌<◌, Bool, true, not, cond, List, [], ◌∷◌, ◌++◌, length, Some, IsTrue, refl, ap, ◌∙◌, arith}
use Rattle.std.specs.Prelude.{map, filter, slice_get}
use Rattle.std.specs.List.{range_with_len, list_all, flat_map}
use Rattle.std.specs.Cmp.Lexicographic.{bytes_decides}
use Rattle.std.proofs.lemmas.Bool.{and_from, and_parts, ltb-true, eq-eqb}
use Rattle.std.proofs.lemmas.List.FromFn.{length-map-range_with_len, get_or-map-range_with_len}
use Rattle.std.proofs.lemmas.Option.{slice_get-get_or}
use Rattle.qu_base.specs.declared.party.Party.TheVariants.{Replica}
use Rattle.qu_base.specs.declared.party.ReplicaId.{ReplicaId}
use Rattle.qu_base.specs.Bounds.{replicas}
use Rattle.qu_seal.specs.Keys.{Ring, has_party, have_key, seal_of, verifies, authenticator_of}
use Rattle.qu_history.specs.declared.sealed.Sealed.{Sealed}
use Rattle.qu_history.specs.declared.sets.SetOf.{SetOf}
use Rattle.qu_history.specs.History.{ObjectHistory}
use Rattle.qu_history.specs.Culling.{history_digest, mac_is_right, is_right, culled_set, culled, left_of, left_out}
use Rattle.qu_history.specs.Sealing.{sealed_by, are_right}

-- ---- one entry

module _ (ring : Ring) (me : ReplicaId) (history : ObjectHistory)
    (from : has_party ring (Replica history.replica) ≡ true) (to : has_party ring (Replica me) ≡ true) where
  own_is_right : verifies ring (Replica history.replica) (Replica me) (history_digest history)
      (seal_of ring (Replica history.replica) (Replica me) (history_digest history)) ≡ true
  unfolding verifies
  own_is_right =
      and_from (have_key ring (Replica history.replica) (Replica me)) _ (and_from _ _ from (and_from _ _ to refl))
      ((bytes_decides (seal_of ring (Replica history.replica) (Replica me) (history_digest history)) _).1 refl)

  pub sealed_is_right : is_right ring me (sealed_by ring history) ≡ true
  unfolding is_right authenticator_of
  sealed_is_right =
      let make : ℕ → List ℕ = λ number. seal_of ring (Replica history.replica) (Replica (record { 0 = number }))
      (history_digest history) in
      let size : ℕ = replicas ring.bounds in
      let within : me.0 < size = ltb-true me.0 size to in
      let count : length (map make (range_with_len 0 size)) ≡ size = length-map-range_with_len make 0 size in
      let there : slice_get (map make (range_with_len 0 size)) me.0 ≡ Some (make me.0) =
      slice_get-get_or (map make (range_with_len 0 size)) me.0 [] (omega (arith, within, count))
      ∙ ap Some (get_or-map-range_with_len make 0 size me.0 me.0 [] within (omega arith)) in
      and_from _ _ (eq-eqb _ _ count) (ap (mac_is_right ring me history) there ∙ own_is_right)

-- of a call
pub right_made : (ring : Ring) (history : ObjectHistory) (macs : List (List ℕ))
    → macs ≡ authenticator_of ring history.replica (history_digest history) → (me : ReplicaId)
    → IsTrue (has_party ring (Replica history.replica)) → IsTrue (has_party ring (Replica me))
    → IsTrue (is_right ring me (record { history = history; macs = macs }))
right_made ring history macs is me from to =
    ap (λ (it : List (List ℕ)). is_right ring me (record { history = history; macs = it })) is
    ∙ sealed_is_right ring me history from to

-- ---- all entries

kept_whole : {X : Type 0} (test : X → Bool) (items : List X) → list_all test items ≡ true → filter test items ≡ items
kept_whole test [] all = refl
kept_whole test (item ∷ later) all =
    let parts = and_parts (test item) (list_all test later) all in
    ap (λ (it : Bool). cond it (item ∷ filter test later) (filter test later)) parts.0
    ∙ ap (λ (rest : List _). item ∷ rest) (kept_whole test later parts.1)

none_left : {X : Type 0} (test : X → Bool) (items : List X) → list_all test items ≡ true
    → filter (λ item. not (test item)) items ≡ []
none_left test [] all = refl
none_left test (item ∷ later) all =
    let parts = and_parts (test item) (list_all test later) all in
    ap (λ (it : Bool). cond (not it) (item ∷ filter (λ other. not (test other)) later)
    (filter (λ other. not (test other)) later)) parts.0
    ∙ none_left test later parts.1

module _ (ring : Ring) (me : ReplicaId) where
  sets_whole : (sets : List SetOf) → list_all (λ (set : SetOf). list_all (is_right ring me) set.entries) sets ≡ true
      → map (culled_set ring me) sets ≡ sets
  sets_whole [] all = refl
  sets_whole (set ∷ later) all =
      let parts = and_parts (list_all (is_right ring me) set.entries)
      (list_all (λ (it : SetOf). list_all (is_right ring me) it.entries) later) all in
      ap (λ (entries : List Sealed). (record { object = set.object; entries = entries })
      ∷ map (culled_set ring me) later) (kept_whole (is_right ring me) set.entries parts.0)
      ∙ ap (λ (rest : List SetOf). set ∷ rest) (sets_whole later parts.1)

  sets_named : (sets : List SetOf) → list_all (λ (set : SetOf). list_all (is_right ring me) set.entries) sets ≡ true
      → flat_map (left_of ring me) sets ≡ []
  sets_named [] all = refl
  sets_named (set ∷ later) all =
      let parts = and_parts (list_all (is_right ring me) set.entries)
      (list_all (λ (it : SetOf). list_all (is_right ring me) it.entries) later) all in
      ap (λ (left : List Sealed). map (λ (sealed : Sealed). (set.object, (sealed.history).replica)) left
      ++ flat_map (left_of ring me) later) (none_left (is_right ring me) set.entries parts.0)
      ∙ sets_named later parts.1

  pub culled_whole : (sets : List SetOf) → are_right ring me sets ≡ true → culled ring me sets ≡ sets
  unfolding are_right culled
  culled_whole sets all = sets_whole sets all

  pub none_left_out : (sets : List SetOf) → are_right ring me sets ≡ true → left_out ring me sets ≡ []
  unfolding are_right left_out
  none_left_out sets all = sets_named sets all
