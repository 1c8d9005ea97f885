-- What a replica makes of an operation, by functions of its objects.
use Rattle.std.proofs.Common.{◌≡◌, ℕ, List, [], ◌∷◌, map, Option, Some, refl, ap, ◌∙◌}
use Rattle.std.specs.Prelude.{option_map}
use Rattle.std.specs.List.{AllByRecursion, cons_option}
use Rattle.std.proofs.lemmas.Simd.{map-map}
use Rattle.qu_base.specs.declared.party.ObjectId.{ObjectId}
use Rattle.qu_stamp.specs.declared.stamp.Stamp.{Stamp}
use Rattle.qu_stamp.specs.declared.candidate.Candidate.{Candidate}
use Rattle.qu_objects.specs.declared.act.Method.{Method}
use Rattle.qu_objects.specs.declared.query.Ask.{Ask}
use Rattle.qu_objects.specs.declared.state.ObjState.{ObjState}
use Rattle.qu_objects.specs.Performing.{performed_answer, told_answer}
use Rattle.qu_kept.specs.Performing.{values_of, performed_states}
use Rattle.qu_kept.proofs.EachObject.{AreDistinct, objects_named, version_after, states_are}
use Rattle.qu_verdicts.specs.declared.verdict.Verdict.TheVariants.{Done, Told}
use Rattle.qu_mends.specs.declared.accepted.Accepted.{Accepted}
use Rattle.qu_mends.specs.declared.seen.Seen.{Seen}
use Rattle.qu_rows.specs.declared.decision.Decision.{Decision}
use Rattle.qu_rows.specs.declared.decision.Decision.TheVariants.{Answers}
use Rattle.qu_rows.specs.State.{ReplicaState}
use Rattle.qu_rows.specs.Rows.{Asked, seen_of, seen_each, method_base, base_version, base_versions, base_keys, stamp_after, fresh_stamp, fresh_stamps, fresh_keys, unless_alone, fresh_group, group_seen, accepted_by, row_done, row_told}

-- the candidate that is made upon a base, with this group
abbrev pub fresh_upon : Asked → List (ObjectId × ℕ) → ObjectId → Candidate → Candidate
fresh_upon asked group object base = record { stamp = fresh_stamp asked object; prior = base.stamp; group = group }

-- the objects, each with its stamp
abbrev pub with_stamps : (ObjectId → Stamp) → List ObjectId → List (ObjectId × Stamp)
with_stamps stamp objects = map (λ object. (object, stamp object)) objects

-- what is accepted of each object
abbrev pub accepted_each : (ObjectId → Candidate) → (ObjectId → ObjState) → List ObjectId → List Accepted
accepted_each candidates versions objects =
    map (λ object. record { object = object; candidate = candidates object; state = Some (versions object) }) objects

module _ (state : ReplicaState) (asked : Asked) where
  pub fresh_each : (objects : List ObjectId)
      → fresh_keys asked (seen_each state asked objects) ≡ with_stamps (fresh_stamp asked) objects
  fresh_each objects =
      map-map (λ (one : Seen). (one.object, stamp_after asked one.latest)) (seen_of state asked) objects

  stamps_each : (objects : List ObjectId)
      → fresh_stamps asked (seen_each state asked objects) ≡ map (fresh_stamp asked) objects
  stamps_each objects = map-map (λ (one : Seen). stamp_after asked one.latest) (seen_of state asked) objects

  pub group_each : (objects : List ObjectId)
      → group_seen asked (seen_each state asked objects) ≡ fresh_group asked objects
  group_each objects =
      ap unless_alone
      (map-map (λ (one : Seen). (one.object, (stamp_after asked one.latest).time)) (seen_of state asked) objects)

module _ (state : ReplicaState) (asked : Asked) (bases : ObjectId → Candidate) (befores : ObjectId → ObjState) where
  -- these are the bases of the objects, and the versions upon which an operation rests
  abbrev pub AreBases : List ObjectId → Type 0
  AreBases objects = AllByRecursion (λ object. method_base state asked object ≡ Some (bases object)) objects

  abbrev pub AreBefores : List ObjectId → Type 0
  AreBefores objects = AllByRecursion (λ object. base_version state asked object ≡ Some (befores object)) objects

  pub versions_each : (objects : List ObjectId) → AreBefores objects
      → base_versions state (seen_each state asked objects) ≡ map befores objects
  versions_each [] are = refl
  versions_each (object ∷ later) are =
      ap (λ (found : Option ObjState). cons_option found (base_versions state (seen_each state asked later))) are.0
      ∙ ap (λ (versions : List ObjState). befores object ∷ versions) (versions_each later are.1)

  base_keys_each : (objects : List ObjectId) → AreBases objects
      → base_keys (seen_each state asked objects) ≡ with_stamps (λ object. (bases object).stamp) objects
  base_keys_each [] are = refl
  base_keys_each (object ∷ later) are =
      ap (λ (found : Option Candidate). cons_option (option_map (λ (base : Candidate). (object, base.stamp)) found)
      (base_keys (seen_each state asked later))) are.0
      ∙ ap (λ (keys : List (ObjectId × Stamp)). (object, (bases object).stamp) ∷ keys) (base_keys_each later are.1)

  -- the candidates of an act on these objects
  abbrev pub fresh_candidates : List ObjectId → ObjectId → Candidate
  fresh_candidates objects object = fresh_upon asked (fresh_group asked objects) object (bases object)

  accepts_each : (group : List (ObjectId × ℕ)) (versions : ObjectId → ObjState) (objects : List ObjectId)
      → AreBases objects
      → accepted_by asked group (seen_each state asked objects) (map versions objects)
      ≡ accepted_each (λ object. fresh_upon asked group object (bases object)) versions objects
  accepts_each group versions [] are = refl
  accepts_each group versions (object ∷ later) are =
      let accept : Candidate → Accepted =
      λ fresh. record { object = object; candidate = fresh; state = Some (versions object) } in
      ap (λ (found : Option Candidate). cons_option (option_map accept (option_map (fresh_upon asked group object) found))
      (accepted_by asked group (seen_each state asked later) (map versions later))) are.0
      ∙ ap (λ (rest : List Accepted). accept (fresh_upon asked group object (bases object)) ∷ rest)
      (accepts_each group versions later are.1)

  -- the versions after an act with these parts
  abbrev pub versions_made : List (ObjectId × Method) → ObjectId → ObjState
  versions_made parts object =
      version_after asked.client asked.number parts (fresh_stamp asked) befores object

  pub done_each : (parts : List (ObjectId × Method)) → AreDistinct (objects_named parts)
      → AreBases (objects_named parts) → AreBefores (objects_named parts)
      → row_done asked parts (seen_each state asked (objects_named parts))
      (base_versions state (seen_each state asked (objects_named parts))) ≡ Some (Answers
      (Done (with_stamps (fresh_stamp asked) (objects_named parts))
      (performed_answer parts (values_of (map befores (objects_named parts)))))
      (accepted_each (fresh_candidates (objects_named parts)) (versions_made parts) (objects_named parts)))
  unfolding row_done
  done_each parts apart are_bases are_befores =
      let objects : List ObjectId = objects_named parts in
      let seen : List Seen = seen_each state asked objects in
      let states : List Stamp → List ObjState → List ObjState =
      λ stamps before. performed_states asked.client asked.number parts stamps before in
      let gives : List (ObjectId × Stamp) → List ObjState → List Accepted → Option Decision =
      λ keys before accepted. Some (Answers (Done keys (performed_answer parts (values_of before))) accepted) in
      let accepts : List (ObjectId × ℕ) → List ObjState → List Accepted =
      λ group versions. accepted_by asked group seen versions in
      ap (λ (before : List ObjState). gives (fresh_keys asked seen) before
      (accepts (group_seen asked seen) (states (fresh_stamps asked seen) before))) (versions_each objects are_befores)
      ∙ ap (λ (keys : List (ObjectId × Stamp)). gives keys (map befores objects)
      (accepts (group_seen asked seen) (states (fresh_stamps asked seen) (map befores objects))))
      (fresh_each state asked objects)
      ∙ ap (gives (with_stamps (fresh_stamp asked) objects) (map befores objects))
      (ap (λ (stamps : List Stamp). accepts (group_seen asked seen) (states stamps (map befores objects)))
      (stamps_each state asked objects)
      ∙ ap (accepts (group_seen asked seen))
      (states_are asked.client asked.number parts (fresh_stamp asked) befores apart)
      ∙ ap (λ (group : List (ObjectId × ℕ)). accepts group (map (versions_made parts) objects))
      (group_each state asked objects)
      ∙ accepts_each (fresh_group asked objects) (versions_made parts) objects are_bases)

  pub told_each : (parts : List (ObjectId × Ask)) → AreBases (objects_named parts) → AreBefores (objects_named parts)
      → row_told parts (seen_each state asked (objects_named parts))
      (base_versions state (seen_each state asked (objects_named parts))) ≡ Some (Answers
      (Told (with_stamps (λ object. (bases object).stamp) (objects_named parts))
      (told_answer parts (values_of (map befores (objects_named parts))))) [])
  unfolding row_told
  told_each parts are_bases are_befores =
      let objects : List ObjectId = objects_named parts in
      let gives : List (ObjectId × Stamp) → List ObjState → Option Decision =
      λ keys before. Some (Answers (Told keys (told_answer parts (values_of before))) []) in
      ap (gives (base_keys (seen_each state asked objects))) (versions_each objects are_befores)
      ∙ ap (λ (keys : List (ObjectId × Stamp)). gives keys (map befores objects)) (base_keys_each objects are_bases)
