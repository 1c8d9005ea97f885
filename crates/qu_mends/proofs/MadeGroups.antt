-- The group of the candidates that are made on the objects of a group.
use Rattle.std.proofs.Common.{◌≡◌, ℕ, ◌+◌, ◌<◌, ◌≤◌, true, List, [], ◌∷◌, map, length, refl, ap, ◌∙◌, arith}
use Rattle.std.specs.Prelude.{nat_le, nat_lt}
use Rattle.std.specs.List.{All, AllByRecursion, list_all}
use Rattle.std.proofs.lemmas.Bool.{and_parts, and_from, le-leb, ltb-true}
use Rattle.std.proofs.lemmas.List.{length-map}
use Rattle.std.proofs.lemmas.List.Elements.{All-from_recursion}
use Rattle.qu_base.specs.declared.limits.TheConstants.{OBJECT_IDS}
use Rattle.qu_base.specs.declared.party.ObjectId.{ObjectId}
use Rattle.qu_stamp.specs.declared.limits.TheConstants.{LAST_TIME}
use Rattle.qu_stamp.specs.Group.{is_group_size, is_member_from, are_members_from, is_group}
use Rattle.qu_history.specs.declared.sets.SetOf.{SetOf}
use Rattle.qu_history.specs.Sets.{entries_of, latest_of}
use Rattle.qu_mends.specs.Causes.{HasTime}
use Rattle.qu_mends.specs.Remedy.{has_time, fresh_member}

module _ (sets : List SetOf) where
  made_members : (least : ℕ) (members : List (ObjectId × ℕ)) → are_members_from least members ≡ true
      → list_all (has_time sets) members ≡ true → are_members_from least (map (fresh_member sets) members) ≡ true
  unfolding are_members_from
  made_members least [] rise timed = refl
  made_members least (member ∷ later) rise timed =
      let both = and_parts (is_member_from least member) (are_members_from ((member.0).0 + 1) later) rise in
      let times = and_parts (has_time sets member) (list_all (has_time sets) later) timed in
      let above = and_parts (nat_le least (member.0).0) _ both.0 in
      let number = and_parts (nat_lt (member.0).0 OBJECT_IDS) _ above.1 in
      let time : ℕ = (latest_of (entries_of member.0 sets)).time in
      let below : time < LAST_TIME = ltb-true _ _ times.0 in
      let least_time : 1 ≤ time + 1 = omega arith in
      let last_time : time + 1 ≤ LAST_TIME = omega (arith, below) in
      and_from _ _
      (and_from _ _ above.0
      (and_from _ _ number.0 (and_from _ _ (le-leb 1 (time + 1) least_time) (le-leb (time + 1) LAST_TIME last_time))))
      (made_members ((member.0).0 + 1) later both.1 times.1)

  pub made_whole : (group : List (ObjectId × ℕ)) → is_group group ≡ true → list_all (has_time sets) group ≡ true
      → is_group (map (fresh_member sets) group) ≡ true
  unfolding is_group
  made_whole group is timed =
      let both = and_parts (is_group_size (length group)) (are_members_from 0 group) is in
      and_from _ _ (ap is_group_size (length-map group (fresh_member sets)) ∙ both.0)
      (made_members 0 group both.1 timed)

  each_timed : (members : List (ObjectId × ℕ)) → list_all (has_time sets) members ≡ true
      → AllByRecursion (HasTime sets) members
  each_timed [] timed = tt
  each_timed (member ∷ later) timed =
      let both = and_parts (has_time sets member) (list_all (has_time sets) later) timed in
      (ltb-true _ _ both.0, each_timed later both.1)

  pub all_timed : (members : List (ObjectId × ℕ)) → list_all (has_time sets) members ≡ true
      → All (HasTime sets) members
  all_timed members timed = All-from_recursion (HasTime sets) members (each_timed members timed)
