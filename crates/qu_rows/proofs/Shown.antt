-- What was seen of objects: their versions, their times, and that they are those of an operation.
use Rattle.std.proofs.Common.{◌≡◌, ◌<◌, ◌≤◌, ℕ, suc, Bool, true, false, ◌||◌, cond, List, [], ◌∷◌, length, map, Option, None, Some, IsTrue, refl, sym, ap, subst, ◌∙◌, arith}
use Rattle.std.specs.Prelude.{find, is_none, nat_le}
use Rattle.std.specs.List.{All, AllByRecursion, list_any, cons_option}
use Rattle.std.proofs.lemmas.Bool.{true≢false, leb-false, and_from, le-leb}
use Rattle.std.proofs.lemmas.List.{length-map}
use Rattle.std.proofs.lemmas.List.Elements.{All-from_recursion}
use Rattle.std.proofs.lemmas.Option.{none-some}
use Rattle.qu_base.specs.declared.party.ObjectId.{ObjectId}
use Rattle.qu_stamp.specs.declared.limits.TheConstants.{LAST_TIME}
use Rattle.qu_objects.specs.declared.limits.TheConstants.{MOST_PARTS}
use Rattle.qu_objects.specs.Parts.{are_objects_from, are_parts}
use Rattle.qu_objects.proofs.PartLaws.{parts_are}
use Rattle.qu_objects.specs.declared.state.ObjState.{ObjState}
use Rattle.qu_mends.specs.declared.seen.Seen.{Seen}
use Rattle.qu_rows.specs.State.{ReplicaState}
use Rattle.qu_rows.specs.Rows.{Asked, AreOperated, objects_of, seen_each, version_seen, base_versions}

-- ---- where no version is missing, there is one for each object

found_by : (found : Option ObjState) (versions : List ObjState) (count : ℕ) (lacks : Bool)
    → (is_none found || lacks) ≡ false → (lacks ≡ false → length versions ≡ count)
    → length (cons_option found versions) ≡ suc count
found_by None versions count lacks none so_far = absurd (true≢false none)
found_by (Some version) versions count lacks none so_far = ap suc (so_far none)

pub versions_whole : (state : ReplicaState) (seen : List Seen)
    → list_any (λ (one : Seen). is_none (version_seen state one)) seen ≡ false
    → length (base_versions state seen) ≡ length seen
versions_whole state [] none = refl
versions_whole state (one ∷ later) none =
    found_by (version_seen state one) (base_versions state later) (length later)
    (list_any (λ (it : Seen). is_none (version_seen state it)) later) none (versions_whole state later)

-- ---- where no time is spent, each is below the last

in_time_each : (seen : List Seen) → find (λ (one : Seen). nat_le LAST_TIME one.latest.time) seen ≡ None
    → AllByRecursion (λ (one : Seen). one.latest.time < LAST_TIME) seen
in_time_each [] none = tt
in_time_each (one ∷ later) none = by_test (nat_le LAST_TIME one.latest.time) refl none (in_time_each later)
  where
    by_test : (spent : Bool) → nat_le LAST_TIME one.latest.time ≡ spent
        → cond spent (Some one) (find (λ (it : Seen). nat_le LAST_TIME it.latest.time) later) ≡ None
        → (find (λ (it : Seen). nat_le LAST_TIME it.latest.time) later ≡ None
        → AllByRecursion (λ (it : Seen). it.latest.time < LAST_TIME) later)
        → (one.latest.time < LAST_TIME) × AllByRecursion (λ (it : Seen). it.latest.time < LAST_TIME) later
    by_test true is found so_far = absurd (none-some one (sym found))
    by_test false is found so_far = (leb-false _ _ is, so_far found)

pub all_in_time : (seen : List Seen) → find (λ (one : Seen). nat_le LAST_TIME one.latest.time) seen ≡ None
    → All (λ (one : Seen). one.latest.time < LAST_TIME) seen
all_in_time seen none =
    All-from_recursion (λ (one : Seen). one.latest.time < LAST_TIME) seen (in_time_each seen none)

-- ---- the objects of an operation are seen as such

objects_shown : (state : ReplicaState) (asked : Asked) (objects : List ObjectId)
    → objects ≡ objects_of (map (λ (one : Seen). (one.object, one)) (seen_each state asked objects))
objects_shown state asked [] = refl
objects_shown state asked (object ∷ later) =
    ap (λ (objects : List ObjectId). object ∷ objects) (objects_shown state asked later)

-- parts on the objects of an operation are those of one
parts_on_these : {X Y : Type 0} (parts : List (ObjectId × X)) (others : List (ObjectId × Y))
    → objects_of parts ≡ objects_of others → IsTrue (are_parts parts) → IsTrue (are_parts others)
parts_on_these parts others same are =
    let it = parts_are parts are in
    let many : length others ≡ length parts =
    sym (length-map others (λ part. part.0)) ∙ ap length (sym same) ∙ length-map parts (λ part. part.0) in
    let some : 1 ≤ length parts = it.some in
    let few : length parts ≤ MOST_PARTS = it.few in
    and_from _ _ (and_from _ _ (le-leb 1 (length others) (omega (arith, many, some)))
    (le-leb (length others) MOST_PARTS (omega (arith, many, few))))
    (subst (λ (objects : List ObjectId). IsTrue (are_objects_from 0 objects)) same it.rise)

pub are_operated : {X : Type 0} (state : ReplicaState) (asked : Asked) (parts : List (ObjectId × X))
    → IsTrue (are_parts parts) → AreOperated (seen_each state asked (objects_of parts))
are_operated state asked parts are =
    parts_on_these parts (map (λ (one : Seen). (one.object, one)) (seen_each state asked (objects_of parts)))
    (objects_shown state asked (objects_of parts)) are
