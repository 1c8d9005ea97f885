-- What a remedy adds to the history of an object, and what is mended with the object.
use Rattle.std.specs.Prelude.{[], ◌∷◌, ℕ, Bool, false, ◌+◌, ◌==◌, nat_le, nat_lt, if◌then◌else◌, List, find, map, Option, None, Some, option_map}
use Rattle.qu_base.specs.declared.party.ClientId.{ClientId}
use Rattle.qu_base.specs.declared.party.Digest.{Digest}
use Rattle.qu_base.specs.declared.party.ObjectId.{ObjectId}
use Rattle.qu_stamp.specs.declared.stamp.Stamp.{Stamp}
use Rattle.qu_stamp.specs.declared.limits.TheConstants.{LAST_TIME}
use Rattle.qu_stamp.specs.declared.candidate.Candidate.{Candidate}
use Rattle.qu_stamp.specs.Group.{is_group}
use Rattle.qu_objects.specs.declared.state.ObjState.{ObjState}
use Rattle.qu_kept.specs.Performing.{copied_state}
use Rattle.qu_kept.specs.declared.course.Course.{Course}
use Rattle.qu_kept.specs.declared.remedy.Remedy.{Remedy}
use Rattle.qu_kept.specs.declared.remedy.Remedy.TheVariants.{Shown, Fresh, Unplanned}

-- ---- what mends an object, and where others are mended with it, their group and their remedies

-- no other object is mended with it
abbrev pub no_others : List (ObjectId × ℕ)
no_others = []

abbrev pub alone : Remedy → Course
alone remedy = record { remedy = remedy; group = no_others; members = [] }

-- these members are no group
abbrev pub no_group : List (ObjectId × ℕ)
no_group = []

-- the group, as each candidate has one that is well formed
abbrev pub whole_group : List (ObjectId × ℕ) → List (ObjectId × ℕ)
whole_group group = if is_group group then group else no_group

-- the candidate that is copied on an object, as the plan tells
abbrev pub copied_at : ObjectId → List (ObjectId × Candidate) → Option Candidate
copied_at object joint = option_map (λ part. part.1) (find (λ part. (part.0).0 == object.0) joint)

-- a plan copies its target
abbrev pub copy_of : ObjectId → Option Candidate → Remedy
copy_of target (Some chosen) = Fresh false chosen.stamp
copy_of target None = Unplanned target

abbrev pub chosen_member : ObjectId × Candidate → ObjectId × ℕ
chosen_member part = (part.0, part.1.stamp.time)

abbrev pub copied_member : ObjectId × Candidate → ObjectId × Remedy
copied_member part = (part.0, Fresh false part.1.stamp)

-- what is copied is copied on all objects of the plan
abbrev pub joint_course : ObjectId → List (ObjectId × Candidate) → Course
joint_course target joint =
    record {
      remedy = copy_of target (copied_at target joint);
      group = whole_group (map chosen_member joint);
      members = map copied_member joint;
    }

-- the objects that are mended: those of the group, which lists the target, or the target alone
unfoldable pub remedies_by : ObjectId → Course → List (ObjectId × ℕ) → List (ObjectId × Remedy)
remedies_by target course [] = (target, course.remedy) ∷ []
remedies_by target course (member ∷ later) = course.members

-- ---- what a remedy adds

-- the candidate above all that the sets show, of which this stamp is the latest: a barrier or a copy. It is made for
-- this client, upon sets with this digest, and with this group.
abbrev pub fresh_for : ClientId → Digest → List (ObjectId × ℕ) → Stamp → Bool → Stamp → Candidate
fresh_for client set made latest barrier prior =
    record {
      stamp = record {
        time = latest.time + 1;
        barrier = barrier;
        client = client;
        act = None;
        set = set;
      };
      prior = prior;
      group = made;
    }

-- the candidate that the remedy adds; none has a time after the last
unfoldable pub added_for : ClientId → Digest → List (ObjectId × ℕ) → Stamp → Remedy → Option Candidate
added_for client set made latest (Shown candidate) =
    if nat_le candidate.stamp.time LAST_TIME then Some candidate else None
added_for client set made latest (Fresh barrier prior) =
    if nat_lt latest.time LAST_TIME then Some (fresh_for client set made latest barrier prior) else None
added_for client set made latest _ = None

abbrev pub unless_barrier : {X : Type 0} → Bool → X → Option X
unless_barrier barrier value = if barrier then None else Some value

-- the stamp of the version that what is added has: that of the shown candidate, or that of the copied one. A barrier
-- has no version.
unfoldable pub wanted_by : Remedy → Option Stamp
wanted_by (Shown candidate) = unless_barrier candidate.stamp.barrier candidate.stamp
wanted_by (Fresh barrier prior) = unless_barrier barrier prior
wanted_by _ = None

-- of the version that was found, what is stored with the candidate that is added to the object: a copy's; that of a
-- shown candidate stands under its own stamp already
unfoldable pub stored_by : ObjectId → Candidate → Remedy → Option ObjState → Option ObjState
stored_by object candidate (Fresh false prior) version = option_map (copied_state object candidate) version
stored_by object candidate _ version = None
