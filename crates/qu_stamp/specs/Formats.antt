-- The formats of stamps, groups and candidates.
use Rattle.std.specs.Prelude.{ℕ, Bool, true, false, not, ◌+◌, ◌==◌, ◌&&◌, ◌||◌, nat_le, if◌then◌else◌, List, ◌++◌, length, Option, None, Some}
use Rattle.std.specs.List.{flat_map}
use Rattle.std.specs.Int.{w8, w16, w64, to_be_bytes}
use Rattle.qu_base.specs.declared.bad_text.Why.TheVariants.{Range, Order}
use Rattle.qu_base.specs.declared.limits.TheConstants.{LAST_CLIENT}
use Rattle.qu_base.specs.declared.party.ClientId.{ClientId}
use Rattle.qu_base.specs.declared.party.Digest.{Digest}
use Rattle.qu_base.specs.declared.party.ObjectId.{ObjectId}
use Rattle.qu_base.specs.Format.{Format, number, both, tested, made, flag, optional, items, counted, digest_form, object_form}
use Rattle.qu_stamp.specs.declared.stamp.Stamp.{Stamp}
use Rattle.qu_stamp.specs.declared.limits.TheConstants.{LAST_TIME}
use Rattle.qu_stamp.specs.declared.candidate.Candidate.{Candidate}
use Rattle.qu_stamp.specs.Stamp.{opening_stamp, is_below, same_stamp, same_digest}
use Rattle.qu_stamp.specs.Group.{is_group_size, listed_time}

-- ---- stamps

-- time 0 is that of the opening stamp, which has no barrier, client 0, no act and 32 zero bytes
abbrev pub is_opening_time : ℕ → Bool
is_opening_time time = time == 0

-- client 0 stands at time 0 and nowhere else
abbrev pub least_client : ℕ → ℕ
least_client time = if is_opening_time time then 0 else 1

abbrev pub most_client : ℕ → ℕ
most_client time = if is_opening_time time then 0 else LAST_CLIENT

abbrev pub stamp_client_form : ℕ → Format ClientId
stamp_client_form time =
    made (λ client. record { 0 = client }) (λ client. Some client.0)
    (number w16 (least_client time) (most_client time))

-- a barrier has no act
abbrev pub may_have_act : ℕ → Bool → Bool
may_have_act time barrier = not (is_opening_time time) && not barrier

abbrev pub may_be_set : ℕ → Digest → Bool
may_be_set time digest = not (is_opening_time time) || same_digest digest (opening_stamp.set)

abbrev pub stamp_set_form : ℕ → Format Digest
stamp_set_form time = tested (may_be_set time) Range digest_form

-- a stamp, which may be a barrier's only where the flag is set
unfoldable pub stamp_with : Bool → Format Stamp
stamp_with barrier_may_be =
    made (λ fields. record {
      time = fields.0;
      barrier = (fields.1).0;
      client = ((fields.1).1).0;
      act = (((fields.1).1).1).0;
      set = (((fields.1).1).1).1;
    })
    (λ (stamp : Stamp). Some (stamp.time, (stamp.barrier, (stamp.client, (stamp.act, stamp.set)))))
    (both (number w64 0 LAST_TIME) (λ time.
    both (flag (barrier_may_be && not (is_opening_time time))) (λ barrier.
    both (stamp_client_form time) (λ client.
    both (optional (may_have_act time barrier) digest_form) (λ act.
    stamp_set_form time)))))

abbrev pub stamp_form : Format Stamp
stamp_form = stamp_with true

-- a stamp that is no barrier's
abbrev pub plain_stamp_form : Format Stamp
plain_stamp_form = stamp_with false

-- the stamp of the next candidate of a history: the opening one first, and then one above that before it
abbrev pub next_stamp : Option Stamp → Format Stamp
next_stamp None = tested (λ stamp. same_stamp stamp opening_stamp) Range stamp_form
next_stamp (Some before) = tested (λ stamp. is_below before stamp) Order stamp_form

-- ---- groups

-- an object that is not below this number
abbrev pub object_from : ℕ → Format ObjectId
object_from least = tested (λ (object : ObjectId). nat_le least object.0) Order object_form

-- a member on such an object
unfoldable pub member_form : ℕ → Format (ObjectId × ℕ)
member_form least = both (object_from least) (λ object. number w64 1 LAST_TIME)

abbrev pub spelled_member : ObjectId × ℕ → List ℕ
spelled_member member = object_form.spell member.0 ++ to_be_bytes w64 member.1

abbrev pub after_member : ObjectId × ℕ → ℕ
after_member member = (member.0).0 + 1

abbrev pub some_members : ℕ → ℕ → Format (List (ObjectId × ℕ))
some_members least count = items spelled_member member_form after_member least count

-- the opening candidate and barriers stand alone
abbrev pub may_be_size : Stamp → ℕ → Bool
may_be_size stamp count = is_group_size count && (count == 0 || may_have_act stamp.time stamp.barrier)

-- by rising objects, as many as the candidate with this stamp may have
unfoldable pub members_form : Stamp → Format (List (ObjectId × ℕ))
members_form stamp =
    counted (tested (may_be_size stamp) Range (number w8 0 255)) spelled_member member_form after_member 0

abbrev pub is_time : ℕ → Option ℕ → Bool
is_time time None = false
is_time time (Some listed) = listed == time

-- a group lists the candidate's own object, with its time
abbrev pub lists_itself : ObjectId → Stamp → List (ObjectId × ℕ) → Bool
lists_itself object stamp group = length group == 0 || is_time stamp.time (listed_time object group)

-- the group of a candidate with this stamp on this object
unfoldable pub group_form : ObjectId → Stamp → Format (List (ObjectId × ℕ))
group_form object stamp = tested (lists_itself object stamp) Range (members_form stamp)

abbrev pub spelled_group : List (ObjectId × ℕ) → List ℕ
spelled_group group = to_be_bytes w8 (length group) ++ flat_map spelled_member group

-- ---- candidates

-- a prior is below the stamp, or the opening one of the opening one
abbrev pub is_below_or_opening : Stamp → Stamp → Bool
is_below_or_opening stamp prior =
    if same_stamp stamp opening_stamp then same_stamp prior opening_stamp else is_below prior stamp

-- and it is no barrier's
abbrev pub may_be_prior : Stamp → Stamp → Bool
may_be_prior stamp prior = is_below_or_opening stamp prior && not prior.barrier

-- the prior of a candidate with this stamp
abbrev pub prior_form : Stamp → Format Stamp
prior_form stamp = tested (may_be_prior stamp) Range stamp_form

-- what stands behind the stamp of a candidate on this object: prior and group
unfoldable pub basis_form : ObjectId → Stamp → Format (Stamp × List (ObjectId × ℕ))
basis_form object stamp = both (prior_form stamp) (λ prior. group_form object stamp)

-- a candidate on this object whose stamp has this format
abbrev pub candidate_with : ObjectId → Format Stamp → Format Candidate
candidate_with object own_form =
    made (λ fields. record { stamp = fields.0; prior = (fields.1).0; group = (fields.1).1 })
    (λ (candidate : Candidate). Some (candidate.stamp, (candidate.prior, candidate.group)))
    (both own_form (basis_form object))

unfoldable pub candidate_form : ObjectId → Format Candidate
candidate_form object = candidate_with object stamp_form

-- how a candidate is spelled, on whatever object
abbrev pub spelled_candidate : Candidate → List ℕ
spelled_candidate candidate =
    stamp_form.spell candidate.stamp ++ (stamp_form.spell candidate.prior ++ spelled_group candidate.group)
