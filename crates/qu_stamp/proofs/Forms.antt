-- The formats of stamps, groups and candidates are exact, and what fits them are groups.
use Rattle.std.proofs.Common.{◌≡◌, ℕ, suc, ◌==◌, Bool, ◌||◌, true, false, List, [], ◌∷◌, length, Result, Ok, IsTrue, ◌<◌, ◌^◌, refl, sym, ap, ◌∙◌, arith, not}
use Rattle.std.specs.Int.{w8, w16, w64}
use Rattle.std.proofs.lemmas.Bool.Decides.{nat_tests}
use Rattle.std.proofs.lemmas.Bool.{false≢true, and_parts, and_from, cond-true, lt-ltb, le-leb}
use Rattle.qu_base.specs.declared.bad_text.Why.TheVariants.{Range, Order}
use Rattle.qu_base.specs.declared.bad_text.BadText.{BadText}
use Rattle.qu_base.specs.declared.limits.TheConstants.{OBJECT_IDS}
use Rattle.qu_base.specs.declared.party.ObjectId.{ObjectId}
use Rattle.qu_base.specs.Cursor.{Front}
use Rattle.qu_base.specs.Reading.{Reads, IsRead}
use Rattle.qu_base.proofs.Reading.{read_exactly}
use Rattle.qu_base.specs.Format.{IsPrefixCode, AreBytes, Format, FitsFrom, IsExact, number, tested, digest_form, object_form}
use Rattle.qu_base.proofs.Formats.{wide8, wide16, wide64, number-exact, both-exact, tested-exact, fields-exact, counted-exact, flag-exact, optional-exact, digest-exact, object-exact}
use Rattle.qu_base.proofs.PrefixCodes.{prefix_code}
use Rattle.qu_stamp.specs.declared.stamp.Stamp.{Stamp}
use Rattle.qu_stamp.specs.declared.limits.TheConstants.{LAST_TIME}
use Rattle.qu_stamp.specs.declared.candidate.Candidate.{Candidate}
use Rattle.qu_stamp.proofs.Order.{equal_by_same_stamp}
use Rattle.qu_stamp.specs.Stamp.{opening_stamp, is_below, same_stamp}
use Rattle.qu_stamp.specs.Group.{is_group_size, are_members_from, is_group}
use Rattle.qu_stamp.specs.Formats.{most_client, stamp_client_form, may_have_act, may_be_set, stamp_set_form, stamp_with, stamp_form, plain_stamp_form, object_from, member_form, spelled_member, after_member, may_be_size, members_form, lists_itself, group_form, is_below_or_opening, may_be_prior, prior_form, basis_form, candidate_with, candidate_form}

most_client-fits : (time : ℕ) → most_client time < 2 ^ 16
most_client-fits time = grind arith

client-exact : (time : ℕ) → IsExact (stamp_client_form time)
client-exact time =
    fields-exact _ _ _ (number-exact w16 (2 ^ 16) _ _ wide16 (most_client-fits time)) (λ found fits. refl)
    (λ client. refl)

set-exact : (time : ℕ) → IsExact (stamp_set_form time)
set-exact time = tested-exact (may_be_set time) Range digest_form digest-exact

pub stamp_with-exact : (barrier_may_be : Bool) → IsExact (stamp_with barrier_may_be)
unfolding stamp_with
stamp_with-exact barrier_may_be =
    fields-exact _ _ _
    (both-exact _ _ (number-exact w64 (2 ^ 64) 0 LAST_TIME wide64 (omega arith)) (λ time fits.
    both-exact _ _ (flag-exact _) (λ barrier fits.
    both-exact _ _ (client-exact time) (λ client fits.
    both-exact _ _ (optional-exact _ digest_form digest-exact) (λ act fits. set-exact time)))))
    (λ fields fits. refl)
    (λ stamp. refl)

-- ---- groups

pub object_from-exact : (least : ℕ) → IsExact (object_from least)
object_from-exact least = tested-exact _ Order object_form object-exact

member-exact : (least : ℕ) → IsExact (member_form least)
unfolding member_form
member-exact least =
    both-exact (object_from least) _ (object_from-exact least)
    (λ object fits. number-exact w64 (2 ^ 64) 1 LAST_TIME wide64 (omega arith))

member-spelled : (least : ℕ) (member : ObjectId × ℕ) → (member_form least).spell member ≡ spelled_member member
unfolding member_form
member-spelled least member = refl

members-exact : (stamp : Stamp) → IsExact (members_form stamp)
unfolding members_form
members-exact stamp =
    counted-exact spelled_member member_form after_member member-exact member-spelled
    (tested (may_be_size stamp) Range (number w8 0 255)) 0
    (tested-exact (may_be_size stamp) Range (number w8 0 255) (number-exact w8 (2 ^ 8) 0 255 wide8 (omega arith)))

pub group-exact : (object : ObjectId) (stamp : Stamp) → IsExact (group_form object stamp)
unfolding group_form
group-exact object stamp = tested-exact (lists_itself object stamp) Range (members_form stamp) (members-exact stamp)

-- ---- candidates

basis-exact : (object : ObjectId) (stamp : Stamp) → IsExact (basis_form object stamp)
unfolding basis_form
basis-exact object stamp =
    both-exact (prior_form stamp) _ (tested-exact (may_be_prior stamp) Range stamp_form (stamp_with-exact true))
    (λ prior fits. group-exact object stamp)

pub candidate_with-exact : (object : ObjectId) (own_form : Format Stamp) → IsExact own_form
    → IsExact (candidate_with object own_form)
candidate_with-exact object own_form exact =
    fields-exact _ _ _ (both-exact own_form (basis_form object) exact (λ stamp fits. basis-exact object stamp))
    (λ fields fits. refl) (λ candidate. refl)

pub candidate-exact : (object : ObjectId) → IsExact (candidate_form object)
unfolding candidate_form
candidate-exact object = candidate_with-exact object stamp_form (stamp_with-exact true)

pub stamp_read : (result : Result Stamp BadText) (old new : Front) → AreBytes old.rest
    → Reads stamp_form result old new → IsRead stamp_form result old new
stamp_read = read_exactly stamp_form (stamp_with-exact true)

pub plain_stamp_read : (result : Result Stamp BadText) (old new : Front) → AreBytes old.rest
    → Reads plain_stamp_form result old new → IsRead plain_stamp_form result old new
plain_stamp_read = read_exactly plain_stamp_form (stamp_with-exact false)

pub candidate_read : (object : ObjectId) (result : Result Candidate BadText) (old new : Front) → AreBytes old.rest
    → Reads (candidate_form object) result old new → IsRead (candidate_form object) result old new
candidate_read object = read_exactly (candidate_form object) (candidate-exact object)

-- an object that was read is below the limit
pub object_below : (old new : Front) (object : ObjectId) → AreBytes old.rest → object_form.read old ≡ Ok
    (object, new) → object.0 < OBJECT_IDS
object_below old new object fit given = let within = ((object-exact.found old new object fit given).fits).1 in
    omega (arith, within)

-- what fits are members
members_fit : (least : ℕ) (members : List (ObjectId × ℕ)) → FitsFrom member_form after_member least members
    → are_members_from least members ≡ true
unfolding member_form are_members_from
members_fit least [] fits = refl
members_fit least (member ∷ later) fits =
    let object = (fits.0).0 in
    let time = (fits.0).1 in
    and_from _ _
    (and_from _ _ object.1 (and_from _ _ (lt-ltb _ _ (omega (arith, (object.0).1)))
    (and_from _ _ (le-leb _ _ time.0) (le-leb _ _ time.1))))
    (members_fit (after_member member) later fits.1)

-- and as many as a group has
pub fits_group : (stamp : Stamp) (members : List (ObjectId × ℕ)) → (members_form stamp).Fits members
    → IsTrue (is_group members)
unfolding members_form is_group
fits_group stamp members fits =
    let size = and_parts (is_group_size (length members)) _ (fits.0).1 in
    and_from _ _ size.0 (members_fit 0 members (fits.1).1)

pub members_are_group : (stamp : Stamp) (old new : Front) (members : List (ObjectId × ℕ)) → AreBytes old.rest
    → (members_form stamp).read old ≡ Ok (members, new) → IsTrue (is_group members)
members_are_group stamp old new members fit given =
    fits_group stamp members ((members-exact stamp).found old new members fit given).fits

-- ---- what a prior is

-- the prior of the opening stamp is the opening one
pub prior_of_opening : (stamp prior : Stamp) → (prior_form stamp).Fits prior
    → same_stamp stamp opening_stamp ≡ true → same_stamp prior opening_stamp ≡ true
prior_of_opening stamp prior fits is =
    let parts = and_parts (is_below_or_opening stamp prior) (not prior.barrier) fits.1 in
    sym (cond-true (same_stamp stamp opening_stamp) (same_stamp prior opening_stamp) (is_below prior stamp) is)
    ∙ parts.0

-- ---- what a group is

pub some_size : (count : ℕ) → (suc count == 0) ≡ false
some_size count = grind (arith, nat_tests)

-- the opening candidate has none
pub group_of_opening : (object : ObjectId) (stamp : Stamp) (group : List (ObjectId × ℕ))
    → (group_form object stamp).Fits group → same_stamp stamp opening_stamp ≡ true → group ≡ []
unfolding group_form members_form
group_of_opening object stamp [] fits is = refl
group_of_opening object stamp (member ∷ later) fits is =
    let opened = equal_by_same_stamp stamp opening_stamp is in
    let size = and_parts (is_group_size (length (member ∷ later))) _ (((fits.0).0).1) in
    let none : (length (member ∷ later) == 0 || may_have_act opening_stamp.time opening_stamp.barrier) ≡ false =
    ap (λ (zero : Bool). zero || may_have_act opening_stamp.time opening_stamp.barrier) (some_size (length later)) in
    absurd (false≢true (sym none
    ∙ sym (ap (λ (it : Stamp). length (member ∷ later) == 0 || may_have_act it.time it.barrier) opened) ∙ size.1))

-- a candidate may stand alone
pub alone_fits : (object : ObjectId) (stamp : Stamp) → (group_form object stamp).Fits []
unfolding group_form members_form
alone_fits object stamp = ((((omega arith, omega arith), refl), (refl, tt)), refl)

-- ---- each is a prefix code

pub stamp-code : (barrier_may_be : Bool) → IsPrefixCode (stamp_with barrier_may_be)
stamp-code barrier_may_be = prefix_code (stamp_with barrier_may_be) (stamp_with-exact barrier_may_be)

pub group-code : (object : ObjectId) (stamp : Stamp) → IsPrefixCode (group_form object stamp)
group-code object stamp = prefix_code (group_form object stamp) (group-exact object stamp)

pub candidate-code : (object : ObjectId) → IsPrefixCode (candidate_form object)
candidate-code object = prefix_code (candidate_form object) (candidate-exact object)

pub ruleset code_laws = (stamp-code, group-code, candidate-code)
