-- What each class tells of the histories.
use Rattle.std.specs.Prelude.{◌≡◌, ◌⊎◌, ℕ, Bool, true, false, ◌<◌, ◌≤◌, List, All, IsTrue, IsSome}
use Rattle.std.specs.List.{AllByRecursion}
use Rattle.qu_base.specs.Bounds.{quorum, repair, AreThresholds}
use Rattle.qu_base.specs.declared.party.ObjectId.{ObjectId}
use Rattle.qu_stamp.specs.declared.stamp.Stamp.{Stamp}
use Rattle.qu_stamp.specs.declared.candidate.Candidate.{Candidate}
use Rattle.qu_stamp.specs.Stamp.{is_below}
use Rattle.qu_stamp.specs.Candidate.{is_before}
use Rattle.qu_stamp.specs.Group.{is_group, listed_time}
use Rattle.qu_history.specs.History.{ObjectHistory, is_history}
use Rattle.qu_history.specs.declared.sets.SetOf.{SetOf}
use Rattle.qu_history.specs.Sets.{entries_of, order_of, latest_of}
use Rattle.qu_class.specs.declared.class.Class.{Class}
use Rattle.qu_class.specs.declared.class.Class.TheVariants.{Method, InlineMethod, Copy, InlineBarrier, Barrier, Needs}
use Rattle.qu_class.specs.Class.{is_in_sets, listed_stamp}
use Rattle.qu_class.specs.Repairable.{object_base}

-- what the types of bounds and histories keep
pub record AreWellFormed (bounds : ℕ) (entries : List ObjectHistory) : Type 0 where
  pub thresholds : AreThresholds bounds
  pub histories : All (λ entry. IsTrue (is_history entry.candidates)) entries

-- a candidate with a barrier, or one without, of an order that may be repaired
pub record MayBeRepaired (bounds : ℕ) (entries : List ObjectHistory) (barrier : Bool) (candidate : Candidate)
    : Type 0 where
  pub kind : candidate.stamp.barrier ≡ barrier
  pub order : repair bounds ≤ order_of candidate entries

-- and before no other such
pub record IsGreatestOfKind (bounds : ℕ) (entries : List ObjectHistory) (barrier : Bool) (candidate : Candidate)
    : Type 0 where
  pub repairable : MayBeRepaired bounds entries barrier candidate
  pub above : (other : Candidate) → MayBeRepaired bounds entries barrier other → is_before candidate other ≡ false

-- and with the latest stamp
pub record IsLatestOfKind (bounds : ℕ) (entries : List ObjectHistory) (barrier : Bool) (candidate : Candidate)
    : Type 0 where
  pub greatest : IsGreatestOfKind bounds entries barrier candidate
  pub latest : candidate.stamp ≡ latest_of entries

-- nothing that may be repaired is the latest
abbrev pub NoneIsLatest : ℕ → List ObjectHistory → Type 0
NoneIsLatest bounds entries =
    (candidate : Candidate) → repair bounds ≤ order_of candidate entries
    → is_below candidate.stamp (latest_of entries) ≡ true

-- of the histories of the object alone
abbrev pub IsClassOf : ℕ → List ObjectHistory → Class → Type 0
IsClassOf bounds entries (Method candidate) =
    IsLatestOfKind bounds entries false candidate × (quorum bounds ≤ order_of candidate entries)
IsClassOf bounds entries (InlineMethod candidate) =
    IsLatestOfKind bounds entries false candidate × (order_of candidate entries < quorum bounds)
IsClassOf bounds entries Copy =
    (barrier : Candidate) × IsLatestOfKind bounds entries true barrier × (quorum bounds ≤ order_of barrier entries)
IsClassOf bounds entries (InlineBarrier candidate) =
    IsLatestOfKind bounds entries true candidate × (order_of candidate entries < quorum bounds)
IsClassOf bounds entries (Barrier prior) =
    (base : Candidate) × IsGreatestOfKind bounds entries false base × (base.stamp ≡ prior) × NoneIsLatest bounds entries
IsClassOf bounds entries (Needs object) = ⊥

-- ---- and of the members of a group

-- the stamp is the latest, and that of the object candidate, which has this whole group
pub record Agrees (bounds : ℕ) (entries : List ObjectHistory) (stamp : Stamp) (group : List (ObjectId × ℕ))
    : Type 0 where
  pub latest : stamp ≡ latest_of entries
  pub base : (object_base bounds entries).stamp ≡ stamp
  pub whole : (object_base bounds entries).group ≡ group

abbrev pub AllAgree : ℕ → List SetOf → Candidate → Type 0
AllAgree bounds sets candidate =
    AllByRecursion
    (λ member. Agrees bounds (entries_of member.0 sets) (listed_stamp candidate member) candidate.group)
    candidate.group

abbrev pub AllShown : List SetOf → List (ObjectId × ℕ) → Type 0
AllShown sets group = AllByRecursion (λ member. is_in_sets sets member.0 ≡ true) group

-- the group lists the object, the sets do not have it, and do have all members below it
pub record IsLowestAbsent (sets : List SetOf) (group : List (ObjectId × ℕ)) (object : ObjectId) : Type 0 where
  pub listed : IsSome (listed_time object group)
  pub absent : is_in_sets sets object ≡ false
  pub lowest : AllByRecursion (λ member. is_in_sets sets member.0 ≡ false → object.0 ≤ (member.0).0) group

-- what may be added alone is added with all members, wants one, or is passed by a barrier
abbrev pub IsInline : ℕ → List SetOf → ObjectId → Candidate → Type 0
IsInline bounds sets object candidate = IsClassOf bounds (entries_of object sets) (InlineMethod candidate)

abbrev pub IsClassIn : ℕ → List SetOf → ObjectId → Class → Type 0
IsClassIn bounds sets object (Method candidate) = IsClassOf bounds (entries_of object sets) (Method candidate)
IsClassIn bounds sets object (InlineMethod candidate) =
    IsInline bounds sets object candidate × AllShown sets candidate.group × AllAgree bounds sets candidate
IsClassIn bounds sets object Copy = IsClassOf bounds (entries_of object sets) Copy
IsClassIn bounds sets object (InlineBarrier candidate) =
    IsClassOf bounds (entries_of object sets) (InlineBarrier candidate)
IsClassIn bounds sets object (Barrier prior) =
    IsClassOf bounds (entries_of object sets) (Barrier prior)
    ⊎ ((candidate : Candidate) × IsInline bounds sets object candidate × (candidate.stamp ≡ prior)
    × AllShown sets candidate.group × (AllAgree bounds sets candidate → ⊥))
IsClassIn bounds sets object (Needs member) =
    (candidate : Candidate) × IsInline bounds sets object candidate × IsLowestAbsent sets candidate.group member

-- the candidate that is added as it is has a group
abbrev pub HasGroup : Class → Type 0
HasGroup (InlineMethod candidate) = IsTrue (is_group candidate.group)
HasGroup _ = Unit {0}
