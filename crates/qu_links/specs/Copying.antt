-- What a replica's step that copies gives, on each object that it copies.
use Rattle.std.specs.Prelude.{◌≡◌, ℕ, Bool, true, false, List, ◌⊎◌, Option, Some}
use Rattle.qu_base.specs.declared.party.ObjectId.{ObjectId}
use Rattle.qu_stamp.specs.declared.stamp.Stamp.{Stamp}
use Rattle.qu_stamp.specs.declared.candidate.Candidate.{Candidate}
use Rattle.qu_stamp.specs.Stamp.{is_below}
use Rattle.qu_claims.specs.Setting.{Setting, Apart, IsEstablished, IsAttested, IsNew}
use Rattle.qu_claims.specs.Links.{LinksAre}
use Rattle.qu_links.specs.Listing.{IsListed}

-- what the sets of a request show, and the links of the versions that a plan reads
pub record View : Type 0 where
  -- the version of an object of class METHOD
  pub method : ObjectId → Option Candidate
  -- the candidates of order r at least
  pub repairable : ObjectId → Candidate → Bool
  -- the link that an object's version has to another object
  pub link : ObjectId → ObjectId → Option Stamp
  -- the objects whose versions the plan reads
  pub reads : ObjectId → Bool

-- a member of the candidate's group was passed over on another object
pub record Skips (setting : Setting) (view : View) (object : ObjectId) (candidate : Candidate) : Type 0 where
  pub other : ObjectId
  pub stamp : Stamp
  pub version : Candidate
  pub apart : Apart object other
  pub is_member : setting.member candidate other ≡ Some stamp
  pub is_method : view.method other ≡ Some version
  pub above : is_below stamp version.stamp ≡ true
  pub passed : (own : Stamp) → view.link other object ≡ Some own → is_below own stamp ≡ true

-- what a run gives of a view at a step
pub record IsTrueView (setting : Setting) (time : ℕ) (view : View) : Type 0 where
  pub plain : (object : ObjectId) (version : Candidate) → view.method object ≡ Some version
      → setting.plain version ≡ true
  pub established : (object : ObjectId) (version : Candidate) → view.method object ≡ Some version
      → IsEstablished setting time object version
  -- the links of what the plan reads are true and kept, by `links_are`
  pub linked : (object : ObjectId) (version : Candidate) → view.method object ≡ Some version
      → view.reads object ≡ true → LinksAre setting time object version (view.link object)
  pub attested : (object : ObjectId) (candidate : Candidate) → view.repairable object candidate ≡ true
      → IsAttested setting time object candidate

-- a step that copies: its target, the objects that it copies, what it chose on each and what it made
pub record CopyStep (setting : Setting) (time replica : ℕ) (view : View) : Type 0 where
  pub target : ObjectId
  pub on : List ObjectId
  pub chosen : ObjectId → Candidate
  pub made : ObjectId → Candidate
  -- what is chosen, on each object (section 4.4)
  pub plain : (object : ObjectId) → IsListed on object → setting.plain (chosen object) ≡ true
  pub repairable : (object : ObjectId) → IsListed on object → view.repairable object (chosen object) ≡ true
  pub greatest : (object : ObjectId) → IsListed on object → (other : Candidate) → setting.plain other ≡ true
      → view.repairable object other ≡ true
      → (is_below (chosen object).stamp other.stamp ≡ false) ⊎ Skips setting view object other
  pub read : (object : ObjectId) → IsListed on object → (candidate : Candidate)
      → view.repairable object candidate ≡ true
      → (other : ObjectId) (stamp : Stamp) → Apart object other → setting.member candidate other ≡ Some stamp
      → (version : Candidate) → view.method other ≡ Some version
      → view.reads other ≡ true
  -- the joint list
  pub joined : (object other : ObjectId) → IsListed on object → IsListed on other → Apart object other
      → setting.member (chosen object) other ≡ Some (chosen other).stamp
  pub covered : (object other : ObjectId) (stamp : Stamp) → IsListed on object → Apart object other
      → setting.member (chosen object) other ≡ Some stamp
      → (IsListed on other)
      ⊎ ((version : Candidate) × (view.method other ≡ Some version) × (view.reads other ≡ true)
      × (view.link other target ≡ Some stamp))
  -- what is made
  pub prior : (object : ObjectId) → IsListed on object → (made object).prior ≡ (chosen object).stamp
  pub below : (object : ObjectId) → IsListed on object → is_below (chosen object).stamp (made object).stamp ≡ true
  pub no_act : (object : ObjectId) → IsListed on object → setting.is_act (made object) ≡ false
  pub new : (object : ObjectId) → IsListed on object → IsNew setting time object replica (made object)
  pub group : (object other : ObjectId) → IsListed on object → IsListed on other → Apart object other
      → setting.member (made object) other ≡ Some (made other).stamp
  pub group_only : (object other : ObjectId) (stamp : Stamp) → IsListed on object → Apart object other
      → setting.member (made object) other ≡ Some stamp → IsListed on other
  -- an established candidate that the replica had is repairable in the sets
  pub shown : (object : ObjectId) → IsListed on object → (other : Candidate) → setting.plain other ≡ true
      → IsEstablished setting setting.last object other
      → setting.accepted time object replica other ≡ true
      → view.repairable object other ≡ true
