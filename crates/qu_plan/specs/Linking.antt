-- What versions tell of other objects. A version of an object keeps for another object the stamp that it had when it
-- was last made together with one there.
use Rattle.std.specs.Prelude.{Bool, ◌==◌, ◌&&◌, List, find, Option, None, Some}
use Rattle.std.specs.Option.{option_map}
use Rattle.qu_base.specs.declared.party.ObjectId.{ObjectId}
use Rattle.qu_stamp.specs.declared.stamp.Stamp.{Stamp}
use Rattle.qu_stamp.specs.Stamp.{same_stamp}
use Rattle.qu_objects.specs.declared.state.Link.{Link}
use Rattle.qu_plan.specs.declared.fact.Fact.{Fact}

-- of the version of an object that has a stamp: its link to another object
abbrev pub Linking : Type 0
Linking = ObjectId → Stamp → ObjectId → Option Stamp

abbrev pub link_in : List Link → ObjectId → Option Stamp
link_in links other = option_map (λ link. link.stamp) (find (λ link. (link.object).0 == other.0) links)

abbrev pub is_fact_of : ObjectId → Stamp → Fact → Bool
is_fact_of object stamp fact = (fact.object).0 == object.0 && same_stamp fact.stamp stamp

-- none where nothing is known of the version
unfoldable pub link_by : Option Fact → ObjectId → Option Stamp
link_by None other = None
link_by (Some fact) other = link_in fact.links other

-- as the facts tell
unfoldable pub linking : List Fact → Linking
linking facts object stamp other = link_by (find (is_fact_of object stamp) facts) other
