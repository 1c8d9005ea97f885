-- How parties and objects are named, and how many there are of something.
use Rattle.std.specs.Prelude.{ℕ, ◌==◌, if◌then◌else◌, List, [], ◌++◌, codes}
use Rattle.std.specs.Fmt.{decimal}
use Rattle.qu_base.specs.declared.party.ObjectId.{ObjectId}
use Rattle.qu_base.specs.declared.party.Party.{Party}
use Rattle.qu_base.specs.declared.party.Party.TheVariants.{Replica, Client}

unfoldable pub party_text : Party → List ℕ
party_text (Replica me) = codes "replica " ++ decimal me.0
party_text (Client me) = codes "client " ++ decimal me.0

unfoldable pub object_text : ObjectId → List ℕ
object_text object = codes "object " ++ decimal object.0

-- `1 byte`, `2 bytes`
unfoldable pub count_text : ℕ → List ℕ → List ℕ
count_text count word = decimal count ++ codes " " ++ word ++ (if count == 1 then [] else codes "s")
