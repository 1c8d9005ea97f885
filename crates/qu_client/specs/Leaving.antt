-- What a client leaves out at the end of a round (Query/Update: entries that replicas name as culled).
use Rattle.std.specs.Prelude.{ℕ, Bool, not, ◌-◌, ◌==◌, ◌&&◌, ◌||◌, nat_lt, if◌then◌else◌, List, map, count_by}
use Rattle.std.specs.List.{list_any}
use Rattle.qu_base.specs.declared.party.ObjectId.{ObjectId}
use Rattle.qu_base.specs.declared.party.ReplicaId.{ReplicaId}
use Rattle.qu_base.specs.Bounds.{quorum}
use Rattle.qu_question.specs.declared.kept.Kept.{Kept}
use Rattle.qu_question.specs.declared.kept.Mark.{Mark}
use Rattle.qu_question.specs.declared.kept.Mark.TheVariants.{LeftOut}
use Rattle.qu_client.specs.declared.work.Counted.{Counted}
use Rattle.qu_question.specs.Kept.{is_shown, is_left_out}

-- a culled list names the entry
abbrev pub is_name_of : Kept → ObjectId × ReplicaId → Bool
is_name_of held pair =
    (pair.0).0 == ((held.sealed.history).object).0 && (pair.1).0 == ((held.sealed.history).replica).0

abbrev pub names : Counted → Kept → Bool
names counted held = list_any (is_name_of held) counted.culled

-- how many of the replies name the entry
unfoldable pub names_of : List Counted → Kept → ℕ
names_of replies held = count_by (λ counted. names counted held) replies

-- a reply names the entry, which the round's sets held and no reply replaced since
abbrev pub is_named : List Counted → Kept → Bool
is_named replies held = is_shown held.mark && nat_lt 0 (names_of replies held)

abbrev pub of_same_object : Kept → Kept → Bool
of_same_object held other = ((other.sealed.history).object).0 == ((held.sealed.history).object).0

-- more replies name the other one, or as many, and its replica is the higher one
abbrev pub comes_after : List Counted → Kept → Kept → Bool
comes_after replies held other =
    nat_lt (names_of replies held) (names_of replies other)
    || (names_of replies held == names_of replies other
    && nat_lt ((held.sealed.history).replica).0 ((other.sealed.history).replica).0)

-- how many named entries of its object come before an entry
unfoldable pub before : List Counted → List Kept → Kept → ℕ
before replies kept held =
    count_by (λ other. of_same_object held other && (is_named replies other && comes_after replies held other)) kept

-- how many entries of its object are not left out
unfoldable pub remaining : List Kept → Kept → ℕ
remaining kept held = count_by (λ other. of_same_object held other && not (is_left_out other.mark)) kept

-- a named entry is left out where a quorum of its object remains without it and all those before it
abbrev pub leaves : ℕ → List Counted → List Kept → Kept → Bool
leaves bounds replies kept held =
    is_named replies held && nat_lt (quorum bounds) (remaining kept held - before replies kept held)

abbrev pub mark_after : ℕ → List Counted → List Kept → Kept → Mark
mark_after bounds replies kept held = if leaves bounds replies kept held then LeftOut else held.mark

-- what is kept after a round with these replies. Entries are looked at one after another, those that
-- more replies name first, then those of the higher replica; as none of another object counts, the
-- order of objects changes nothing
unfoldable pub after_replies : ℕ → List Counted → List Kept → List Kept
after_replies bounds replies kept =
    map (λ (held : Kept). record held { mark = mark_after bounds replies kept held }) kept
