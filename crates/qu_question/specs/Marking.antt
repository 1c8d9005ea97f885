-- What is kept, marked for a round: which entries its sets hold.
use Rattle.std.specs.Prelude.{Bool, ◌==◌, if◌then◌else◌, List, map}
use Rattle.std.specs.List.{list_any}
use Rattle.qu_base.specs.declared.party.ObjectId.{ObjectId}
use Rattle.qu_base.specs.declared.party.ReplicaId.{ReplicaId}
use Rattle.qu_history.specs.declared.sets.SetOf.{SetOf}
use Rattle.qu_history.specs.Sets.{entries_of}
use Rattle.qu_question.specs.declared.kept.Kept.{Kept}
use Rattle.qu_question.specs.declared.kept.Mark.{Mark}
use Rattle.qu_question.specs.declared.kept.Mark.TheVariants.{Unshown, Shown, LeftOut}
use Rattle.qu_question.specs.Kept.{is_left_out}

-- the sets hold an entry of this object and this replica
abbrev pub are_showing : List SetOf → ObjectId → ReplicaId → Bool
are_showing sets object replica = list_any (λ entry. (entry.replica).0 == replica.0) (entries_of object sets)

-- an entry's mark from the beginning of a round upon these sets on
abbrev pub mark_in : List SetOf → Kept → Mark
mark_in sets held =
    if is_left_out held.mark then LeftOut
    else if are_showing sets (held.sealed.history).object (held.sealed.history).replica then Shown
    else Unshown

-- the entries of the sets are shown
unfoldable pub marked_shown : List SetOf → List Kept → List Kept
marked_shown sets kept = map (λ (held : Kept). record held { mark = mark_in sets held }) kept
