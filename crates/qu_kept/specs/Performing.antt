-- What an act makes of the versions of its objects. Each of them has the object's value after the act, the
-- client's row replaced, and a link under its own stamp to each other object of the act. An act that is refused
-- changes no value, but the row and the links are written all the same. A copy changes links alone.
use Rattle.std.specs.Prelude.{ℕ, ◌==◌, not, List, [], ◌∷◌, filter, map, zip}
use Rattle.qu_base.specs.declared.party.ClientId.{ClientId}
use Rattle.qu_base.specs.declared.party.ObjectId.{ObjectId}
use Rattle.qu_stamp.specs.declared.stamp.Stamp.{Stamp}
use Rattle.qu_stamp.specs.declared.candidate.Candidate.{Candidate}
use Rattle.qu_objects.specs.declared.act.Method.{Method}
use Rattle.qu_objects.specs.declared.kind.Value.{Value}
use Rattle.qu_objects.specs.declared.state.KeptRow.{KeptRow}
use Rattle.qu_objects.specs.declared.state.Link.{Link}
use Rattle.qu_objects.specs.declared.state.ObjState.{ObjState}
use Rattle.qu_objects.specs.Digesting.{act_digest}
use Rattle.qu_objects.specs.Performing.{performed_answer, performed_values}
use Rattle.qu_kept.specs.Keyed.{with_item}
use Rattle.qu_kept.specs.Rows.{with_row}

abbrev pub values_of : List ObjState → List Value
values_of states = map (λ state. state.value) states

-- what is kept of an act of a client: its number and digest, and what it answers upon these values
abbrev pub row_by : ClientId → ℕ → List (ObjectId × Method) → List Value → KeptRow
row_by client number parts values = record {
  client = client;
  number = number;
  act = act_digest client number parts;
  answer = performed_answer parts values;
}

abbrev pub row_for : ClientId → ℕ → List (ObjectId × Method) → List ObjState → KeptRow
row_for client number parts states = row_by client number parts (values_of states)

abbrev pub linked_object : Link → ℕ
linked_object link = (link.object).0

-- the links of an object to the others of an act or of a group, under its own stamp
abbrev pub links_to_others : {X : Type 0} → ObjectId → Stamp → List (ObjectId × X) → List Link
links_to_others object stamp parts =
    map (λ part. record { object = part.0; stamp = stamp })
    (filter (λ part. not ((part.0).0 == object.0)) parts)

-- with these links in place of those to their objects
abbrev pub with_links : List Link → List Link → List Link
with_links [] links = links
with_links (link ∷ later) links = with_links later (with_item linked_object link links)

-- the version of a copy: that of the candidate which is copied, with links to the other objects of the copy's own group
abbrev pub copied_state : ObjectId → Candidate → ObjState → ObjState
copied_state object candidate state =
    record state { links = with_links (links_to_others object candidate.stamp candidate.group) state.links }

-- an object's state after an act, by its row, the object's value then, and its links to the act's other objects
abbrev pub state_after : KeptRow → Value → List Link → ObjState → ObjState
state_after row value links state =
    record { value = value; kept = with_row row state.kept; links = with_links links state.links }

-- the state after an act with these parts, by the object's own part, its new stamp, its value then and its state before
abbrev pub written : KeptRow → List (ObjectId × Method) → (ObjectId × Method) × (Stamp × (Value × ObjState)) → ObjState
written row parts each =
    let stamp = (each.1).0 in
    let changed = (each.1).1 in
    state_after row changed.0 (links_to_others (each.0).0 stamp parts) changed.1

-- the states after an act with these parts, by its row and the values then, all in the order of the parts
abbrev pub states_after : KeptRow → List (ObjectId × Method) → List Stamp → List Value → List ObjState → List ObjState
states_after row parts stamps values states = map (written row parts) (zip parts (zip stamps (zip values states)))

-- the states after the act, in the order of its parts
abbrev pub performed_states : ClientId → ℕ → List (ObjectId × Method) → List Stamp → List ObjState → List ObjState
performed_states client number parts stamps states =
    states_after (row_for client number parts states) parts stamps (performed_values parts (values_of states)) states

-- their links
abbrev pub performed_links : List (ObjectId × Method) → List Stamp → List ObjState → List (List Link)
performed_links parts stamps states =
    map (λ (each : (ObjectId × Method) × (Stamp × ObjState)).
    with_links (links_to_others (each.0).0 (each.1).0 parts) ((each.1).1).links)
    (zip parts (zip stamps states))
