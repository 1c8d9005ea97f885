-- What stands in the versions after an act.
use Rattle.std.proofs.Common.{◌≡◌, ℕ, suc, ◌+◌, List, [], ◌∷◌, length, refl, sym, ap, ◌∙◌, arith}
use Rattle.std.specs.Prelude.{◌≢◌, IsTrue, Option, None, Some, map, zip}
use Rattle.std.proofs.lemmas.List.{length-map}
use Rattle.qu_base.specs.declared.kind.Applied.{Applied}
use Rattle.qu_base.specs.declared.kind.Applied.TheVariants.{Changed, Refused}
use Rattle.qu_base.specs.declared.party.ClientId.{ClientId}
use Rattle.qu_base.specs.declared.party.ObjectId.{ObjectId}
use Rattle.qu_stamp.specs.declared.stamp.Stamp.{Stamp}
use Rattle.qu_objects.specs.declared.act.Method.{Method}
use Rattle.qu_objects.specs.declared.kind.Value.{Value}
use Rattle.qu_objects.specs.declared.state.KeptRow.{KeptRow}
use Rattle.qu_objects.specs.declared.state.Link.{Link}
use Rattle.qu_objects.specs.declared.state.ObjState.{ObjState}
use Rattle.qu_objects.specs.Digesting.{act_digest}
use Rattle.qu_objects.specs.Parts.{are_parts}
use Rattle.qu_objects.specs.Performing.{outcomes, refusal_from, changed_values, values_by, performed_answer, performed_values}
use Rattle.qu_kept.specs.declared.repeats.Standing.TheVariants.{Already}
use Rattle.qu_kept.specs.Rows.{client_of, row_of, with_row}
use Rattle.qu_kept.specs.Performing.{values_of, row_for, links_to_others, with_links, state_after, written, performed_states, performed_links}
use Rattle.qu_kept.specs.Standing.{standing_of}
use Rattle.qu_kept.proofs.KeyedLaws.{other_item}
use Rattle.qu_kept.proofs.StandingLaws.{repeated_where}

-- ---- as many values are after an act as before

no_fewer : (refused : Option (ℕ × ℕ)) (at : ℕ) (made : List (Applied Value)) (before : List Value)
    → refused ≡ refusal_from at made → length before ≡ length made
    → length (values_by refused before (changed_values made)) ≡ length before
no_fewer (Some refusal) at made before is fit = refl
no_fewer None at made before is fit = unrefused at made (sym is) ∙ sym fit
  where
    unrefused : (at : ℕ) (made : List (Applied Value)) → refusal_from at made ≡ None
        → length (changed_values made) ≡ length made
    unrefused at [] none = refl
    unrefused at (Changed value item ∷ later) none = ap suc (unrefused (at + 1) later none)
    unrefused at (Refused why ∷ later) none = absurd cc

pub made_each : (parts : List (ObjectId × Method)) (values : List Value) → length values ≡ length parts
    → length (outcomes parts values) ≡ length parts
made_each [] values fit = refl
made_each (part ∷ parts) [] fit = absurd (omega arith)
made_each (part ∷ parts) (value ∷ values) fit = grind (arith, made_each parts values)

pub values_fit : (parts : List (ObjectId × Method)) (values : List Value) → length values ≡ length parts
    → length (performed_values parts values) ≡ length parts
values_fit parts values fit =
    no_fewer (refusal_from 0 (outcomes parts values)) 0 (outcomes parts values) values refl
    (fit ∙ sym (made_each parts values fit))
    ∙ fit

-- ---- what is written for some parts of an act with all these

module _ (row : KeptRow) (all : List (ObjectId × Method)) where
  written_values : (parts : List (ObjectId × Method)) (stamps : List Stamp) (values : List Value)
      (states : List ObjState) → length stamps ≡ length parts → length values ≡ length parts
      → length states ≡ length parts → values_of (map (written row all) (zip parts (zip stamps (zip values states))))
      ≡ values
  written_values [] stamps [] states stamped valued fit = refl
  written_values [] stamps (value ∷ values) states stamped valued fit = absurd (omega arith)
  written_values (part ∷ parts) [] values states stamped valued fit = absurd (omega arith)
  written_values (part ∷ parts) (stamp ∷ stamps) [] states stamped valued fit = absurd (omega arith)
  written_values (part ∷ parts) (stamp ∷ stamps) (value ∷ values) [] stamped valued fit = absurd (omega arith)
  written_values (part ∷ parts) (stamp ∷ stamps) (value ∷ values) (state ∷ states) stamped valued fit =
      ap (λ later. value ∷ later) (written_values parts stamps values states (omega arith) (omega arith) (omega arith))

  -- what the row alone makes of each state
  written_each : {Y : Type 0} (of : ObjState → Y) (made : ObjState → Y)
      → ((value : Value) (links : List Link) (state : ObjState) → of (state_after row value links state) ≡ made state)
      → (parts : List (ObjectId × Method)) (stamps : List Stamp) (values : List Value) (states : List ObjState)
      → length stamps ≡ length parts → length values ≡ length parts → length states ≡ length parts
      → map of (map (written row all) (zip parts (zip stamps (zip values states)))) ≡ map made states
  written_each of made is [] stamps values [] stamped valued fit = refl
  written_each of made is [] stamps values (state ∷ states) stamped valued fit = absurd (omega arith)
  written_each of made is (part ∷ parts) [] values states stamped valued fit = absurd (omega arith)
  written_each of made is (part ∷ parts) (stamp ∷ stamps) [] states stamped valued fit = absurd (omega arith)
  written_each of made is (part ∷ parts) (stamp ∷ stamps) (value ∷ values) [] stamped valued fit =
      absurd (omega arith)
  written_each of made is (part ∷ parts) (stamp ∷ stamps) (value ∷ values) (state ∷ states) stamped valued fit =
      rw (is value (links_to_others part.0 stamp all) state)
      (ap (λ later. made state ∷ later)
      (written_each of made is parts stamps values states (omega arith) (omega arith) (omega arith)))

  written_links : (parts : List (ObjectId × Method)) (stamps : List Stamp) (values : List Value)
      (states : List ObjState) → length stamps ≡ length parts → length values ≡ length parts
      → map (λ (state : ObjState). state.links) (map (written row all) (zip parts (zip stamps (zip values states))))
      ≡ map (λ (each : (ObjectId × Method) × (Stamp × ObjState)).
      with_links (links_to_others (each.0).0 (each.1).0 all) ((each.1).1).links) (zip parts (zip stamps states))
  written_links [] stamps values states stamped valued = refl
  written_links (part ∷ parts) [] values states stamped valued = refl
  written_links (part ∷ parts) (stamp ∷ stamps) [] states stamped valued = absurd (omega arith)
  written_links (part ∷ parts) (stamp ∷ stamps) (value ∷ values) [] stamped valued = refl
  written_links (part ∷ parts) (stamp ∷ stamps) (value ∷ values) (state ∷ states) stamped valued =
      ap (λ later. with_links (links_to_others part.0 stamp all) state.links ∷ later)
      (written_links parts stamps values states (omega arith) (omega arith))

-- ---- an act

module _ (client : ClientId) (number : ℕ) (parts : List (ObjectId × Method)) (stamps : List Stamp)
    (states : List ObjState) (fit : length states ≡ length parts) (stamped : length stamps ≡ length parts) where
  abbrev new : List ObjState
  new = performed_states client number parts stamps states

  valued : length (performed_values parts (values_of states)) ≡ length parts
  valued = values_fit parts (values_of states) (length-map states (λ state. state.value) ∙ fit)

  pub values_after : values_of new ≡ performed_values parts (values_of states)
  values_after =
      written_values (row_for client number parts states) parts parts stamps (performed_values parts (values_of states))
      states stamped valued fit

  pub rows_after : map (λ (state : ObjState). state.kept) new
      ≡ map (λ (state : ObjState). with_row (row_for client number parts states) state.kept) states
  rows_after =
      written_each (row_for client number parts states) parts (λ state. state.kept)
      (λ state. with_row (row_for client number parts states) state.kept) (λ value links state. refl) parts stamps
      (performed_values parts (values_of states)) states stamped valued fit

  pub others_after : (other : ClientId) → other.0 ≢ client.0
      → map (λ (state : ObjState). row_of other state.kept) new
      ≡ map (λ (state : ObjState). row_of other state.kept) states
  others_after other differs =
      written_each (row_for client number parts states) parts (λ state. row_of other state.kept)
      (λ state. row_of other state.kept)
      (λ value links state. other_item client_of other.0 (row_for client number parts states) state.kept differs) parts
      stamps (performed_values parts (values_of states)) states stamped valued fit

  pub links_after : map (λ (state : ObjState). state.links) new ≡ performed_links parts stamps states
  links_after =
      written_links (row_for client number parts states) parts parts stamps
      (performed_values parts (values_of states)) states stamped valued

  pub repeated_after : IsTrue (are_parts parts)
      → standing_of client number (act_digest client number parts) parts new
      ≡ Already (performed_answer parts (values_of states))
  repeated_after in_order =
      repeated_where (row_for client number parts states) parts states new in_order fit rows_after

pub ruleset performed_laws = (values_after, rows_after, others_after, links_after, repeated_after)
