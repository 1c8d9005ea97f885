-- The candidates of an update are stored with what the update makes of the values of their bases, on whatever number
-- of objects.
use Rattle.std.proofs.Common.{◌≡◌, true, List, [], ◌∷◌, map, Some, refl, sym, ap, subst, ◌∙◌, inl, inr}
use Rattle.std.specs.List.{AllZip}
use Rattle.qu_base.specs.declared.party.ObjectId.{ObjectId}
use Rattle.qu_stamp.specs.declared.candidate.Candidate.{Candidate}
use Rattle.qu_chain.specs.Laws.{Laws}
use Rattle.qu_chain.specs.Joint.{Joint}
use Rattle.qu_claims.specs.Groups.{IsOneAct}
use Rattle.qu_objects.specs.declared.act.Method.{Method}
use Rattle.qu_objects.specs.declared.kind.Value.{Value}
use Rattle.qu_objects.specs.declared.state.KeptRow.{KeptRow}
use Rattle.qu_objects.specs.declared.state.ObjState.{ObjState}
use Rattle.qu_objects.specs.Performing.{performed_values}
use Rattle.qu_kept.specs.Performing.{row_by}
use Rattle.qu_kept.specs.Rows.{row_of}
use Rattle.qu_trace.specs.declared.trace.Trace.{Trace}
use Rattle.qu_claims.specs.RunSetting.{setting}
use Rattle.qu_claims.specs.Updates.{Update, IsOf, IsEverAccepted}
use Rattle.qu_claims.specs.Values.{RestsOn, HasVersion}
use Rattle.qu_claims.specs.Parts.{Names, values_on}
use Rattle.qu_claims.proofs.PartValues.{same_values, values_same}
use Rattle.qu_runs.proofs.Acts.OneAct.{ActsAreOne}
use Rattle.qu_values.proofs.Updating.UpdateFacts.{ValueStep, befores, afters, IsStep, IsPerformed, UpdateFacts}
use Rattle.qu_values.proofs.Updating.Updates.{acts, one_of, same_accepted, one_companion, one_act_of}
use Rattle.qu_values.proofs.Versions.Values.{row_upon, IsUpdated, value_after, own_row, updated}

-- ---- steps of a list of parts

abbrev step_on : (ObjectId → Value) → (ObjectId → Value) → ObjectId → ValueStep
step_on before after object = record { before = before object; after = after object }

abbrev steps_on : (ObjectId → Value) → (ObjectId → Value) → List (ObjectId × Method) → List ValueStep
steps_on before after parts = map (λ (part : ObjectId × Method). step_on before after part.0) parts

befores_are : (before after : ObjectId → Value) (parts : List (ObjectId × Method))
    → befores (steps_on before after parts) ≡ values_on before parts
befores_are before after [] = refl
befores_are before after (part ∷ parts) =
    ap (λ (later : List Value). before part.0 ∷ later) (befores_are before after parts)

afters_are : (before after : ObjectId → Value) (parts : List (ObjectId × Method))
    → afters (steps_on before after parts) ≡ values_on after parts
afters_are before after [] = refl
afters_are before after (part ∷ parts) =
    ap (λ (later : List Value). after part.0 ∷ later) (afters_are before after parts)

each_step : (P : ObjectId → ValueStep → Type 0) (before after : ObjectId → Value) (parts : List (ObjectId × Method))
    → ((object : ObjectId) → Names parts object → P object (step_on before after object))
    → AllZip (λ (part : ObjectId × Method) (step : ValueStep). P part.0 step) parts (steps_on before after parts)
each_step P before after [] each = tt
each_step P before after (part ∷ parts) each =
    (each part.0 (inl refl), each_step P before after parts (λ object names. each object (inr names)))

module _ (trace : Trace) (laws : Laws (setting trace)) (joint : Joint (setting trace)) (one_act : ActsAreOne trace)
    (facts : UpdateFacts trace) where
  -- ---- a candidate and what is made of its update on the other objects

  module _ (object : ObjectId) (candidate : Candidate) (accepted : IsEverAccepted trace object candidate)
      (version : ObjState) (made : IsUpdated trace object candidate version) where
    abbrev parts : List (ObjectId × Method)
    parts = (made.update).parts

    abbrev before : ObjectId → Value
    before other = (made.befores other).value

    abbrev row : KeptRow
    row = row_upon made.update made.befores

    of_companion : (other : ObjectId) (companion : Candidate)
        → IsOneAct (setting trace) object other candidate companion → IsEverAccepted trace other companion
        → IsOf trace made.update other companion
    of_companion other companion (inl same) also =
        subst (λ (it : ObjectId). IsOf trace made.update it companion) same.0
        (subst (IsOf trace made.update object) same.1 made.is_of)
    of_companion other companion (inr group) also =
        facts.shared made.update object other candidate companion made.is_of accepted group.apart group.is_member also

    -- the companion's version is made of the same
    module _ (other : ObjectId) (companion : Candidate)
        (one : IsOneAct (setting trace) object other candidate companion) (also : IsEverAccepted trace other companion)
        (its : ObjState) (mine : IsUpdated trace other companion its) where
      is_of : IsOf trace made.update other companion
      is_of = of_companion other companion one also

      same_update : mine.update ≡ made.update
      same_update = one_of trace one_act mine.update made.update other companion mine.is_of is_of

      same_parts : (mine.update).parts ≡ parts
      same_parts = ap (λ (it : Update). it.parts) same_update

      names_too : (third : ObjectId) → Names parts third → Names (mine.update).parts third
      names_too third names = subst (λ (all : List (ObjectId × Method)). Names all third) (sym same_parts) names

      same_base : (third : ObjectId) → Names parts third → mine.bases third ≡ made.bases third
      same_base third names =
          let first : RestsOn trace object candidate third (made.bases third) = made.rests third names in
          let second : RestsOn trace other companion third (mine.bases third) =
          mine.rests third (names_too third names) in
          let group : IsOneAct (setting trace) other third companion first.companion =
          one_act_of trace laws joint object candidate (acts trace made.update object candidate made.is_of) accepted
          other third companion first.companion one first.is_companion also first.accepted in
          let companions : second.companion ≡ first.companion =
          one_companion trace laws joint other third companion second.companion first.companion second.is_companion
          group second.accepted first.accepted in
          same_accepted trace laws joint third (mine.bases third) (made.bases third) second.base_accepted
          first.base_accepted
          (sym second.prior ∙ ap (λ (it : Candidate). it.prior) companions ∙ first.prior)

      besides : ObjectId → Value
      besides third = (mine.befores third).value

      same_before : (third : ObjectId) → Names parts third → besides third ≡ before third
      unfolding besides
      same_before third names =
          ap (λ (it : ObjState). it.value)
          (facts.one_version third (made.bases third) (mine.befores third) (made.befores third)
          (subst (λ (it : Candidate). HasVersion trace third it (mine.befores third)) (same_base third names)
          (mine.has third (names_too third names))) (made.has third names))

      same_befores : values_on besides parts ≡ values_on before parts
      same_befores = same_values besides before parts same_before

      value_is : its.value ≡ made.afters other
      unfolding besides
      value_is =
          let values : performed_values parts (values_on besides parts) ≡ values_on mine.afters parts =
          subst (λ (all : List (ObjectId × Method)).
          performed_values all (values_on besides all) ≡ values_on mine.afters all) same_parts mine.values in
          value_after trace other companion its mine
          ∙ values_same mine.afters made.afters parts
          (sym values ∙ ap (performed_values parts) same_befores ∙ made.values) other is_of.names

      row_is : row_of row.client its.kept ≡ Some row
      unfolding besides
      row_is =
          let same : row_upon mine.update mine.befores ≡ row =
          ap (λ (it : Update). row_upon it mine.befores) same_update
          ∙ ap (row_by (made.update).client (made.update).number parts) same_befores in
          subst (λ (it : KeptRow). row_of it.client its.kept ≡ Some it) same (own_row trace other companion its mine)

    step_of : (other : ObjectId) → Names parts other
        → IsStep trace object candidate row other (step_on before made.afters other)
    step_of other names =
        let rest : RestsOn trace object candidate other (made.bases other) = made.rests other names in
        let companion : Candidate = rest.companion in
        let is_of : IsOf trace made.update other companion =
        of_companion other companion rest.is_companion rest.accepted in
        let is_act : (setting trace).is_act companion ≡ true = acts trace made.update other companion is_of in
        let stored : (it : ObjState) × HasVersion trace other companion it =
        facts.stored other companion rest.accepted is_act in
        let mine : IsUpdated trace other companion stored.0 =
        updated trace other companion stored.0 stored.1 is_act in
        record {
          companion = companion;
          is_companion = rest.is_companion;
          accepted = rest.accepted;
          base = made.bases other;
          prior = rest.prior;
          base_accepted = rest.base_accepted;
          before = record { version = made.befores other; has = made.has other names; value_is = refl };
          version = stored.0;
          has = stored.1;
          after_is = value_is other companion rest.is_companion rest.accepted stored.0 mine;
          row_is = row_is other companion rest.is_companion rest.accepted stored.0 mine;
        }

    by_made : IsPerformed trace made.update object candidate
    by_made =
        let steps : List ValueStep = steps_on before made.afters parts in
        let same : befores steps ≡ values_on before parts = befores_are before made.afters parts in
        record {
          steps = steps;
          each = subst (λ (all : List Value). AllZip (λ (part : ObjectId × Method) (step : ValueStep).
              IsStep trace object candidate (row_by (made.update).client (made.update).number parts all) part.0 step)
              parts steps) (sym same)
              (each_step (IsStep trace object candidate row) before made.afters parts step_of);
          values = ap (performed_values parts) same ∙ made.values ∙ sym (afters_are before made.afters parts);
        }

  pub performed : (update : Update) (object : ObjectId) (candidate : Candidate) → IsOf trace update object candidate
      → IsEverAccepted trace object candidate → IsPerformed trace update object candidate
  performed update object candidate is_of accepted =
      let is_act : (setting trace).is_act candidate ≡ true = acts trace update object candidate is_of in
      let stored : (it : ObjState) × HasVersion trace object candidate it =
      facts.stored object candidate accepted is_act in
      let made : IsUpdated trace object candidate stored.0 =
      updated trace object candidate stored.0 stored.1 is_act in
      subst (λ (it : Update). IsPerformed trace it object candidate)
      (one_of trace one_act made.update update object candidate made.is_of is_of)
      (by_made object candidate accepted stored.0 made)
