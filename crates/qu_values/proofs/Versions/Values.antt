-- How a candidate has its version, which rows that keeps, and that there is one at most.
use Rattle.std.proofs.Common.{◌≡◌, ◌⊎◌, true, List, [], Some, inl, inr, refl, sym, ap, subst, ◌∙◌, false}
use Rattle.std.specs.Prelude.{slice_get}
use Rattle.std.proofs.lemmas.Bool.{false≢true}
use Rattle.std.proofs.lemmas.Option.{same_Some}
use Rattle.qu_base.specs.declared.party.ClientId.{ClientId}
use Rattle.qu_base.specs.declared.party.ObjectId.{ObjectId}
use Rattle.qu_stamp.specs.declared.candidate.Candidate.{Candidate}
use Rattle.qu_stamp.specs.Stamp.{is_below}
use Rattle.qu_stamp.specs.Candidate.{opening}
use Rattle.qu_stamp.proofs.Order.{is_below-opening}
use Rattle.qu_chain.specs.Laws.{Laws}
use Rattle.qu_chain.specs.Joint.{Joint}
use Rattle.qu_objects.specs.declared.act.Method.{Method}
use Rattle.qu_objects.specs.declared.kind.KindName.{KindName}
use Rattle.qu_objects.specs.declared.kind.Value.{Value}
use Rattle.qu_objects.specs.declared.state.KeptRow.{KeptRow}
use Rattle.qu_objects.specs.declared.state.ObjState.{ObjState}
use Rattle.qu_objects.specs.Kind.{fresh_value}
use Rattle.qu_objects.specs.Performing.{performed_values}
use Rattle.qu_kept.specs.Performing.{row_by, links_to_others, state_after, copied_state}
use Rattle.qu_kept.specs.Rows.{client_of, row_of}
use Rattle.qu_kept.specs.Standing.{IsLower}
use Rattle.qu_kept.proofs.KeyedLaws.{own_item, other_item}
use Rattle.qu_trace.specs.declared.trace.Trace.{Trace}
use Rattle.qu_claims.specs.RunSetting.{setting}
use Rattle.qu_claims.specs.Updates.{Update, IsOf, IsEverAccepted}
use Rattle.qu_claims.specs.Values.{RestsOn, HasVersion}
use Rattle.qu_claims.specs.Parts.{Names, values_on}
use Rattle.qu_claims.proofs.PartValues.{same_values, values_same}
use Rattle.qu_runs.proofs.Acts.OneAct.{ActsAreOne}
use Rattle.qu_values.proofs.Updating.Updates.{one_of, same_accepted, one_companion, acts, opening_no_act}

-- ---- the three ways to have a version

pub record IsFresh (trace : Trace) (object : ObjectId) (candidate : Candidate) (version : ObjState) : Type 0 where
  pub kind : KindName
  pub is_kind : slice_get trace.setup.kinds object.0 ≡ Some kind
  pub is_opening : candidate ≡ opening
  pub fresh : version ≡ record { value = fresh_value kind; kept = []; links = [] }

-- what is kept of an update, where its objects had these versions
abbrev pub row_upon : Update → (ObjectId → ObjState) → KeptRow
row_upon update states =
    row_by update.client update.number update.parts (values_on (λ (it : ObjectId). (states it).value) update.parts)

-- how a copy has the version of its base, with its own links
pub record IsCopyOf (trace : Trace) (object : ObjectId) (candidate : Candidate) (version : ObjState) : Type 0 where
  pub base : Candidate
  pub below : is_below candidate.prior candidate.stamp ≡ true
  pub plain : (setting trace).plain candidate ≡ true
  pub no_act : (setting trace).is_act candidate ≡ false
  pub prior : candidate.prior ≡ base.stamp
  pub base_accepted : IsEverAccepted trace object base
  pub before : ObjState
  pub has : HasVersion trace object base before
  pub after : version ≡ copied_state object candidate before

-- how a candidate of an update has its version
pub record IsUpdated (trace : Trace) (object : ObjectId) (candidate : Candidate) (version : ObjState) : Type 0 where
  pub update : Update
  pub bases : ObjectId → Candidate
  pub befores : ObjectId → ObjState
  pub afters : ObjectId → Value
  pub below : is_below candidate.prior candidate.stamp ≡ true
  pub is_of : IsOf trace update object candidate
  pub rests : (other : ObjectId) → Names update.parts other → RestsOn trace object candidate other (bases other)
  pub has : (other : ObjectId) → Names update.parts other → HasVersion trace other (bases other) (befores other)
  pub values : performed_values update.parts (values_on (λ (other : ObjectId). (befores other).value) update.parts)
      ≡ values_on afters update.parts
  pub after : version ≡ state_after (row_upon update befores) (afters object)
      (links_to_others object candidate.stamp update.parts) (befores object)
  pub lower : (other : ObjectId) → Names update.parts other
      → IsLower update.number (row_of update.client (befores other).kept)

-- by what a version is made of
pub version_induction : (trace : Trace) (P : ObjectId → Candidate → ObjState → Type 0)
    → ((object : ObjectId) (candidate : Candidate) (version : ObjState) → IsFresh trace object candidate version
    → P object candidate version)
    → ((object : ObjectId) (candidate : Candidate) (version : ObjState)
    → (copy : IsCopyOf trace object candidate version) → P object copy.base copy.before → P object candidate version)
    → ((object : ObjectId) (candidate : Candidate) (version : ObjState)
    → (made : IsUpdated trace object candidate version)
    → ((other : ObjectId) → Names (made.update).parts other → P other (made.bases other) (made.befores other))
    → P object candidate version)
    → (object : ObjectId) (candidate : Candidate) (version : ObjState) → HasVersion trace object candidate version
    → P object candidate version
version_induction trace P begins copies goes object candidate version (HasVersion.of_opening _ kind is_kind) =
    begins object candidate version (record { kind = kind; is_kind = is_kind; is_opening = refl; fresh = refl })
version_induction trace P begins copies goes object candidate version
    (HasVersion.of_copy _ it base before state below plain no_act prior accepted has after) =
    copies object candidate version (record {
      base = base;
      below = below;
      plain = plain;
      no_act = no_act;
      prior = prior;
      base_accepted = accepted;
      before = before;
      has = has;
      after = after;
    }) (version_induction trace P begins copies goes object base before has)
version_induction trace P begins copies goes object candidate version
    (HasVersion.of_update _ it update bases befores afters made below is_of rests has values after lower) =
    goes object candidate version (record {
      update = update;
      bases = bases;
      befores = befores;
      afters = afters;
      below = below;
      is_of = is_of;
      rests = rests;
      has = has;
      values = values;
      after = after;
      lower = lower;
    }) (λ other names. version_induction trace P begins copies goes other (bases other) (befores other)
    (has other names))

pub version_cases : (trace : Trace) (object : ObjectId) (candidate : Candidate) (version : ObjState)
    → HasVersion trace object candidate version
    → IsFresh trace object candidate version
    ⊎ (IsCopyOf trace object candidate version ⊎ IsUpdated trace object candidate version)
version_cases trace object candidate version has =
    version_induction trace (λ (on : ObjectId) (it : Candidate) (state : ObjState).
    IsFresh trace on it state ⊎ (IsCopyOf trace on it state ⊎ IsUpdated trace on it state))
    (λ on it state fresh. inl fresh) (λ on it state copy so_far. inr (inl copy))
    (λ on it state made so_far. inr (inr made)) object candidate version has

-- nothing is below the opening candidate
pub not_opening : (candidate : Candidate) → is_below candidate.prior candidate.stamp ≡ true → candidate ≡ opening → ⊥
not_opening candidate below is_opening =
    false≢true (sym (is_below-opening candidate.prior)
    ∙ ap (λ (it : Candidate). is_below candidate.prior it.stamp) (sym is_opening) ∙ below)

-- a copy is made for no update
pub not_of_both : (trace : Trace) (object : ObjectId) (candidate : Candidate) (first second : ObjState)
    → IsCopyOf trace object candidate first → IsUpdated trace object candidate second → ⊥
not_of_both trace object candidate first second copy made =
    false≢true (sym copy.no_act ∙ acts trace made.update object candidate made.is_of)

-- what is the version of an operation's candidate is made by its update
pub updated : (trace : Trace) (object : ObjectId) (candidate : Candidate) (version : ObjState)
    → HasVersion trace object candidate version → (setting trace).is_act candidate ≡ true
    → IsUpdated trace object candidate version
updated trace object candidate version has is_act =
    elim (version_cases trace object candidate version has) [
      | inl fresh ↦ absurd (opening_no_act trace candidate fresh.is_opening is_act)
      | inr other ↦ elim (other) [
        | inl copy ↦ absurd (false≢true (sym copy.no_act ∙ is_act))
        | inr made ↦ made
      ]
    ]

-- the version of a copy has the rows of its base's
pub copied_row : (trace : Trace) (object : ObjectId) (candidate : Candidate) (version : ObjState)
    (copy : IsCopyOf trace object candidate version) (client : ClientId)
    → row_of client version.kept ≡ row_of client (copy.before).kept
copied_row trace object candidate version copy client = ap (λ (it : ObjState). row_of client it.kept) copy.after

-- ---- what the version of an updated candidate has

module _ (trace : Trace) (object : ObjectId) (candidate : Candidate) (version : ObjState)
    (made : IsUpdated trace object candidate version) where
  pub value_after : version.value ≡ made.afters object
  value_after = ap (λ (it : ObjState). it.value) made.after

  -- the row of its client is that of the update
  pub own_row : row_of (made.update).client version.kept ≡ Some (row_upon made.update made.befores)
  own_row =
      ap (λ (it : ObjState). row_of (made.update).client it.kept) made.after
      ∙ own_item client_of (row_upon made.update made.befores) (made.befores object).kept

  -- those of other clients are as before
  pub other_row : (client : ClientId) → (client.0 ≡ ((made.update).client).0 → ⊥)
      → row_of client version.kept ≡ row_of client (made.befores object).kept
  other_row client apart =
      ap (λ (it : ObjState). row_of client it.kept) made.after
      ∙ other_item client_of client.0 (row_upon made.update made.befores) (made.befores object).kept apart

  -- the object's own base is that of the candidate
  pub own_rest : RestsOn trace object candidate object (made.bases object)
  own_rest = made.rests object (made.is_of).names

  pub own_prior : candidate.prior ≡ (made.bases object).stamp
  own_prior =
      elim own_rest.is_companion [
        | inl same ↦ ap (λ (it : Candidate). it.prior) same.1 ∙ own_rest.prior
        | inr group ↦ absurd (group.apart refl)
      ]

-- ---- one version

-- an object's version after an update, by the values of all objects of it before, the object's value after, and its
-- version before
abbrev version_after : ObjectId → Candidate → Update → List Value → Value → ObjState → ObjState
version_after object candidate update values value before =
    state_after (row_by update.client update.number update.parts values) value
    (links_to_others object candidate.stamp update.parts) before

module _ (trace : Trace) (laws : Laws (setting trace)) (joint : Joint (setting trace)) (one_act : ActsAreOne trace)
  where
    one_base : (object other : ObjectId) (candidate first second : Candidate)
        → RestsOn trace object candidate other first → RestsOn trace object candidate other second → first ≡ second
    one_base object other candidate first second one two =
        let companions : one.companion ≡ two.companion =
        one_companion trace laws joint object other candidate one.companion two.companion one.is_companion
        two.is_companion one.accepted
        two.accepted in
        same_accepted trace laws joint other first second one.base_accepted two.base_accepted
        (sym one.prior ∙ ap (λ (it : Candidate). it.prior) companions ∙ two.prior)

    fresh_same : (object : ObjectId) (candidate : Candidate) (first second : ObjState)
        → IsFresh trace object candidate first → IsFresh trace object candidate second → first ≡ second
    fresh_same object candidate first second one other =
        let kinds : one.kind ≡ other.kind = same_Some one.kind other.kind (sym one.is_kind ∙ other.is_kind) in
        let version : KindName → ObjState = λ kind. record { value = fresh_value kind; kept = []; links = [] } in
        one.fresh ∙ ap version kinds ∙ sym other.fresh

    -- two ways to have it, where the bases of the first have one version each
    module _ (object : ObjectId) (candidate : Candidate) (first second : ObjState)
        (one : IsUpdated trace object candidate first) (two : IsUpdated trace object candidate second)
        (only : (other : ObjectId) → Names (one.update).parts other → (it : ObjState)
        → HasVersion trace other (one.bases other) it → one.befores other ≡ it) where
      abbrev update : Update
      update = one.update

      abbrev parts : List (ObjectId × Method)
      parts = update.parts

      same_update : update ≡ two.update
      same_update = one_of trace one_act update two.update object candidate one.is_of two.is_of

      same_parts : (two.update).parts ≡ parts
      same_parts = ap (λ (it : Update). it.parts) (sym same_update)

      same_before : (other : ObjectId) → Names parts other → one.befores other ≡ two.befores other
      same_before other names =
          let also : Names (two.update).parts other =
          subst (λ (all : List (ObjectId × Method)). Names all other) (sym same_parts) names in
          only other names (two.befores other)
          (subst (λ (it : Candidate). HasVersion trace other it (two.befores other))
          (one_base object other candidate (two.bases other) (one.bases other) (two.rests other also)
          (one.rests other names)) (two.has other also))

      abbrev before : ObjectId → Value
      before other = (one.befores other).value

      abbrev besides : ObjectId → Value
      besides other = (two.befores other).value

      same_befores : values_on before parts ≡ values_on besides parts
      same_befores =
          same_values before besides parts (λ other names.
          ap (λ (it : ObjState). it.value) (same_before other names))

      same_after : one.afters object ≡ two.afters object
      same_after =
          let values : performed_values parts (values_on besides parts) ≡ values_on two.afters parts =
          subst (λ (all : List (ObjectId × Method)).
          performed_values all (values_on besides all) ≡ values_on two.afters all)
          same_parts two.values in
          values_same one.afters two.afters parts
          (sym one.values ∙ ap (performed_values parts) same_befores ∙ values) object (one.is_of).names

      made_same : first ≡ second
      made_same =
          let version : List Value → Value → ObjState → ObjState = version_after object candidate update in
          let second_is : second ≡ version (values_on besides parts) (two.afters object) (two.befores object) =
          subst (λ (it : Update). second
          ≡ version_after object candidate it (values_on besides it.parts) (two.afters object) (two.befores object))
          (sym same_update) two.after in
          one.after
          ∙ ap (λ (it : List Value). version it (one.afters object) (one.befores object)) same_befores
          ∙ ap (λ (it : Value). version (values_on besides parts) it (one.befores object)) same_after
          ∙ ap (version (values_on besides parts) (two.afters object)) (same_before object (one.is_of).names)
          ∙ sym second_is

    fresh_only : (object : ObjectId) (candidate : Candidate) (first second : ObjState)
        → IsFresh trace object candidate first → HasVersion trace object candidate second → first ≡ second
    fresh_only object candidate first second one held =
        elim (version_cases trace object candidate second held) [
          | inl other ↦ fresh_same object candidate first second one other
          | inr later ↦ elim (later) [
            | inl copy ↦ absurd (not_opening candidate copy.below one.is_opening)
            | inr made ↦ absurd (not_opening candidate made.below one.is_opening)
          ]
        ]

    copy_only : (object : ObjectId) (candidate : Candidate) (first second : ObjState)
        (one : IsCopyOf trace object candidate first)
        → ((it : ObjState) → HasVersion trace object one.base it → one.before ≡ it)
        → HasVersion trace object candidate second → first ≡ second
    copy_only object candidate first second one only held =
        elim (version_cases trace object candidate second held) [
          | inl fresh ↦ absurd (not_opening candidate one.below fresh.is_opening)
          | inr later ↦ elim (later) [
            | inl copy ↦
                let bases : copy.base ≡ one.base =
                same_accepted trace laws joint object copy.base one.base copy.base_accepted one.base_accepted
                (sym copy.prior ∙ one.prior) in
                let same : one.before ≡ copy.before =
                only copy.before (subst (λ (base : Candidate). HasVersion trace object base copy.before) bases copy.has)
                in
                one.after ∙ ap (copied_state object candidate) same ∙ sym copy.after
            | inr made ↦ absurd (not_of_both trace object candidate first second one made)
          ]
        ]

    made_only : (object : ObjectId) (candidate : Candidate) (first second : ObjState)
        (one : IsUpdated trace object candidate first)
        → ((other : ObjectId) → Names (one.update).parts other → (it : ObjState)
        → HasVersion trace other (one.bases other) it → one.befores other ≡ it)
        → HasVersion trace object candidate second → first ≡ second
    made_only object candidate first second one only held =
        elim (version_cases trace object candidate second held) [
          | inl fresh ↦ absurd (not_opening candidate one.below fresh.is_opening)
          | inr later ↦ elim (later) [
            | inl copy ↦ absurd (not_of_both trace object candidate second first copy one)
            | inr made ↦ made_same object candidate first second one made only
          ]
        ]

    pub one_version : (object : ObjectId) (candidate : Candidate) (first second : ObjState)
        → HasVersion trace object candidate first → HasVersion trace object candidate second → first ≡ second
    one_version object candidate first second has held =
        version_induction trace (λ (on : ObjectId) (it : Candidate) (version : ObjState).
        (other : ObjState) → HasVersion trace on it other → version ≡ other)
        (λ on it version fresh other. fresh_only on it version other fresh)
        (λ on it version copy so_far other. copy_only on it version other copy so_far)
        (λ on it version made so_far other. made_only on it version other made so_far)
        object candidate first has second held
