-- The values of the machine after so many events: of each object that of the version of its top.
use Rattle.std.proofs.Common.{◌≡◌, ◌⊎◌, ℕ, zero, suc, ◌<◌, ◌≤◌, true, List, [], ◌∷◌, length, map, get_or, Some, refl, sym, ap, subst, ◌∙◌, arith, inl, inr}
use Rattle.std.specs.Prelude.{slice_get, slice_set}
use Rattle.std.specs.List.{AllZip}
use Rattle.std.specs.Option.{option_map}
use Rattle.std.proofs.lemmas.Bool.{cases_eq, lt-ltb, ltb-true}
use Rattle.std.proofs.lemmas.List.{length-map, length-set}
use Rattle.std.proofs.lemmas.Option.{slice_get-map, slice_get-get_or}
use Rattle.qu_base.specs.declared.party.ObjectId.{ObjectId}
use Rattle.qu_base.proofs.Numbered.{object_is}
use Rattle.qu_stamp.specs.declared.candidate.Candidate.{Candidate}
use Rattle.qu_stamp.specs.Candidate.{opening}
use Rattle.qu_chain.specs.Laws.{Laws}
use Rattle.qu_claims.specs.Decided.{UponTop, IsTop, IsDecidedBy}
use Rattle.qu_chain.specs.Joint.{Joint}
use Rattle.qu_claims.specs.Groups.{IsOneAct}
use Rattle.qu_chain.proofs.Ancestry.{Acceptor, acceptor, accepted_by_decided, some-later}
use Rattle.qu_chain.proofs.Groups.{whole_turn}
use Rattle.qu_chain.proofs.Tops.{top, top_decided, one_top}
use Rattle.qu_chain.proofs.Turns.{upon_top, one_turn, accepted_at_last}
use Rattle.qu_chain.proofs.Updates.{one_update}
use Rattle.qu_chain.proofs.Values.{Moved, top_moves}
use Rattle.qu_objects.specs.declared.act.Method.{Method}
use Rattle.qu_objects.specs.declared.kind.KindName.{KindName}
use Rattle.qu_objects.specs.declared.kind.KindName.TheVariants as kind
use Rattle.qu_objects.specs.declared.kind.Value.{Value}
use Rattle.qu_objects.specs.declared.state.ObjState.{ObjState}
use Rattle.qu_objects.specs.Kind.{fresh_value}
use Rattle.qu_objects.specs.Performing.{performed_values}
use Rattle.qu_kept.specs.Performing.{row_by}
use Rattle.qu_machine.specs.Machine.{act_values, with_values, values_at}
use Rattle.qu_trace.specs.declared.trace.Trace.{Trace}
use Rattle.qu_world.proofs.Each.{set_other}
use Rattle.qu_claims.specs.RunSetting.{setting}
use Rattle.qu_claims.specs.Updates.{Update, IsOf, IsEverAccepted}
use Rattle.qu_claims.specs.Parts.{Names}
use Rattle.qu_claims.specs.Values.{HasVersion}
use Rattle.qu_runs.proofs.Acts.OneAct.{ActsAreOne}
use Rattle.qu_values.proofs.Updating.PerformedUpdates.{performed}
use Rattle.qu_values.proofs.Updating.Updates.{acts, one_of, same_accepted, one_companion}
use Rattle.qu_values.proofs.Updating.UpdateFacts.{HasValue, MadeFor, ValueStep, befores, afters, IsStep, IsPerformed, UpdateFacts, NoneIsRepeated}

-- ---- lists

set_same : {X : Type 0} (items : List X) (place : ℕ) (new : X) → place < length items
    → slice_get (slice_set items place new) place ≡ Some new
set_same [] place new below = absurd (omega arith)
set_same (item ∷ later) zero new below = refl
set_same (item ∷ later) (suc place) new below = set_same later place new (omega arith)

-- what each part of an update does to its object
abbrev Each : (ObjectId → ValueStep → Type 0) → List (ObjectId × Method) → List ValueStep → Type 0
Each P parts steps = AllZip (λ (part : ObjectId × Method) (step : ValueStep). P part.0 step) parts steps

-- the values of the objects that an update names
pub values_before : (P : ObjectId → ValueStep → Type 0) (values : List Value)
    → ((object : ObjectId) (step : ValueStep) → P object step → slice_get values object.0 ≡ Some step.before)
    → (parts : List (ObjectId × Method)) (steps : List ValueStep) → Each P parts steps
    → values_at values parts ≡ befores steps
values_before P values found [] [] each = refl
values_before P values found [] (step ∷ steps) each = absurd each
values_before P values found (part ∷ parts) [] each = absurd each
values_before P values found (part ∷ parts) (step ∷ steps) each =
    rw (found part.0 step each.0)
    (ap (λ (more : List Value). step.before ∷ more) (values_before P values found parts steps each.1))

-- the part on this object
pub step_of : (P : ObjectId → ValueStep → Type 0) (object : ObjectId) (parts : List (ObjectId × Method))
    (steps : List ValueStep) → Each P parts steps → Names parts object → (step : ValueStep) × P object step
step_of P object [] steps each names = absurd names
step_of P object (part ∷ parts) [] each names = absurd each
step_of P object (part ∷ parts) (step ∷ steps) each (inl here) =
    (step, subst (λ (it : ObjectId). P it step) here each.0)
step_of P object (part ∷ parts) (step ∷ steps) each (inr later) = step_of P object parts steps each.1 later

length-with : (P : ObjectId → ValueStep → Type 0) (values : List Value) (parts : List (ObjectId × Method))
    (steps : List ValueStep) → Each P parts steps → length (with_values values parts (afters steps)) ≡ length values
length-with P values [] [] each = refl
length-with P values [] (step ∷ steps) each = absurd each
length-with P values (part ∷ parts) [] each = absurd each
length-with P values (part ∷ parts) (step ∷ steps) each =
    length-with P (slice_set values (part.0).0 step.after) parts steps each.1
    ∙ length-set values (part.0).0 step.after

-- the value of an object afterwards: that of each part on it, or the one it had
value_after : (P : ObjectId → ValueStep → Type 0) (object : ObjectId) (value : Value)
    → ((step : ValueStep) → P object step → step.after ≡ value)
    → (values : List Value) (parts : List (ObjectId × Method)) (steps : List ValueStep) → Each P parts steps
    → object.0 < length values → Names parts object ⊎ (slice_get values object.0 ≡ Some value)
    → slice_get (with_values values parts (afters steps)) object.0 ≡ Some value
value_after P object value is values [] [] each below (inl names) = absurd names
value_after P object value is values [] [] each below (inr same) = same
value_after P object value is values [] (step ∷ steps) each below which = absurd each
value_after P object value is values (part ∷ parts) [] each below which = absurd each
value_after P object value is values (part ∷ parts) (step ∷ steps) each below which =
    elim (cases_eq object.0 (part.0).0) [
      | inl here ↦
          let same : part.0 ≡ object = object_is part.0 object (sym here) in
          let after : step.after ≡ value = is step (subst (λ (it : ObjectId). P it step) same each.0) in
          value_after P object value is (slice_set values (part.0).0 step.after) parts steps each.1 (still_below)
          (inr (subst (λ (place : ℕ). slice_get (slice_set values (part.0).0 step.after) place ≡ Some value) (sym here)
          (set_same values (part.0).0 step.after (subst (λ (place : ℕ). place < length values) here below)
          ∙ ap (λ (it : Value). Some it) after)))
      | inr apart ↦
          value_after P object value is (slice_set values (part.0).0 step.after) parts steps each.1 (still_below)
          (elsewhere apart which)
    ]
  where
    still_below : object.0 < length (slice_set values (part.0).0 step.after)
    still_below = let same = length-set values (part.0).0 step.after in omega (arith, same, below)

    elsewhere : (object.0 ≡ (part.0).0 → ⊥) → Names (part ∷ parts) object ⊎ (slice_get values object.0 ≡ Some value)
        → Names parts object ⊎ (slice_get (slice_set values (part.0).0 step.after) object.0 ≡ Some value)
    elsewhere apart (inl (inl here)) = absurd (apart (ap (λ (it : ObjectId). it.0) (sym here)))
    elsewhere apart (inl (inr later)) = inl later
    elsewhere apart (inr same) = inr (set_other values (part.0).0 object.0 step.after apart ∙ same)

module _ (trace : Trace) (laws : Laws (setting trace)) (joint : Joint (setting trace)) (one_act : ActsAreOne trace)
    (facts : UpdateFacts trace) (once : NoneIsRepeated trace) where
  abbrev pub last : ℕ
  last = (setting trace).last

  -- ---- one of each

  pub one_value : (object : ObjectId) (candidate : Candidate) (first second : Value)
      → HasValue trace object candidate first → HasValue trace object candidate second → first ≡ second
  one_value object candidate first second one two =
      sym one.value_is
      ∙ ap (λ (it : ObjState). it.value) (facts.one_version object candidate one.version two.version one.has two.has)
      ∙ two.value_is

  -- ---- the values at a time

  pub record ValueAt (time : ℕ) (object : ObjectId) (values : List Value) : Type 0 where
    pub candidate : Candidate
    pub top : IsTop (setting trace) time object candidate
    pub value : Value
    pub has : HasValue trace object candidate value
    pub value_is : slice_get values object.0 ≡ Some value

  pub record IsValues (time : ℕ) (values : List Value) : Type 0 where
    pub number : length values ≡ length trace.setup.kinds
    pub each : (object : ObjectId) → object.0 < length trace.setup.kinds → ValueAt time object values

  pub known_object : (object : ObjectId) → object.0 < length trace.setup.kinds → (setting trace).known object ≡ true
  unfolding setting
  known_object object below = lt-ltb object.0 (length trace.setup.kinds) below

  pub object_known : (object : ObjectId) (candidate : Candidate) → IsEverAccepted trace object candidate
      → object.0 < length trace.setup.kinds
  unfolding setting
  object_known object candidate accepted =
      let who : Acceptor (setting trace) last object candidate =
      acceptor (setting trace) last object candidate accepted in
      ltb-true object.0 (length trace.setup.kinds)
      (laws.only_known last object who.replica candidate who.good who.within who.accepted)

  -- the value of an object is that of its top
  pub value_of_top : (time : ℕ) → time ≤ last → (values : List Value) → IsValues time values
      → (object : ObjectId) (candidate : Candidate) (value : Value) → IsTop (setting trace) time object candidate
      → HasValue trace object candidate value → slice_get values object.0 ≡ Some value
  value_of_top time within values are object candidate value is_top has =
      let accepted : IsEverAccepted trace object candidate =
      some-later (setting trace) laws.lasting time last within object candidate
      (accepted_by_decided (setting trace) laws.lasting time object candidate
      (top_decided (setting trace) laws joint time object candidate is_top)) in
      let there : ValueAt time object values = are.each object (object_known object candidate accepted) in
      let same : there.candidate ≡ candidate =
      one_top (setting trace) laws joint time within object there.candidate candidate there.top is_top in
      there.value_is
      ∙ ap (λ (it : Value). Some it) (one_value object candidate there.value value
      (subst (λ (it : Candidate). HasValue trace object it there.value) same there.has) has)

  -- ---- at the beginning

  pub first_values : IsValues 0 (map fresh_value trace.setup.kinds)
  first_values = record {
    number = length-map trace.setup.kinds fresh_value;
    each = λ object below.
        let kinds : List KindName = trace.setup.kinds in
        let first : KindName = get_or kinds object.0 kind.Counter in
        let found : slice_get kinds object.0 ≡ Some first = slice_get-get_or kinds object.0 kind.Counter below in
        let it : (candidate : Candidate) × IsTop (setting trace) 0 object candidate =
        top (setting trace) laws joint 0 (omega arith) object (known_object object below) in
        let who : Acceptor (setting trace) 0 object it.0 =
        acceptor (setting trace) 0 object it.0 (accepted_by_decided (setting trace) laws.lasting 0 object it.0
        (top_decided (setting trace) laws joint 0 object it.0 it.1)) in
        let is_opening : it.0 ≡ opening = laws.start object who.replica it.0 who.good who.within who.accepted in
        record {
          candidate = it.0;
          top = it.1;
          value = fresh_value first;
          has = subst (λ (one : Candidate). HasValue trace object one (fresh_value first)) (sym is_opening) (record {
            version = record { value = fresh_value first; kept = []; links = [] };
            has = HasVersion.of_opening object first found;
            value_is = refl;
          });
          value_is = slice_get-map fresh_value kinds object.0 ∙ ap (option_map fresh_value) found;
        };
  }

  -- ---- a step

  module _ (time : ℕ) (within : time < last) (values : List Value) (are : IsValues time values) where
    next_top : (object : ObjectId) → object.0 < length trace.setup.kinds
        → (candidate : Candidate) × IsTop (setting trace) (suc time) object candidate
    next_top object below =
        top (setting trace) laws joint (suc time) (omega arith) object (known_object object below)

    abbrev TopMoves : ObjectId → Candidate → Candidate → Type 0
    TopMoves object old new =
        Moved (setting trace) laws joint Value (HasValue trace) facts.copied time object old new

    moves : (object : ObjectId) (below : object.0 < length trace.setup.kinds)
        → TopMoves object (are.each object below).candidate (next_top object below).0
    moves object below =
        top_moves (setting trace) laws joint Value (HasValue trace) facts.copied time object
        (are.each object below).candidate (next_top object below).0 within (are.each object below).top
        (next_top object below).1

    -- a step that decides no act leaves the values
    pub stay : ((object : ObjectId) (act : Candidate) → (setting trace).is_act act ≡ true
        → IsDecidedBy (setting trace) time object act → ⊥) → IsValues (suc time) values
    stay none = record {
      number = are.number;
      each = λ object below. by object below (are.each object below) (next_top object below) (moves object below);
    }
      where
        by : (object : ObjectId) → object.0 < length trace.setup.kinds → (old : ValueAt time object values)
            → (new : (candidate : Candidate) × IsTop (setting trace) (suc time) object candidate)
            → TopMoves object old.candidate new.0 → ValueAt (suc time) object values
        by object below old new (Moved.quiet passes no_act) = record {
          candidate = new.0;
          top = new.1;
          value = old.value;
          has = passes old.value old.has;
          value_is = old.value_is;
        }
        by object below old new (Moved.loud act is_act turn prior passes) = absurd (none object act is_act turn)

    -- a step that decides an update does to the values what the update does
    module _ (update : Update) (object : ObjectId) (candidate : Candidate) (is_of : IsOf trace update object candidate)
        (turn : IsDecidedBy (setting trace) time object candidate) where
      accepted : IsEverAccepted trace object candidate
      accepted = accepted_at_last (setting trace) laws joint time object candidate turn

      pub done : IsPerformed trace update object candidate
      done = performed trace laws joint one_act facts update object candidate is_of accepted

      abbrev pub Steps : ObjectId → ValueStep → Type 0
      Steps other step =
          IsStep trace object candidate (row_by update.client update.number update.parts (befores done.steps)) other
          step

      -- the companions are decided at the step
      companion_turn : (other : ObjectId) (companion : Candidate)
          → IsOneAct (setting trace) object other candidate companion → IsEverAccepted trace other companion
          → IsDecidedBy (setting trace) time other companion
      companion_turn other companion (inl same) also =
          subst (λ (it : ObjectId). IsDecidedBy (setting trace) time it companion) same.0
          (subst (IsDecidedBy (setting trace) time object) same.1 turn)
      companion_turn other companion (inr group) also =
          let it : (found : Candidate) × (found.stamp ≡ companion.stamp) × IsDecidedBy
          (setting trace) time other found =
          whole_turn (setting trace) laws joint time object candidate other companion.stamp turn group.apart
          group.is_member in
          subst (IsDecidedBy (setting trace) time other)
          (same_accepted trace laws joint other it.0 companion
          (accepted_at_last (setting trace) laws joint time other it.0 it.2) also
          it.1) it.2

      -- an act that is decided at the step is the companion
      is_companion : (other : ObjectId) (act companion : Candidate) → (setting trace).is_act act ≡ true
          → IsDecidedBy (setting trace) time other act → IsOneAct (setting trace) object other candidate companion
          → IsEverAccepted trace other companion → companion ≡ act
      is_companion other act companion is_act act_turn one also =
          one_companion trace laws joint object other candidate companion act one
          (one_turn (setting trace) laws joint time object other candidate act turn act_turn
          (acts trace update object candidate is_of) is_act) also
          (accepted_at_last (setting trace) laws joint time other act act_turn)

      companion_act : (other : ObjectId) (companion : Candidate)
          → IsOneAct (setting trace) object other candidate companion → IsEverAccepted trace other companion
          → (setting trace).is_act companion ≡ true
      companion_act other companion (inl same) also =
          subst (λ (it : Candidate). (setting trace).is_act it ≡ true) same.1 (acts trace update object candidate is_of)
      companion_act other companion (inr group) also =
          acts trace update other companion
          (facts.shared update object other candidate companion is_of accepted group.apart group.is_member also)

      pub before_is : (other : ObjectId) (step : ValueStep) → Steps other step
          → slice_get values other.0 ≡ Some step.before
      before_is other step it =
          let its : IsDecidedBy (setting trace) time other it.companion =
          companion_turn other it.companion it.is_companion it.accepted in
          let upon : UponTop (setting trace) time other it.companion =
          upon_top (setting trace) laws joint time other it.companion its
          (companion_act other it.companion it.is_companion it.accepted) in
          let base_accepted : IsEverAccepted trace other upon.base =
          some-later (setting trace) laws.lasting time last (omega arith) other upon.base
          (accepted_by_decided (setting trace) laws.lasting time other upon.base
          (top_decided (setting trace) laws joint time other upon.base upon.top)) in
          let same : upon.base ≡ it.base =
          same_accepted trace laws joint other upon.base it.base base_accepted it.base_accepted
          (sym upon.prior ∙ it.prior) in
          value_of_top time (omega arith) values are other it.base step.before
          (subst (IsTop (setting trace) time other) same upon.top) it.before

      -- the values upon which the update is performed
      pub befores_are : values_at values update.parts ≡ befores done.steps
      befores_are = values_before Steps values before_is update.parts done.steps done.each

      sets : act_values values update.parts ≡ with_values values update.parts (afters done.steps)
      sets =
          ap (λ (it : List Value). with_values values update.parts (performed_values update.parts it)) befores_are
          ∙ ap (with_values values update.parts) done.values

      pub change : IsValues (suc time) (act_values values update.parts)
      change = subst (IsValues (suc time)) (sym sets) (record {
        number = length-with Steps values update.parts done.steps done.each ∙ are.number;
        each = λ other below. by other below (are.each other below) (next_top other below) (moves other below);
      })
        where
          new_values : List Value
          new_values = with_values values update.parts (afters done.steps)

          is_within : (other : ObjectId) → other.0 < length trace.setup.kinds → other.0 < length values
          is_within other below = let number = are.number in omega (arith, number, below)

          by : (other : ObjectId) → other.0 < length trace.setup.kinds → (old : ValueAt time other values)
              → (new : (it : Candidate) × IsTop (setting trace) (suc time) other it)
              → TopMoves other old.candidate new.0 → ValueAt (suc time) other new_values
          by other below old new (Moved.quiet passes no_act) = record {
            candidate = new.0;
            top = new.1;
            value = old.value;
            has = passes old.value old.has;
            value_is = value_after Steps other old.value
                (λ step it. absurd (no_act it.companion (companion_act other it.companion it.is_companion it.accepted)
                (companion_turn other it.companion it.is_companion it.accepted)))
                values update.parts done.steps done.each (is_within other below) (inr old.value_is);
          }
          by other below old new (Moved.loud act is_act act_turn prior passes) =
              let made : MadeFor trace other act =
              facts.made other act (accepted_at_last (setting trace) laws joint time other act act_turn) is_act in
              let same : made.update ≡ update =
              one_update (setting trace) laws joint Update (IsOf trace) (one_of trace one_act) facts.shared
              facts.spread once (acts trace)
              made.update update time other object act candidate made.is_of is_of act_turn turn in
              let names : Names update.parts other =
              subst (λ (it : Update). Names it.parts other) same (made.is_of).names in
              let here : (step : ValueStep) × Steps other step =
              step_of Steps other update.parts done.steps done.each names in
              let value : (step : ValueStep) → Steps other step → HasValue trace other act step.after =
              λ step it. record {
                version = it.version;
                has = subst (λ (one : Candidate). HasVersion trace other one it.version)
                    (is_companion other act it.companion is_act act_turn it.is_companion it.accepted) it.has;
                value_is = it.after_is;
              } in
              record {
                candidate = new.0;
                top = new.1;
                value = (here.0).after;
                has = passes (here.0).after (value here.0 here.1);
                value_is = value_after Steps other (here.0).after
                    (λ step it. one_value other act step.after (here.0).after (value step it) (value here.0 here.1))
                    values update.parts done.steps done.each (is_within other below) (inl names);
              }
