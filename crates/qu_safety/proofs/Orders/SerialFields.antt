-- A printed order holds the operations of its trace, each once and after it began, and updates of faulty clients, each
-- once.
use Rattle.std.proofs.Common.{◌≡◌, ℕ, zero, suc, ◌<◌, true, false, List, [], ◌∷◌, Some, sym, ap, subst, ◌∙◌, arith, inl, inr}
use Rattle.std.specs.Prelude.{slice_get, Contains}
use Rattle.std.proofs.lemmas.Bool.{false≢true, cases_order}
use Rattle.std.proofs.lemmas.Option.{none-some, same_Some}
use Rattle.qu_base.specs.declared.party.ClientId.{ClientId}
use Rattle.qu_machine.specs.declared.record.OpRecord.{OpRecord}
use Rattle.qu_machine.specs.declared.record.Point.{Point}
use Rattle.qu_machine.specs.Serial.{Stands, StandsAt, StandsAtMostOnce, IsOfOperations, IsUpdate, Agree, IsLoneUpdate}
use Rattle.qu_trace.specs.declared.trace.Trace.{Trace}
use Rattle.qu_trace.specs.Operation.{operations_of}
use Rattle.qu_world.specs.Run.{IsRun}
use Rattle.qu_chain.specs.Laws.{Laws}
use Rattle.qu_chain.specs.Joint.{Joint}
use Rattle.qu_claims.specs.RunSetting.{setting}
use Rattle.qu_values.proofs.Updating.UpdateFacts.{UpdateFacts, NoneIsRepeated}
use Rattle.qu_values.proofs.Requests.ClientFacts.{ClientFacts}
use Rattle.qu_runs.proofs.Acts.OneAct.{ActsAreOne}
use Rattle.qu_claims.specs.Order.{is_earlier, are_in_order, DecidesAt}
use Rattle.qu_safety.proofs.Points.OwnedPoints.{IsOperationPoint, IsFaultyPoint, HasOwner, IsOwnedOrder}
use Rattle.qu_points.specs.Points.{as_operation}
use Rattle.qu_points.proofs.Taken.Taking.{effect_once}
use Rattle.qu_runs.proofs.Small.{same_point}
use Rattle.qu_base.specs.declared.party.ObjectId.{ObjectId}
use Rattle.qu_base.proofs.Items.{contains_at}
use Rattle.qu_objects.specs.declared.act.Method.{Method}
use Rattle.qu_objects.specs.declared.op.Op.{Op}
use Rattle.qu_objects.specs.declared.op.Op.TheVariants as op
use Rattle.qu_objects.proofs.PartLaws.{same_parts}
use Rattle.qu_runs.specs.Plain.{ArePlain}
use Rattle.qu_safety.proofs.Points.EventRequests.{one_point}
use Rattle.qu_safety.proofs.Points.PointEvents.{begun_before}
use Rattle.qu_points.proofs.Operations.Recorded.{recorded_op}
use Rattle.qu_points.proofs.Orders.Sorted.{is_earlier-self, is_earlier-chain, in_order_parts, in_order_tail}

-- ---- places in order

-- the first comes before each later one
first_earlier : (first : Point) (later : List Point) (place : ℕ) (point : Point) → are_in_order (first ∷ later) ≡ true
    → slice_get later place ≡ Some point → is_earlier first point ≡ true
first_earlier first [] place point order there = absurd (none-some point there)
first_earlier first (second ∷ later) zero point order there =
    ap (is_earlier first) (sym (same_Some second point there)) ∙ (in_order_parts first second later order).0
first_earlier first (second ∷ later) (suc place) point order there =
    let parts : (is_earlier first second ≡ true) × (are_in_order (second ∷ later) ≡ true) =
    in_order_parts first second later order in
    is_earlier-chain first second point parts.0 (first_earlier second later place point parts.1 there)

-- a point comes before those at later places
pub earlier_by_place : (points : List Point) (at other : ℕ) (first second : Point) → are_in_order points ≡ true
    → at < other → slice_get points at ≡ Some first → slice_get points other ≡ Some second → is_earlier first second ≡
    true
earlier_by_place [] at other first second order before here there = absurd (none-some first here)
earlier_by_place (point ∷ later) at zero first second order before here there = absurd (omega arith)
earlier_by_place (point ∷ later) zero (suc other) first second order before here there =
    ap (λ (it : Point). is_earlier it second) (sym (same_Some point first here)) ∙ first_earlier point later other
    second order there
earlier_by_place (point ∷ later) (suc at) (suc other) first second order before here there =
    earlier_by_place later at other first second (in_order_tail point later order) (omega arith) here there

-- a point stands at one place
pub one_place : (points : List Point) (at other : ℕ) (point : Point) → are_in_order points ≡ true → slice_get points at
    ≡ Some point → slice_get points other ≡ Some point → other ≡ at
one_place points at other point order here there =
    elim (cases_order other at) [
      | inl same ↦ same
      | inr apart ↦ elim apart [
        | inl before ↦ absurd (false≢true
            (sym (is_earlier-self point) ∙ earlier_by_place points other at point point order before there here))
        | inr after ↦ absurd (false≢true
            (sym (is_earlier-self point) ∙ earlier_by_place points at other point point order after here there))
      ]
    ]

-- ---- what an order of operations holds

module _ (trace : Trace) (order : List Point) (is_order : IsOwnedOrder trace order) where
  -- a point without the mark is one of an operation
  by_operation : (point : Point) → HasOwner trace point → point.faulty ≡ false → IsOperationPoint trace point
  by_operation point (inl it) correct = it
  by_operation point (inr it) correct = absurd (false≢true (sym correct ∙ it.mark))

  by_faulty : (point : Point) → HasOwner trace point → point.faulty ≡ true → IsFaultyPoint trace point
  by_faulty point (inl it) faulty = absurd (false≢true (sym it.mark ∙ faulty))
  by_faulty point (inr it) faulty = it

  pub is_point_at : (at : ℕ) (point : Point) → slice_get order at ≡ Some point → HasOwner trace point
  is_point_at at point there = is_order.sound point (contains_at order at point there)

  pub point_at_place : (operation : OpRecord) (at : ℕ) (point : Point) → StandsAt operation order at point
      → IsOperationPoint trace point
  point_at_place operation at point here =
      by_operation point (is_point_at at point here.there) (here.stands).correct

  -- each point without the mark is one of the operations
  pub points_known : (at : ℕ) (point : Point) → slice_get order at ≡ Some point → point.faulty ≡ false → IsOfOperations
      (operations_of trace) point
  points_known at point there correct =
      let is : IsOperationPoint trace point = by_operation point (is_point_at at point there) correct in
      record {
        operation = is.operation;
        of_list = is.of_trace;
        stands = record
            { correct = correct; client = is.client; number = is.number; op = is.op };
      }

  -- an update of a faulty client has one point
  one_faulty : (first second : Point) → (one : IsFaultyPoint trace first) → (two : IsFaultyPoint trace second)
      → Agree first second → first ≡ second
  one_faulty first second one two agree =
      let parts : one.parts ≡ two.parts = same_parts one.parts two.parts (sym one.op ∙ agree.op ∙ two.op) in
      same_point first second
      (effect_once trace (as_operation (second.client, second.number, two.parts)) first.event second.event
      (op.Act two.parts)
      (subst (λ (its : List (ObjectId × Method)). DecidesAt trace second.client second.number its first.event) parts
      (subst (λ (it : ℕ). DecidesAt trace second.client it one.parts first.event) agree.number
      (subst (λ (it : ClientId). DecidesAt trace it first.number one.parts first.event) agree.client one.effect)))
      two.effect)
      agree.client agree.number agree.op agree.faulty

  is_update : (point : Point) (what : Op) (parts : List (ObjectId × Method)) → what ≡ op.Act parts → IsUpdate what
  is_update point (op.Act act) parts is = tt
  is_update point (op.Query query) parts is = absurd (cc)

  -- each point with the mark is one of an update, and agrees with no other
  pub points_faulty : (at : ℕ) (point : Point) → slice_get order at ≡ Some point → point.faulty ≡ true
      → IsLoneUpdate order at point
  points_faulty at point there faulty =
      let is : IsFaultyPoint trace point = by_faulty point (is_point_at at point there) faulty in
      record {
        update = is_update point point.op is.parts is.op;
        alone = λ other second besides agree.
            let its : IsFaultyPoint trace second =
            by_faulty second (is_point_at other second besides) (sym agree.faulty ∙ faulty) in
            one_place order at other second is_order.in_order
            (there ∙ ap Some (one_faulty point second is its agree)) besides;
      }

  -- the operation that stands at a place is that of the point
  pub stands_of : (operation : OpRecord) → Contains (operations_of trace) operation → (point : Point)
      → Stands operation point → (is : IsOperationPoint trace point) → is.operation ≡ operation
  stands_of operation of_trace point stands is =
      recorded_op trace is.operation operation is.of_trace of_trace
      (ap (λ (it : ClientId). it.0) (is.client ∙ sym stands.client)) (is.number ∙ sym stands.number)

  stands_alone : (operation : OpRecord) (at other : ℕ) (first second : Point) → StandsAt operation order at first
      → StandsAt operation order other second → other ≡ at
  stands_alone operation at other first second here there =
      let same : first ≡ second =
      one_point trace first second (point_at_place operation at first here)
      (point_at_place operation other second there)
      (sym (here.stands).client ∙ (there.stands).client) (sym (here.stands).number ∙ (there.stands).number) in
      one_place order at other second is_order.in_order (here.there ∙ ap Some same) there.there

  module _ (is_run : IsRun trace) (have : ArePlain trace) (clients : ClientFacts trace) (one_act : ActsAreOne trace)
      (laws : Laws (setting trace))
      (joint : Joint (setting trace)) (facts : UpdateFacts trace) (once : NoneIsRepeated trace) where
    -- each operation stands at one place at most, after its invocation
    pub stand_at_most_once : (operation : OpRecord) → Contains (operations_of trace) operation
        → StandsAtMostOnce operation order
    stand_at_most_once operation of_trace = record {
      alone = stands_alone operation;
      after = λ at point here.
          let is : IsOperationPoint trace point = point_at_place operation at point here in
          subst (λ (it : OpRecord). it.invoked < point.event) (stands_of operation of_trace point here.stands is)
          (begun_before trace is_run have clients one_act laws joint facts once point is);
    }
