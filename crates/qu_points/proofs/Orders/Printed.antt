-- The points of operations, one operation after another, and that they are those of the printed order.
use Rattle.std.proofs.Common.{◌≡◌, ℕ, ◌+◌, ◌<◌, ◌≤◌, true, false, List, [], ◌∷◌, ◌++◌, length, get_or, take, refl, sym, ap, subst, ◌∙◌, arith, inl, inr, get_or-take}
use Rattle.std.specs.Prelude.{Contains}
use Rattle.std.specs.List.{All, AllPairs, filter}
use Rattle.std.proofs.lemmas.Bool.{false≢true}
use Rattle.std.proofs.lemmas.List.{take_more, take_all, length-take-le, get_or_default}
use Rattle.std.proofs.lemmas.List.Elements.{All-contains, Contains-append_left, Contains-push, Contains-push_cases}
use Rattle.qu_base.specs.declared.party.ClientId.{ClientId}
use Rattle.qu_base.specs.declared.party.Party.TheVariants as party
use Rattle.qu_base.specs.declared.party.ObjectId.{ObjectId}
use Rattle.qu_objects.specs.declared.query.Ask.{Ask}
use Rattle.qu_objects.specs.declared.op.Op.{Op}
use Rattle.qu_objects.specs.declared.op.Op.TheVariants as op
use Rattle.qu_machine.specs.declared.record.OpRecord.{OpRecord}
use Rattle.qu_machine.specs.declared.record.Point.{Point}
use Rattle.qu_trace.specs.declared.trace.Trace.{Trace}
use Rattle.qu_trace.specs.Faulty.{is_faulty}
use Rattle.qu_trace.specs.Operation.{operations_of}
use Rattle.qu_claims.specs.Order.{DecidesAt, op_bytes, is_earlier, are_in_order, IsUpdatePoint, IsQueryPoint, IsPoint, IsPrintedOrder}
use Rattle.qu_points.specs.Points.{NamedAct, effect_of, asks, is_query, as_operation, handled_acts, AreDistinct, IsOfCorrect, IsActOf, AddsActs, point_at, IsPointOf, ArePointsOf, AddsPoint, with_point}
use Rattle.qu_points.proofs.Filtering.{in_filter, from_filter, passes_filter}
use Rattle.qu_points.proofs.Handled.HandledActs.{handled_listed}
use Rattle.qu_points.proofs.Taken.Taking.{effect_once}
use Rattle.qu_points.proofs.Orders.Sorted.{is_earlier-other, contains_with_point, with_point_contains, with_point_keeps, in_order-with_point}
use Rattle.qu_runs.proofs.Small.{same_point}

pub points_none : (trace : Trace) → ArePointsOf trace [] []
unfolding are_in_order
points_none trace = record {
  in_order = refl;
  sound = λ point held. nothing held;
  complete = λ point is. nothing is.of_list;
}
  where
    nothing : {X : Type 0} {P : Type 0} {x : X} → Contains [] x → P
    nothing held =
        let below : held.0 < 0 = held.1 in
        absurd (omega arith)

point_later : (trace : Trace) (before : List OpRecord) (operation : OpRecord) (point : Point)
    → IsPointOf trace before point → IsPointOf trace (before ++ operation ∷ []) point
point_later trace before operation point is = record {
  operation = is.operation;
  of_list = Contains-append_left before (operation ∷ []) is.operation is.of_list;
  is_point = is.is_point;
  effect = is.effect;
}

effect_along : (trace : Trace) (first second : OpRecord) (event : ℕ) → first ≡ second
    → effect_of trace first event first.op → effect_of trace second event second.op
effect_along trace first second event same effect =
    subst (λ (it : OpRecord). effect_of trace it event it.op) same effect

points_skip : (trace : Trace) (before : List OpRecord) (operation : OpRecord) (points : List Point)
    → ArePointsOf trace before points → ((event : ℕ) → ¬ (effect_of trace operation event operation.op))
    → ArePointsOf trace (before ++ operation ∷ []) points
points_skip trace before operation points are none = record {
  in_order = are.in_order;
  sound = λ point held. point_later trace before operation point (are.sound point held);
  complete = λ point is. elim (Contains-push_cases before operation is.operation is.of_list) [
    | inl earlier ↦ are.complete point
        (record {
          operation = is.operation;
          of_list = earlier;
          is_point = is.is_point;
          effect = is.effect;
        })
    | inr same ↦ absurd (none point.event (effect_along trace is.operation operation point.event (sym same) is.effect))
  ];
}

-- the point of the operation is that at the event at which it took effect
point_is : (trace : Trace) (before : List OpRecord) (operation : OpRecord) (event : ℕ) (point : Point)
    → effect_of trace operation event operation.op → (is : IsPointOf trace (before ++ operation ∷ []) point)
    → operation ≡ is.operation → point_at trace.setup operation event ≡ point
point_is trace before operation event point effect is same =
    ap (point_at trace.setup operation)
    (effect_once trace operation event point.event operation.op effect
    (effect_along trace is.operation operation point.event (sym same) is.effect))
    ∙ ap (λ (it : OpRecord). point_at trace.setup it point.event) same ∙ sym is.is_point

-- points of distinct operations are one before the other
points_differ : (trace : Trace) (first second : Point) (operation other : OpRecord) (event turn : ℕ)
    → first ≡ point_at trace.setup operation event → second ≡ point_at trace.setup other turn
    → AreDistinct operation other → is_earlier first second ≡ false → is_earlier second first ≡ true
points_differ trace first second operation other event turn is besides distinct not_before =
    is_earlier-other first second not_before (λ clients numbers bodies.
    distinct (ap (λ (it : Point). (it.client).0) (sym is) ∙ clients ∙ ap (λ (it : Point). (it.client).0) besides)
    (ap (λ (it : Point). it.number) (sym is) ∙ numbers ∙ ap (λ (it : Point). it.number) besides)
    (ap (λ (it : Point). op_bytes it.op) (sym is) ∙ bodies ∙ ap (λ (it : Point). op_bytes it.op) besides))

points_add : (trace : Trace) (before : List OpRecord) (operation : OpRecord) (event : ℕ) (points : List Point)
    → ArePointsOf trace before points → All (λ first. AreDistinct first operation) before
    → effect_of trace operation event operation.op → ArePointsOf trace (before ++ operation ∷ [])
    (with_point (point_at trace.setup operation event) points)
points_add trace before operation event points are distinct effect = record {
  in_order = in_order-with_point (point_at trace.setup operation event) points are.in_order
      (λ other held not_before.
      let is : IsPointOf trace before other = are.sound other held in
      points_differ trace other (point_at trace.setup operation event) is.operation operation other.event event
      is.is_point refl
      (All-contains (λ first. AreDistinct first operation) before is.operation distinct is.of_list) not_before);
  sound = λ point held. elim (contains_with_point (point_at trace.setup operation event) points point held) [
    | inl same ↦ subst (λ (it : Point). IsPointOf trace (before ++ operation ∷ []) it) same (record {
      operation = operation;
      of_list = Contains-push before operation;
      is_point = refl;
      effect = effect;
    })
    | inr there ↦ point_later trace before operation point (are.sound point there)
  ];
  complete = λ point is. elim (Contains-push_cases before operation is.operation is.of_list) [
    | inl earlier ↦ with_point_keeps (point_at trace.setup operation event) points point
        (are.complete point
        (record {
          operation = is.operation;
          of_list = earlier;
          is_point = is.is_point;
          effect = is.effect;
        }))
    | inr same ↦ subst (λ (it : Point). Contains (with_point (point_at trace.setup operation event) points) it)
        (point_is trace before operation event point effect is same)
        (with_point_contains (point_at trace.setup operation event) points)
  ];
}

distinct_before : (operations : List OpRecord) (index : ℕ) (default : OpRecord) → AllPairs AreDistinct operations
    → index < length operations → All (λ first. AreDistinct first (get_or operations index default))
    (take index operations)
distinct_before operations index default apart below place other before =
    let size : length (take index operations) ≡ index = length-take-le index operations (omega arith) in
    let earlier : place < index = omega arith in
    let first : get_or (take index operations) place other ≡ get_or operations place other =
    get_or-take index operations place other earlier in
    let second : get_or operations index default ≡ get_or operations index other =
    get_or_default operations index default other below in
    rw (first, second) (apart place index other earlier below)

-- one operation more
pub points_next : (trace : Trace) (operations : List OpRecord) (index : ℕ) (operation : OpRecord)
    (old new : List Point) → AllPairs AreDistinct operations → index < length operations
    → operation ≡ get_or operations index operation → ArePointsOf trace (take index operations) old
    → AddsPoint trace operation old new → ArePointsOf trace (take (index + 1) operations) new
points_next trace operations index operation old new apart below is are adds =
    let before : List OpRecord = take index operations in
    let more : take (index + 1) operations ≡ before ++ operation ∷ [] =
    take_more operations index operation below ∙ ap (λ (it : OpRecord). before ++ it ∷ []) (sym is) in
    let others : All (λ first. AreDistinct first operation) before =
    subst (λ (it : OpRecord). All (λ first. AreDistinct first it) before) (sym is)
    (distinct_before operations index operation apart below) in
    subst (λ (it : List OpRecord). ArePointsOf trace it new) (sym more) (elim adds [
      | inl added ↦ subst (ArePointsOf trace (before ++ operation ∷ [])) (sym added.2)
          (points_add trace before operation added.0 old are others added.1)
      | inr skipped ↦ subst (ArePointsOf trace (before ++ operation ∷ [])) (sym skipped.1)
          (points_skip trace before operation old are skipped.0)
    ])

pub points_all : (trace : Trace) (operations : List OpRecord) (index : ℕ) (points : List Point)
    → length operations ≤ index → ArePointsOf trace (take index operations) points → ArePointsOf trace operations points
points_all trace operations index points past are =
    subst (λ (it : List OpRecord). ArePointsOf trace it points) (take_all index operations past) are

pub adds_some : (trace : Trace) (operation : OpRecord) (event : ℕ) (point : Point) (old new : List Point)
    → effect_of trace operation event operation.op → point ≡ point_at trace.setup operation event
    → new ≡ with_point point old
    → AddsPoint trace operation old new
adds_some trace operation event point old new effect is added =
    inl (event, effect, added ∙ ap (λ (it : Point). with_point it old) is)

pub adds_none : (trace : Trace) (operation : OpRecord) (old new : List Point)
    → ((event : ℕ) → ¬ (effect_of trace operation event operation.op)) → new ≡ old → AddsPoint trace operation old new
adds_none trace operation old new none same = inr (none, same)

-- ---- the printed order

-- the parts of a query
record IsAsked (what : Op) : Type 0 where
  parts : List (ObjectId × Ask)
  is : what ≡ op.Query parts

asked : (what : Op) → asks what ≡ true → IsAsked what
asked (op.Act parts) query = absurd (false≢true query)
asked (op.Query parts) query = record { parts = parts; is = refl }

module _ (trace : Trace) (acts : List NamedAct) (operations : List OpRecord) (acts_are : acts ≡ handled_acts trace)
    (correct : All (IsOfCorrect trace.setup) (operations_of trace))
    (adds : AddsActs acts (filter is_query (operations_of trace)) operations) where
  marked : (point : Point) (operation : OpRecord) → point ≡ point_at trace.setup operation point.event
      → is_faulty trace.setup (party.Client operation.client) ≡ point.faulty
  marked point operation is = sym (ap (λ (it : Point). it.faulty) is)

  -- a point of a query
  query_point : (point : Point) (is : IsPointOf trace operations point)
      → Contains (filter is_query (operations_of trace)) is.operation → IsQueryPoint trace point
  query_point point is kept =
      let operation : OpRecord = is.operation in
      let among : Contains (operations_of trace) operation =
      from_filter is_query (operations_of trace) operation kept in
      let query : IsAsked operation.op =
      asked operation.op (passes_filter is_query (operations_of trace) operation kept) in
      let own : IsOfCorrect trace.setup operation =
      All-contains (IsOfCorrect trace.setup) (operations_of trace) operation correct among in
      let client : operation.client ≡ point.client = sym (ap (λ (it : Point). it.client) is.is_point) in
      record {
        operation = operation;
        of_trace = among;
        client = client;
        number = sym (ap (λ (it : Point). it.number) is.is_point);
        op = sym (ap (λ (it : Point). it.op) is.is_point);
        parts = query.parts;
        is_query = query.is;
        correct = ap (λ (it : ClientId). is_faulty trace.setup (party.Client it)) (sym client) ∙ own;
        mark = sym (marked point operation is.is_point) ∙ own;
        effect = subst (λ (it : Op). effect_of trace operation point.event it) query.is is.effect;
      }

  -- a point of an update
  update_point : (point : Point) (is : IsPointOf trace operations point) → IsActOf acts is.operation
      → IsUpdatePoint trace point
  update_point point is it =
      let same : point ≡ point_at trace.setup (as_operation it.act) point.event =
      is.is_point ∙ ap (λ (one : OpRecord). point_at trace.setup one point.event) it.is in
      let client : (it.act).0 ≡ point.client = sym (ap (λ (one : Point). one.client) same) in
      let number : (it.act).1 ≡ point.number = sym (ap (λ (one : Point). one.number) same) in
      record {
        parts = (it.act).2;
        op = ap (λ (one : Point). one.op) same;
        mark = ap (λ (one : Point). one.faulty) same
            ∙ ap (λ (one : ClientId). is_faulty trace.setup (party.Client one)) client;
        effect = subst (λ (one : ClientId). DecidesAt trace one point.number (it.act).2 point.event) client
            (subst (λ (one : ℕ). DecidesAt trace (it.act).0 one (it.act).2 point.event) number
            (effect_along trace is.operation (as_operation it.act) point.event it.is is.effect));
      }

  point_found : (point : Point) → IsPointOf trace operations point → IsPoint trace point
  point_found point is =
      elim (adds.sound is.operation is.of_list) [
        | inl among ↦ inr (query_point point is among)
        | inr act ↦ inl (update_point point is act)
      ]

  of_query : (point : Point) → IsQueryPoint trace point → IsPointOf trace operations point
  of_query point is = record {
    operation = is.operation;
    of_list = adds.kept is.operation
        (in_filter is_query (operations_of trace) is.operation is.of_trace (ap asks is.is_query));
    is_point = same_point point (point_at trace.setup is.operation point.event) refl (sym is.client) (sym is.number)
        (sym is.op)
        (is.mark ∙ sym is.correct
        ∙ ap (λ (it : ClientId). is_faulty trace.setup (party.Client it)) (sym is.client));
    effect = subst (λ (it : Op). effect_of trace is.operation point.event it) (sym is.is_query) is.effect;
  }

  of_update : (point : Point) → IsUpdatePoint trace point → IsPointOf trace operations point
  of_update point is =
      let act : NamedAct = (point.client, point.number, is.parts) in
      record {
        operation = as_operation act;
        of_list = adds.complete act
            (subst (λ (all : List NamedAct). Contains all act) (sym acts_are)
            (handled_listed trace point.client point.number is.parts (is.effect).handled));
        is_point = same_point point (point_at trace.setup (as_operation act) point.event) refl refl refl is.op is.mark;
        effect = is.effect;
      }

  -- the points of the queries of a trace and of the acts that replicas handled are its printed order
  pub printed : (points : List Point) → ArePointsOf trace operations points → IsPrintedOrder trace points
  printed points are = record {
    in_order = are.in_order;
    sound = λ point held. point_found point (are.sound point held);
    complete = λ point it. are.complete point
        (elim it [ inl update ↦ of_update point update | inr query ↦ of_query point query ]);
  }
