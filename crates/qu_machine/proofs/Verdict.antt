-- An order without faults is serial, and a serial order has none.
use Rattle.std.proofs.Common.{◌≡◌, ℕ, ◌<◌, Bool, true, false, not, cond, ◌||◌, List, Option, None, Some, refl, sym, ap, subst, ◌∙◌, arith, inl, inr}
use Rattle.std.specs.Prelude.{slice_get, Contains}
use Rattle.std.specs.Bool.{Decides}
use Rattle.std.proofs.lemmas.Bool.{false≢true, cases_Bool, cases_order, and_parts, and_from, not-true, not_from_false, false_from_ne_true, or_cases, or_left, or_right}
use Rattle.std.proofs.lemmas.Bool.Decides.{Decides-ltb}
use Rattle.qu_base.proofs.Items.{contains_at, any_contained}
use Rattle.qu_objects.specs.declared.answer.Answer.{Answer}
use Rattle.qu_objects.specs.declared.kind.KindName.{KindName}
use Rattle.qu_objects.specs.declared.op.Op.{Op}
use Rattle.qu_objects.specs.declared.op.Op.TheVariants as op
use Rattle.qu_objects.specs.declared.op.Outcome.{Outcome}
use Rattle.qu_objects.specs.declared.op.Outcome.TheVariants as outcome
use Rattle.qu_machine.specs.declared.fault.JudgeFault.{JudgeFault}
use Rattle.qu_machine.specs.declared.fault.JudgeFault.TheVariants as fault
use Rattle.qu_machine.specs.declared.record.OpRecord.{OpRecord}
use Rattle.qu_machine.specs.declared.record.Point.{Point}
use Rattle.qu_machine.specs.Serial.{IsRising, answer_at, Stands, StandsAt, Completes, StandsOnce, IsOfOperations, IsUpdate, Agree, IsSerial}
use Rattle.qu_machine.specs.Fault.{DiffersAt, IsBeforeReply, IsBetween, IsBeyond, IsOutside, OutsideAt, TwiceAt, AbsentAt, Nowhere, IsFault}
use Rattle.qu_machine.specs.PointTests.{stands, is_update, is_completed, is_before_reply, is_between, is_misplaced, is_of_operations, is_beyond, is_outside, is_placed, is_absent}
use Rattle.qu_machine.proofs.Equalities.{decides_stands, decides_answer, decides_known, passes_from_any}
use Rattle.qu_machine.proofs.Firsts.{at_contains, one_at, DecidesAt}

-- ---- what a test decides

not_by : (b : Bool) (P : Type 0) → Decides b P → not b ≡ true → ¬ P
not_by b P decides test is = false≢true (sym (not-true b test) ∙ decides.1 is)

by_not : (b : Bool) (P : Type 0) → Decides b P → ¬ P → not b ≡ true
by_not b P decides none = not_from_false b (false_from_ne_true b (λ test. none (decides.0 test)))

-- what is decided and cannot be false is true
stable : (b : Bool) (P : Type 0) → Decides b P → ¬ (¬ P) → P
stable true P decides never = decides.0 refl
stable false P decides never = absurd (never (λ is. false≢true (decides.1 is)))

-- ---- an operation that is between its invocation and its reply

decides_update : (it : Op) → Decides (is_update it) (IsUpdate it)
decides_update (op.Act act) = (λ test. tt, λ is. refl)
decides_update (op.Query query) = (λ test. absurd (false≢true test), λ is. absurd is)

decides_before : (event : ℕ) (reply : Option (ℕ × Outcome)) → Decides (is_before_reply event reply)
    (IsBeforeReply event reply)
decides_before event None = (λ test. tt, λ is. refl)
decides_before event (Some (reply, outcome.Done answer)) = Decides-ltb event reply
decides_before event (Some (reply, outcome.GaveUp)) = (λ test. tt, λ is. refl)

decides_between : (operation : OpRecord) (event : ℕ) → Decides (is_between operation event) (IsBetween operation event)
decides_between operation event = (
  λ test.
      let both = and_parts _ _ test in
      ((Decides-ltb operation.invoked event).0 both.0, (decides_before event operation.reply).0 both.1),
  λ is. and_from _ _ ((Decides-ltb operation.invoked event).1 is.0) ((decides_before event operation.reply).1 is.1),
)

decides_beyond : (operations : List OpRecord) (point : Point) → Decides (is_beyond operations point)
    (IsBeyond operations point)
decides_beyond operations point = (
  λ any.
      let one = passes_from_any (λ (operation : OpRecord). is_misplaced operation point) operations any in
      let both : (stands one.found point ≡ true) × (not (is_between one.found point.event) ≡ true) =
      and_parts _ _ one.passes in
      record {
        operation = one.found;
        of_list = one.of_list;
        stands = (decides_stands one.found point).0 both.0;
        beyond = not_by _ _ (decides_between one.found point.event) both.1;
      },
  λ it. any_contained (λ (operation : OpRecord). is_misplaced operation point) operations it.operation it.of_list
      (and_from _ _ ((decides_stands it.operation point).1 it.stands)
      (by_not _ _ (decides_between it.operation point.event) it.beyond)),
)

decides_outside : (operations : List OpRecord) (point : Point) → Decides (is_outside operations point)
    (IsOutside operations point)
decides_outside operations point =
    elim (cases_Bool point.faulty) [
      | inl faulty ↦ (
        λ test. inl (faulty, not_by _ _ (decides_update point.op) (sym (choice faulty) ∙ test)),
        λ is. elim is [
          | inl query ↦ choice faulty ∙ by_not _ _ (decides_update point.op) query.1
          | inr others ↦ elim others [
            | inl unknown ↦ absurd (false≢true (sym unknown.0 ∙ faulty))
            | inr beyond ↦ absurd (false≢true (sym beyond.stands.correct ∙ faulty))
          ]
        ],
      )
      | inr correct ↦ (
        λ test. elim (or_cases _ _ (sym (choice correct) ∙ test)) [
          | inl unknown ↦ inr (inl (correct, not_by _ _ (decides_known operations point) unknown))
          | inr beyond ↦ inr (inr ((decides_beyond operations point).0 beyond))
        ],
        λ is. elim is [
          | inl query ↦ absurd (false≢true (sym correct ∙ query.0))
          | inr others ↦ elim others [
            | inl unknown ↦ choice correct ∙ or_left _ _ (by_not _ _ (decides_known operations point) unknown.1)
            | inr beyond ↦ choice correct ∙ or_right _ _ ((decides_beyond operations point).1 beyond)
          ]
        ],
      )
    ]
  where
    choice : {b : Bool} → point.faulty ≡ b → is_outside operations point ≡ cond b (not (is_update point.op))
        (not (is_of_operations operations point) || is_beyond operations point)
    choice is = ap
        (λ (it : Bool). cond it (not (is_update point.op))
        (not (is_of_operations operations point) || is_beyond operations point)) is

pub outside_at : (operations : List OpRecord) (order : List Point) → DecidesAt (is_outside operations)
    (OutsideAt operations order) order
outside_at operations order = record {
  decides = λ at point there. (
    λ test. record { point = point; there = there; outside = (decides_outside operations point).0 test },
    λ it. (decides_outside operations point).1
        (subst (IsOutside operations) (one_at order at it.point point it.there there) it.outside),
  );
  within = λ at it. (it.point, it.there);
}

-- ---- an operation that stands nowhere

is_completed_done : (reply : Option (ℕ × Outcome)) → is_completed reply ≡ true → (event : ℕ) × (answer : Answer)
    × (reply ≡ Some (event, outcome.Done answer))
is_completed_done None test = absurd (false≢true test)
is_completed_done (Some (event, outcome.Done answer)) test = (event, answer, refl)
is_completed_done (Some (event, outcome.GaveUp)) test = absurd (false≢true test)

-- the operation stands somewhere
record IsPlaced (operation : OpRecord) (order : List Point) : Type 0 where
  at : ℕ
  point : Point
  stands : StandsAt operation order at point

decides_placed : (operation : OpRecord) (order : List Point) → Decides (is_placed order operation)
    (IsPlaced operation order)
decides_placed operation order = (
  λ any.
      let one = passes_from_any (λ (point : Point). stands operation point) order any in
      record {
        at = one.of_list.0;
        point = one.found;
        stands = record {
          there = at_contains order one.found one.of_list;
          stands = (decides_stands operation one.found).0 one.passes;
        };
      },
  λ it. any_contained (λ (point : Point). stands operation point) order it.point
      (contains_at order it.at it.point it.stands.there)
      ((decides_stands operation it.point).1 it.stands.stands),
)

pub absent_at : (operations : List OpRecord) (order : List Point) → DecidesAt (is_absent order)
    (AbsentAt operations order) operations
absent_at operations order = record {
  decides = λ place operation there. (
    λ test.
        let both : (is_completed operation.reply ≡ true) × (not (is_placed order operation) ≡ true) =
        and_parts _ _ test in
        let done = is_completed_done operation.reply both.0 in
        record {
          operation = operation;
          there = there;
          reply = done.0;
          answer = done.1;
          completes = done.2;
          nowhere = λ at point is. not_by _ _ (decides_placed operation order) both.1
              (record { at = at; point = point; stands = is });
        },
    λ it. subst (λ (it : OpRecord). is_absent order it ≡ true)
        (one_at operations place it.operation operation it.there there)
        (and_from _ _ (ap is_completed it.completes)
        (by_not _ _ (decides_placed it.operation order) (λ is. it.nowhere is.at is.point is.stands))),
  );
  within = λ place it. (it.operation, it.there);
}

-- ---- no fault: serial

agree_back : (first second : Point) → Agree first second → Agree second first
agree_back first second it =
    record { faulty = sym it.faulty; client = sym it.client; number = sym it.number; op = sym it.op }

agree_of_one : (operation : OpRecord) (first second : Point) → Stands operation first → Stands operation second
    → Agree first second
agree_of_one operation first second one two = record {
  faulty = one.correct ∙ sym two.correct;
  client = sym one.client ∙ two.client;
  number = sym one.number ∙ two.number;
  op = sym one.op ∙ two.op;
}

-- points that agree stand at one place
one_place : (order : List Point) → Nowhere (TwiceAt order) → (at other : ℕ) (first second : Point)
    → slice_get order at ≡ Some first → slice_get order other ≡ Some second → Agree first second → other ≡ at
one_place order never at other first second there second_there agree =
    elim (cases_order other at) [
      | inl same ↦ same
      | inr apart ↦ elim apart [
        | inl before ↦ absurd
            (never at (record {
              point = first;
              there = there;
              earlier = other;
              before = before;
              first = second;
              first_there = second_there;
              agree = agree_back first second agree;
            }))
        | inr after ↦ absurd
            (never other (record {
              point = second;
              there = second_there;
              earlier = at;
              before = after;
              first = first;
              first_there = there;
              agree = agree;
            }))
      ]
    ]

between_of : (operations : List OpRecord) (order : List Point) → Nowhere (OutsideAt operations order)
    → (operation : OpRecord) → Contains operations operation → (at : ℕ) (point : Point)
    → StandsAt operation order at point → IsBetween operation point.event
between_of operations order never operation of_list at point is =
    stable _ _ (decides_between operation point.event) (λ beyond. never at (record {
      point = point;
      there = is.there;
      outside = inr (inr (record { operation = operation; of_list = of_list; stands = is.stands; beyond = beyond }));
    }))

placed_of : (operations : List OpRecord) (order : List Point) → Nowhere (AbsentAt operations order)
    → (operation : OpRecord) (reply : ℕ) (answer : Answer) → Contains operations operation
    → Completes operation reply answer → IsPlaced operation order
placed_of operations order never operation reply answer of_list completes =
    stable _ _ (decides_placed operation order) (λ missing. never of_list.0 (record {
      operation = operation;
      there = at_contains operations operation of_list;
      reply = reply;
      answer = answer;
      completes = completes;
      nowhere = λ at point is. missing (record { at = at; point = point; stands = is });
    }))

pub serial_from : (kinds : List KindName) (operations : List OpRecord) (order : List Point) → IsRising order
    → Nowhere (DiffersAt kinds operations order) → Nowhere (OutsideAt operations order) → Nowhere (TwiceAt order)
    → Nowhere (AbsentAt operations order) → IsSerial kinds operations order
serial_from kinds operations order rising same inside once present = record {
  rising = rising;
  completed = λ operation reply answer of_list completes.
      let placed : IsPlaced operation order =
      placed_of operations order present operation reply answer of_list completes in
      let between : IsBetween operation placed.point.event =
      between_of operations order inside operation of_list placed.at placed.point placed.stands in
      let before : IsBeforeReply placed.point.event (Some (reply, outcome.Done answer)) =
      subst (IsBeforeReply placed.point.event) completes between.1 in
      record {
        at = placed.at;
        point = placed.point;
        stands = placed.stands;
        alone = λ other second is. one_place order once placed.at other placed.point second placed.stands.there
            is.there (agree_of_one operation placed.point second placed.stands.stands is.stands);
        after = between.0;
        before = before;
      };
  once = λ operation of_list. record {
    alone = λ at other first second one two. one_place order once at other first second one.there two.there
        (agree_of_one operation first second one.stands two.stands);
    after = λ at point is. (between_of operations order inside operation of_list at point is).0;
  };
  known = λ at point there correct. stable _ _ (decides_known operations point)
      (λ unknown. inside at (record { point = point; there = there; outside = inr (inl (correct, unknown)) }));
  faulty = λ at point there faulty. record {
    update = stable _ _ (decides_update point.op)
        (λ query. inside at (record { point = point; there = there; outside = inl (faulty, query) }));
    alone = λ other second second_there agree. one_place order once at other point second there second_there agree;
  };
  answers = λ operation reply answer of_list completes at point is. stable _ _
      (decides_answer (answer_at kinds order at point) answer)
      (λ other. same at (record {
        point = point;
        operation = operation;
        of_list = of_list;
        stands = is;
        reply = reply;
        answer = answer;
        completes = completes;
        differs = other;
      }));
}

-- ---- serial: no fault

before_reply_of : (kinds : List KindName) (operations : List OpRecord) (order : List Point)
    → IsSerial kinds operations order → (operation : OpRecord) → Contains operations operation
    → (at : ℕ) (point : Point) → StandsAt operation order at point → (reply : Option (ℕ × Outcome))
    → operation.reply ≡ reply → IsBeforeReply point.event reply
before_reply_of kinds operations order serial operation of_list at point is None without = tt
before_reply_of kinds operations order serial operation of_list at point is (Some (reply, outcome.Done answer))
    completes =
    let once : StandsOnce operation reply order = serial.completed operation reply answer of_list completes in
    let place : at ≡ once.at = once.alone at point is in
    let same : once.point ≡ point =
    one_at order once.at once.point point once.stands.there
    (subst (λ (it : ℕ). slice_get order it ≡ Some point) place is.there) in
    subst (λ (it : Point). it.event < reply) same once.before
before_reply_of kinds operations order serial operation of_list at point is (Some (reply, outcome.GaveUp)) gave_up = tt

never_outside : (kinds : List KindName) (operations : List OpRecord) (order : List Point)
    → IsSerial kinds operations order → Nowhere (OutsideAt operations order)
never_outside kinds operations order serial at it =
    elim it.outside [
      | inl query ↦ query.1 (serial.faulty at it.point it.there query.0).update
      | inr others ↦ elim others [
        | inl unknown ↦ unknown.1 (serial.known at it.point it.there unknown.0)
        | inr beyond ↦
            let is : StandsAt beyond.operation order at it.point =
            record { there = it.there; stands = beyond.stands } in
            beyond.beyond (
              (serial.once beyond.operation beyond.of_list).after at it.point is,
              before_reply_of kinds operations order serial beyond.operation beyond.of_list at it.point is
                  beyond.operation.reply refl,
            )
      ]
    ]

never_twice : (kinds : List KindName) (operations : List OpRecord) (order : List Point)
    → IsSerial kinds operations order → Nowhere (TwiceAt order)
never_twice kinds operations order serial at it =
    let before : it.earlier < at = it.before in
    elim (cases_Bool it.point.faulty) [
      | inl faulty ↦
          let same : at ≡ it.earlier =
          (serial.faulty it.earlier it.first it.first_there (it.agree.faulty ∙ faulty)).alone at it.point
          it.there it.agree in
          absurd (omega arith)
      | inr correct ↦
          let known : IsOfOperations operations it.point = serial.known at it.point it.there correct in
          let first : Stands known.operation it.first = record {
            correct = it.agree.faulty ∙ correct;
            client = known.stands.client ∙ sym it.agree.client;
            number = known.stands.number ∙ sym it.agree.number;
            op = known.stands.op ∙ sym it.agree.op;
          } in
          let same : it.earlier ≡ at = (serial.once known.operation known.of_list).alone at it.earlier it.point it.first
          (record { there = it.there; stands = known.stands }) (record { there = it.first_there; stands = first }) in
          absurd (omega arith)
    ]

never_absent : (kinds : List KindName) (operations : List OpRecord) (order : List Point)
    → IsSerial kinds operations order → Nowhere (AbsentAt operations order)
never_absent kinds operations order serial place it =
    let once : StandsOnce it.operation it.reply order =
    serial.completed it.operation it.reply it.answer (contains_at operations place it.operation it.there)
    it.completes in
    it.nowhere once.at once.point once.stands

-- a serial order is refused for want of memory alone
pub no_fault : (kinds : List KindName) (operations : List OpRecord) (order : List Point) (refusal : JudgeFault)
    → IsSerial kinds operations order → IsFault kinds operations order refusal → refusal ≡ fault.NoMemory
no_fault kinds operations order (fault.Differs at) serial is =
    let it : DiffersAt kinds operations order at = is.0 in
    absurd (it.differs (serial.answers it.operation it.reply it.answer it.of_list it.completes at it.point it.stands))
no_fault kinds operations order (fault.Outside at) serial is =
    absurd (never_outside kinds operations order serial at is.1.0)
no_fault kinds operations order (fault.Twice at) serial is =
    absurd (never_twice kinds operations order serial at is.2.0)
no_fault kinds operations order (fault.Absent place) serial is =
    absurd (never_absent kinds operations order serial place is.3.0)
no_fault kinds operations order fault.NoMemory serial is = refl
