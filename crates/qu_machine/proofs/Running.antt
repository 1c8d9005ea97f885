-- Steps along an order.
use Rattle.std.proofs.Common.{◌≡◌, ◌≢◌, ℕ, ◌+◌, ◌<◌, true, List, [], ◌∷◌, length, get_or, take, Option, None, Some, refl, sym, ap, subst, ◌∙◌, arith, get_or-take}
use Rattle.std.specs.Prelude.{slice_get}
use Rattle.std.specs.Bool.{Decides}
use Rattle.std.specs.List.{list_any}
use Rattle.std.proofs.Math.ListN.{length-set}
use Rattle.std.proofs.lemmas.Bool.{false≢true, and_parts, and_from, not-true, not_from_false, false_from_ne_true}
use Rattle.std.proofs.lemmas.List.{length-take-le}
use Rattle.std.proofs.lemmas.List.Sums.{fold_more}
use Rattle.std.proofs.lemmas.Option.{slice_get_within, slice_get_read, get_or_from_slice_get}
use Rattle.qu_base.specs.declared.party.ObjectId.{ObjectId}
use Rattle.qu_base.proofs.Items.{any_contained}
use Rattle.qu_objects.specs.declared.answer.Answer.{Answer}
use Rattle.qu_objects.specs.declared.kind.KindName.{KindName}
use Rattle.qu_objects.specs.declared.kind.Value.{Value}
use Rattle.qu_objects.specs.declared.op.Op.{Op}
use Rattle.qu_objects.specs.declared.op.Op.TheVariants as op
use Rattle.qu_objects.specs.declared.op.Outcome.{Outcome}
use Rattle.qu_objects.specs.declared.op.Outcome.TheVariants as outcome
use Rattle.qu_objects.specs.Kind.{fresh_value}
use Rattle.qu_objects.specs.Performing.{performed_values}
use Rattle.std.specs.Prelude.{map}
use Rattle.qu_machine.specs.declared.record.OpRecord.{OpRecord}
use Rattle.qu_machine.specs.declared.record.Point.{Point}
use Rattle.qu_machine.specs.Machine.{with_values, values_at}
use Rattle.qu_machine.specs.Serial.{op_values, values_after, answer_at, Stands}
use Rattle.qu_machine.specs.Fault.{DiffersAt, TwiceAt}
use Rattle.qu_machine.specs.PointTests.{stands, agree, has_other_answer, is_answered_otherwise, differs}
use Rattle.qu_machine.proofs.Equalities.{decides_stands, decides_agree, decides_answer, passes_from_any}
use Rattle.qu_machine.proofs.Firsts.{one_at}

-- ---- values

length-with_values : {X : Type 0} (values : List Value) (parts : List (ObjectId × X)) (made : List Value)
    → length (with_values values parts made) ≡ length values
length-with_values values [] made = refl
length-with_values values (part ∷ parts) [] = refl
length-with_values values (part ∷ parts) (value ∷ made) = length-with_values _ parts made
    ∙ length-set values (part.0).0 value

pub length-op_values : (values : List Value) (it : Op) → length (op_values values it) ≡ length values
length-op_values values (op.Act act) = length-with_values values act (performed_values act (values_at values act))
length-op_values values (op.Query query) = refl

pub values_none : (kinds : List KindName) (order : List Point) → values_after kinds (take 0 order) ≡ map
    fresh_value kinds
unfolding values_after
values_none kinds order = refl

pub values_more : (kinds : List KindName) (order : List Point) (at : ℕ) (default : Point) → at < length order
    → values_after kinds (take (at + 1) order) ≡ op_values (values_after kinds (take at order))
    (get_or order at default).op
unfolding values_after
values_more kinds order at default below =
    fold_more (λ (values : List Value) (point : Point). op_values values point.op) (map fresh_value kinds) order
    at default below

-- ---- another answer

other_answer : (machine : Answer) (reply : Option (ℕ × Outcome)) → has_other_answer machine reply ≡ true
    → (event : ℕ) × (answer : Answer) × (reply ≡ Some (event, outcome.Done answer)) × (machine ≢ answer)
other_answer machine None other = absurd (false≢true other)
other_answer machine (Some (event, outcome.Done answer)) other =
    (event, answer, refl, λ same. false≢true (sym (not-true _ other) ∙ (decides_answer machine answer).1 same))
other_answer machine (Some (event, outcome.GaveUp)) other = absurd (false≢true other)

answer_other : (machine : Answer) (reply : Option (ℕ × Outcome)) (event : ℕ) (answer : Answer)
    → reply ≡ Some (event, outcome.Done answer) → machine ≢ answer → has_other_answer machine reply ≡ true
answer_other machine reply event answer is other =
    ap (has_other_answer machine) is
    ∙ not_from_false _ (false_from_ne_true _ (λ same. other ((decides_answer machine answer).0 same)))

pub decides_differs : (kinds : List KindName) (operations : List OpRecord) (order : List Point) (at : ℕ)
    (point : Point) (machine : Answer) → slice_get order at ≡ Some point
    → machine ≡ answer_at kinds order at point → Decides (differs operations point machine)
    (DiffersAt kinds operations order at)
decides_differs kinds operations order at point machine there is = (
  λ any.
      let one = passes_from_any (λ (operation : OpRecord). is_answered_otherwise operation point machine)
      operations any in
      let both : (stands one.found point ≡ true) × (has_other_answer machine one.found.reply ≡ true) =
      and_parts _ _ one.passes in
      let other = other_answer machine one.found.reply both.1 in
      record {
        point = point;
        operation = one.found;
        of_list = one.of_list;
        stands = record { there = there; stands = (decides_stands one.found point).0 both.0 };
        reply = other.0;
        answer = other.1;
        completes = other.2;
        differs = λ same. other.3 (is ∙ same);
      },
  λ it.
      let same : it.point ≡ point = one_at order at it.point point it.stands.there there in
      any_contained (λ (operation : OpRecord). is_answered_otherwise operation point machine) operations
      it.operation it.of_list
      (and_from _ _ ((decides_stands it.operation point).1 (subst (Stands it.operation) same it.stands.stands))
      (answer_other machine it.operation.reply it.reply it.answer it.completes
      (λ equal. it.differs (subst (λ (second : Point). answer_at kinds order at second ≡ machine) (sym same)
      (sym is) ∙ equal)))),
)

-- ---- twice

pub decides_twice : (order : List Point) (at : ℕ) (point : Point) → slice_get order at ≡ Some point
    → Decides (list_any (λ first. agree first point) (take at order)) (TwiceAt order at)
decides_twice order at point there = (
  λ any.
      let one = passes_from_any (λ (first : Point). agree first point) (take at order) any in
      let below : at < length order = slice_get_within order at point there in
      let size : length (take at order) ≡ at = length-take-le at order (omega arith) in
      let place : one.of_list.0 < length (take at order) = one.of_list.1 in
      let before : one.of_list.0 < at = omega arith in
      record {
        point = point;
        there = there;
        earlier = one.of_list.0;
        before = before;
        first = one.found;
        first_there = slice_get_read order (length order) one.of_list.0 one.found refl (omega arith)
            (sym (one.of_list.2) ∙ get_or-take at order one.of_list.0 one.found before);
        agree = (decides_agree one.found point).0 one.passes;
      },
  λ it.
      let same : it.point ≡ point = one_at order at it.point point it.there there in
      let below : at < length order = slice_get_within order at point there in
      let size : length (take at order) ≡ at = length-take-le at order (omega arith) in
      let before : it.earlier < at = it.before in
      any_contained (λ (first : Point). agree first point) (take at order) it.first (
        it.earlier,
        omega arith,
        get_or-take at order it.earlier it.first before
            ∙ get_or_from_slice_get order it.earlier it.first it.first it.first_there,
      )
      (subst (λ (second : Point). agree it.first second ≡ true) same ((decides_agree it.first it.point).1 it.agree)),
)
