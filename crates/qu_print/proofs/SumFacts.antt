-- A machine keeps its objects, and the sum of its counters object by object.
use Rattle.std.proofs.Common.{◌≡◌, ℕ, ◌+◌, ◌-◌, ◌<◌, suc, Bool, true, false, cond, List, ◌∷◌, length, refl, ap, arith}
use Rattle.std.specs.Prelude.{nat_lt}
use Rattle.std.specs.List.{list_all, sum_by, range_with_len}
use Rattle.std.proofs.lemmas.List.Sums.{sum_by-cons}
use Rattle.qu_base.specs.declared.party.ObjectId.{ObjectId}
use Rattle.qu_objects.specs.declared.act.Method.{Method}
use Rattle.qu_objects.specs.declared.kind.Value.{Value}
use Rattle.qu_objects.specs.declared.op.Op.{Op}
use Rattle.qu_objects.specs.declared.op.Op.TheVariants as op
use Rattle.qu_machine.specs.Machine.{act_values}
use Rattle.qu_machine.proofs.Running.{length-op_values}
use Rattle.qu_print.specs.Summary.{act_behind, values_behind}

either_length : (test : Bool) (one other : List Value) → length one ≡ length other
    → length (cond test one other) ≡ length other
either_length true one other same = same
either_length false one other same = refl

pub length_act : (values : List Value) (act : List (ObjectId × Method)) → length (act_behind values act) ≡ length values
length_act values act =
    either_length (list_all (λ part. nat_lt (part.0).0 (length values)) act) (act_values values act) values
    (length-op_values values (op.Act act))

pub length_behind : (values : List Value) (it : Op) → length (values_behind values it) ≡ length values
length_behind values (op.Act act) = length_act values act
length_behind values (op.Query query) = refl

range_above : (object count : ℕ) → object < count
    → range_with_len object (count - object) ≡ object ∷ range_with_len (object + 1) (count - (object + 1))
range_above object count below =
    let more : count - object ≡ suc (count - (object + 1)) = omega (arith, below) in ap (range_with_len object) more

pub sum_step : (at : ℕ → ℕ) (sum object count : ℕ) → object < count
    → sum + at object + sum_by at (range_with_len (object + 1) (count - (object + 1)))
    ≡ sum + sum_by at (range_with_len object (count - object))
sum_step at sum object count below =
    let first : sum_by at (object ∷ range_with_len (object + 1) (count - (object + 1)))
    ≡ at object + sum_by at (range_with_len (object + 1) (count - (object + 1))) =
    sum_by-cons at object (range_with_len (object + 1) (count - (object + 1))) in
    rw (range_above object count below) (omega (arith, first))
