-- The line that sums up a run: how its operations ended, how many points are told, and the counters behind them.
use Rattle.std.specs.Prelude.{ℕ, nat_lt, List, [], ◌∷◌, ◌++◌, length, map, fold, codes, if◌then◌else◌}
use Rattle.std.specs.List.{list_all, sum_by, range_with_len}
use Rattle.std.specs.Fmt.{decimal}
use Rattle.qu_base.specs.declared.kind.Item.{Item}
use Rattle.qu_base.specs.declared.kind.Item.TheVariants.{Number, Bytes, Entries}
use Rattle.qu_base.specs.declared.party.ObjectId.{ObjectId}
use Rattle.qu_objects.specs.declared.act.Method.{Method}
use Rattle.qu_objects.specs.declared.answer.Answer.{Answer}
use Rattle.qu_objects.specs.declared.answer.Answer.TheVariants as answer
use Rattle.qu_objects.specs.declared.kind.KindName.{KindName}
use Rattle.qu_objects.specs.declared.kind.Value.{Value}
use Rattle.qu_objects.specs.declared.op.Op.{Op}
use Rattle.qu_objects.specs.declared.op.Op.TheVariants as op
use Rattle.qu_objects.specs.declared.query.Ask.TheVariants.{Read}
use Rattle.qu_objects.specs.Kind.{fresh_value}
use Rattle.qu_machine.specs.declared.record.Point.{Point}
use Rattle.qu_machine.specs.Machine.{act_values, query_answer}
use Rattle.qu_trace.specs.declared.premises.Premises.{Premises}
use Rattle.qu_trace.specs.declared.premises.Premises.TheVariants.{Hold, Forged, Collide}
use Rattle.qu_trace.specs.declared.trace.Trace.{Trace}
use Rattle.qu_trace.specs.Operation.{operations_of}
use Rattle.qu_print.specs.Ends.{counts_text}
use Rattle.qu_print.specs.Report.{told_order}

-- ---- the counters of the machine

-- what is behind an act; one on objects that are not there is passed over
abbrev pub act_behind : List Value → List (ObjectId × Method) → List Value
act_behind values act =
    if list_all (λ part. nat_lt (part.0).0 (length values)) act then act_values values act else values

-- and behind an operation; a query changes nothing
abbrev pub values_behind : List Value → Op → List Value
values_behind values (op.Act act) = act_behind values act
values_behind values (op.Query query) = values

-- the values of the machine that ran the points, one after another
unfoldable pub values_behind_all : List KindName → List Point → List Value
values_behind_all kinds order = fold (λ values point. values_behind values point.op) (map fresh_value kinds) order

abbrev pub number_in : List Item → ℕ
number_in [] = 0
number_in (Number number ∷ items) = number
number_in (Bytes content ∷ items) = 0
number_in (Entries entries ∷ items) = 0

abbrev pub told_number : Answer → ℕ
told_number (answer.Ok items) = number_in items
told_number (answer.Refused at why) = 0

-- what a read of the object tells, which only a counter does
unfoldable pub counter_at : List Value → ℕ → ℕ
counter_at values object = told_number (query_answer values ((record { 0 = object }, Read) ∷ []))

unfoldable pub counters_sum : List KindName → List Point → ℕ
counters_sum kinds order = sum_by (counter_at (values_behind_all kinds order)) (range_with_len 0 (length kinds))

-- ---- the line

abbrev pub premises_word : Premises → List ℕ
premises_word Hold = codes "hold"
premises_word (Forged event) = codes "forged"
premises_word (Collide first second) = codes "collide"

-- of the points that are told: how many there are, and the sum of the counters behind them
unfoldable pub points_text : List KindName → List Point → List ℕ
points_text kinds told = codes " points " ++ decimal (length told) ++ codes " sum " ++ decimal (counters_sum kinds told)

unfoldable pub summary_of : ℕ → Trace → Premises → List Point → List ℕ
summary_of number trace premises order =
    codes "gen " ++ decimal number ++ codes " " ++ counts_text (operations_of trace)
    ++ points_text trace.setup.kinds (told_order premises order)
    ++ codes " premises " ++ premises_word premises ++ 10 ∷ []
