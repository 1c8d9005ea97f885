-- When two answers are the same.
use Rattle.std.specs.Prelude.{ℕ, Bool, false, ◌==◌, ◌&&◌, List}
use Rattle.std.specs.Cmp.Lexicographic.{pointwise}
use Rattle.qu_base.specs.declared.kind.Item.{Item}
use Rattle.qu_base.specs.declared.kind.Item.TheVariants.{Number, Bytes, Entries}
use Rattle.qu_objects.specs.declared.answer.Answer.{Answer}
use Rattle.qu_objects.specs.declared.answer.Answer.TheVariants as answer

abbrev pub are_same_bytes : List ℕ → List ℕ → Bool
are_same_bytes first second = pointwise ◌==◌ first second

abbrev pub same_named : List ℕ × ℕ → List ℕ × ℕ → Bool
same_named first second = are_same_bytes first.0 second.0 && first.1 == second.1

abbrev pub same_item : Item → Item → Bool
same_item (Number first) (Number second) = first == second
same_item (Number first) (Bytes second) = false
same_item (Number first) (Entries second) = false
same_item (Bytes first) (Number second) = false
same_item (Bytes first) (Bytes second) = are_same_bytes first second
same_item (Bytes first) (Entries second) = false
same_item (Entries first) (Number second) = false
same_item (Entries first) (Bytes second) = false
same_item (Entries first) (Entries second) = pointwise same_named first second

abbrev pub same_answer : Answer → Answer → Bool
same_answer (answer.Ok first) (answer.Ok second) = pointwise same_item first second
same_answer (answer.Ok first) (answer.Refused at why) = false
same_answer (answer.Refused at why) (answer.Ok second) = false
same_answer (answer.Refused at why) (answer.Refused other reason) = at == other && why == reason
