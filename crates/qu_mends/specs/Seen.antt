-- What the sets of a request show of an object.
use Rattle.std.specs.Prelude.{ℕ, List}
use Rattle.qu_base.specs.declared.party.ObjectId.{ObjectId}
use Rattle.qu_history.specs.declared.sets.SetOf.{SetOf}
use Rattle.qu_history.specs.Sets.{entries_of, latest_of, method_at}
use Rattle.qu_class.specs.Class.{class_in}
use Rattle.qu_mends.specs.declared.seen.Seen.{Seen}

-- each field but the class is a function of the entries that the sets have of the object
abbrev pub seen_in : ℕ → List SetOf → ObjectId → Seen
seen_in bounds sets object = record {
  object = object;
  latest = latest_of (entries_of object sets);
  class = class_in bounds sets object;
  method = method_at bounds (entries_of object sets);
}
