-- The numbers by which answers name the refusal of a part.
use Rattle.std.specs.Prelude.{ℕ, Bool, ◌==◌, ◌&&◌, ◌||◌, nat_le}
use Rattle.kind_counter.specs.declared.counter.TheConstants.{OVER}
use Rattle.qu_objects.specs.declared.refusal_number.TheConstants.{LAST_OF_KINDS, WRONG_KIND}

abbrev pub is_kind_refusal : ℕ → Bool
is_kind_refusal why = (nat_le OVER why && nat_le why LAST_OF_KINDS) || (why == WRONG_KIND)
