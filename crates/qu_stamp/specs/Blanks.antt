-- Where the members of a group lie: at most four pairs, and blanks behind them.
use Rattle.std.specs.Prelude.{ℕ, List, [], ◌∷◌}
use Rattle.std.specs.List.{repeat}
use Rattle.qu_base.specs.declared.party.ObjectId.{ObjectId}

abbrev pub room : ℕ
room = 4

abbrev pub blank : ObjectId × ℕ
blank = (record { 0 = 0 }, 0)

abbrev pub blanks : ℕ → List (ObjectId × ℕ)
blanks many = repeat many (blank ∷ [])
