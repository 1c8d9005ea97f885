-- Where in a list a test holds first.
use Rattle.std.proofs.Common.{◌≡◌, ℕ, ◌<◌, Bool, false, List, length, get_or, None}
use Rattle.std.specs.Prelude.{position}
use Rattle.std.proofs.lemmas.List.{get_or_default}
use Rattle.qu_machine.proofs.Firsts as firsts
use Rattle.qu_machine.proofs.Firsts.{at_contains}

pub position_none : {X : Type 0} (test : X → Bool) (all : List X) → position test all ≡ None
    → (place : ℕ) (default : X) → place < length all → test (get_or all place default) ≡ false
position_none test all none place default below =
    let item = get_or all place default in
    firsts.position_none test all none place item
    (at_contains all item (place, below, get_or_default all place item default below))
