-- Questions that carry no more than they may fit.
use Rattle.std.proofs.Common.{List, [], ◌∷◌}
use Rattle.std.specs.Prelude.{IsTrue}
use Rattle.std.proofs.lemmas.Bool.{and_parts, leb-true}
use Rattle.qu_base.specs.declared.party.ObjectId.{ObjectId}
use Rattle.qu_objects.specs.declared.query.Ask.{Ask}
use Rattle.qu_objects.specs.declared.query.Ask.TheVariants.{Read, Cat, Find, All}
use Rattle.qu_objects.specs.Digesting.{AskFits, AsksFit}
use Rattle.qu_objects.specs.Parts.{is_sized_ask, are_sized}

ask_fits : (ask : Ask) → IsTrue (is_sized_ask ask) → AskFits ask
ask_fits Read is = tt
ask_fits Cat is = tt
ask_fits (Find name) is = leb-true _ _ is
ask_fits All is = tt

pub asks_fit : (parts : List (ObjectId × Ask)) → IsTrue (are_sized is_sized_ask parts) → AsksFit parts
asks_fit [] sized = tt
asks_fit (part ∷ later) sized =
    let both = and_parts (is_sized_ask part.1) (are_sized is_sized_ask later) sized in
    (ask_fits part.1 both.0, asks_fit later both.1)
