-- What is digested of the sets of a request: the objects with their histories, under the tag 2. The
-- HMACs of the histories are left out.
use Rattle.std.specs.Prelude.{ℕ, List, map}
use Rattle.qu_base.specs.declared.party.Digest.{Digest}
use Rattle.qu_base.specs.declared.party.ObjectId.{ObjectId}
use Rattle.qu_seal.specs.declared.constants.TheConstants.{SETS_TAG}
use Rattle.qu_seal.specs.Digesting.{digest_of}
use Rattle.qu_history.specs.declared.sets.SetOf.{SetOf}
use Rattle.qu_history.specs.History.{ObjectHistory}
use Rattle.qu_history.specs.Sets.{histories}
use Rattle.qu_history.specs.Formats.{sets_text_form}

-- the objects, each with the histories of its entries
abbrev pub unsealed : List SetOf → List (ObjectId × List ObjectHistory)
unsealed sets = map (λ (set : SetOf). (set.object, histories set.entries)) sets

unfoldable pub sets_text : List SetOf → List ℕ
sets_text sets = sets_text_form.spell (unsealed sets)

unfoldable pub sets_digest : List SetOf → Digest
sets_digest sets = record { 0 = digest_of SETS_TAG (sets_text sets) }
