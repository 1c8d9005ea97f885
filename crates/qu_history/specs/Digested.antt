-- The digests of the histories of sets, of which the HMACs of the histories are made.
use Rattle.std.specs.Prelude.{List, map}
use Rattle.qu_base.specs.declared.party.Digest.{Digest}
use Rattle.qu_history.specs.declared.sealed.Sealed.{Sealed}
use Rattle.qu_history.specs.declared.sets.SetOf.{SetOf}
use Rattle.qu_history.specs.Culling.{history_digest}

-- of the entries of one object, in their order
abbrev pub entry_digests : List Sealed → List Digest
entry_digests entries = map (λ (sealed : Sealed). history_digest sealed.history) entries

-- of each object
unfoldable pub history_digests : List SetOf → List (List Digest)
history_digests sets = map (λ (set : SetOf). entry_digests set.entries) sets
