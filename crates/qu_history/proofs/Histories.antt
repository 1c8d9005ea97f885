-- The histories of entries, one by one.
use Rattle.std.proofs.Common.{◌≡◌, ◌<◌, ◌≤◌, ℕ, List, length, get_or, sym, ap, ◌∙◌, arith}
use Rattle.std.proofs.lemmas.List.{length-map, get_or-map}
use Rattle.qu_history.specs.declared.sealed.Sealed.{Sealed}
use Rattle.qu_history.specs.History.{ObjectHistory}
use Rattle.qu_history.specs.Sets.{histories}

abbrev history_of : Sealed → ObjectHistory
history_of sealed = sealed.history

pub histories_within : (entries : List Sealed) (index : ℕ) → index < length entries → index < length (histories entries)
histories_within entries index within = let same_length = length-map entries history_of in omega (arith, same_length)

pub histories_whole : (entries : List Sealed) (index : ℕ) → length entries ≤ index → length (histories entries) ≤ index
histories_whole entries index whole = let same_length = length-map entries history_of in omega (arith, same_length)

pub history_at : (entries : List Sealed) (index : ℕ) (entry : Sealed) → index < length entries
    → entry ≡ get_or entries index entry → entry.history ≡ get_or (histories entries) index entry.history
history_at entries index entry within here =
    ap history_of here ∙ sym (get_or-map history_of entries index entry entry.history within)
