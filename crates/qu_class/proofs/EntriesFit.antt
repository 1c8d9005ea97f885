-- Entries that fit by rising replicas: from a lower number on they fit too, and so does what is left of them.
use Rattle.std.proofs.Common.{◌≡◌, ◌-◌, ℕ, ◌≤◌, Bool, cond, List, [], ◌∷◌, arith}
use Rattle.std.specs.Prelude.{filter}
use Rattle.std.proofs.lemmas.Bool.{cond_both, le-leb, leb-true}
use Rattle.qu_base.specs.declared.party.ObjectId.{ObjectId}
use Rattle.qu_base.specs.Format.{FitsFrom}
use Rattle.qu_history.specs.declared.sealed.Sealed.{Sealed}
use Rattle.qu_history.specs.Formats.{entry_form, sealed_entry_form, next_entry}

-- the entries of an object, by rising replicas from this number on
abbrev pub EntriesFit : ObjectId → ℕ → List Sealed → Type 0
EntriesFit object least entries = FitsFrom (sealed_entry_form object) next_entry least entries

pub not_below : (object : ObjectId) (least : ℕ) (sealed : Sealed) → (sealed_entry_form object least).Fits sealed
    → least ≤ ((sealed.history).replica).0
unfolding sealed_entry_form entry_form
not_below object least sealed fits = leb-true _ _ (fits.0.1.0.1)

-- an entry fits from a lower number on too
entry_lower : (object : ObjectId) (least lower : ℕ) (sealed : Sealed) → lower ≤ least
    → (sealed_entry_form object least).Fits sealed → (sealed_entry_form object lower).Fits sealed
unfolding sealed_entry_form entry_form
entry_lower object least lower sealed order fits =
    let above : least ≤ ((sealed.history).replica).0 = leb-true _ _ (fits.0.1.0.1) in
    ((fits.0.0, ((fits.0.1.0.0, le-leb lower ((sealed.history).replica).0 (omega arith)), fits.0.1.1)), fits.1)

entries_lower : (object : ObjectId) (least lower : ℕ) (entries : List Sealed) → lower ≤ least
    → EntriesFit object least entries → EntriesFit object lower entries
entries_lower object least lower [] order fits = tt
entries_lower object least lower (sealed ∷ later) order fits =
    (entry_lower object least lower sealed order fits.0, fits.1)

pub entries_left : (test : Sealed → Bool) (object : ObjectId) (least : ℕ) (entries : List Sealed)
    → EntriesFit object least entries → EntriesFit object least (filter test entries)
entries_left test object least [] fits = tt
entries_left test object least (sealed ∷ later) fits =
    let rest : EntriesFit object (next_entry sealed) (filter test later) =
    entries_left test object (next_entry sealed) later fits.1 in
    let order : least ≤ ((sealed.history).replica).0 = not_below object least sealed fits.0 in
    cond_both (test sealed) _ _ (EntriesFit object least) (λ _. (fits.0, rest))
    (λ _. entries_lower object (next_entry sealed) least (filter test later) (omega arith) rest)
