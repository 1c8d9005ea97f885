-- Two sets that fit and have one text have the same objects with the same histories.
use Rattle.std.proofs.Common.{◌≡◌, ℕ, List, [], ◌∷◌, ◌+◌, cond, eqb, length, refl, sym, ap, ◌∙◌, arith}
use Rattle.std.proofs.lemmas.List.{length-map}
use Rattle.qu_base.specs.declared.party.ObjectId.{ObjectId}
use Rattle.qu_base.specs.Format.{FitsFrom}
use Rattle.qu_base.proofs.PrefixCodes.{one_spelling}
use Rattle.qu_history.specs.declared.sealed.Sealed.{Sealed}
use Rattle.qu_history.specs.declared.sets.SetOf.{SetOf}
use Rattle.qu_history.specs.History.{ObjectHistory}
use Rattle.qu_history.specs.Sets.{histories, entries_of}
use Rattle.qu_history.specs.Formats.{entry_form, next_replica, sealed_entry_form, next_entry, entries_form, set_form, sets_form, histories_form, object_text_form, sets_text_form}
use Rattle.qu_history.specs.Text.{unsealed, sets_text}
use Rattle.qu_history.proofs.Forms.{sets_text-exact}

-- entries that fit have histories that fit
histories_fit_from : (object : ObjectId) (least : ℕ) (entries : List Sealed)
    → FitsFrom (sealed_entry_form object) next_entry least entries → FitsFrom (entry_form object) next_replica
    least (histories entries)
unfolding sealed_entry_form
histories_fit_from object least [] fits = tt
histories_fit_from object least (sealed ∷ later) fits =
    ((fits.0).0, histories_fit_from object (next_replica sealed.history) later fits.1)

histories_fit : (object : ObjectId) (entries : List Sealed) → (entries_form object).Fits entries
    → (histories_form object).Fits (histories entries)
unfolding entries_form histories_form
histories_fit object entries fits =
    let same_length : length (histories entries) ≡ length entries =
    length-map entries (λ (sealed : Sealed). sealed.history) in (
      (omega (arith, same_length, (fits.0).0), omega (arith, same_length, (fits.0).1)),
      (refl, histories_fit_from object 0 entries (fits.1).1),
    )

unsealed_fit_from : (least : ℕ) (sets : List SetOf) → FitsFrom set_form (λ (set : SetOf). (set.object).0 + 1)
    least sets → FitsFrom object_text_form (λ set. (set.0).0 + 1) least (unsealed sets)
unfolding set_form object_text_form
unsealed_fit_from least [] fits = tt
unsealed_fit_from least (set ∷ later) fits =
    (((fits.0).0, histories_fit set.object set.entries (fits.0).1), unsealed_fit_from ((set.object).0 + 1) later fits.1)

pub unsealed_fit : (sets : List SetOf) → sets_form.Fits sets → sets_text_form.Fits (unsealed sets)
unfolding sets_form sets_text_form
unsealed_fit sets fits =
    let same_length : length (unsealed sets) ≡ length sets =
    length-map sets (λ (set : SetOf). (set.object, histories set.entries)) in (
      (omega (arith, same_length, (fits.0).0), omega (arith, same_length, (fits.0).1)),
      (refl, unsealed_fit_from 0 sets (fits.1).1),
    )

-- two sets that fit and have one text are one but for their HMACs
pub sets_text-one : (sets others : List SetOf) → sets_form.Fits sets → sets_form.Fits others
    → sets_text sets ≡ sets_text others → unsealed sets ≡ unsealed others
unfolding sets_text
sets_text-one sets others fits fit same =
    one_spelling sets_text_form sets_text-exact (unsealed sets) (unsealed others) (unsealed_fit sets fits)
    (unsealed_fit others fit) same

-- the histories of an object in such a list
histories_of : ObjectId → List (ObjectId × List ObjectHistory) → List ObjectHistory
histories_of object [] = []
histories_of object (set ∷ later) = cond (eqb (set.0).0 object.0) set.1 (histories_of object later)

entries_of-unsealed : (object : ObjectId) (sets : List SetOf) → entries_of object sets ≡ histories_of object
    (unsealed sets)
unfolding entries_of histories_of
entries_of-unsealed object [] = refl
entries_of-unsealed object (set ∷ later) =
    ap (λ entries. cond (eqb (set.object).0 object.0) (histories set.entries) entries)
    (entries_of-unsealed object later)

-- and so each object has the same histories in them
pub entries_of-one : (sets others : List SetOf) → sets_form.Fits sets → sets_form.Fits others
    → sets_text sets ≡ sets_text others → (object : ObjectId) → entries_of object sets ≡ entries_of object others
entries_of-one sets others fits fit same object =
    entries_of-unsealed object sets ∙ ap (histories_of object) (sets_text-one sets others fits fit same)
    ∙ sym (entries_of-unsealed object others)
