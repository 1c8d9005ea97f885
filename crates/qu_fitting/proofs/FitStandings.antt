-- What an act's standing tells can be told.
use Rattle.std.proofs.Common.{◌≡◌, ℕ, ◌-◌, ◌^◌, ◌≤◌, ◌==◌, Bool, cond, List, [], ◌∷◌, Option, None, Some, inl, inr, refl, sym, ap, subst, ◌∙◌}
use Rattle.std.specs.Prelude.{nat_le}
use Rattle.std.specs.List.{AllByRecursion}
use Rattle.std.proofs.lemmas.Bool.{cases_Bool, cond_both}
use Rattle.std.proofs.lemmas.Option.{none-some, same_Some}
use Rattle.qu_base.specs.declared.party.ClientId.{ClientId}
use Rattle.qu_base.specs.declared.party.Digest.{Digest}
use Rattle.qu_base.specs.declared.party.ObjectId.{ObjectId}
use Rattle.qu_objects.specs.declared.act.Method.{Method}
use Rattle.qu_objects.specs.declared.state.KeptRow.{KeptRow}
use Rattle.qu_objects.specs.declared.state.ObjState.{ObjState}
use Rattle.qu_objects.specs.Formats.{answer_form}
use Rattle.qu_kept.specs.declared.repeats.Standing.{Standing}
use Rattle.qu_kept.specs.declared.repeats.Standing.TheVariants.{Fresh, Already, Spent}
use Rattle.qu_kept.specs.Rows.{client_of, row_of}
use Rattle.qu_kept.specs.Standing.{is_repeated, told_again, told_by_first, spent_or, first_spent, standing_of}
use Rattle.qu_kept.proofs.EachObject.{objects_named}
use Rattle.qu_rows.specs.Rows.{Asked, standing_in}
use Rattle.qu_fitting.specs.Fits.{RowFits, VersionFits}
use Rattle.qu_kept.proofs.RisingObjects.{IsNumbered}

abbrev pub StandingFits : Standing → Type 0
StandingFits Fresh = Unit {0}
StandingFits (Already answer) = answer_form.Fits answer
StandingFits (Spent on number) = IsNumbered on × (number ≤ 2 ^ 64 - 1)

row_found : (client : ClientId) (rows : List KeptRow) → AllByRecursion RowFits rows → (row : KeptRow)
    → row_of client rows ≡ Some row → RowFits row
row_found client [] all row found = absurd (none-some row found)
row_found client (first ∷ later) all row found =
    elim (cases_Bool (client_of first == client.0)) [
      | inl is ↦
          subst RowFits
          (same_Some first row
          (sym (ap (λ (test : Bool). cond test (Some first) (row_of client later)) is) ∙ found)) all.0
      | inr not ↦
          row_found client later all.1 row
          (sym (ap (λ (test : Bool). cond test (Some first) (row_of client later)) not) ∙ found)
    ]

again-fits : (found : Option KeptRow) → ((row : KeptRow) → found ≡ Some row → RowFits row)
    → StandingFits (told_again found)
again-fits None kept = tt
again-fits (Some row) kept = (kept row refl).answer

spent-fits : (number : ℕ) (object : ObjectId) (later : Standing) (found : Option KeptRow) → IsNumbered object
    → StandingFits later → ((row : KeptRow) → found ≡ Some row → RowFits row)
    → StandingFits (spent_or number object later found)
spent-fits number object later None numbered fits kept = fits
spent-fits number object later (Some row) numbered fits kept =
    cond_both (nat_le number row.number) _ _ StandingFits (λ _. (numbered, (kept row refl).number)) (λ _. fits)

first_spent-fits : (client : ClientId) (number : ℕ) (parts : List (ObjectId × Method)) (versions : List ObjState)
    → AllByRecursion IsNumbered (objects_named parts) → AllByRecursion VersionFits versions
    → StandingFits (first_spent client number parts versions)
first_spent-fits client number [] versions numbered fits = tt
first_spent-fits client number (part ∷ parts) [] numbered fits = tt
first_spent-fits client number (part ∷ parts) (version ∷ versions) numbered fits =
    spent-fits number part.0 (first_spent client number parts versions) (row_of client version.kept) numbered.0
    (first_spent-fits client number parts versions numbered.1 fits.1)
    (row_found client version.kept (fits.0).kept)

first_told-fits : (client : ClientId) (versions : List ObjState) → AllByRecursion VersionFits versions
    → StandingFits (told_by_first client versions)
first_told-fits client [] fits = tt
first_told-fits client (version ∷ later) fits =
    again-fits (row_of client version.kept) (row_found client version.kept (fits.0).kept)

pub standing_in-fits : (asked : Asked) (parts : List (ObjectId × Method)) (versions : List ObjState)
    → AllByRecursion IsNumbered (objects_named parts) → AllByRecursion VersionFits versions
    → StandingFits (standing_in asked parts versions)
standing_in-fits asked parts versions numbered fits = by asked.act
  where
    by : (found : Option Digest) → StandingFits (elim found [
      | None ↦ Fresh
      | Some act ↦ standing_of asked.client asked.number act parts versions
    ])
    by None = tt
    by (Some act) =
        cond_both (is_repeated asked.client asked.number act versions) _ _ StandingFits
        (λ _. first_told-fits asked.client versions fits)
        (λ _. first_spent-fits asked.client asked.number parts versions numbered fits)
