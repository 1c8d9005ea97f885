-- Versions that replicas hold fit the format of states.
use Rattle.std.proofs.Common.{◌≡◌, ℕ, ◌+◌, ◌≤◌, true, List, [], ◌∷◌, length, Option, None, Some, refl, sym, ap, arith, ltb-true, ◌∙◌}
use Rattle.std.specs.List.{AllByRecursion}
use Rattle.std.proofs.lemmas.Bool.{lt-ltb}
use Rattle.qu_base.specs.declared.limits.TheConstants.{LAST_CLIENT}
use Rattle.qu_base.specs.declared.party.ClientId.{ClientId}
use Rattle.qu_seal.proofs.Lengths.{length-digest}
use Rattle.qu_base.specs.declared.party.ObjectId.{ObjectId}
use Rattle.qu_objects.specs.Digesting.{act_digest}
use Rattle.qu_objects.specs.declared.act.Method.{Method}
use Rattle.qu_objects.specs.declared.state.KeptRow.{KeptRow}
use Rattle.qu_objects.specs.declared.state.ObjState.{ObjState}
use Rattle.qu_objects.specs.States.{row_form, is_later_client, kept_form, links_form, state_form}
use Rattle.qu_kept.specs.Keyed.{Rising}
use Rattle.qu_kept.specs.Rows.{client_of, AreRising, IsOfClients}
use Rattle.qu_kept.proofs.KeyedLaws.{rising_within}
use Rattle.qu_kept.proofs.RisingForms.{IsAbove, none_before, rising_fits, all_read, rising_read}
use Rattle.qu_fitting.specs.Fits.{RowFits, VersionFits}

-- an act's digest has 32 bytes
pub act_sized : (client : ClientId) (number : ℕ) (parts : List (ObjectId × Method))
    → length (act_digest client number parts).0 ≡ 32
unfolding act_digest
act_sized client number parts = length-digest _ _

-- ---- rows

abbrev client_number : ClientId → ℕ
client_number client = client.0

abbrev row_client : KeptRow → ClientId
row_client row = row.client

later_client : (before : Option ClientId) (row : KeptRow) → IsAbove client_number row_client before row
    → is_later_client before row.client ≡ true
later_client None row above = refl
later_client (Some client) row above = lt-ltb client.0 (row.client).0 (above client refl)

row-fits : (before : Option ClientId) (row : KeptRow) → RowFits row → IsAbove client_number row_client before row
    → (row_form before).Fits row
unfolding row_form
row-fits before row fits above =
    (((fits.low, fits.high), later_client before row above), ((omega arith, fits.number), (fits.act, fits.answer)))

all_clients : (rows : List KeptRow) → AllByRecursion RowFits rows → AllByRecursion (IsOfClients LAST_CLIENT) rows
all_clients [] fits = tt
all_clients (row ∷ later) fits = ((omega (arith, (fits.0).low), (fits.0).high), all_clients later fits.1)

kept-fits : (rows : List KeptRow) → AllByRecursion RowFits rows → AreRising rows → kept_form.Fits rows
unfolding kept_form
kept-fits rows fits rising =
    let few : 0 + length rows ≤ LAST_CLIENT =
    rising_within client_of 0 LAST_CLIENT rows (omega arith) rising (all_clients rows fits) in (
      (omega arith, omega (arith, few)),
      (
        refl,
        rising_fits client_number row_client row_form RowFits row-fits None rows fits rising
            (none_before client_number row_client rows),
      ),
    )

pub no_links : links_form.Fits []
unfolding links_form
no_links = ((omega arith, omega arith), (refl, tt))

-- ---- states

-- where there is no row they rise
pub none_rising : AreRising []
unfolding Rising
none_rising = tt

pub version-spelled : (version : ObjState) → VersionFits version → state_form.Fits version
unfolding state_form
version-spelled version fits = (
  fits.value,
  (kept-fits version.kept fits.kept fits.rising, fits.links),
)

-- ---- versions that were read

row-read : (before : Option ClientId) (row : KeptRow) → (row_form before).Fits row → RowFits row
unfolding row_form
row-read before row fits = record {
  low = fits.0.0.0;
  high = fits.0.0.1;
  number = fits.1.0.1;
  act = fits.1.1.0;
  answer = fits.1.1.1;
}

row-later : (before : Option ClientId) (row : KeptRow) → (row_form before).Fits row
    → IsAbove client_number row_client before row
unfolding row_form
row-later before row fits client is =
    let above : is_later_client before row.client ≡ true = fits.0.1 in
    ltb-true _ _ (sym (ap (λ (it : Option ClientId). is_later_client it row.client) is) ∙ above)

-- a version of this format is one that a replica may hold
pub version-read : (version : ObjState) → state_form.Fits version → VersionFits version
unfolding state_form kept_form
version-read version fits = record {
  value = fits.0;
  kept = all_read client_number row_client row_form RowFits row-read None version.kept fits.1.0.1.1;
  rising = rising_read client_number row_client row_form row-later None version.kept fits.1.0.1.1;
  links = fits.1.1;
}
