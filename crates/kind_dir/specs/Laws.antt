-- The laws of directories.
use Rattle.std.proofs.Common.{◌≡◌, ℕ, ◌^◌, ◌<◌, ◌≤◌, Bool, true, false, cond, nat_le, not, ◌&&◌, List, [], ◌∷◌, length, Option, None, Some, IsTrue, Ok, refl, leb-true, leb-false, arith}
use Rattle.std.specs.List.{list_any}
use Rattle.std.proofs.lemmas.Bool.{and_parts, and_from}
use Rattle.qu_base.specs.declared.limits.TheConstants.{ENTRIES_LIMIT, NAME_LIMIT}
use Rattle.qu_base.specs.declared.kind.Item.{Item}
use Rattle.qu_base.specs.declared.kind.Applied.{Applied}
use Rattle.qu_base.specs.declared.kind.Applied.TheVariants as made
use Rattle.qu_base.specs.Cursor.{Front}
use Rattle.qu_base.specs.Format.{AreBytes, FitsFrom, IsExact, IsPrefixCode}
use Rattle.qu_base.specs.Texts.{word_form, name_form, is_name_above, named_form, listing_form, after_name}
use Rattle.qu_base.proofs.TextForms.{listing-exact}
use Rattle.qu_base.proofs.PrefixCodes.{prefix_code}
use Rattle.qu_base.proofs.Reading.{given_exactly}
use Rattle.kind_dir.specs.declared.dir.DirUpdate.{DirUpdate}
use Rattle.kind_dir.specs.declared.dir.DirUpdate.TheVariants.{Link, Unlink}
use Rattle.kind_dir.specs.declared.refusals.TheConstants.{EXISTS, MISSING, BAD_NAME, FULL}
use Rattle.kind_dir.specs.Names.{is_good_name, is_barred}
use Rattle.kind_dir.specs.Rising.{are_rising}
use Rattle.kind_dir.specs.Dir.{dir_form, linked_number, with_entry, without_entry, changed, linked_if_new, unlinked_if_there, dir_applied, DirUpdateFits}
use Rattle.kind_dir.specs.Edits.{rising-with, rising-without, length-with, length-without, AllAre, with_are, without_are}

pub dir-exact : IsExact dir_form
unfolding dir_form
dir-exact = listing-exact is_good_name

pub dir-code : IsPrefixCode dir_form
dir-code = prefix_code dir_form dir-exact

-- ---- what has a spelling: few entries, each of which fits, by rising names

abbrev EntryFits : List ℕ × ℕ → Type 0
EntryFits entry = (name_form.Fits entry.0 × IsTrue (is_good_name entry.0)) × word_form.Fits entry.1

record Fitting (before : Option (List ℕ)) (entries : List (List ℕ × ℕ)) : Type 0 where
  each : AllAre EntryFits entries
  rising : IsTrue (are_rising before entries)

fitting : (before : Option (List ℕ)) (entries : List (List ℕ × ℕ))
    → FitsFrom (named_form is_good_name) after_name before entries → Fitting before entries
unfolding named_form
fitting before [] fits = record { each = tt; rising = refl }
fitting before (entry ∷ later) fits =
    let others = fitting (Some entry.0) later fits.1 in
    record { each = ((fits.0.0.0, fits.0.1), others.each); rising = and_from _ _ fits.0.0.1 others.rising }

fits_from : (before : Option (List ℕ)) (entries : List (List ℕ × ℕ)) → AllAre EntryFits entries
    → IsTrue (are_rising before entries) → FitsFrom (named_form is_good_name) after_name before entries
unfolding named_form
fits_from before [] each rising = tt
fits_from before (entry ∷ later) each rising =
    let parts = and_parts (is_name_above before entry.0) (are_rising (Some entry.0) later) rising in
    (((each.0.0, parts.0), each.0.1), fits_from (Some entry.0) later each.1 parts.1)

record DirFits (entries : List (List ℕ × ℕ)) : Type 0 where
  few : length entries ≤ ENTRIES_LIMIT
  fits : Fitting None entries

dir_fits : (entries : List (List ℕ × ℕ)) → dir_form.Fits entries → DirFits entries
unfolding dir_form listing_form
dir_fits entries fits = record { few = fits.0.1; fits = fitting None entries fits.1.1 }

fits_dir : (entries : List (List ℕ × ℕ)) → length entries ≤ ENTRIES_LIMIT → AllAre EntryFits entries
    → IsTrue (are_rising None entries) → dir_form.Fits entries
unfolding dir_form listing_form
fits_dir entries few each rising = ((omega arith, few), (refl, fits_from None entries each rising))

pub read_rising : (old new : Front) (entries : List (List ℕ × ℕ)) → AreBytes old.rest
    → dir_form.read old ≡ Ok (entries, new) → IsTrue (are_rising None entries)
read_rising old new entries are read = (dir_fits entries (dir-exact.found old new entries are read).fits).fits.rising

pub ruleset dir_read = (given_exactly, dir-exact, read_rising)

-- ---- updates

good_fits : (name : List ℕ) → IsTrue (is_good_name name) → name_form.Fits name
unfolding is_good_name name_form
good_fits name good =
    let enough = nat_le 1 (length name) in
    let few = nat_le (length name) NAME_LIMIT in
    let clean = not (list_any is_barred name) in
    let short : few ≡ true =
    (and_parts enough few (and_parts (enough && few) clean (and_parts (enough && few && clean) _ good).0).0).1 in
    ((omega arith, leb-true (length name) NAME_LIMIT short), refl)

pub dir-first : dir_form.Fits []
dir-first = fits_dir [] (omega arith) tt refl

changed_is : (first second : List (List ℕ × ℕ)) (one two : Item) → made.Changed first one ≡ made.Changed second two
    → first ≡ second
changed_is first second one two same = cc

abbrev refused_dir : ℕ → Applied (List (List ℕ × ℕ))
refused_dir why = made.Refused why

no_change : (why : ℕ) (after : List (List ℕ × ℕ)) (item : Item) → refused_dir why ≡ made.Changed after item → ⊥
no_change why after item same = cc

by_room : (name : List ℕ) (number : ℕ) (entries after : List (List ℕ × ℕ)) (item : Item) (test : Bool)
    → nat_le ENTRIES_LIMIT (length entries) ≡ test → EntryFits (name, number) → dir_form.Fits entries
    → linked_number name entries ≡ None
    → cond test (made.Refused FULL) (changed (with_entry name number entries)) ≡ made.Changed after item
    → dir_form.Fits after
by_room name number entries after item true is one fits none same = absurd (no_change FULL after item same)
by_room name number entries after item false is one fits none same =
    let held = dir_fits entries fits in
    rw (← changed_is _ after _ item same)
    (fits_dir (with_entry name number entries)
    (omega (arith, length-with name number entries, leb-false ENTRIES_LIMIT (length entries) is))
    (with_are EntryFits name number entries one held.fits.each)
    (rising-with name number None entries refl held.fits.rising none))

by_new : (name : List ℕ) (number : ℕ) (entries after : List (List ℕ × ℕ)) (item : Item) (there : Option ℕ)
    → linked_number name entries ≡ there → EntryFits (name, number) → dir_form.Fits entries
    → linked_if_new there name number entries ≡ made.Changed after item → dir_form.Fits after
by_new name number entries after item (Some other) is one fits same = absurd (no_change EXISTS after item same)
by_new name number entries after item None is one fits same =
    by_room name number entries after item (nat_le ENTRIES_LIMIT (length entries)) refl one fits is same

by_name : (name : List ℕ) (number : ℕ) (entries after : List (List ℕ × ℕ)) (item : Item) (test : Bool)
    → is_good_name name ≡ test → number < 2 ^ 64 → dir_form.Fits entries
    → cond test (linked_if_new (linked_number name entries) name number entries) (made.Refused BAD_NAME)
    ≡ made.Changed after item → dir_form.Fits after
by_name name number entries after item true good fit fits same =
    by_new name number entries after item (linked_number name entries) refl
    ((good_fits name good, good), (omega arith, omega arith)) fits same
by_name name number entries after item false good fit fits same = absurd (no_change BAD_NAME after item same)

by_there : (name : List ℕ) (entries after : List (List ℕ × ℕ)) (item : Item) (there : Option ℕ)
    → dir_form.Fits entries → unlinked_if_there there name entries ≡ made.Changed after item → dir_form.Fits after
by_there name entries after item None fits same = absurd (no_change MISSING after item same)
by_there name entries after item (Some number) fits same =
    let held = dir_fits entries fits in
    rw (← changed_is _ after _ item same)
    (fits_dir (without_entry name entries) (omega (arith, length-without name entries, held.few))
    (without_are EntryFits name entries held.fits.each) (rising-without name None entries held.fits.rising))

pub dir-changed : (update : DirUpdate) (entries after : List (List ℕ × ℕ)) (item : Item) → DirUpdateFits update
    → dir_form.Fits entries → dir_applied update entries ≡ made.Changed after item → dir_form.Fits after
dir-changed (Link name number) entries after item fit fits same =
    by_name name number entries after item (is_good_name name) refl fit fits same
dir-changed (Unlink name) entries after item fit fits same =
    by_there name entries after item (linked_number name entries) fits same
