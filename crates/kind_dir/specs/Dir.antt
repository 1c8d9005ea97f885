-- Directories: at most 256 names, by rising bytes, each with a number; first none. An update answers how many
-- entries there are after it, a query the number of a name, or all entries.
use Rattle.std.specs.Prelude.{ℕ, ◌^◌, ◌<◌, Bool, not, ◌&&◌, nat_le, List, [], ◌∷◌, length, Option, None, Some, if◌then◌else◌}
use Rattle.qu_base.specs.declared.limits.TheConstants.{ENTRIES_LIMIT}
use Rattle.qu_base.specs.declared.kind.Item.TheVariants.{Number, Entries}
use Rattle.qu_base.specs.declared.kind.Applied.{Applied}
use Rattle.qu_base.specs.declared.kind.Applied.TheVariants as made
use Rattle.qu_base.specs.declared.kind.Told.{Told}
use Rattle.qu_base.specs.declared.kind.Told.TheVariants as tells
use Rattle.qu_base.specs.Format.{Format}
use Rattle.qu_base.specs.Texts.{is_name_before, listing_form}
use Rattle.kind_dir.specs.declared.dir.DirUpdate.{DirUpdate}
use Rattle.kind_dir.specs.declared.dir.DirUpdate.TheVariants.{Link, Unlink}
use Rattle.kind_dir.specs.declared.dir.DirQuery.{DirQuery}
use Rattle.kind_dir.specs.declared.dir.DirQuery.TheVariants.{Find, All}
use Rattle.kind_dir.specs.declared.refusals.TheConstants.{EXISTS, MISSING, BAD_NAME, FULL}
use Rattle.kind_dir.specs.Names.{is_good_name}

-- a name and its number, by rising names
unfoldable pub dir_form : Format (List (List ℕ × ℕ))
dir_form = listing_form is_good_name

-- neither name is before the other
abbrev pub is_name : List ℕ → List ℕ → Bool
is_name first second = not (is_name_before first second) && not (is_name_before second first)

-- the number of a name, if it is there
abbrev pub linked_number : List ℕ → List (List ℕ × ℕ) → Option ℕ
linked_number name [] = None
linked_number name (entry ∷ later) = if is_name name entry.0 then Some entry.1 else linked_number name later

-- an entry more, before the first one whose name is above
abbrev pub with_entry : List ℕ → ℕ → List (List ℕ × ℕ) → List (List ℕ × ℕ)
with_entry name number [] = (name, number) ∷ []
with_entry name number (entry ∷ later) =
    if is_name_before name entry.0 then (name, number) ∷ entry ∷ later else entry ∷ with_entry name number later

-- without the entry of this name
abbrev pub without_entry : List ℕ → List (List ℕ × ℕ) → List (List ℕ × ℕ)
without_entry name [] = []
without_entry name (entry ∷ later) = if is_name name entry.0 then later else entry ∷ without_entry name later

-- with how many entries there are
abbrev pub changed : List (List ℕ × ℕ) → Applied (List (List ℕ × ℕ))
changed entries = made.Changed entries (Number (length entries))

abbrev pub linked_if_new : Option ℕ → List ℕ → ℕ → List (List ℕ × ℕ) → Applied (List (List ℕ × ℕ))
linked_if_new (Some there) name number entries = made.Refused EXISTS
linked_if_new None name number entries =
    if nat_le ENTRIES_LIMIT (length entries) then made.Refused FULL else changed (with_entry name number entries)

abbrev pub unlinked_if_there : Option ℕ → List ℕ → List (List ℕ × ℕ) → Applied (List (List ℕ × ℕ))
unlinked_if_there None name entries = made.Refused MISSING
unlinked_if_there (Some there) name entries = changed (without_entry name entries)

abbrev pub dir_linked : List ℕ → ℕ → List (List ℕ × ℕ) → Applied (List (List ℕ × ℕ))
dir_linked name number entries =
    if is_good_name name then linked_if_new (linked_number name entries) name number entries else made.Refused BAD_NAME

abbrev pub dir_unlinked : List ℕ → List (List ℕ × ℕ) → Applied (List (List ℕ × ℕ))
dir_unlinked name entries = unlinked_if_there (linked_number name entries) name entries

-- what an update makes of a value
abbrev pub dir_applied : DirUpdate → List (List ℕ × ℕ) → Applied (List (List ℕ × ℕ))
dir_applied (Link name number) entries = dir_linked name number entries
dir_applied (Unlink name) entries = dir_unlinked name entries

abbrev pub found : Option ℕ → Told
found None = tells.Refused MISSING
found (Some number) = tells.Item (Number number)

-- what a query is told
abbrev pub dir_told : DirQuery → List (List ℕ × ℕ) → Told
dir_told (Find name) entries = found (linked_number name entries)
dir_told All entries = tells.Item (Entries entries)

-- the number that a name is linked to fits its bytes
abbrev pub DirUpdateFits : DirUpdate → Type 0
DirUpdateFits (Link name number) = number < 2 ^ 64
DirUpdateFits (Unlink name) = Unit {0}
