-- Texts that tell their length: contents, names, and listings of names, each with its number.
use Rattle.std.specs.Prelude.{ℕ, ◌-◌, ◌^◌, Bool, true, List, length, Option, None, Some, ◌++◌}
use Rattle.std.specs.Int.{w8, w16, w64}
use Rattle.std.specs.Cmp.Lexicographic.{slice_cmp}
use Rattle.std.specs.Ordering.{nat_cmp, is_lt}
use Rattle.qu_base.specs.declared.bad_text.Why.TheVariants.{Range, Order}
use Rattle.qu_base.specs.declared.limits.TheConstants.{CONTENT_LIMIT, NAME_LIMIT, ENTRIES_LIMIT}
use Rattle.qu_base.specs.Format.{Format, number, bytes, both, tested, made, items, counted}

-- a number of eight bytes
abbrev pub word_form : Format ℕ
word_form = number w64 0 (2 ^ 64 - 1)

-- a length, and so many bytes
abbrev pub sized : Format ℕ → Format (List ℕ)
sized count = made (λ pair. pair.1) (λ content. Some (length content, content)) (both count bytes)

-- what a blob holds
unfoldable pub content_form : Format (List ℕ)
content_form = sized (number w16 0 CONTENT_LIMIT)

unfoldable pub name_form : Format (List ℕ)
name_form = sized (number w8 0 NAME_LIMIT)

-- the first name is before the second one, by their bytes
abbrev pub is_name_before : List ℕ → List ℕ → Bool
is_name_before first second = is_lt (slice_cmp nat_cmp first second)

abbrev pub is_name_above : Option (List ℕ) → List ℕ → Bool
is_name_above None name = true
is_name_above (Some before) name = is_name_before before name

-- a name that is accepted, above the one before it, and its number
unfoldable pub named_form : (List ℕ → Bool) → Option (List ℕ) → Format (List ℕ × ℕ)
named_form accepted before =
    both (tested (is_name_above before) Order (tested accepted Range name_form)) (λ name. word_form)

abbrev pub after_name : List ℕ × ℕ → Option (List ℕ)
after_name entry = Some entry.0

-- how an entry is spelled, whatever is accepted and stands before it
abbrev pub spelled_name : List ℕ × ℕ → List ℕ
spelled_name entry = name_form.spell entry.0 ++ word_form.spell entry.1

abbrev pub some_names : (List ℕ → Bool) → ℕ → Format (List (List ℕ × ℕ))
some_names accepted count = items spelled_name (named_form accepted) after_name None count

-- a count, and so many entries by rising names
unfoldable pub listing_form : (List ℕ → Bool) → Format (List (List ℕ × ℕ))
listing_form accepted = counted (number w16 0 ENTRIES_LIMIT) spelled_name (named_form accepted) after_name None
