-- The formats of texts that tell their length are exact.
use Rattle.std.proofs.Common.{ℕ, ◌^◌, ◌-◌, Bool, List, length, Option, None, Some, refl, arith}
use Rattle.std.specs.Int.{w8, w16, w64}
use Rattle.qu_base.specs.declared.bad_text.Why.TheVariants.{Range, Order}
use Rattle.qu_base.specs.declared.limits.TheConstants.{CONTENT_LIMIT, NAME_LIMIT, ENTRIES_LIMIT}
use Rattle.qu_base.specs.Format.{Format, number, bytes, both, tested, IsExact}
use Rattle.qu_base.specs.Texts.{word_form, sized, content_form, name_form, is_name_above, named_form, after_name, spelled_name, listing_form}
use Rattle.qu_base.proofs.Formats.{wide8, wide16, wide64, number-exact, bytes-exact, both-exact, tested-exact, made-exact, counted-exact, coded_pair, second_of}

pub word-exact : IsExact word_form
word-exact = number-exact w64 (2 ^ 64) 0 (2 ^ 64 - 1) wide64 (omega arith)

sized-exact : (count : Format ℕ) → IsExact count → IsExact (sized count)
sized-exact count exact =
    made-exact (λ pair. pair.1) (λ content. Some (length content, content)) (both count bytes)
    (both-exact count bytes exact (λ many fits. bytes-exact many))
    (λ pair fits. coded_pair length pair fits.1)
    (λ content pair fits is. second_of length content pair is)

pub content-exact : IsExact content_form
unfolding content_form
content-exact =
    sized-exact (number w16 0 CONTENT_LIMIT) (number-exact w16 (2 ^ 16) 0 CONTENT_LIMIT wide16 (omega arith))

pub name-exact : IsExact name_form
unfolding name_form
name-exact = sized-exact (number w8 0 NAME_LIMIT) (number-exact w8 (2 ^ 8) 0 NAME_LIMIT wide8 (omega arith))

named-exact : (accepted : List ℕ → Bool) (before : Option (List ℕ)) → IsExact (named_form accepted before)
unfolding named_form
named-exact accepted before =
    both-exact (tested (is_name_above before) Order (tested accepted Range name_form)) (λ name. word_form)
    (tested-exact (is_name_above before) Order (tested accepted Range name_form)
    (tested-exact accepted Range name_form name-exact))
    (λ name fits. word-exact)

pub listing-exact : (accepted : List ℕ → Bool) → IsExact (listing_form accepted)
unfolding listing_form named_form
listing-exact accepted =
    counted-exact spelled_name (named_form accepted) after_name (named-exact accepted) (λ before entry. refl)
    (number w16 0 ENTRIES_LIMIT) None (number-exact w16 (2 ^ 16) 0 ENTRIES_LIMIT wide16 (omega arith))
