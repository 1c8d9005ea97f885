-- Marks change none of the histories that are kept.
use Rattle.std.proofs.Common.{◌≡◌, ℕ, zero, suc, ◌+◌, ◌<◌, ◌≤◌, List, [], ◌∷◌, map, ◌++◌, take, length, get_or, set, refl, ap, subst, ◌∙◌, arith}
use Rattle.std.specs.List.{AllByRecursion}
use Rattle.std.proofs.lemmas.List.{take-append-le, take_all}
use Rattle.qu_history.specs.declared.sealed.Sealed.{Sealed}
use Rattle.qu_history.specs.declared.sets.SetOf.{SetOf}
use Rattle.qu_question.specs.declared.kept.Kept.{Kept}
use Rattle.qu_question.specs.declared.kept.Mark.{Mark}
use Rattle.qu_question.specs.declared.kept.Mark.TheVariants.{Unshown}
use Rattle.qu_question.specs.Kept.{unmarked}
use Rattle.qu_question.specs.Marking.{mark_in, marked_shown}

abbrev pub sealed_of : List Kept → List Sealed
sealed_of kept = map (λ (held : Kept). held.sealed) kept

-- the same histories are kept, with other marks
abbrev pub IsRemarked : List Kept → List Kept → Type 0
IsRemarked kept marked = sealed_of marked ≡ sealed_of kept

-- whatever the marks
pub remarked : (mark : Kept → Mark) (kept : List Kept)
    → IsRemarked kept (map (λ (held : Kept). record held { mark = mark held }) kept)
remarked mark [] = refl
remarked mark (held ∷ later) = ap (λ (rest : List Sealed). held.sealed ∷ rest) (remarked mark later)

pub unmarked-remarked : (kept : List Kept) → IsRemarked kept (unmarked kept)
unfolding unmarked
unmarked-remarked kept = remarked (λ held. Unshown) kept

pub shown_in-remarked : (sets : List SetOf) (kept : List Kept) → IsRemarked kept (marked_shown sets kept)
unfolding marked_shown
shown_in-remarked sets kept = remarked (mark_in sets) kept

head_same : (held old : Sealed) (later older : List Sealed) → held ∷ later ≡ old ∷ older → old ≡ held
head_same held old later older same = cc

tail_same : (held old : Sealed) (later older : List Sealed) → held ∷ later ≡ old ∷ older → later ≡ older
tail_same held old later older same = cc

-- what holds of each history that is kept
pub each_remarked : (Q : Sealed → Type 0) (kept marked : List Kept) → IsRemarked kept marked
    → AllByRecursion (λ (it : Kept). Q it.sealed) kept → AllByRecursion (λ (it : Kept). Q it.sealed) marked
each_remarked Q kept [] same each = tt
each_remarked Q [] (held ∷ later) same each = cc
each_remarked Q (old ∷ older) (held ∷ later) same each = (
  subst Q (head_same held.sealed old.sealed (sealed_of later) (sealed_of older) same) each.0,
  each_remarked Q older later
      (tail_same held.sealed old.sealed (sealed_of later) (sealed_of older) same) each.1,
)

-- the entries before this place are marked for the round
unfoldable pub shown_up_to : List SetOf → ℕ → List Kept → List Kept
shown_up_to sets zero kept = kept
shown_up_to sets (suc place) [] = []
shown_up_to sets (suc place) (held ∷ later) =
    (record held { mark = mark_in sets held }) ∷ shown_up_to sets place later

pub length-shown_up_to : (sets : List SetOf) (place : ℕ) (kept : List Kept)
    → length (shown_up_to sets place kept) ≡ length kept
unfolding shown_up_to
length-shown_up_to sets zero kept = refl
length-shown_up_to sets (suc place) [] = refl
length-shown_up_to sets (suc place) (held ∷ later) = ap suc (length-shown_up_to sets place later)

up_to_more : (sets : List SetOf) (place : ℕ) (kept : List Kept) (d : Kept) → place < length kept
    → set (shown_up_to sets place kept) place (record (get_or (shown_up_to sets place kept) place d) {
      mark = mark_in sets (get_or (shown_up_to sets place kept) place d);
    }) ≡ shown_up_to sets (suc place) kept
unfolding shown_up_to
up_to_more sets place [] d within = absurd (omega arith)
up_to_more sets zero (first ∷ later) d within = refl
up_to_more sets (suc place) (first ∷ later) d within =
    ap (λ (rest : List Kept). (record first { mark = mark_in sets first }) ∷ rest)
    (up_to_more sets place later d (omega arith))

-- and the one at this place too
pub shown_up_to_more : (sets : List SetOf) (place : ℕ) (kept items : List Kept) (d : Kept) (mark : Mark)
    → items ≡ shown_up_to sets place kept → place < length items → mark ≡ mark_in sets (get_or items place d)
    → set items place (record (get_or items place d) { mark = mark }) ≡ shown_up_to sets (place + 1) kept
shown_up_to_more sets place kept items d mark so_far within is =
    let size : length items ≡ length kept = ap length so_far ∙ length-shown_up_to sets place kept in
    let next : suc place ≡ place + 1 = omega arith in
    ap (λ (it : Mark). set items place (record (get_or items place d) { mark = it })) is ∙
    ap (λ (it : List Kept). set it place (record (get_or it place d) { mark = mark_in sets (get_or it place d) }))
    so_far ∙ up_to_more sets place kept d (omega arith) ∙ ap (λ (it : ℕ). shown_up_to sets it kept) next

up_to_all : (sets : List SetOf) (place : ℕ) (kept : List Kept) → length kept ≤ place
    → shown_up_to sets place kept ≡ marked_shown sets kept
unfolding shown_up_to marked_shown
up_to_all sets zero [] past = refl
up_to_all sets zero (held ∷ later) past = absurd (omega arith)
up_to_all sets (suc place) [] past = refl
up_to_all sets (suc place) (held ∷ later) past =
    ap (λ (rest : List Kept). (record held { mark = mark_in sets held }) ∷ rest)
    (up_to_all sets place later (omega arith))

-- after the last one all are
pub shown_up_to_all : (sets : List SetOf) (place : ℕ) (kept items : List Kept)
    → items ≡ shown_up_to sets place kept → length items ≤ place → items ≡ marked_shown sets kept
shown_up_to_all sets place kept items so_far past =
    let size : length items ≡ length kept = ap length so_far ∙ length-shown_up_to sets place kept in
    so_far ∙ up_to_all sets place kept (omega arith)

-- the entries of a vector whose places were all written
pub all_written : (size : ℕ) (written rest : List Kept) → length written ≡ size → take size (written ++ rest) ≡ written
all_written size written rest same =
    take-append-le size written rest (omega arith) ∙ take_all size written (omega arith)
