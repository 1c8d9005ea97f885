-- The order of names, and how entries stand in it.
use Rattle.std.proofs.Common.{◌≡◌, ℕ, zero, suc, ◌<◌, ◌≤◌, true, false, List, [], ◌∷◌, length, get_or, IsTrue, Option, None, Some, Ordering, Less, Equal, Greater, refl, sym, ap, ◌∙◌, arith}
use Rattle.std.specs.Cmp.Lexicographic.{slice_cmp}
use Rattle.std.specs.Ordering.{nat_cmp, is_lt, ordering_index, ordering_reverse}
use Rattle.std.specs.List.Sorted.{IsNonDecreasingBy}
use Rattle.std.proofs.lemmas.Cmp.{nat_list_cmp_total, alike_right}
use Rattle.std.proofs.lemmas.Bool.{and_parts}
use Rattle.qu_base.specs.Texts.{is_name_before}
use Rattle.kind_dir.specs.Rising.{are_rising}
use Rattle.kind_dir.specs.Dir.{is_name}

abbrev pub order : List ℕ → List ℕ → Ordering
order first second = slice_cmp nat_cmp first second

-- ---- two names

less_if : (result : Ordering) → is_lt result ≡ true → result ≡ Less
less_if Less is = refl
less_if Equal is = absurd cc
less_if Greater is = absurd cc

pub before_is : (first second : List ℕ) → IsTrue (is_name_before first second) → order first second ≡ Less
before_is first second before = less_if (order first second) before

pub back : (first second : List ℕ) → order first second ≡ ordering_reverse (order second first)
back first second = nat_list_cmp_total.antisymm first second

pub transitive : (first second third : List ℕ) → order first second ≡ Less → order second third ≡ Less
    → order first third ≡ Less
transitive first second third one two = nat_list_cmp_total.trans first second third one two

at_most : (result : Ordering) → ordering_index result ≤ 2
at_most Less = omega arith
at_most Equal = omega arith
at_most Greater = omega arith

-- before a name that is the same, or before one that is before the other
index_rises : (first second name : List ℕ) (result : Ordering) → order first second ≡ Less → order second name ≡ result
    → ordering_index (order first name) ≤ ordering_index (order second name)
index_rises first second name Less less is = rw (is, transitive first second name less is) (omega arith)
index_rises first second name Equal less is =
    rw (is, sym (alike_right nat_list_cmp_total second name first is), less) (omega arith)
index_rises first second name Greater less is = rw is (at_most (order first name))

-- ---- a name and the one that is sought

pub record IsLowerName (name other : List ℕ) : Type 0 where
  pub not_it : is_name name other ≡ false
  pub not_before : is_name_before name other ≡ false

pub lower : (name other : List ℕ) → order other name ≡ Less → IsLowerName name other
lower name other less =
    let greater : order name other ≡ Greater = back name other ∙ ap ordering_reverse less in
    record { not_it = rw (greater, less) refl; not_before = ap is_lt greater }

pub record IsHigher (name other : List ℕ) : Type 0 where
  pub not_it : is_name name other ≡ false
  pub before : is_name_before name other ≡ true

pub higher : (name other : List ℕ) → order other name ≡ Greater → IsHigher name other
higher name other greater =
    let less : order name other ≡ Less = back name other ∙ ap ordering_reverse greater in
    record { not_it = rw less refl; before = ap is_lt less }

pub same_name : (name other : List ℕ) → order other name ≡ Equal → is_name name other ≡ true
same_name name other equal =
    let back_too : order name other ≡ Equal = back name other ∙ ap ordering_reverse equal in
    rw (back_too, equal) refl

-- ---- entries

pub rising_above : (before : List ℕ) (entries : List (List ℕ × ℕ)) → IsTrue (are_rising (Some before) entries)
    → (k : ℕ) (default : List ℕ × ℕ) → k < length entries → order before (get_or entries k default).0 ≡ Less
rising_above before [] rising k default within = absurd (omega arith)
rising_above before (entry ∷ later) rising zero default within = before_is before entry.0 (and_parts _ _ rising).0
rising_above before (entry ∷ later) rising (suc k) default within =
    transitive before entry.0 _ (before_is before entry.0 (and_parts _ _ rising).0)
    (rising_above entry.0 later (and_parts _ _ rising).1 k default (omega arith))

pub rising_at : (before : Option (List ℕ)) (entries : List (List ℕ × ℕ)) → IsTrue (are_rising before entries)
    → (i j : ℕ) (default : List ℕ × ℕ) → i < j → j < length entries
    → order (get_or entries i default).0 (get_or entries j default).0 ≡ Less
rising_at before [] rising i j default less within = absurd (omega arith)
rising_at before (entry ∷ later) rising i zero default less within = absurd (omega arith)
rising_at before (entry ∷ later) rising zero (suc j) default less within =
    rising_above entry.0 later (and_parts _ _ rising).1 j default (omega arith)
rising_at before (entry ∷ later) rising (suc i) (suc j) default less within =
    rising_at (Some entry.0) later (and_parts _ _ rising).1 i j default (omega arith) (omega arith)

at_either : (first second i j : ℕ) → i ≤ j → (i < j → first ≤ second) → (i ≡ j → first ≡ second) → first ≤ second
at_either first second i j up_to less same = grind (arith, less, same)

-- what is sought is compared with rising names: the answers rise
pub comparisons_rise : (name : List ℕ) (entries : List (List ℕ × ℕ)) → IsTrue (are_rising None entries)
    → IsNonDecreasingBy (λ entry. ordering_index (order entry.0 name)) entries
comparisons_rise name entries rising i j default up_to within =
    at_either _ _ i j up_to
    (λ less. index_rises _ _ name _ (rising_at None entries rising i j default less within) refl)
    (λ same. ap (λ (k : ℕ). ordering_index (order (get_or entries k default).0 name)) same)
