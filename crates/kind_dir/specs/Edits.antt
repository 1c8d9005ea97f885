-- What an entry more, and an entry fewer, leave: names that rise, a number of entries, and what each entry is.
use Rattle.std.proofs.Common.{◌≡◌, ℕ, suc, ◌≤◌, Bool, true, false, cond, not, ◌&&◌, List, [], ◌∷◌, length, Option, None, Some, IsTrue, refl, ap, arith}
use Rattle.std.specs.Ordering.{is_lt}
use Rattle.std.proofs.lemmas.Bool.{and_parts, and_from}
use Rattle.qu_base.specs.Texts.{is_name_before, is_name_above}
use Rattle.kind_dir.specs.Rising.{are_rising}
use Rattle.kind_dir.specs.Dir.{is_name, linked_number, with_entry, without_entry}
use Rattle.kind_dir.specs.Order.{transitive, before_is}

-- ---- names that rise

above_too : (before : Option (List ℕ)) (between name : List ℕ) → IsTrue (is_name_above before between)
    → IsTrue (is_name_before between name) → IsTrue (is_name_above before name)
above_too None between name one two = refl
above_too (Some before) between name one two =
    ap is_lt (transitive before between name (before_is before between one) (before_is between name two))

rising_from : (before : Option (List ℕ)) (between : List ℕ) (entries : List (List ℕ × ℕ))
    → IsTrue (is_name_above before between) → IsTrue (are_rising (Some between) entries)
    → IsTrue (are_rising before entries)
rising_from before between [] above rising = refl
rising_from before between (entry ∷ later) above rising =
    let parts = and_parts (is_name_before between entry.0) (are_rising (Some entry.0) later) rising in
    and_from _ _ (above_too before between entry.0 above parts.0) parts.1

-- the first is no name that is not there, and not before it
after_it : (first second : Bool) → (not first && not second) ≡ false → first ≡ false → second ≡ true
after_it true second not_it first_is = absurd cc
after_it false true not_it first_is = refl
after_it false false not_it first_is = absurd cc

not_here : (test : Bool) (number : ℕ) (rest : Option ℕ) → cond test (Some number) rest ≡ None
    → (test ≡ false) × (rest ≡ None)
not_here true number rest none = absurd cc
not_here false number rest none = (refl, none)

module _ (name : List ℕ) (number : ℕ) where
  with_rising : (before : Option (List ℕ)) (entry : List ℕ × ℕ) (later more : List (List ℕ × ℕ)) (test : Bool)
      → is_name_before name entry.0 ≡ test → is_name name entry.0 ≡ false
      → IsTrue (is_name_above before name) → IsTrue (is_name_above before entry.0)
      → IsTrue (are_rising (Some entry.0) later)
      → (IsTrue (is_name_before entry.0 name) → IsTrue (are_rising (Some entry.0) more))
      → IsTrue (are_rising before (cond test ((name, number) ∷ entry ∷ later) (entry ∷ more)))
  with_rising before entry later more true is not_it above entry_above rising more_rise =
      and_from _ _ above (and_from _ _ is rising)
  with_rising before entry later more false is not_it above entry_above rising more_rise =
      and_from _ _ entry_above
      (more_rise (after_it (is_name_before name entry.0) (is_name_before entry.0 name) not_it is))

  pub rising-with : (before : Option (List ℕ)) (entries : List (List ℕ × ℕ)) → IsTrue (is_name_above before name)
      → IsTrue (are_rising before entries) → linked_number name entries ≡ None
      → IsTrue (are_rising before (with_entry name number entries))
  rising-with before [] above rising none = and_from _ _ above refl
  rising-with before (entry ∷ later) above rising none =
      let parts = and_parts (is_name_above before entry.0) (are_rising (Some entry.0) later) rising in
      let apart = not_here (is_name name entry.0) entry.1 (linked_number name later) none in
      with_rising before entry later (with_entry name number later) (is_name_before name entry.0) refl apart.0 above
      parts.0
      parts.1 (λ after. rising-with (Some entry.0) later after parts.1 apart.1)

module _ (name : List ℕ) where
  without_rising : (before : Option (List ℕ)) (entry : List ℕ × ℕ) (later rest : List (List ℕ × ℕ)) (test : Bool)
      → IsTrue (is_name_above before entry.0) → IsTrue (are_rising (Some entry.0) later)
      → IsTrue (are_rising (Some entry.0) rest) → IsTrue (are_rising before (cond test later (entry ∷ rest)))
  without_rising before entry later rest true above rising rest_rises = rising_from before entry.0 later above rising
  without_rising before entry later rest false above rising rest_rises = and_from _ _ above rest_rises

  pub rising-without : (before : Option (List ℕ)) (entries : List (List ℕ × ℕ)) → IsTrue (are_rising before entries)
      → IsTrue (are_rising before (without_entry name entries))
  rising-without before [] rising = refl
  rising-without before (entry ∷ later) rising =
      let parts = and_parts (is_name_above before entry.0) (are_rising (Some entry.0) later) rising in
      without_rising before entry later (without_entry name later) (is_name name entry.0) parts.0 parts.1
      (rising-without (Some entry.0) later parts.1)

-- ---- how many they are

length_either : {A : Type 0} (test : Bool) (first second : List A) (count : ℕ) → length first ≡ count
    → length second ≡ count → length (cond test first second) ≡ count
length_either true first second count one two = one
length_either false first second count one two = two

pub length-with : (name : List ℕ) (number : ℕ) (entries : List (List ℕ × ℕ))
    → length (with_entry name number entries) ≡ suc (length entries)
length-with name number [] = refl
length-with name number (entry ∷ later) =
    length_either (is_name_before name entry.0) ((name, number) ∷ entry ∷ later)
    (entry ∷ with_entry name number later) _
    refl (ap suc (length-with name number later))

at_most_either : {A : Type 0} (test : Bool) (first second : List A) (count : ℕ) → length first ≤ count
    → length second ≤ count → length (cond test first second) ≤ count
at_most_either true first second count one two = one
at_most_either false first second count one two = two

pub length-without : (name : List ℕ) (entries : List (List ℕ × ℕ))
    → length (without_entry name entries) ≤ length entries
length-without name [] = omega arith
length-without name (entry ∷ later) =
    at_most_either (is_name name entry.0) later (entry ∷ without_entry name later) (suc (length later)) (omega arith)
    (omega (arith, length-without name later))

-- ---- what each of them is

abbrev pub AllAre : (List ℕ × ℕ → Type 0) → List (List ℕ × ℕ) → Type 0
AllAre Is [] = Unit {0}
AllAre Is (entry ∷ later) = Is entry × AllAre Is later

module _ (Is : List ℕ × ℕ → Type 0) where
  either_are : (test : Bool) (first second : List (List ℕ × ℕ)) → AllAre Is first → AllAre Is second
      → AllAre Is (cond test first second)
  either_are true first second one two = one
  either_are false first second one two = two

  pub with_are : (name : List ℕ) (number : ℕ) (entries : List (List ℕ × ℕ)) → Is (name, number) → AllAre Is entries
      → AllAre Is (with_entry name number entries)
  with_are name number [] one all = (one, tt)
  with_are name number (entry ∷ later) one all =
      either_are (is_name_before name entry.0) ((name, number) ∷ entry ∷ later) (entry ∷ with_entry name number later)
      (one, all) (all.0, with_are name number later one all.1)

  pub without_are : (name : List ℕ) (entries : List (List ℕ × ℕ)) → AllAre Is entries
      → AllAre Is (without_entry name entries)
  without_are name [] all = tt
  without_are name (entry ∷ later) all =
      either_are (is_name name entry.0) later (entry ∷ without_entry name later) all.1
      (all.0, without_are name later all.1)

pub ruleset edit_laws = (rising-with, rising-without)
