-- The greatest stamp of some candidates is above none of the others, and joins over their lists.
use Rattle.std.proofs.Common.{◌≡◌, List, [], ◌∷◌, ◌++◌, true, false, cond, IsTrue, refl, sym, ap, ◌∙◌, inl, inr}
use Rattle.std.proofs.lemmas.Bool.{false≢true, cases_Bool, or_cases, or_left, or_right}
use Rattle.qu_stamp.proofs.Order.{is_below-self, is_below-chain, is_below-not_back, is_below-other, is_below-not_chain, is_below-opening, equal_by_same_stamp, equal_by_same, same-self}
use Rattle.qu_stamp.specs.declared.stamp.Stamp.{Stamp}
use Rattle.qu_stamp.specs.declared.candidate.Candidate.{Candidate}
use Rattle.qu_stamp.specs.Stamp.{opening_stamp, is_below, same_stamp}
use Rattle.qu_stamp.specs.Candidate.{same}
use Rattle.qu_history.specs.History.{is_history, greater_stamp, greatest_stamp, latest, holds, last_from, last}

pub greatest_stamp-append : (stamp : Stamp) (xs ys : List Candidate)
    → greatest_stamp stamp (xs ++ ys) ≡ greatest_stamp (greatest_stamp stamp xs) ys
unfolding greatest_stamp
greatest_stamp-append stamp [] ys = refl
greatest_stamp-append stamp (x ∷ xs) ys = greatest_stamp-append (greater_stamp stamp x.stamp) xs ys

pub greater_second : (a b : Stamp) → is_below a b ≡ true → greater_stamp a b ≡ b
greater_second a b below = ap (λ test. cond test b a) below

pub greater_first : (a b : Stamp) → is_below a b ≡ false → greater_stamp a b ≡ a
greater_first a b above = ap (λ test. cond test b a) above

greater_stamp_assoc : (a b c : Stamp) → greater_stamp (greater_stamp a b) c ≡ greater_stamp a (greater_stamp b c)
greater_stamp_assoc a b c =
    elim (cases_Bool (is_below a b)) [
      | inl ab ↦ ap (λ stamp. greater_stamp stamp c) (greater_second a b ab) ∙ elim (cases_Bool (is_below b c)) [
        | inl bc ↦ greater_second b c bc
            ∙ sym (ap (greater_stamp a) (greater_second b c bc) ∙ greater_second a c (is_below-chain a b c ab bc))
        | inr bc ↦ greater_first b c bc ∙ sym (ap (greater_stamp a) (greater_first b c bc) ∙ greater_second a b ab)
      ]
      | inr ab ↦ ap (λ stamp. greater_stamp stamp c) (greater_first a b ab) ∙ elim (cases_Bool (is_below b c)) [
        | inl bc ↦ ap (greater_stamp a) (sym (greater_second b c bc))
        | inr bc ↦ greater_first a c (is_below-not_chain a b c ab bc)
            ∙ sym (ap (greater_stamp a) (greater_first b c bc) ∙ greater_first a b ab)
      ]
    ]

equal_by_order : (a b : Stamp) → is_below a b ≡ false → is_below b a ≡ false → a ≡ b
equal_by_order a b ab ba =
    elim (cases_Bool (same_stamp a b)) [
      | inl alike ↦ equal_by_same_stamp a b alike
      | inr unlike ↦ absurd (false≢true (sym ba ∙ is_below-other a b ab unlike))
    ]

opening_greater : (a : Stamp) → greater_stamp opening_stamp a ≡ a
opening_greater a =
    elim (cases_Bool (is_below opening_stamp a)) [
      | inl below ↦ greater_second opening_stamp a below
      | inr not_below ↦ greater_first opening_stamp a not_below ∙ equal_by_order opening_stamp a not_below
          (is_below-opening a)
    ]

pub not_below_greater_left : (a b : Stamp) → is_below (greater_stamp a b) a ≡ false
not_below_greater_left a b =
    elim (cases_Bool (is_below a b)) [
      | inl below ↦ ap (λ stamp. is_below stamp a) (greater_second a b below) ∙ is_below-not_back a b below
      | inr not_below ↦ ap (λ stamp. is_below stamp a) (greater_first a b not_below) ∙ is_below-self a
    ]

pub not_below_greater_right : (a b : Stamp) → is_below (greater_stamp a b) b ≡ false
not_below_greater_right a b =
    elim (cases_Bool (is_below a b)) [
      | inl below ↦ ap (λ stamp. is_below stamp b) (greater_second a b below) ∙ is_below-self b
      | inr not_below ↦ ap (λ stamp. is_below stamp b) (greater_first a b not_below) ∙ not_below
    ]

-- what a list adds is its own greatest stamp
greatest_stamp_from : (stamp : Stamp) (candidates : List Candidate)
    → greatest_stamp stamp candidates ≡ greater_stamp stamp (latest candidates)
unfolding greatest_stamp
greatest_stamp_from stamp [] = sym (greater_first stamp opening_stamp (is_below-opening stamp))
greatest_stamp_from stamp (next ∷ later) =
    greatest_stamp_from (greater_stamp stamp next.stamp) later ∙
    greater_stamp_assoc stamp next.stamp (latest later) ∙
    ap (greater_stamp stamp)
    (sym (ap (λ start. greatest_stamp start later) (opening_greater next.stamp) ∙ greatest_stamp_from next.stamp later))

pub latest-append : (xs ys : List Candidate) → latest (xs ++ ys) ≡ greater_stamp (latest xs) (latest ys)
latest-append xs ys = greatest_stamp-append opening_stamp xs ys ∙ greatest_stamp_from (latest xs) ys

-- no stamp of the list is above its greatest
not_below_start : (stamp : Stamp) (candidates : List Candidate) → is_below (greatest_stamp stamp candidates)
    stamp ≡ false
unfolding greatest_stamp
not_below_start stamp [] = is_below-self stamp
not_below_start stamp (next ∷ later) =
    let start : Stamp = greater_stamp stamp next.stamp in
    is_below-not_chain (greatest_stamp start later) start stamp (not_below_start start later)
    (not_below_greater_left stamp next.stamp)

not_below_held : (stamp : Stamp) (candidates : List Candidate) (held : Candidate) → holds held candidates ≡ true
    → is_below (greatest_stamp stamp candidates) held.stamp ≡ false
unfolding greatest_stamp
not_below_held stamp [] held holding = absurd (false≢true holding)
not_below_held stamp (next ∷ later) held holding =
    let start : Stamp = greater_stamp stamp next.stamp in
    elim (or_cases (same next held) (holds held later) holding) [
      | inl alike ↦
          ap (λ (other : Candidate). is_below (greatest_stamp start later) other.stamp)
          (sym (equal_by_same next held alike)) ∙
          is_below-not_chain (greatest_stamp start later) start next.stamp (not_below_start start later)
          (not_below_greater_right stamp next.stamp)
      | inr in_later ↦ not_below_held start later held in_later
    ]

pub not_below_latest : (candidates : List Candidate) (held : Candidate) → holds held candidates ≡ true
    → is_below (latest candidates) held.stamp ≡ false
not_below_latest candidates held holding = not_below_held opening_stamp candidates held holding

-- a history holds its last candidate
holds_last_from : (first : Candidate) (later : List Candidate) → holds (last_from first later) (first ∷ later) ≡ true
unfolding last_from
holds_last_from first [] = or_left _ _ (same-self first)
holds_last_from first (next ∷ later) = or_right _ _ (holds_last_from next later)

pub holds_last : (candidates : List Candidate) → IsTrue (is_history candidates)
    → holds (last candidates) candidates ≡ true
unfolding is_history last_from
holds_last [] history = absurd (false≢true history)
holds_last (first ∷ later) history = holds_last_from first later
