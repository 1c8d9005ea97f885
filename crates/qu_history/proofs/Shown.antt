-- The greatest candidate that so many entries hold is found from the last candidate of each entry on.
use Rattle.std.proofs.Common.{◌≡◌, ℕ, zero, suc, ◌+◌, ◌-◌, ◌<◌, ◌≤◌, List, [], ◌∷◌, ◌++◌, Bool, true, false, cond, Option, Some, None, refl, sym, ap, ◌∙◌, inl, inr, take, length, get_or, append-nil, arith}
use Rattle.std.specs.Prelude.{IsTrue}
use Rattle.std.specs.List.{filter, flat_map}
use Rattle.std.proofs.lemmas.Bool.{false≢true, and_parts, or_cases}
use Rattle.std.proofs.lemmas.List.{take_more, take_all}
use Rattle.std.proofs.lemmas.List.Concat.{flat_map-append}
use Rattle.std.proofs.lemmas.List.Elements.{filter-append}
use Rattle.std.proofs.Math.Seq.{take-length}
use Rattle.qu_stamp.proofs.Order.{is_below-chain, is_before_by_stamp, is_before-chain, is_before-not_chain, equal_by_same}
use Rattle.qu_stamp.specs.declared.candidate.Candidate.{Candidate}
use Rattle.qu_stamp.specs.declared.stamp.Stamp.{Stamp}
use Rattle.qu_stamp.specs.Stamp.{is_below}
use Rattle.qu_stamp.specs.Candidate.{same}
use Rattle.qu_history.specs.declared.sealed.Sealed.{Sealed}
use Rattle.qu_history.specs.History.{ObjectHistory, rises_from, is_history, holds}
use Rattle.qu_history.specs.Sets.{histories, greater, greatest_from, greatest, candidates_of}
use Rattle.qu_history.specs.Trimming.{is_held_by, greatest_shown, greater_of, greater_found}
use Rattle.qu_history.proofs.Rising.{history_parts}
use Rattle.qu_history.proofs.Histories.{histories_within, histories_whole, history_at}
use Rattle.qu_history.proofs.Greatest.{greatest_none, greatest_push, greatest_cases, holds-filter}

-- ---- in a history the last is the greatest

-- what stands in front of a place is below what stands there
pub below_from : (stamp : Stamp) (candidates : List Candidate) (place : ℕ) (default : Candidate)
    → rises_from stamp candidates ≡ true → place < length candidates
    → is_below stamp (get_or candidates place default).stamp ≡ true
unfolding rises_from
below_from stamp [] place default rising within = absurd (omega arith)
below_from stamp (first ∷ later) zero default rising within = (and_parts _ _ rising).0
below_from stamp (first ∷ later) (suc place) default rising within =
    let parts = and_parts (is_below stamp first.stamp) (rises_from first.stamp later) rising in
    is_below-chain stamp first.stamp (get_or later place default).stamp parts.0
    (below_from first.stamp later place default parts.1 (omega arith))

in_front : (stamp : Stamp) (candidates : List Candidate) (place : ℕ) (default held : Candidate)
    → rises_from stamp candidates ≡ true → place < length candidates → holds held (take place candidates) ≡ true
    → is_below held.stamp (get_or candidates place default).stamp ≡ true
unfolding rises_from
in_front stamp [] place default held rising within holding = absurd (omega arith)
in_front stamp (first ∷ later) zero default held rising within holding = absurd (false≢true holding)
in_front stamp (first ∷ later) (suc place) default held rising within holding =
    let parts = and_parts (is_below stamp first.stamp) (rises_from first.stamp later) rising in
    elim (or_cases (same first held) (holds held (take place later)) holding) [
      | inl alike ↦
          ap (λ (it : Candidate). is_below it.stamp (get_or later place default).stamp)
          (sym (equal_by_same first held alike))
          ∙ below_from first.stamp later place default parts.1 (omega arith)
      | inr in_later ↦ in_front first.stamp later place default held parts.1 (omega arith) in_later
    ]

in_front_of : (candidates : List Candidate) (place : ℕ) (default held : Candidate) → IsTrue (is_history candidates)
    → place < length candidates → holds held (take place candidates) ≡ true
    → is_below held.stamp (get_or candidates place default).stamp ≡ true
in_front_of [] place default held history within holding = absurd (omega arith)
in_front_of (first ∷ later) zero default held history within holding = absurd (false≢true holding)
in_front_of (first ∷ later) (suc place) default held history within holding =
    let rising = (history_parts first later history).1 in
    elim (or_cases (same first held) (holds held (take place later)) holding) [
      | inl alike ↦
          ap (λ (it : Candidate). is_below it.stamp (get_or later place default).stamp)
          (sym (equal_by_same first held alike))
          ∙ below_from first.stamp later place default rising (omega arith)
      | inr in_later ↦ in_front first.stamp later place default held rising (omega arith) in_later
    ]

-- what stands at a place is greater than all that passes in front of it
on_top : (test : Candidate → Bool) (candidates : List Candidate) (place : ℕ) (here default : Candidate)
    → IsTrue (is_history candidates) → place < length candidates → here ≡ get_or candidates place default
    → greater_of (greatest (filter test (take place candidates))) here ≡ here
on_top test candidates place here default history within is =
    elim (greatest_cases (filter test (take place candidates))) [
      | inl none ↦ ap (λ (it : Option Candidate). greater_of it here) none.0
      | inr found ↦
          let best : Candidate = found.0 in
          let below : is_below best.stamp here.stamp ≡ true =
          ap (λ (it : Candidate). is_below best.stamp it.stamp) is
          ∙ in_front_of candidates place default best history within
          (holds-filter test best (take place candidates) found.2.held).0
          in
          ap (λ (it : Option Candidate). greater_of it here) found.1 ∙
          ap (λ (it : Bool). cond it here best) (is_before_by_stamp best here below)
    ]

-- one place more, where the candidate passes or not
last_passes : (test : Candidate → Bool) (candidates : List Candidate) (place : ℕ) (here default : Candidate)
    → IsTrue (is_history candidates) → place < length candidates → here ≡ get_or candidates place default
    → test here ≡ true → greatest (filter test (take (place + 1) candidates)) ≡ Some here
last_passes test candidates place here default history within is passes =
    ap (λ (it : List Candidate). greatest (filter test it)) (take_more candidates place default within) ∙
    ap (λ (it : Candidate). greatest (filter test (take place candidates ++ it ∷ []))) (sym is) ∙
    ap greatest (filter-append test (take place candidates) (here ∷ [])) ∙
    ap (λ (it : Bool). greatest (filter test (take place candidates) ++ cond it (here ∷ []) [])) passes ∙
    greatest_push (filter test (take place candidates)) here ∙
    ap Some (on_top test candidates place here default history within is)

-- the candidate in front of a place is the greatest, where it passes and none from the place on does
pub found_last : (test : Candidate → Bool) (candidates : List Candidate) (place : ℕ) (here default : Candidate)
    (all : Option Candidate) → IsTrue (is_history candidates) → 0 < place → place ≤ length candidates
    → here ≡ get_or candidates (place - 1) default → test here ≡ true
    → all ≡ greatest (filter test (take place candidates)) → Some here ≡ all
found_last test candidates place here default all history some within is passes found =
    let count : place ≡ (place - 1) + 1 = omega (arith, some) in
    sym (found ∙ ap (λ (it : ℕ). greatest (filter test (take it candidates))) count
    ∙ last_passes test candidates (place - 1) here default history (omega (arith, some, within)) is passes)

pub last_fails : (test : Candidate → Bool) (candidates : List Candidate) (place : ℕ) (here : Candidate)
    → place < length candidates → here ≡ get_or candidates place here → test here ≡ false
    → greatest (filter test (take (place + 1) candidates)) ≡ greatest (filter test (take place candidates))
last_fails test candidates place here within is fails =
    ap (λ (it : List Candidate). greatest (filter test it)) (take_more candidates place here within) ∙
    ap (λ (it : Candidate). greatest (filter test (take place candidates ++ it ∷ []))) (sym is) ∙
    ap greatest (filter-append test (take place candidates) (here ∷ [])) ∙
    ap (λ (it : Bool). greatest (filter test (take place candidates) ++ cond it (here ∷ []) [])) fails ∙
    ap greatest (append-nil (filter test (take place candidates)))

pub last_of_all : (test : Candidate → Bool) (candidates : List Candidate)
    → greatest (filter test candidates) ≡ greatest (filter test (take (length candidates) candidates))
last_of_all test candidates = ap (λ (it : List Candidate). greatest (filter test it)) (sym (take-length candidates))

pub ruleset last_laws = (last_fails, last_of_all, greatest_none)

-- ---- the greatest of all entries

greater-assoc : (a b c : Candidate) → greater (greater a b) c ≡ greater a (greater b c)
greater-assoc a b c = grind (arith, is_before-chain a b c, is_before-not_chain a b c)

greatest_from-greater : (best start : Candidate) (later : List Candidate)
    → greatest_from (greater best start) later ≡ greater best (greatest_from start later)
unfolding greatest_from
greatest_from-greater best start [] = refl
greatest_from-greater best start (next ∷ later) =
    ap (λ (it : Candidate). greatest_from it later) (greater-assoc best start next)
    ∙ greatest_from-greater best (greater start next) later

greatest_from-append : (best : Candidate) (some more : List Candidate)
    → greatest_from best (some ++ more) ≡ greatest_from (greatest_from best some) more
unfolding greatest_from
greatest_from-append best [] more = refl
greatest_from-append best (next ∷ later) more = greatest_from-append (greater best next) later more

greatest-append : (some more : List Candidate)
    → greatest (some ++ more) ≡ greater_found (greatest some) (greatest more)
unfolding greatest greatest_from
greatest-append [] [] = refl
greatest-append [] (first ∷ later) = refl
greatest-append (start ∷ some) [] = ap (λ (it : List Candidate). Some (greatest_from start it)) (append-nil some)
greatest-append (start ∷ some) (first ∷ later) =
    ap Some (greatest_from-append start some (first ∷ later)
    ∙ greatest_from-greater (greatest_from start some) first later)

-- the greatest of those that pass, after one more entry
shown_more : (test : Candidate → Bool) (entries : List ObjectHistory) (index : ℕ) (entry : ObjectHistory)
    → index < length entries
    → greatest (filter test (candidates_of (take (index + 1) entries))) ≡ greater_found
    (greatest (filter test (candidates_of (take index entries))))
    (greatest (filter test (get_or entries index entry).candidates))
unfolding candidates_of
shown_more test entries index entry within =
    let here : ObjectHistory = get_or entries index entry in
    let each : ObjectHistory → List Candidate = λ (other : ObjectHistory). other.candidates in
    let before : List Candidate = flat_map each (take index entries) in
    ap (λ (it : List ObjectHistory). greatest (filter test (flat_map each it))) (take_more entries index entry within) ∙
    ap (λ (it : List Candidate). greatest (filter test it)) (flat_map-append each (take index entries) (here ∷ [])) ∙
    ap (λ (more : List Candidate). greatest (filter test (before ++ more))) (append-nil here.candidates) ∙
    ap greatest (filter-append test before here.candidates) ∙
    greatest-append (filter test before) (filter test here.candidates)

pub none_shown : (test : Candidate → Bool) → greatest (filter test (candidates_of [])) ≡ None
unfolding candidates_of
none_shown test = greatest_none

pub ruleset shown_laws = (none_shown)

-- the step of a search that has the greatest so far
pub shown_next : (test : Candidate → Bool) (entries : List Sealed) (index : ℕ) (entry : Sealed)
    (best last found : Option Candidate) → index < length entries → entry ≡ get_or entries index entry
    → best ≡ greatest (filter test (candidates_of (take index (histories entries))))
    → last ≡ greatest (filter test entry.history.candidates) → found ≡ greater_found best last
    → found ≡ greatest (filter test (candidates_of (take (index + 1) (histories entries))))
shown_next test entries index entry best last found within here is_best is_last is_found =
    let there : entry.history ≡ get_or (histories entries) index entry.history =
    history_at entries index entry within here in
    is_found
    ∙ ap (λ (it : Option Candidate). greater_found it last) is_best
    ∙ ap (greater_found (greatest (filter test (candidates_of (take index (histories entries))))))
    (is_last ∙ ap (λ (it : ObjectHistory). greatest (filter test it.candidates)) there)
    ∙ sym (shown_more test (histories entries) index entry.history (histories_within entries index within))

-- its end
pub shown_all : (entries : List Sealed) (least index : ℕ) (best : Option Candidate) → length entries ≤ index
    → best ≡ greatest
    (filter (is_held_by (histories entries) least) (candidates_of (take index (histories entries))))
    → best ≡ greatest_shown (histories entries) least
unfolding greatest_shown
shown_all entries least index best whole is =
    is ∙ ap (λ (it : List ObjectHistory). greatest (filter (is_held_by (histories entries) least) (candidates_of it)))
    (take_all index (histories entries) (histories_whole entries index whole))
