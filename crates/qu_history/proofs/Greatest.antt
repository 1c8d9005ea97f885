-- The greatest of some candidates is the one that they hold and that is before none of them.
use Rattle.std.proofs.Common.{◌≡◌, ◌⊎◌, List, [], ◌∷◌, ◌++◌, Bool, true, false, cond, Some, None, refl, sym, ap, ◌∙◌, inl, inr}
use Rattle.std.proofs.lemmas.Bool.{false≢true, cases_Bool, or_cases, or_left, or_right}
use Rattle.std.specs.List.{filter}
use Rattle.qu_stamp.proofs.Order.{is_before-self, is_before-not_back, is_before-not_chain, is_before-other, same-self, equal_by_same}
use Rattle.qu_stamp.specs.declared.candidate.Candidate.{Candidate}
use Rattle.qu_stamp.specs.Candidate.{is_before, same}
use Rattle.qu_history.specs.History.{holds}
use Rattle.qu_history.specs.Sets.{greater, greatest_from, greatest}
use Rattle.qu_history.specs.Trimming.{greater_of}

-- a candidate of the list that is before no other
pub record IsGreatest (best : Candidate) (candidates : List Candidate) : Type 0 where
  pub held : holds best candidates ≡ true
  pub above : (other : Candidate) → holds other candidates ≡ true → is_before best other ≡ false

equal_by_order : (a b : Candidate) → is_before a b ≡ false → is_before b a ≡ false → a ≡ b
equal_by_order a b ab ba =
    elim (cases_Bool (same a b)) [
      | inl alike ↦ equal_by_same a b alike
      | inr unlike ↦ absurd (false≢true (sym ba ∙ is_before-other a b ab unlike))
    ]

-- the greater of two is one of them, and before neither
greater_cases : (a b : Candidate) → (greater a b ≡ a) × (is_before a b ≡ false)
    ⊎ ((greater a b ≡ b) × (is_before b a ≡ false))
greater_cases a b =
    elim (cases_Bool (is_before a b)) [
      | inl before ↦ inr (ap (λ test. cond test b a) before, is_before-not_back a b before)
      | inr not_before ↦ inl (ap (λ test. cond test b a) not_before, not_before)
    ]

greatest_from_push : (best : Candidate) (candidates : List Candidate) (candidate : Candidate)
    → greatest_from best (candidates ++ candidate ∷ []) ≡ greater (greatest_from best candidates) candidate
unfolding greatest_from
greatest_from_push best [] candidate = refl
greatest_from_push best (next ∷ later) candidate = greatest_from_push (greater best next) later candidate

pub greatest_none : greatest [] ≡ None
unfolding greatest
greatest_none = refl

-- the greatest after one more candidate
pub greatest_push : (candidates : List Candidate) (candidate : Candidate)
    → greatest (candidates ++ candidate ∷ []) ≡ Some (greater_of (greatest candidates) candidate)
unfolding greatest greatest_from
greatest_push [] candidate = refl
greatest_push (first ∷ later) candidate = ap Some (greatest_from_push first later candidate)

-- what a search from one candidate on finds
record IsFound (start : Candidate) (later : List Candidate) (best : Candidate) : Type 0 where
  held : holds best (start ∷ later) ≡ true
  first : is_before best start ≡ false
  others : (other : Candidate) → holds other later ≡ true → is_before best other ≡ false

found_next : (start next : Candidate) (later : List Candidate) → IsFound (greater start next) later
    (greatest_from (greater start next) later) → IsFound start (next ∷ later) (greatest_from (greater start next) later)
found_next start next later found =
    let best : Candidate = greatest_from (greater start next) later in
    elim (greater_cases start next) [
      | inl is_first ↦
          let first : is_before best start ≡ false = ap (is_before best) (sym is_first.0) ∙ found.first in
          record {
            held = elim (or_cases (same (greater start next) best) (holds best later) found.held) [
              | inl alike ↦ or_left _ _ (ap (λ other. same other best) (sym is_first.0) ∙ alike)
              | inr in_later ↦ or_right _ _ (or_right _ _ in_later)
            ];
            first = first;
            others = λ other holding. elim (or_cases (same next other) (holds other later) holding) [
              | inl alike ↦ ap (is_before best) (sym (equal_by_same next other alike))
                  ∙ is_before-not_chain best start next first is_first.1
              | inr in_later ↦ found.others other in_later
            ];
          }
      | inr is_second ↦
          let second : is_before best next ≡ false = ap (is_before best) (sym is_second.0) ∙ found.first in
          record {
            held = elim (or_cases (same (greater start next) best) (holds best later) found.held) [
              | inl alike ↦ or_right _ _ (or_left _ _ (ap (λ other. same other best) (sym is_second.0) ∙ alike))
              | inr in_later ↦ or_right _ _ (or_right _ _ in_later)
            ];
            first = is_before-not_chain best next start second is_second.1;
            others = λ other holding. elim (or_cases (same next other) (holds other later) holding) [
              | inl alike ↦ ap (is_before best) (sym (equal_by_same next other alike)) ∙ second
              | inr in_later ↦ found.others other in_later
            ];
          }
    ]

found_from : (start : Candidate) (later : List Candidate) → IsFound start later (greatest_from start later)
unfolding greatest_from
found_from start [] = record {
  held = or_left _ _ (same-self start);
  first = is_before-self start;
  others = λ other holding. absurd (false≢true holding);
}
found_from start (next ∷ later) = found_next start next later (found_from (greater start next) later)

-- the greatest, or that there is none
pub greatest_cases : (candidates : List Candidate) → (greatest candidates ≡ None) × (candidates ≡ [])
    ⊎ ((best : Candidate) × (greatest candidates ≡ Some best) × IsGreatest best candidates)
unfolding greatest
greatest_cases [] = inl (refl, refl)
greatest_cases (first ∷ later) =
    let found : IsFound first later (greatest_from first later) = found_from first later in
    inr (
      greatest_from first later,
      refl,
      record {
        held = found.held;
        above = λ other holding. elim (or_cases (same first other) (holds other later) holding) [
          | inl alike ↦ ap (is_before (greatest_from first later)) (sym (equal_by_same first other alike)) ∙ found.first
          | inr in_later ↦ found.others other in_later
        ];
      },
    )

-- there is one greatest
pub greatest_is : (best : Candidate) (candidates : List Candidate) → IsGreatest best candidates
    → greatest candidates ≡ Some best
greatest_is best candidates is_greatest =
    elim (greatest_cases candidates) [
      | inl none ↦ absurd (false≢true (ap (holds best) (sym none.1) ∙ is_greatest.held))
      | inr found ↦
          found.1 ∙ ap Some (equal_by_order found.0 best (found.2.above best is_greatest.held)
          (is_greatest.above found.0 found.2.held))
    ]

-- a filter holds what passes
pub holds-filter : (test : Candidate → Bool) (held : Candidate) (candidates : List Candidate)
    → holds held (filter test candidates) ≡ true → (holds held candidates ≡ true) × (test held ≡ true)
holds-filter test held [] holding = absurd (false≢true holding)
holds-filter test held (next ∷ later) holding =
    elim (cases_Bool (test next)) [
      | inl passes ↦
          elim (or_cases (same next held) (holds held (filter test later))
          (ap (λ kept. holds held (cond kept (next ∷ filter test later) (filter test later))) (sym passes)
          ∙ holding)) [
            | inl alike ↦ (or_left _ _ alike, ap test (sym (equal_by_same next held alike)) ∙ passes)
            | inr in_later ↦
                let rest : (holds held later ≡ true) × (test held ≡ true) = holds-filter test held later in_later in
                (or_right _ _ rest.0, rest.1)
          ]
      | inr fails ↦
          let rest : (holds held later ≡ true) × (test held ≡ true) =
          holds-filter test held later
          (ap (λ kept. holds held (cond kept (next ∷ filter test later) (filter test later))) (sym fails)
          ∙ holding) in
          (or_right _ _ rest.0, rest.1)
    ]

pub holds_in_filter : (test : Candidate → Bool) (held : Candidate) (candidates : List Candidate)
    → holds held candidates ≡ true → test held ≡ true → holds held (filter test candidates) ≡ true
holds_in_filter test held [] holding passes = absurd (false≢true holding)
holds_in_filter test held (next ∷ later) holding passes =
    elim (or_cases (same next held) (holds held later) holding) [
      | inl alike ↦
          ap (λ kept. holds held (cond kept (next ∷ filter test later) (filter test later)))
          (ap test (equal_by_same next held alike) ∙ passes) ∙
          or_left _ _ alike
      | inr in_later ↦
          let rest : holds held (filter test later) ≡ true = holds_in_filter test held later in_later passes in
          elim (cases_Bool (test next)) [
            | inl next_passes ↦ ap (λ kept. holds held (cond kept (next ∷ filter test later) (filter test later)))
                next_passes ∙ or_right _ _ rest
            | inr next_fails ↦ ap (λ kept. holds held (cond kept (next ∷ filter test later) (filter test later)))
                next_fails ∙ rest
          ]
    ]
