-- The greatest candidate with a barrier, or without, that may be repaired.
use Rattle.std.proofs.Common.{◌≡◌, ◌+◌, ◌≤◌, ℕ, Bool, true, false, ◌||◌, leb, cond, List, [], ◌∷◌, Option, Some, None, IsTrue, length, refl, sym, ap, subst, ◌∙◌, inl, inr, arith}
use Rattle.std.proofs.lemmas.Bool.{false≢true, cases_Bool, and_parts, and_from, or_left, or_right, not-true, not_from_false, leb-true, le-leb}
use Rattle.std.proofs.lemmas.List.Elements.{All-head, All-tail}
use Rattle.std.proofs.lemmas.List.Folds.{list_any-append}
use Rattle.std.proofs.lemmas.List.Sums.{sum_by-cons}
use Rattle.std.specs.Prelude.{unwrap_or}
use Rattle.std.specs.List.{All, filter, flat_map}
use Rattle.qu_base.specs.Bounds.{quorum, repair}
use Rattle.qu_stamp.specs.declared.candidate.Candidate.{Candidate}
use Rattle.qu_stamp.specs.Stamp.{is_below, same_stamp}
use Rattle.qu_stamp.specs.Candidate.{opening, same}
use Rattle.qu_stamp.proofs.Order.{is_below-other, equal_by_same_stamp, is_before_by_stamp, same-self}
use Rattle.qu_history.specs.History.{ObjectHistory, is_history, holds}
use Rattle.qu_history.specs.Sets.{order_of, latest_of, candidates_of, object_candidate}
use Rattle.qu_history.proofs.Greatest.{greatest_cases, greatest_is, holds-filter, holds_in_filter}
use Rattle.qu_history.proofs.Rising.{history_parts}
use Rattle.qu_history.proofs.Stamps.{not_below_latest}
use Rattle.qu_class.specs.Repairable.{is_of_kind, is_shown_of_kind, greatest_of_kind, object_base}
use Rattle.qu_class.specs.Rows.{AreWellFormed, MayBeRepaired, IsGreatestOfKind}

pub plain_is_object_candidate : (bounds : ℕ) (entries : List ObjectHistory)
    → greatest_of_kind false (repair bounds) entries ≡ object_candidate bounds entries
unfolding greatest_of_kind object_candidate
plain_is_object_candidate bounds entries = refl

-- ---- what is counted is held

order_of-cons : (candidate : Candidate) (entry : ObjectHistory) (later : List ObjectHistory)
    → order_of candidate (entry ∷ later) ≡ cond (holds candidate entry.candidates) 1 0 + order_of candidate later
unfolding order_of
order_of-cons candidate entry later =
    sum_by-cons (λ (it : ObjectHistory). cond (holds candidate it.candidates) 1 0) entry later

order_of-none : (candidate : Candidate) → order_of candidate [] ≡ 0
unfolding order_of
order_of-none candidate = refl

candidates_of-cons : (candidate : Candidate) (entry : ObjectHistory) (later : List ObjectHistory)
    → holds candidate (candidates_of (entry ∷ later)) ≡ (holds candidate entry.candidates || holds candidate
    (candidates_of later))
unfolding candidates_of
candidates_of-cons candidate entry later =
    list_any-append (λ held. same held candidate) entry.candidates
    (flat_map (λ (it : ObjectHistory). it.candidates) later)

pub held_by_order : (candidate : Candidate) (entries : List ObjectHistory) → 1 ≤ order_of candidate entries
    → holds candidate (candidates_of entries) ≡ true
held_by_order candidate [] counted = absurd (omega (arith, order_of-none candidate))
held_by_order candidate (entry ∷ later) counted =
    candidates_of-cons candidate entry later ∙ elim (cases_Bool (holds candidate entry.candidates)) [
      | inl here ↦ or_left _ _ here
      | inr not_here ↦
          let rest : order_of candidate (entry ∷ later) ≡ 0 + order_of candidate later =
          order_of-cons candidate entry later ∙ ap (λ test. cond test 1 0 + order_of candidate later) not_here in
          or_right _ _ (held_by_order candidate later (omega (arith, rest)))
    ]

opening_held : (candidates : List Candidate) → IsTrue (is_history candidates) → holds opening candidates ≡ true
unfolding is_history
opening_held [] history = absurd (false≢true history)
opening_held (first ∷ later) history =
    or_left _ _ (ap (λ (it : Candidate). same it opening) (history_parts first later history).0 ∙ same-self opening)

-- each history holds the opening candidate
pub order_of_opening : (entries : List ObjectHistory) → All (λ entry. IsTrue (is_history entry.candidates)) entries
    → order_of opening entries ≡ length entries
order_of_opening [] histories = order_of-none opening
order_of_opening (entry ∷ later) histories =
    let rest : order_of opening later ≡ length later =
    order_of_opening later (All-tail (λ (it : ObjectHistory). IsTrue (is_history it.candidates)) entry later histories)
    in
    let here : order_of opening (entry ∷ later) ≡ 1 + order_of opening later =
    order_of-cons opening entry later ∙ ap (λ test. cond test 1 0 + order_of opening later)
    (opening_held entry.candidates
    (All-head (λ (it : ObjectHistory). IsTrue (is_history it.candidates)) entry later histories)) in
    omega (arith, rest, here)

-- ---- both kinds

kind_is : (barrier : Bool) (candidate : Candidate) → is_of_kind barrier candidate ≡ true
    → candidate.stamp.barrier ≡ barrier
kind_is true candidate passes = passes
kind_is false candidate passes = not-true candidate.stamp.barrier passes

kind_passes : (barrier : Bool) (candidate : Candidate) → candidate.stamp.barrier ≡ barrier
    → is_of_kind barrier candidate ≡ true
kind_passes true candidate is = is
kind_passes false candidate is = not_from_false candidate.stamp.barrier is

some_is : (found : Option Candidate) → (found ≡ None → ⊥) → found ≡ Some (unwrap_or found opening)
some_is None never = absurd (never refl)
some_is (Some candidate) never = refl

module _ (bounds : ℕ) (entries : List ObjectHistory) (formed : AreWellFormed bounds entries) where
  pub some_repair : 1 ≤ repair bounds
  some_repair = omega (arith, formed.thresholds.repair_outnumbers)

  pub repair_within_quorum : repair bounds ≤ quorum bounds
  repair_within_quorum =
      omega (arith, formed.thresholds.quorums_share_repair, formed.thresholds.correct_make_quorum)

  pub held_if_repairable : (candidate : Candidate) → repair bounds ≤ order_of candidate entries
      → holds candidate (candidates_of entries) ≡ true
  held_if_repairable candidate counted = held_by_order candidate entries (omega (arith, some_repair, counted))

  abbrev shown : Bool → List Candidate
  shown barrier = filter (is_shown_of_kind barrier (repair bounds) entries) (candidates_of entries)

  is_shown_here : (barrier : Bool) (candidate : Candidate) → MayBeRepaired bounds entries barrier candidate
      → holds candidate (shown barrier) ≡ true
  is_shown_here barrier candidate may =
      holds_in_filter (is_shown_of_kind barrier (repair bounds) entries) candidate (candidates_of entries)
      (held_if_repairable candidate may.order)
      (and_from _ _ (kind_passes barrier candidate may.kind)
      (le-leb (repair bounds) (order_of candidate entries) may.order))

  may_be_repaired : (barrier : Bool) (candidate : Candidate) → holds candidate (shown barrier) ≡ true
      → MayBeRepaired bounds entries barrier candidate
  may_be_repaired barrier candidate holding =
      let passes : is_shown_of_kind barrier (repair bounds) entries candidate ≡ true =
      (holds-filter (is_shown_of_kind barrier (repair bounds) entries) candidate (candidates_of entries) holding).1 in
      let parts = and_parts (is_of_kind barrier candidate) (leb (repair bounds) (order_of candidate entries)) passes in
      record {
        kind = kind_is barrier candidate parts.0;
        order = leb-true (repair bounds) (order_of candidate entries) parts.1;
      }

  -- the greatest is found
  pub greatest_of_kind_is : (barrier : Bool) (best : Candidate) → IsGreatestOfKind bounds entries barrier best
      → greatest_of_kind barrier (repair bounds) entries ≡ Some best
  unfolding greatest_of_kind
  greatest_of_kind_is barrier best is =
      greatest_is best (shown barrier) (record {
        held = is_shown_here barrier best is.repairable;
        above = λ other holding. is.above other (may_be_repaired barrier other holding);
      })

  -- what is found is the greatest
  pub greatest_of_kind_tells : (barrier : Bool) (best : Candidate)
      → greatest_of_kind barrier (repair bounds) entries ≡ Some best → IsGreatestOfKind bounds entries barrier best
  unfolding greatest_of_kind
  greatest_of_kind_tells barrier best is =
      elim (greatest_cases (shown barrier)) [
        | inl none ↦ absurd (let no : Some best ≡ None = sym is ∙ none.0 in cc)
        | inr found ↦
            let equal : found.0 ≡ best = (let both : Some found.0 ≡ Some best = sym found.1 ∙ is in cc) in
            subst (λ (it : Candidate). IsGreatestOfKind bounds entries barrier it) equal (record {
              repairable = may_be_repaired barrier found.0 (found.2).held;
              above = λ other may. (found.2).above other (is_shown_here barrier other may);
            })
      ]

  -- where nothing is found, nothing may be repaired
  pub none_of_kind : (barrier : Bool) (other : Candidate) → greatest_of_kind barrier (repair bounds) entries ≡ None
      → MayBeRepaired bounds entries barrier other → ⊥
  unfolding greatest_of_kind
  none_of_kind barrier other none may =
      elim (greatest_cases (shown barrier)) [
        | inl empty ↦ false≢true (ap (holds other) (sym empty.1) ∙ is_shown_here barrier other may)
        | inr found ↦ let no : Some found.0 ≡ None = sym found.1 ∙ none in cc
      ]

  -- a repairable candidate that is not below the latest stamp has it
  pub stamp_at_latest : (candidate : Candidate) → repair bounds ≤ order_of candidate entries
      → is_below candidate.stamp (latest_of entries) ≡ false → candidate.stamp ≡ latest_of entries
  unfolding latest_of
  stamp_at_latest candidate counted not_below =
      elim (cases_Bool (same_stamp candidate.stamp (latest_of entries))) [
        | inl alike ↦ equal_by_same_stamp candidate.stamp (latest_of entries) alike
        | inr unlike ↦ absurd (false≢true
            (sym (not_below_latest (candidates_of entries) candidate (held_if_repairable candidate counted))
            ∙ is_below-other candidate.stamp (latest_of entries) not_below unlike))
      ]

  -- where one of a kind has the latest stamp, so does the greatest
  pub greatest_at_latest : (barrier : Bool) (best other : Candidate) → IsGreatestOfKind bounds entries barrier best
      → MayBeRepaired bounds entries barrier other → other.stamp ≡ latest_of entries → best.stamp ≡ latest_of entries
  greatest_at_latest barrier best other is may latest =
      stamp_at_latest best is.repairable.order (elim (cases_Bool (is_below best.stamp (latest_of entries))) [
        | inl below ↦ absurd (false≢true (sym (is.above other may)
            ∙ is_before_by_stamp best other (ap (is_below best.stamp) latest ∙ below)))
        | inr not_below ↦ not_below
      ])

  module _ (enough : quorum bounds ≤ length entries) where
    -- there is an object candidate
    pub base_is : object_candidate bounds entries ≡ Some (object_base bounds entries)
    unfolding object_base
    base_is =
        let opening_may : MayBeRepaired bounds entries false opening = record {
          kind = refl;
          order = omega (arith, enough, repair_within_quorum, order_of_opening entries formed.histories);
        } in
        some_is (object_candidate bounds entries) (λ none. none_of_kind false opening
        (plain_is_object_candidate bounds entries ∙ none) opening_may)

    pub base_is_greatest : IsGreatestOfKind bounds entries false (object_base bounds entries)
    base_is_greatest =
        greatest_of_kind_tells false (object_base bounds entries) (plain_is_object_candidate bounds entries ∙ base_is)
