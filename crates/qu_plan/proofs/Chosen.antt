-- What is chosen on an object may be repaired, and the objects of its group are read.
use Rattle.std.proofs.Common.{◌≡◌, ◌≤◌, ◌⊎◌, ◌||◌, ℕ, Bool, true, false, not, leb, List, [], ◌∷◌, filter, Option, length, refl, sym, ap, ◌∙◌, inl, inr, arith}
use Rattle.std.specs.Prelude.{unwrap_or}
use Rattle.std.specs.List.{flat_map, list_any}
use Rattle.std.proofs.lemmas.Bool.{false≢true, cases_Bool, and_parts, and_from, not-true, not_from_false, le-leb, leb-true}
use Rattle.std.proofs.lemmas.List.Folds.{list_any-append}
use Rattle.qu_base.specs.Bounds.{quorum, repair}
use Rattle.qu_base.specs.declared.party.ObjectId.{ObjectId}
use Rattle.qu_stamp.specs.declared.candidate.Candidate.{Candidate}
use Rattle.qu_stamp.specs.Candidate.{opening}
use Rattle.qu_stamp.specs.Stamp.{is_below}
use Rattle.qu_stamp.proofs.Order.{is_before_by_stamp}
use Rattle.qu_history.specs.History.{ObjectHistory, holds}
use Rattle.qu_history.specs.Sets.{entries_of, order_of, candidates_of, greatest}
use Rattle.qu_history.specs.declared.sets.SetOf.{SetOf}
use Rattle.qu_history.proofs.Greatest.{greatest_cases, holds-filter, holds_in_filter}
use Rattle.qu_class.proofs.Tested.{held_passes}
use Rattle.qu_plan.specs.Beside.{is_repairable}
use Rattle.qu_plan.specs.Chosen.{is_skipped, may_be_chosen, greatest_chosen, chosen_on}
use Rattle.qu_plan.specs.Beside.{has_member, is_beside, reads}
use Rattle.qu_plan.specs.Linking.{Linking}
use Rattle.qu_class.specs.Rows.{AreWellFormed, MayBeRepaired}
use Rattle.qu_class.proofs.OfKind.{held_by_order, held_if_repairable, order_of_opening, some_repair, repair_within_quorum}

-- a test of what an entry holds
pub any_of_entries : (test : Candidate → Bool) (entries : List ObjectHistory)
    → list_any test (candidates_of entries)
    ≡ list_any (λ (entry : ObjectHistory). list_any test entry.candidates) entries
unfolding candidates_of
any_of_entries test [] = refl
any_of_entries test (entry ∷ later) =
    list_any-append test entry.candidates (flat_map (λ (it : ObjectHistory). it.candidates) later)
    ∙ ap (λ (rest : Bool). list_any test entry.candidates || rest) (any_of_entries test later)

module _ (bounds : ℕ) (sets : List SetOf) (link : Linking) (object : ObjectId) where
  abbrev entries : List ObjectHistory
  entries = entries_of object sets

  abbrev kept : List Candidate
  kept = filter (may_be_chosen bounds sets link object) (candidates_of entries)

  -- what is found is held, and may be chosen; else the opening candidate is chosen
  pub record IsFound (candidate : Candidate) : Type 0 where
    pub held : holds candidate (candidates_of entries) ≡ true
    pub may : may_be_chosen bounds sets link object candidate ≡ true

  pub chosen_cases : (chosen_on bounds sets link object ≡ opening) × (kept ≡ [])
      ⊎ IsFound (chosen_on bounds sets link object)
  unfolding chosen_on greatest_chosen
  chosen_cases =
      elim (greatest_cases kept) [
        | inl none ↦ inl (ap (λ (it : Option Candidate). unwrap_or it opening) none.0, none.1)
        | inr found ↦
            let both = holds-filter (may_be_chosen bounds sets link object) found.0 (candidates_of entries)
            (found.2).held in
            let is : unwrap_or (greatest kept) opening ≡ found.0 =
            ap (λ (it : Option Candidate). unwrap_or it opening) found.1 in
            inr (record {
              held = ap (λ (it : Candidate). holds it (candidates_of entries)) is ∙ both.0;
              may = ap (may_be_chosen bounds sets link object) is ∙ both.1;
            })
      ]

  -- the object of a member of its group is read
  pub chosen_reads : (other : ObjectId) → has_member other (chosen_on bounds sets link object) ≡ true
      → reads bounds sets object other ≡ true
  unfolding reads
  chosen_reads other has =
      elim chosen_cases [
        | inl at_first ↦ absurd (false≢true (sym (ap (has_member other) at_first.0) ∙ has))
        | inr found ↦
            let shown : is_repairable bounds sets object (chosen_on bounds sets link object) ≡ true =
            (and_parts (is_repairable bounds sets object (chosen_on bounds sets link object))
            (not (is_skipped bounds sets link object (chosen_on bounds sets link object))) found.may).0 in
            sym (any_of_entries (is_beside bounds sets object other) entries)
            ∙ held_passes (is_beside bounds sets object other) (chosen_on bounds sets link object)
            (candidates_of entries) found.held
            (and_from (has_member other (chosen_on bounds sets link object))
            (is_repairable bounds sets object (chosen_on bounds sets link object)) has shown)
      ]

  -- what may be repaired and is above it is skipped
  pub chosen_greatest : AreWellFormed bounds entries → (other : Candidate) → MayBeRepaired bounds entries false other
      → is_below (chosen_on bounds sets link object).stamp other.stamp ≡ true
      → is_skipped bounds sets link object other ≡ true
  unfolding chosen_on greatest_chosen
  chosen_greatest formed other may above = elim (cases_Bool (is_skipped bounds sets link object other)) [
    | inl skipped ↦ skipped
    | inr not_skipped ↦
        let shown : is_repairable bounds sets object other ≡ true =
        and_from (not other.stamp.barrier) (leb (repair bounds) (order_of other entries))
        (not_from_false other.stamp.barrier may.kind) (le-leb (repair bounds) (order_of other entries) may.order) in
        let here : holds other kept ≡ true =
        holds_in_filter (may_be_chosen bounds sets link object) other (candidates_of entries)
        (held_if_repairable bounds entries formed other may.order)
        (and_from (is_repairable bounds sets object other) (not (is_skipped bounds sets link object other)) shown
        (not_from_false (is_skipped bounds sets link object other) not_skipped)) in
        elim (greatest_cases kept) [
          | inl none ↦ absurd (false≢true (ap (holds other) (sym none.1) ∙ here))
          | inr found ↦
              let is : unwrap_or (greatest kept) opening ≡ found.0 =
              ap (λ (it : Option Candidate). unwrap_or it opening) found.1 in
              absurd (false≢true (sym ((found.2).above other here) ∙ is_before_by_stamp found.0 other
              (ap (λ (it : Candidate). is_below it.stamp other.stamp) (sym is) ∙ above)))
        ]
  ]

  module _ (formed : AreWellFormed bounds entries) (enough : quorum bounds ≤ length entries) where
    opening_order : repair bounds ≤ order_of opening entries
    opening_order =
        omega (arith, enough, repair_within_quorum bounds entries formed, order_of_opening entries formed.histories)

    opening_may : may_be_chosen bounds sets link object opening ≡ true
    unfolding is_skipped
    opening_may =
        and_from (is_repairable bounds sets object opening) (not (is_skipped bounds sets link object opening))
        (le-leb (repair bounds) (order_of opening entries) opening_order) refl

    opening_kept : holds opening kept ≡ true
    opening_kept =
        holds_in_filter (may_be_chosen bounds sets link object) opening (candidates_of entries)
        (held_by_order opening entries (omega (arith, some_repair bounds entries formed, opening_order)))
        opening_may

    -- there is one, which may be repaired
    pub chosen_sound : MayBeRepaired bounds entries false (chosen_on bounds sets link object)
    chosen_sound =
        elim chosen_cases [
          | inl none ↦ absurd (false≢true (ap (holds opening) (sym none.1) ∙ opening_kept))
          | inr found ↦
              let chosen : Candidate = chosen_on bounds sets link object in
              let shown = (and_parts (is_repairable bounds sets object chosen)
              (not (is_skipped bounds sets link object chosen)) found.may).0 in
              let parts = and_parts (not chosen.stamp.barrier) (leb (repair bounds) (order_of chosen entries)) shown in
              record {
                kind = not-true chosen.stamp.barrier parts.0;
                order = leb-true (repair bounds) (order_of chosen entries) parts.1;
              }
        ]
