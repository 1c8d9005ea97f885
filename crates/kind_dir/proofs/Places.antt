-- Where a search among rising names ends, and what stands there.
use Rattle.std.proofs.Common.{◌≡◌, ℕ, zero, suc, ◌<◌, ◌≤◌, List, [], ◌∷◌, length, get_or, IsTrue, None, Result, Ok, Err, IfOk, IfErr, Less, Equal, Greater, refl, sym, ap, ◌∙◌, arith}
use Rattle.std.specs.List.Sorted.{IsSearchInRange, IsBinarySearchResult}
use Rattle.std.proofs.lemmas.Cmp.{nat_list_cmp_total, alike_right}
use Rattle.kind_dir.specs.Rising.{are_rising}
use Rattle.kind_dir.specs.Places.{IsAt, IsGap}
use Rattle.kind_dir.specs.Order.{order, lower, higher, same_name, rising_at, comparisons_rise}

module _ (name : List ℕ) where
  at_place : (entries : List (List ℕ × ℕ)) (at : ℕ) → at < length entries
      → ((k : ℕ) (default : List ℕ × ℕ) → k < at → order (get_or entries k default).0 name ≡ Less)
      → ((default : List ℕ × ℕ) → order (get_or entries at default).0 name ≡ Equal) → IsAt name entries at
  at_place [] at within before here = absurd (omega arith)
  at_place (entry ∷ later) zero within before here =
      let is = same_name name entry.0 (here entry) in
      record { in_range = within; number = λ default. rw is refl; without = rw is refl }
  at_place (entry ∷ later) (suc at) within before here =
      let below = lower name entry.0 (before 0 entry (omega arith)) in
      let found = at_place later at (omega arith) (λ k default less. before (suc k) default (omega arith)) here in
      record {
        in_range = within;
        number = λ default. rw below.not_it (found.number default);
        without = rw below.not_it (ap (λ (rest : List (List ℕ × ℕ)). entry ∷ rest) found.without);
      }

  at_gap : (entries : List (List ℕ × ℕ)) (at : ℕ) → at ≤ length entries
      → ((k : ℕ) (default : List ℕ × ℕ) → k < at → order (get_or entries k default).0 name ≡ Less)
      → ((k : ℕ) (default : List ℕ × ℕ) → at ≤ k → k < length entries
      → order (get_or entries k default).0 name ≡ Greater)
      → IsGap name entries at
  at_gap [] zero within before after = record { in_range = within; number = refl; with_one = λ number. refl }
  at_gap [] (suc at) within before after = absurd (omega arith)
  at_gap (entry ∷ later) zero within before after =
      let above = higher name entry.0 (after 0 entry (omega arith) (omega arith)) in
      let gap = at_gap later zero (omega arith) (λ k default less. absurd (omega arith))
      (λ k default least most. after (suc k) default (omega arith) (omega arith)) in
      record {
        in_range = within;
        number = rw above.not_it gap.number;
        with_one = λ number. rw above.before refl;
      }
  at_gap (entry ∷ later) (suc at) within before after =
      let below = lower name entry.0 (before 0 entry (omega arith)) in
      let gap = at_gap later at (omega arith) (λ k default less. before (suc k) default (omega arith))
      (λ k default least most. after (suc k) default (omega arith) (omega arith)) in
      record {
        in_range = within;
        number = rw below.not_it gap.number;
        with_one = λ number. rw below.not_before
            (ap (λ (rest : List (List ℕ × ℕ)). entry ∷ rest) (gap.with_one number));
      }

  pub searched : (entries : List (List ℕ × ℕ)) → IsTrue (are_rising None entries) → (result : Result ℕ ℕ)
      → IsSearchInRange result (length entries)
      → IsBinarySearchResult (λ entry. order entry.0 name) entries result
      → record { found : IfOk result (IsAt name entries); absent : IfErr result (IsGap name entries) }
  searched entries rising (Ok at) within here = record {
    found = at_place entries at within (λ k default less.
        sym (alike_right nat_list_cmp_total (get_or entries at default).0 name (get_or entries k default).0
        (here default)) ∙ rising_at None entries rising k at default less within) here;
    absent = tt;
  }
  searched entries rising (Err at) within parted =
      let parts = parted (comparisons_rise name entries rising) in
      record {
        found = tt;
        absent = at_gap entries at within (λ k default less. parts.0 k default (omega arith) less) parts.1;
      }
