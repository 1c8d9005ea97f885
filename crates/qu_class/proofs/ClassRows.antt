-- The class of an object is what its row says, and no other class is.
use Rattle.std.proofs.Common.{◌≡◌, ◌↔◌, ◌≤◌, ℕ, Bool, true, false, ◌&&◌, cond, List, Option, Some, None, length, refl, sym, ap, subst, ◌∙◌, inl, inr, arith}
use Rattle.std.proofs.lemmas.Bool.{false≢true, cases_Bool, and_parts, and_from, leb-true, leb-false, le-leb, true_from_ne_false}
use Rattle.std.proofs.lemmas.Option.{none-some}
use Rattle.qu_base.specs.Bounds.{quorum}
use Rattle.qu_stamp.specs.declared.stamp.Stamp.{Stamp}
use Rattle.qu_stamp.specs.declared.candidate.Candidate.{Candidate}
use Rattle.qu_stamp.specs.Stamp.{is_below, same_stamp}
use Rattle.qu_stamp.proofs.Order.{same_stamp-self, equal_by_same_stamp}
use Rattle.qu_history.specs.History.{ObjectHistory}
use Rattle.qu_history.specs.Sets.{order_of, latest_of, object_candidate, if_method, method_at}
use Rattle.qu_history.proofs.Method.{order_of_most}
use Rattle.qu_class.specs.declared.class.Class.{Class}
use Rattle.qu_class.specs.declared.class.Class.TheVariants.{Method, InlineMethod, Copy, InlineBarrier, Barrier, Needs}
use Rattle.qu_class.specs.Repairable.{barrier_candidate, object_base}
use Rattle.qu_class.specs.Class.{method_of, is_latest, is_full, barrier_class, class_of}
use Rattle.qu_class.specs.Rows.{AreWellFormed, MayBeRepaired, IsGreatestOfKind, IsLatestOfKind, NoneIsLatest, IsClassOf}
use Rattle.qu_class.proofs.OfKind.{plain_is_object_candidate, greatest_of_kind_is, greatest_of_kind_tells, none_of_kind, stamp_at_latest, greatest_at_latest, base_is, base_is_greatest}

pub latest_test : (entries : List ObjectHistory) (candidate : Candidate) → candidate.stamp ≡ latest_of entries
    → is_latest entries candidate ≡ true
latest_test entries candidate latest =
    ap (λ (it : Stamp). same_stamp it (latest_of entries)) latest ∙ same_stamp-self (latest_of entries)

module _ (bounds : ℕ) (entries : List ObjectHistory) (formed : AreWellFormed bounds entries)
    (enough : quorum bounds ≤ length entries) where
  abbrev base : Candidate
  base = object_base bounds entries

  base_greatest : IsGreatestOfKind bounds entries false base
  base_greatest = base_is_greatest bounds entries formed enough

  latest_of_kind : (barrier : Bool) (candidate : Candidate) → IsGreatestOfKind bounds entries barrier candidate
      → is_latest entries candidate ≡ true → IsLatestOfKind bounds entries barrier candidate
  latest_of_kind barrier candidate is test = record {
    greatest = is;
    latest = equal_by_same_stamp candidate.stamp (latest_of entries) test;
  }

  -- the greatest of a kind is not the latest: so none of the kind is
  none_latest_of_kind : (barrier : Bool) (best candidate : Candidate)
      → IsGreatestOfKind bounds entries barrier best → is_latest entries best ≡ false
      → MayBeRepaired bounds entries barrier candidate → is_below candidate.stamp (latest_of entries) ≡ true
  none_latest_of_kind barrier best candidate is not_latest may =
      true_from_ne_false (is_below candidate.stamp (latest_of entries)) (λ not_below. false≢true
      (sym not_latest ∙ latest_test entries best
      (greatest_at_latest bounds entries formed barrier best candidate is may
      (stamp_at_latest bounds entries formed candidate may.order not_below))))

  -- nothing of a kind may be repaired: so none of the kind is the latest
  none_at_all : (candidate : Candidate) → barrier_candidate bounds entries ≡ None
      → MayBeRepaired bounds entries true candidate → is_below candidate.stamp (latest_of entries) ≡ true
  none_at_all candidate none may = absurd (none_of_kind bounds entries formed true candidate none may)

  none_is_latest : is_latest entries base ≡ false
      → ((candidate : Candidate) → MayBeRepaired bounds entries true candidate
      → is_below candidate.stamp (latest_of entries) ≡ true) → NoneIsLatest bounds entries
  none_is_latest not_latest no_barrier candidate counted =
      elim (cases_Bool candidate.stamp.barrier) [
        | inl barrier ↦ no_barrier candidate (record { kind = barrier; order = counted })
        | inr plain ↦ none_latest_of_kind false base candidate base_greatest not_latest
            (record { kind = plain; order = counted })
      ]

  barrier_tells : is_latest entries base ≡ false → (found : Option Candidate) → barrier_candidate bounds entries ≡ found
      → IsClassOf bounds entries (barrier_class bounds entries base.stamp found)
  unfolding barrier_class
  barrier_tells not_latest None none =
      (base, base_greatest, refl, none_is_latest not_latest (λ candidate may. none_at_all candidate none may))
  barrier_tells not_latest (Some barrier) is =
      by_tests (is_latest entries barrier) (is_full bounds entries barrier) refl refl
    where
      greatest : IsGreatestOfKind bounds entries true barrier
      greatest = greatest_of_kind_tells bounds entries formed true barrier is

      by_tests : (latest full : Bool) → is_latest entries barrier ≡ latest → is_full bounds entries barrier ≡ full
          → IsClassOf bounds entries
          (cond (latest && full) Copy (cond latest (InlineBarrier barrier) (Barrier base.stamp)))
      by_tests true true is_latest_one is_full_one = (
        barrier,
        latest_of_kind true barrier greatest is_latest_one,
        leb-true (quorum bounds) (order_of barrier entries) is_full_one,
      )
      by_tests true false is_latest_one not_full = (
        latest_of_kind true barrier greatest is_latest_one,
        leb-false (quorum bounds) (order_of barrier entries) not_full,
      )
      by_tests false full not_latest_one any = (
        base,
        base_greatest,
        refl,
        none_is_latest not_latest
            (λ candidate may. none_latest_of_kind true barrier candidate greatest not_latest_one may),
      )

  -- what the class says is so
  pub class_tells : IsClassOf bounds entries (class_of bounds entries)
  unfolding class_of
  class_tells =
      by_tests (is_latest entries base) (is_full bounds entries base) refl refl
    where
      by_tests : (latest full : Bool) → is_latest entries base ≡ latest → is_full bounds entries base ≡ full
          → IsClassOf bounds entries
          (cond (latest && full) (Method base)
          (cond latest (InlineMethod base)
          (barrier_class bounds entries base.stamp (barrier_candidate bounds entries))))
      by_tests true true is_latest_one is_full_one = (
        latest_of_kind false base base_greatest is_latest_one,
        leb-true (quorum bounds) (order_of base entries) is_full_one,
      )
      by_tests true false is_latest_one not_full = (
        latest_of_kind false base base_greatest is_latest_one,
        leb-false (quorum bounds) (order_of base entries) not_full,
      )
      by_tests false full not_latest any = barrier_tells not_latest (barrier_candidate bounds entries) refl

  -- ---- the class METHOD is what an operation may rest upon

  method_found : (candidate : Candidate) → class_of bounds entries ≡ Method candidate
      → method_at bounds entries ≡ Some candidate
  unfolding method_at if_method
  method_found candidate is =
      let tells : IsLatestOfKind bounds entries false candidate × (quorum bounds ≤ order_of candidate entries) =
      subst (IsClassOf bounds entries) is class_tells in
      let found : object_candidate bounds entries ≡ Some candidate =
      sym (plain_is_object_candidate bounds entries)
      ∙ greatest_of_kind_is bounds entries formed false candidate tells.0.greatest in
      ap (if_method bounds entries) found
      ∙ ap (λ test. cond test (Some candidate) None)
      (and_from _ _ (latest_test entries candidate tells.0.latest)
      (le-leb (quorum bounds) (order_of candidate entries) tells.1))

  method_class : (candidate : Candidate) → method_at bounds entries ≡ Some candidate
      → class_of bounds entries ≡ Method candidate
  unfolding method_at if_method class_of
  method_class candidate given =
      let at_base : if_method bounds entries (Some base) ≡ Some candidate =
      sym (ap (if_method bounds entries) (base_is bounds entries formed enough)) ∙ given in
      elim (cases_Bool (is_latest entries base && is_full bounds entries base)) [
        | inl passes ↦
            let both : Some base ≡ Some candidate =
            sym (ap (λ test. cond test (Some base) None) passes) ∙ at_base in
            let equal : base ≡ candidate = cc in
            ap (λ test. cond test (Method base) (cond (is_latest entries base) (InlineMethod base)
            (barrier_class bounds entries base.stamp (barrier_candidate bounds entries)))) passes
            ∙ ap Method equal
        | inr fails ↦
            let no : None ≡ Some candidate = sym (ap (λ test. cond test (Some base) None) fails) ∙ at_base in
            absurd cc
      ]

-- both tell that a quorum of entries holds it
module _ (bounds : ℕ) (entries : List ObjectHistory) (formed : AreWellFormed bounds entries) where
  enough_where_full : (candidate : Candidate) → is_full bounds entries candidate ≡ true
      → quorum bounds ≤ length entries
  enough_where_full candidate full =
      let most : order_of candidate entries ≤ length entries = order_of_most candidate entries in
      let least : quorum bounds ≤ order_of candidate entries =
      leb-true (quorum bounds) (order_of candidate entries) full in
      omega (arith, most, least)

  no_method : (candidate barrier : Candidate) (prior : Stamp) (latest full : Bool)
      → cond (latest && full) Copy (cond latest (InlineBarrier barrier) (Barrier prior)) ≡ Method candidate → ⊥
  no_method candidate barrier prior true true it = absurd (cc)
  no_method candidate barrier prior true false it = absurd (cc)
  no_method candidate barrier prior false full it = absurd (cc)

  other_class : (candidate : Candidate) (prior : Stamp) (found : Option Candidate)
      → barrier_class bounds entries prior found ≡ Method candidate → ⊥
  unfolding barrier_class
  other_class candidate prior None it = absurd (cc)
  other_class candidate prior (Some barrier) it =
      no_method candidate barrier prior (is_latest entries barrier) (is_full bounds entries barrier) it

  enough_of_class : (candidate : Candidate) → class_of bounds entries ≡ Method candidate
      → quorum bounds ≤ length entries
  unfolding class_of
  enough_of_class candidate is =
      by_tests (is_latest entries (object_base bounds entries)) (is_full bounds entries (object_base bounds entries))
      refl is
    where
      by_tests : (latest full : Bool) → is_full bounds entries (object_base bounds entries) ≡ full
          → cond (latest && full) (Method (object_base bounds entries))
          (cond latest (InlineMethod (object_base bounds entries))
          (barrier_class bounds entries (object_base bounds entries).stamp (barrier_candidate bounds entries)))
          ≡ Method candidate
          → quorum bounds ≤ length entries
      by_tests true true is_full_one it = enough_where_full (object_base bounds entries) is_full_one
      by_tests true false not_full it = absurd (cc)
      by_tests false full any it =
          absurd (other_class candidate (object_base bounds entries).stamp (barrier_candidate bounds entries) it)

  enough_of_method : (found : Option Candidate) (candidate : Candidate)
      → if_method bounds entries found ≡ Some candidate → quorum bounds ≤ length entries
  unfolding if_method
  enough_of_method None candidate is = absurd (cc)
  enough_of_method (Some first) candidate is =
      elim (cases_Bool (is_latest entries first && is_full bounds entries first)) [
        | inl passes ↦ enough_where_full first (and_parts _ _ passes).1
        | inr fails ↦
            let no : None ≡ Some candidate = sym (ap (λ test. cond test (Some first) None) fails) ∙ is in
            absurd (cc)
      ]

  pub method_is : (candidate : Candidate)
      → (class_of bounds entries ≡ Method candidate) ↔ (method_at bounds entries ≡ Some candidate)
  unfolding method_at
  method_is candidate = (
    λ is. method_found bounds entries formed (enough_of_class candidate is) candidate is,
    λ is. method_class bounds entries formed
        (enough_of_method (object_candidate bounds entries) candidate is) candidate is,
  )

pub method_of_class : (bounds : ℕ) (entries : List ObjectHistory) → AreWellFormed bounds entries
    → method_at bounds entries ≡ method_of (class_of bounds entries)
method_of_class bounds entries formed =
    by_class (class_of bounds entries) refl (method_at bounds entries) refl
  where
    none : (class : Class) → class_of bounds entries ≡ class → method_of class ≡ None → (found : Option Candidate)
        → method_at bounds entries ≡ found → found ≡ None
    none class is absent None found_is = refl
    none class is absent (Some candidate) found_is =
        let other : class_of bounds entries ≡ Method candidate =
        (method_is bounds entries formed candidate).1 found_is in
        absurd (none-some candidate (sym absent ∙ ap method_of (sym is ∙ other)))

    by_class : (class : Class) → class_of bounds entries ≡ class → (found : Option Candidate)
        → method_at bounds entries ≡ found → method_at bounds entries ≡ method_of (class_of bounds entries)
    by_class (Method candidate) is found found_is =
        (method_is bounds entries formed candidate).0 is ∙ ap method_of (sym is)
    by_class (InlineMethod candidate) is found found_is =
        found_is ∙ none (InlineMethod candidate) is refl found found_is ∙ ap method_of (sym is)
    by_class Copy is found found_is = found_is ∙ none Copy is refl found found_is ∙ ap method_of (sym is)
    by_class (InlineBarrier candidate) is found found_is =
        found_is ∙ none (InlineBarrier candidate) is refl found found_is ∙ ap method_of (sym is)
    by_class (Barrier prior) is found found_is =
        found_is ∙ none (Barrier prior) is refl found found_is ∙ ap method_of (sym is)
    by_class (Needs object) is found found_is =
        found_is ∙ none (Needs object) is refl found found_is ∙ ap method_of (sym is)

-- where the class tells what is of class METHOD
abbrev pub HasMethod : ℕ → List ObjectHistory → Class → Type 0
HasMethod bounds entries class =
    (candidate : Candidate) → (class ≡ Method candidate) ↔ (method_at bounds entries ≡ Some candidate)

module _ (bounds : ℕ) (entries : List ObjectHistory) where
  none_else : (class : Class) → HasMethod bounds entries class → ((candidate : Candidate) → class ≡ Method candidate
      → ⊥)
      → None ≡ method_at bounds entries
  none_else class has other =
      elim (method_at bounds entries) as (λ (found : Option Candidate). method_at bounds entries ≡ found
      → None ≡ found) [
        | None ↦ λ _. refl
        | Some candidate ↦ λ found. absurd (other candidate ((has candidate).1 found))
      ] refl

  pub method_told : (class : Class) → HasMethod bounds entries class → method_of class ≡ method_at bounds entries
  method_told (Method candidate) has = sym ((has candidate).0 refl)
  method_told (InlineMethod candidate) has = none_else (InlineMethod candidate) has (λ it is. absurd cc)
  method_told Copy has = none_else Copy has (λ it is. absurd cc)
  method_told (InlineBarrier candidate) has = none_else (InlineBarrier candidate) has (λ it is. absurd cc)
  method_told (Barrier prior) has = none_else (Barrier prior) has (λ it is. absurd cc)
  method_told (Needs object) has = none_else (Needs object) has (λ it is. absurd cc)

-- ---- a copy

copy_of_barrier : (bounds : ℕ) (entries : List ObjectHistory) (prior : Stamp) (found : Option Candidate)
    → barrier_class bounds entries prior found ≡ Copy → quorum bounds ≤ length entries
unfolding barrier_class
copy_of_barrier bounds entries prior None is = absurd (cc)
copy_of_barrier bounds entries prior (Some barrier) is =
    by_tests (is_latest entries barrier) (is_full bounds entries barrier) refl is
  where
    by_tests : (latest full : Bool) → is_full bounds entries barrier ≡ full
        → cond (latest && full) Copy (cond latest (InlineBarrier barrier) (Barrier prior)) ≡ Copy
        → quorum bounds ≤ length entries
    by_tests true true is_full_one copy =
        omega (arith, leb-true (quorum bounds) (order_of barrier entries) is_full_one, order_of_most barrier entries)
    by_tests true false not_full copy = absurd (cc)
    by_tests false full any copy = absurd (cc)

-- what is of class COPY has a quorum of entries
pub copy_has_quorum : (bounds : ℕ) (entries : List ObjectHistory) → class_of bounds entries ≡ Copy
    → quorum bounds ≤ length entries
unfolding class_of
copy_has_quorum bounds entries is =
    by_tests (is_latest entries base) (is_full bounds entries base) is
  where
    base : Candidate
    base = object_base bounds entries

    by_tests : (latest full : Bool)
        → cond (latest && full) (Method base)
        (cond latest (InlineMethod base)
        (barrier_class bounds entries base.stamp (barrier_candidate bounds entries))) ≡ Copy
        → quorum bounds ≤ length entries
    by_tests true true copy = absurd (cc)
    by_tests true false copy = absurd (cc)
    by_tests false full copy = copy_of_barrier bounds entries base.stamp (barrier_candidate bounds entries) copy
