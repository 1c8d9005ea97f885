-- A barrier rests upon the object candidate.
use Rattle.std.proofs.Common.{◌≡◌, ℕ, ◌&&◌, Bool, true, false, cond, List, Option, None, Some, refl, sym, ap, subst}
use Rattle.qu_base.specs.declared.party.ObjectId.{ObjectId}
use Rattle.qu_stamp.specs.declared.stamp.Stamp.{Stamp}
use Rattle.qu_stamp.specs.declared.candidate.Candidate.{Candidate}
use Rattle.qu_history.specs.History.{ObjectHistory}
use Rattle.qu_history.specs.declared.sets.SetOf.{SetOf}
use Rattle.qu_history.specs.Sets.{entries_of}
use Rattle.qu_class.specs.declared.class.Class.{Class}
use Rattle.qu_class.specs.declared.class.Class.TheVariants.{Method, InlineMethod, Copy, InlineBarrier, Barrier, Needs}
use Rattle.qu_class.specs.Class.{is_latest, is_full, barrier_class, class_of, with_members, class_in}
use Rattle.qu_class.specs.Repairable.{barrier_candidate, object_base}
use Rattle.qu_class.proofs.GroupRule.{inline_by}

abbrev IsOf : Candidate → Class → Type 0
IsOf base (Method candidate) = candidate ≡ base
IsOf base (InlineMethod candidate) = candidate ≡ base
IsOf base Copy = Unit {0}
IsOf base (InlineBarrier candidate) = Unit {0}
IsOf base (Barrier prior) = prior ≡ base.stamp
IsOf base (Needs object) = Unit {0}

module _ (bounds : ℕ) (entries : List ObjectHistory) where
  abbrev base : Candidate
  base = object_base bounds entries

  of_barrier : (found : Option Candidate) → IsOf base (barrier_class bounds entries base.stamp found)
  unfolding barrier_class
  of_barrier None = refl
  of_barrier (Some barrier) =
      by_tests (is_latest entries barrier && is_full bounds entries barrier) (is_latest entries barrier)
    where
      by_tests : (full latest : Bool)
          → IsOf base (cond full Copy (cond latest (InlineBarrier barrier) (Barrier base.stamp)))
      by_tests true latest = tt
      by_tests false true = tt
      by_tests false false = refl

  of_class : IsOf base (class_of bounds entries)
  unfolding class_of
  of_class = by_tests (is_latest entries base && is_full bounds entries base) (is_latest entries base)
    where
      by_tests : (full latest : Bool) → IsOf base (cond full (Method base) (cond latest (InlineMethod base)
          (barrier_class bounds entries base.stamp (barrier_candidate bounds entries))))
      by_tests true latest = refl
      by_tests false true = refl
      by_tests false false = of_barrier (barrier_candidate bounds entries)

module _ (bounds : ℕ) (sets : List SetOf) (object : ObjectId) where
  abbrev chosen : Candidate
  chosen = object_base bounds (entries_of object sets)

  of_members : (class : Class) → IsOf chosen class → IsOf chosen (with_members bounds sets class)
  unfolding with_members
  of_members (Method candidate) is = is
  of_members (InlineMethod candidate) is =
      inline_by bounds sets (IsOf chosen) candidate (λ absent first. tt) (λ none all. is)
      (λ none differ. ap (λ (it : Candidate). it.stamp) is)
  of_members Copy is = tt
  of_members (InlineBarrier barrier) is = tt
  of_members (Barrier prior) is = is
  of_members (Needs member) is = tt

  of_class_in : IsOf chosen (class_in bounds sets object)
  unfolding class_in
  of_class_in = of_members (class_of bounds (entries_of object sets)) (of_class bounds (entries_of object sets))

  pub barrier_has_base : (prior : Stamp) → Barrier prior ≡ class_in bounds sets object → prior ≡ chosen.stamp
  barrier_has_base prior is = subst (IsOf chosen) (sym is) of_class_in
