-- A candidate with a time after the last is not held.
use Rattle.std.proofs.Common.{ℕ, [], ◌∷◌, ◌≡◌, ◌+◌, ◌&&◌, cond, ap, ◌≤◌, Bool, true, false, List, Option, None, Some, refl, sym, ◌∙◌, arith, inl, inr}
use Rattle.std.specs.Prelude.{find, nat_le, slice_get, is_some, option_map}
use Rattle.std.specs.List.{list_all}
use Rattle.std.proofs.lemmas.Bool.{and_left, cases_Bool, cases_lt, false≢true, leb-true, and_right}
use Rattle.std.proofs.lemmas.Option.{none-some}
use Rattle.qu_base.specs.declared.party.ObjectId.{ObjectId}
use Rattle.qu_stamp.specs.declared.limits.TheConstants.{LAST_TIME}
use Rattle.qu_stamp.specs.declared.candidate.Candidate.{Candidate}
use Rattle.qu_stamp.proofs.Order.{is_below_by_time}
use Rattle.qu_history.specs.History.{ObjectHistory, latest, holds}
use Rattle.qu_history.proofs.Stamps.{not_below_latest}
use Rattle.qu_rows.specs.State.{ReplicaState, own_candidates}
use Rattle.qu_mends.specs.Table.{candidates_in}
use Rattle.qu_mends.specs.Mending.{is_held_in}
use Rattle.qu_mends.specs.declared.seen.Seen.{Seen}
use Rattle.qu_rows.specs.Rows.{Asked, stamp_after, group_seen, is_held}
use Rattle.qu_rows.specs.State.{AreHistories}
use Rattle.qu_rows.proofs.Own.{own_history}

-- what a history of the replica holds has a time up to the last
held_in_time : (candidates : List Candidate) (held : Candidate) → (latest candidates).time ≤ LAST_TIME
    → holds held candidates ≡ true → held.stamp.time ≤ LAST_TIME
held_in_time candidates held in_time is_held =
    elim (cases_lt (latest candidates).time held.stamp.time) [
      | inl above ↦ absurd
          (false≢true (sym (not_below_latest candidates held is_held)
          ∙ is_below_by_time (latest candidates) held.stamp above))
      | inr within ↦ omega arith
    ]

pub own_in_time : (state : ReplicaState) (object : ObjectId) (held : Candidate) → AreHistories state
    → holds held (own_candidates state object) ≡ true → held.stamp.time ≤ LAST_TIME
own_in_time state object held own is_held =
    elim (slice_get state.histories object.0) as (λ (found : Option ObjectHistory). slice_get state.histories
    object.0 ≡ found → holds held (candidates_in found) ≡ true → held.stamp.time ≤ LAST_TIME) [
      | None ↦ λ _ holds_it. absurd (false≢true holds_it)
      | Some history ↦ λ is_history holds_it. held_in_time history.candidates held
          (own_history state object.0 history own is_history).in_time holds_it
    ] refl is_held

fresh_not_held : (state : ReplicaState) (asked : Asked) (group : List (ObjectId × ℕ)) (one : Seen)
    (base : Candidate) → AreHistories state → LAST_TIME ≤ one.latest.time
    → holds (record { stamp = stamp_after asked one.latest; prior = base.stamp; group = group })
    (own_candidates state one.object) ≡ false
fresh_not_held state asked group one base own spent =
    let fresh : Candidate = record { stamp = stamp_after asked one.latest; prior = base.stamp; group = group } in
    elim (cases_Bool (holds fresh (own_candidates state one.object))) [
      | inl is_held ↦
          let in_time : one.latest.time + 1 ≤ LAST_TIME = own_in_time state one.object fresh own is_held in
          absurd (omega arith)
      | inr not_held ↦ not_held
    ]

-- so a replica holds no fresh candidate of an object whose time is spent
spent_not_held : (state : ReplicaState) (asked : Asked) (group : List (ObjectId × ℕ)) (one : Seen)
    → AreHistories state → LAST_TIME ≤ one.latest.time → is_held state asked group one ≡ false
unfolding is_held
spent_not_held state asked group one own spent =
    elim (one.method) as (λ (base : Option Candidate). is_held_in (own_candidates state one.object)
    (option_map (λ (it : Candidate). let fresh : Candidate = record {
      stamp = stamp_after asked one.latest;
      prior = it.stamp;
      group = group;
    } in fresh) base) ≡ false) [
      | None ↦ refl
      | Some base ↦ fresh_not_held state asked group one base own spent
    ]

-- and where one of some objects is such, it does not hold those of all
not_all_held : (state : ReplicaState) (asked : Asked) (group : List (ObjectId × ℕ)) (seen : List Seen) (spent : Seen)
    → AreHistories state → find (λ (one : Seen). nat_le LAST_TIME one.latest.time) seen ≡ Some spent
    → list_all (is_held state asked group) seen ≡ false
not_all_held state asked group [] spent own found = absurd (none-some spent found)
not_all_held state asked group (one ∷ later) spent own found =
    by (nat_le LAST_TIME one.latest.time) refl found (not_all_held state asked group later spent own)
  where
    by : (test : Bool) → nat_le LAST_TIME one.latest.time ≡ test
        → cond test (Some one) (find (λ (it : Seen). nat_le LAST_TIME it.latest.time) later) ≡ Some spent
        → (find (λ (it : Seen). nat_le LAST_TIME it.latest.time) later ≡ Some spent
        → list_all (is_held state asked group) later ≡ false)
        → (is_held state asked group one && list_all (is_held state asked group) later) ≡ false
    by true is here so_far = and_left _ _ (spent_not_held state asked group one own (leb-true _ _ is))
    by false is there so_far =
        ap (λ (all : Bool). is_held state asked group one && all) (so_far there) ∙ and_right _ false refl

pub none_held : (state : ReplicaState) (asked : Asked) (seen : List Seen) → AreHistories state
    → is_some (find (λ (one : Seen). nat_le LAST_TIME one.latest.time) seen) ≡ true
    → list_all (is_held state asked (group_seen asked seen)) seen ≡ false
none_held state asked seen own found = by (find (λ (one : Seen). nat_le LAST_TIME one.latest.time) seen) refl found
  where
    by : (spent : Option Seen) → find (λ (one : Seen). nat_le LAST_TIME one.latest.time) seen ≡ spent
        → is_some spent ≡ true → list_all (is_held state asked (group_seen asked seen)) seen ≡ false
    by None none is = absurd (false≢true is)
    by (Some spent) found is = not_all_held state asked (group_seen asked seen) seen spent own found
