-- The histories of a replica are its own.
use Rattle.std.proofs.Common.{◌≡◌, ℕ, zero, suc, ◌+◌, ◌≤◌, true, ◌&&◌, IsTrue, List, [], ◌∷◌, Some, sym, ap, ◌∙◌, arith, add-zero, zero-add}
use Rattle.std.specs.Prelude.{◌==◌, nat_le, slice_get}
use Rattle.std.proofs.lemmas.Bool.{and_parts, leb-true, eqb-true}
use Rattle.std.proofs.lemmas.Option.{none-some, same_Some}
use Rattle.qu_base.specs.declared.party.ReplicaId.{ReplicaId}
use Rattle.qu_stamp.specs.declared.limits.TheConstants.{LAST_TIME}
use Rattle.qu_history.specs.History.{ObjectHistory, is_history, latest}
use Rattle.qu_rows.specs.State.{ReplicaState, is_own, are_own, AreHistories}

pub record IsOwn (me : ReplicaId) (number : ℕ) (history : ObjectHistory) : Type 0 where
  pub object : (history.object).0 ≡ number
  pub replica : (history.replica).0 ≡ me.0
  pub rises : IsTrue (is_history history.candidates)
  pub in_time : (latest history.candidates).time ≤ LAST_TIME

pub IsOwn_from : (me : ReplicaId) (number : ℕ) (history : ObjectHistory) → is_own me number history ≡ true
    → IsOwn me number history
unfolding is_own
IsOwn_from me number history own =
    let last : (((history.object).0 == number && (history.replica).0 == me.0 && is_history history.candidates)
    ≡ true) × (nat_le (latest history.candidates).time LAST_TIME ≡ true) = and_parts _ _ own in
    let third : (((history.object).0 == number && (history.replica).0 == me.0) ≡ true)
    × (is_history history.candidates ≡ true) = and_parts _ _ last.0 in
    let second : (((history.object).0 == number) ≡ true) × (((history.replica).0 == me.0) ≡ true) =
    and_parts _ _ third.0 in
    record {
      object = eqb-true _ _ second.0;
      replica = eqb-true _ _ second.1;
      rises = third.1;
      in_time = leb-true _ _ last.1;
    }

are_own-at : (me : ReplicaId) (first place : ℕ) (histories : List ObjectHistory) (history : ObjectHistory)
    → are_own me first histories ≡ true → slice_get histories place ≡ Some history → IsOwn me (first + place) history
unfolding are_own
are_own-at me first place [] history own found = absurd (none-some history found)
are_own-at me first zero (here ∷ histories) history own found =
    let parts : (is_own me first here ≡ true) × (are_own me (first + 1) histories ≡ true) = and_parts _ _ own in
    rw add-zero (IsOwn_from me first history
    (ap (λ (it : ObjectHistory). is_own me first it) (sym (same_Some here history found)) ∙ parts.0))
are_own-at me first (suc place) (here ∷ histories) history own found =
    let parts : (is_own me first here ≡ true) × (are_own me (first + 1) histories ≡ true) = and_parts _ _ own in
    let count : (first + 1) + place ≡ first + suc place = omega arith in
    rw (← count) (are_own-at me (first + 1) place histories history parts.1 found)

-- the history of an object, where every history is the replica's own
pub own_history : (state : ReplicaState) (place : ℕ) (history : ObjectHistory) → AreHistories state
    → slice_get state.histories place ≡ Some history → IsOwn state.me place history
own_history state place history own found =
    rw zero-add at (are_own-at state.me 0 place state.histories history own found)
