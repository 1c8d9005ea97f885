-- The histories of a replica are its own, and they stay so when it accepts a candidate.
use Rattle.std.proofs.Common.{◌≡◌, ℕ, zero, suc, ◌+◌, ◌≤◌, Bool, true, ◌&&◌, cond, List, [], ◌∷◌, ◌++◌, refl, ap, ◌∙◌}
use Rattle.std.specs.Prelude.{◌==◌, nat_le, slice_get}
use Rattle.std.proofs.lemmas.Bool.{and_parts, and_from, le-leb, eq-eqb}
use Rattle.qu_base.specs.declared.party.ReplicaId.{ReplicaId}
use Rattle.qu_seal.specs.Keys.{Ring}
use Rattle.qu_stamp.specs.declared.stamp.Stamp.{Stamp}
use Rattle.qu_stamp.specs.declared.limits.TheConstants.{LAST_TIME}
use Rattle.qu_stamp.specs.declared.candidate.Candidate.{Candidate}
use Rattle.qu_stamp.specs.Stamp.{opening_stamp, is_below}
use Rattle.qu_stamp.specs.Candidate.{opening}
use Rattle.qu_stamp.proofs.Order.{is_below-self}
use Rattle.qu_history.specs.History.{ObjectHistory, is_history, latest, greatest_stamp}
use Rattle.qu_history.proofs.Rising.{is_history_opening, is_history_push, latest_push}
use Rattle.qu_objects.specs.declared.kind.KindName.{KindName}
use Rattle.qu_mends.specs.declared.accepted.Accepted.{Accepted}
use Rattle.qu_rows.specs.State.{ReplicaState, is_own, are_own, AreHistories}
use Rattle.qu_mends.specs.Table.{candidates_in}
use Rattle.qu_fitting.specs.Holding.{with_candidate, opening_histories, replica_at_start, accept}
use Rattle.qu_rows.specs.Allowed.{MayAccept}

-- a history stays its replica's own where a later candidate in time follows
is_own_push : (me : ReplicaId) (number : ℕ) (history : ObjectHistory) (candidate : Candidate)
    → is_own me number history ≡ true → is_below (latest history.candidates) candidate.stamp ≡ true
    → candidate.stamp.time ≤ LAST_TIME
    → is_own me number (record history { candidates = history.candidates ++ candidate ∷ [] }) ≡ true
unfolding is_own
is_own_push me number history candidate own later in_time =
    let last : (((history.object).0 == number && (history.replica).0 == me.0 && is_history history.candidates)
    ≡ true) × (nat_le (latest history.candidates).time LAST_TIME ≡ true) = and_parts _ _ own in
    let third : (((history.object).0 == number && (history.replica).0 == me.0) ≡ true)
    × (is_history history.candidates ≡ true) = and_parts _ _ last.0 in
    and_from _ _
    (and_from _ _ third.0 (is_history_push history.candidates candidate third.1 later))
    (ap (λ (stamp : Stamp). nat_le stamp.time LAST_TIME) (latest_push history.candidates candidate third.1 later)
    ∙ le-leb _ _ in_time)

-- `place` is that of the object among these histories
pub are_own-with_candidate : (me : ReplicaId) (first place : ℕ) (candidate : Candidate)
    (histories : List ObjectHistory) → are_own me first histories ≡ true
    → is_below (latest (candidates_in (slice_get histories place))) candidate.stamp ≡ true
    → candidate.stamp.time ≤ LAST_TIME → are_own me first (with_candidate place candidate histories) ≡ true
unfolding are_own with_candidate
are_own-with_candidate me first place candidate [] own later in_time = own
are_own-with_candidate me first zero candidate (history ∷ histories) own later in_time =
    let parts : (is_own me first history ≡ true) × (are_own me (first + 1) histories ≡ true) = and_parts _ _ own in
    and_from _ _ (is_own_push me first history candidate parts.0 later in_time) parts.1
are_own-with_candidate me first (suc place) candidate (history ∷ histories) own later in_time =
    let parts : (is_own me first history ≡ true) × (are_own me (first + 1) histories ≡ true) = and_parts _ _ own in
    and_from _ _ parts.0 (are_own-with_candidate me (first + 1) place candidate histories parts.1 later in_time)

pub accept-histories : (state : ReplicaState) (accepted : Accepted) → AreHistories state
    → MayAccept state accepted → AreHistories (accept state accepted)
accept-histories state accepted own may =
    are_own-with_candidate state.me 0 (accepted.object).0 accepted.candidate state.histories own may.later may.in_time

is_own-opening : (me : ReplicaId) (number : ℕ)
    → is_own me number (record { object = record { 0 = number }; replica = me; candidates = opening ∷ [] }) ≡ true
unfolding is_own greatest_stamp
is_own-opening me number =
    and_from _ _ (and_from _ _ (and_from _ _ (eq-eqb number number refl) (eq-eqb me.0 me.0 refl)) is_history_opening)
    (ap (λ (above : Bool). nat_le (cond above opening_stamp opening_stamp).time LAST_TIME)
    (is_below-self opening_stamp))

pub are_own_opening : (me : ReplicaId) (first : ℕ) (kinds : List KindName)
    → are_own me first (opening_histories me first kinds) ≡ true
unfolding are_own opening_histories
are_own_opening me first [] = refl
are_own_opening me first (kind ∷ kinds) = and_from _ _ (is_own-opening me first) (are_own_opening me (first + 1) kinds)

pub opening-histories : (me : ReplicaId) (keys : Ring) (kinds : List KindName)
    → AreHistories (replica_at_start me keys kinds)
opening-histories me keys kinds = are_own_opening me 0 kinds
