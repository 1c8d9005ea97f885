-- What a replica makes of a request depends on its name, its keys, its histories and its versions alone.
use Rattle.std.proofs.Common.{◌≡◌, ℕ, ◌<◌, Bool, true, false, cond, List, [], ◌∷◌, ◌++◌, length, Option, None, Some, refl, sym, ap, subst, ◌∙◌}
use Rattle.std.specs.Prelude.{find, is_none, nat_le, slice_get}
use Rattle.std.proofs.lemmas.List.{append-nil}
use Rattle.qu_base.specs.declared.party.ClientId.{ClientId}
use Rattle.qu_stamp.specs.Stamp.{is_below}
use Rattle.qu_history.specs.declared.limits.TheConstants.{HISTORY_LIMIT}
use Rattle.qu_history.specs.declared.sets.SetOf.{SetOf}
use Rattle.qu_history.specs.History.{ObjectHistory, latest}
use Rattle.qu_history.specs.Culling.{culled, left_out}
use Rattle.qu_frames.specs.declared.frame.Body.{Body}
use Rattle.qu_frames.specs.declared.frame.Body.TheVariants as body
use Rattle.qu_verdicts.specs.declared.verdict.Verdict.{Verdict}
use Rattle.qu_versions.specs.declared.stored.Stored.{Stored}
use Rattle.qu_versions.specs.Versions.{has_version}
use Rattle.qu_mends.specs.declared.accepted.Accepted.{Accepted}
use Rattle.qu_rows.specs.declared.decision.Decision.{Decision}
use Rattle.qu_rows.specs.declared.decision.Decision.TheVariants.{Answers, Waits}
use Rattle.qu_rows.specs.Rows.{Asked, asked_of, asked_at, is_held, row_unknown, row_thin, row_retry, row_current, row_version, row_full, row_few, row_evidence, decide_act, decide_ask, decide_repair, decision_on}
use Rattle.qu_waiting.specs.Waiting.{TakenRequest}
use Rattle.qu_rows.specs.State.{ReplicaState, without_waiting, one_more}
use Rattle.qu_mends.specs.Table.{candidates_in}
use Rattle.qu_rows.specs.Allowed.{MayAccept, MayAcceptAll, MayDecide}
use Rattle.qu_fitting.specs.Holding.{with_candidate, accept, accept_all}
use Rattle.qu_replica.specs.Growth.{HoldsAlike}
use Rattle.qu_rows.specs.Named.{named}
use Rattle.qu_replica.specs.Step.{shown, reply, with_found, carried_out, decided}

-- ---- decisions

decides_bare : (state : ReplicaState) (asked : Asked) (asks : Body)
    → decision_on state asked asks ≡ decision_on (without_waiting state) asked asks
unfolding decide_act decide_ask decide_repair row_unknown row_thin row_retry row_current row_version row_full row_few row_evidence is_held
decides_bare state asked (body.Act parts) = refl
decides_bare state asked (body.Ask parts) = refl
decides_bare state asked (body.Mend target) = refl

module _ (one other : ReplicaState) (alike : HoldsAlike one other) where
  pub decides_alike : (asked : Asked) (asks : Body) → decision_on one asked asks ≡ decision_on other asked asks
  decides_alike asked asks =
      decides_bare one asked asks
      ∙ (λ i. decision_on (record {
        me = alike.me i;
        keys = alike.keys i;
        kinds = [];
        histories = alike.histories i;
        versions = alike.versions i;
        waiting = [];
        fetching = [];
      }) asked asks)
      ∙ sym (decides_bare other asked asks)

  -- upon the sets as each culls them
  pub decided_alike : (client : ClientId) (number : ℕ) (sets : List SetOf) (asks : Body)
      → decision_on one (asked_at one client number sets asks) asks
      ≡ decision_on other (asked_at other client number sets asks) asks
  decided_alike client number sets asks =
      decides_alike (asked_at one client number sets asks) asks
      ∙ (λ i. decision_on other (asked_of client number (culled (alike.keys i) (alike.me i) sets) asks) asks)

-- ---- what may be accepted, and replies

module _ (one other : ReplicaState) (me : one.me ≡ other.me) (keys : one.keys ≡ other.keys)
    (histories : one.histories ≡ other.histories) where
  pub accept_alike : (accepted : Accepted) → MayAccept one accepted → MayAccept other accepted
  accept_alike accepted may = record {
    known = subst (λ (it : List ObjectHistory). (accepted.object).0 < length it) histories may.known;
    later = subst (λ (it : List ObjectHistory). is_below (latest (candidates_in (slice_get it (accepted.object).0)))
        accepted.candidate.stamp ≡ true) histories may.later;
    room = subst (λ (it : List ObjectHistory).
        length (candidates_in (slice_get it (accepted.object).0)) < HISTORY_LIMIT) histories may.room;
    in_time = may.in_time;
  }

  pub accept_all_alike : (accepted : List Accepted) → MayAcceptAll one accepted → MayAcceptAll other accepted
  accept_all_alike [] may = tt
  accept_all_alike (first ∷ later) may = (accept_alike first may.0, may.1, accept_all_alike later may.2)

  pub may_alike : (decision : Decision) → MayDecide one decision → MayDecide other decision
  may_alike (Answers verdict accepted) may = accept_all_alike accepted may
  may_alike (Waits missing) may = tt

  pub named_alike : (sets : List SetOf) → named one sets ≡ named other sets
  unfolding named
  named_alike sets = λ i. cond (is_none (find (λ (set : SetOf). nat_le (length (histories i)) (set.object).0) sets))
      (left_out (keys i) (me i) sets) []

  pub reply_alike : (client : ClientId) (number round : ℕ) (sets : List SetOf) (verdict : Verdict)
      → reply one client number round sets verdict ≡ reply other client number round sets verdict
  unfolding named shown
  reply_alike client number round sets verdict = λ i. reply (record {
    me = me i;
    keys = keys i;
    kinds = [];
    histories = histories i;
    versions = [];
    waiting = [];
    fetching = [];
  }) client number round sets verdict

-- what is answered with the same histories is the same, whatever else is held
pub answer_alike : (one other : ReplicaState) → one.me ≡ other.me → one.keys ≡ other.keys
    → one.histories ≡ other.histories → (accepted : List Accepted) (client : ClientId) (number round : ℕ)
    (sets : List SetOf) (verdict : Verdict) → reply (accept_all one accepted) client number round sets verdict
    ≡ reply (accept_all other accepted) client number round sets verdict
unfolding accept_all
answer_alike one other me keys histories [] client number round sets verdict =
    reply_alike one other me keys histories client number round sets verdict
answer_alike one other me keys histories (first ∷ later) client number round sets verdict =
    answer_alike (accept one first) (accept other first) me keys
    (ap (with_candidate (first.object).0 first.candidate) histories) later client number round sets verdict

-- ---- what the rows look at

pub rows_alike : (rows state : ReplicaState)
    → rows ≡ without_waiting (record state { versions = state.versions ++ one_more None }) → HoldsAlike rows state
rows_alike rows state is = subst (λ (it : ReplicaState). HoldsAlike it state) (sym is)
    (record { me = refl; keys = refl; histories = refl; versions = append-nil state.versions })

pub rows_found : (rows state : ReplicaState) (stored : Stored) (more : Option Stored) (held : Bool)
    → rows ≡ without_waiting (record state { versions = state.versions ++ one_more more })
    → held ≡ has_version stored.object stored.stamp state.versions → more ≡ cond held None (Some stored)
    → HoldsAlike rows (with_found state stored.object stored.stamp stored.state)
rows_found rows state stored more held is is_held is_more =
    subst (λ (it : ReplicaState). HoldsAlike it (with_found state stored.object stored.stamp stored.state)) (sym is)
    (record {
      me = refl;
      keys = refl;
      histories = refl;
      versions = ap (λ (it : Option Stored). state.versions ++ one_more it) is_more ∙ behind held
          ∙ ap (λ (test : Bool). cond test state.versions (state.versions ++ stored ∷ [])) is_held;
    })
  where
    behind : (held : Bool) → state.versions ++ one_more (cond held None (Some stored))
        ≡ cond held state.versions (state.versions ++ stored ∷ [])
    behind true = append-nil state.versions
    behind false = refl

-- what is decided upon what the rows look at is carried out
pub decided_so : (seen state : ReplicaState) (request : TakenRequest) (decision : Decision) → HoldsAlike seen state
    → decision ≡ decision_on seen (asked_at seen request.client request.number request.sets request.body) request.body
    → decided state request ≡ carried_out state request decision
decided_so seen state request decision alike is =
    ap (carried_out state request)
    (sym (is ∙ decided_alike seen state alike request.client request.number request.sets request.body))
