-- Over a run what is known of the replicas is what they accepted: at each event the letters tell what is new.
use Rattle.std.proofs.Common.{◌≡◌, ℕ, ◌+◌, ◌<◌, List, [], ◌∷◌, length, get_or, cond, Some, inl, inr, refl, sym, ap, subst, ◌∙◌, arith, count_by}
use Rattle.std.specs.Prelude.{slice_get}
use Rattle.std.proofs.lemmas.Option.{slice_get-get_or}
use Rattle.std.proofs.lemmas.List.Sums.{sum_by-cons}
use Rattle.qu_base.specs.declared.party.ObjectId.{ObjectId}
use Rattle.qu_base.specs.declared.party.Party.TheVariants as party
use Rattle.qu_stamp.specs.declared.candidate.Candidate.{Candidate}
use Rattle.qu_history.specs.History.{holds}
use Rattle.qu_frames.specs.declared.frame.Letter.{Letter}
use Rattle.qu_rows.specs.State.{ReplicaState}
use Rattle.qu_replica.specs.Step.{replica_step}
use Rattle.qu_fitting.specs.Fits.{StateFits}
use Rattle.qu_replica.proofs.Fits.FitSteps.{step-fits}
use Rattle.qu_trace.specs.declared.event.Event.{Event}
use Rattle.qu_trace.specs.declared.trace.Entry.{Entry}
use Rattle.qu_trace.specs.declared.trace.Trace.{Trace}
use Rattle.qu_world.specs.Run.{IsRun}
use Rattle.qu_world.specs.State.{WorldState}
use Rattle.qu_world.specs.Step.{world_step}
use Rattle.qu_claims.specs.Accepted.{accepts}
use Rattle.qu_claims.specs.Carried.{offered}
use Rattle.qu_claims.specs.Times.{world_after}
use Rattle.qu_runs.proofs.Events.Entries.{entry_recorded}
use Rattle.qu_runs.proofs.Worlds.OpeningReplicas.{me_is}
use Rattle.qu_runs.proofs.Worlds.WorldGrowth.{world_after-next}
use Rattle.qu_known.specs.Answers.{rounds_answered, rounds_told}
use Rattle.qu_known.specs.Known.{ShownRow, Seen, knows, see_letters, AreKnown, Learned, AreOfBytes}
use Rattle.qu_known.proofs.FitReplicas.{run_offers, replicas_fit}
use Rattle.qu_known.proofs.Happened.{IsQuiet, IsTaken, Happens, ReplicasAnswer, happens}
use Rattle.qu_known.proofs.Replies.{step_shows}
use Rattle.qu_known.proofs.Seeing.{quiet_learned, taken_learned}

module _ (trace : Trace) (is_run : IsRun trace) (bytes : AreOfBytes trace.entries) (count : ℕ)
    (below : count < length trace.entries) (rows : List ShownRow)
    (known : AreKnown (world_after trace count).replicas rows) where
  abbrev old : WorldState
  old = world_after trace count

  quiet : (new : WorldState) (entry : Entry) → IsQuiet old new entry
      → Learned old.replicas new.replicas (see_letters entry.letters (rows, []))
  quiet new entry is =
      subst (Learned old.replicas new.replicas) (sym (is.nothing (rows, [])))
      (subst (λ (them : List ReplicaState). Learned old.replicas them (rows, [])) (sym is.replicas)
      (quiet_learned old.replicas rows known))

  taken : (event : Event) (default : Entry) → event ≡ (get_or trace.entries count default).event
      → (new : WorldState) (entry : Entry) → IsTaken old event new entry
      → Learned old.replicas new.replicas (see_letters entry.letters (rows, []))
  taken event default event_is new entry is =
      let state : ReplicaState = is.state in
      let text : List ℕ = is.text in
      let fits : StateFits state = replicas_fit trace is_run bytes count (omega arith) is.me.0 state is.is_state in
      let are = run_offers trace is_run bytes count default below (party.Replica is.me) text
      (ap (λ (it : Event). offered old it) (sym event_is) ∙ is.offers) in
      subst (λ (letters : List Letter). Learned old.replicas new.replicas (see_letters letters (rows, [])))
      (sym is.letters)
      (subst (λ (them : List ReplicaState). Learned old.replicas them
      (see_letters (replica_step state text).1 (rows, []))) (sym is.replicas)
      (taken_learned old.replicas rows is.me state text known is.is_state
      (me_is trace count is.me.0 state is.is_state) (step-fits state text are fits).0 (step_shows state fits text are)))

  -- what the letters of an entry tell is what its event added
  pub entry_learned : (entry : Entry) → slice_get trace.entries count ≡ Some entry
      → Learned old.replicas (world_after trace (count + 1)).replicas (see_letters entry.letters (rows, []))
  entry_learned entry is_entry =
      let event : Event = (get_or trace.entries count entry).event in
      let next : world_after trace (count + 1) ≡ world_step old event = world_after-next trace count entry below in
      let did : Happens old event (world_step old event) = happens old event in
      let same : did.entry ≡ entry =
      entry_recorded trace is_run count below entry did.entry is_entry
      (ap (λ (it : WorldState). it.entries) next ∙ did.made) in
      subst (λ (it : Entry). Learned old.replicas (world_after trace (count + 1)).replicas
      (see_letters it.letters (rows, []))) same
      (subst (λ (it : WorldState). Learned old.replicas it.replicas (see_letters (did.entry).letters (rows, [])))
      (sym next)
      (elim (did.does) [
        | inl it ↦ quiet (world_step old event) did.entry it
        | inr it ↦ taken event entry refl (world_step old event) did.entry it
      ]))

-- the letters of replicas answer what all letters answer
pub entry_told : (trace : Trace) → IsRun trace → (count : ℕ) → count < length trace.entries → (entry : Entry)
    → slice_get trace.entries count ≡ Some entry → rounds_told entry.letters ≡ rounds_answered entry
unfolding rounds_answered
entry_told trace is_run count below entry is_entry =
    let event : Event = (get_or trace.entries count entry).event in
    let did : Happens (world_after trace count) event (world_step (world_after trace count) event) =
    happens (world_after trace count) event in
    let same : did.entry ≡ entry =
    entry_recorded trace is_run count below entry did.entry is_entry
    (ap (λ (it : WorldState). it.entries) (world_after-next trace count entry below) ∙ did.made) in
    subst (λ (it : Entry). ReplicasAnswer it.letters) same did.answers

-- the same of the letters that the code takes
pub letters_learned : (trace : Trace) → IsRun trace → AreOfBytes trace.entries → (count : ℕ)
    → count < length trace.entries → (rows : List ShownRow) → AreKnown (world_after trace count).replicas rows
    → (entry : Entry) (letters : List Letter) (seen : Seen) → entry ≡ get_or trace.entries count entry
    → letters ≡ entry.letters → see_letters letters (rows, []) ≡ seen
    → Learned (world_after trace count).replicas (world_after trace (count + 1)).replicas seen
letters_learned trace is_run bytes count below rows known entry letters seen entry_is letters_are seen_is =
    subst (Learned (world_after trace count).replicas (world_after trace (count + 1)).replicas)
    (ap (λ (them : List Letter). see_letters them (rows, [])) (sym letters_are) ∙ seen_is)
    (entry_learned trace is_run bytes count below rows known entry
    (slice_get-get_or trace.entries count entry below ∙ ap (λ (it : Entry). Some it) (sym entry_is)))

-- ---- counts

abbrev counted : ObjectId → Candidate → ReplicaState → ℕ
counted object candidate replica = cond (accepts object candidate replica) 1 0

abbrev known_counted : ObjectId → Candidate → ShownRow → ℕ
known_counted object candidate row = cond (knows object candidate row) 1 0

-- as many replicas are known to have accepted a candidate as did
pub count_known : (object : ObjectId) (candidate : Candidate) (replicas : List ReplicaState) (rows : List ShownRow)
    → AreKnown replicas rows
    → count_by (knows object candidate) rows ≡ count_by (accepts object candidate) replicas
count_known object candidate [] [] known = refl
count_known object candidate [] (row ∷ rows) known = absurd known
count_known object candidate (replica ∷ replicas) [] known = absurd known
count_known object candidate (replica ∷ replicas) (row ∷ rows) known =
    sum_by-cons (known_counted object candidate) row rows ∙
    ap (λ (held : List Candidate). cond (holds candidate held) 1 0 + count_by (knows object candidate) rows)
    (known.0.all object) ∙
    ap (λ (many : ℕ). counted object candidate replica + many) (count_known object candidate replicas rows known.1) ∙
    sym (sum_by-cons (counted object candidate) replica replicas)
