-- A world forgets nothing: what is accepted, established or decided stays so.
use Rattle.std.proofs.Common.{◌≡◌, ℕ, zero, suc, ◌+◌, ◌<◌, ◌≤◌, Bool, true, false, cond, List, [], ◌∷◌, length, take, get_or, refl, ap, ◌∙◌, arith, inl, inr}
use Rattle.std.specs.Prelude.{count_by}
use Rattle.std.specs.List.{list_any, AllZip}
use Rattle.std.proofs.lemmas.Bool.{false≢true, or_cases, or_left, or_right}
use Rattle.std.proofs.lemmas.List.{map-append, take_more, take-map, take-take}
use Rattle.std.proofs.lemmas.List.Folds.{list_any-append}
use Rattle.std.proofs.lemmas.List.Sums.{sum_by-cons}
use Rattle.qu_base.specs.declared.party.ObjectId.{ObjectId}
use Rattle.qu_stamp.specs.declared.candidate.Candidate.{Candidate}
use Rattle.qu_history.specs.History.{holds}
use Rattle.qu_rows.specs.State.{ReplicaState, own_candidates}
use Rattle.qu_replica.specs.Growth.{Grows}
use Rattle.qu_trace.specs.declared.event.Event.{Event}
use Rattle.qu_trace.specs.declared.trace.Entry.{Entry}
use Rattle.qu_trace.specs.declared.trace.Trace.{Trace}
use Rattle.qu_world.specs.State.{WorldState, opening_world}
use Rattle.qu_world.specs.Step.{world_step}
use Rattle.qu_world.specs.Growth.{GrowsTo}
use Rattle.qu_world.specs.Run.{run_from, run, events_of}
use Rattle.qu_world.proofs.WorldGrowth.{grows_to-self, run_from-grows}
use Rattle.qu_claims.specs.Accepted.{accepts, is_accepted}
use Rattle.qu_claims.specs.Times.{world_after}
use Rattle.qu_world.proofs.RunLaws.{run_more}

-- the world after one event more
pub world_after-next : (trace : Trace) (count : ℕ) (default : Entry) → count < length trace.entries
    → world_after trace (count + 1) ≡ world_step (world_after trace count) (get_or trace.entries count default).event
world_after-next trace count default below =
    ap (λ (entries : List Entry). run trace.setup (events_of entries)) (take_more trace.entries count default below) ∙
    ap (run trace.setup) (map-append (λ (entry : Entry). entry.event) (take count trace.entries)
    (get_or trace.entries count default ∷ [])) ∙
    run_more (opening_world trace.setup) (events_of (take count trace.entries))
    (get_or trace.entries count default).event

pub world_after-none : (trace : Trace) → world_after trace 0 ≡ opening_world trace.setup
unfolding run_from
world_after-none trace = refl

take-grows : (world : WorldState) (count : ℕ) (events : List Event) → GrowsTo (run_from world (take count events))
    (run_from world events)
unfolding run_from
take-grows world zero events = run_from-grows world events
take-grows world (suc count) [] = grows_to-self world
take-grows world (suc count) (event ∷ later) = take-grows (world_step world event) count later

-- a later world of a run has what an earlier one had
pub world_after-grows : (trace : Trace) (earlier later : ℕ) → earlier ≤ later
    → GrowsTo (world_after trace earlier) (world_after trace later)
world_after-grows trace earlier later order =
    let events : take earlier (events_of (take later trace.entries)) ≡ events_of (take earlier trace.entries) =
    take-map (λ (entry : Entry). entry.event) earlier (take later trace.entries)
    ∙ ap events_of (take-take earlier later trace.entries order) in
    rw events at (take-grows (opening_world trace.setup) earlier (events_of (take later trace.entries)))

-- ---- what is accepted, established, decided

-- the new replica accepted at least what the old one did
abbrev pub AcceptsMore : ReplicaState → ReplicaState → Type 0
AcceptsMore old new = (object : ObjectId) (candidate : Candidate) → accepts object candidate old ≡ true
    → accepts object candidate new ≡ true

pub record HasMore (old new : WorldState) : Type 0 where
  pub setup : new.setup ≡ old.setup
  pub replicas : AllZip AcceptsMore old.replicas new.replicas

accepts-grows : (old new : ReplicaState) → Grows old new → AcceptsMore old new
accepts-grows old new grows object candidate held =
    ap (holds candidate) (grows.candidates object).1 ∙
    list_any-append _ (own_candidates old object) (grows.candidates object).0 ∙
    or_left _ _ held

each-accepts : (olds news : List ReplicaState) → AllZip Grows olds news → AllZip AcceptsMore olds news
each-accepts [] [] grows = tt
each-accepts [] (new ∷ news) grows = absurd grows
each-accepts (old ∷ olds) [] grows = absurd grows
each-accepts (old ∷ olds) (new ∷ news) grows = (accepts-grows old new grows.0, each-accepts olds news grows.1)

pub has_more : (old new : WorldState) → GrowsTo old new → HasMore old new
has_more old new grows =
    record { setup = grows.setup; replicas = each-accepts old.replicas new.replicas grows.replicas }

any-more : (object : ObjectId) (candidate : Candidate) (olds news : List ReplicaState)
    → AllZip AcceptsMore olds news → list_any (accepts object candidate) olds ≡ true
    → list_any (accepts object candidate) news ≡ true
any-more object candidate [] news more some = absurd (false≢true some)
any-more object candidate (old ∷ olds) [] more some = absurd more
any-more object candidate (old ∷ olds) (new ∷ news) more some =
    elim (or_cases (accepts object candidate old) (list_any (accepts object candidate) olds) some) [
      | inl here ↦ or_left _ _ (more.0 object candidate here)
      | inr there ↦ or_right (accepts object candidate new) _ (any-more object candidate olds news more.1 there)
    ]

abbrev counted : ObjectId → Candidate → ReplicaState → ℕ
counted object candidate replica = cond (accepts object candidate replica) 1 0

pub counted-more : (first second : Bool) → (first ≡ true → second ≡ true) → cond first 1 0 ≤ cond second 1 0
counted-more true true follows = omega arith
counted-more true false follows = absurd (false≢true (follows refl))
counted-more false true follows = omega arith
counted-more false false follows = omega arith

pub count-more : (object : ObjectId) (candidate : Candidate) (olds news : List ReplicaState)
    → AllZip AcceptsMore olds news → count_by (accepts object candidate) olds ≤ count_by (accepts object candidate) news
count-more object candidate [] news more = omega arith
count-more object candidate (old ∷ olds) [] more = absurd more
count-more object candidate (old ∷ olds) (new ∷ news) more =
    let before : count_by (accepts object candidate) (old ∷ olds) ≡ counted object candidate old + count_by
    (accepts object candidate) olds = sum_by-cons (counted object candidate) old olds in
    let after : count_by (accepts object candidate) (new ∷ news) ≡ counted object candidate new + count_by
    (accepts object candidate) news = sum_by-cons (counted object candidate) new news in
    let here : counted object candidate old ≤ counted object candidate new =
    counted-more (accepts object candidate old) (accepts object candidate new) (more.0 object candidate) in
    let there : count_by (accepts object candidate) olds ≤ count_by (accepts object candidate) news =
    count-more object candidate olds news more.1 in
    rw (before, after) (omega arith)

pub is_accepted-more : (old new : WorldState) → HasMore old new → (object : ObjectId) (candidate : Candidate)
    → is_accepted old object candidate ≡ true → is_accepted new object candidate ≡ true
is_accepted-more old new more object candidate accepted =
    any-more object candidate old.replicas new.replicas more.replicas accepted
