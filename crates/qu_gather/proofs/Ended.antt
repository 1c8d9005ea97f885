-- As many operations of each client end as it began.
use Rattle.std.proofs.Common.{◌≡◌, ℕ, ◌+◌, Bool, false, cond, eqb, List, [], ◌∷◌, ◌++◌, map, length, length-append, Option, None, Some, refl, sym, ap, subst, ◌∙◌, append-nil, arith, inl, inr}
use Rattle.std.specs.List.{AllByRecursion}
use Rattle.std.proofs.lemmas.Bool.{cases_Bool, eqb-true}
use Rattle.qu_base.specs.declared.party.ClientId.{ClientId}
use Rattle.qu_base.specs.declared.party.Party.{Party}
use Rattle.qu_base.specs.declared.party.Party.TheVariants as party
use Rattle.qu_objects.specs.declared.op.Op.{Op}
use Rattle.qu_objects.specs.declared.op.Outcome.{Outcome}
use Rattle.qu_rows.specs.State.{ReplicaState}
use Rattle.qu_client.specs.declared.state.ClientState.{ClientState}
use Rattle.qu_client.specs.declared.work.Work.{Work}
use Rattle.qu_client.specs.Steps.{client_step, client_tick, client_invoke}
use Rattle.qu_trace.specs.Faulty.{is_same}
use Rattle.qu_trace.specs.declared.trace.Entry.{Entry}
use Rattle.qu_trace.specs.declared.trace.Setup.{Setup}
use Rattle.qu_trace.proofs.Parties.{same_party, same_self}
use Rattle.qu_world.specs.Step.{ended_by}
use Rattle.qu_frames.specs.declared.frame.Letter.{Letter}
use Rattle.qu_frames.specs.declared.input.Input.{Input}
use Rattle.qu_frames.specs.declared.input.Input.TheVariants.{Frame, Tick, Invoke}
use Rattle.qu_replay.specs.Steps.{Actor, Replicates, Asks, actor_moved}
use Rattle.qu_replay.specs.declared.kept_step.KeptStep.{KeptStep}
use Rattle.qu_replay.specs.Replays.{IsStepMade, IsReplay, IsReplayOf, own_steps}
use Rattle.qu_replay.specs.Standing.{StandsWell}
use Rattle.qu_replay.specs.Told.{AreTold}
use Rattle.qu_replay.specs.Operations.{begun_operations, ended_in, ended_operations, under_way, IsBalanced}
use Rattle.qu_replay.proofs.Told.{own_here, own_other}
use Rattle.qu_replay.proofs.Operations.{balanced_from_opening}
use Rattle.qu_lock.specs.Locked.{ClientStands}
use Rattle.qu_gather.specs.Live.{ends_at, ends_among}
use Rattle.qu_gather.specs.Gathered.{ClientsStand, HasEnded, HaveEnded}
use Rattle.qu_gather.proofs.Numbers.{AscendsFrom}
use Rattle.qu_gather.proofs.Own.{client_steps, no_client_steps}

-- ---- whose operations a step ends

-- an actor ends its own operations alone, and a replica none
abbrev IsOwnEnd : Party → Option (ClientId × ℕ × Outcome) → Type 0
IsOwnEnd me None = Unit {0}
IsOwnEnd (party.Replica me) (Some end) = ⊥
IsOwnEnd (party.Client me) (Some end) = end.0 ≡ me

client_end : (me : ClientId) (work : Option Work) (how : Option Outcome)
    → IsOwnEnd (party.Client me) (ended_by me work how)
client_end me None None = tt
client_end me None (Some how) = tt
client_end me (Some work) None = tt
client_end me (Some work) (Some how) = refl

client_moved_end : (me : ClientId) (state : ClientState) (input : Input)
    → IsOwnEnd (party.Client me) (actor_moved (party.Client me) (Asks state) input).ended
client_moved_end me state (Frame name text) = client_end me state.work (client_step state text).ended
client_moved_end me state Tick = client_end me state.work (client_tick state).ended
client_moved_end me state (Invoke op) = client_end me state.work (client_invoke state op).ended

replica_moved_end : (who : Party) (state : ReplicaState) (input : Input)
    → IsOwnEnd who (actor_moved who (Replicates state) input).ended
replica_moved_end (party.Replica me) state (Frame name text) = tt
replica_moved_end (party.Replica me) state Tick = tt
replica_moved_end (party.Replica me) state (Invoke op) = tt
replica_moved_end (party.Client me) state input = tt

moved_end : (who : Party) (actor : Actor) (input : Input) → IsOwnEnd who (actor_moved who actor input).ended
moved_end who (Replicates state) input = replica_moved_end who state input
moved_end (party.Replica me) (Asks state) input = tt
moved_end (party.Client me) (Asks state) input = client_moved_end me state input

abbrev EndsItsOwn : Party → KeptStep → Type 0
EndsItsOwn who step = IsOwnEnd who step.ended

replay_ends : (who : Party) (first : Actor) (steps : List KeptStep) (last : Actor) → IsReplay who first steps last
    → AllByRecursion (EndsItsOwn who) steps
unfolding IsReplay
replay_ends who first [] last replay = tt
replay_ends who first (step ∷ later) last replay =
    let made : IsStepMade who first step = replay.0 in (
      subst (IsOwnEnd who) (sym made.ended) (moved_end who first step.input),
      replay_ends who (actor_moved who first step.input).actor later last replay.1,
    )

pub replays_end : (who : Party) (first : Option Actor) (steps : List KeptStep) (last : Option Actor)
    → IsReplayOf who first steps last → AllByRecursion (EndsItsOwn who) steps
unfolding IsReplayOf
replays_end who None steps last replay = subst (AllByRecursion (EndsItsOwn who)) (sym replay.0) tt
replays_end who (Some first) steps last replay = replay_ends who first steps replay.0 replay.2

-- ---- the steps of all

abbrev AllTheirOwn : List (Party × KeptStep) → Type 0
AllTheirOwn xs = AllByRecursion (λ (x : Party × KeptStep). EndsItsOwn x.0 x.1) xs

later_own : (x : Party × KeptStep) (later : List (Party × KeptStep)) (who : Party)
    → AllByRecursion (EndsItsOwn who) (own_steps who (x ∷ later))
    → AllByRecursion (EndsItsOwn who) (own_steps who later)
later_own x later who all =
    elim (cases_Bool (is_same x.0 who)) [
      | inl same ↦ (subst (AllByRecursion (EndsItsOwn who)) (own_here x later who same) all).1
      | inr apart ↦ subst (AllByRecursion (EndsItsOwn who)) (own_other x later who apart) all
    ]

pub all_own : (xs : List (Party × KeptStep))
    → ((who : Party) → AllByRecursion (EndsItsOwn who) (own_steps who xs)) → AllTheirOwn xs
all_own [] each = tt
all_own (x ∷ later) each = (
  (subst (AllByRecursion (EndsItsOwn x.0)) (own_here x later x.0 (same_self x.0)) (each x.0)).0,
  all_own later (λ who. later_own x later who (each who)),
)

-- how many operations of a client these steps end
unfoldable pub ends_over : ClientId → List (Party × KeptStep) → ℕ
ends_over me [] = 0
ends_over me (x ∷ later) = ends_at me x.1.ended + ends_over me later

pub ends_told : (sent : List Letter) (xs : List (Party × KeptStep)) (entries : List Entry) (me : ClientId)
    → AreTold sent xs entries → ends_among me entries ≡ ends_over me xs
unfolding AreTold ends_among ends_over
ends_told sent [] [] me told = refl
ends_told sent [] (entry ∷ entries) me told = absurd told
ends_told sent (x ∷ xs) [] me told = absurd told
ends_told sent (x ∷ xs) (entry ∷ entries) me told =
    let rest = ends_told (sent ++ entry.letters) xs entries me told.1 in
    let here = ap (ends_at me) told.0.ended in omega (arith, here, rest)

-- an end of one's own counts, and one of another party does not
own_counts : (me : ClientId) (ended : Option (ClientId × ℕ × Outcome)) → IsOwnEnd (party.Client me) ended
    → ends_at me ended ≡ length (ended_in ended)
own_counts me None own = refl
own_counts me (Some end) own =
    ap (λ (it : Bool). cond it 1 0) (ap (λ (it : ClientId). eqb it.0 me.0) own ∙ same_self (party.Client me))

other_counts : (who : Party) (me : ClientId) (ended : Option (ClientId × ℕ × Outcome)) → IsOwnEnd who ended
    → is_same who (party.Client me) ≡ false → ends_at me ended ≡ 0
other_counts who me None own apart = refl
other_counts (party.Replica who) me (Some end) own apart = absurd own
other_counts (party.Client who) me (Some end) own apart =
    ap (λ (it : Bool). cond it 1 0) (ap (λ (it : ClientId). eqb it.0 me.0) own ∙ apart)

none_more : (count : ℕ) → 0 + count ≡ count
none_more count = omega arith

pub ends_own : (me : ClientId) (xs : List (Party × KeptStep)) → AllTheirOwn xs
    → ends_over me xs ≡ length (ended_operations (own_steps (party.Client me) xs))
unfolding ends_over ended_operations own_steps
ends_own me [] all = refl
ends_own me (x ∷ later) all =
    let rest = ends_own me later all.1 in
    elim (cases_Bool (is_same x.0 (party.Client me))) [
      | inl same ↦
          let mine : IsOwnEnd (party.Client me) x.1.ended =
          subst (λ (it : Party). IsOwnEnd it x.1.ended) (same_party x.0 (party.Client me) same) all.0 in
          ap (λ (it : ℕ). it + ends_over me later) (own_counts me x.1.ended mine)
          ∙ ap (λ (it : ℕ). length (ended_in x.1.ended) + it) rest
          ∙ sym (length-append (ended_in x.1.ended) (ended_operations (own_steps (party.Client me) later)))
          ∙ sym (ap (λ (it : List KeptStep). length (ended_operations it)) (own_here x later (party.Client me) same))
      | inr apart ↦
          ap (λ (it : ℕ). it + ends_over me later) (other_counts x.0 me x.1.ended all.0 apart)
          ∙ none_more (ends_over me later)
          ∙ rest
          ∙ sym (ap (λ (it : List KeptStep). length (ended_operations it)) (own_other x later (party.Client me) apart))
    ]

-- ---- where nothing is under way

abbrev client_of_number : ℕ → ClientId
client_of_number number = record { 0 = number }

pub client_balanced : (setup : Setup) (calls : List (ClientId × Op)) (me : ClientId)
    (held : List (ClientState × List KeptStep)) (low : ℕ)
    → AscendsFrom low (map (λ (one : ClientState × List KeptStep). one.0.me.0) held)
    → ClientsStand setup calls held → HaveEnded calls held
    → length (ended_operations (client_steps me.0 held)) ≡ length (begun_operations (client_steps me.0 held))
unfolding client_steps AscendsFrom ended_operations begun_operations
client_balanced setup calls me [] low rises stand ended = refl
client_balanced setup calls me (one ∷ later) low rises stand ended =
    elim (cases_Bool (eqb one.0.me.0 me.0)) [
      | inl mine ↦
          let number : one.0.me.0 ≡ me.0 = eqb-true one.0.me.0 me.0 mine in
          let is : one.0.me ≡ me = ap client_of_number number in
          let none : client_steps me.0 later ≡ [] =
          no_client_steps me.0 (one.0.me.0 + 1) later (omega (arith, number)) rises.1 in
          let here : ClientStands setup calls one.0 one.1 = stand.0 in
          let well : StandsWell setup (party.Client me) (Asks one.0) one.1 =
          subst (λ (it : ClientId). StandsWell setup (party.Client it) (Asks one.0) one.1) is here.well in
          let end : HasEnded calls one = ended.0 in
          let balanced : IsBalanced me one.1 one.0 = balanced_from_opening setup me one.1 one.0 well.replay in
          let idle : under_way one.0.work ≡ 0 = ap under_way end.idle in
          let all : length (begun_operations one.1) ≡ length (ended_operations one.1) + under_way one.0.work =
          balanced.open_or_ended in
          rw (mine, none, append-nil one.1) (omega (arith, all, idle))
      | inr other ↦ rw other (client_balanced setup calls me later (one.0.me.0 + 1) rises.1 stand.1 ended.1)
    ]
