-- An event that does not happen at a client leaves its state, sends no letter of it and ends none of its operations.
use Rattle.std.proofs.Common.{◌≡◌, ◌≢◌, ℕ, zero, suc, ◌+◌, ◌<◌, ◌==◌, ◌&&◌, List, [], ◌∷◌, length, get_or, Option, None, Some, refl, sym, ap, subst, ◌∙◌, arith}
use Rattle.std.specs.Prelude.{slice_get, option_map}
use Rattle.std.specs.List.{All, AllByRecursion}
use Rattle.std.proofs.lemmas.Bool.{cond_both, false≢true, and_parts, eqb-true}
use Rattle.std.proofs.lemmas.List.Elements.{All-nil, All-cons}
use Rattle.std.proofs.lemmas.Option.{get_or_from_slice_get, slice_get_within, none-some, same_Some}
use Rattle.qu_base.specs.Bounds.{replicas}
use Rattle.qu_base.specs.declared.party.ClientId.{ClientId}
use Rattle.qu_base.specs.declared.party.Party.{Party}
use Rattle.qu_base.specs.declared.party.Party.TheVariants as party
use Rattle.qu_base.specs.declared.party.ReplicaId.{ReplicaId}
use Rattle.qu_base.proofs.Numbered.{client_is}
use Rattle.qu_base.proofs.EachItem.{each_weaker}
use Rattle.qu_seal.specs.Keys.{Ring}
use Rattle.qu_objects.specs.declared.op.Outcome.{Outcome}
use Rattle.qu_frames.specs.declared.frame.Letter.{Letter}
use Rattle.qu_rows.specs.State.{ReplicaState}
use Rattle.qu_replica.specs.Step.{replica_step}
use Rattle.qu_client.specs.declared.state.ClientState.{ClientState}
use Rattle.qu_client.specs.declared.whom.Whom.{Whom}
use Rattle.qu_client.specs.declared.work.Work.{Work}
use Rattle.qu_client.specs.Whom.{is_asked}
use Rattle.qu_client.specs.Rounds.{requests_from}
use Rattle.qu_client.specs.State.{Stepped}
use Rattle.qu_client.specs.Steps.{client_invoke, client_step, client_tick}
use Rattle.qu_trace.specs.declared.event.Event.{Event}
use Rattle.qu_trace.specs.declared.event.Event.TheVariants.{Invoke, Deliver, Tick, Inject}
use Rattle.qu_trace.specs.declared.trace.Entry.{Entry}
use Rattle.qu_trace.specs.declared.trace.Trace.{Trace}
use Rattle.qu_trace.specs.Faulty.{is_replica}
use Rattle.qu_trace.specs.Operation.{outcome_in}
use Rattle.qu_world.specs.State.{WorldState, numbered, with_numbered, letter_of}
use Rattle.qu_world.specs.Step.{world_step, moved, at_client, at_replica, received, delivered, ended_by}
use Rattle.qu_world.specs.Run.{IsRun}
use Rattle.qu_world.proofs.Each.{set_other}
use Rattle.qu_world.proofs.Steps.{step_cases}
use Rattle.qu_claims.specs.Carried.{handed, offered}
use Rattle.qu_claims.specs.Times.{world_after}
use Rattle.qu_runs.specs.Plain.{ArePlain}
use Rattle.qu_runs.proofs.Events.Handing.{handed_offers}
use Rattle.qu_runs.proofs.Events.Recording.{entry_cases}
use Rattle.qu_runs.proofs.Fits.ClientLetters.{step_sends, tick_sends, invoke_sends}
use Rattle.qu_runs.proofs.Worlds.Keyed.{clients_keyed}
use Rattle.qu_runs.proofs.Worlds.WorldGrowth.{world_after-next}
use Rattle.qu_claims.specs.Quick.{party_of, IsElsewhere}
use Rattle.qu_points.proofs.Senders.{IsOfReplica, replica_sends}

-- ---- whose letters a step sends

-- a client's are its own
abbrev IsOfClient : ClientId → Letter → Type 0
IsOfClient me letter = letter.from ≡ party.Client me

requests-of : (keys : Ring) (me : ClientId) (work : Work) (whom : Whom) (replica count : ℕ)
    → AllByRecursion (IsOfClient me) (requests_from keys replica count me work whom)
unfolding requests_from
requests-of keys me work whom replica zero = tt
requests-of keys me work whom replica (suc count) =
    cond_both (is_asked keys.bounds whom replica) _ _ (AllByRecursion (IsOfClient me))
    (λ _. (refl, requests-of keys me work whom (replica + 1) count))
    (λ _. requests-of keys me work whom (replica + 1) count)

-- ---- what is recorded of another party

all_of : {X : Type 0} (P : X → Type 0) (items : List X) → AllByRecursion P items → All P items
all_of P [] each = All-nil P
all_of P (item ∷ later) each = All-cons P item later each.0 (all_of P later each.1)

-- the client sends none of the letters, and none of its operations ends
pub record IsNoneOf (client : ClientId) (letters : List Letter) (ended : Option (ClientId × ℕ × Outcome)) : Type 0
  where
    pub others : All (λ (letter : Letter). letter.from ≢ party.Client client) letters
    pub none_ends : (number : ℕ) → outcome_in client number ended ≡ None

not_of_replica : (client : ClientId) (letter : Letter) → IsOfReplica letter → letter.from ≢ party.Client client
not_of_replica client letter of same = false≢true (sym (ap is_replica same) ∙ of)

abbrev number_of : Party → ℕ
number_of (party.Replica me) = 0
number_of (party.Client me) = me.0

not_of_other : (me client : ClientId) (letter : Letter) → me ≢ client → IsOfClient me letter
    → letter.from ≢ party.Client client
not_of_other me client letter other of same =
    other (client_is me client (ap number_of (sym of ∙ same)))

outcome_of_other : (me client : ClientId) (number other : ℕ) (how : Outcome) → me ≢ client
    → outcome_in client number (Some (me, other, how)) ≡ None
outcome_of_other me client number other how apart =
    cond_both (me.0 == client.0 && other == number) (Some how) None (λ (it : Option Outcome). it ≡ None)
    (λ both. absurd (apart (client_is me client (eqb-true me.0 client.0 (and_parts _ _ both).0)))) (λ _. refl)

none_by : (me client : ClientId) → me ≢ client → (number : ℕ) (work : Option Work) (ended : Option Outcome)
    → outcome_in client number (ended_by me work ended) ≡ None
none_by me client apart number None ended = refl
none_by me client apart number (Some work) None = refl
none_by me client apart number (Some work) (Some how) = outcome_of_other me client number work.number how apart

none_of_other : (me client : ClientId) → me ≢ client → (letters : List Letter) (work : Option Work)
    (ended : Option Outcome) → AllByRecursion (IsOfClient me) letters
    → IsNoneOf client letters (ended_by me work ended)
none_of_other me client apart letters work ended own = record {
  others = all_of (λ (letter : Letter). letter.from ≢ party.Client client) letters
      (each_weaker (IsOfClient me) (λ (letter : Letter). letter.from ≢ party.Client client) letters
      (λ letter of. not_of_other me client letter apart of) own);
  none_ends = λ number. none_by me client apart number work ended;
}

nothing_of : (client : ClientId) → IsNoneOf client [] None
nothing_of client = record {
  others = All-nil (λ (letter : Letter). letter.from ≢ party.Client client);
  none_ends = λ number. refl;
}

of_replica : (client : ClientId) (state : ReplicaState) (text : List ℕ)
    → IsNoneOf client (replica_step state text).1 None
of_replica client state text = record {
  others = all_of (λ (letter : Letter). letter.from ≢ party.Client client) (replica_step state text).1
      (each_weaker IsOfReplica (λ (letter : Letter). letter.from ≢ party.Client client) (replica_step state text).1
      (not_of_replica client) (replica_sends state text));
  none_ends = λ number. refl;
}

-- ---- the party of an event

offered_party : (world : WorldState) (event : Event) (to : Party) (text : List ℕ)
    → offered world event ≡ Some (to, text)
    → party_of world.entries event ≡ Some to
offered_party world (Invoke client what) to text is = absurd (none-some (to, text) is)
offered_party world (Deliver number) to text is = ap (option_map (λ (offer : Party × List ℕ). offer.0)) is
offered_party world (Tick client) to text is = absurd (none-some (to, text) is)
offered_party world (Inject who other) to text is =
    ap (λ (it : Party × List ℕ). Some it.0) (same_Some (who, other) (to, text) is)

pub handed_party : (world : WorldState) (event : Event) (to : Party) (text : List ℕ)
    → handed world event ≡ Some (to, text) → party_of world.entries event ≡ Some to
handed_party world event to text is = offered_party world event to text (handed_offers world event to text is)

-- ---- an event elsewhere

numbered_other : {X : Type 0} (items : List X) (place number : ℕ) (new : X) → number ≢ place
    → numbered (with_numbered items place new) number ≡ numbered items number
numbered_other items zero number new apart = refl
numbered_other items (suc place) zero new apart = refl
numbered_other items (suc place) (suc index) new apart =
    set_other items place index new (λ same. apart (ap suc same))

module _ (world : WorldState) (client : ClientId) where
  abbrev IsStill : WorldState → Type 0
  IsStill made = numbered made.clients client.0 ≡ numbered world.clients client.0

  other_still : (event : Event) (me : ClientId) (move : ClientState → Stepped) (found : Option ClientState)
      → client.0 ≢ me.0 → IsStill (at_client world event me move found)
  other_still event me move None apart = refl
  other_still event me move (Some state) apart =
      numbered_other world.clients me.0 client.0 (move state).state apart

  replica_still : (event : Event) (me : ReplicaId) (text : List ℕ) (found : Option ReplicaState)
      → IsStill (at_replica world event me text found)
  replica_still event me text None = refl
  replica_still event me text (Some state) = refl

  apart_from : (me : ClientId) → Some (party.Client me) ≢ Some (party.Client client) → client.0 ≢ me.0
  apart_from me apart same =
      apart (ap (λ (it : ClientId). Some (party.Client it)) (client_is me client (sym same)))

  received_still : (event : Event) (to : Party) (text : List ℕ) → Some to ≢ Some (party.Client client)
      → IsStill (received world event to text)
  received_still event (party.Replica me) text apart = replica_still event me text (slice_get world.replicas me.0)
  received_still event (party.Client me) text apart =
      other_still event me (λ (state : ClientState). client_step state text) (numbered world.clients me.0)
      (apart_from me apart)

  delivered_still : (event : Event) (found : Option Letter)
      → option_map (λ (letter : Letter). letter.to) found ≢ Some (party.Client client)
      → IsStill (delivered world event found)
  delivered_still event None apart = refl
  delivered_still event (Some letter) apart = received_still event letter.to letter.text apart

  receiver_of : (found : Option Letter)
      → option_map (λ (offer : Party × List ℕ). offer.0)
      (option_map (λ (letter : Letter). (letter.to, letter.text)) found)
      ≡ option_map (λ (letter : Letter). letter.to) found
  receiver_of None = refl
  receiver_of (Some letter) = refl

  moved_still : (event : Event) → party_of world.entries event ≢ Some (party.Client client)
      → IsStill (moved world event)
  moved_still (Invoke me what) apart =
      other_still (Invoke me what) me (λ (state : ClientState). client_invoke state what)
      (numbered world.clients me.0) (apart_from me apart)
  moved_still (Deliver number) apart =
      delivered_still (Deliver number) (letter_of world number)
      (λ same. apart (receiver_of (letter_of world number) ∙ same))
  moved_still (Tick me) apart =
      other_still (Tick me) me client_tick (numbered world.clients me.0) (apart_from me apart)
  moved_still (Inject to text) apart = received_still (Inject to text) to text apart

  pub step_still : (event : Event) → party_of world.entries event ≢ Some (party.Client client)
      → IsStill (world_step world event)
  step_still event apart = step_cases IsStill world event refl (λ correct. moved_still event apart)

module _ (trace : Trace) (is_run : IsRun trace) (have : ArePlain trace) (client : ClientId) (at : ℕ)
    (elsewhere : IsElsewhere trace client at) (entry : Entry) (is_entry : slice_get trace.entries at ≡ Some entry) where
  below : at < length trace.entries
  below = slice_get_within trace.entries at entry is_entry

  -- its state stays
  pub still_there : numbered (world_after trace (at + 1)).clients client.0
      ≡ numbered (world_after trace at).clients client.0
  still_there =
      ap (λ (world : WorldState). numbered world.clients client.0) (world_after-next trace at entry below)
      ∙ step_still (world_after trace at) client (get_or trace.entries at entry).event
      (λ same. elsewhere entry is_entry
      (ap (λ (it : Entry). party_of (world_after trace at).entries it.event)
      (sym (get_or_from_slice_get trace.entries at entry entry is_entry)) ∙ same))

  -- no letter is its own
  abbrev Apart : Entry → Type 0
  Apart it = party_of (world_after trace at).entries it.event ≢ Some (party.Client client)
      → IsNoneOf client it.letters it.ended

  moves_apart : (me : ClientId) (state : ClientState) → numbered (world_after trace at).clients me.0 ≡ Some state
      → Some (party.Client me) ≢ Some (party.Client client) → (stepped : Stepped)
      → AllByRecursion (IsOfClient state.me) stepped.letters
      → IsNoneOf client stepped.letters (ended_by me state.work stepped.ended)
  moves_apart me state found apart stepped own =
      let name : state.me ≡ me = (clients_keyed trace at (omega (arith, below)) me.0 state found).me in
      none_of_other me client (λ same. apart (ap (λ (it : ClientId). Some (party.Client it)) same)) stepped.letters
      state.work stepped.ended
      (subst (λ (it : ClientId). AllByRecursion (IsOfClient it) stepped.letters) name own)

  pub none_there : IsNoneOf client entry.letters entry.ended
  none_there =
      entry_cases trace is_run have at entry is_entry Apart
      (λ event apart. nothing_of client)
      (λ event text me state from hands found apart. of_replica client state text)
      (λ me what state found apart. moves_apart me state found apart (client_invoke state what)
      (invoke_sends state (AllByRecursion (IsOfClient state.me)) tt
      (λ work whom. requests-of state.keys state.me work whom 0 (replicas state.keys.bounds)) what))
      (λ event text me state from hands found apart.
      moves_apart me state found
      (λ same. apart (handed_party (world_after trace at) event (party.Client me) text hands ∙ same))
      (client_step state text)
      (step_sends state (AllByRecursion (IsOfClient state.me)) tt
      (λ work whom. requests-of state.keys state.me work whom 0 (replicas state.keys.bounds)) text))
      (λ me state found apart. moves_apart me state found apart (client_tick state)
      (tick_sends state (AllByRecursion (IsOfClient state.me)) tt
      (λ work whom. requests-of state.keys state.me work whom 0 (replicas state.keys.bounds))))
      (elsewhere entry is_entry)
