-- A client asks in each round of an operation once: a round that begins is after all for which it asked before.
use Rattle.std.proofs.Common.{◌≡◌, ◌⊎◌, ℕ, ◌+◌, ◌<◌, List, [], Option, None, Some, IfSome, refl, sym, subst, ◌∙◌, arith, inl, inr}
use Rattle.std.specs.List.{Contains}
use Rattle.std.proofs.lemmas.List.Elements.{All-contains, All-nil}
use Rattle.qu_base.specs.declared.party.ClientId.{ClientId}
use Rattle.qu_history.specs.declared.sets.SetOf.{SetOf}
use Rattle.qu_objects.specs.declared.op.Op.{Op}
use Rattle.qu_objects.specs.declared.op.Outcome.{Outcome}
use Rattle.qu_frames.specs.declared.frame.Body.{Body}
use Rattle.qu_frames.specs.declared.frame.Letter.{Letter}
use Rattle.qu_frames.specs.Formats.{frame_form}
use Rattle.qu_client.specs.declared.state.ClientState.{ClientState}
use Rattle.qu_client.specs.State.{Stepped}
use Rattle.qu_client.specs.declared.work.Work.{Work}
use Rattle.qu_question.specs.declared.kept.Kept.{Kept}
use Rattle.qu_client.specs.declared.whom.Whom.{Whom}
use Rattle.qu_client.specs.declared.work.Phase.TheVariants.{Resting}
use Rattle.qu_question.specs.Kept.{unmarked}
use Rattle.qu_client.specs.Whom.{whom_asked}
use Rattle.qu_client.specs.Rounds.{request_of, requests}
use Rattle.qu_question.specs.Marking.{marked_shown}
use Rattle.qu_client.specs.Work.{with_verdict}
use Rattle.qu_client.specs.Steps.{rests, client_step, client_tick, client_invoke, next_number}
use Rattle.qu_client.specs.Sound.{IsSound, last_number}
use Rattle.qu_client.proofs.Cases.{IsNext, OfEach, OfQuiet, OfSending, sending, asked_last, of_sending, step_cases, tick_cases, invoke_cases}
use Rattle.qu_claims.specs.Carried.{Asks}
use Rattle.qu_runs.proofs.Fits.Carrying.{asks_as, AsksFit}
use Rattle.qu_rounds.proofs.Asking.{AsksNothing, CarriesOnly, IsSameRequest, requests_carry, asks_only}

-- these letters, and the new ones
abbrev pub OrNew : (Letter → Type 0) → List Letter → Letter → Type 0
OrNew Sent new letter = Sent letter ⊎ Contains new letter

-- the requests of one operation and round are one
abbrev pub AreOneRound : (Letter → Type 0) → Type 0
AreOneRound Sent =
    (first second : Letter) → Sent first → Sent second → (client : ClientId) (number round : ℕ)
    (sets others : List SetOf) (asks other : Body) → Asks first client number round sets asks
    → Asks second client number round others other → (sets ≡ others) × (asks ≡ other)

-- of an earlier operation, or of an earlier round of this one
abbrev pub IsBefore : ℕ → ℕ → ℕ → ℕ → Type 0
IsBefore number round most turn = (number < most) ⊎ ((number ≡ most) × (round < turn))

-- the requests of this client among the letters are before this round of this operation
abbrev pub AreBefore : (Letter → Type 0) → ClientId → ℕ → ℕ → Type 0
AreBefore Sent me most turn =
    (letter : Letter) → Sent letter → (number round : ℕ) (sets : List SetOf) (asks : Body)
    → Asks letter me number round sets asks → IsBefore number round most turn

-- the round of the last request, 0 before the first one
abbrev pub last_round : Option (ℕ × ℕ) → ℕ
last_round None = 0
last_round (Some last) = last.1

-- none of them is after the last one that it remembers
abbrev pub AreUpTo : (Letter → Type 0) → ClientId → Option (ℕ × ℕ) → Type 0
AreUpTo Sent me last = AreBefore Sent me (last_number last) (last_round last + 1)

-- its requests of a round are those that it asks in the round under way
abbrev pub AreOfWork : (Letter → Type 0) → ClientId → Work → Type 0
AreOfWork Sent me work =
    (letter : Letter) → Sent letter → (sets : List SetOf) (asks : Body)
    → Asks letter me work.number work.round sets asks → (sets ≡ work.sets) × (asks ≡ work.body)

abbrev pub HasOwn : (Letter → Type 0) → ClientId → Option Work → Type 0
HasOwn Sent me found = IfSome found (λ work. AreOfWork Sent me work)

-- what a step of this client leaves, whose requests are its own
pub record IsRoundStep (Sent : Letter → Type 0) (me : ClientId) (stepped : Stepped) : Type 0 where
  pub up_to : AreUpTo (OrNew Sent stepped.letters) me stepped.state.last_request
  pub work : HasOwn (OrNew Sent stepped.letters) me stepped.state.work
  pub own : (letter : Letter) → Contains stepped.letters letter → (client : ClientId) (number round : ℕ)
      (sets : List SetOf) (asks : Body) → Asks letter client number round sets asks → client ≡ me
  pub alike : AreOneRound Sent → AreOneRound (OrNew Sent stepped.letters)

-- where what the client then asks for fits
abbrev pub IsRoundIf : (Letter → Type 0) → ClientId → Stepped → Type 0
IsRoundIf Sent me stepped = AsksFit stepped.state → IsRoundStep Sent me stepped

-- ---- letters of others

pub before_more : (Sent : Letter → Type 0) (new : List Letter) (me : ClientId) (most turn : ℕ)
    → ((letter : Letter) → Contains new letter → (number round : ℕ) (sets : List SetOf) (asks : Body)
    → Asks letter me number round sets asks → ⊥) → AreBefore Sent me most turn
    → AreBefore (OrNew Sent new) me most turn
before_more Sent new me most turn foreign before letter sent number round sets asks is = elim sent [
  | inl old ↦ before letter old number round sets asks is
  | inr fresh ↦ absurd (foreign letter fresh number round sets asks is)
]

pub one_round_more : (Sent : Letter → Type 0) (new : List Letter)
    → ((letter : Letter) → Contains new letter → AsksNothing letter) → AreOneRound Sent
    → AreOneRound (OrNew Sent new)
one_round_more Sent new none before first second one two client number round sets others asks other is_one is_two =
    elim one [
      | inr fresh ↦ absurd (none first fresh client number round sets asks is_one)
      | inl old ↦ elim two [
        | inr fresh ↦ absurd (none second fresh client number round others other is_two)
        | inl older ↦ before first second old older client number round sets others asks other is_one is_two
      ]
    ]

own_more : (Sent : Letter → Type 0) (new : List Letter) (me : ClientId) (work : Work)
    → ((letter : Letter) → Contains new letter → (number round : ℕ) (sets : List SetOf) (asks : Body)
    → Asks letter me number round sets asks → ⊥) → AreOfWork Sent me work → AreOfWork (OrNew Sent new) me work
own_more Sent new me work foreign before letter sent sets asks is = elim sent [
  | inl old ↦ before letter old sets asks is
  | inr fresh ↦ absurd (foreign letter fresh work.number work.round sets asks is)
]

pub work_more : (Sent : Letter → Type 0) (new : List Letter) (me : ClientId) (found : Option Work)
    → ((letter : Letter) → Contains new letter → (number round : ℕ) (sets : List SetOf) (asks : Body)
    → Asks letter me number round sets asks → ⊥) → HasOwn Sent me found → HasOwn (OrNew Sent new) me found
work_more Sent new me None foreign before = tt
work_more Sent new me (Some work) foreign before = own_more Sent new me work foreign before

-- ---- steps that send nothing

pub quiet : (Sent : Letter → Type 0) (me : ClientId) (state : ClientState) (ended : Option Outcome)
    → AreUpTo Sent me state.last_request → HasOwn Sent me state.work
    → IsRoundStep Sent me (record { state = state; letters = []; ended = ended })
quiet Sent me state ended up_to work =
    let none : (letter : Letter) → Contains [] letter → AsksNothing letter =
    λ letter. All-contains AsksNothing [] letter (All-nil AsksNothing) in
    record {
      up_to = before_more Sent [] me _ _ (λ letter new. none letter new me) up_to;
      work = work_more Sent [] me state.work (λ letter new. none letter new me) work;
      own = λ letter new client number round sets asks is. absurd (none letter new client number round sets asks is);
      alike = one_round_more Sent [] none;
    }

-- ---- a round

-- a request that is not before those of this round, where those of this round are the same
module _ (Sent : Letter → Type 0) (state : ClientState) (kept : List Kept) (work : Work) (whom : Whom)
    (up_to : AreUpTo Sent state.me (Some (work.number, work.round))) (same : AreOfWork Sent state.me work)
    (fits : frame_form.Fits (request_of state.me work)) where
  abbrev letters : List Letter
  letters = requests state.keys state.me work whom

  new_is : (letter : Letter) → Contains letters letter → (client : ClientId) (number round : ℕ)
      (others : List SetOf) (asks : Body) → Asks letter client number round others asks
      → IsSameRequest client state.me number work.number round work.round others work.sets asks work.body
  new_is letter new =
      asks_only state.keys state.me work letter
      (All-contains (CarriesOnly state.keys (request_of state.me work)) letters letter
      (requests_carry state.keys state.me work whom fits) new)

  -- an earlier request of this round is the same
  old_same : (old letter : Letter) → Sent old → Contains letters letter
      → (client : ClientId) (number round : ℕ) (others besides : List SetOf) (asks more : Body)
      → Asks old client number round others asks → Asks letter client number round besides more
      → (others ≡ besides) × (asks ≡ more)
  old_same old letter sent new client number round others besides asks more one two =
      let is : IsSameRequest client state.me number work.number round work.round besides work.sets more work.body =
      new_is letter new client number round besides more two in
      let found : (others ≡ work.sets) × (asks ≡ work.body) =
      same old sent others asks
      (asks_as old client state.me number work.number round work.round others asks asks is.client_is is.number_is
      is.round_is refl one) in
      (found.0 ∙ sym is.sets_are, found.1 ∙ sym is.body_is)

  sent_round : IsRoundStep Sent state.me (sending state kept work whom)
  sent_round = record {
    up_to = λ letter sent number round others asks is. elim sent [
      | inl old ↦ up_to letter old number round others asks is
      | inr new ↦
          let here : IsSameRequest state.me state.me number work.number round work.round others work.sets asks
          work.body = new_is letter new state.me number round others asks is in
          inr (here.number_is, omega (arith, here.round_is))
    ];
    work = λ letter sent others asks is. elim sent [
      | inl old ↦ same letter old others asks is
      | inr new ↦
          let here : IsSameRequest state.me state.me work.number work.number work.round work.round others work.sets
          asks work.body = new_is letter new state.me work.number work.round others asks is in
          (here.sets_are, here.body_is)
    ];
    own = λ letter new client number round others asks is.
        (new_is letter new client number round others asks is).client_is;
    alike = λ alike first second one two client number round others besides asks more is_one is_two. elim one [
      | inl old ↦ elim two [
        | inl older ↦ alike first second old older client number round others besides asks more is_one is_two
        | inr new ↦ old_same first second old new client number round others besides asks more is_one is_two
      ]
      | inr new ↦ elim two [
        | inl old ↦
            let found : (besides ≡ others) × (more ≡ asks) =
            old_same second first old new client number round besides others more asks is_two is_one in
            (sym found.0, sym found.1)
        | inr newer ↦
            let here : IsSameRequest client state.me number work.number round work.round others work.sets asks
            work.body = new_is first new client number round others asks is_one in
            let there : IsSameRequest client state.me number work.number round work.round besides work.sets more
            work.body = new_is second newer client number round besides more is_two in
            (here.sets_are ∙ sym there.sets_are, here.body_is ∙ sym there.body_is)
      ]
    ];
  }

-- a round that begins is after all for which the client asked before
new_round : (Sent : Letter → Type 0) (state : ClientState) (kept : List Kept) (work : Work) (whom : Whom)
    → AreBefore Sent state.me work.number work.round → frame_form.Fits (request_of state.me work)
    → IsRoundStep Sent state.me (sending state kept work whom)
new_round Sent state kept work whom before =
    sent_round Sent state kept work whom
    (λ letter sent number round sets asks is. elim (before letter sent number round sets asks is) [
      | inl early ↦ inl early
      | inr earlier ↦ inr (earlier.0, omega (arith, earlier.1))
    ])
    (λ letter sent sets asks is. elim (before letter sent work.number work.round sets asks is) [
      | inl early ↦ absurd (omega (arith, early))
      | inr earlier ↦ absurd (omega (arith, earlier.1))
    ])

-- ---- what a client does

module _ (Sent : Letter → Type 0) (state : ClientState) (sound : IsSound state)
    (up_to : AreUpTo Sent state.me state.last_request) (own : HasOwn Sent state.me state.work) where
  under_way : (work : Work) → state.work ≡ Some work → AreOfWork Sent state.me work
  under_way work is =
      let P : Option Work → Type 0 = λ found. HasOwn Sent state.me found in
      subst P is own

  last_up_to : (work : Work) → state.work ≡ Some work → AreUpTo Sent state.me (Some (work.number, work.round))
  last_up_to work is = subst (AreUpTo Sent state.me) (asked_last state work sound is) up_to

  quiet_round : OfQuiet state (λ kept. Unit {0}) (IsRoundIf Sent state.me)
  quiet_round = record {
    same = λ fits. quiet Sent state.me state None up_to own;
    keeps = λ kept _ fits. quiet Sent state.me (record state { kept = kept }) None up_to own;
    counts = λ kept work replica number round verdict culled _ is counting fits.
        quiet Sent state.me (record state { kept = kept; work = Some (with_verdict work replica verdict culled) })
        None up_to (under_way work is);
    ends = λ kept work end _ is fits.
        quiet Sent state.me (record state { kept = kept; work = None }) (Some end) up_to tt;
    rests = λ kept work named _ is _ more fits.
        quiet Sent state.me (rests (record state { kept = kept }) (record work { named = named })).state None up_to
        (under_way work is);
    ticks = λ work ticks is fits.
        quiet Sent state.me (record state { work = Some (record work { phase = Resting ticks }) }) None up_to
        (under_way work is);
  }

  sent_so : OfSending state (λ kept. Unit {0}) (IsRoundIf Sent state.me)
  sent_so kept work whom _ how fits = elim how [
    | inl new ↦
        let next : IsNext state new.kept work = new.next in
        new_round Sent state kept work whom
        (subst (λ (it : ℕ). AreBefore Sent state.me it work.round) (sym (next.round).number_is)
        (subst (λ (it : ℕ). AreBefore Sent state.me next.last.number it) (sym (next.round).round_is)
        (last_up_to next.last next.is))) (fits work refl)
    | inr again ↦
        sent_round Sent state kept work whom
        (subst (λ (it : Work). AreUpTo Sent state.me (Some (it.number, it.round))) (sym again.same)
        (last_up_to again.last again.is))
        (subst (AreOfWork Sent state.me) (sym again.same) (under_way again.last again.is)) (fits work refl)
  ]

  round_each : OfEach state (λ kept. Unit {0}) (IsRoundIf Sent state.me)
  round_each = of_sending state (λ kept. Unit {0}) (IsRoundIf Sent state.me) (λ kept marked same _. tt) tt sound
      quiet_round sent_so

  pub client_step-round : (text : List ℕ) → IsRoundIf Sent state.me (client_step state text)
  client_step-round text =
      step_cases state (λ kept. Unit {0}) (IsRoundIf Sent state.me) (λ kept marked same _. tt) round_each text
      (λ replica client number round verdict culled shown mac is. tt)

  pub client_tick-round : IsRoundIf Sent state.me (client_tick state)
  client_tick-round =
      tick_cases state (λ kept. Unit {0}) (IsRoundIf Sent state.me) (λ kept marked same _. tt) round_each tt

-- the number of an operation that begins is above all that were used
next_before : (number round most turn : ℕ) → IsBefore number round most turn → IsBefore number round (most + 1) 1
next_before number round most turn before = elim before [
  | inl early ↦ inl (omega arith)
  | inr same ↦ inl (omega (arith, same.0))
]

next_up_to : (Sent : Letter → Type 0) (me : ClientId) (last : Option (ℕ × ℕ)) → AreUpTo Sent me last
    → AreBefore Sent me (next_number last) 1
next_up_to Sent me None up_to letter sent number round sets asks is =
    next_before number round 0 1 (up_to letter sent number round sets asks is)
next_up_to Sent me (Some last) up_to letter sent number round sets asks is =
    next_before number round last.0 (last.1 + 1) (up_to letter sent number round sets asks is)

pub client_invoke-round : (Sent : Letter → Type 0) (state : ClientState) (operation : Op)
    → AreUpTo Sent state.me state.last_request → IsRoundIf Sent state.me (client_invoke state operation)
client_invoke-round Sent state operation up_to =
    invoke_cases state operation (IsRoundIf Sent state.me)
    (λ work first fits.
    new_round Sent state (marked_shown work.sets (unmarked state.kept)) work (whom_asked work)
    (λ letter sent number round sets asks is.
    subst (λ (it : ℕ). IsBefore number round it work.round) (sym first.number_is)
    (subst (λ (it : ℕ). IsBefore number round (next_number state.last_request) it) (sym first.round_is)
    (next_up_to Sent state.me state.last_request up_to letter sent number round sets asks is)))
    (fits work refl))
