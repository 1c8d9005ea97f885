-- What holds of every step of a client.
use Rattle.std.proofs.Common.{◌≡◌, ℕ, ◌+◌, ◌-◌, ◌^◌, ◌<◌, ◌≤◌, ◌≢◌, eqb, true, false, get_or, List, [], length, Option, None, Some, IfSome, refl, sym, ap, subst, arith}
use Rattle.std.specs.List.{AllPairs, list_any}
use Rattle.std.proofs.lemmas.Bool.{both_ways, not-true, and_parts, eq-eqb}
use Rattle.std.proofs.lemmas.List.Folds.{list_any_at}
use Rattle.std.proofs.lemmas.List.Quantifiers.{all_pairs_push}
use Rattle.qu_base.specs.declared.party.ClientId.{ClientId}
use Rattle.qu_base.specs.declared.party.ObjectId.{ObjectId}
use Rattle.qu_base.specs.declared.party.ReplicaId.{ReplicaId}
use Rattle.qu_seal.specs.Keys.{Ring}
use Rattle.qu_objects.specs.declared.op.Op.{Op}
use Rattle.qu_frames.specs.declared.limits.TheConstants.{LAST_ROUND}
use Rattle.qu_verdicts.specs.declared.verdict.Verdict.{Verdict}
use Rattle.qu_question.specs.declared.kept.Kept.{Kept}
use Rattle.qu_client.specs.declared.work.Counted.{Counted}
use Rattle.qu_client.specs.declared.work.Phase.{Phase}
use Rattle.qu_client.specs.declared.work.Phase.TheVariants.{Asking, Resting}
use Rattle.qu_client.specs.declared.work.Work.{Work}
use Rattle.qu_client.specs.State.{ClientState, Stepped, client_at_start}
use Rattle.qu_client.specs.Work.{is_asking, counts, with_verdict}
use Rattle.qu_client.specs.Steps.{client_step, client_invoke, client_tick, next_number}
use Rattle.qu_client.specs.Sound.{NumbersWithin, IsSoundWork, IsSound, IsFor}
use Rattle.qu_client.proofs.Cases.{IsRound, IsNext, IsFirst, OfEach, step_cases, tick_cases, invoke_cases}

-- of what is kept nothing has to be known
abbrev Any : List Kept → Type 0
Any kept = Unit {0}

module _ (state : ClientState) (P : Stepped → Type 0) (each : OfEach state Any P) where
  of_step : (text : List ℕ) → P (client_step state text)
  of_step text = step_cases state Any P (λ _ _ _ held. held) each text (λ _ _ _ _ _ _ _ _ _. tt)

  of_tick : P (client_tick state)
  of_tick = tick_cases state Any P (λ _ _ _ held. held) each tt

-- ---- name and keys stay

pub record IsOf (state : ClientState) (stepped : Stepped) : Type 0 where
  pub me : stepped.state.me ≡ state.me
  pub keys : stepped.state.keys ≡ state.keys

of_each : (state : ClientState) → OfEach state Any (IsOf state)
of_each state = record {
  quiet = record {
    same = record { me = refl; keys = refl };
    keeps = λ _ _. record { me = refl; keys = refl };
    counts = λ _ _ _ _ _ _ _ _ _ _. record { me = refl; keys = refl };
    ends = λ _ _ _ _ _. record { me = refl; keys = refl };
    rests = λ _ _ _ _ _ _ _. record { me = refl; keys = refl };
    ticks = λ _ _ _. record { me = refl; keys = refl };
  };
  begins = λ _ _ _ _. record { me = refl; keys = refl };
  asks_others = λ _ _ _. record { me = refl; keys = refl };
}

of_invoke : (state : ClientState) (op : Op) → IsOf state (client_invoke state op)
of_invoke state op = invoke_cases state op (IsOf state) (λ _ _. record { me = refl; keys = refl })

pub client_step-me : (state : ClientState) (text : List ℕ) → (client_step state text).state.me ≡ state.me
client_step-me state text = (of_step state (IsOf state) (of_each state) text).me

pub client_step-keys : (state : ClientState) (text : List ℕ) → (client_step state text).state.keys ≡ state.keys
client_step-keys state text = (of_step state (IsOf state) (of_each state) text).keys

pub client_step-bounds : (state : ClientState) (text : List ℕ)
    → (client_step state text).state.keys.bounds ≡ state.keys.bounds
client_step-bounds state text = ap (λ (keys : Ring). keys.bounds) (client_step-keys state text)

pub client_tick-me : (state : ClientState) → (client_tick state).state.me ≡ state.me
client_tick-me state = (of_tick state (IsOf state) (of_each state)).me

pub client_tick-keys : (state : ClientState) → (client_tick state).state.keys ≡ state.keys
client_tick-keys state = (of_tick state (IsOf state) (of_each state)).keys

pub client_tick-bounds : (state : ClientState) → (client_tick state).state.keys.bounds ≡ state.keys.bounds
client_tick-bounds state = ap (λ (keys : Ring). keys.bounds) (client_tick-keys state)

pub client_invoke-me : (state : ClientState) (op : Op) → (client_invoke state op).state.me ≡ state.me
client_invoke-me state op = (of_invoke state op).me

pub client_invoke-keys : (state : ClientState) (op : Op) → (client_invoke state op).state.keys ≡ state.keys
client_invoke-keys state op = (of_invoke state op).keys

pub client_invoke-bounds : (state : ClientState) (op : Op)
    → (client_invoke state op).state.keys.bounds ≡ state.keys.bounds
client_invoke-bounds state op = ap (λ (keys : Ring). keys.bounds) (client_invoke-keys state op)

-- ---- numbers are at most the number of invocations so far

pub NumbersWithin-opening : (me : ClientId) (keys : Ring) (seed : ℕ) → NumbersWithin 0 (client_at_start me keys seed)
NumbersWithin-opening me keys seed = record { last = tt; work = tt }

pub work_within : (most : ℕ) (state : ClientState) (work : Work) → NumbersWithin most state
    → state.work ≡ Some work → work.number ≤ most
work_within most state work within is =
    let P : Option Work → Type 0 = λ found. IfSome found (λ work. work.number ≤ most) in subst P is within.work

next_number_within : (most : ℕ) (state : ClientState) (kept : List Kept) (work : Work) → NumbersWithin most state
    → IsNext state kept work → work.number ≤ most
next_number_within most state kept work within next =
    let before : next.last.number ≤ most = work_within most state next.last within next.is in
    omega (arith, before, next.round.number_is)

within_each : (most : ℕ) (state : ClientState) → NumbersWithin most state
    → OfEach state Any (λ stepped. NumbersWithin most stepped.state)
within_each most state within = record {
  quiet = record {
    same = within;
    keeps = λ kept held. record { last = within.last; work = within.work };
    counts = λ kept work replica number round verdict culled held is counting. record {
      last = within.last;
      work = work_within most state work within is;
    };
    ends = λ kept work end held is. record { last = within.last; work = tt };
    rests = λ kept work named held is _ more. record {
      last = within.last;
      work = work_within most state work within is;
    };
    ticks = λ work ticks is. record { last = within.last; work = work_within most state work within is };
  };
  begins = λ kept work held next. record {
    last = next_number_within most state kept work within next;
    work = next_number_within most state kept work within next;
  };
  asks_others = λ work is stands. record { last = within.last; work = work_within most state work within is };
}

pub NumbersWithin-step : (most : ℕ) (state : ClientState) (text : List ℕ) → NumbersWithin most state
    → NumbersWithin most (client_step state text).state
NumbersWithin-step most state text within =
    of_step state (λ stepped. NumbersWithin most stepped.state) (within_each most state within) text

pub NumbersWithin-tick : (most : ℕ) (state : ClientState) → NumbersWithin most state
    → NumbersWithin most (client_tick state).state
NumbersWithin-tick most state within =
    of_tick state (λ stepped. NumbersWithin most stepped.state) (within_each most state within)

next_within : (most : ℕ) (last : Option (ℕ × ℕ)) → IfSome last (λ last. last.0 ≤ most) → next_number last ≤ most + 1
next_within most None within = omega arith
next_within most (Some last) within = omega arith

pub last_within : (most : ℕ) (last : Option (ℕ × ℕ)) → IfSome last (λ last. last.0 ≤ most)
    → IfSome last (λ last. last.0 ≤ most + 1)
last_within most None within = tt
last_within most (Some last) within = omega arith

first_within : (most : ℕ) (state : ClientState) (kept : List Kept) (op : Op) (work : Work) → NumbersWithin most state
    → IsFirst state kept op work → work.number ≤ most + 1
first_within most state kept op work within first =
    let next : next_number state.last_request ≤ most + 1 = next_within most state.last_request within.last in
    omega (arith, next, first.number_is)

pub NumbersWithin-invoke : (most : ℕ) (state : ClientState) (op : Op) → NumbersWithin most state
    → NumbersWithin (most + 1) (client_invoke state op).state
NumbersWithin-invoke most state op within =
    invoke_cases state op (λ stepped. NumbersWithin (most + 1) stepped.state) (λ work first. record {
      last = first_within most state _ op work within first;
      work = first_within most state _ op work within first;
    })

fits_by : (most : ℕ) (last : Option (ℕ × ℕ)) → IfSome last (λ last. last.0 ≤ most) → most < 2 ^ 64 - 1
    → IfSome last (λ last. last.0 < 2 ^ 64 - 1)
fits_by most None within few = tt
fits_by most (Some last) within few = omega arith

-- so they fit as long as there were fewer invocations than numbers
pub may_invoke : (most : ℕ) (state : ClientState) → NumbersWithin most state → most < 2 ^ 64 - 1
    → IfSome state.last_request (λ last. last.0 < 2 ^ 64 - 1)
may_invoke most state within few = fits_by most state.last_request within.last few

-- ---- a client stays sound

pub IsSound-opening : (me : ClientId) (keys : Ring) (seed : ℕ) → IsSound (client_at_start me keys seed)
IsSound-opening me keys seed = tt

pub sound_work : (state : ClientState) (work : Work) → IsSound state → state.work ≡ Some work
    → IsSoundWork state.last_request work
sound_work state work sound is =
    let P : Option Work → Type 0 = λ found. IfSome found (IsSoundWork state.last_request) in subst P is sound

abbrev Different : List Counted → Type 0
Different replies = AllPairs (λ (a b : Counted). (a.replica).0 ≢ (b.replica).0) replies

none_different : Different []
none_different = λ i j d before within. absurd (omega arith)

pub other_replica : (replies : List Counted) (replica : ReplicaId) (k : ℕ) (d : Counted)
    → list_any (λ counted. eqb (counted.replica).0 replica.0) replies ≡ false → k < length replies
    → ((get_or replies k d).replica).0 ≢ replica.0
other_replica replies replica k d none within = λ same.
    both_ways _ none (list_any_at (λ counted. eqb (counted.replica).0 replica.0) replies k d within (eq-eqb _ _ same))

different_more : (work : Work) (replica : ReplicaId) (number round : ℕ) (verdict : Verdict)
    (culled : List (ObjectId × ReplicaId)) → counts work replica number round ≡ true → Different work.replies
    → Different (with_verdict work replica verdict culled).replies
different_more work replica number round verdict culled counting different =
    let numbered = (and_parts (is_asking work.phase) _ counting).1 in
    let of_round = (and_parts (eqb number work.number) _ numbered).1 in
    let first : list_any (λ counted. eqb (counted.replica).0 replica.0) work.replies ≡ false =
    not-true _ (and_parts (eqb round work.round) _ of_round).1 in
    all_pairs_push (λ (a b : Counted). (a.replica).0 ≢ (b.replica).0) work.replies
    (record { replica = replica; verdict = verdict; culled = culled }) different
    (λ k d within. other_replica work.replies replica k d first within)

-- so is the operation in a round that begins
begun_sound : (bounds : ℕ) (kept : List Kept) (op : Op) (number round : ℕ) (named : List ObjectId) (work : Work)
    → 1 ≤ round → round ≤ LAST_ROUND → IsRound bounds kept op number round named work
    → IsSoundWork (Some (work.number, work.round)) work
begun_sound bounds kept op number round named work low high begun = record {
  first = omega (arith, begun.round_is);
  last = omega (arith, begun.round_is);
  different = subst Different (sym begun.fresh) none_different;
  asked = refl;
  asks = subst (λ (it : Op). IsFor it work.body) (sym begun.op_is) begun.asks;
}

-- and in another phase, with other objects named and other verdicts that count
phase_sound : (last : Option (ℕ × ℕ)) (work : Work) (phase : Phase) (named : List ObjectId) (replies : List Counted)
    → IsSoundWork last work → Different replies
    → IsSoundWork last (record work { phase = phase; named = named; replies = replies })
phase_sound last work phase named replies before different = record {
  first = before.first;
  last = before.last;
  different = different;
  asked = before.asked;
  asks = before.asks;
}

module _ (state : ClientState) (sound : IsSound state) where
  working : (work : Work) → state.work ≡ Some work → IsSoundWork state.last_request work
  working work is = sound_work state work sound is

  sound_each : OfEach state Any (λ stepped. IsSound stepped.state)
  sound_each = record {
    quiet = record {
      same = sound;
      keeps = λ kept held. sound;
      counts = λ kept work replica number round verdict culled held is counting.
          phase_sound state.last_request work work.phase work.named _ (working work is)
          (different_more work replica number round verdict culled counting (working work is).different);
      ends = λ kept work end held is. tt;
      rests = λ kept work named held is _ more.
          phase_sound state.last_request work _ named [] (working work is) none_different;
      ticks = λ work ticks is.
          phase_sound state.last_request work (Resting ticks) work.named work.replies (working work is)
          (working work is).different;
    };
    begins = λ kept work held next.
        begun_sound state.keys.bounds kept next.last.op next.last.number (next.last.round + 1) next.last.named work
        (omega arith) (omega (arith, next.more)) next.round;
    asks_others = λ work is stands.
        phase_sound state.last_request work (Asking true) work.named work.replies (working work is)
        (working work is).different;
  }

pub IsSound-step : (state : ClientState) (text : List ℕ) → IsSound state → IsSound (client_step state text).state
IsSound-step state text sound = of_step state (λ stepped. IsSound stepped.state) (sound_each state sound) text

pub IsSound-tick : (state : ClientState) → IsSound state → IsSound (client_tick state).state
IsSound-tick state sound = of_tick state (λ stepped. IsSound stepped.state) (sound_each state sound)

pub IsSound-invoke : (state : ClientState) (op : Op) → IsSound (client_invoke state op).state
IsSound-invoke state op =
    invoke_cases state op (λ stepped. IsSound stepped.state)
    (λ work first.
    begun_sound state.keys.bounds _ op (next_number state.last_request) 1 _ work (omega arith) (omega arith) first)
