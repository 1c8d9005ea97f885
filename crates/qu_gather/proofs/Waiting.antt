-- Where no letter comes too late, a client ticks only once each letter for which it waits was delivered.
use Rattle.std.proofs.Common.{◌≡◌, ℕ, zero, suc, ◌+◌, ◌<◌, Bool, true, false, cond, List, [], ◌∷◌, ◌++◌, length, take, Option, None, Some, refl, sym, ap, subst, ◌∙◌, append_assoc, append-nil, length-append, arith, inl, inr}
use Rattle.std.specs.Prelude.{slice_get}
use Rattle.std.specs.Option.{option_or}
use Rattle.std.proofs.lemmas.Bool.{cases_Bool, eqb-true, eq-eqb, false≢true}
use Rattle.std.proofs.lemmas.List.{map-append, length-map}
use Rattle.std.proofs.lemmas.Option.{none-some, same_Some}
use Rattle.qu_base.specs.declared.party.ClientId.{ClientId}
use Rattle.qu_base.specs.declared.party.Party.{Party}
use Rattle.qu_frames.specs.declared.frame.Letter.{Letter}
use Rattle.qu_trace.specs.declared.event.Event.{Event}
use Rattle.qu_trace.specs.declared.event.Event.TheVariants as event
use Rattle.qu_trace.specs.declared.trace.Entry.{Entry}
use Rattle.qu_trace.specs.declared.trace.Setup.{Setup}
use Rattle.qu_trace.specs.Letters.{letters_of}
use Rattle.qu_gather.specs.Ticks.{senders_of, asker_of, waiting_client, WasDelivered, IsTick, TicksAnswered, is_delivery_of, is_tick_of, is_in_time, late_for, late_among, late_letter}

neither : {X : Type 0} (first later : Option X) → option_or first later ≡ None → (first ≡ None) × (later ≡ None)
neither None later is = (refl, is)
neither (Some x) later is = absurd (none-some x (sym is))

-- ---- before the next tick

delivered_at : (number : ℕ) (happened : Event) → is_delivery_of number happened ≡ true → happened ≡ event.Deliver number
delivered_at number (event.Invoke client op) is = absurd (false≢true is)
delivered_at number (event.Deliver letter) is = ap (λ (it : ℕ). event.Deliver it) (eqb-true letter number is)
delivered_at number (event.Tick client) is = absurd (false≢true is)
delivered_at number (event.Inject who text) is = absurd (false≢true is)

-- with an entry before
delivered_later : (first : Entry) (entries : List Entry) (number : ℕ) → WasDelivered entries number
    → WasDelivered (first ∷ entries) number
delivered_later first entries number was =
    record { at = suc was.at; entry = was.entry; found = was.found; event_is = was.event_is }

tick_bars : (me : ClientId) (number : ℕ) (later : List Entry) (happened : Event) → happened ≡ event.Tick me
    → cond (is_delivery_of number happened) true (cond (is_tick_of me happened) false (is_in_time me number later))
    ≡ true
    → ⊥
tick_bars me number later happened is in_time =
    false≢true
    (sym (ap (λ (it : Event).
    cond (is_delivery_of number it) true (cond (is_tick_of me it) false (is_in_time me number later))) is
    ∙ ap (λ (it : Bool). cond it false (is_in_time me number later)) (eq-eqb me.0 me.0 refl))
    ∙ in_time)

no_tick : (ticks rest : Bool) → cond ticks false rest ≡ true → rest ≡ true
no_tick true rest is = absurd (false≢true is)
no_tick false rest is = is

in_time_delivered : (me : ClientId) (number : ℕ) (later : List Entry) (tick : ℕ) → is_in_time me number later ≡ true
    → IsTick later tick me → WasDelivered (take tick later) number
unfolding is_in_time
in_time_delivered me number [] tick in_time ticks = absurd (none-some ticks.entry ticks.found)
in_time_delivered me number (entry ∷ later) zero in_time ticks =
    absurd (tick_bars me number later entry.event
    (ap (λ (it : Entry). it.event) (same_Some entry ticks.entry ticks.found) ∙ ticks.event_is) in_time)
in_time_delivered me number (entry ∷ later) (suc tick) in_time ticks =
    elim (cases_Bool (is_delivery_of number entry.event)) [
      | inl here ↦
          record { at = 0; entry = entry; found = refl; event_is = delivered_at number entry.event here }
      | inr apart ↦
          let rest : cond (is_tick_of me entry.event) false (is_in_time me number later) ≡ true =
          sym (ap (λ (it : Bool). cond it true (cond (is_tick_of me entry.event) false (is_in_time me number later)))
          apart) ∙ in_time in
          delivered_later entry (take tick later) number
          (in_time_delivered me number later tick
          (no_tick (is_tick_of me entry.event) (is_in_time me number later) rest)
          (record { entry = ticks.entry; found = ticks.found; event_is = ticks.event_is }))
    ]

-- ---- one entry

in_time_of : (me : ClientId) (number : ℕ) (test : Bool)
    → cond {A = Option (ClientId × ℕ)} test None (Some (me, number)) ≡ None → test ≡ true
in_time_of me number true is = refl
in_time_of me number false is = absurd (none-some (me, number) (sym is))

none_late : (setup : Setup) (asker : Option ClientId) (number : ℕ) (letters : List Letter) (later : List Entry)
    (place : ℕ) (letter : Letter) (me : ClientId) → late_among setup asker number letters later ≡ None
    → slice_get letters place ≡ Some letter → waiting_client setup asker letter ≡ Some me
    → is_in_time me (number + place) later ≡ true
unfolding late_among
none_late setup asker number [] later place letter me none sends waits = absurd (none-some letter sends)
none_late setup asker number (first ∷ letters) later zero letter me none sends waits =
    let here : late_for (waiting_client setup asker first) number later ≡ None =
    (neither (late_for (waiting_client setup asker first) number later)
    (late_among setup asker (number + 1) letters later) none).0 in
    let is : waiting_client setup asker first ≡ Some me =
    ap (waiting_client setup asker) (same_Some first letter sends) ∙ waits in
    let same : number ≡ number + 0 = omega arith in
    subst (λ (it : ℕ). is_in_time me it later ≡ true) same
    (in_time_of me number (is_in_time me number later)
    (sym (ap (λ (it : Option ClientId). late_for it number later) is) ∙ here))
none_late setup asker number (first ∷ letters) later (suc place) letter me none sends waits =
    let rest : late_among setup asker (number + 1) letters later ≡ None =
    (neither (late_for (waiting_client setup asker first) number later)
    (late_among setup asker (number + 1) letters later) none).1 in
    let same : (number + 1) + place ≡ number + suc place = omega arith in
    subst (λ (it : ℕ). is_in_time me it later ≡ true) same
    (none_late setup asker (number + 1) letters later place letter me rest sends waits)

-- ---- all entries

-- the same where letters of these senders were sent before
record IsAwaitedBehind (setup : Setup) (senders : List Party) (entries : List Entry) (at : ℕ) (me : ClientId)
    (number : ℕ) : Type 0 where
  entry : Entry
  place : ℕ
  letter : Letter
  found : slice_get entries at ≡ Some entry
  sends : slice_get entry.letters place ≡ Some letter
  number_is : number ≡ length senders + length (letters_of (take at entries)) + place + 1
  waits : waiting_client setup (asker_of (senders ++ senders_of (letters_of (take at entries))) entry.event) letter
      ≡ Some me

from_second : (setup : Setup) (senders : List Party) (first : Entry) (entries : List Entry) (at : ℕ) (me : ClientId)
    (number : ℕ) → IsAwaitedBehind setup senders (first ∷ entries) (suc at) me number
    → IsAwaitedBehind setup (senders ++ senders_of first.letters) entries at me number
unfolding letters_of
from_second setup senders first entries at me number is =
    let rest : List Letter = letters_of (take at entries) in
    let all : senders ++ senders_of (first.letters ++ rest) ≡ (senders ++ senders_of first.letters) ++ senders_of rest =
    ap (λ (it : List Party). senders ++ it) (map-append (λ (letter : Letter). letter.from) first.letters rest)
    ∙ sym (append_assoc senders (senders_of first.letters) (senders_of rest)) in
    let front = length-append senders (senders_of first.letters) in
    let same = length-map first.letters (λ (letter : Letter). letter.from) in
    let both = length-append first.letters rest in
    let before : number ≡ length senders + length (first.letters ++ rest) + is.place + 1 = is.number_is in
    record {
      entry = is.entry;
      place = is.place;
      letter = is.letter;
      found = is.found;
      sends = is.sends;
      number_is = omega (arith, front, same, both, before);
      waits =
          ap (λ (it : List Party). waiting_client setup (asker_of it is.entry.event) is.letter) (sym all) ∙ is.waits;
    }

answered : (setup : Setup) (senders : List Party) (entries : List Entry) (at tick : ℕ) (me : ClientId) (number : ℕ)
    → late_letter setup senders entries ≡ None → IsAwaitedBehind setup senders entries at me number → at < tick
    → IsTick entries tick me → WasDelivered (take tick entries) number
unfolding late_letter letters_of
answered setup senders [] at tick me number none is before ticks = absurd (none-some is.entry is.found)
answered setup senders (first ∷ entries) at zero me number none is before ticks = absurd (omega (arith, before))
answered setup senders (first ∷ entries) zero (suc tick) me number none is before ticks =
    let here : late_among setup (asker_of senders first.event) (length senders + 1) first.letters entries ≡ None =
    (neither (late_among setup (asker_of senders first.event) (length senders + 1) first.letters entries)
    (late_letter setup (senders ++ senders_of first.letters) entries) none).0 in
    let same : first ≡ is.entry = same_Some first is.entry is.found in
    let sends : slice_get first.letters is.place ≡ Some is.letter =
    ap (λ (it : Entry). slice_get it.letters is.place) same ∙ is.sends in
    let waits : waiting_client setup (asker_of senders first.event) is.letter ≡ Some me =
    ap (λ (it : Entry). waiting_client setup (asker_of senders it.event) is.letter) same
    ∙ ap (λ (it : List Party). waiting_client setup (asker_of it is.entry.event) is.letter) (sym (append-nil senders))
    ∙ is.waits in
    let number_is : number ≡ length senders + 0 + is.place + 1 = is.number_is in
    let at_place : length senders + 1 + is.place ≡ number = omega (arith, number_is) in
    let in_time : is_in_time me number entries ≡ true =
    subst (λ (it : ℕ). is_in_time me it entries ≡ true) at_place
    (none_late setup (asker_of senders first.event) (length senders + 1) first.letters entries is.place is.letter me
    here sends waits) in
    delivered_later first (take tick entries) number
    (in_time_delivered me number entries tick in_time
    (record { entry = ticks.entry; found = ticks.found; event_is = ticks.event_is }))
answered setup senders (first ∷ entries) (suc at) (suc tick) me number none is before ticks =
    let rest : late_letter setup (senders ++ senders_of first.letters) entries ≡ None =
    (neither (late_among setup (asker_of senders first.event) (length senders + 1) first.letters entries)
    (late_letter setup (senders ++ senders_of first.letters) entries) none).1 in
    let earlier : at < tick = omega (arith, before) in
    delivered_later first (take tick entries) number
    (answered setup (senders ++ senders_of first.letters) entries at tick me number rest
    (from_second setup senders first entries at me number is) earlier
    (record { entry = ticks.entry; found = ticks.found; event_is = ticks.event_is }))

-- where no letter comes too late, each client ticks once it was answered
pub ticks_answered : (setup : Setup) (entries : List Entry) → late_letter setup [] entries ≡ None
    → TicksAnswered setup entries
ticks_answered setup entries none at tick me number is before ticks =
    let counted = is.number_is in
    answered setup [] entries at tick me number none
    (record {
      entry = is.entry;
      place = is.place;
      letter = is.letter;
      found = is.found;
      sends = is.sends;
      number_is = omega (arith, counted);
      waits = is.waits;
    }) before ticks
