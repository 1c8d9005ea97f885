-- Steps that take what was sent before them are told by the entries that name these letters.
use Rattle.std.proofs.Common.{◌≡◌, ℕ, suc, ◌+◌, ◌<◌, List, [], ◌∷◌, ◌++◌, length, map, take, get_or, Some, refl, sym, ap, subst, ◌∙◌, append_assoc, append-nil, arith}
use Rattle.std.specs.Prelude.{slice_get}
use Rattle.std.proofs.lemmas.Grind.{flat_map-append}
use Rattle.std.proofs.lemmas.List.{take_more}
use Rattle.qu_base.specs.declared.party.Party.{Party}
use Rattle.qu_base.specs.declared.party.Party.TheVariants as party
use Rattle.qu_frames.specs.declared.frame.Letter.{Letter}
use Rattle.qu_trace.specs.declared.event.Event.TheVariants as event
use Rattle.qu_world.specs.State.{numbered}
use Rattle.qu_frames.specs.declared.input.LetterName.{LetterName}
use Rattle.qu_frames.specs.declared.input.Input.{Input}
use Rattle.qu_frames.specs.declared.input.Input.TheVariants.{Frame, Tick, Invoke}
use Rattle.qu_replay.specs.declared.kept_step.KeptStep.{KeptStep}
use Rattle.qu_replay.specs.Told.{IsDelivery, IsEventOf, AreTold}
use Rattle.qu_replay.specs.Merged.{place_of, event_of, entry_of, merged_entries, letters_in}
use Rattle.qu_replay.specs.Entries.{IsNamedLetter, WasSentBefore, WereSentBefore}
use Rattle.qu_replay.proofs.Naming.{named_at}

abbrev Merged : Type 0
Merged = List (Party × KeptStep)

-- ---- one step

frame_told : (all front rest : Merged) (me : Party) (name : LetterName) (text : List ℕ) → all ≡ front ++ rest
    → IsNamedLetter front me name text
    → IsDelivery (letters_in front) me text (event.Deliver (place_of all name + 1))
frame_told all front rest me name text split is =
    let at : slice_get (letters_in front) (place_of all name) ≡ Some is.letter =
    ap (λ (it : Merged). slice_get (letters_in front) (place_of it name)) split
    ∙ named_at front rest name is.letter is.found in
    let next : suc (place_of all name) ≡ place_of all name + 1 = omega arith in
    record {
      number = place_of all name + 1;
      letter = is.letter;
      event = refl;
      found = ap (λ (it : ℕ). numbered (letters_in front) it) (sym next) ∙ at;
      to = is.to;
      text_is = is.text_is;
    }

event_told : (all front rest : Merged) (me : Party) (input : Input) → all ≡ front ++ rest → WasSentBefore front me input
    → IsEventOf (letters_in front) me input (event_of all me input)
event_told all front rest me (Frame name text) split sent = frame_told all front rest me name text split sent
event_told all front rest (party.Client me) Tick split sent = refl
event_told all front rest (party.Client me) (Invoke op) split sent = refl
event_told all front rest (party.Replica me) Tick split sent = absurd sent
event_told all front rest (party.Replica me) (Invoke op) split sent = absurd sent

-- ---- all steps

told_from : (all front xs : Merged) → all ≡ front ++ xs → WereSentBefore front xs
    → AreTold (letters_in front) xs (map (entry_of all) xs)
unfolding AreTold WereSentBefore
told_from all front [] split sent = tt
told_from all front (x ∷ xs) split sent =
    let more : letters_in (front ++ x ∷ []) ≡ letters_in front ++ x.1.letters =
    flat_map-append (λ (it : Party × KeptStep). it.1.letters) front (x ∷ [])
    ∙ ap (λ (it : List Letter). letters_in front ++ it) (append-nil x.1.letters) in
    let rest = told_from all (front ++ x ∷ []) xs (split ∙ sym (append_assoc front (x ∷ []) xs)) sent.1 in (
      record {
        event = event_told all front (x ∷ xs) x.0 x.1.input split sent.0;
        letters = refl;
        ended = refl;
      },
      subst (λ (it : List Letter). AreTold it xs (map (entry_of all) xs)) more rest,
    )

pub sent_told : (all : Merged) → WereSentBefore [] all → AreTold [] all (merged_entries all)
sent_told all sent = told_from all [] all refl sent

-- ---- one step more

sent_push : (front xs : Merged) (x : Party × KeptStep) → WereSentBefore front xs
    → WasSentBefore (front ++ xs) x.0 x.1.input
    → WereSentBefore front (xs ++ x ∷ [])
unfolding WereSentBefore
sent_push front [] x sent here =
    (subst (λ (it : Merged). WasSentBefore it x.0 x.1.input) (append-nil front) here, tt)
sent_push front (y ∷ xs) x sent here = (
  sent.0,
  sent_push (front ++ y ∷ []) xs x sent.1
      (subst (λ (it : Merged). WasSentBefore it x.0 x.1.input) (sym (append_assoc front (y ∷ []) xs)) here),
)

taken_more : (all : Merged) (count : ℕ) (x : Party × KeptStep) → count < length all → x ≡ get_or all count x
    → take (count + 1) all ≡ take count all ++ x ∷ []
taken_more all count x within is =
    take_more all count x within ∙ ap (λ (it : Party × KeptStep). take count all ++ it ∷ []) (sym is)

pub sent_more : (all : Merged) (count : ℕ) (x : Party × KeptStep) → count < length all → x ≡ get_or all count x
    → WereSentBefore [] (take count all) → WasSentBefore (take count all) x.0 x.1.input
    → WereSentBefore [] (take (count + 1) all)
sent_more all count x within is sent here =
    subst (WereSentBefore []) (sym (taken_more all count x within is)) (sent_push [] (take count all) x sent here)
