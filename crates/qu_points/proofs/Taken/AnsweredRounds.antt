-- The first answer to a round is found among the rounds that the letters of each entry answer.
use Rattle.std.proofs.Common.{◌≡◌, ℕ, ◌+◌, Bool, not, cond, ◌||◌, List, [], ◌∷◌, length, Option, None, Some, Result, Ok, Err, refl, ap, ◌∙◌}
use Rattle.std.specs.Prelude.{nat_lt, map, position, option_map}
use Rattle.std.specs.List.{list_any, filter_map, cons_option, position_or_len}
use Rattle.std.proofs.lemmas.List.{length-map}
use Rattle.qu_base.specs.declared.bad_text.BadText.{BadText}
use Rattle.qu_frames.specs.declared.frame.Frame.{Frame}
use Rattle.qu_frames.specs.declared.frame.Frame.TheVariants as frame
use Rattle.qu_frames.specs.declared.frame.Letter.{Letter}
use Rattle.qu_frames.specs.Decoding.{decoded}
use Rattle.qu_trace.specs.declared.event.Event.{Event}
use Rattle.qu_trace.specs.declared.event.Event.TheVariants.{Invoke, Deliver, Tick, Inject}
use Rattle.qu_trace.specs.declared.trace.Entry.{Entry}
use Rattle.qu_trace.specs.declared.trace.Trace.{Trace}
use Rattle.qu_trace.specs.Letters.{letters_of, numbered, offered_by}
use Rattle.qu_trace.specs.Decoded.{frame_found, frame_offered, frame_offered_at}
use Rattle.qu_claims.specs.Answers.{is_answer, answers, round_in, round_of, delivered_round}
use Rattle.qu_known.specs.declared.answers.Answered.{Answered}
use Rattle.qu_known.specs.Answers.{round_answered, letter_answered, rounds_answered}
use Rattle.qu_points.specs.Points.{round_by, answers_in, has_answered, first_answer}

-- the round that is answered
pub round_of_answer : (found : Result Frame BadText) → option_map (λ (answer : Answered). answer.round)
    (round_answered found) ≡ round_in found
round_of_answer (Ok (frame.Reply replica client number round verdict culled shown mac)) = refl
round_of_answer _ = refl

found_round : (found : Result Frame BadText) → round_by (frame_found found) ≡ round_in found
found_round (Ok sent) = refl
found_round (Err bad) = refl

letter_round : (found : Option Letter)
    → round_by (frame_offered (option_map (λ (letter : Letter). (letter.to, letter.text)) found)) ≡ round_of found
letter_round None = refl
letter_round (Some letter) = found_round (decoded letter.text)

event_round : (trace : Trace) (entry : Entry) (event : Event)
    → round_by (frame_offered (offered_by trace.entries event))
    ≡ delivered_round trace (Some (record entry { event = event }))
event_round trace entry (Invoke client op) = refl
event_round trace entry (Deliver number) = letter_round (numbered (letters_of trace.entries) number)
event_round trace entry (Tick client) = refl
event_round trace entry (Inject to text) = found_round (decoded text)

-- the round of the answer that an event offers
pub round_offered : (trace : Trace) (found : Option Entry)
    → round_by (frame_offered_at trace.entries found) ≡ delivered_round trace found
round_offered trace None = refl
round_offered trace (Some entry) = event_round trace entry entry.event

-- ---- one entry

one_answer : (asked : Answered) (found : Result Frame BadText) (later : List Answered)
    → has_answered asked (cons_option (round_answered found) later) ≡ (is_answer asked.client asked.number asked.round
    found || has_answered asked later)
one_answer asked (Ok (frame.Reply replica client number round verdict culled shown mac)) later = refl
one_answer asked _ later = refl

among_answers : (asked : Answered) (letters : List Letter)
    → has_answered asked (filter_map letter_answered letters) ≡ list_any
    (answers asked.client asked.number asked.round) letters
among_answers asked [] = refl
among_answers asked (letter ∷ later) =
    one_answer asked (decoded letter.text) (filter_map letter_answered later) ∙
    ap (λ (rest : Bool). is_answer asked.client asked.number asked.round (decoded letter.text) || rest)
    (among_answers asked later)

-- ---- all entries

place_answered : (asked : Answered) (entries : List Entry) → position_or_len (has_answered asked)
    (map rounds_answered entries) ≡ position_or_len (answers_in asked.client asked.number asked.round) entries
unfolding rounds_answered
place_answered asked [] = refl
place_answered asked (entry ∷ later) =
    ap (λ (test : Bool). cond (not test) (1 + position_or_len (has_answered asked) (map rounds_answered later)) 0)
    (among_answers asked entry.letters) ∙
    ap (λ (rest : ℕ). cond (not (answers_in asked.client asked.number asked.round entry)) (1 + rest) 0)
    (place_answered asked later)

pub first_answered : (asked : Answered) (entries : List Entry)
    → first_answer asked (map rounds_answered entries) ≡ option_map (λ index. index + 1)
    (position (answers_in asked.client asked.number asked.round) entries)
first_answered asked entries =
    let place : position_or_len (has_answered asked) (map rounds_answered entries) ≡ position_or_len
    (answers_in asked.client asked.number asked.round) entries = place_answered asked entries in
    let size : length (map rounds_answered entries) ≡ length entries = length-map entries rounds_answered in
    ap (λ (it : Option ℕ). option_map (λ index. index + 1) it)
    (λ i. cond (nat_lt (place i) (size i)) (Some (place i)) None)
