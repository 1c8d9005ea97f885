-- Facts on the events of lines, one after another.
use Rattle.std.proofs.Common.{◌≡◌, ℕ, zero, suc, ◌+◌, ◌<◌, ◌≤◌, List, length, get_or, drop, Option, None, Some, Result, Ok, Err, refl, sym, ap, subst, ◌∙◌}
use Rattle.std.proofs.lemmas.List.{at_drop_more, at_drop_all}
use Rattle.qu_base.specs.declared.party.ClientId.{ClientId}
use Rattle.qu_trace.specs.declared.event.Event.TheVariants as event
use Rattle.qu_script_words.specs.declared.bad.ScriptFail.{ScriptFail}
use Rattle.qu_script_words.specs.declared.bad.ScriptFail.TheVariants as fails
use Rattle.qu_script_words.specs.Meaning.{then_good}
use Rattle.qu_language.specs.declared.line.Line.{Line}
use Rattle.qu_script.specs.Events.{Playing, Stopped, StopsAs, MakesPlay, event_made, deliveries_made, if_waiting, lowest_waiting, flow_made, ticks_made, line_made, lines_made}

-- ---- stops

-- what ends a first part ends the whole
stops_then : (fail : ScriptFail) (at : Playing) (first : Result Playing Stopped)
    (next : Playing → Result Playing Stopped) → StopsAs fail at first → StopsAs fail at (then_good first next)
stops_then (fails.Bad bad) at first next is = ap (λ (it : Result Playing Stopped). then_good it next) is
stops_then fails.NoMemory at first next is = tt

stops_as : (fail : ScriptFail) (at : Playing) (meant same : Result Playing Stopped) → meant ≡ same
    → StopsAs fail at meant → StopsAs fail at same
stops_as fail at meant same is here = subst (λ (it : Result Playing Stopped). StopsAs fail at it) is here

pub stops_with : (result : Result (Unit {0}) ScriptFail) (fail : ScriptFail) (playing : Playing)
    (meant : Result Playing Stopped) → result ≡ Err fail → StopsAs fail playing meant
    → MakesPlay result playing meant
stops_with result fail playing meant is here =
    subst (λ (it : Result (Unit {0}) ScriptFail). MakesPlay it playing meant) (sym is) here

-- ---- deliveries

deliveries_step : (number : ℕ) (playing : Playing) (letters : List ℕ) (index : ℕ) → index < length letters
    → deliveries_made number playing (drop index letters)
    ≡ then_good (event_made number playing (event.Deliver (get_or letters index 0)))
    (λ after. deliveries_made number after (drop (index + 1) letters))
unfolding deliveries_made
deliveries_step number playing letters index below = at_drop_more (deliveries_made number playing) letters index 0 below

pub deliveries_more : (number : ℕ) (playing after : Playing) (letters : List ℕ) (index : ℕ) → index < length letters
    → event_made number playing (event.Deliver (get_or letters index 0)) ≡ Ok after
    → deliveries_made number after (drop (index + 1) letters) ≡ deliveries_made number playing (drop index letters)
deliveries_more number playing after letters index below made =
    sym (deliveries_step number playing letters index below
    ∙ ap (λ (it : Result Playing Stopped). then_good it
    (λ after. deliveries_made number after (drop (index + 1) letters))) made)

pub deliveries_stop : (number : ℕ) (playing : Playing) (letters : List ℕ) (index : ℕ) (fail : ScriptFail) (at : Playing)
    (meant : Result Playing Stopped) → index < length letters
    → deliveries_made number playing (drop index letters) ≡ meant
    → StopsAs fail at (event_made number playing (event.Deliver (get_or letters index 0))) → StopsAs fail at meant
deliveries_stop number playing letters index fail at meant below is here =
    stops_as fail at _ meant (sym (deliveries_step number playing letters index below) ∙ is)
    (stops_then fail at (event_made number playing (event.Deliver (get_or letters index 0)))
    (λ after. deliveries_made number after (drop (index + 1) letters)) here)

pub deliveries_end : (number : ℕ) (playing : Playing) (letters : List ℕ) (index : ℕ) → length letters ≤ index
    → deliveries_made number playing (drop index letters) ≡ Ok playing
unfolding deliveries_made
deliveries_end number playing letters index past = at_drop_all (deliveries_made number playing) letters index past

-- ---- flow

flow_step : (number left : ℕ) (playing : Playing) → flow_made number (suc left) playing
    ≡ if_waiting playing (lowest_waiting playing)
    (λ letter. then_good (event_made number playing (event.Deliver letter)) (λ after. flow_made number left after))
unfolding flow_made
flow_step number left playing = refl

flow_delivers : (number left letter : ℕ) (playing : Playing) → lowest_waiting playing ≡ Some letter
    → flow_made number (suc left) playing ≡ then_good (event_made number playing (event.Deliver letter))
    (λ after. flow_made number left after)
flow_delivers number left letter playing is =
    flow_step number left playing
    ∙ ap (λ (it : Option ℕ). if_waiting playing it
    (λ letter. then_good (event_made number playing (event.Deliver letter)) (λ after. flow_made number left after))) is

pub flow_more : (number left count letter : ℕ) (playing after : Playing) → count ≡ suc left
    → lowest_waiting playing ≡ Some letter
    → event_made number playing (event.Deliver letter) ≡ Ok after → flow_made number left after ≡ flow_made number
    count playing
flow_more number left count letter playing after is waits made =
    sym (ap (λ (it : ℕ). flow_made number it playing) is
    ∙ flow_delivers number left letter playing waits
    ∙ ap (λ (it : Result Playing Stopped). then_good it (λ after. flow_made number left after)) made)

pub flow_stop : (number left count letter : ℕ) (playing : Playing) (fail : ScriptFail) (at : Playing)
    (meant : Result Playing Stopped) → count ≡ suc left → lowest_waiting playing ≡ Some letter
    → flow_made number count playing ≡ meant → StopsAs fail at (event_made number playing (event.Deliver letter))
    → StopsAs fail at meant
flow_stop number left count letter playing fail at meant is waits same here =
    stops_as fail at _ meant (sym (flow_delivers number left letter playing waits)
    ∙ ap (λ (it : ℕ). flow_made number it playing) (sym is) ∙ same)
    (stops_then fail at (event_made number playing (event.Deliver letter)) (λ after. flow_made number left after) here)

pub flow_rests : (number count : ℕ) (playing : Playing) → lowest_waiting playing ≡ None
    → flow_made number count playing ≡ Ok playing
unfolding flow_made
flow_rests number zero playing none = refl
flow_rests number (suc left) playing none =
    ap (λ (it : Option ℕ). if_waiting playing it
    (λ letter. then_good (event_made number playing (event.Deliver letter))
    (λ after. flow_made number left after))) none

pub flow_end : (number count : ℕ) (playing : Playing) → count ≡ 0 → flow_made number count playing ≡ Ok playing
unfolding flow_made
flow_end number count playing is = ap (λ (it : ℕ). flow_made number it playing) is

-- ---- time

ticks_step : (number left : ℕ) (client : ClientId) (playing : Playing)
    → ticks_made number client (suc left) playing
    ≡ then_good (event_made number playing (event.Tick client)) (λ after. ticks_made number client left after)
unfolding ticks_made
ticks_step number left client playing = refl

pub ticks_more : (number left count : ℕ) (client : ClientId) (playing after : Playing) → count ≡ suc left
    → event_made number playing (event.Tick client) ≡ Ok after
    → ticks_made number client left after ≡ ticks_made number client count playing
ticks_more number left count client playing after is made =
    sym (ap (λ (it : ℕ). ticks_made number client it playing) is ∙ ticks_step number left client playing
    ∙ ap (λ (it : Result Playing Stopped). then_good it (λ after. ticks_made number client left after)) made)

pub ticks_stop : (number left count : ℕ) (client : ClientId) (playing : Playing) (fail : ScriptFail) (at : Playing)
    (meant : Result Playing Stopped) → count ≡ suc left → ticks_made number client count playing ≡ meant
    → StopsAs fail at (event_made number playing (event.Tick client)) → StopsAs fail at meant
ticks_stop number left count client playing fail at meant is same here =
    stops_as fail at _ meant (sym (ticks_step number left client playing)
    ∙ ap (λ (it : ℕ). ticks_made number client it playing) (sym is) ∙ same)
    (stops_then fail at (event_made number playing (event.Tick client))
    (λ after. ticks_made number client left after) here)

pub ticks_end : (number count : ℕ) (client : ClientId) (playing : Playing) → count ≡ 0
    → ticks_made number client count playing ≡ Ok playing
unfolding ticks_made
ticks_end number count client playing is = ap (λ (it : ℕ). ticks_made number client it playing) is

-- ---- lines

lines_step : (playing : Playing) (lines : List (ℕ × Line)) (index : ℕ) (default : ℕ × Line) → index < length lines
    → lines_made playing (drop index lines)
    ≡ then_good (line_made (get_or lines index default).0 playing (get_or lines index default).1)
    (λ after. lines_made after (drop (index + 1) lines))
unfolding lines_made
lines_step playing lines index default below = at_drop_more (lines_made playing) lines index default below

pub lines_more : (playing after : Playing) (lines : List (ℕ × Line)) (index : ℕ) (line : ℕ × Line)
    → index < length lines → line ≡ get_or lines index line
    → line_made line.0 playing line.1 ≡ Ok after → lines_made after (drop (index + 1) lines) ≡ lines_made playing
    (drop index lines)
lines_more playing after lines index line below is made =
    sym (lines_step playing lines index line below
    ∙ ap (λ (it : ℕ × Line). then_good (line_made it.0 playing it.1)
    (λ after. lines_made after (drop (index + 1) lines))) (sym is)
    ∙ ap (λ (it : Result Playing Stopped). then_good it (λ after. lines_made after (drop (index + 1) lines))) made)

pub lines_stop : (playing : Playing) (lines : List (ℕ × Line)) (index : ℕ) (line : ℕ × Line) (fail : ScriptFail)
    (at : Playing)
    (meant : Result Playing Stopped) → index < length lines → line ≡ get_or lines index line
    → lines_made playing (drop index lines) ≡ meant → StopsAs fail at (line_made line.0 playing line.1)
    → StopsAs fail at meant
lines_stop playing lines index line fail at meant below is same here =
    stops_as fail at _ meant
    (sym (lines_step playing lines index line below
    ∙ ap (λ (it : ℕ × Line). then_good (line_made it.0 playing it.1)
    (λ after. lines_made after (drop (index + 1) lines))) (sym is)) ∙ same)
    (stops_then fail at (line_made line.0 playing line.1) (λ after. lines_made after (drop (index + 1) lines)) here)

pub lines_end : (playing : Playing) (lines : List (ℕ × Line)) (index : ℕ) → length lines ≤ index
    → lines_made playing (drop index lines) ≡ Ok playing
unfolding lines_made
lines_end playing lines index past = at_drop_all (lines_made playing) lines index past
