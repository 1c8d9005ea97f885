-- the lines are those of the event, of its points and of its letters; and the letters and the call are known too
use Rattle.std.proofs.Common.{rules, arith, append_assoc, ℕ, ◌≡◌, ◌+◌, [], ◌∷◌, ◌++◌, List, length, map, ap, sym, ◌∙◌, string_bytes}
use Rattle.std.proofs.lemmas.Grind.{common_steps}
use Rattle.qu_print.specs.Lines.{lines_text}
use Rattle.qu_trace.specs.Letters.{letters_of}
use Rattle.qu_listed.specs.Events.{event_line, points_below, letter_lines}
use Rattle.qu_listing.proofs.EventFacts.{entry_text}
use Rattle.qu_listing.proofs.LetterFacts.{sent_more}
use Rattle.qu_world.specs.State.{WorldState}
use Rattle.qu_listing.specs.SoFar.{sent_of}
use Rattle.qu_listed.specs.World.{followed}
use Rattle.qu_listing.proofs.WorldFacts.{world_more}
use Rattle.qu_listing.proofs.events.put_event.Goals as goal

pub returns-clause-text : goal.returns-clause-text
unfolding event_line
returns-clause-text c =
    let setup = c.args.receivers.now in
    let earlier = c.args.earlier.now in
    let entry = c.args.entry.now in
    let head = event_line setup earlier entry ++ 10 ∷ [] in
    let points = lines_text (points_below (length earlier + 1) c.args.order.now) in
    let letters = lines_text (letter_lines (length (letters_of earlier) + 1) entry.letters) in
    let front : string_bytes c.put_back.new.text ≡ string_bytes c.args.text.now ++ head = grind (arith, common_steps) in
    let middle : string_bytes c.put_points.new.text ≡ string_bytes c.put_back.new.text ++ points = search rules in
    let back : string_bytes c.put_letters.new.text ≡ string_bytes c.put_points.new.text ++ letters =
    grind (arith, common_steps) in
    back ∙ ap (λ (it : List ℕ). it ++ letters) (middle ∙ ap (λ (it : List ℕ). it ++ points) front)
    ∙ append_assoc (string_bytes c.args.text.now ++ head) points letters
    ∙ append_assoc (string_bytes c.args.text.now) head (points ++ letters)
    ∙ ap (λ (it : List ℕ). string_bytes c.args.text.now ++ it) (sym (entry_text setup c.args.order.now earlier entry))

pub returns-clause-known : goal.returns-clause-known
returns-clause-known c = record {
  sent = sent_more c.args.receivers.now c.args.earlier.now c.args.entry.now c.args.known.now.sent
      c.put_letters.new.sent c.requires.sent
      ((rw c.as_slice.ensures at c.in_ok-put_letters.ensures.sent)
      ∙ ap (λ so_far. so_far ++ map (sent_of c.args.receivers.now) c.args.entry.now.letters)
      c.in_ok-note.ensures.sent);
  calls = c.in_ok-note.ensures.calls;
  starts = c.in_ok-note.ensures.starts;
  world = c.in_ok-note.ensures.world
      ∙ ap (λ (world : WorldState). followed world c.args.entry.now.event) c.requires.world
      ∙ sym (world_more c.args.receivers.now c.args.earlier.now c.args.entry.now);
}
