-- A slot is taken and filled again.
use Rattle.std.proofs.Common.{rules, ◌≡◌, ℕ, ◌<◌, length, set, Option, None, Some, sym, ap, ◌∙◌}
use Rattle.std.specs.Prelude.{slice_get, unwrap_or}
use Rattle.std.proofs.lemmas.Option.{slice_get-get_or}
use Rattle.qu_waiting.specs.Waiting.{Waiting}
use Rattle.qu_waiting.specs.declared.next.Next.{Next}
use Rattle.qu_waiting.specs.Slots.{next_slot}
use Rattle.qu_waiting.proofs.SlotLaws.{set_over}
use Rattle.qu_waiting.proofs.slots.turn_slot.Goals as goal

pub returns-then-place-slots : goal.returns-then-place-slots
returns-then-place-slots c =
    let slots = c.args.slots.now in
    let place : c.from-place.result ≡ (c.args.turn.client).0 = search rules in
    let below : c.from-place.result < length slots = search rules in
    let next : c.into_parts-next.result.1 ≡ c.args.turn.next = search rules in
    let got : slice_get slots c.from-place.result ≡ Some c.take.result =
    slice_get-get_or slots c.from-place.result c.index-slots-place.result below
    ∙ ap Some (sym c.take.ensures.value) in
    set_over slots c.from-place.result c.take.new.self c.slot_after.result
    ∙ ap (set slots c.from-place.result)
    (c.slot_after.ensures
    ∙ ap (λ (it : Next). next_slot it c.take.result) next
    ∙ ap (λ (it : Option (Option Waiting)). next_slot c.args.turn.next (unwrap_or it None)) (sym got))
    ∙ ap (λ (at : ℕ). set slots at (next_slot c.args.turn.next (unwrap_or (slice_get slots at) None))) place
