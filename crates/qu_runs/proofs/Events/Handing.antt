-- What an event hands to a party, and what comes of it.
use Rattle.qu_world.proofs.Steps.{AtCorrect, step_cases, step_moved}
use Rattle.qu_world.specs.Step.{moved, at_faulty, is_to_faulty}
use Rattle.qu_trace.specs.Faulty.{is_faulty}
use Rattle.qu_trace.specs.declared.trace.Setup.{Setup}
use Rattle.std.proofs.Common.{Bool, cond, false, refl}
use Rattle.std.proofs.lemmas.Bool.{cases_Bool}
use Rattle.std.proofs.Common.{◌≡◌, ℕ, List, Option, None, Some, inl, inr, sym, ap, subst, ◌∙◌}
use Rattle.std.specs.Prelude.{option_map}
use Rattle.std.proofs.lemmas.Option.{none-some, same_Some}
use Rattle.qu_base.specs.declared.party.Party.{Party}
use Rattle.qu_frames.specs.declared.frame.Letter.{Letter}
use Rattle.qu_trace.specs.declared.event.Event.{Event}
use Rattle.qu_trace.specs.declared.event.Event.TheVariants.{Invoke, Deliver, Tick, Inject}
use Rattle.qu_world.specs.State.{WorldState, letter_of}
use Rattle.qu_world.specs.Step.{world_step, unchanged, received, delivered}
use Rattle.qu_claims.specs.Carried.{offered, handed}
use Rattle.qu_runs.specs.Plain.{IsOfFaulty, IsPlain}

-- the receiver of a letter, and its bytes
abbrev pub hand : Letter → Party × List ℕ
hand letter = (letter.to, letter.text)

-- what is handed reaches the party
delivered_so : (world : WorldState) (event : Event) (to : Party) (text : List ℕ) (found : Option Letter)
    → option_map hand found ≡ Some (to, text) → delivered world event found ≡ received world event to text
delivered_so world event to text None is = absurd (none-some (to, text) is)
delivered_so world event to text (Some letter) is = ap (λ (it : Party × List ℕ). received world event it.0 it.1)
    (same_Some (hand letter) (to, text) is)

offered_moves : (world : WorldState) (event : Event) (to : Party) (text : List ℕ) → offered world event ≡ Some
    (to, text) → moved world event ≡ received world event to text
offered_moves world (Invoke client op) to text is = absurd (none-some (to, text) is)
offered_moves world (Deliver number) to text is =
    delivered_so world (Deliver number) to text (letter_of world number) is
offered_moves world (Tick client) to text is = absurd (none-some (to, text) is)
offered_moves world (Inject who other) to text is =
    ap (λ (it : Party × List ℕ). received world (Inject who other) it.0 it.1) (same_Some (who, other) (to, text) is)

-- bytes are handed to correct parties alone
record IsHanded (world : WorldState) (event : Event) (to : Party) (text : List ℕ) : Type 0 where
  correct : AtCorrect world event
  offers : offered world event ≡ Some (to, text)

is_handed : (world : WorldState) (event : Event) (to : Party) (text : List ℕ) → handed world event ≡ Some (to, text)
    → IsHanded world event to text
is_handed world event to text is =
    let hands : Bool → Option (Party × List ℕ) = λ faulty. cond faulty None (offered world event) in
    elim (cases_Bool (at_faulty world.setup world.entries event)) [
      | inl faulty ↦ absurd (none-some (to, text) (sym (ap hands faulty) ∙ is))
      | inr correct ↦ record { correct = correct; offers = sym (ap hands correct) ∙ is }
    ]

pub handed_step : (world : WorldState) (event : Event) (to : Party) (text : List ℕ) → handed world event ≡ Some
    (to, text) → world_step world event ≡ received world event to text
handed_step world event to text is =
    let it : IsHanded world event to text = is_handed world event to text is in
    step_moved world event it.correct ∙ offered_moves world event to text it.offers

letter_correct : (setup : Setup) (to : Party) (text : List ℕ) (found : Option Letter)
    → option_map hand found ≡ Some (to, text) → is_to_faulty setup found ≡ false → is_faulty setup to ≡ false
letter_correct setup to text None is correct = absurd (none-some (to, text) is)
letter_correct setup to text (Some letter) is correct =
    ap (λ (it : Party × List ℕ). is_faulty setup it.0) (sym (same_Some (hand letter) (to, text) is)) ∙ correct

offered_correct : (world : WorldState) (event : Event) (to : Party) (text : List ℕ) → offered world event ≡ Some
    (to, text) → AtCorrect world event → is_faulty world.setup to ≡ false
offered_correct world (Invoke client op) to text is correct = absurd (none-some (to, text) is)
offered_correct world (Deliver number) to text is correct =
    letter_correct world.setup to text (letter_of world number) is correct
offered_correct world (Tick client) to text is correct = absurd (none-some (to, text) is)
offered_correct world (Inject who other) to text is correct =
    ap (λ (it : Party × List ℕ). is_faulty world.setup it.0) (sym (same_Some (who, other) (to, text) is)) ∙ correct

-- bytes are handed to no faulty party
pub handed_correct : (world : WorldState) (event : Event) (to : Party) (text : List ℕ) → handed world event ≡ Some
    (to, text) → is_faulty world.setup to ≡ false
handed_correct world event to text is =
    let it : IsHanded world event to text = is_handed world event to text is in
    offered_correct world event to text it.offers it.correct

pub handed_offers : (world : WorldState) (event : Event) (to : Party) (text : List ℕ) → handed world event ≡ Some
    (to, text) → offered world event ≡ Some (to, text)
handed_offers world event to text is = (is_handed world event to text is).offers

-- what is offered to a correct party is handed over
pub offered_handed : (world : WorldState) (event : Event) (to : Party) (text : List ℕ) → AtCorrect world event
    → offered world event ≡ Some (to, text) → handed world event ≡ Some (to, text)
offered_handed world event to text correct is =
    ap (λ (faulty : Bool). cond faulty None (offered world event)) correct ∙ is

-- and so is a delivered letter
pub letter_handed : (world : WorldState) (number : ℕ) (letter : Letter) → AtCorrect world (Deliver number)
    → letter_of world number ≡ Some letter → handed world (Deliver number) ≡ Some (letter.to, letter.text)
letter_handed world number letter correct is =
    offered_handed world (Deliver number) letter.to letter.text correct (ap (option_map hand) is)

-- an injection changes nothing, or hands over a letter that was sent, or what a faulty party made
pub injected_cases : (world : WorldState) (to : Party) (text : List ℕ) (P : Event → WorldState → Type 0)
    → P (Inject to text) (unchanged world (Inject to text))
    → ((number : ℕ) (letter : Letter) → letter_of world number ≡ Some letter
    → handed world (Inject letter.to letter.text) ≡ Some (letter.to, letter.text)
    → P (Inject letter.to letter.text) (received world (Inject letter.to letter.text) letter.to letter.text))
    → (IsOfFaulty world to text → handed world (Inject to text) ≡ Some (to, text)
    → P (Inject to text) (received world (Inject to text) to text))
    → IsPlain world (Inject to text) → P (Inject to text) (world_step world (Inject to text))
injected_cases world to text P none sent_so made_so (inl ignored) = subst (P (Inject to text)) (sym ignored.same) none
injected_cases world to text P none sent_so made_so (inr (inl sent)) =
    let Q : Party → List ℕ → Type 0 = λ who bytes.
    handed world (Inject who bytes) ≡ Some (who, bytes) → P (Inject who bytes) (received world (Inject who bytes)
    who bytes) in
    let received_so : Q to text =
    subst (Q to) sent.text_is
    (subst (λ (who : Party). Q who (sent.letter).text) sent.to_is (sent_so sent.number sent.letter sent.is_letter)) in
    step_cases (P (Inject to text)) world (Inject to text) none
    (λ correct. received_so (offered_handed world (Inject to text) to text correct refl))
injected_cases world to text P none sent_so made_so (inr (inr made)) =
    step_cases (P (Inject to text)) world (Inject to text) none
    (λ correct. made_so made (offered_handed world (Inject to text) to text correct refl))
