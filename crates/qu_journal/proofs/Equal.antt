-- What the tests of equal steps decide.
use Rattle.std.proofs.Common.{◌≡◌, ℕ, true, false, List, Option, None, Some, refl, sym, ap, inl, inr}
use Rattle.std.specs.Prelude.{◌==◌, ◌&&◌}
use Rattle.std.specs.Bool.{Decides}
use Rattle.std.specs.Cmp.Lexicographic.{pointwise, bytes_decides}
use Rattle.std.proofs.lemmas.Bool.{false≢true, cases_Bool, and_parts, and_from}
use Rattle.std.proofs.lemmas.Bool.Decides.{Decides-eqb}
use Rattle.std.proofs.lemmas.Slice.Eq.{slice_eq-Decides}
use Rattle.qu_base.specs.declared.party.ClientId.{ClientId}
use Rattle.qu_base.specs.declared.party.Party.{Party}
use Rattle.qu_base.proofs.Numbered.{client_is}
use Rattle.qu_objects.specs.declared.answer.Answer.{Answer}
use Rattle.qu_objects.specs.declared.op.Op.{Op}
use Rattle.qu_objects.specs.declared.op.Outcome.{Outcome}
use Rattle.qu_objects.specs.declared.op.Outcome.TheVariants as outcome
use Rattle.qu_objects.specs.Alike.{are_same_bytes}
use Rattle.qu_machine.proofs.Equalities.{decides_op, decides_answer}
use Rattle.qu_frames.specs.declared.frame.Letter.{Letter}
use Rattle.qu_frames.specs.declared.input.LetterName.{LetterName}
use Rattle.qu_frames.specs.declared.input.Input.{Input}
use Rattle.qu_frames.specs.declared.input.Input.TheVariants.{Frame, Tick, Invoke}
use Rattle.qu_trace.specs.Faulty.{is_same}
use Rattle.qu_trace.proofs.Parties.{decides_party}
use Rattle.qu_replay.specs.declared.kept_step.KeptStep.{KeptStep}
use Rattle.qu_journal.specs.Alike.{same_letter_name, same_input, same_letter, same_outcome, same_end, same_step}

abbrev name_with : Party → ℕ → ℕ → LetterName
name_with from ticket place = record { from = from; ticket = ticket; place = place }

decides_name : (a b : LetterName) → Decides (same_letter_name a b) (a ≡ b)
decides_name a b = (
  λ same.
      let parts = and_parts (is_same a.from b.from) (a.ticket == b.ticket && a.place == b.place) same in
      let numbers = and_parts (a.ticket == b.ticket) (a.place == b.place) parts.1 in
      let from : a.from ≡ b.from = (decides_party a.from b.from).0 parts.0 in
      let ticket : a.ticket ≡ b.ticket = (Decides-eqb a.ticket b.ticket).0 numbers.0 in
      let place : a.place ≡ b.place = (Decides-eqb a.place b.place).0 numbers.1 in
      λ i. name_with (from i) (ticket i) (place i),
  λ same.
      and_from _ _ ((decides_party a.from b.from).1 (ap (λ (it : LetterName). it.from) same))
      (and_from _ _ ((Decides-eqb a.ticket b.ticket).1 (ap (λ (it : LetterName). it.ticket) same))
      ((Decides-eqb a.place b.place).1 (ap (λ (it : LetterName). it.place) same))),
)

decides_input : (a b : Input) → Decides (same_input a b) (a ≡ b)
decides_input (Frame a text) (Frame b bytes) = (
  λ same.
      let parts = and_parts (same_letter_name a b) (are_same_bytes text bytes) same in
      let name : a ≡ b = (decides_name a b).0 parts.0 in
      let text_is : text ≡ bytes = (bytes_decides text bytes).0 parts.1 in
      λ i. Frame (name i) (text_is i),
  λ same. and_from _ _ ((decides_name a b).1 (cc)) ((bytes_decides text bytes).1 (cc)),
)
decides_input (Frame a text) Tick = (λ same. absurd (false≢true same), λ same. absurd (cc))
decides_input (Frame a text) (Invoke b) = (λ same. absurd (false≢true same), λ same. absurd (cc))
decides_input Tick (Frame b bytes) = (λ same. absurd (false≢true same), λ same. absurd (cc))
decides_input Tick Tick = (λ same. refl, λ same. refl)
decides_input Tick (Invoke b) = (λ same. absurd (false≢true same), λ same. absurd (cc))
decides_input (Invoke a) (Frame b bytes) = (λ same. absurd (false≢true same), λ same. absurd (cc))
decides_input (Invoke a) Tick = (λ same. absurd (false≢true same), λ same. absurd (cc))
decides_input (Invoke a) (Invoke b) =
    (λ same. ap (λ (it : Op). Invoke it) ((decides_op a b).0 same), λ same. (decides_op a b).1 (cc))

abbrev letter_with : Party → Party → List ℕ → Letter
letter_with from to text = record { from = from; to = to; text = text }

pub decides_letter : (a b : Letter) → Decides (same_letter a b) (a ≡ b)
decides_letter a b = (
  λ same.
      let parts = and_parts (is_same a.from b.from) (is_same a.to b.to && are_same_bytes a.text b.text) same in
      let others = and_parts (is_same a.to b.to) (are_same_bytes a.text b.text) parts.1 in
      let from : a.from ≡ b.from = (decides_party a.from b.from).0 parts.0 in
      let to : a.to ≡ b.to = (decides_party a.to b.to).0 others.0 in
      let text : a.text ≡ b.text = (bytes_decides a.text b.text).0 others.1 in
      λ i. letter_with (from i) (to i) (text i),
  λ same.
      and_from _ _ ((decides_party a.from b.from).1 (ap (λ (it : Letter). it.from) same))
      (and_from _ _ ((decides_party a.to b.to).1 (ap (λ (it : Letter). it.to) same))
      ((bytes_decides a.text b.text).1 (ap (λ (it : Letter). it.text) same))),
)

pub decides_letters : (a b : List Letter) → Decides (pointwise same_letter a b) (a ≡ b)
decides_letters a b = slice_eq-Decides decides_letter a b (pointwise same_letter a b) refl

decides_outcome : (a b : Outcome) → Decides (same_outcome a b) (a ≡ b)
decides_outcome (outcome.Done a) (outcome.Done b) =
    (λ same. ap (λ (it : Answer). outcome.Done it) ((decides_answer a b).0 same), λ same. (decides_answer a b).1 (cc))
decides_outcome (outcome.Done a) outcome.GaveUp = (λ same. absurd (false≢true same), λ same. absurd (cc))
decides_outcome outcome.GaveUp (outcome.Done b) = (λ same. absurd (false≢true same), λ same. absurd (cc))
decides_outcome outcome.GaveUp outcome.GaveUp = (λ same. refl, λ same. refl)

abbrev End : Type 0
End = ClientId × ℕ × Outcome

decides_one_end : (a b : End) → Decides (same_end (Some a) (Some b)) (a ≡ b)
decides_one_end a b = (
  λ same.
      let parts = and_parts ((a.0).0 == (b.0).0) (a.1 == b.1 && same_outcome a.2 b.2) same in
      let others = and_parts (a.1 == b.1) (same_outcome a.2 b.2) parts.1 in
      let client : a.0 ≡ b.0 = client_is a.0 b.0 ((Decides-eqb (a.0).0 (b.0).0).0 parts.0) in
      let number : a.1 ≡ b.1 = (Decides-eqb a.1 b.1).0 others.0 in
      let how : a.2 ≡ b.2 = (decides_outcome a.2 b.2).0 others.1 in
      λ i. (client i, number i, how i),
  λ same.
      and_from _ _ ((Decides-eqb (a.0).0 (b.0).0).1 (ap (λ (it : End). (it.0).0) same))
      (and_from _ _ ((Decides-eqb a.1 b.1).1 (ap (λ (it : End). it.1) same))
      ((decides_outcome a.2 b.2).1 (ap (λ (it : End). it.2) same))),
)

decides_end : (a b : Option End) → Decides (same_end a b) (a ≡ b)
decides_end None None = (λ same. refl, λ same. refl)
decides_end None (Some b) = (λ same. absurd (false≢true same), λ same. absurd (cc))
decides_end (Some a) None = (λ same. absurd (false≢true same), λ same. absurd (cc))
decides_end (Some a) (Some b) =
    (λ same. ap (λ (it : End). Some it) ((decides_one_end a b).0 same), λ same. (decides_one_end a b).1 (cc))

abbrev step_with : Party → ℕ → Input → List Letter → Option End → Party × KeptStep
step_with me ticket input letters ended =
    (me, record { ticket = ticket; input = input; letters = letters; ended = ended })

pub decides_step : (a b : Party × KeptStep) → Decides (same_step a b) (a ≡ b)
decides_step a b = (
  λ same.
      let first = and_parts (is_same a.0 b.0) _ same in
      let second = and_parts (a.1.ticket == b.1.ticket) _ first.1 in
      let third = and_parts (same_input a.1.input b.1.input) _ second.1 in
      let fourth =
      and_parts (pointwise same_letter a.1.letters b.1.letters) (same_end a.1.ended b.1.ended) third.1 in
      let me : a.0 ≡ b.0 = (decides_party a.0 b.0).0 first.0 in
      let ticket : a.1.ticket ≡ b.1.ticket = (Decides-eqb a.1.ticket b.1.ticket).0 second.0 in
      let input : a.1.input ≡ b.1.input = (decides_input a.1.input b.1.input).0 third.0 in
      let letters : a.1.letters ≡ b.1.letters = (decides_letters a.1.letters b.1.letters).0 fourth.0 in
      let ended : a.1.ended ≡ b.1.ended = (decides_end a.1.ended b.1.ended).0 fourth.1 in
      λ i. step_with (me i) (ticket i) (input i) (letters i) (ended i),
  λ same.
      and_from _ _ ((decides_party a.0 b.0).1 (ap (λ (it : Party × KeptStep). it.0) same))
      (and_from _ _ ((Decides-eqb a.1.ticket b.1.ticket).1 (ap (λ (it : Party × KeptStep). it.1.ticket) same))
      (and_from _ _ ((decides_input a.1.input b.1.input).1 (ap (λ (it : Party × KeptStep). it.1.input) same))
      (and_from _ _
      ((decides_letters a.1.letters b.1.letters).1 (ap (λ (it : Party × KeptStep). it.1.letters) same))
      ((decides_end a.1.ended b.1.ended).1 (ap (λ (it : Party × KeptStep). it.1.ended) same))))),
)

-- where lists are told to be equal or not, so does the test of all their items
pub equal_letters : (a b : List Letter) → a ≡ b → true ≡ pointwise same_letter a b
equal_letters a b same = sym ((decides_letters a b).1 same)

pub other_letters : (a b : List Letter) → (a ≡ b → ⊥) → false ≡ pointwise same_letter a b
other_letters a b other =
    elim (cases_Bool (pointwise same_letter a b)) [
      | inl same ↦ absurd (other ((decides_letters a b).0 same))
      | inr apart ↦ sym apart
    ]
