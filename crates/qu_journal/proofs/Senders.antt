-- The filed step that a letter names as its sender, in the order of tickets and in the journal.
use Rattle.std.proofs.Common.{◌≡◌, ℕ, ◌+◌, ◌<◌, ◌≤◌, Bool, true, cond, eqb, List, [], ◌∷◌, map, length, get_or, drop, Option, Some, refl, sym, ap, ◌∙◌, arith, inl, inr}
use Rattle.std.specs.Prelude.{slice_get, option_map}
use Rattle.std.specs.List.{find}
use Rattle.std.proofs.lemmas.Bool.{cases_Bool}
use Rattle.std.proofs.lemmas.List.{at_drop_more, at_drop_all}
use Rattle.std.proofs.lemmas.Option.{slice_get_read, slice_get_past}
use Rattle.qu_base.specs.declared.party.Party.{Party}
use Rattle.qu_frames.specs.declared.input.Input.{Input}
use Rattle.qu_frames.specs.declared.input.Input.TheVariants.{Frame, Tick, Invoke}
use Rattle.qu_frames.specs.declared.input.LetterName.{LetterName}
use Rattle.qu_trace.specs.Faulty.{is_same}
use Rattle.qu_post.specs.declared.filed.Filed.{Filed}
use Rattle.qu_replay.specs.declared.kept_step.KeptStep.{KeptStep}
use Rattle.qu_replay.specs.Merged.{steps_of_ticket, is_step_named}
use Rattle.qu_journal.specs.Journal.{as_kept, as_filed, filed_of_ticket, sender_of}
use Rattle.qu_journal.proofs.Differing.{SameTickets, filed_are}

abbrev Step : Type 0
Step = Party × KeptStep

-- ---- among steps

-- what is named among the steps from a place on
pub named_there : (name : LetterName) (xs : List Step) (at : ℕ) (x : Step) (test : Bool) → at < length xs
    → x ≡ get_or xs at x → test ≡ is_step_named name x → test ≡ true
    → find (is_step_named name) (drop at xs) ≡ find (is_step_named name) xs
    → slice_get xs at ≡ find (is_step_named name) xs
named_there name xs at x test within x_is test_is passed so_far =
    slice_get_read xs (length xs) at x refl within x_is
    ∙ sym (ap (λ (it : Bool). cond it (Some x) (find (is_step_named name) (drop (at + 1) xs)))
    (sym test_is ∙ passed))
    ∙ sym (at_drop_more (λ (it : List Step). find (is_step_named name) it) xs at x within
    ∙ ap (λ (it : Step). find (is_step_named name) (it ∷ drop (at + 1) xs)) (sym x_is))
    ∙ so_far

pub named_nowhere : (name : LetterName) (xs : List Step) (at : ℕ) → length xs ≤ at
    → find (is_step_named name) (drop at xs) ≡ find (is_step_named name) xs
    → slice_get xs (length xs) ≡ find (is_step_named name) xs
named_nowhere name xs at end so_far =
    slice_get_past xs (length xs) (omega arith)
    ∙ sym (at_drop_all (λ (it : List Step). find (is_step_named name) it) xs at end)
    ∙ so_far

find_filed : (name : LetterName) (xs : List Step)
    → find (λ (filed : Filed). is_step_named name (as_kept filed)) (map as_filed xs)
    ≡ option_map as_filed (find (is_step_named name) xs)
find_filed name [] = refl
find_filed name (x ∷ xs) =
    elim (cases_Bool (is_step_named name x)) [
      | inl named ↦ rw named refl
      | inr other ↦ rw other (find_filed name xs)
    ]

pub sent_by : (name : LetterName) (text : List ℕ) (xs : List Step) (found : Option Step)
    → found ≡ find (is_step_named name) xs
    → option_map as_filed found ≡ sender_of (Frame name text) (map as_filed xs)
sent_by name text xs found found_is =
    ap (option_map as_filed) found_is ∙ sym (find_filed name xs)

-- ---- as it was filed

-- the named step is one of its ticket
find_of_ticket : (name : LetterName) (journal : List Filed)
    → find (λ (filed : Filed). is_step_named name (as_kept filed)) journal
    ≡ find (λ (filed : Filed). is_step_named name (as_kept filed)) (filed_of_ticket name.ticket journal)
find_of_ticket name [] = refl
find_of_ticket name (filed ∷ later) =
    elim (cases_Bool (eqb filed.ticket name.ticket)) [
      | inl mine ↦ elim (cases_Bool (is_same filed.actor name.from)) [
        | inl same ↦ rw (mine, same, mine) refl
        | inr apart ↦ rw (mine, apart) (find_of_ticket name later)
      ]
      | inr other ↦ elim (cases_Bool (is_same filed.actor name.from)) [
        | inl same ↦ rw (other, same) (find_of_ticket name later)
        | inr apart ↦ rw (other, apart) (find_of_ticket name later)
      ]
    ]

filed_again : (ticket : ℕ) (xs : List Step) → filed_of_ticket ticket (map as_filed xs)
    ≡ map as_filed (steps_of_ticket ticket xs)
filed_again ticket [] = refl
filed_again ticket (x ∷ xs) =
    elim (cases_Bool (eqb x.1.ticket ticket)) [
      | inl mine ↦ rw mine (ap (λ (it : List Filed). as_filed x ∷ it) (filed_again ticket xs))
      | inr other ↦ rw other (filed_again ticket xs)
    ]

as_it_was : (journal : List Filed) → map as_filed (map as_kept journal) ≡ journal
as_it_was [] = refl
as_it_was (filed ∷ later) = ap (λ (it : List Filed). filed ∷ it) (as_it_was later)

-- of each ticket the same steps are filed in the order of tickets
same_journal : (filed : List Step) (journal : List Filed) (ticket : ℕ) → SameTickets filed (map as_kept journal)
    → filed_of_ticket ticket (map as_filed filed) ≡ filed_of_ticket ticket journal
same_journal filed journal ticket ties =
    filed_again ticket filed ∙ ap (map as_filed) (ties ticket ∙ filed_are ticket journal)
    ∙ as_it_was (filed_of_ticket ticket journal)

pub same_sender : (input : Input) (filed : List Step) (journal : List Filed) → SameTickets filed (map as_kept journal)
    → sender_of input (map as_filed filed) ≡ sender_of input journal
same_sender (Frame name text) filed journal ties =
    find_of_ticket name (map as_filed filed)
    ∙ ap (find (λ (step : Filed). is_step_named name (as_kept step))) (same_journal filed journal name.ticket ties)
    ∙ sym (find_of_ticket name journal)
same_sender Tick filed journal ties = refl
same_sender (Invoke op) filed journal ties = refl
