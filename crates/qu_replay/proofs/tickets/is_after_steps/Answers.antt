-- The first free ticket is the one above that of the last step.
use Rattle.std.proofs.Common.{◌≡◌, ◌+◌, [], ap, sym, refl, ◌∙◌, arith}
use Rattle.std.specs.Option.{option_copied}
use Rattle.std.proofs.lemmas.Bool.Decides.{nat_tests}
use Rattle.qu_replay.specs.Replays.{first_free_ticket}
use Rattle.qu_replay.proofs.LastTicket.{free_behind, none_last}
use Rattle.qu_replay.proofs.tickets.is_after_steps.Goals as goal

pub returns-in-Some : goal.returns-in-Some
returns-in-Some c =
    let free : first_free_ticket 0 c.args.steps.now ≡ c.in-Some.last.now.ticket + 1 =
    free_behind 0 c.args.steps.now c.in-Some.last.now
    (sym c.last.ensures.value ∙ ap option_copied c.in-Some.is) in
    (λ yes. grind (arith, nat_tests, free, yes), λ below. grind (arith, nat_tests, free, below))

free_none : first_free_ticket 0 [] ≡ 0
unfolding first_free_ticket
free_none = refl

pub returns-in-None : goal.returns-in-None
returns-in-None c =
    let none : c.args.steps.now ≡ [] =
    none_last c.args.steps.now (sym c.last.ensures.value ∙ ap option_copied c.in-None.is) in
    let free : first_free_ticket 0 c.args.steps.now ≡ 0 = ap (first_free_ticket 0) none ∙ free_none in
    (λ yes. omega (arith, free), λ below. refl)
