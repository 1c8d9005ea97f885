-- The letter that was found is the lowest that flow takes.
use Rattle.std.proofs.Common.{◌∙◌, ◌≤◌, ◌||◌, Bool, ap, length, sym, arith}
use Rattle.qu_trace.specs.Letters.{letters_of}
use Rattle.qu_world.specs.State.{numbered}
use Rattle.qu_script.specs.Outage.{is_held_back}
use Rattle.qu_script.proofs.WaitingFacts.{found_within, found_past, waiting_found, waiting_none, search_begins, search_goes_on}
use Rattle.qu_script.proofs.waiting.find_lowest.Goals as goal

pub search-init : goal.search-init
search-init c = search_begins c.args.setup.now c.args.entries.now c.args.outage.now c.args.from c.requires

pub returns-then-not-is_left-clause-found : goal.returns-then-not-is_left-clause-found
returns-then-not-is_left-clause-found c =
    waiting_found c.args.setup.now c.args.entries.now c.args.outage.now c.args.from.event c.search.next c.search.number
    c.search.invariant
    (found_within (letters_of c.args.entries.now) c.search.number c.letter.result c.letter.ensures
    (sym c.is_some.ensures ∙ c.search-test.true))
    (ap (λ (test : Bool). test || is_held_back c.args.outage.now.held
    (numbered (letters_of c.args.entries.now) c.search.number)) (sym c.is_passed_over-passed.ensures)
    ∙ sym c.is_left.ensures ∙ c.if-not-is_left.true)

pub search-preserved : goal.search-preserved
search-preserved c =
    search_goes_on c.args.setup.now c.args.entries.now c.args.outage.now c.args.from.event c.search.next c.search.number
    c.in_ok-after.after c.begin_behind-next.result c.is_passed_over-passed.result c.search.invariant
    c.is_passed_over-passed.ensures
    (sym c.is_left.ensures ∙ c.if-not-is_left.false) c.in_ok-after.ensures c.begin_behind-next.ensures

pub search-smaller : goal.search-smaller
search-smaller c =
    let within : c.search.number ≤ length (letters_of c.args.entries.now) =
    found_within (letters_of c.args.entries.now) c.search.number c.letter.result c.letter.ensures
    (sym c.is_some.ensures ∙ c.search-test.true) in
    grind (arith, within)

pub returns-clause-found : goal.returns-clause-found
returns-clause-found c =
    waiting_none c.args.setup.now c.args.entries.now c.args.outage.now c.args.from.event c.search.next c.search.number
    c.search.invariant
    (found_past (letters_of c.args.entries.now) c.search.number c.letter.result c.letter.ensures
    (sym c.is_some.ensures ∙ c.search-test.false) c.search.invariant.is_letter)
