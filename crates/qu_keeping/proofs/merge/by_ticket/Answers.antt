use Rattle.std.proofs.Common.{rules, ℕ, sym, ap, subst, ◌∙◌}
use Rattle.std.specs.List.Sorted.{IsStableByKey}
use Rattle.std.specs.Ordering.{nat_cmp}
use Rattle.std.proofs.lemmas.Fn.{always_returns_same}
use Rattle.std.proofs.lemmas.List.Sorted.{IsNonDecreasingBy-from_sort_by_key}
use Rattle.qu_base.specs.declared.party.Party.{Party}
use Rattle.qu_replay.specs.declared.kept_step.KeptStep.{KeptStep}
use Rattle.qu_replay.specs.Merged.{AreByTicket, steps_of_ticket}
use Rattle.qu_replay.proofs.Sorting.{sorted_of}
use Rattle.qu_replay.proofs.Merging.{same_tickets, same_own}
use Rattle.qu_keeping.proofs.merge.by_ticket.Goals as goal

abbrev ticket_of : Party × KeptStep → ℕ
ticket_of x = x.1.ticket

pub returns-clause-sorted : goal.returns-clause-sorted
returns-clause-sorted c =
    subst (AreByTicket 0) (sym c.from.ensures)
    (sorted_of _
    (IsNonDecreasingBy-from_sort_by_key ticket_of _ c.in_ok-sort_by_key.ensures.sorted (λ a r q k. search rules)))

pub returns-clause-ties : goal.returns-clause-ties
returns-clause-ties c ticket =
    let stable : IsStableByKey ticket_of nat_cmp c.into_vec-merged.result.items c.sort_by_key.new.self.items =
    c.in_ok-sort_by_key.ensures.stable ticket_of (always_returns_same _ _ _ (λ a r q k. search rules)) in
    ap (steps_of_ticket ticket) c.from.ensures ∙ same_tickets _ _ stable ticket
    ∙ ap (steps_of_ticket ticket) c.into_vec-merged.ensures

pub returns-clause-own : goal.returns-clause-own
returns-clause-own c me rises =
    same_own c.args.steps c.from.result me (returns-clause-sorted c) (returns-clause-ties c) rises
