-- the call is counted
use Rattle.qu_listing.proofs.CallFacts.{counts_more, counts_same}
use Rattle.qu_listing.proofs.so_far.SoFar.note_call.Goals as goal

pub returns-in_ok-insert-clause-calls : goal.returns-in_ok-insert-clause-calls
returns-in_ok-insert-clause-calls c =
    counts_more c.args.earlier.now c.args.entry.now c.in-Invoke.client c.in-Invoke.field-1 c.args.self.now.calls
    c.insert.new.self c.in-Invoke.is c.requires
    (λ key. rw c.calls_of-begun.ensures.value at c.in_ok-insert.ensures.updates.0 key)

pub returns-in_default-clause-calls : goal.returns-in_default-clause-calls
returns-in_default-clause-calls c =
    counts_same c.args.earlier.now c.args.entry.now c.args.self.now.calls c.in_default.not-Invoke c.requires
