-- The letter is that of the last entry whose letters begin at its place or before it.
use Rattle.std.proofs.Common.{ℕ, List, length, get_or, ap, sym, subst, ◌∙◌, arith}
use Rattle.std.specs.Option.{option_copied}
use Rattle.std.specs.List.Sorted.{IsNonDecreasingBy}
use Rattle.qu_trace.specs.declared.trace.Entry.{Entry}
use Rattle.qu_trace.specs.Letters.{letters_of}
use Rattle.qu_trace.specs.Letters.{numbered}
use Rattle.qu_trace.specs.Starts.{IsBegun}
use Rattle.qu_trace.proofs.StartLaws.{length-starts, starts_rise, numbered_found, numbered_none}
use Rattle.qu_trace.proofs.sent.Sent.letter.Goals as goal

pub begun-requires : goal.begun-requires
begun-requires c =
    subst (λ (starts : List ℕ). IsNonDecreasingBy (λ (start : ℕ). start) starts) (sym c.self.invariant)
    (starts_rise 0 c.self.inside.entries.now (omega arith))

pub returns-in_err-index : goal.returns-in_err-index
returns-in_err-index c =
    let begun = subst (λ (starts : List ℕ). IsBegun starts c.in_ok-place.place c.begun.result) c.self.invariant
    c.begun.ensures in
    ap option_copied c.from_residual-in_err-index.ensures
    ∙ sym (numbered_none c.args.number c.in_ok-place.place c.begun.result c.self.inside.entries.now begun (omega arith)
    (omega arith))
    ∙ ap (λ (entries : List Entry). numbered (letters_of entries) c.args.number) c.self.view_is

pub start_at-requires : goal.start_at-requires
start_at-requires c = omega (arith, c.begun.ensures.bound)

pub entry_at-entry-requires : goal.entry_at-entry-requires
entry_at-entry-requires c =
    omega (arith, c.begun.ensures.bound, ap length c.self.invariant, length-starts 0 c.self.inside.entries.now)

pub returns : goal.returns
returns c =
    let begun = subst (λ (starts : List ℕ). IsBegun starts c.in_ok-place.place c.begun.result) c.self.invariant
    c.begun.ensures in
    c.get.ensures
    ∙ numbered_found c.args.number c.in_ok-place.place c.in_ok-index.index c.begun.result c.start_at.result
    c.self.inside.entries.now c.entry_at-entry.result.now begun (omega arith) (omega arith) (omega arith)
    (c.start_at.ensures
    ∙ ap (λ (starts : List ℕ). get_or starts c.in_ok-index.index 0) c.self.invariant)
    c.entry_at-entry.ensures
    ∙ ap (λ (entries : List Entry). numbered (letters_of entries) c.args.number) c.self.view_is
