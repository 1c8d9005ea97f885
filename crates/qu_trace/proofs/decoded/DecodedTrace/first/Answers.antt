-- The first starts are those of the first entries.
use Rattle.std.proofs.Common.{◌≡◌, ℕ, List, length, take, sym, ap, ◌∙◌, arith}
use Rattle.std.proofs.lemmas.List.{length-take-le}
use Rattle.qu_trace.specs.declared.trace.Entry.{Entry}
use Rattle.qu_trace.specs.Starts.{starts_from}
use Rattle.qu_trace.proofs.StartLaws.{length-starts, take_starts}
use Rattle.qu_trace.proofs.decoded.DecodedTrace.first.Goals as goal

pub slice_bounds-new-end-2 : goal.slice_bounds-new-end-2
slice_bounds-new-end-2 c =
    let same : c.as_slice-starts.result.now ≡ starts_from 0 c.self.inside.trace.now.entries =
    c.as_slice-starts.ensures.value ∙ c.self.invariant.are_starts.places in
    sym (length-take-le c.min-count.result c.as_slice-starts.result.now (omega (
      arith,
      c.min-count.ensures,
      ap length same,
      length-starts 0 c.self.inside.trace.now.entries,
      ap length c.as_slice-entries.ensures,
    )))

pub new-requires : goal.new-requires
new-requires c =
    let same : c.as_slice-starts.result.now ≡ starts_from 0 c.self.inside.trace.now.entries =
    c.as_slice-starts.ensures.value ∙ c.self.invariant.are_starts.places in
    ap (λ (starts : List ℕ). take c.min-count.result starts) same
    ∙ take_starts 0 c.min-count.result c.self.inside.trace.now.entries
    ∙ ap (λ (entries : List Entry). starts_from 0 (take c.min-count.result entries)) (sym c.as_slice-entries.ensures)
