use Rattle.std.proofs.Common.{◌≡◌, ◌∷◌, ◌++◌, take}
use Rattle.std.specs.Prelude.{nat_lt, filter}
use Rattle.qu_kept.specs.Rows.{client_of}
use Rattle.qu_kept.proofs.rows.replaced.Given as goal

abbrev pub invariant-loop-lower : goal.invariant-loop-lower
invariant-loop-lower l =
    l.new ≡ filter (λ other. nat_lt (client_of other) (client_of l.fn.row)) (take l.lower-index l.rows)

abbrev pub invariant-loop-higher : goal.invariant-loop-higher
invariant-loop-higher l =
    l.new ≡ filter (λ other. nat_lt (client_of other) (client_of l.fn.row)) l.fn.rows ++ l.fn.row ∷ filter
    (λ other. nat_lt (client_of l.fn.row) (client_of other)) (take l.higher-index l.rows)
