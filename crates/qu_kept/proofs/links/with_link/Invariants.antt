use Rattle.std.proofs.Common.{◌≡◌, ◌∷◌, ◌++◌, take}
use Rattle.std.specs.Prelude.{nat_lt, filter}
use Rattle.qu_kept.specs.Performing.{linked_object}
use Rattle.qu_kept.proofs.links.with_link.Given as goal

abbrev pub invariant-loop-lower : goal.invariant-loop-lower
invariant-loop-lower l =
    l.new ≡ filter (λ other. nat_lt (linked_object other) (linked_object l.link)) (take l.lower-index l.links)

abbrev pub invariant-loop-higher : goal.invariant-loop-higher
invariant-loop-higher l =
    l.new ≡ filter (λ other. nat_lt (linked_object other) (linked_object l.link)) l.links ++ l.link ∷ filter
    (λ other. nat_lt (linked_object l.link) (linked_object other)) (take l.higher-index l.links)
