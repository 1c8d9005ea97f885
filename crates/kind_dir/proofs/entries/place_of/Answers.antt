use Rattle.std.proofs.Common.{rules}
use Rattle.std.proofs.lemmas.Fn.{always_returns_same}
use Rattle.kind_dir.specs.Order.{order}
use Rattle.kind_dir.proofs.Places.{searched}
use Rattle.kind_dir.proofs.entries.place_of.Goals as goal

pub returns : goal.returns
returns c =
    let facts = c.binary_search_by.ensures in
    let name = c.args.name.now in
    searched name c.args.entries.now c.requires _ facts.bound
    (facts.position (λ entry. order entry.0 name) (always_returns_same _ _ _ (λ a r f called. search rules)))
