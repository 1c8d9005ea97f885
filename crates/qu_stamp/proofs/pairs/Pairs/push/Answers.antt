use Rattle.std.proofs.Common.{◌≡◌, ◌<◌, ◌∙◌, ap, arith, length, take, length-take-le, length-set}
use Rattle.qu_stamp.specs.Blanks.{room}
use Rattle.qu_stamp.proofs.Blanks.{blanks_behind}
use Rattle.qu_stamp.proofs.pairs.Pairs.push.Goals as goal

pub invariant_of-self : goal.invariant_of-self
invariant_of-self c =
    let cells = c.self.inside.cells in
    let len = c.self.inside.len in
    let whole = c.self.invariant in
    let size : length (take len cells) ≡ len = length-take-le len cells (omega (arith, whole.0, whole.1)) in
    let fits : len < room = omega (arith, size, ap length c.self.view_is, c.requires) in (
      omega (arith, fits),
      length-set cells len c.args.pair ∙ whole.1,
      blanks_behind cells len c.args.pair fits whole.2,
    )
