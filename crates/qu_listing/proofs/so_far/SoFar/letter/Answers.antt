-- the letter is found where it was put
use Rattle.std.proofs.Common.{◌∙◌, arith}
use Rattle.qu_trace.specs.Letters.{letters_of}
use Rattle.qu_listing.proofs.CallFacts.{letter_known}
use Rattle.qu_listing.proofs.so_far.SoFar.letter.Goals as goal

pub returns : goal.returns
returns c =
    c.copied.ensures ∙ c.get.ensures
    ∙ letter_known c.args.receivers.now (letters_of c.args.earlier.now) c.args.self.now.sent
    c.args.number (let some = c.if-number-eq0.false in grind arith) c.requires.sent
