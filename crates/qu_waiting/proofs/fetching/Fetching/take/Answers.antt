use Rattle.std.proofs.Common.{◌≡◌, ℕ, List, ap, arith}
use Rattle.qu_waiting.specs.Tally.{count_of}
use Rattle.qu_waiting.specs.Fetching.{Answers, same_bytes}
use Rattle.qu_waiting.proofs.fetching.Fetching.take.Goals as goal

pub returns-in_ok-keep-clause-enough : goal.returns-in_ok-keep-clause-enough
returns-in_ok-keep-clause-enough c = λ given is.
    let copied : c.in_ok-copy.copy ≡ c.args.text = c.in_ok-copy.ensures in
    let before = ap (λ (text : List ℕ). count_of same_bytes text c.self.inside.answers) copied in
    let after = ap (λ (text : List ℕ). count_of same_bytes text c.keep.new.answers) copied in
    let needed : c.self.inside.need ≡ c.args.self.now.need = ap (λ (answers : Answers). answers.need) c.self.view_is in
    (cc, omega (arith, before, after, c.in_ok-keep.ensures.counted))
