use Rattle.std.proofs.Common.{◌≡◌, [], drop, take}
use Rattle.std.specs.List.{filter_map}
use Rattle.qu_known.specs.Known.{see_letters}
use Rattle.qu_known.specs.Answers.{letter_told}
use Rattle.qu_known.proofs.known.Known.see_letters.Given as goal

abbrev pub invariant-loop-place : goal.invariant-loop-place
invariant-loop-place l = record {
  news : see_letters (drop l.place l.letters) (l.self, l.news) ≡ see_letters l.letters (l.initial.self, []);
  rounds : l.rounds ≡ filter_map letter_told (take l.place l.letters);
}
