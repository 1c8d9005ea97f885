-- What the parts so far and the words that are left say is what was to be read, and so many parts were read.
use Rattle.std.proofs.Common.{◌≡◌, ◌-◌}
use Rattle.qu_objects.specs.declared.limits.TheConstants.{MOST_PARTS}
use Rattle.qu_language.specs.Operation.{more_parts}
use Rattle.qu_language.specs.Parts.{AreBuilt}
use Rattle.qu_language.proofs.operation.read_more_parts.Given as goal

abbrev pub invariant-loop : goal.invariant-loop
invariant-loop l = record {
  meant : more_parts (MOST_PARTS - 1) l.objects l.fn.first l.fn.words
      ≡ more_parts (MOST_PARTS - l.counter) l.objects l.parts l.words;
  built : AreBuilt 1 l.counter l.parts;
}
