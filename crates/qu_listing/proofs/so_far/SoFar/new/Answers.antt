-- nothing is known before the first event
use Rattle.qu_trace.specs.Letters.{letters_of}
use Rattle.qu_listed.specs.World.{world_from, world_behind}
use Rattle.qu_listing.proofs.CallFacts.{knows_no_call}
use Rattle.qu_listing.proofs.so_far.SoFar.new.Goals as goal

pub returns : goal.returns
unfolding letters_of world_from world_behind
returns c = record {
  sent = c.new.ensures;
  calls = knows_no_call c.new-2.result c.new-2.ensures.empty;
  starts = c.none.ensures;
  world = c.in_ok-start_world.ensures;
}
