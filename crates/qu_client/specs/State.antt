-- What a client holds: the histories that it was sent, and the operation under way.
use Rattle.std.specs.Prelude.{ℕ, List, [], Option, None}
use Rattle.qu_base.specs.declared.party.ClientId.{ClientId}
use Rattle.qu_seal.specs.Keys.{Ring}
use Rattle.qu_objects.specs.declared.op.Outcome.{Outcome}
use Rattle.qu_frames.specs.declared.frame.Letter.{Letter}
use Rattle.qu_client.specs.Waits.{wait_words}
pub use Rattle.qu_client.specs.declared.state.ClientState.{ClientState}

-- what a step makes: the state, the letters that it sends, and the end of the operation
pub record Stepped : Type 0 where
  pub state : ClientState
  pub letters : List Letter
  pub ended : Option Outcome

-- a client that was sent nothing yet; its rests are drawn from the words of this seed
abbrev pub client_at_start : ClientId → Ring → ℕ → ClientState
client_at_start me keys seed = record {
  me = me;
  keys = keys;
  waits = wait_words seed me;
  kept = [];
  last_request = None;
  work = None;
}
