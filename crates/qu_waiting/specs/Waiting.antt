-- What a replica lacks: requests that wait for versions, and versions that it fetches (Query/Update: object syncing).
use Rattle.std.specs.Prelude.{ℕ, List}
use Rattle.qu_base.specs.declared.party.ClientId.{ClientId}
use Rattle.qu_base.specs.declared.party.ObjectId.{ObjectId}
use Rattle.qu_stamp.specs.declared.stamp.Stamp.{Stamp}
use Rattle.qu_history.specs.declared.sets.SetOf.{SetOf}
use Rattle.qu_waiting.specs.Fetching.{Answers}
use Rattle.qu_frames.specs.declared.frame.Body.{Body}
use Rattle.qu_frames.specs.declared.frame.Frame.{Frame}
use Rattle.qu_frames.specs.declared.frame.Frame.TheVariants as frame
use Rattle.qu_frames.specs.Reading.{ReadRequest}

-- a request as it came, with the HMAC that it had for the replica
pub record TakenRequest : Type 0 where
  pub client : ClientId
  pub number : ℕ
  pub round : ℕ
  pub sets : List SetOf
  pub body : Body
  pub mac : List ℕ

abbrev pub request_frame_of : TakenRequest → Frame
request_frame_of taken = frame.Request taken.client taken.number taken.round taken.sets taken.body taken.mac

-- the request that was read of a text with this HMAC
abbrev pub taken_by : ReadRequest → List ℕ → TakenRequest
taken_by read mac = record {
  client = read.client;
  number = read.number;
  round = read.round;
  sets = read.sets;
  body = read.body;
  mac = mac;
}

-- a request that waits for the versions of these objects under these stamps
pub record Waiting : Type 0 where
  pub request : TakenRequest
  pub missing : List (ObjectId × Stamp)

-- a version that other replicas were asked for, and what they answered
pub record Running : Type 0 where
  pub object : ObjectId
  pub stamp : Stamp
  pub answers : Answers
