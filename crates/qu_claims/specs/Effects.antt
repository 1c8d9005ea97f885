-- Which candidates took effect. This looks at all correct replicas at once, which no replica and no
-- client can do (Query/Update: established and decided candidates).
use Rattle.std.specs.Prelude.{◌≡◌, ◌==◌, ℕ, Bool, List, Some, IsTrue}
use Rattle.std.specs.List.{list_any}
use Rattle.qu_base.specs.declared.party.ClientId.{ClientId}
use Rattle.qu_base.specs.declared.party.ObjectId.{ObjectId}
use Rattle.qu_stamp.specs.declared.candidate.Candidate.{Candidate}
use Rattle.qu_claims.specs.Decided.{IsDecided}
use Rattle.qu_objects.specs.declared.act.Method.{Method}
use Rattle.qu_objects.specs.Digesting.{act_digest}
use Rattle.qu_trace.specs.declared.trace.Trace.{Trace}
use Rattle.qu_claims.specs.RunSetting.{setting}

-- the object is one of those that the act names
abbrev pub is_on : ObjectId → List (ObjectId × Method) → Bool
is_on object parts = list_any (λ (part : ObjectId × Method). (part.0).0 == object.0) parts

-- an update took effect by this time: a candidate of its client and its digest is decided on one of its objects
pub record TookEffect (trace : Trace) (time : ℕ) (client : ClientId) (number : ℕ)
    (parts : List (ObjectId × Method)) : Type 0 where
  pub object : ObjectId
  pub named : IsTrue (is_on object parts)
  pub candidate : Candidate
  pub is_decided : IsDecided (setting trace) time object candidate
  pub of_client : candidate.stamp.client ≡ client
  pub of_act : candidate.stamp.act ≡ Some (act_digest client number parts)
