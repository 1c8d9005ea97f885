-- The updates of a run, and the candidates that are made for them.
-- Definitions whose comment names no source are this project's own; Query/Update is the paper of SOSP 2005.
use Rattle.std.specs.Prelude.{◌≡◌, ℕ, ◌<◌, List}
use Rattle.qu_base.specs.declared.party.ClientId.{ClientId}
use Rattle.qu_base.specs.declared.party.ObjectId.{ObjectId}
use Rattle.qu_stamp.specs.declared.candidate.Candidate.{Candidate}
use Rattle.qu_claims.specs.Setting.{IsAccepted, IsAncestor}
use Rattle.qu_claims.specs.Decided.{IsDecided, IsDecidedBy}
use Rattle.qu_claims.specs.Groups.{IsOneAct}
use Rattle.qu_objects.specs.declared.act.Method.{Method}
use Rattle.qu_trace.specs.declared.trace.Trace.{Trace}
use Rattle.qu_claims.specs.Handled.{IsMadeFor}
use Rattle.qu_claims.specs.RunSetting.{setting}
use Rattle.qu_claims.specs.Parts.{Names}

-- what a client asks for under one of its numbers
pub record Update : Type 0 where
  pub client : ClientId
  pub number : ℕ
  pub parts : List (ObjectId × Method)

-- the candidate was made for the update, on one of its objects
pub record IsOf (trace : Trace) (update : Update) (object : ObjectId) (candidate : Candidate) : Type 0 where
  pub made : IsMadeFor trace candidate update.client update.number update.parts
  pub names : Names update.parts object

-- some correct replica ever accepts the candidate
abbrev pub IsEverAccepted : Trace → ObjectId → Candidate → Type 0
IsEverAccepted trace object candidate = IsAccepted (setting trace) (setting trace).last object candidate

-- along the priors of an object the numbers of each client's updates rise
abbrev pub NumbersRise : Trace → Type 0
NumbersRise trace = (object : ObjectId) (first second : Candidate) (update later : Update)
    → IsOf trace update object first → IsEverAccepted trace object first
    → IsOf trace later object second → IsEverAccepted trace object second
    → IsAncestor (setting trace) (setting trace).last object first second
    → update.client ≡ later.client → update.number < later.number

-- each update is decided once
pub record DecidesOnce (trace : Trace) : Type 0 where
  -- what is decided of an update is one candidate, or one group
  pub once : (update : Update) (object other : ObjectId) (candidate companion : Candidate)
      → IsOf trace update object candidate → IsOf trace update other companion
      → IsDecided (setting trace) (setting trace).last object candidate
      → IsDecided (setting trace) (setting trace).last other companion
      → IsOneAct (setting trace) object other candidate companion
  -- what one event decides is of one update
  pub one_update : (update other_update : Update) (time : ℕ) (object other : ObjectId)
      (candidate companion : Candidate)
      → IsOf trace update object candidate → IsOf trace other_update other companion
      → IsDecidedBy (setting trace) time object candidate → IsDecidedBy (setting trace) time other companion
      → update ≡ other_update
