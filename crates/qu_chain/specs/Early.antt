-- What is shown of a run before the chain, and what links of versions rest on.
-- Definitions whose comment names no source are this project's own; Query/Update is the paper of SOSP 2005.
use Rattle.std.specs.Prelude.{◌≡◌, None}
use Rattle.qu_base.specs.declared.party.ObjectId.{ObjectId}
use Rattle.qu_stamp.specs.Candidate.{opening}
use Rattle.qu_claims.specs.Setting.{Setting}
use Rattle.qu_chain.specs.Laws.{Lasting, StampsAreOne}

pub record Early (setting : Setting) : Type 0 where
  pub lasting : Lasting setting
  pub one : StampsAreOne setting
  -- the opening candidate has no group
  pub alone_at_first : (other : ObjectId) → setting.member opening other ≡ None
