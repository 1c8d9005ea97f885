-- What an audit knows of the first events of a run, which break no premise.
use Rattle.std.specs.Prelude.{◌≡◌, ℕ, ◌+◌, ◌≤◌, take, Some, Contains}
use Rattle.qu_base.specs.declared.party.Digest.{Digest}
use Rattle.qu_trace.specs.declared.trace.Trace.{Trace}
use Rattle.qu_claims.specs.Digested.{Text}
use Rattle.qu_audit.specs.declared.auditing.Past.{Past}
use Rattle.qu_audit.specs.declared.digests.Digests.{Digests}
use Rattle.qu_audit.specs.declared.digests.Seen.{Seen}
use Rattle.qu_audit.specs.Answer.{UnforgedBefore, NoneCollideBefore, texts_by}
use Rattle.qu_audit.specs.Digesting.{digest_of_text}
use Rattle.qu_audit.specs.Digests.{look}
use Rattle.qu_audit.specs.Forging.{shown_in_all}

-- a text with this digest was seen not after this event
pub record WasSeen (digests : Digests) (digest : Digest) (event : ℕ) : Type 0 where
  pub seen : Seen
  pub found : look digests digest ≡ Some seen
  pub order : seen.event ≤ event

-- so many first events digested this, and nothing else
pub record Knows (trace : Trace) (count : ℕ) (digests : Digests) : Type 0 where
  pub known : (event : ℕ) (text : Text) → event ≤ count → Contains (texts_by trace event) text
      → WasSeen digests (digest_of_text text) event
  pub digest_is : (digest : Digest) (seen : Seen) → look digests digest ≡ Some seen
      → digest ≡ digest_of_text seen.text
  pub at_event : (digest : Digest) (seen : Seen) → look digests digest ≡ Some seen
      → Contains (texts_by trace seen.event) seen.text
  pub within : (digest : Digest) (seen : Seen) → look digests digest ≡ Some seen → seen.event ≤ count

pub record IsPast (trace : Trace) (count : ℕ) (past : Past) : Type 0 where
  pub shown : past.shown ≡ shown_in_all (take count trace.entries)
  pub digests : Knows trace count past.digests
  pub unforged : UnforgedBefore trace count
  pub none_collide : NoneCollideBefore trace (count + 1)
