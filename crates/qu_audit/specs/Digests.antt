-- What is kept of the texts that were digested: of each digest the text that first had it, and its event.
use Rattle.std.specs.Prelude.{◌≡◌, ◌⊎◌, ℕ, if◌then◌else◌, List, [], ◌∷◌, Option, None, Some, IsSome, Contains}
use Rattle.std.specs.HashMap.{get}
use Rattle.qu_base.specs.declared.party.Digest.{Digest}
use Rattle.qu_stamp.specs.Stamp.{same_digest}
use Rattle.qu_trace.specs.Earliest.{earlier_of}
use Rattle.qu_claims.specs.Digested.{Text}
use Rattle.qu_audit.specs.Digesting.{digest_of_text, same_text}
use Rattle.qu_audit.specs.declared.digests.Digests.{Digests}
use Rattle.qu_audit.specs.declared.digests.Seen.{Seen}

-- what was seen of a digest
abbrev pub look : Digests → Digest → Option Seen
look digests digest = get same_digest digests.seen digest

-- these texts were seen at this event, behind what was seen before
pub record Notes (old new : Digest → Option Seen) (event : ℕ) (texts : List Text) : Type 0 where
  pub kept : (digest : Digest) (seen : Seen) → old digest ≡ Some seen → new digest ≡ Some seen
  pub noted : (text : Text) → Contains texts text → IsSome (new (digest_of_text text))
  pub told : (digest : Digest) (seen : Seen) → new digest ≡ Some seen → (old digest ≡ Some seen)
      ⊎ ((seen.event ≡ event) × (digest ≡ digest_of_text seen.text) × Contains texts seen.text)

-- the event of another text that was seen with the digest of this one
abbrev pub clash_with : Text → Option Seen → Option ℕ
clash_with text None = None
clash_with text (Some seen) = if same_text seen.text text then None else Some seen.event

abbrev pub clash : (Digest → Option Seen) → Text → Option ℕ
clash seen text = clash_with text (seen (digest_of_text text))

-- the earliest of these events
unfoldable pub first_clash : (Digest → Option Seen) → List Text → Option ℕ
first_clash seen [] = None
first_clash seen (text ∷ later) = earlier_of (clash seen text) (first_clash seen later)
