-- The text of an act, of which the digest names the act.
use Rattle.std.specs.Prelude.{ℕ, ◌-◌, ◌<◌, ◌≤◌, ◌^◌, Bool, true, List, length, Some}
use Rattle.std.specs.List.{AllByRecursion}
use Rattle.std.specs.Int.{w16}
use Rattle.qu_base.specs.declared.limits.TheConstants.{CONTENT_LIMIT, NAME_LIMIT}
use Rattle.qu_base.specs.declared.party.ClientId.{ClientId}
use Rattle.qu_base.specs.declared.party.Digest.{Digest}
use Rattle.qu_base.specs.declared.party.ObjectId.{ObjectId}
use Rattle.qu_base.specs.Format.{Format, number, both, made}
use Rattle.qu_seal.specs.declared.constants.TheConstants.{ACT_TAG}
use Rattle.qu_seal.specs.Digesting.{digest_of}
use Rattle.qu_objects.specs.declared.act.Method.{Method}
use Rattle.qu_objects.specs.declared.act.Method.TheVariants.{Add, Take, Put, Append, Link, Unlink}
use Rattle.qu_objects.specs.declared.query.Ask.{Ask}
use Rattle.qu_objects.specs.declared.query.Ask.TheVariants.{Read, Cat, Find, All}
use Rattle.qu_base.specs.Texts.{word_form}
use Rattle.qu_objects.specs.Formats.{act_form}

abbrev pub any_object : ObjectId → Bool
any_object object = true

abbrev pub any_client : Format ClientId
any_client = made (λ number. record { 0 = number }) (λ client. Some client.0) (number w16 0 (2 ^ 16 - 1))

-- the client, the number of the operation, and the parts of the act
unfoldable pub act_text_form : Format (ClientId × (ℕ × List (ObjectId × Method)))
act_text_form = both any_client (λ client. both word_form (λ number. act_form any_object))

unfoldable pub act_text : ClientId → ℕ → List (ObjectId × Method) → List ℕ
act_text client number parts = act_text_form.spell (client, (number, parts))

unfoldable pub act_digest : ClientId → ℕ → List (ObjectId × Method) → Digest
act_digest client number parts = record { 0 = digest_of ACT_TAG (act_text client number parts) }

-- a method's numbers fit their bytes, and what it carries is no longer than it may be
abbrev pub MethodFits : Method → Type 0
MethodFits (Add more) = more < 2 ^ 64
MethodFits (Take fewer) = fewer < 2 ^ 64
MethodFits (Put content) = length content ≤ CONTENT_LIMIT
MethodFits (Append more) = length more ≤ CONTENT_LIMIT
MethodFits (Link name number) = (length name ≤ NAME_LIMIT) × (number < 2 ^ 64)
MethodFits (Unlink name) = length name ≤ NAME_LIMIT

abbrev pub PartsFit : List (ObjectId × Method) → Type 0
PartsFit parts = AllByRecursion (λ part. MethodFits part.1) parts

-- what an ask carries is no longer than it may be
abbrev pub AskFits : Ask → Type 0
AskFits Read = Unit {0}
AskFits Cat = Unit {0}
AskFits (Find name) = length name ≤ NAME_LIMIT
AskFits All = Unit {0}

abbrev pub AsksFit : List (ObjectId × Ask) → Type 0
AsksFit parts = AllByRecursion (λ part. AskFits part.1) parts
