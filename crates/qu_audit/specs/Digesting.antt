-- The digest of a text, and when two texts are one.
use Rattle.std.specs.Prelude.{Bool, ◌==◌, ◌&&◌, nat_eq}
use Rattle.std.specs.Cmp.Lexicographic.{pointwise}
use Rattle.qu_base.specs.declared.party.Digest.{Digest}
use Rattle.qu_seal.specs.Digesting.{digest_of}
use Rattle.qu_claims.specs.Digested.{Text}

abbrev pub digest_of_text : Text → Digest
digest_of_text text = record { 0 = digest_of text.tag text.bytes }

abbrev pub same_text : Text → Text → Bool
same_text one other = one.tag == other.tag && pointwise nat_eq one.bytes other.bytes
