-- The laws of blobs.
use Rattle.std.proofs.Common.{◌≡◌, ℕ, ◌≤◌, List, [], ◌++◌, length, Bool, true, false, cond, nat_le, refl, leb-true, arith}
use Rattle.qu_base.specs.declared.limits.TheConstants.{CONTENT_LIMIT}
use Rattle.qu_base.specs.Format.{IsPrefixCode}
use Rattle.qu_base.specs.Texts.{content_form}
use Rattle.qu_base.specs.declared.kind.Item.{Item}
use Rattle.qu_base.specs.declared.kind.Applied.{Applied}
use Rattle.qu_base.specs.declared.kind.Applied.TheVariants as made
use Rattle.qu_base.proofs.TextForms.{content-exact}
use Rattle.qu_base.proofs.PrefixCodes.{prefix_code}
use Rattle.qu_base.proofs.Reading.{given_exactly}
use Rattle.kind_blob.specs.declared.blob.BlobUpdate.{BlobUpdate}
use Rattle.kind_blob.specs.declared.blob.BlobUpdate.TheVariants.{Put, Append}
use Rattle.kind_blob.specs.declared.blob.TheConstants.{TOO_LONG}
use Rattle.kind_blob.specs.Blob.{blob_applied, stored, BlobUpdateFits}

pub ruleset blob_read = (given_exactly, content-exact)

pub blob-code : IsPrefixCode content_form
blob-code = prefix_code content_form content-exact

pub blob-first : content_form.Fits []
unfolding content_form
blob-first = ((omega arith, omega arith), refl)

changed_is : (first second : List ℕ) (one two : Item) → made.Changed first one ≡ made.Changed second two
    → first ≡ second
changed_is first second one two same = cc

abbrev refused_blob : ℕ → Applied (List ℕ)
refused_blob why = made.Refused why

no_change : (why : ℕ) (changed : List ℕ) (item : Item) → refused_blob why ≡ made.Changed changed item → ⊥
no_change why changed item same = cc

by_test : (test : Bool) (content changed : List ℕ) (answer item : Item) → nat_le (length content) CONTENT_LIMIT ≡ test
    → cond test (made.Changed content answer) (made.Refused TOO_LONG) ≡ made.Changed changed item
    → length changed ≤ CONTENT_LIMIT
by_test true content changed answer item is same =
    rw (← changed_is content changed answer item same) (leb-true (length content) CONTENT_LIMIT is)
by_test false content changed answer item is same = absurd (no_change TOO_LONG changed item same)

stored-fits : (content changed : List ℕ) (item : Item) → stored content ≡ made.Changed changed item
    → content_form.Fits changed
unfolding content_form
stored-fits content changed item same =
    ((omega arith, by_test (nat_le (length content) CONTENT_LIMIT) content changed _ item refl same), refl)

pub blob-changed : (update : BlobUpdate) (value changed : List ℕ) (item : Item) → BlobUpdateFits update
    → content_form.Fits value → blob_applied update value ≡ made.Changed changed item → content_form.Fits changed
blob-changed (Put content) value changed item numbers fits is = stored-fits content changed item is
blob-changed (Append more) value changed item numbers fits is = stored-fits (value ++ more) changed item is
