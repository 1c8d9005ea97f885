-- Blobs: at most 4,096 bytes, first none. An update answers the new length, a query all bytes.
use Rattle.std.specs.Prelude.{ℕ, nat_le, List, length, ◌++◌, if◌then◌else◌}
use Rattle.qu_base.specs.declared.limits.TheConstants.{CONTENT_LIMIT}
use Rattle.qu_base.specs.declared.kind.Item.TheVariants.{Number, Bytes}
use Rattle.qu_base.specs.declared.kind.Applied.{Applied}
use Rattle.qu_base.specs.declared.kind.Applied.TheVariants as made
use Rattle.qu_base.specs.declared.kind.Told.{Told}
use Rattle.qu_base.specs.declared.kind.Told.TheVariants as tells
use Rattle.kind_blob.specs.declared.blob.BlobUpdate.{BlobUpdate}
use Rattle.kind_blob.specs.declared.blob.BlobUpdate.TheVariants.{Put, Append}
use Rattle.kind_blob.specs.declared.blob.BlobQuery.{BlobQuery}
use Rattle.kind_blob.specs.declared.blob.BlobQuery.TheVariants.{Cat}
use Rattle.kind_blob.specs.declared.blob.TheConstants.{TOO_LONG}

-- the content, unless it is too long
abbrev pub stored : List ℕ → Applied (List ℕ)
stored content =
    if nat_le (length content) CONTENT_LIMIT then made.Changed content (Number (length content))
    else made.Refused TOO_LONG

-- what an update makes of a value
abbrev pub blob_applied : BlobUpdate → List ℕ → Applied (List ℕ)
blob_applied (Put content) value = stored content
blob_applied (Append more) value = stored (value ++ more)

-- what a query is told
abbrev pub blob_told : BlobQuery → List ℕ → Told
blob_told Cat value = tells.Item (Bytes value)

-- an update has no number
abbrev pub BlobUpdateFits : BlobUpdate → Type 0
BlobUpdateFits update = Unit {0}
