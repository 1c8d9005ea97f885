-- The kinds of objects: an update makes of a value what the value's kind says, and an ask is told what it says.
-- What is none of the value's kind is refused.
use Rattle.std.specs.Prelude.{[], Option, None, Some}
use Rattle.qu_base.specs.declared.kind.Applied.{Applied}
use Rattle.qu_base.specs.declared.kind.Applied.TheVariants as made
use Rattle.qu_base.specs.declared.kind.Told.{Told}
use Rattle.qu_base.specs.declared.kind.Told.TheVariants as tells
use Rattle.kind_counter.specs.declared.counter.CounterUpdate.{CounterUpdate}
use Rattle.kind_counter.specs.declared.counter.CounterUpdate.TheVariants as counter
use Rattle.kind_counter.specs.declared.counter.CounterQuery.{CounterQuery}
use Rattle.kind_counter.specs.declared.counter.CounterQuery.TheVariants as of_counter
use Rattle.kind_counter.specs.Counter.{counter_applied, counter_told}
use Rattle.kind_blob.specs.declared.blob.BlobUpdate.{BlobUpdate}
use Rattle.kind_blob.specs.declared.blob.BlobUpdate.TheVariants as blob
use Rattle.kind_blob.specs.declared.blob.BlobQuery.{BlobQuery}
use Rattle.kind_blob.specs.declared.blob.BlobQuery.TheVariants as of_blob
use Rattle.kind_blob.specs.Blob.{blob_applied, blob_told}
use Rattle.kind_dir.specs.declared.dir.DirUpdate.{DirUpdate}
use Rattle.kind_dir.specs.declared.dir.DirUpdate.TheVariants as dir
use Rattle.kind_dir.specs.declared.dir.DirQuery.{DirQuery}
use Rattle.kind_dir.specs.declared.dir.DirQuery.TheVariants as of_dir
use Rattle.kind_dir.specs.Dir.{dir_applied, dir_told}
use Rattle.qu_objects.specs.declared.act.Method.{Method}
use Rattle.qu_objects.specs.declared.act.Method.TheVariants.{Add, Take, Put, Append, Link, Unlink}
use Rattle.qu_objects.specs.declared.query.Ask.{Ask}
use Rattle.qu_objects.specs.declared.query.Ask.TheVariants.{Read, Cat, Find, All}
use Rattle.qu_objects.specs.declared.refusal_number.TheConstants.{WRONG_KIND}
use Rattle.qu_objects.specs.declared.kind.KindName.{KindName}
use Rattle.qu_objects.specs.declared.kind.KindName.TheVariants as kind
use Rattle.qu_objects.specs.declared.kind.Value.{Value}
use Rattle.qu_objects.specs.declared.kind.Value.TheVariants.{Counter, Blob, Dir}
use Rattle.qu_objects.specs.declared.state.ObjState.{ObjState}

-- the value before any update
abbrev pub fresh_value : KindName → Value
fresh_value kind.Counter = Counter 0
fresh_value kind.Blob = Blob []
fresh_value kind.Dir = Dir []

-- the version before any update: the fresh value, nothing kept and no link
abbrev pub opening_version : KindName → ObjState
opening_version kind = record { value = fresh_value kind; kept = []; links = [] }

-- ---- the update or the query of a kind that a method or an ask is, if it is one

abbrev pub counter_update : Method → Option CounterUpdate
counter_update (Add more) = Some (counter.Add more)
counter_update (Take fewer) = Some (counter.Take fewer)
counter_update method = None

abbrev pub blob_update : Method → Option BlobUpdate
blob_update (Put content) = Some (blob.Put content)
blob_update (Append more) = Some (blob.Append more)
blob_update method = None

abbrev pub dir_update : Method → Option DirUpdate
dir_update (Link name number) = Some (dir.Link name number)
dir_update (Unlink name) = Some (dir.Unlink name)
dir_update method = None

abbrev pub counter_query : Ask → Option CounterQuery
counter_query Read = Some of_counter.Read
counter_query ask = None

abbrev pub blob_query : Ask → Option BlobQuery
blob_query Cat = Some of_blob.Cat
blob_query ask = None

abbrev pub dir_query : Ask → Option DirQuery
dir_query (Find name) = Some (of_dir.Find name)
dir_query All = Some of_dir.All
dir_query ask = None

-- ---- what a method makes, and what an ask is told

-- what is made of a value of a kind, as what is made of a value
abbrev pub of_kind : {V : Type 0} → (V → Value) → Applied V → Applied Value
of_kind wrap (made.Changed value item) = made.Changed (wrap value) item
of_kind wrap (made.Refused why) = made.Refused why

abbrev pub applied_by : {U V : Type 0} → (V → Value) → (U → V → Applied V) → Option U → V → Applied Value
applied_by wrap apply None value = made.Refused WRONG_KIND
applied_by wrap apply (Some update) value = of_kind wrap (apply update value)

-- what an update makes of a value
abbrev pub applied : Method → Value → Applied Value
applied method (Counter number) = applied_by Counter counter_applied (counter_update method) number
applied method (Blob content) = applied_by Blob blob_applied (blob_update method) content
applied method (Dir entries) = applied_by Dir dir_applied (dir_update method) entries

abbrev pub told_by : {Q V : Type 0} → (Q → V → Told) → Option Q → V → Told
told_by tell None value = tells.Refused WRONG_KIND
told_by tell (Some query) value = tell query value

-- what an ask is told of a value
abbrev pub value_told : Ask → Value → Told
value_told ask (Counter number) = told_by counter_told (counter_query ask) number
value_told ask (Blob content) = told_by blob_told (blob_query ask) content
value_told ask (Dir entries) = told_by dir_told (dir_query ask) entries
