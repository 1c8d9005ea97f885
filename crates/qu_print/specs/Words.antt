-- How operations and answers are written.
use Rattle.std.specs.Prelude.{ℕ, ◌==◌, List, ◌++◌, codes, if◌then◌else◌}
use Rattle.std.specs.List.{join_by}
use Rattle.std.specs.Fmt.{decimal}
use Rattle.qu_base.specs.declared.party.ClientId.{ClientId}
use Rattle.qu_base.specs.declared.party.ObjectId.{ObjectId}
use Rattle.qu_objects.specs.declared.act.Method.{Method}
use Rattle.qu_objects.specs.declared.act.Method.TheVariants.{Add, Take, Put, Append, Link, Unlink}
use Rattle.qu_objects.specs.declared.query.Ask.{Ask}
use Rattle.qu_objects.specs.declared.query.Ask.TheVariants.{Read, Cat, Find, All}
use Rattle.qu_objects.specs.declared.refusal_number.TheConstants.{WRONG_KIND}
use Rattle.qu_base.specs.declared.kind.Item.{Item}
use Rattle.qu_base.specs.declared.kind.Item.TheVariants.{Number, Bytes, Entries}
use Rattle.qu_objects.specs.declared.kind.Value.{Value}
use Rattle.qu_objects.specs.declared.kind.Value.TheVariants as value
use Rattle.qu_objects.specs.declared.answer.Answer.{Answer}
use Rattle.qu_objects.specs.declared.answer.Answer.TheVariants as answer
use Rattle.qu_objects.specs.declared.op.Op.{Op}
use Rattle.qu_objects.specs.declared.op.Op.TheVariants.{Act, Query}
use Rattle.kind_counter.specs.declared.counter.TheConstants.{OVER, UNDER}
use Rattle.kind_blob.specs.declared.blob.TheConstants.{TOO_LONG}
use Rattle.kind_dir.specs.declared.refusals.TheConstants.{EXISTS, MISSING, BAD_NAME, FULL}
use Rattle.qu_notation.specs.Bytes.{bytes_text}
use Rattle.qu_notation.specs.Names.{written_name, entries_text}

-- an operation is named by its client and its number
abbrev pub name_text : ClientId → ℕ → List ℕ
name_text client number = decimal client.0 ++ codes "." ++ decimal number

-- ---- operations

abbrev pub method_text : ℕ → Method → List ℕ
method_text object (Add n) = codes "add " ++ decimal object ++ codes " " ++ decimal n
method_text object (Take n) = codes "take " ++ decimal object ++ codes " " ++ decimal n
method_text object (Put content) = codes "put " ++ decimal object ++ codes " " ++ bytes_text content
method_text object (Append more) = codes "append " ++ decimal object ++ codes " " ++ bytes_text more
method_text object (Link name n) =
    codes "link " ++ decimal object ++ codes " " ++ written_name name ++ codes " " ++ decimal n
method_text object (Unlink name) = codes "unlink " ++ decimal object ++ codes " " ++ written_name name

abbrev pub ask_text : ℕ → Ask → List ℕ
ask_text object Read = codes "read " ++ decimal object
ask_text object Cat = codes "cat " ++ decimal object
ask_text object (Find name) = codes "find " ++ decimal object ++ codes " " ++ written_name name
ask_text object All = codes "list " ++ decimal object

abbrev pub act_part_text : ObjectId × Method → List ℕ
act_part_text part = method_text (part.0).0 part.1

abbrev pub query_part_text : ObjectId × Ask → List ℕ
query_part_text part = ask_text (part.0).0 part.1

-- the parts of an operation, with ` + ` between each two
unfoldable pub op_text : Op → List ℕ
op_text (Act act) = join_by act_part_text (codes " + ") act
op_text (Query query) = join_by query_part_text (codes " + ") query

-- ---- answers

abbrev pub item_text : Item → List ℕ
item_text (Number n) = decimal n
item_text (Bytes bytes) = bytes_text bytes
item_text (Entries entries) = entries_text entries

-- a value of an object by its kind
abbrev pub value_text : Value → List ℕ
value_text (value.Counter n) = codes "counter " ++ decimal n
value_text (value.Blob bytes) = codes "blob " ++ bytes_text bytes
value_text (value.Dir entries) = codes "dir " ++ entries_text entries

-- why a part is refused: the words of the number. An answer is read with no number but these
abbrev pub why_text : ℕ → List ℕ
why_text why =
    if why == OVER then codes "over"
    else if why == UNDER then codes "under"
    else if why == TOO_LONG then codes "too long"
    else if why == EXISTS then codes "exists"
    else if why == MISSING then codes "missing"
    else if why == BAD_NAME then codes "bad name"
    else if why == FULL then codes "full"
    else if why == WRONG_KIND then codes "wrong kind"
    else codes "refusal " ++ decimal why

-- the items, with ` + ` between each two, or the first refused part
unfoldable pub answer_text : Answer → List ℕ
answer_text (answer.Ok items) = join_by item_text (codes " + ") items
answer_text (answer.Refused at why) = why_text why ++ codes " at " ++ decimal at
