-- The formats of operations and of what they answer.
use Rattle.std.specs.Prelude.{ℕ, ◌==◌, Bool, true, ◌&&◌, nat_lt, nat_le, List, ◌++◌, Option, None, Some}
use Rattle.std.specs.List.{list_any}
use Rattle.std.specs.Int.{w8}
use Rattle.qu_base.specs.declared.bad_text.Why.TheVariants.{Range, Order}
use Rattle.qu_base.specs.declared.party.ObjectId.{ObjectId}
use Rattle.qu_base.specs.Texts.{word_form, content_form, name_form, listing_form}
use Rattle.qu_base.specs.Format.{Format, number, below, both, tested, made, either, nothing, items, counted, tagged, object_form}
use Rattle.qu_objects.specs.declared.act.Method.{Method}
use Rattle.qu_objects.specs.declared.act.Method.TheVariants.{Add, Take, Put, Append, Link, Unlink}
use Rattle.qu_objects.specs.declared.query.Ask.{Ask}
use Rattle.qu_objects.specs.declared.query.Ask.TheVariants.{Read, Cat, Find, All}
use Rattle.qu_base.specs.declared.kind.Item.{Item}
use Rattle.qu_base.specs.declared.kind.Item.TheVariants.{Number, Bytes, Entries}
use Rattle.qu_objects.specs.declared.answer.Answer.{Answer}
use Rattle.qu_objects.specs.declared.answer.Answer.TheVariants as answer
use Rattle.qu_objects.specs.declared.limits.TheConstants.{MOST_PARTS, LAST_METHOD, LAST_ASK, LAST_ITEM}
use Rattle.qu_objects.specs.RefusalNumber.{is_kind_refusal}

-- ---- methods, asks and items

abbrev pub method_code : Method → ℕ
method_code (Add more) = 1
method_code (Take fewer) = 2
method_code (Put content) = 3
method_code (Append more) = 4
method_code (Link name number) = 5
method_code (Unlink name) = 6

abbrev pub added : Method → Option ℕ
added (Add more) = Some more
added method = None

abbrev pub taken : Method → Option ℕ
taken (Take fewer) = Some fewer
taken method = None

abbrev pub put_there : Method → Option (List ℕ)
put_there (Put content) = Some content
put_there method = None

abbrev pub appended : Method → Option (List ℕ)
appended (Append more) = Some more
appended method = None

abbrev pub linked : Method → Option (List ℕ × ℕ)
linked (Link name number) = Some (name, number)
linked method = None

abbrev pub unlinked : Method → Option (List ℕ)
unlinked (Unlink name) = Some name
unlinked method = None

abbrev pub is_method_code : ℕ → Bool
is_method_code code = nat_le 1 code && nat_le code LAST_METHOD

abbrev pub link_to : List ℕ × ℕ → Method
link_to entry = Link entry.0 entry.1

abbrev pub entry_pair : Format (List ℕ × ℕ)
entry_pair = both name_form (λ name. word_form)

abbrev pub method_body : ℕ → Format Method
method_body code =
    either (code == 1) (made Add added word_form)
    (either (code == 2) (made Take taken word_form)
    (either (code == 3) (made Put put_there content_form)
    (either (code == 4) (made Append appended content_form)
    (either (code == 5) (made link_to linked entry_pair) (made Unlink unlinked name_form)))))

-- 1, 2: what is added, what is taken; 3, 4: a content, and one at the end; 5: a name and its number; 6: a name
unfoldable pub method_form : Format Method
method_form = tagged is_method_code method_code method_body

abbrev pub ask_code : Ask → ℕ
ask_code Read = 1
ask_code Cat = 2
ask_code (Find name) = 3
ask_code All = 4

abbrev pub name_asked : Ask → Option (List ℕ)
name_asked (Find name) = Some name
name_asked ask = None

abbrev pub is_ask_code : ℕ → Bool
is_ask_code code = nat_le 1 code && nat_le code LAST_ASK

abbrev pub ask_body : ℕ → Format Ask
ask_body code =
    either (code == 1) (nothing Read)
    (either (code == 2) (nothing Cat) (either (code == 3) (made Find name_asked name_form) (nothing All)))

-- 1: a read; 2: a blob's bytes; 3: a name; 4: all entries
unfoldable pub ask_form : Format Ask
ask_form = tagged is_ask_code ask_code ask_body

abbrev pub item_code : Item → ℕ
item_code (Number value) = 1
item_code (Bytes content) = 2
item_code (Entries entries) = 3

abbrev pub item_number : Item → Option ℕ
item_number (Number value) = Some value
item_number item = None

abbrev pub item_bytes : Item → Option (List ℕ)
item_bytes (Bytes content) = Some content
item_bytes item = None

abbrev pub item_entries : Item → Option (List (List ℕ × ℕ))
item_entries (Entries entries) = Some entries
item_entries item = None

abbrev pub is_item_code : ℕ → Bool
is_item_code code = nat_le 1 code && nat_le code LAST_ITEM

-- a listing in an answer has any names
abbrev pub any_name : List ℕ → Bool
any_name name = true

abbrev pub item_body : ℕ → Format Item
item_body code =
    either (code == 1) (made Number item_number word_form)
    (either (code == 2) (made Bytes item_bytes content_form) (made Entries item_entries (listing_form any_name)))

-- 1: a number; 2: bytes; 3: a listing
unfoldable pub item_form : Format Item
item_form = tagged is_item_code item_code item_body

-- ---- parts

abbrev pub is_after : Option ObjectId → ObjectId → Bool
is_after None object = true
is_after (Some before) object = nat_lt before.0 object.0

-- whether the object is one of these
abbrev pub is_one_of : List ObjectId → ObjectId → Bool
is_one_of objects object = list_any (λ (other : ObjectId). other.0 == object.0) objects

-- an object that is known, above the one before it
abbrev pub next_object : (ObjectId → Bool) → Option ObjectId → Format ObjectId
next_object known before = tested (is_after before) Order (tested known Range object_form)

-- an object, and what is done to it or asked of it
abbrev pub part_form : {X : Type 0} → Format X → (ObjectId → Bool) → Option ObjectId → Format (ObjectId × X)
part_form form known before = both (next_object known before) (λ object. form)

abbrev pub spelled_object : {X : Type 0} → Format X → ObjectId × X → List ℕ
spelled_object form part = object_form.spell part.0 ++ form.spell part.1

-- so many parts in the rising order of their objects
abbrev pub some_parts : {X : Type 0} → Format X → (ObjectId → Bool) → ℕ → Format (List (ObjectId × X))
some_parts form known count = items (spelled_object form) (part_form form known) (λ part. Some part.0) None count

-- a count, and so many parts
abbrev pub parts_form : {X : Type 0} → Format X → (ObjectId → Bool) → Format (List (ObjectId × X))
parts_form form known = counted (number w8 1 MOST_PARTS) (spelled_object form) (part_form form known)
    (λ part. Some part.0) None

-- the parts of an act, of these known objects
unfoldable pub act_form : (ObjectId → Bool) → Format (List (ObjectId × Method))
act_form known = parts_form method_form known

-- the parts of a query, of these known objects
unfoldable pub query_form : (ObjectId → Bool) → Format (List (ObjectId × Ask))
query_form known = parts_form ask_form known

-- ---- answers

-- the position of a part, and the number of the refusal
abbrev pub part_refusal_form : Format (ℕ × ℕ)
part_refusal_form = both (below w8 MOST_PARTS) (λ at. tested is_kind_refusal Range (number w8 0 255))

abbrev pub some_items : ℕ → Format (List Item)
some_items count = items {K = Unit {0}} item_form.spell (λ before. item_form) (λ item. tt) tt count

-- one item or more
abbrev pub items_form : Format (List Item)
items_form = counted {K = Unit {0}} (number w8 1 MOST_PARTS) item_form.spell (λ before. item_form) (λ item. tt) tt

abbrev pub answer_code : Answer → ℕ
answer_code (answer.Ok items) = 0
answer_code (answer.Refused at why) = 1

abbrev pub answered : Answer → Option (List Item)
answered (answer.Ok items) = Some items
answered (answer.Refused at why) = None

abbrev pub refused_part : Answer → Option (ℕ × ℕ)
refused_part (answer.Ok items) = None
refused_part (answer.Refused at why) = Some (at, why)

abbrev pub is_answer_code : ℕ → Bool
is_answer_code code = nat_le code 1

abbrev pub answer_body : ℕ → Format Answer
answer_body code =
    either (code == 0) (made answer.Ok answered items_form)
    (made (λ refused. answer.Refused refused.0 refused.1) refused_part part_refusal_form)

-- 0: the items; 1: the first refused part
unfoldable pub answer_form : Format Answer
answer_form = tagged is_answer_code answer_code answer_body
