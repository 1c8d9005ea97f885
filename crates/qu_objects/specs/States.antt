-- The format of an object's state: its value, what is kept of clients, and its links to other objects.
use Rattle.std.specs.Prelude.{ℕ, ◌==◌, Bool, true, ◌&&◌, nat_lt, nat_le, List, Option, None, Some}
use Rattle.std.specs.Int.{w8}
use Rattle.qu_base.specs.declared.bad_text.Why.TheVariants.{Order}
use Rattle.qu_base.specs.declared.party.ClientId.{ClientId}
use Rattle.qu_base.specs.declared.party.ObjectId.{ObjectId}
use Rattle.qu_base.specs.Format.{Format, number, both, tested, made, either, items, counted, tagged, digest_form, object_form, client_form}
use Rattle.qu_base.specs.Texts.{word_form, content_form}
use Rattle.kind_counter.specs.Counter.{counter_form}
use Rattle.kind_dir.specs.Dir.{dir_form}
use Rattle.qu_stamp.specs.Formats.{stamp_form}
use Rattle.qu_objects.specs.declared.kind.Value.{Value}
use Rattle.qu_objects.specs.declared.kind.Value.TheVariants.{Counter, Blob, Dir}
use Rattle.qu_objects.specs.declared.limits.TheConstants.{LAST_KIND, KEPT_LIMIT, LINKS_LIMIT}
use Rattle.qu_objects.specs.declared.state.KeptRow.{KeptRow}
use Rattle.qu_objects.specs.declared.state.Link.{Link}
use Rattle.qu_objects.specs.declared.state.ObjState.{ObjState}
use Rattle.qu_objects.specs.Formats.{is_after, answer_form}

-- ---- values

abbrev pub kind_code : Value → ℕ
kind_code (Counter number) = 1
kind_code (Blob content) = 2
kind_code (Dir entries) = 3

abbrev pub counter_value : Value → Option ℕ
counter_value (Counter number) = Some number
counter_value value = None

abbrev pub blob_value : Value → Option (List ℕ)
blob_value (Blob content) = Some content
blob_value value = None

abbrev pub dir_value : Value → Option (List (List ℕ × ℕ))
dir_value (Dir entries) = Some entries
dir_value value = None

abbrev pub is_kind_code : ℕ → Bool
is_kind_code code = nat_le 1 code && nat_le code LAST_KIND

abbrev pub value_body : ℕ → Format Value
value_body code =
    either (code == 1) (made Counter counter_value counter_form)
    (either (code == 2) (made Blob blob_value content_form) (made Dir dir_value dir_form))

-- 1: a counter; 2: a blob; 3: a directory, by the bytes of its kind
unfoldable pub value_form : Format Value
value_form = tagged is_kind_code kind_code value_body

-- ---- what is kept of clients

abbrev pub is_later_client : Option ClientId → ClientId → Bool
is_later_client None client = true
is_later_client (Some before) client = nat_lt before.0 client.0

-- a client above the one before it, the number and the digest of its last update, and what that answered
unfoldable pub row_form : Option ClientId → Format KeptRow
row_form before =
    made (λ fields. record {
      client = fields.0;
      number = (fields.1).0;
      act = ((fields.1).1).0;
      answer = ((fields.1).1).1;
    })
    (λ (row : KeptRow). Some (row.client, (row.number, (row.act, row.answer))))
    (both (tested (is_later_client before) Order client_form) (λ client.
    both word_form (λ number. both digest_form (λ act. answer_form))))

abbrev pub after_row : KeptRow → Option ClientId
after_row row = Some row.client

abbrev pub some_rows : ℕ → Format (List KeptRow)
some_rows count = items (row_form None).spell row_form after_row None count

-- at most one row of each client, by rising clients
unfoldable pub kept_form : Format (List KeptRow)
kept_form = counted (number w8 0 KEPT_LIMIT) (row_form None).spell row_form after_row None

-- ---- links

-- an object above the one before it, and a stamp
unfoldable pub link_form : Option ObjectId → Format Link
link_form before =
    made (λ fields. record { object = fields.0; stamp = fields.1 })
    (λ (link : Link). Some (link.object, link.stamp))
    (both (tested (is_after before) Order object_form) (λ object. stamp_form))

abbrev pub after_link : Link → Option ObjectId
after_link link = Some link.object

abbrev pub some_links : ℕ → Format (List Link)
some_links count = items (link_form None).spell link_form after_link None count

-- at most one link to each object, by rising objects
unfoldable pub links_form : Format (List Link)
links_form = counted (number w8 0 LINKS_LIMIT) (link_form None).spell link_form after_link None

-- ---- states

unfoldable pub state_form : Format ObjState
state_form =
    made (λ fields. record { value = fields.0; kept = (fields.1).0; links = (fields.1).1 })
    (λ (state : ObjState). Some (state.value, (state.kept, state.links)))
    (both value_form (λ value. both kept_form (λ kept. links_form)))
