-- The texts that a run digests, and the premise that no two different ones of them have one digest.
use Rattle.std.specs.Prelude.{◌≡◌, ℕ, List, [], ◌∷◌, ◌++◌, map, Option, None, Some, Result, Ok, Err, Contains}
use Rattle.std.specs.List.{flat_map}
use Rattle.qu_base.specs.declared.party.ClientId.{ClientId}
use Rattle.qu_base.specs.declared.party.Party.{Party}
use Rattle.qu_base.specs.declared.bad_text.BadText.{BadText}
use Rattle.qu_seal.specs.declared.constants.TheConstants.{ACT_TAG, SETS_TAG, HISTORY_TAG, FRAME_TAG}
use Rattle.qu_seal.specs.Digesting.{digest_of}
use Rattle.qu_history.specs.declared.sealed.Sealed.{Sealed}
use Rattle.qu_history.specs.Formats.{history_form}
use Rattle.qu_history.specs.Text.{sets_text}
use Rattle.qu_objects.specs.Digesting.{act_text}
use Rattle.qu_frames.specs.declared.frame.Body.{Body}
use Rattle.qu_frames.specs.declared.frame.Body.TheVariants as body
use Rattle.qu_frames.specs.declared.frame.Frame.{Frame}
use Rattle.qu_frames.specs.declared.frame.Letter.{Letter}
use Rattle.qu_frames.specs.Decoding.{decoded}
use Rattle.qu_frames.specs.Signing.{before_mac}
use Rattle.qu_trace.specs.declared.trace.Entry.{Entry}
use Rattle.qu_trace.specs.declared.trace.Setup.{Setup}
use Rattle.qu_trace.specs.declared.trace.Trace.{Trace}
use Rattle.qu_claims.specs.Carried.{handed_by}
use Rattle.qu_claims.specs.Handled.{Request, entries_to, handled_by, shown_by}

-- a text under the tag of its kind
pub record Text : Type 0 where
  pub tag : ℕ
  pub bytes : List ℕ

-- a frame is digested up to its HMAC
abbrev pub signed_text : List ℕ → Text
signed_text text = record { tag = FRAME_TAG; bytes = before_mac text }

abbrev pub history_text : Sealed → Text
history_text sealed = record { tag = HISTORY_TAG; bytes = history_form.spell sealed.history }

-- the text of an act has its tag; a query and a repair have none
abbrev pub body_texts : ClientId → ℕ → Body → List Text
body_texts client number (body.Act parts) = record { tag = ACT_TAG; bytes = act_text client number parts } ∷ []
body_texts client number (body.Ask parts) = []
body_texts client number (body.Mend target) = []

-- the text of the culled sets has its tag: it is their digest that a stamp holds
abbrev pub texts_of : Option Request → List Text
texts_of None = []
texts_of (Some request) = record { tag = SETS_TAG; bytes = sets_text request.sets } ∷ body_texts request.client
    request.number request.body

-- bytes that are taken are digested where they are a frame
abbrev pub taken_texts : List ℕ → Result Frame BadText → List Text
taken_texts text (Ok frame) = signed_text text ∷ []
taken_texts text (Err bad) = []

-- what a correct party digests of the bytes that it is handed: the frame, and of a request that a replica handles
-- the histories in its sets
abbrev pub handed_texts : Setup → Option (Party × List ℕ) → List Text
handed_texts setup None = []
handed_texts setup (Some (to, text)) = taken_texts text (decoded text) ++ map history_text (entries_to setup text to)

-- what it digests of a letter that it sends: the frame, and the histories that a reply shows
abbrev pub sent_texts : Letter → List Text
sent_texts letter = signed_text letter.text ∷ map history_text (shown_by letter)

-- the texts that are digested at the event of an entry
unfoldable pub texts_at : Trace → Entry → List Text
texts_at trace entry =
    texts_of (handled_by trace entry.event)
    ++ (handed_texts trace.setup (handed_by trace.setup trace.entries entry.event)
    ++ flat_map sent_texts entry.letters)

unfoldable pub digested : Trace → List Text
digested trace = flat_map (texts_at trace) trace.entries

-- no two different ones have one digest
abbrev pub NoCollision : Trace → Type 0
NoCollision trace = (first second : Text) → Contains (digested trace) first → Contains (digested trace) second
    → digest_of first.tag first.bytes ≡ digest_of second.tag second.bytes → first ≡ second
