-- A request that is read once for all to whom it goes: texts that differ in their HMACs alone say the same.
use Rattle.std.specs.Prelude.{ℕ, ◌≡◌, ◌-◌, ◌<◌, Bool, true, false, List, drop, length, Result, Ok, Err}
use Rattle.qu_base.specs.declared.bad_text.BadText.{BadText}
use Rattle.qu_base.specs.declared.party.ClientId.{ClientId}
use Rattle.qu_history.specs.declared.sets.SetOf.{SetOf}
use Rattle.qu_frames.specs.declared.frame.Body.{Body}
use Rattle.qu_frames.specs.declared.frame.Frame.{Frame}
use Rattle.qu_frames.specs.declared.frame.Frame.TheVariants.{Request, Reply, Fetch, Fetched}
use Rattle.qu_frames.specs.Decoding.{decoded}
use Rattle.qu_frames.specs.Signing.{before_mac}

-- whether a text was decoded to a request
abbrev pub is_request : Result Frame BadText → Bool
is_request (Ok (Request client number round sets body mac)) = true
is_request (Ok (Reply replica client number round verdict culled shown mac)) = false
is_request (Ok (Fetch replica object stamp mac)) = false
is_request (Ok (Fetched replica object stamp state mac)) = false
is_request (Err bad) = false

-- the HMAC of a text: its last 32 bytes
abbrev pub own_mac : List ℕ → List ℕ
own_mac text = drop (length text - 32) text

-- the bytes before the HMAC, and the request that they spell
pub record ReadRequest : Type 0 where
  pub front : List ℕ
  pub client : ClientId
  pub number : ℕ
  pub round : ℕ
  pub sets : List SetOf
  pub body : Body

-- the request with this HMAC
abbrev pub request_with : ReadRequest → List ℕ → Frame
request_with read mac = Request read.client read.number read.round read.sets read.body mac

-- each text with these bytes before its HMAC is decoded to the request with the text's own HMAC
pub record IsReadRequest (read : ReadRequest) : Type 0 where
  pub some : 0 < length read.front
  pub decoded : (text : List ℕ) → before_mac text ≡ read.front → decoded text ≡ Ok (request_with read (own_mac text))
