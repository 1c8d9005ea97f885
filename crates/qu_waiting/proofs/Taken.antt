-- A text that brings a request is decoded to one.
use Rattle.std.proofs.Common.{◌≡◌, ℕ, true, List, Some, ap}
use Rattle.qu_base.specs.declared.party.Party.{Party}
use Rattle.qu_frames.specs.Decoding.{decoded}
use Rattle.qu_frames.specs.Reading.{ReadRequest, is_request, request_with}
use Rattle.qu_frames.specs.Signing.{brought}
use Rattle.qu_frames.proofs.Signed.{brought_is_decoded}
use Rattle.qu_seal.specs.Keys.{Ring}

pub taken_is_request : (keys : Ring) (me : Party) (text : List ℕ) (read : ReadRequest) (mac : List ℕ)
    → brought keys me text ≡ Some (request_with read mac) → is_request (decoded text) ≡ true
taken_is_request keys me text read mac is =
    ap is_request (brought_is_decoded keys me text (request_with read mac) is)
