-- The act of a frame counts where the frame's HMAC is right.
use Rattle.std.proofs.Common.{◌≡◌, ℕ, Bool, true, false, cond, List, Option, None, Some, Result, Ok, Err, refl, sym, ap, ◌∙◌}
use Rattle.std.proofs.lemmas.Option.{none-some}
use Rattle.qu_base.specs.declared.bad_text.BadText.{BadText}
use Rattle.qu_base.specs.declared.party.Party.{Party}
use Rattle.qu_base.specs.declared.party.Party.TheVariants as party
use Rattle.qu_base.specs.declared.party.ReplicaId.{ReplicaId}
use Rattle.qu_seal.specs.Keys.{Ring}
use Rattle.qu_frames.specs.declared.frame.Frame.{Frame}
use Rattle.qu_frames.specs.Decoding.{decoded}
use Rattle.qu_frames.specs.Signing.{is_signed, if_signed, brought}
use Rattle.qu_trace.specs.declared.trace.Setup.{Setup}
use Rattle.qu_trace.specs.Decoded.{frame_found}
use Rattle.qu_world.specs.State.{ring_of}
use Rattle.qu_claims.specs.Handled.{is_handler, request_in, request_brought, request_to}
use Rattle.qu_points.specs.Points.{NamedAct, act_in}

-- the act of a frame whose HMAC is right, or is not
act_when : (setup : Setup) (me : ReplicaId) (frame : Frame) (signed : Bool)
    → act_in (request_brought setup me (cond signed (Some frame) None))
    ≡ cond signed (act_in (request_in setup me frame)) None
act_when setup me frame true = refl
act_when setup me frame false = refl

module _ (setup : Setup) (ring : Ring) (me : ReplicaId) (to : Party) (text : List ℕ) (frame : Frame) where
  pub signed_act : (act : NamedAct) → Some act ≡ act_in (request_in setup me frame)
      → is_signed ring to text frame ≡ true
      → Some act ≡ act_in (request_brought setup me (if_signed ring to text (Ok frame)))
  signed_act act is signed =
      is ∙ sym (act_when setup me frame (is_signed ring to text frame)
      ∙ ap (λ (it : Bool). cond it (act_in (request_in setup me frame)) None) signed)

  pub unsigned_act : is_signed ring to text frame ≡ false
      → None ≡ act_in (request_brought setup me (if_signed ring to text (Ok frame)))
  unsigned_act unsigned =
      sym (act_when setup me frame (is_signed ring to text frame)
      ∙ ap (λ (it : Bool). cond it (act_in (request_in setup me frame)) None) unsigned)

  pub no_act : None ≡ act_in (request_in setup me frame)
      → None ≡ act_in (request_brought setup me (if_signed ring to text (Ok frame)))
  no_act none =
      sym (act_when setup me frame (is_signed ring to text frame)
      ∙ ap (λ (it : Option NamedAct). cond (is_signed ring to text frame) it None) (sym none)
      ∙ either (is_signed ring to text frame))
    where
      either : (signed : Bool) → cond signed None None ≡ (let none : Option NamedAct = None in none)
      either true = refl
      either false = refl

-- bytes that are no frame bring no request
pub no_request : (setup : Setup) (text : List ℕ) (to : Party) → frame_found (decoded text) ≡ None
    → request_to setup text to ≡ None
unfolding brought
no_request setup text (party.Replica me) none = without (is_handler setup me) (decoded text) none
  where
    without : (handles : Bool) (found : Result Frame BadText) → frame_found found ≡ None
        → cond handles (request_brought setup me (if_signed (ring_of setup) (party.Replica me) text found)) None ≡ None
    without true (Ok it) is = absurd (none-some it (sym is))
    without true (Err bad) is = refl
    without false found is = refl
no_request setup text (party.Client me) none = refl
