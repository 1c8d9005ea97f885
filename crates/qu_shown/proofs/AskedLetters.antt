-- A request of a correct client that is handed to a replica was sent by this client.
use Rattle.std.proofs.Common.{◌≡◌, ℕ, ◌<◌, List, length, get_or, Option, Some, IfSome, sym, ap, subst, ◌∙◌}
use Rattle.std.specs.Prelude.{slice_get, false}
use Rattle.qu_base.specs.declared.party.ClientId.{ClientId}
use Rattle.qu_base.specs.declared.party.Party.{Party}
use Rattle.qu_base.specs.declared.party.Party.TheVariants as party
use Rattle.qu_base.specs.declared.party.ReplicaId.{ReplicaId}
use Rattle.qu_seal.specs.Keys.{Ring}
use Rattle.qu_history.specs.declared.sets.SetOf.{SetOf}
use Rattle.qu_frames.specs.declared.frame.Body.{Body}
use Rattle.qu_frames.specs.declared.frame.Frame.{Frame}
use Rattle.qu_frames.specs.declared.frame.Frame.TheVariants as frame
use Rattle.qu_frames.specs.declared.frame.Letter.{Letter}
use Rattle.qu_frames.specs.Decoding.{decoded}
use Rattle.qu_frames.specs.Signing.{brought}
use Rattle.qu_rows.specs.State.{ReplicaState}
use Rattle.qu_trace.specs.declared.trace.Entry.{Entry}
use Rattle.qu_trace.specs.declared.trace.Setup.{Setup}
use Rattle.qu_trace.specs.declared.trace.Trace.{Trace}
use Rattle.qu_trace.specs.Faulty.{is_faulty}
use Rattle.qu_world.specs.State.{WorldState, ring_of, letter_of}
use Rattle.qu_claims.specs.Carried.{handed, Brings, Asks}
use Rattle.qu_runs.specs.Plain.{ArePlain}
use Rattle.qu_claims.specs.Premises.{HasSent, AreUnforged}
use Rattle.qu_claims.specs.Times.{world_after}
use Rattle.qu_runs.proofs.Fits.Carrying.{brings_decoded}
use Rattle.qu_runs.proofs.Worlds.OpeningReplicas.{keys_are, me_is}
use Rattle.qu_runs.proofs.Digests.Plain.{setup_after}

-- a letter that was sent by then asks for this
pub record AskedBy (trace : Trace) (time : ℕ) (client : ClientId) (number round : ℕ) (sets : List SetOf)
    (body : Body) : Type 0 where
  pub asked : ℕ
  pub letter : Letter
  pub is_letter : letter_of (world_after trace time) asked ≡ Some letter
  pub is_request : Asks letter client number round sets body

module _ (trace : Trace) (have : ArePlain trace) (time : ℕ) (below : time < length trace.entries) (default : Entry)
    (place : ℕ) (old : ReplicaState) (is_old : slice_get (world_after trace time).replicas place ≡ Some old)
    (text : List ℕ) (hands : handed (world_after trace time) (get_or trace.entries time default).event
    ≡ Some (party.Replica (record { 0 = place }), text)) where
  abbrev world : WorldState
  world = world_after trace time

  abbrev me : ReplicaId
  me = record { 0 = place }

  -- nothing in what is handed over is forged
  pub true_to : AreUnforged world (party.Replica me) text
  true_to =
      subst (λ (it : Option (Party × List ℕ)). IfSome it (λ (given : Party × List ℕ). AreUnforged world given.0
      given.1))
      hands (have.unforged time default below)

  -- what the text brings the replica, it brings by the keys of the run
  pub brought_so : (taken : Frame) → Brings old text taken
      → brought (ring_of trace.setup) (party.Replica me) text ≡ Some taken
  brought_so taken brings =
      ap (λ (keys : Ring). brought keys (party.Replica me) text) (sym (keys_are trace time place old is_old))
      ∙ ap (λ (it : ReplicaId). brought old.keys (party.Replica it) text) (sym (me_is trace time place old is_old))
      ∙ brings

  pub asked_letter : (client : ClientId) (number round : ℕ) (sets : List SetOf) (body : Body) (mac : List ℕ)
      → Brings old text (frame.Request client number round sets body mac)
      → is_faulty trace.setup (party.Client client) ≡ false → AskedBy trace time client number round sets body
  asked_letter client number round sets body mac brings correct =
      let taken : Frame = frame.Request client number round sets body mac in
      let sent : HasSent world (party.Client client) (party.Replica me) text =
      true_to.sent taken
      (ap (λ (setup : Setup). brought (ring_of setup) (party.Replica me) text) (setup_after trace time)
      ∙ brought_so taken brings)
      (ap (λ (setup : Setup). is_faulty setup (party.Client client)) (setup_after trace time) ∙ correct) in
      record {
        asked = sent.number;
        letter = sent.letter;
        is_letter = sent.is_letter;
        is_request = record {
          mac = mac;
          carries = ap decoded sent.text_is ∙ brings_decoded old text taken brings;
        };
      }
