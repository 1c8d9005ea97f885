-- What letters ask: those of a replica nothing, those of a client's round one request.
use Rattle.std.proofs.Common.{◌≡◌, ℕ, List, map, Option, None, Some, refl}
use Rattle.std.specs.List.{All}
use Rattle.std.proofs.lemmas.List.Elements.{All-nil}
use Rattle.qu_base.specs.Bounds.{replicas}
use Rattle.qu_base.specs.declared.party.ClientId.{ClientId}
use Rattle.qu_base.specs.declared.party.Party.{Party}
use Rattle.qu_base.specs.declared.party.Party.TheVariants as party
use Rattle.qu_seal.specs.Keys.{Ring}
use Rattle.qu_history.specs.declared.sets.SetOf.{SetOf}
use Rattle.qu_history.specs.Sealing.{sealed_by}
use Rattle.qu_frames.specs.declared.frame.Body.{Body}
use Rattle.qu_frames.specs.declared.frame.Frame.{Frame}
use Rattle.qu_frames.specs.declared.frame.Frame.TheVariants as frame
use Rattle.qu_frames.specs.declared.frame.Letter.{Letter}
use Rattle.qu_verdicts.specs.declared.verdict.Verdict.{Verdict}
use Rattle.qu_frames.specs.Formats.{frame_form}
use Rattle.qu_frames.specs.Signing.{brought, signed, signature, with_mac}
use Rattle.qu_rows.specs.State.{ReplicaState}
use Rattle.qu_fitting.specs.Holding.{accept_all}
use Rattle.qu_rows.specs.Named.{named}
use Rattle.qu_replica.specs.Step.{shown, reply, learned, replica_step, answer_frame}
use Rattle.qu_replica.specs.Step as replica
use Rattle.qu_fitting.proofs.FitRequests.{blank_sized}
use Rattle.qu_client.specs.declared.work.Work.{Work}
use Rattle.qu_client.specs.declared.whom.Whom.{Whom}
use Rattle.qu_client.specs.Rounds.{request_of, requests}
use Rattle.qu_client.proofs.Sent.{all_letters}
use Rattle.qu_claims.specs.Carried.{Carries, Asks}
use Rattle.qu_runs.proofs.Fits.Carrying.{no_request, signed_spelled, signed_carries}
use Rattle.qu_runs.proofs.Fits.StepLetters.{on_frame_all, no_request_in}

-- ---- replicas

-- the letter asks for nothing
abbrev pub AsksNothing : Letter → Type 0
AsksNothing letter =
    (client : ClientId) (number round : ℕ) (sets : List SetOf) (asked : Body)
    → Asks letter client number round sets asked → ⊥

reply_asks : (state : ReplicaState) (client : ClientId) (number round : ℕ) (sets : List SetOf) (verdict : Verdict)
    → AsksNothing (reply state client number round sets verdict)
reply_asks state client number round sets verdict =
    let answer : Frame = answer_frame state client number round sets verdict in
    let to : Party = party.Client client in
    no_request (reply state client number round sets verdict) state.me client number round verdict (named state sets)
    (map (sealed_by state.keys) (shown state sets)) (signature state.keys to answer)
    (signed_spelled state.keys to answer blank_sized)

frame_asks : (state : ReplicaState) (sent : Frame) → All AsksNothing (replica.replica_on_frame state sent).1
frame_asks state sent =
    on_frame_all AsksNothing no_request_in state sent
    (λ request handles verdict accepted decides.
    reply_asks (accept_all (learned state sent) accepted) request.client request.number request.round request.sets
    verdict)

brought_asks : (state : ReplicaState) (found : Option Frame)
    → All AsksNothing (replica.replica_on_received state found).1
brought_asks state (Some sent) = frame_asks state sent
brought_asks state None = All-nil AsksNothing

-- a replica sends no request
pub replica_asks : (state : ReplicaState) (text : List ℕ) → All AsksNothing (replica_step state text).1
replica_asks state text = brought_asks state (brought state.keys (party.Replica state.me) text)

-- ---- clients

-- the letter carries this frame alone, signed for its receiver
abbrev pub CarriesOnly : Ring → Frame → Letter → Type 0
CarriesOnly keys sent letter =
    (carried : Frame) → Carries letter carried → carried ≡ with_mac sent (signature keys letter.to sent)

-- all letters of a round carry one request
pub requests_carry : (keys : Ring) (me : ClientId) (work : Work) (whom : Whom) → frame_form.Fits (request_of me work)
    → All (CarriesOnly keys (request_of me work)) (requests keys me work whom)
requests_carry keys me work whom fits =
    let sent : Frame = request_of me work in
    all_letters keys me work whom (CarriesOnly keys sent) (replicas keys.bounds) 0
    (λ replica below asked carried.
    let to : Party = party.Replica (record { 0 = replica }) in
    signed_carries (record { from = party.Client me; to = to; text = signed keys to sent }) keys to sent carried fits
    refl)

-- two requests that are one
pub record IsSameRequest (client other : ClientId) (number second round turn : ℕ) (sets others : List SetOf)
    (asked besides : Body) : Type 0 where
  pub client_is : client ≡ other
  pub number_is : number ≡ second
  pub round_is : round ≡ turn
  pub sets_are : sets ≡ others
  pub body_is : asked ≡ besides

same_request : (client other : ClientId) (number second round turn : ℕ) (sets others : List SetOf)
    (asked besides : Body) (mac seal : List ℕ)
    → frame.Request client number round sets asked mac ≡ frame.Request other second turn others besides seal
    → IsSameRequest client other number second round turn sets others asked besides
same_request client other number second round turn sets others asked besides mac seal same =
    record { client_is = cc; number_is = cc; round_is = cc; sets_are = cc; body_is = cc }

-- what a letter of a round asks is the request of this round
pub asks_only : (keys : Ring) (me : ClientId) (work : Work) (letter : Letter)
    → CarriesOnly keys (request_of me work) letter
    → (client : ClientId) (number round : ℕ) (others : List SetOf) (asked : Body)
    → Asks letter client number round others asked
    → IsSameRequest client me number work.number round work.round others work.sets asked work.body
asks_only keys me work letter only client number round others asked is =
    same_request client me number work.number round work.round others work.sets asked work.body is.mac
    (signature keys letter.to (request_of me work))
    (only (frame.Request client number round others asked is.mac) is.carries)
