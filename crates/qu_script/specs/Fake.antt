-- The bytes of a reply that is made for a client: an answer to its last request, as a replica's, with histories of
-- choice (Query/Update: a faulty replica may answer anything, under its own key).
use Rattle.std.specs.Prelude.{ℕ, Bool, false, ◌==◌, ◌^◌, List, [], ◌∷◌, map, find, Option, None, Some, Result, Ok}
use Rattle.std.specs.List.{range_with_len, repeat}
use Rattle.std.specs.Option.{option_map, option_and_then}
use Rattle.qu_base.specs.declared.bad_text.BadText.{BadText}
use Rattle.qu_base.specs.declared.party.ClientId.{ClientId}
use Rattle.qu_base.specs.declared.party.ObjectId.{ObjectId}
use Rattle.qu_base.specs.declared.party.Party.TheVariants as party
use Rattle.qu_base.specs.declared.party.ReplicaId.{ReplicaId}
use Rattle.qu_base.specs.Bounds.{replicas}
use Rattle.qu_seal.specs.Keys.{Ring}
use Rattle.qu_stamp.specs.declared.candidate.Candidate.{Candidate}
use Rattle.qu_stamp.specs.Candidate.{opening}
use Rattle.qu_stamp.specs.Stamp.{opening_stamp}
use Rattle.qu_history.specs.declared.sealed.Sealed.{Sealed}
use Rattle.qu_history.specs.History.{ObjectHistory}
use Rattle.qu_frames.specs.declared.frame.Frame.{Frame}
use Rattle.qu_frames.specs.declared.frame.Frame.TheVariants.{Request, Reply}
use Rattle.qu_verdicts.specs.declared.verdict.Refusal.TheVariants.{Thin}
use Rattle.qu_verdicts.specs.declared.verdict.Verdict.{Verdict}
use Rattle.qu_verdicts.specs.declared.verdict.Verdict.TheVariants.{Refused}
use Rattle.qu_frames.specs.Decoding.{decoded}
use Rattle.qu_frames.specs.Formats.{objects_in_sets}
use Rattle.qu_adversary.specs.Sealing.{sealed_for}
use Rattle.qu_adversary.specs.Replying.{reply_text}
use Rattle.qu_world.specs.State.{WorldState, ring_of, history_at}
use Rattle.qu_script.specs.declared.fake.LastRequest.{LastRequest}
use Rattle.qu_language.specs.declared.line.How.{How}
use Rattle.qu_language.specs.declared.line.How.TheVariants.{Show, Echo, Far}
use Rattle.qu_script.specs.Letters.{last_sent}

-- ---- the request that is answered

abbrev pub asked_in : Result Frame BadText → Option LastRequest
asked_in (Ok (Request client number round sets body mac)) =
    Some (record { number = number; round = round; objects = objects_in_sets sets })
asked_in _ = None

-- the last request of a client
abbrev pub last_request : WorldState → ClientId → Option LastRequest
last_request world client = option_and_then (λ letter. asked_in (decoded letter.text))
    (last_sent (party.Client client) None world.entries)

-- ---- what is told

-- a refusal of the lowest object
abbrev pub thin : List ObjectId → Verdict
thin [] = Refused (Thin (record { 0 = 0 }))
thin (object ∷ later) = Refused (Thin object)

abbrev pub opening_of : ReplicaId → ObjectId → ObjectHistory
opening_of me object = record { object = object; replica = me; candidates = opening ∷ [] }

-- the history as this replica's, and the opening one where there is none
abbrev pub as_mine : ReplicaId → ObjectId → Option ObjectHistory → ObjectHistory
as_mine me object None = opening_of me object
as_mine me object (Some history) = record history { replica = me }

-- the history of an object that a replica has now
unfoldable pub shown_now : WorldState → ReplicaId → ReplicaId → ObjectId → ObjectHistory
shown_now world source me object = as_mine me object (history_at world source object)

abbrev pub is_history_of : ObjectId → Sealed → Bool
is_history_of object sealed = ((sealed.history).object).0 == object.0

-- the history of an object among these
unfoldable pub echoed : List Sealed → ReplicaId → ObjectId → ObjectHistory
echoed shown me object =
    as_mine me object (option_map (λ (sealed : Sealed). sealed.history) (find (is_history_of object) shown))

-- an update of client 1 at the greatest time, upon the opening candidate
abbrev pub far_candidate : Candidate
far_candidate = record {
  stamp = record {
    time = 2 ^ 62;
    barrier = false;
    client = record { 0 = 1 };
    act = None;
    set = record { 0 = repeat 32 (255 ∷ []) };
  };
  prior = opening_stamp;
  group = [];
}

abbrev pub far_history : ReplicaId → ObjectId → ObjectHistory
far_history me object = record { object = object; replica = me; candidates = opening ∷ far_candidate ∷ [] }

-- ---- the reply that is echoed

abbrev pub reply_in : Result Frame BadText → Option (Verdict × List Sealed)
reply_in (Ok (Reply replica client number round verdict culled shown mac)) = Some (verdict, shown)
reply_in _ = None

-- the last reply of a replica to a client
abbrev pub last_reply : WorldState → ReplicaId → ClientId → Option (Verdict × List Sealed)
last_reply world source client = option_and_then (λ letter. reply_in (decoded letter.text))
    (last_sent (party.Replica source) (Some (party.Client client)) world.entries)

-- ---- the reply that is made

-- verdict and histories, as this replica tells them of these objects
unfoldable pub told_of : WorldState → ReplicaId → ClientId → List ObjectId → How
    → Option (Verdict × List ObjectHistory)
told_of world me client objects (Show source) =
    Some (thin objects, map (λ object. shown_now world source me object) objects)
told_of world me client objects (Echo source) =
    option_map (λ reply. (reply.0, map (λ object. echoed reply.1 me object) objects)) (last_reply world source client)
told_of world me client objects Far = Some (thin objects, map (λ object. far_history me object) objects)

abbrev pub numbered_replica : ℕ → ReplicaId
numbered_replica number = record { 0 = number }

unfoldable pub all_replicas : ℕ → List ReplicaId
all_replicas bounds = map (λ number. numbered_replica number) (range_with_len 0 (replicas bounds))

-- the replicas that are named, and all of them where none are
abbrev pub reached : ℕ → Option (List ReplicaId) → List ReplicaId
reached bounds None = all_replicas bounds
reached bounds (Some good) = good

-- the histories with HMACs that are right for these replicas, in an answer to this request
unfoldable pub fake_reply_text : Ring → ReplicaId → ClientId → List ReplicaId → LastRequest → Verdict
    × List ObjectHistory
    → List ℕ
fake_reply_text ring me client good asked told =
    reply_text ring me client asked.number asked.round told.0 (map (λ history. sealed_for ring me good history) told.1)

-- the bytes of the made reply, if there is a request to answer, and a reply to echo
unfoldable pub fake_of : WorldState → ReplicaId → ClientId → How → Option (List ReplicaId) → Option (List ℕ)
fake_of world me client how good =
    option_and_then (λ asked. option_map
    (λ told. fake_reply_text (ring_of world.setup) me client (reached world.setup.bounds good) asked told)
    (told_of world me client asked.objects how)) (last_request world client)
