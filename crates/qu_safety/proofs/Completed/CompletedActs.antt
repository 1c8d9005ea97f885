-- An act that completed has a candidate decided before the event of its reply, and its answer is that of the
-- candidate's version.
use Rattle.std.proofs.Common.{◌≡◌, ◌≢◌, ℕ, ◌+◌, ◌-◌, ◌<◌, ◌≤◌, Bool, true, List, [], ◌∷◌, length, Some, refl, sym, ap, subst, ◌∙◌, arith, inl, inr, All, AllPairs}
use Rattle.std.specs.Prelude.{Contains}
use Rattle.std.proofs.lemmas.List.Elements.{All-nil, All-cons, All-head, All-tail, All-weaker, All-contains}
use Rattle.std.proofs.lemmas.Option.{slice_get_within}
use Rattle.qu_base.specs.declared.party.ClientId.{ClientId}
use Rattle.qu_base.specs.declared.party.Digest.{Digest}
use Rattle.qu_base.specs.declared.party.ObjectId.{ObjectId}
use Rattle.qu_base.specs.Bounds.{replicas, quorum}
use Rattle.qu_stamp.specs.declared.stamp.Stamp.{Stamp}
use Rattle.qu_stamp.specs.declared.candidate.Candidate.{Candidate}
use Rattle.qu_claims.specs.Count.{count, test_at}
use Rattle.qu_claims.specs.Setting.{acceptors}
use Rattle.qu_chain.specs.Laws.{Laws}
use Rattle.qu_claims.specs.Decided.{IsDecided}
use Rattle.qu_chain.specs.Joint.{Joint}
use Rattle.qu_chain.proofs.Ancestry.{accepted-later, decided-later, established-later}
use Rattle.qu_chain.proofs.Counting.{count-more, test_at-here}
use Rattle.qu_objects.specs.declared.act.Method.{Method}
use Rattle.qu_objects.specs.declared.answer.Answer.{Answer}
use Rattle.qu_objects.specs.declared.op.Op.{Op}
use Rattle.qu_objects.specs.declared.op.Op.TheVariants as op
use Rattle.qu_objects.specs.declared.op.Outcome.TheVariants as outcome
use Rattle.qu_verdicts.specs.declared.verdict.Verdict.{Verdict}
use Rattle.qu_verdicts.specs.declared.verdict.Verdict.TheVariants as verdict
use Rattle.qu_verdicts.specs.Verdict.{same_verdict}
use Rattle.qu_frames.specs.Body.{body_of}
use Rattle.qu_client.specs.Verdicts.{fitting}
use Rattle.qu_machine.specs.declared.record.OpRecord.{OpRecord}
use Rattle.qu_trace.specs.declared.trace.Trace.{Trace}
use Rattle.qu_trace.specs.Operation.{operations_of}
use Rattle.qu_world.specs.Run.{IsRun}
use Rattle.qu_objects.specs.Digesting.{act_digest}
use Rattle.qu_safety.proofs.Completed.Along.{all_along, all_contained, Named, first_having}
use Rattle.qu_claims.specs.Handled.{IsHandled}
use Rattle.qu_claims.specs.Completions.{RepliedAt, Replied, IsCompleted}
use Rattle.qu_claims.specs.Accepted.{accepts}
use Rattle.qu_claims.specs.RunSetting.{setting}
use Rattle.qu_claims.specs.Times.{world_after}
use Rattle.qu_runs.proofs.Worlds.Settings.{acceptors_are, acceptors_counted}
use Rattle.qu_replies.specs.Replies.{HoldsOfFirst, HasDone, TellsDone, HasKept, TellsAlready, IsReplyTo, culled_in}
use Rattle.qu_replies.proofs.EachOf.{first_weaker}
use Rattle.qu_claims.specs.Quorums.{PartOfQuorum}
use Rattle.qu_runs.specs.Plain.{ArePlain}
use Rattle.qu_rounds.proofs.Endings.{EndsAt, operation_ends}
use Rattle.qu_values.proofs.Requests.ClientFacts.{ClientFacts}
use Rattle.qu_values.proofs.Updating.Updates.{same_accepted}
use Rattle.qu_values.proofs.Versions.EverAccepted.{place_ever, held_ever}
use Rattle.qu_rounds.proofs.Members.{is_among, members_count}
use Rattle.qu_replies.proofs.RepliesInRuns.{IsActOn, act_of_update, done_in_run, already_in_run}
use Rattle.qu_safety.proofs.Completed.KeptParts.{KeptPart, kept_part}
use Rattle.qu_safety.proofs.Completed.AddedOnce.{adds_what_is_found}
use Rattle.qu_values.proofs.Versions.HeldVersions.{held_upon}
use Rattle.qu_values.proofs.Versions.StoredValues.{version_is}
use Rattle.qu_values.proofs.Updating.UpdateFacts.{UpdateFacts}
use Rattle.qu_rounds.proofs.Verdicts.{fits_act, equal_done, equal_already}
use Rattle.qu_runs.proofs.Small.{some_member, quorum_outnumbers}
use Rattle.qu_safety.proofs.Completed.ToldParts.{CompletedAct, among_all, HasPart, HasAll, told_parts, told_handled, reply_of}

module _ (trace : Trace) (is_run : IsRun trace) (have : ArePlain trace) (clients : ClientFacts trace)
    (laws : Laws (setting trace)) (joint : Joint (setting trace)) (facts : UpdateFacts trace) (operation : OpRecord)
    (among : Contains (operations_of trace) operation) (parts : List (ObjectId × Method))
    (is_act : operation.op ≡ op.Act parts) (answer : Answer) (stamps : List (ObjectId × Stamp))
  where
    -- with some answer
    abbrev Part : ℕ → ℕ → ObjectId × Stamp → Type 0
    Part time replica told = (kept : Answer) × HasPart trace operation parts kept time replica told

    abbrev Has : ℕ → ℕ → Type 0
    Has time replica = HasAll trace operation parts answer stamps time replica

    -- ---- members

    -- a candidate that a replica has once it told Done
    part_done : (at : ℕ) → at < length trace.entries → (replica round : ℕ)
        → (reply : IsReplyTo trace at replica operation.client operation.number round (verdict.Done stamps answer))
        → IsHandled trace operation.client operation.number parts → (kept : Answer) (told : ObjectId × Stamp)
        → HasDone reply.new operation.client operation.number
        (act_digest operation.client operation.number parts) kept told
        → HasPart trace operation parts kept (at + 1) replica told
    unfolding setting
    part_done at below replica round reply handled kept told it = record {
      candidate = it.candidate;
      is_told = it.is_told;
      made = record { handled = handled; of_client = it.of_client; of_act = it.of_act };
      accepted = test_at-here (accepts told.0 it.candidate) (world_after trace (at + 1)).replicas replica
          reply.new (reply.handles).is_new ∙ it.held;
      version = it.version;
      has = version_is trace laws joint is_run have (at + 1) (omega arith) replica reply.new
          (reply.handles).is_new told.0 it.candidate
          (held_ever trace laws (at + 1) (omega arith) replica reply.new (reply.handles).is_new told.0
          it.candidate it.held) it.version it.of_candidate;
      keeps = it.keeps;
    }

    -- a replica that told Done has the candidates
    has_by_reply : (at : ℕ) → at < length trace.entries → (replica round : ℕ)
        → IsReplyTo trace at replica operation.client operation.number round (verdict.Done stamps answer)
        → Has (at + 1) replica
    unfolding setting
    has_by_reply at below replica round reply =
        let client : ClientId = operation.client in
        let number : ℕ = operation.number in
        let act : Digest = act_digest client number parts in
        let given : Verdict = verdict.Done stamps answer in
        let asks : IsActOn reply.body =
        act_of_update trace is_run have at below replica client number round given tt reply in
        let these : asks.parts ≡ parts =
        told_parts trace is_run have clients operation among parts is_act at below replica round given tt reply in
        let done : TellsDone reply.new client number act parts stamps answer =
        subst (λ (it : List (ObjectId × Method)).
        TellsDone reply.new client number (act_digest client number it) it stamps answer) these
        (done_in_run trace is_run have at below replica client number round stamps answer reply
        (held_upon trace is_run have at below replica reply.old reply.new reply.handles)
        (adds_what_is_found trace is_run have laws joint facts at below replica client number round given reply)) in
        let handled : IsHandled trace client number parts =
        told_handled trace is_run have clients operation among parts is_act at below replica round given tt reply in
        record {
          some = subst (λ (it : List (ObjectId × Method)). 1 ≤ length it) these asks.some;
          of_parts = done.of_parts;
          each = All-weaker (λ (told : ObjectId × Stamp). (kept : Answer)
              × HasDone reply.new client number act kept told) (Part (at + 1) replica)
              (λ told it. (it.0, part_done at below replica round reply handled it.0 told it.1)) stamps done.each;
          first = first_weaker (HasDone reply.new client number act answer)
              (HasPart trace operation parts answer (at + 1) replica)
              (part_done at below replica round reply handled answer) stamps done.first;
        }

    part_later : (early late : ℕ) → early ≤ late → (replica : ℕ) (kept : Answer) (told : ObjectId × Stamp)
        → HasPart trace operation parts kept early replica told → HasPart trace operation parts kept late replica told
    part_later early late order replica kept told it = record {
      candidate = it.candidate;
      is_told = it.is_told;
      made = it.made;
      accepted = accepted-later (setting trace) laws.lasting early late order told.0 replica it.candidate it.accepted;
      version = it.version;
      has = it.has;
      keeps = it.keeps;
    }

    has_later : (early late : ℕ) → early ≤ late → (replica : ℕ) → Has early replica → Has late replica
    has_later early late order replica held = record {
      some = held.some;
      of_parts = held.of_parts;
      each = All-weaker (Part early replica) (Part late replica)
          (λ told it. (it.0, part_later early late order replica it.0 told it.1)) stamps held.each;
      first = first_weaker (HasPart trace operation parts answer early replica)
          (HasPart trace operation parts answer late replica) (part_later early late order replica answer) stamps
          held.first;
    }

    has_by_verdict : (before round : ℕ) (given : Verdict) → given ≡ verdict.Done stamps answer → (replica : ℕ)
        → Replied trace before operation.client operation.number round given replica → Has before replica
    has_by_verdict before round given is_done replica replied =
        let at : ℕ = replied.at in
        let earlier : at < before = replied.earlier in
        let sent : RepliedAt trace at operation.client operation.number round given replica = replied.replied in
        let below : at < length trace.entries = slice_get_within trace.entries at sent.entry sent.is_entry in
        let told : sent.told ≡ verdict.Done stamps answer =
        equal_done sent.told stamps answer (ap (same_verdict sent.told) (sym is_done) ∙ sent.same) in
        let reply : IsReplyTo trace at replica operation.client operation.number round given =
        reply_of trace is_run have clients operation among parts is_act before round given replica replied
        (told ∙ sym is_done) in
        has_later (at + 1) before (omega arith) replica
        (has_by_reply at below replica round
        (subst (IsReplyTo trace at replica operation.client operation.number round) is_done reply))

    -- ---- they all have the same

    has_first : (time : ℕ) → time ≤ length trace.entries → (first : ℕ) → first < replicas trace.setup.bounds
        → (told : ObjectId × Stamp) (part : Part time first told) → (replica : ℕ)
        → replica < replicas trace.setup.bounds → Part time replica told
        → (setting trace).accepted time told.0 replica (part.1).candidate ≡ true
    has_first time within first below told part replica also its =
        let held = part.1 in
        let other = its.1 in
        let candidates : held.candidate ≡ other.candidate =
        same_accepted trace laws joint told.0 held.candidate other.candidate
        (place_ever trace laws time within first below told.0 held.candidate held.accepted)
        (place_ever trace laws time within replica also told.0 other.candidate other.accepted)
        (held.is_told ∙ sym other.is_told) in
        ap (λ (it : Candidate). (setting trace).accepted time told.0 replica it) candidates ∙ other.accepted

    module _ (time : ℕ) (ends : time ≤ length trace.entries) (members : List ℕ)
        (different : AllPairs (λ (a b : ℕ). a ≢ b) members)
        (within : All (λ (member : ℕ). member < replicas trace.setup.bounds) members)
        (enough : quorum trace.setup.bounds ≤ length members + trace.setup.bounds) (all : All (Has time) members)
        (first : ℕ)
        (below : first < replicas trace.setup.bounds) where
      quorum_by : (told : ObjectId × Stamp) → Contains stamps told → (part : Part time first told)
          → quorum trace.setup.bounds ≤ acceptors (setting trace) time told.0 (part.1).candidate + trace.setup.bounds
      unfolding setting
      quorum_by told one part =
          let held = part.1 in
          let n : ℕ = replicas trace.setup.bounds in
          let accepted : ℕ → Bool = test_at (accepts told.0 held.candidate) (world_after trace time).replicas in
          let among_them : length members ≤ count n (is_among members) = members_count n members different within in
          let more : count n (is_among members) ≤ count n accepted =
          count-more n (is_among members) accepted
          (λ index low member.
          has_first time ends first below told part index low
          (All-contains (Part time index) stamps told (among_all (Has time) members all index member).each one)) in
          let same : acceptors (setting trace) time told.0 held.candidate ≡ count n accepted =
          acceptors_counted trace time told.0 held.candidate in
          omega (arith, enough, among_them, more, same)

      decided_of_quorum : (told : ObjectId × Stamp) → Contains stamps told → (part : Part time first told)
          → IsDecided (setting trace) time told.0 (part.1).candidate
      unfolding setting
      decided_of_quorum told one part =
          let held = part.1 in
          let counted : quorum trace.setup.bounds
          ≤ acceptors (setting trace) time told.0 held.candidate + trace.setup.bounds = quorum_by told one part in
          IsDecided.established held.candidate
          (facts.plain told.0 held.candidate (place_ever trace laws time ends first below told.0
          held.candidate held.accepted) (rw (held.made).of_act refl))
          (omega (arith, counted))

    -- on each object they have one candidate
    each_of_quorum : (reply : ℕ) → reply - 1 ≤ length trace.entries → (members : List ℕ)
        → AllPairs (λ (a b : ℕ). a ≢ b) members → All (λ (member : ℕ). member < replicas trace.setup.bounds) members
        → quorum trace.setup.bounds ≤ length members + trace.setup.bounds → All (Has (reply - 1)) members → (first : ℕ)
        → first < replicas trace.setup.bounds → (held : Has (reply - 1) first)
        → All (λ (part : ObjectId × Method). PartOfQuorum trace operation parts reply (verdict.Done stamps answer)
        part.0) parts
    each_of_quorum reply ends members different within enough all first below held =
        all_along (PartOfQuorum trace operation parts reply (verdict.Done stamps answer)) stamps parts held.of_parts
        (all_contained (λ (told : ObjectId × Stamp).
        PartOfQuorum trace operation parts reply (verdict.Done stamps answer) told.0) stamps
        (λ told one. at told one (All-contains (Part (reply - 1) first) stamps told held.each one)))
      where
        at : (told : ObjectId × Stamp) → Contains stamps told → Part (reply - 1) first told
            → PartOfQuorum trace operation parts reply (verdict.Done stamps answer) told.0
        at told one it =
            let part = it.1 in
            let counted : quorum trace.setup.bounds
            ≤ acceptors (setting trace) (reply - 1) told.0 part.candidate + trace.setup.bounds =
            quorum_by (reply - 1) ends members different within enough all first below told one it in
            record {
              candidate = part.candidate;
              of_client = (part.made).of_client;
              of_act = (part.made).of_act;
              complete = part.candidate;
              upon = refl;
              accepted = let same = acceptors_are trace (reply - 1) told.0 part.candidate in omega
                  (arith, counted, same);
            }

    -- a completed act by the members that replied to it
    by_members : (reply : ℕ) → reply ≤ length trace.entries → 1 ≤ reply → (members : List ℕ)
        → AllPairs (λ (a b : ℕ). a ≢ b) members → All (λ (member : ℕ). member < replicas trace.setup.bounds) members
        → quorum trace.setup.bounds ≤ length members + trace.setup.bounds → All (Has (reply - 1)) members
        → CompletedAct trace operation reply (verdict.Done stamps answer) answer
    by_members reply ends begins members different within enough all =
        let some : trace.setup.bounds < quorum trace.setup.bounds =
        quorum_outnumbers trace.setup.bounds (is_run.setup).some_faults in
        let P : ℕ → Type 0 = λ member. Has (reply - 1) member × (member < replicas trace.setup.bounds) in
        let one : (member : ℕ) × P member =
        some_member P members (omega (arith, some, enough)) (both members all within) in
        let held : Has (reply - 1) one.0 = (one.1).0 in
        let below : one.0 < replicas trace.setup.bounds = (one.1).1 in
        let having = first_having (HasPart trace operation parts answer (reply - 1) one.0) stamps parts held.of_parts
        held.some held.first in
        let named : Named stamps parts = having.0 in
        let part : HasPart trace operation parts answer (reply - 1) one.0 named.told = having.1 in
        record {
          parts = parts;
          is_act = is_act;
          object = named.told.0;
          candidate = part.candidate;
          is_of = record { made = part.made; names = named.names };
          version = part.version;
          has = part.has;
          keeps = part.keeps;
          decided = decided_of_quorum (reply - 1) (omega arith) members different within enough all one.0 below
              named.told named.among (answer, part);
          of_quorum = record {
            some = held.some;
            each = each_of_quorum reply (omega arith) members different within enough all one.0 below held;
          };
          within = ends;
          begins = begins;
        }
      where
        both : (members : List ℕ) → All (Has (reply - 1)) members
            → All (λ (member : ℕ). member < replicas trace.setup.bounds) members
            → All (λ (member : ℕ). Has (reply - 1) member × (member < replicas trace.setup.bounds)) members
        both [] all within = All-nil (λ (member : ℕ). Has (reply - 1) member × (member < replicas trace.setup.bounds))
        both (member ∷ later) all within =
            All-cons (λ (it : ℕ). Has (reply - 1) it × (it < replicas trace.setup.bounds)) member later (
              All-head (Has (reply - 1)) member later all,
              All-head (λ (it : ℕ). it < replicas trace.setup.bounds) member later within,
            )
            (both later (All-tail (Has (reply - 1)) member later all)
            (All-tail (λ (it : ℕ). it < replicas trace.setup.bounds) member later within))

-- an act that was told Already was done before, as each of the replicas says that told it
module _ (trace : Trace) (is_run : IsRun trace) (have : ArePlain trace) (clients : ClientFacts trace)
    (laws : Laws (setting trace)) (joint : Joint (setting trace)) (facts : UpdateFacts trace) (operation : OpRecord)
    (among : Contains (operations_of trace) operation) (parts : List (ObjectId × Method))
    (is_act : operation.op ≡ op.Act parts) (answer : Answer) where
  abbrev KeptWith : Answer → ℕ → ObjectId → Type 0
  KeptWith kept time object = KeptPart trace operation.client operation.number parts kept time object

  -- with some answer
  abbrev Kept : ℕ → ObjectId → Type 0
  Kept time object = (kept : Answer) × KeptWith kept time object

  kept_later : (early late : ℕ) → early ≤ late → (kept : Answer) (object : ObjectId) → KeptWith kept early object
      → KeptWith kept late object
  kept_later early late order kept object it = record {
    candidate = it.candidate;
    made = it.made;
    version = it.version;
    has = it.has;
    keeps = it.keeps;
    decided = decided-later (setting trace) laws.lasting early late order object it.candidate it.decided;
    complete = it.complete;
    upon = it.upon;
    established = established-later (setting trace) laws.lasting early late order object it.complete it.established;
  }

  -- on each of its objects by the event of a reply that tells it
  kept_by_reply : (at : ℕ) → at < length trace.entries → (replica round : ℕ)
      → IsReplyTo trace at replica operation.client operation.number round (verdict.Already answer)
      → (1 ≤ length parts) × All (λ (part : ObjectId × Method). Kept at part.0) parts
      × HoldsOfFirst (λ (part : ObjectId × Method). KeptWith answer at part.0) parts
  kept_by_reply at below replica round reply =
      let client : ClientId = operation.client in
      let number : ℕ = operation.number in
      let act : Digest = act_digest client number parts in
      let given : Verdict = verdict.Already answer in
      let asks : IsActOn reply.body =
      act_of_update trace is_run have at below replica client number round given tt reply in
      let these : asks.parts ≡ parts =
      told_parts trace is_run have clients operation among parts is_act at below replica round given tt reply in
      let tells : TellsAlready (reply.handles).mid client number act (culled_in (reply.handles).mid reply.sets) parts
      answer =
      subst (λ (it : List (ObjectId × Method)).
      TellsAlready (reply.handles).mid client number (act_digest client number it)
      (culled_in (reply.handles).mid reply.sets) it answer)
      these (already_in_run trace is_run have at below replica client number round answer reply) in
      let handled : IsHandled trace client number parts =
      told_handled trace is_run have clients operation among parts is_act at below replica round given tt reply in (
        subst (λ (it : List (ObjectId × Method)). 1 ≤ length it) these asks.some,
        All-weaker
            (λ (part : ObjectId × Method). (kept : Answer)
            × HasKept (reply.handles).mid client number act (culled_in (reply.handles).mid reply.sets) kept part.0)
            (λ (part : ObjectId × Method). Kept at part.0)
            (λ part it. (
              it.0,
              kept_part trace is_run have laws joint facts at below replica client number round answer
                  reply parts handled it.0 part.0 it.1,
            )) parts tells.each,
        first_weaker
            (λ (part : ObjectId × Method).
            HasKept (reply.handles).mid client number act (culled_in (reply.handles).mid reply.sets) answer part.0)
            (λ (part : ObjectId × Method). KeptWith answer at part.0)
            (λ part it. kept_part trace is_run have laws joint facts at below replica client number round answer reply
            parts handled answer part.0 it) parts tells.first,
      )

  quorum_of_kept : (reply : ℕ) → (object : ObjectId) → Kept (reply - 1) object
      → PartOfQuorum trace operation parts reply (verdict.Already answer) object
  unfolding setting
  quorum_of_kept reply object kept =
      let it = kept.1 in
      let counted : quorum trace.setup.bounds
      ≤ acceptors (setting trace) (reply - 1) object it.complete + trace.setup.bounds = it.established in
      record {
        candidate = it.candidate;
        of_client = (it.made).of_client;
        of_act = (it.made).of_act;
        complete = it.complete;
        upon = it.upon;
        accepted = let same = acceptors_are trace (reply - 1) object it.complete in omega (arith, counted, same);
      }

  -- one correct replica that told it is enough
  by_already : (reply : ℕ) → reply ≤ length trace.entries → 1 ≤ reply → (round : ℕ) (given : Verdict)
      → given ≡ verdict.Already answer → (replica : ℕ)
      → Replied trace (reply - 1) operation.client operation.number round given replica
      → CompletedAct trace operation reply (verdict.Already answer) answer
  by_already reply ends begins round given is_already replica replied =
      let at : ℕ = replied.at in
      let earlier : at < reply - 1 = replied.earlier in
      let sent : RepliedAt trace at operation.client operation.number round given replica = replied.replied in
      let below : at < length trace.entries = slice_get_within trace.entries at sent.entry sent.is_entry in
      let told : sent.told ≡ verdict.Already answer =
      equal_already sent.told answer (ap (same_verdict sent.told) (sym is_already) ∙ sent.same) in
      let all = kept_by_reply at below replica round
      (subst (IsReplyTo trace at replica operation.client operation.number round) is_already
      (reply_of trace is_run have clients operation among parts is_act (reply - 1) round given replica replied
      (told ∙ sym is_already))) in
      let each : All (λ (part : ObjectId × Method). Kept (reply - 1) part.0) parts =
      All-weaker (λ (part : ObjectId × Method). Kept at part.0)
      (λ (part : ObjectId × Method). Kept (reply - 1) part.0)
      (λ part it. (it.0, kept_later at (reply - 1) (omega arith) it.0 part.0 it.1)) parts all.1 in
      let having = first_having (λ (part : ObjectId × Method). KeptWith answer (reply - 1) part.0) parts parts refl
      all.0
      (first_weaker (λ (part : ObjectId × Method). KeptWith answer at part.0)
      (λ (part : ObjectId × Method). KeptWith answer (reply - 1) part.0)
      (λ part it. kept_later at (reply - 1) (omega arith) answer part.0 it) parts all.2) in
      let named : Named parts parts = having.0 in
      let it : KeptWith answer (reply - 1) (named.told).0 = having.1 in
      record {
        parts = parts;
        is_act = is_act;
        object = (named.told).0;
        candidate = it.candidate;
        is_of = record { made = it.made; names = named.names };
        version = it.version;
        has = it.has;
        keeps = it.keeps;
        decided = it.decided;
        of_quorum = record {
          some = all.0;
          each = All-weaker (λ (part : ObjectId × Method). Kept (reply - 1) part.0)
              (λ (part : ObjectId × Method). PartOfQuorum trace operation parts reply (verdict.Already answer) part.0)
              (λ part kept. quorum_of_kept reply part.0 kept) parts each;
        };
        within = ends;
        begins = begins;
      }

-- of every completed act
pub completed_act : (trace : Trace) → IsRun trace → ArePlain trace → ClientFacts trace → Laws (setting trace)
    → Joint (setting trace) → UpdateFacts trace → (operation : OpRecord)
    → Contains (operations_of trace) operation
    → (reply : ℕ) (answer : Answer) → operation.reply ≡ Some (reply, outcome.Done answer)
    → (done : IsCompleted trace operation reply answer)
    → (act : List (ObjectId × Method)) → operation.op ≡ op.Act act
    → CompletedAct trace operation reply done.verdict answer
completed_act trace is_run have clients laws joint facts operation among reply answer replied done act is_act =
    let ends : EndsAt trace.entries 1 operation.client operation.number reply (outcome.Done answer) =
    operation_ends trace operation among reply (outcome.Done answer) replied in
    let at : reply ≡ 1 + ends.index = ends.is_at in
    let below : ends.index < length trace.entries =
    slice_get_within trace.entries ends.index ends.entry ends.is_entry in
    elim (fits_act act done.verdict answer (ap (λ (it : Op). fitting (body_of it) done.verdict) (sym is_act)
    ∙ done.fits)) [
      | inl given ↦
          subst (λ (told : Verdict). CompletedAct trace operation reply told answer) (sym given.is)
          (by_members trace is_run have clients laws joint facts operation among act is_act answer given.stamps reply
          (omega arith) (omega arith) done.members done.different done.within done.enough
          (All-weaker (Replied trace (reply - 1) operation.client operation.number done.round done.verdict)
          (HasAll trace operation act answer given.stamps (reply - 1))
          (has_by_verdict trace is_run have clients laws joint facts operation among act is_act answer given.stamps
          (reply - 1) done.round done.verdict given.is) done.members done.replied))
      | inr already ↦
          let some : trace.setup.bounds < quorum trace.setup.bounds =
          quorum_outnumbers trace.setup.bounds (is_run.setup).some_faults in
          let enough : quorum trace.setup.bounds ≤ length done.members + trace.setup.bounds = done.enough in
          let P : ℕ → Type 0 =
          Replied trace (reply - 1) operation.client operation.number done.round done.verdict in
          let one : (member : ℕ) × P member = some_member P done.members (omega (arith, some, enough)) done.replied in
          subst (λ (told : Verdict). CompletedAct trace operation reply told answer) (sym already)
          (by_already trace is_run have clients laws joint facts operation among act is_act answer reply (omega arith)
          (omega arith) done.round done.verdict already one.0 one.1)
    ]
