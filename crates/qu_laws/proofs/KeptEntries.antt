-- What a replica keeps of a request's sets: histories that were held before, where they are of correct replicas,
-- whoever sent the request. So as many accepted a candidate, with the faulty ones, as the sets show it.
use Rattle.std.proofs.Common.{◌≡◌, ℕ, ◌+◌, ◌<◌, ◌≤◌, Bool, true, false, cond, List, [], ◌∷◌, ◌++◌, length, Some, Ok, refl, sym, ap, subst, ◌∙◌, arith, inl, inr, get_or, Result}
use Rattle.std.specs.Prelude.{slice_get, count_by, Contains}
use Rattle.std.specs.List.{AllByRecursion, flat_map}
use Rattle.std.proofs.lemmas.Bool.{not-true}
use Rattle.std.proofs.lemmas.List.Elements.{Contains-append_left, Contains-append_right, Contains-append_cases}
use Rattle.qu_base.specs.declared.party.ObjectId.{ObjectId}
use Rattle.qu_base.specs.declared.party.ClientId.{ClientId}
use Rattle.qu_base.specs.declared.party.Party.TheVariants as party
use Rattle.qu_base.specs.declared.party.ReplicaId.{ReplicaId}
use Rattle.qu_base.specs.Bounds.{replicas, quorum}
use Rattle.qu_seal.specs.Keys.{Ring}
use Rattle.qu_stamp.specs.declared.candidate.Candidate.{Candidate}
use Rattle.qu_history.specs.declared.sealed.Sealed.{Sealed}
use Rattle.qu_history.specs.declared.sets.SetOf.{SetOf}
use Rattle.qu_history.specs.History.{ObjectHistory}
use Rattle.qu_history.specs.Sets.{entries_of, order_of, method_at}
use Rattle.qu_history.specs.Culling.{is_right, culled}
use Rattle.qu_history.specs.Formats.{sets_form}
use Rattle.qu_frames.specs.declared.frame.Body.{Body}
use Rattle.qu_frames.specs.declared.frame.Frame.{Frame}
use Rattle.qu_frames.specs.declared.frame.Frame.TheVariants as frame
use Rattle.qu_frames.specs.declared.frame.Letter.{Letter}
use Rattle.qu_frames.specs.Decoding.{decoded}
use Rattle.qu_frames.specs.Signing.{brought}
use Rattle.qu_rows.specs.State.{ReplicaState}
use Rattle.qu_fitting.proofs.FitCulled.{culled-fits}
use Rattle.qu_fitting.proofs.FitRequests.{request-fits}
use Rattle.qu_trace.specs.declared.trace.Entry.{Entry}
use Rattle.qu_trace.specs.declared.trace.Setup.{Setup}
use Rattle.qu_trace.specs.declared.trace.Trace.{Trace}
use Rattle.qu_trace.specs.Faulty.{is_faulty, is_good}
use Rattle.qu_trace.specs.Letters.{letters_of}
use Rattle.qu_world.specs.State.{WorldState, ring_of}
use Rattle.qu_world.specs.Run.{IsRun}
use Rattle.qu_world.proofs.Each.{each_numbered}
use Rattle.qu_claims.specs.Count.{count}
use Rattle.qu_claims.specs.Setting.{acceptors}
use Rattle.qu_claims.specs.Carried.{handed, Brings}
use Rattle.qu_claims.specs.Handled.{entries_brought, entries_to, shown_in}
use Rattle.qu_runs.specs.Plain.{ArePlain}
use Rattle.qu_claims.specs.Premises.{WasShown}
use Rattle.qu_claims.specs.RunSetting.{setting}
use Rattle.qu_claims.specs.Times.{world_after}
use Rattle.qu_runs.proofs.Fits.Fitting.{handed_fits}
use Rattle.qu_runs.proofs.Worlds.OpeningReplicas.{keys_are, me_is}
use Rattle.qu_runs.proofs.Digests.Plain.{setup_after}
use Rattle.qu_runs.proofs.Small.{only_one}
use Rattle.qu_runs.proofs.Fits.Carrying.{brings_decoded}
use Rattle.qu_shown.specs.Views.{WasHeld, HeldIfCorrect, EachEntry}
use Rattle.qu_laws.proofs.Acceptors.{Stays, counted_held, shown_by_held, base_by_held, culled_each, right_within}
use Rattle.qu_accepts.proofs.Handled.{handler_at}
use Rattle.std.specs.List.{list_all}
use Rattle.qu_claims.specs.Handled.{is_of_setup}
use Rattle.qu_shown.proofs.AskedLetters.{true_to, brought_so}
use Rattle.qu_shown.proofs.TrueLetters.{IsTrueLetter, ShowsHeld, shows_held}
use Rattle.qu_shown.proofs.Views.{true_world}
use Rattle.qu_base.specs.declared.bad_text.BadText.{BadText}
use Rattle.qu_base.proofs.Items.{later_contains}
use Rattle.std.proofs.lemmas.List.Concat.{flat_map-cons}

-- ---- what is contained

each_contained : (entries all : List Sealed) → ((sealed : Sealed) → Contains entries sealed → Contains all sealed)
    → AllByRecursion (λ (sealed : Sealed). Contains all sealed) entries
each_contained [] all within = tt
each_contained (sealed ∷ later) all within = (
  within sealed (0, omega arith, refl),
  each_contained later all (λ it among. within it (later_contains sealed later it among)),
)

abbrev entries_in : List SetOf → List Sealed
entries_in sets = flat_map (λ (set : SetOf). set.entries) sets

sets_contained : (sets : List SetOf) (all : List Sealed)
    → ((sealed : Sealed) → Contains (entries_in sets) sealed → Contains all sealed)
    → EachEntry (λ (sealed : Sealed). Contains all sealed) sets
sets_contained [] all within = tt
sets_contained (set ∷ later) all within =
    let among : (sealed : Sealed) → Contains (set.entries ++ entries_in later) sealed → Contains all sealed =
    λ sealed held. within sealed (subst (λ (it : List Sealed). Contains it sealed)
    (sym (flat_map-cons (λ (it : SetOf). it.entries) set later)) held) in (
      each_contained set.entries all
          (λ sealed held. among sealed (Contains-append_left set.entries (entries_in later) sealed held)),
      sets_contained later all
          (λ sealed held. among sealed (Contains-append_right set.entries (entries_in later) sealed held)),
    )

contained_each : (P : Sealed → Type 0) (items : List Sealed) (item : Sealed) → AllByRecursion P items
    → Contains items item → P item
contained_each P [] item each among = absurd (omega (arith, among.1))
contained_each P (first ∷ later) item each among =
    elim (Contains-append_cases (first ∷ []) later item among) [
      | inl here ↦ subst P (only_one first item here) each.0
      | inr there ↦ contained_each P later item each.1 there
    ]

-- what is found in a reply that is true was held
found_held : (trace : Trace) (time : ℕ) (read : Result Frame BadText)
    → ((sent : Frame) → read ≡ Ok sent → ShowsHeld (λ (it : Sealed). HeldIfCorrect trace time it.history) sent)
    → (shown : Sealed) → Contains (shown_in read) shown → HeldIfCorrect trace time (shown.history)
found_held trace time (Ok (frame.Reply replica client number round verdict left shown mac)) holds_so it among =
    contained_each (λ (one : Sealed). HeldIfCorrect trace time one.history) shown it
    (holds_so (frame.Reply replica client number round verdict left shown mac) refl) among
found_held trace time _ holds_so it among = absurd (omega (arith, among.1))

-- ---- what was shown before was held

module _ (trace : Trace) (is_run : IsRun trace) (have : ArePlain trace) (time : ℕ)
    (below : time < length trace.entries) (default : Entry) (place : ℕ) (old : ReplicaState)
    (is_old : slice_get (world_after trace time).replicas place ≡ Some old) (text : List ℕ)
    (hands : handed (world_after trace time) (get_or trace.entries time default).event
    ≡ Some (party.Replica (record { 0 = place }), text)) where
  abbrev world : WorldState
  world = world_after trace time

  abbrev me : ReplicaId
  me = record { 0 = place }

  -- a history that a correct replica showed
  shown_was_held : (sealed : Sealed) → WasShown world me sealed
      → is_good trace.setup ((sealed.history).replica).0 ≡ true → WasHeld trace time sealed.history
  shown_was_held sealed was good =
      let letter : Letter = was.letter in
      let true_letter : IsTrueLetter (λ (it : Sealed). HeldIfCorrect trace time it.history) letter =
      each_numbered (IsTrueLetter (λ (it : Sealed). HeldIfCorrect trace time it.history))
      (letters_of world.entries) was.number letter (true_world trace is_run have time (omega arith)).letters
      was.is_letter in
      subst (WasHeld trace time) was.history_is
      (found_held trace time (decoded letter.text)
      (λ sent is. shows_held (λ (it : Sealed). HeldIfCorrect trace time it.history) sent
      (true_letter sent is)) was.shown was.by_letter
      (ap (λ (it : ObjectHistory). is_good trace.setup (it.replica).0) was.history_is ∙ good))

  module _ (client : ClientId) (number round : ℕ) (sent : List SetOf) (body : Body) (mac : List ℕ)
      (brings : Brings old text (frame.Request client number round sent body mac))
      (known : list_all (is_of_setup trace.setup) sent ≡ true) where
    -- it fits its format
    pub sent_fits : sets_form.Fits sent
    sent_fits =
        (request-fits client number round sent body mac
        (handed_fits trace is_run have.typed time default below (party.Replica me) text hands
        (frame.Request client number round sent body mac)
        (brings_decoded old text (frame.Request client number round sent body mac) brings))).shown

    -- the entries of its sets
    entries_are : entries_to trace.setup text (party.Replica me) ≡ flat_map (λ (set : SetOf). set.entries) sent
    entries_are =
        ap (λ (test : Bool). cond test
        (entries_brought trace.setup (brought (ring_of trace.setup) (party.Replica me) text)) [])
        (handler_at trace time (get_or trace.entries time default).event place old is_old text hands)
        ∙ ap (entries_brought trace.setup)
        (brought_so trace have time below default place old is_old text hands
        (frame.Request client number round sent body mac) brings)
        ∙ ap (λ (test : Bool). cond test (flat_map (λ (set : SetOf). set.entries) sent) [])
        known

    -- an entry that stays
    stays : (sealed : Sealed) → Contains (flat_map (λ (set : SetOf). set.entries) sent) sealed
        → is_right (ring_of trace.setup) me sealed ≡ true → Stays trace time sealed
    stays sealed among right = (
      right_within (ring_of trace.setup) me sealed right,
      λ good. shown_was_held sealed
          ((true_to trace have time below default place old is_old text hands).shown me sealed refl
          (subst (λ (setup : Setup). Contains (entries_to setup text (party.Replica me)) sealed)
          (sym (setup_after trace time)) (subst (λ (it : List Sealed). Contains it sealed) (sym entries_are) among))
          (ap (λ (setup : Setup). is_right (ring_of setup) me sealed) (setup_after trace time) ∙ right)
          (ap (λ (setup : Setup). is_faulty setup (party.Replica (sealed.history).replica)) (setup_after trace time)
          ∙ not-true (is_faulty trace.setup (party.Replica (sealed.history).replica)) good)) good,
    )

    -- ---- counting what the culled sets show

    abbrev kept_sets : List SetOf
    kept_sets = culled old.keys old.me sent

    kept_fits : sets_form.Fits kept_sets
    kept_fits = culled-fits old.keys old.me sent sent_fits

    all_stay : EachEntry (Stays trace time) kept_sets
    all_stay =
        let same : kept_sets ≡ culled (ring_of trace.setup) me sent =
        ap (λ (keys : Ring). culled keys old.me sent) (keys_are trace time place old is_old)
        ∙ ap (λ (it : ReplicaId). culled (ring_of trace.setup) it sent) (me_is trace time place old is_old) in
        subst (EachEntry (Stays trace time)) (sym same)
        (culled_each (λ (sealed : Sealed). Contains (entries_in sent) sealed) (Stays trace time) (ring_of trace.setup)
        me sent stays (sets_contained sent (entries_in sent) (λ sealed among. among)))

    pub counted : (object : ObjectId) (first second : ObjectHistory → Bool) (test : ℕ → Bool)
        → ((history : ObjectHistory) → history.object ≡ object
        → (history.replica).0 < replicas trace.setup.bounds → HeldIfCorrect trace time history
        → first history ≡ true → second history ≡ false → test (history.replica).0 ≡ true)
        → count_by first (entries_of object kept_sets)
        ≤ count_by second (entries_of object kept_sets) + count (replicas trace.setup.bounds) test
    counted object first second test passes =
        counted_held trace time object first second test passes kept_sets kept_fits all_stay

    -- so many accepted a candidate that with the faulty ones they are as many as show it
    pub shown_by_accepting : (object : ObjectId) (candidate : Candidate)
        → order_of candidate (entries_of object kept_sets)
        ≤ acceptors (setting trace) time object candidate + (setting trace).faults
    shown_by_accepting object candidate = shown_by_held trace time object candidate kept_sets kept_fits all_stay

    -- and what the sets are based on, so many accepted that with the faulty ones they are a quorum
    pub base_accepted : (object : ObjectId) (candidate : Candidate)
        → method_at trace.setup.bounds (entries_of object kept_sets) ≡ Some candidate
        → quorum trace.setup.bounds ≤ acceptors (setting trace) time object candidate + (setting trace).faults
    base_accepted object candidate = base_by_held trace time object candidate kept_sets kept_fits all_stay
