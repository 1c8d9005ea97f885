-- From one event of a run to the next the marks stay those of the first decisions.
use Rattle.std.proofs.Common.{◌≡◌, ℕ, ◌+◌, ◌<◌, ◌≤◌, Bool, ◌||◌, true, false, List, [], ◌∷◌, length, Option, None, Some, sym, ap, subst, ◌∙◌, arith, inl, inr}
use Rattle.std.specs.List.{AllZip, All}
use Rattle.std.specs.Option.{OnSome}
use Rattle.std.proofs.lemmas.Bool.{false≢true, cases_lt}
use Rattle.std.proofs.lemmas.List.Elements.{All-head, All-tail, All-nil, All-cons, All-weaker}
use Rattle.std.proofs.lemmas.Option.{none-some, same_Some}
use Rattle.qu_base.specs.declared.party.ObjectId.{ObjectId}
use Rattle.qu_stamp.specs.declared.candidate.Candidate.{Candidate}
use Rattle.qu_trace.specs.declared.trace.Setup.{Setup}
use Rattle.qu_trace.specs.declared.trace.Trace.{Trace}
use Rattle.qu_world.specs.State.{WorldState}
use Rattle.qu_world.specs.Run.{IsRun}
use Rattle.qu_claims.specs.Accepted.{is_accepted}
use Rattle.qu_claims.specs.Times.{world_after}
use Rattle.qu_runs.proofs.Worlds.WorldGrowth.{HasMore, has_more, world_after-grows, world_after-none, is_accepted-more}
use Rattle.qu_runs.proofs.Worlds.Objects.{EachHas, run_has}
use Rattle.qu_claims.specs.RunSetting.{setting}
use Rattle.qu_claims.specs.Decided.{IsDecided}
use Rattle.qu_known.specs.declared.tracked.Tracked.{Tracked}
use Rattle.qu_known.specs.Tracked.{is_tracked, undecided}
use Rattle.qu_known.specs.Known.{ShownRow, Seen, rows_tracked, AreKnown, Learned}
use Rattle.qu_marks.specs.Tracker.{with_all, SettlesTo, IsSettled, IsDecidedMark, TellsFirst, TellsOf, AreAccepted, Tracks, IsDecidedIn}
use Rattle.qu_marks.proofs.DecidedWorlds.{decided_in_more, decided_is_accepted, in_setting, in_world}
use Rattle.qu_marks.proofs.Settling.{MarksTo, IsMarked, is_tracked-zip}
use Rattle.qu_marks.proofs.Beyond.{all_with_all, accepted_opening, is_tracked-with_all}

-- ---- a settled list

marks_by_settled : (world : WorldState) (event : ℕ) (object : ObjectId) (candidate : Candidate)
    (old new : Option ℕ) → SettlesTo world event object candidate old new → MarksTo world event object candidate old new
marks_by_settled world event object candidate (Some earlier) new settles = settles
marks_by_settled world event object candidate None None settles = tt
marks_by_settled world event object candidate None (Some now) settles = settles

zip_marked : (world : WorldState) (event : ℕ) (olds news : List Tracked)
    → AllZip (IsSettled world event) olds news → AllZip (IsMarked world event) olds news
zip_marked world event [] [] settled = tt
zip_marked world event [] (new ∷ news) settled = absurd settled
zip_marked world event (old ∷ olds) [] settled = absurd settled
zip_marked world event (old ∷ olds) (new ∷ news) settled = (
  record {
    object = settled.0.object;
    candidate = settled.0.candidate;
    mark = marks_by_settled world event old.object old.candidate old.decided new.decided settled.0.mark;
  },
  zip_marked world event olds news settled.1,
)

tells_next : (trace : Trace) → IsRun trace → (event : ℕ) (object : ObjectId) (candidate : Candidate)
    (old new : Option ℕ) → TellsFirst trace event object candidate old → SettlesTo (world_after trace event) event
    object candidate old new → TellsFirst trace (event + 1) object candidate new
tells_next trace is_run event object candidate (Some earlier) None tells settles = absurd (none-some earlier settles)
tells_next trace is_run event object candidate (Some earlier) (Some now) tells settles =
    let same : now ≡ earlier = same_Some now earlier settles in
    rw same (omega (arith, tells.0), tells.1, tells.2)
tells_next trace is_run event object candidate None None tells settles =
    λ at before decided. elim (cases_lt at event) [
      | inl earlier ↦ tells at earlier decided
      | inr later ↦
          let same : at ≡ event = omega arith in
          settles (in_world trace is_run event object candidate (rw same at decided))
    ]
tells_next trace is_run event object candidate None (Some now) tells settles =
    rw settles.0 (omega arith, in_setting trace event object candidate settles.1, tells)

settled_tells : (trace : Trace) → IsRun trace → (event : ℕ) (old new : Tracked) → TellsOf trace event old
    → IsSettled (world_after trace event) event old new → TellsOf trace (event + 1) new
settled_tells trace is_run event old new tells settled =
    rw (settled.object, settled.candidate)
    (tells_next trace is_run event old.object old.candidate old.decided new.decided tells settled.mark)

zip_tells : (trace : Trace) → IsRun trace → (event : ℕ) (olds news : List Tracked)
    → All (TellsOf trace event) olds → AllZip (IsSettled (world_after trace event) event) olds news
    → All (TellsOf trace (event + 1)) news
zip_tells trace is_run event [] [] tells settled = All-nil (TellsOf trace (event + 1))
zip_tells trace is_run event [] (new ∷ news) tells settled = absurd settled
zip_tells trace is_run event (old ∷ olds) [] tells settled = absurd settled
zip_tells trace is_run event (old ∷ olds) (new ∷ news) tells settled =
    All-cons (TellsOf trace (event + 1)) new news
    (settled_tells trace is_run event old new (All-head (TellsOf trace event) old olds tells) settled.0)
    (zip_tells trace is_run event olds news (All-tail (TellsOf trace event) old olds tells) settled.1)

pub tracks_settled : (trace : Trace) → IsRun trace → (event : ℕ) (old new : List Tracked)
    → AreAccepted (world_after trace event) old → All (TellsOf trace event) old
    → AllZip (IsSettled (world_after trace event) event) old new → Tracks trace event new
tracks_settled trace is_run event old new accepted tells settled = record {
  run = is_run;
  accepted = λ object candidate. is_tracked-zip (world_after trace event) event old new
      (zip_marked (world_after trace event) event old new settled) object candidate ∙ accepted object candidate;
  marks = zip_tells trace is_run event old new tells settled;
}

-- ---- before it is settled

not_accepted : (test : Bool) → test ≡ false → test ≡ true → ⊥
not_accepted test is_false is_true = false≢true (sym is_false ∙ is_true)

-- what was not tracked was not decided before
undecided_tells : (trace : Trace) (count : ℕ) (tracked : List Tracked) → Tracks trace count tracked
    → (object : ObjectId) (candidate : Candidate) → is_tracked object candidate tracked ≡ false
    → TellsOf trace (count + 1) (undecided object candidate)
undecided_tells trace count tracked tracks object candidate unknown event before decided =
    let order : event ≤ count = omega arith in
    let held : is_accepted (world_after trace event) object candidate ≡ true =
    decided_is_accepted trace tracks.run event object candidate decided in
    let still : is_accepted (world_after trace count) object candidate ≡ true =
    is_accepted-more (world_after trace event) (world_after trace count)
    (has_more _ _ (world_after-grows trace event count order)) object candidate held in
    not_accepted _ unknown (tracks.accepted object candidate ∙ still)

pub tells_with_all : (trace : Trace) (count : ℕ) (news tracked : List Tracked) → Tracks trace count tracked
    → All (TellsOf trace (count + 1)) (with_all news tracked)
tells_with_all trace count news tracked tracks =
    all_with_all (TellsOf trace (count + 1)) news tracked tracks.marks (undecided_tells trace count tracked tracks)

pub tells_opening : (trace : Trace) (news : List Tracked) → All (TellsOf trace 0) (with_all news [])
tells_opening trace news =
    all_with_all (TellsOf trace 0) news [] (All-nil (TellsOf trace 0))
    (λ object candidate unknown event before decided. absurd (omega arith))

sound_by_tells : (trace : Trace) → IsRun trace → (count : ℕ) (object : ObjectId) (candidate : Candidate)
    (mark : Option ℕ) → TellsFirst trace count object candidate mark
    → OnSome mark (IsDecidedIn (world_after trace count) object candidate)
sound_by_tells trace is_run count object candidate None tells = tt
sound_by_tells trace is_run count object candidate (Some event) tells =
    let before : event < count = tells.0 in
    let order : event ≤ count = omega arith in
    in_world trace is_run count object candidate
    (decided_in_more trace is_run event count (has_more _ _ (world_after-grows trace event count order))
    object candidate tells.1)

pub all_sound_by_tells : (trace : Trace) → IsRun trace → (count : ℕ) (tracked : List Tracked)
    → All (TellsOf trace count) tracked → All (IsDecidedMark (world_after trace count)) tracked
all_sound_by_tells trace is_run count tracked tells =
    All-weaker (TellsOf trace count) (IsDecidedMark (world_after trace count))
    (λ it. sound_by_tells trace is_run count it.object it.candidate it.decided) tracked tells

-- ---- where nothing is new

tells_still : (trace : Trace) → IsRun trace → (count : ℕ) → HasMore (world_after trace (count + 1))
    (world_after trace count) → (object : ObjectId) (candidate : Candidate) (mark : Option ℕ)
    → TellsFirst trace (count + 1) object candidate mark → TellsFirst trace ((count + 1) + 1) object candidate mark
tells_still trace is_run count back object candidate (Some event) tells = (omega (arith, tells.0), tells.1, tells.2)
tells_still trace is_run count back object candidate None tells =
    λ event before decided. elim (cases_lt event (count + 1)) [
      | inl earlier ↦ tells event earlier decided
      | inr later ↦
          let same : event ≡ count + 1 = omega arith in
          let now : IsDecided (setting trace) (count + 1) object candidate = rw same at decided in
          tells count (omega arith) (decided_in_more trace is_run (count + 1) count back object candidate now)
    ]

all_tells_still : (trace : Trace) → IsRun trace → (count : ℕ) (tracked : List Tracked)
    → HasMore (world_after trace (count + 1)) (world_after trace count) → All (TellsOf trace (count + 1)) tracked
    → All (TellsOf trace ((count + 1) + 1)) tracked
all_tells_still trace is_run count tracked back tells =
    All-weaker (TellsOf trace (count + 1)) (TellsOf trace ((count + 1) + 1))
    (λ it. tells_still trace is_run count back it.object it.candidate it.decided) tracked tells

-- ---- the loop

-- what is tracked with what was learned was accepted
pub accepted_learned : (trace : Trace) (count : ℕ) (tracked : List Tracked) (seen : Seen)
    → Tracks trace count tracked
    → Learned (world_after trace count).replicas (world_after trace (count + 1)).replicas seen
    → AreAccepted (world_after trace (count + 1)) (with_all seen.1 tracked)
accepted_learned trace count tracked seen tracks learned object candidate =
    is_tracked-with_all object candidate seen.1 tracked ∙
    ap (λ (test : Bool). test || is_tracked object candidate seen.1) (tracks.accepted object candidate) ∙
    sym (learned.either object candidate)

-- where nothing was new, all stays as it was
pub tracks_still : (trace : Trace) (count : ℕ) (tracked : List Tracked) (seen : Seen) → Tracks trace count tracked
    → Learned (world_after trace count).replicas (world_after trace (count + 1)).replicas seen → seen.1 ≡ []
    → Tracks trace (count + 1) tracked
unfolding with_all
tracks_still trace count tracked seen tracks learned none =
    let back : HasMore (world_after trace (count + 1)) (world_after trace count) = record {
      setup = sym (world_after-grows trace count (count + 1) (omega arith)).setup;
      replicas = learned.still none;
    } in
    record {
      run = tracks.run;
      accepted = λ object candidate. ap
          (λ (news : List Tracked). is_tracked object candidate (with_all news tracked)) (sym none)
          ∙ accepted_learned trace count tracked seen tracks learned object candidate;
      marks = all_tells_still trace tracks.run count tracked back tracks.marks;
    }

-- ---- as the code goes

pub bounds_after : (trace : Trace) (count : ℕ) (world : WorldState) → world ≡ world_after trace count
    → world.setup.bounds ≡ trace.setup.bounds
bounds_after trace count world is =
    ap (λ (it : WorldState). it.setup.bounds) is ∙
    ap (λ (setup : Setup). setup.bounds) ((world_after-grows trace 0 count (omega arith)).setup
    ∙ ap (λ (it : WorldState). it.setup) (world_after-none trace))

-- before the first event
pub accepted_begun : (trace : Trace) (objects : ℕ) (rows : List ShownRow) → objects ≡ length trace.setup.kinds
    → AreKnown (world_after trace 0).replicas rows
    → AreAccepted (world_after trace 0) (with_all (rows_tracked objects rows) [])
accepted_begun trace objects rows objects_are known =
    accepted_opening objects (world_after trace 0) rows
    (subst (λ (it : ℕ). EachHas it (world_after trace 0).replicas) (sym objects_are) (run_has trace 0)) known
