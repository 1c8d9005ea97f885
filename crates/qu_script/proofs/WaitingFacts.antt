-- Facts on letters that wait.
use Rattle.std.proofs.Common.{◌≡◌, ℕ, zero, suc, ◌+◌, ◌<◌, ◌≤◌, Bool, true, false, cond, List, [], ◌∷◌, ◌++◌, length, take, drop, get_or, Option, None, Some, refl, sym, ap, subst, ◌∙◌, arith, inl, inr, ◌||◌, ◌&&◌, ◌==◌, nat_le}
use Rattle.std.specs.Prelude.{slice_get, is_some, Result, Ok, Err, OnOk, OnErr}
use Rattle.std.specs.Borrow.{Bor}
use Rattle.std.specs.List.{list_any}
use Rattle.std.specs.Option.{option_copied}
use Rattle.std.proofs.lemmas.Bool.{cases_lt, false≢true, or_left, or_right, eqb-true, le-leb}
use Rattle.std.proofs.lemmas.List.{take-append-drop, take-append-le, length-append}
use Rattle.std.proofs.lemmas.Bool.Decides.{nat_tests}
use Rattle.std.proofs.lemmas.List.Folds.{list_any-append, list_any_more}
use Rattle.std.proofs.lemmas.Grind.{flat_map-append}
use Rattle.std.proofs.lemmas.Option.{slice_get_within}
use Rattle.qu_trace.specs.declared.event.Event.{Event}
use Rattle.qu_trace.specs.declared.event.Event.TheVariants as event
use Rattle.qu_frames.specs.declared.frame.Letter.{Letter}
use Rattle.qu_trace.specs.declared.trace.Entry.{Entry}
use Rattle.qu_trace.specs.declared.trace.Setup.{Setup}
use Rattle.qu_trace.specs.Letters.{letters_of}
use Rattle.qu_trace.proofs.LetterLaws.{numbered-append}
use Rattle.qu_world.specs.declared.fail.WorldFail.{WorldFail}
use Rattle.qu_world.specs.State.{WorldState, numbered}
use Rattle.qu_world.specs.Step.{world_step, is_to_faulty}
use Rattle.qu_world.proofs.RunLaws.{Records, step_records}
use Rattle.qu_script.specs.Waiting.{delivers, delivers_from, is_delivered, is_passed_over, is_left, waiting_from, AreLeft, DeliverBelow, MayBeginAt, IsSearched, begin_at, begin_behind}
use Rattle.qu_script.specs.declared.waiting.Begin.{Begin}
use Rattle.qu_script.specs.Outage.{OutageState, is_held_back}

-- ---- numbers of letters

numbered_within : {X : Type 0} (items : List X) (number : ℕ) (item : X) → numbered items number ≡ Some item
    → (1 ≤ number) × (number ≤ length items)
numbered_within items zero item is = absurd cc
numbered_within items (suc index) item is =
    let below : index < length items = slice_get_within items index item is in
    (omega arith, omega arith)

get_none : {X : Type 0} (items : List X) (index : ℕ) → slice_get items index ≡ None → length items ≤ index
get_none [] index is = omega arith
get_none (item ∷ items) zero is = absurd cc
get_none (item ∷ items) (suc index) is = omega (arith, get_none items index is)

numbered_past : {X : Type 0} (items : List X) (number : ℕ) → 1 ≤ number → numbered items number ≡ None
    → length items < number
numbered_past items zero one is = absurd (omega arith)
numbered_past items (suc index) one is = omega (arith, get_none items index is)

-- a letter that was found, and one that was not
pub found_within : {X : Type 0} (items : List X) (number : ℕ) (found : Option (Bor X))
    → option_copied found ≡ numbered items number → is_some found ≡ true → number ≤ length items
found_within items number None is some = absurd cc
found_within items number (Some item) is some = (numbered_within items number item.now (sym is)).1

pub found_past : {X : Type 0} (items : List X) (number : ℕ) (found : Option (Bor X))
    → option_copied found ≡ numbered items number → is_some found ≡ false → 1 ≤ number → length items < number
found_past items number None is none one = numbered_past items number one (sym is)
found_past items number (Some item) is none one = absurd cc

-- ---- the lowest letter that waits

waits_none : (setup : Setup) (entries : List Entry) (outage : OutageState) (letter count next : ℕ)
    → AreLeft setup entries outage next → 1 ≤ letter → letter + count ≤ next
    → waiting_from setup entries outage letter count ≡ None
unfolding waiting_from
waits_none setup entries outage letter zero next left one past = refl
waits_none setup entries outage letter (suc count) next left one past =
    ap (λ (test : Bool). cond test (waiting_from setup entries outage (letter + 1) count) (Some letter))
    (left letter one (omega arith))
    ∙ waits_none setup entries outage (letter + 1) count next left (omega arith) (omega arith)

waits_at : (setup : Setup) (entries : List Entry) (outage : OutageState) (letter count next : ℕ)
    → AreLeft setup entries outage next → 1 ≤ letter → letter ≤ next → next < letter + count
    → is_left setup entries outage next ≡ false → waiting_from setup entries outage letter count ≡ Some next
unfolding waiting_from
waits_at setup entries outage letter zero next left one low high waits = absurd (omega arith)
waits_at setup entries outage letter (suc count) next left one low high waits =
    elim (cases_lt letter next) [
      | inl below ↦
          ap (λ (test : Bool). cond test (waiting_from setup entries outage (letter + 1) count) (Some letter))
          (left letter one below)
          ∙ waits_at setup entries outage (letter + 1) count next left (omega arith) (omega arith) (omega arith) waits
      | inr above ↦
          let same : letter ≡ next = omega arith in
          ap (λ (test : Bool). cond test (waiting_from setup entries outage (letter + 1) count) (Some letter))
          (ap (is_left setup entries outage) same ∙ waits)
          ∙ ap (λ (it : ℕ). Some it) same
    ]

-- a letter that waits, where flow takes none below it
pub waiting_found : (setup : Setup) (entries : List Entry) (outage : OutageState) (event next letter : ℕ)
    → IsSearched setup entries outage event next letter → letter ≤ length (letters_of entries)
    → is_left setup entries outage letter ≡ false
    → Some letter ≡ waiting_from setup entries outage 1 (length (letters_of entries))
waiting_found setup entries outage event next letter so_far within waits =
    sym (waits_at setup entries outage 1 (length (letters_of entries)) letter so_far.none (omega arith)
    so_far.is_letter (omega arith) waits)

-- flow takes no letter
pub waiting_none : (setup : Setup) (entries : List Entry) (outage : OutageState) (event next letter : ℕ)
    → IsSearched setup entries outage event next letter → length (letters_of entries) < letter
    → None ≡ waiting_from setup entries outage 1 (length (letters_of entries))
waiting_none setup entries outage event next letter so_far past =
    sym (waits_none setup entries outage 1 (length (letters_of entries)) letter so_far.none (omega arith)
    (omega arith))

-- ---- the steps of a search

pub search_begins : (setup : Setup) (entries : List Entry) (outage : OutageState) (begin : Begin)
    → MayBeginAt setup entries outage.lost begin
    → IsSearched setup entries outage begin.event begin.letter begin.letter
search_begins setup entries outage begin may = record {
  may = record { is_letter = may.is_letter; passed = may.passed; within = may.within; below = may.below };
  is_letter = may.is_letter;
  behind = omega arith;
  none = λ letter one below. or_left _ _ (may.passed letter one below);
}

at_or_below : (P : ℕ → Type 0) (letter after it : ℕ) → after ≡ letter + 1 → P letter → (it < letter → P it)
    → it < after → P it
at_or_below P letter after it is here below within =
    elim (cases_lt it letter) [
      | inl low ↦ below low
      | inr high ↦
          let same : letter ≡ it = omega arith in
          subst P same here
    ]

-- one letter more is passed over for good, or the beginning stays
begins_behind : (setup : Setup) (entries : List Entry) (lost event next letter after : ℕ) (is_passed is_same : Bool)
    → is_passed ≡ is_passed_over setup entries lost letter → is_same ≡ (next == letter) → after ≡ letter + 1
    → MayBeginAt setup entries lost (begin_at event next)
    → MayBeginAt setup entries lost (begin_at event (cond (is_passed && is_same) after next))
begins_behind setup entries lost event next letter after false is_same passed same is may = may
begins_behind setup entries lost event next letter after true false passed same is may = may
begins_behind setup entries lost event next letter after true true passed same is may =
    let here : next ≡ letter = eqb-true _ _ (sym same) in
    record {
      is_letter = omega arith;
      passed = λ it one within.
          at_or_below (λ (it : ℕ). is_passed_over setup entries lost it ≡ true) letter after it is (sym passed)
          (λ (low : it < letter). may.passed it one (omega arith)) within;
      within = may.within;
      below = λ it from. may.below it (omega arith);
    }

moved_behind : (next letter after : ℕ) (is_passed is_same : Bool) → next ≤ letter → after ≡ letter + 1
    → cond (is_passed && is_same) after next ≤ after
moved_behind next letter after false is_same low is = omega arith
moved_behind next letter after true false low is = omega arith
moved_behind next letter after true true low is = omega arith

pub search_goes_on : (setup : Setup) (entries : List Entry) (outage : OutageState)
    (event next letter after moved : ℕ) (is_passed : Bool) → IsSearched setup entries outage event next letter
    → is_passed ≡ is_passed_over setup entries outage.lost letter
    → (is_passed || is_held_back outage.held (numbered (letters_of entries) letter)) ≡ true
    → after ≡ letter + 1 → moved ≡ begin_behind is_passed next letter after
    → IsSearched setup entries outage event moved after
search_goes_on setup entries outage event next letter after moved is_passed so_far passed left is moves = record {
  may = subst (λ (it : ℕ). MayBeginAt setup entries outage.lost (begin_at event it)) (sym moves)
      (begins_behind setup entries outage.lost event next letter after is_passed (next == letter) passed refl is
      so_far.may);
  is_letter = omega arith;
  behind = subst (λ (it : ℕ). it ≤ after) (sym moves)
      (moved_behind next letter after is_passed (next == letter) so_far.behind is);
  none = λ it one within.
      at_or_below (λ (it : ℕ). is_left setup entries outage it ≡ true) letter after it is
      (ap (λ (test : Bool). test || is_held_back outage.held (numbered (letters_of entries) letter)) (sym passed)
      ∙ left)
      (λ (low : it < letter). so_far.none it one low) within;
}

-- ---- the events that a search need not look at

-- where the first events do not deliver a letter, the others tell whether it was delivered
pub delivered_behind : (entries : List Entry) (event letter : ℕ) → is_delivered (take event entries) letter ≡ false
    → is_delivered (drop event entries) letter ≡ is_delivered entries letter
unfolding is_delivered
delivered_behind entries event letter none =
    ap (λ (test : Bool). test || list_any (λ (entry : Entry). delivers letter entry.event) (drop event entries))
    (sym none)
    ∙ sym (list_any-append (λ (entry : Entry). delivers letter entry.event) (take event entries) (drop event entries))
    ∙ ap (list_any (λ (entry : Entry). delivers letter entry.event)) (take-append-drop event entries)

below_it : (next letter : ℕ) (event : Event) → delivers_from next event ≡ false → next ≤ letter
    → delivers letter event ≡ false
below_it next letter (event.Invoke client op) not from = refl
below_it next letter (event.Deliver number) not from = grind (arith, nat_tests)
below_it next letter (event.Tick client) not from = refl
below_it next letter (event.Inject party text) not from = refl

or_none : (one other : Bool) → one ≡ false → other ≡ false → (one || other) ≡ false
or_none one other first second = cc

-- one event more delivers a letter below the next one
pub one_below : (entries : List Entry) (count next : ℕ) (entry : Entry) → count < length entries
    → delivers_from next (get_or entries count entry).event ≡ false
    → DeliverBelow (take count entries) next → DeliverBelow (take (count + 1) entries) next
unfolding is_delivered
one_below entries count next entry within not below = λ letter from.
    list_any_more (λ (it : Entry). delivers letter it.event) entries count entry within
    ∙ or_none _ _ (below letter from) (below_it next letter (get_or entries count entry).event not from)

-- ---- where a search may begin

delivered-append : (entries : List Entry) (entry : Entry) (letter : ℕ) → is_delivered entries letter ≡ true
    → is_delivered (entries ++ entry ∷ []) letter ≡ true
unfolding is_delivered
delivered-append entries entry letter is =
    list_any-append (λ (it : Entry). delivers letter it.event) entries (entry ∷ [])
    ∙ ap (λ (test : Bool). test || list_any (λ (it : Entry). delivers letter it.event) (entry ∷ [])) is

-- a letter that was sent keeps its number
faulty-found : (setup : Setup) (letters more : List Letter) (number : ℕ) (found : Option Letter)
    → numbered letters number ≡ found → is_to_faulty setup found ≡ true
    → is_to_faulty setup (numbered (letters ++ more) number) ≡ true
faulty-found setup letters more number None is faulty = absurd (false≢true faulty)
faulty-found setup letters more number (Some letter) is faulty =
    ap (is_to_faulty setup) (numbered-append letters more number letter is) ∙ faulty

letters-append : (entries : List Entry) (entry : Entry)
    → letters_of (entries ++ entry ∷ []) ≡ letters_of entries ++ letters_of (entry ∷ [])
unfolding letters_of
letters-append entries entry = flat_map-append (λ (it : Entry). it.letters) entries (entry ∷ [])

faulty-append : (setup : Setup) (entries : List Entry) (entry : Entry) (letter : ℕ)
    → is_to_faulty setup (numbered (letters_of entries) letter) ≡ true
    → is_to_faulty setup (numbered (letters_of (entries ++ entry ∷ [])) letter) ≡ true
faulty-append setup entries entry letter is =
    ap (λ (letters : List Letter). is_to_faulty setup (numbered letters letter)) (letters-append entries entry)
    ∙ faulty-found setup (letters_of entries) (letters_of (entry ∷ [])) letter (numbered (letters_of entries) letter)
    refl is

by_case : (setup : Setup) (entries : List Entry) (entry : Entry) (lost letter : ℕ) (is_lost faulty : Bool)
    → nat_le letter lost ≡ is_lost → is_to_faulty setup (numbered (letters_of entries) letter) ≡ faulty
    → (is_lost || (faulty || is_delivered entries letter)) ≡ true
    → is_passed_over setup (entries ++ entry ∷ []) lost letter ≡ true
by_case setup entries entry lost letter true faulty was is passed = or_left _ _ was
by_case setup entries entry lost letter false true was is passed =
    or_right _ _ (or_left _ _ (faulty-append setup entries entry letter is))
by_case setup entries entry lost letter false false was is passed =
    or_right _ _ (or_right _ _ (delivered-append entries entry letter passed))

passed-append : (setup : Setup) (entries : List Entry) (entry : Entry) (lost letter : ℕ)
    → is_passed_over setup entries lost letter ≡ true → is_passed_over setup (entries ++ entry ∷ []) lost letter ≡ true
passed-append setup entries entry lost letter is =
    by_case setup entries entry lost letter (nat_le letter lost)
    (is_to_faulty setup (numbered (letters_of entries) letter)) refl refl is

below-append : (entries : List Entry) (entry : Entry) (event next : ℕ) → event ≤ length entries
    → DeliverBelow (take event entries) next → DeliverBelow (take event (entries ++ entry ∷ [])) next
below-append entries entry event next within below =
    subst (λ (it : List Entry). DeliverBelow it next) (sym (take-append-le event entries (entry ∷ []) within)) below

by_records : (old new : WorldState) (event : Event) (lost : ℕ) (begin : Begin) → Records old new event
    → MayBeginAt old.setup old.entries lost begin → MayBeginAt new.setup new.entries lost begin
by_records old new event lost begin made may = record {
  is_letter = may.is_letter;
  passed = λ letter one below.
      ap (λ (setup : Setup). is_passed_over setup new.entries lost letter) made.setup
      ∙ ap (λ (entries : List Entry). is_passed_over old.setup entries lost letter) made.entries
      ∙ passed-append old.setup old.entries made.entry lost letter (may.passed letter one below);
  within = subst (λ (it : List Entry). begin.event ≤ length it) (sym made.entries)
      (omega (arith, length-append old.entries (made.entry ∷ []), may.within));
  below = subst (λ (it : List Entry). DeliverBelow (take begin.event it) begin.letter) (sym made.entries)
      (below-append old.entries made.entry begin.event begin.letter may.within may.below);
}

-- what flow passes over stays so
begins_after : (old new : WorldState) (event : Event) (lost : ℕ) (begin : Begin) → new ≡ world_step old event
    → MayBeginAt old.setup old.entries lost begin → MayBeginAt new.setup new.entries lost begin
begins_after old new event lost begin is may =
    subst (λ (it : WorldState). MayBeginAt it.setup it.entries lost begin) (sym is)
    (by_records old (world_step old event) event lost begin (step_records old event) may)

pub begins_applied : (old new : WorldState) (event : Event) (lost : ℕ) (begin : Begin)
    (result : Result (Unit {0}) WorldFail) → OnOk result (new ≡ world_step old event) → OnErr result (new ≡ old)
    → MayBeginAt old.setup old.entries lost begin → MayBeginAt new.setup new.entries lost begin
begins_applied old new event lost begin (Ok made) ok err may = begins_after old new event lost begin ok may
begins_applied old new event lost begin (Err why) ok err may =
    subst (λ (it : WorldState). MayBeginAt it.setup it.entries lost begin) (sym err) may

-- where all letters so far were lost, a search may begin behind them
pub begins_lost : (setup : Setup) (entries : List Entry) (lost next : ℕ) → next ≡ lost + 1
    → MayBeginAt setup entries lost (begin_at 0 next)
unfolding is_delivered
begins_lost setup entries lost next is = record {
  is_letter = omega arith;
  passed = λ letter one below. or_left _ _ (le-leb letter lost (omega arith));
  within = omega arith;
  below = λ letter from. refl;
}
