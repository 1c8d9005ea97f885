-- What a client asks for fits its format, where what it keeps fits and its numbers are in their ranges.
use Rattle.std.proofs.Common.{◌≡◌, ℕ, zero, suc, ◌+◌, ◌-◌, ◌<◌, ◌≤◌, ◌^◌, Bool, true, cond, List, [], ◌∷◌, length, Option, None, Some, refl, sym, ap, subst, ◌∙◌, arith, inl, inr}
use Rattle.std.specs.Prelude.{◌==◌, ◌&&◌, ◌%◌, not, nat_lt, nat_le, map, IsTrue}
use Rattle.std.specs.List.{AllByRecursion}
use Rattle.std.proofs.lemmas.Bool.{false≢true, cases_Bool, cond_both, and_parts, or_cases, or_left, or_right, eq-eqb, eqb-true, leb-true, le-leb, ltb-true, lt-ltb}
use Rattle.std.proofs.lemmas.List.{length-map}
use Rattle.std.proofs.lemmas.Option.{none-some, same_Some}
use Rattle.qu_base.specs.declared.limits.TheConstants.{LAST_CLIENT, OBJECT_IDS, REPLICA_IDS}
use Rattle.qu_base.specs.declared.party.ClientId.{ClientId}
use Rattle.qu_base.specs.declared.party.ObjectId.{ObjectId}
use Rattle.qu_base.specs.Format.{Format, FitsFrom}
use Rattle.qu_base.specs.Bounds.{replicas}
use Rattle.qu_history.specs.declared.limits.TheConstants.{OBJECTS_LIMIT}
use Rattle.qu_history.specs.declared.sealed.Sealed.{Sealed}
use Rattle.qu_history.specs.declared.sets.SetOf.{SetOf}
use Rattle.qu_history.specs.History.{ObjectHistory}
use Rattle.qu_history.specs.Trimming.{trimmed_set, trimmed}
use Rattle.qu_history.specs.Formats.{history_form, sealed_form, entry_form, sealed_entry_form, next_entry, entries_form, set_form, sets_form}
use Rattle.qu_objects.specs.declared.act.Method.{Method}
use Rattle.qu_objects.specs.declared.query.Ask.{Ask}
use Rattle.qu_objects.specs.declared.op.Op.{Op}
use Rattle.qu_objects.specs.declared.op.Op.TheVariants as op
use Rattle.qu_objects.specs.declared.limits.TheConstants.{MOST_PARTS}
use Rattle.qu_objects.specs.Parts.{are_parts}
use Rattle.qu_objects.specs.Formats.{is_after, is_one_of, method_form, ask_form, part_form, parts_form, act_form, query_form}
use Rattle.qu_objects.proofs.PartLaws.{few_parts}
use Rattle.qu_objects.specs.Digesting.{PartsFit, AsksFit}
use Rattle.qu_frames.specs.declared.limits.TheConstants.{LAST_ROUND}
use Rattle.qu_frames.specs.Body.{body_of}
use Rattle.qu_frames.specs.declared.frame.Body.{Body}
use Rattle.qu_frames.specs.declared.frame.Body.TheVariants as body
use Rattle.qu_frames.specs.Formats.{body_form, request_frame, kind_form, frame_form}
use Rattle.qu_frames.specs.Formats as forms
use Rattle.qu_question.specs.declared.kept.Kept.{Kept}
use Rattle.qu_client.specs.declared.work.Work.{Work}
use Rattle.qu_question.specs.Kept.{is_left_out, kept_of}
use Rattle.qu_objects.specs.Parts.{are_objects_from}
use Rattle.qu_question.specs.Named.{operation_objects, are_objects}
use Rattle.qu_question.specs.Question.{lowest_of, entries_from, set_of, whole_sets, sets_of, target_of}
use Rattle.qu_client.specs.Sound.{IsFor}
use Rattle.qu_client.proofs.Cases.{IsRound}
use Rattle.qu_client.specs.Rounds.{request_of}
use Rattle.qu_runs.specs.Plain.{HasOpParts}
use Rattle.qu_objects.proofs.Text.{method_fits, ask_fits}
use Rattle.qu_fitting.proofs.FitRequests.{blank_sized}
use Rattle.qu_question.proofs.Gathered.{are_objects_of_parts}
use Rattle.qu_question.proofs.Naming.{AreMore}
use Rattle.qu_question.proofs.Trimmed.{trimmed-fits}
use Rattle.qu_question.proofs.Targets.{target_such}

-- ---- the entries of an object, replica by replica

abbrev pub entries_with : Option Sealed → List Sealed → List Sealed
entries_with None later = later
entries_with (Some sealed) later = sealed ∷ later

pub entries_next : (object : ObjectId) (number count : ℕ) (kept : List Kept) → entries_from object number
    (suc count) kept ≡ entries_with (kept_of object number kept) (entries_from object (number + 1) count kept)
unfolding entries_from
entries_next object number count kept =
    elim (kept_of object number kept)
    as (λ (found : Option Sealed). elim found [
      | None ↦ entries_from object (number + 1) count kept
      | Some sealed ↦ sealed ∷ entries_from object
          (number + 1) count kept
    ] ≡ entries_with found (entries_from object (number + 1) count kept)) [
      | None ↦ refl
      | Some sealed ↦ refl
    ]

pub entries_none : (object : ObjectId) (number : ℕ) (kept : List Kept) → entries_from object number 0 kept ≡ []
unfolding entries_from
entries_none object number kept = refl

-- each sealed history that is kept fits
abbrev pub KeptFits : List Kept → Type 0
KeptFits kept = AllByRecursion (λ (it : Kept). sealed_form.Fits it.sealed) kept

-- ---- the sets

-- what is kept of an object and a replica is of them, and is such as all that is kept
pub record IsFound (P : Sealed → Type 0) (object : ObjectId) (replica : ℕ) (sealed : Sealed) : Type 0 where
  pub is : P sealed
  pub of_object : (((sealed.history).object).0 == object.0) ≡ true
  pub of_replica : ((sealed.history).replica).0 ≡ replica

pub found_among : (P : Sealed → Type 0) (object : ObjectId) (replica : ℕ) (kept : List Kept) (sealed : Sealed)
    → AllByRecursion (λ (it : Kept). P it.sealed) kept → kept_of object replica kept ≡ Some sealed
    → IsFound P object replica sealed
unfolding kept_of
found_among P object replica [] sealed all found = absurd (none-some sealed found)
found_among P object replica (first ∷ later) sealed all found =
    let own : ObjectHistory = (first.sealed).history in
    let test : Bool = (own.object).0 == object.0 && ((own.replica).0 == replica && not (is_left_out first.mark)) in
    elim (cases_Bool test) [
      | inl here ↦
          let same : first.sealed ≡ sealed =
          same_Some _ _
          (sym (ap (λ (b : Bool). cond b (Some first.sealed) (kept_of object replica later)) here) ∙ found) in
          let tests : (((own.object).0 == object.0) ≡ true)
          × (((own.replica).0 == replica && not (is_left_out first.mark)) ≡ true) = and_parts _ _ here in
          let second : (((own.replica).0 == replica) ≡ true) × (not (is_left_out first.mark) ≡ true) =
          and_parts _ _ tests.1 in
          subst (IsFound P object replica) same
          (record { is = all.0; of_object = tests.0; of_replica = eqb-true _ _ second.0 })
      | inr other ↦ found_among P object replica later sealed all.1
          (sym (ap (λ (b : Bool). cond b (Some first.sealed) (kept_of object replica later)) other) ∙ found)
    ]

entry_fits : (object : ObjectId) (replica key : ℕ) (sealed : Sealed) → key ≤ replica
    → IsFound sealed_form.Fits object replica sealed → (sealed_entry_form object key).Fits sealed
unfolding sealed_form sealed_entry_form entry_form history_form
entry_fits object replica key sealed order found =
    let fits = found.is in
    let above : key ≤ ((sealed.history).replica).0 =
    (let own : ((sealed.history).replica).0 ≡ replica = found.of_replica in omega arith) in
    (((fits.0.0, found.of_object), ((fits.0.1.0, le-leb key ((sealed.history).replica).0 above), fits.0.1.1)), fits.1)

-- entries under a key fit, and are so many at most
abbrev EntriesFit : ObjectId → ℕ → ℕ → List Sealed → Type 0
EntriesFit object key most entries = FitsFrom (sealed_entry_form object) next_entry key entries
    × (length entries ≤ most)

with_fits : (object : ObjectId) (replica key count : ℕ) (found : Option Sealed) (later : List Sealed)
    → key ≤ replica → ((sealed : Sealed) → found ≡ Some sealed → IsFound sealed_form.Fits object replica sealed)
    → ((from : ℕ) → from ≤ replica + 1 → EntriesFit object from count later) → EntriesFit object key (suc count)
    (entries_with found later)
with_fits object replica key count None later order is rest =
    let fits : EntriesFit object key count later = rest key (omega arith) in
    (fits.0, omega (arith, fits.1))
with_fits object replica key count (Some sealed) later order is rest =
    let found : IsFound sealed_form.Fits object replica sealed = is sealed refl in
    let own : ((sealed.history).replica).0 ≡ replica = found.of_replica in
    let fits : EntriesFit object (next_entry sealed) count later = rest (next_entry sealed) (omega arith) in
    ((entry_fits object replica key sealed order found, fits.0), omega (arith, fits.1))

entries_fit : (object : ObjectId) (replica count : ℕ) (kept : List Kept) → KeptFits kept → (key : ℕ)
    → key ≤ replica → EntriesFit object key count (entries_from object replica count kept)
entries_fit object replica zero kept fit key order =
    subst (EntriesFit object key 0) (sym (entries_none object replica kept)) (tt, omega arith)
entries_fit object replica (suc count) kept fit key order =
    subst (EntriesFit object key (suc count)) (sym (entries_next object replica count kept))
    (with_fits object replica key count (kept_of object replica kept)
    (entries_from object (replica + 1) count kept) order
    (λ sealed found. found_among sealed_form.Fits object replica kept sealed fit found)
    (λ from below. entries_fit object (replica + 1) count kept fit from below))

set_fits : (bounds least : ℕ) (kept : List Kept) (object : ObjectId) → KeptFits kept → replicas bounds ≤ REPLICA_IDS
    → least ≤ object.0 → object.0 < OBJECT_IDS → (set_form least).Fits (set_of bounds kept object)
unfolding set_form entries_form
set_fits bounds least kept object fit few order below =
    let entries : EntriesFit object 0 (replicas bounds) (entries_from object 0 (replicas bounds) kept) =
    entries_fit object 0 (replicas bounds) kept fit 0 (omega arith) in (
      ((omega arith, omega arith), le-leb least object.0 order),
      ((omega arith, omega (arith, entries.1)), (refl, entries.0)),
    )

-- ---- the objects that are named

-- they rise, and the operation's own are among them
pub record AreNamedFor (what : Op) (named : List ObjectId) : Type 0 where
  pub are : IsTrue (are_objects named)
  pub own : (object : ObjectId) → is_one_of (operation_objects what) object ≡ true → is_one_of named object ≡ true

pub more_named : (what : Op) (old new : List ObjectId) → AreMore old new → AreNamedFor what old → AreNamedFor what new
more_named what old new more named = record {
  are = more.are named.are;
  own = λ object is. more.hold object (named.own object is);
}

-- its own are, where an operation begins
pub own_named : (what : Op) → HasOpParts what → AreNamedFor what (operation_objects what)
own_named (op.Act acted) parts = record { are = are_objects_of_parts acted parts.0; own = λ object is. is }
own_named (op.Query asked) parts = record { are = are_objects_of_parts asked parts.0; own = λ object is. is }

itself : (object : ObjectId) (later : List ObjectId) → is_one_of (object ∷ later) object ≡ true
itself object later = or_left (object.0 == object.0) (is_one_of later object) (eq-eqb object.0 object.0 refl)

-- what is known of the first of some that rise
record IsFirstNamed (least : ℕ) (object : ObjectId) (later : List ObjectId) : Type 0 where
  order : least ≤ object.0
  below : object.0 < OBJECT_IDS
  rest : are_objects_from (object.0 + 1) later ≡ true

first_named : (least : ℕ) (object : ObjectId) (later : List ObjectId)
    → are_objects_from least (object ∷ later) ≡ true → IsFirstNamed least object later
unfolding are_objects_from
first_named least object later rising =
    let parts = and_parts (nat_le least object.0 && nat_lt object.0 OBJECT_IDS) (are_objects_from (object.0 + 1) later)
    rising in
    let tests = and_parts (nat_le least object.0) (nat_lt object.0 OBJECT_IDS) parts.0 in
    record {
      order = leb-true least object.0 tests.0;
      below = ltb-true object.0 OBJECT_IDS tests.1;
      rest = parts.1;
    }

-- what is known of all of them
record AreFewNamed (named : List ObjectId) : Type 0 where
  some : 0 < length named
  few : length named ≤ OBJECTS_LIMIT
  rising : are_objects_from 0 named ≡ true

few_named : (named : List ObjectId) → IsTrue (are_objects named) → AreFewNamed named
unfolding are_objects
few_named named are =
    let parts = and_parts (nat_lt 0 (length named) && nat_le (length named) OBJECTS_LIMIT) (are_objects_from 0 named)
    are in
    let number = and_parts (nat_lt 0 (length named)) (nat_le (length named) OBJECTS_LIMIT) parts.0 in
    record {
      some = ltb-true 0 (length named) number.0;
      few = leb-true (length named) OBJECTS_LIMIT number.1;
      rising = parts.1;
    }

-- each has a number
named_below : (least : ℕ) (named : List ObjectId) (object : ObjectId) → are_objects_from least named ≡ true
    → is_one_of named object ≡ true → object.0 < OBJECT_IDS
named_below least [] object rising is = absurd (false≢true is)
named_below least (first ∷ later) object rising is =
    let here : IsFirstNamed least first later = first_named least first later rising in
    elim (or_cases (first.0 == object.0) (is_one_of later object) is) [
      | inl same ↦ subst (λ (it : ℕ). it < OBJECT_IDS) (eqb-true first.0 object.0 same) here.below
      | inr after ↦ named_below (first.0 + 1) later object here.rest after
    ]

-- each of some of them is one of them
each_named : (named some : List ObjectId)
    → ((object : ObjectId) → is_one_of some object ≡ true → is_one_of named object ≡ true)
    → AllByRecursion (λ (it : ObjectId). is_one_of named it ≡ true) some
each_named named [] within = tt
each_named named (object ∷ later) within = (
  within object (itself object later),
  each_named named later (λ it is. within it (or_right (object.0 == it.0) (is_one_of later it) is)),
)

lowest_named : (named : List ObjectId) → 0 < length named → is_one_of named (lowest_of named) ≡ true
lowest_named [] some = absurd (omega arith)
lowest_named (object ∷ later) some = itself object later

-- ---- the sets of a round

-- the sets of these objects
record FitSets (named : List ObjectId) (sets : List SetOf) : Type 0 where
  of_sets : sets_form.Fits sets
  objects : forms.objects_in_sets sets ≡ named

sets_fit_from : (bounds least : ℕ) (kept : List Kept) (named : List ObjectId) → are_objects_from least named ≡ true
    → KeptFits kept → replicas bounds ≤ REPLICA_IDS
    → FitsFrom set_form (λ (set : SetOf). (set.object).0 + 1) least (whole_sets bounds kept named)
sets_fit_from bounds least kept [] rising fit few = tt
sets_fit_from bounds least kept (object ∷ later) rising fit few =
    let first : IsFirstNamed least object later = first_named least object later rising in (
      set_fits bounds least kept object fit few first.order first.below,
      sets_fit_from bounds (object.0 + 1) kept later first.rest fit few,
    )

whole_objects : (bounds : ℕ) (kept : List Kept) (named : List ObjectId)
    → forms.objects_in_sets (whole_sets bounds kept named) ≡ named
whole_objects bounds kept [] = refl
whole_objects bounds kept (object ∷ later) =
    ap (λ (rest : List ObjectId). object ∷ rest) (whole_objects bounds kept later)

trimmed_objects : (bounds : ℕ) (sets : List SetOf)
    → forms.objects_in_sets (map (trimmed_set bounds) sets) ≡ forms.objects_in_sets sets
trimmed_objects bounds [] = refl
trimmed_objects bounds (set ∷ later) =
    ap (λ (rest : List ObjectId). set.object ∷ rest) (trimmed_objects bounds later)

whole_fit : (bounds : ℕ) (kept : List Kept) (named : List ObjectId) → AreFewNamed named → KeptFits kept
    → replicas bounds ≤ REPLICA_IDS → sets_form.Fits (whole_sets bounds kept named)
unfolding sets_form
whole_fit bounds kept named are fit few =
    let size : length (whole_sets bounds kept named) ≡ length named =
    length-map named (λ (object : ObjectId). set_of bounds kept object) in (
      (omega (arith, size, are.some), omega (arith, size, are.few)),
      (refl, sets_fit_from bounds 0 kept named are.rising fit few),
    )

sets_fit : (bounds round : ℕ) (kept : List Kept) (named : List ObjectId) → AreFewNamed named → KeptFits kept
    → replicas bounds ≤ REPLICA_IDS → FitSets named (sets_of bounds round kept named)
unfolding trimmed
sets_fit bounds round kept named are fit few =
    let whole : sets_form.Fits (whole_sets bounds kept named) = whole_fit bounds kept named are fit few in
    cond_both (round % 2 == 1) _ _ (FitSets named)
    (λ _. record {
      of_sets = trimmed-fits bounds (whole_sets bounds kept named) whole;
      objects = trimmed_objects bounds (whole_sets bounds kept named) ∙ whole_objects bounds kept named;
    })
    (λ _. record { of_sets = whole; objects = whole_objects bounds kept named })

-- ---- what is asked for

-- parts behind an object fit, where their objects rise from this number on and are known
parts_fit_from : {X : Type 0} (form : Format X) (known : ObjectId → Bool) (least : ℕ) (before : Option ObjectId)
    → ((object : ObjectId) → least ≤ object.0 → is_after before object ≡ true) → (parts : List (ObjectId × X))
    → are_objects_from least (map (λ part. part.0) parts) ≡ true
    → ((object : ObjectId) → is_one_of (map (λ part. part.0) parts) object ≡ true → known object ≡ true)
    → AllByRecursion (λ part. form.Fits part.1) parts
    → FitsFrom (part_form form known) (λ part. Some part.0) before parts
parts_fit_from form known least before behind [] rising own fit = tt
parts_fit_from form known least before behind (part ∷ later) rising own fit =
    let others : List ObjectId = map (λ part. part.0) later in
    let first : IsFirstNamed least part.0 others = first_named least part.0 others rising in
    let below : (part.0).0 < OBJECT_IDS = first.below in (
      (
        (((omega arith, omega arith), own part.0 (itself part.0 others)), behind part.0 first.order),
        fit.0,
      ),
      parts_fit_from form known ((part.0).0 + 1) (Some part.0) (λ object order. lt-ltb _ _ (omega (arith, order)))
          later first.rest (λ object is. own object (or_right _ _ is)) fit.1,
    )

-- and as many as an operation has
parts_fit : {X : Type 0} (form : Format X) (named : List ObjectId) (parts : List (ObjectId × X))
    → IsTrue (are_parts parts)
    → ((object : ObjectId) → is_one_of (map (λ part. part.0) parts) object ≡ true → is_one_of named object ≡ true)
    → AllByRecursion (λ part. form.Fits part.1) parts → (parts_form form (is_one_of named)).Fits parts
parts_fit form named parts in_order own fit =
    let objects : List ObjectId = map (λ part. part.0) parts in
    let rise : AreFewNamed objects = few_named objects (are_objects_of_parts parts in_order) in
    let size : length objects ≡ length parts = length-map parts (λ part. part.0) in
    let most : length parts ≤ MOST_PARTS = few_parts parts in_order in (
      (omega (arith, rise.some, size), most),
      (refl, parts_fit_from form (is_one_of named) 0 None (λ object order. refl) parts rise.rising own fit),
    )

methods_fit : (parts : List (ObjectId × Method)) → PartsFit parts
    → AllByRecursion (λ part. method_form.Fits part.1) parts
methods_fit [] fit = tt
methods_fit (part ∷ later) fit = (method_fits part.1 fit.0, methods_fit later fit.1)

each_asked : (parts : List (ObjectId × Ask)) → AsksFit parts → AllByRecursion (λ part. ask_form.Fits part.1) parts
each_asked [] fit = tt
each_asked (part ∷ later) fit = (ask_fits part.1 fit.0, each_asked later fit.1)

-- ---- what a round asks

-- the sets of a round and what it asks
pub record FitAsked (sets : List SetOf) (asked : Body) : Type 0 where
  pub of_sets : sets_form.Fits sets
  pub of_body : (body_form (forms.objects_in_sets sets)).Fits asked

-- what is asked where these objects are named
record FitsNamed (named : List ObjectId) (asked : Body) : Type 0 where
  fits : (body_form named).Fits asked

operation_fits : (what : Op) (named : List ObjectId) → AreNamedFor what named → HasOpParts what
    → FitsNamed named (body_of what)
unfolding body_form act_form query_form
operation_fits (op.Act parts) named are has = record {
  fits = (
    ((omega arith, omega arith), refl),
    parts_fit method_form named parts has.0 are.own (methods_fit parts has.1),
  );
}
operation_fits (op.Query parts) named are has = record {
  fits = (
    ((omega arith, omega arith), refl),
    parts_fit ask_form named parts has.0 are.own (each_asked parts has.1),
  );
}

mend_fits : (named : List ObjectId) (target : ObjectId) → is_one_of named target ≡ true → target.0 < OBJECT_IDS
    → FitsNamed named (body.Mend target)
unfolding body_form
mend_fits named target known below = record {
  fits = (((omega arith, omega arith), refl), ((omega arith, omega arith), known));
}

-- one of the objects that are named is mended
target_named : (bounds : ℕ) (sets : List SetOf) (named : List ObjectId) → AreFewNamed named
    → is_one_of named (target_of bounds sets named) ≡ true
target_named bounds sets named are =
    target_such (λ (it : ObjectId). is_one_of named it ≡ true) bounds sets named
    (each_named named named (λ object is. is)) (lowest_named named are.some)

-- what may be asked in a round of an operation
body_fits : (what : Op) (named : List ObjectId) → FitsNamed named (body_of what)
    → ((target : ObjectId) → is_one_of named target ≡ true → FitsNamed named (body.Mend target)) → (asked : Body)
    → IsFor what asked → ((target : ObjectId) → asked ≡ body.Mend target → is_one_of named target ≡ true)
    → FitsNamed named asked
body_fits what named one mended asked (inl same) mends = subst (FitsNamed named) (sym same) one
body_fits what named one mended (body.Act parts) (inr mend) mends = absurd mend
body_fits what named one mended (body.Ask parts) (inr mend) mends = absurd mend
body_fits what named one mended (body.Mend target) (inr mend) mends = mended target (mends target refl)

-- what a round asks upon what is kept fits
pub round_fits : (bounds : ℕ) (kept : List Kept) (what : Op) (number round : ℕ) (before : List ObjectId) (work : Work)
    → IsRound bounds kept what number round before work → KeptFits kept → replicas bounds ≤ REPLICA_IDS
    → HasOpParts what → AreNamedFor what work.named → FitAsked work.sets work.body
round_fits bounds kept what number round before work is fit few parts named =
    let are : AreFewNamed work.named = few_named work.named named.are in
    let sets : FitSets work.named work.sets =
    subst (FitSets work.named) (sym is.sets_are) (sets_fit bounds round kept work.named are fit few) in
    let asked : FitsNamed work.named work.body =
    body_fits what work.named (operation_fits what work.named named parts)
    (λ target known. mend_fits work.named target known (named_below 0 work.named target are.rising known)) work.body
    is.asks
    (λ target mends.
    subst (λ (it : ObjectId). is_one_of work.named it ≡ true) (sym (is.mends target mends))
    (target_named bounds work.sets work.named are)) in
    record {
      of_sets = sets.of_sets;
      of_body = subst (λ (it : List ObjectId). (body_form it).Fits work.body) (sym sets.objects) asked.fits;
    }

-- ---- the request

pub record IsInRange (me : ClientId) (work : Work) : Type 0 where
  pub client : (1 ≤ me.0) × (me.0 ≤ LAST_CLIENT)
  pub number : (1 ≤ work.number) × (work.number < 2 ^ 64)
  pub round : (1 ≤ work.round) × (work.round ≤ LAST_ROUND)

pub request_fits : (me : ClientId) (work : Work) → IsInRange me work → FitAsked work.sets work.body
    → frame_form.Fits (request_of me work)
unfolding frame_form kind_form request_frame
request_fits me work range asked =
    let number : work.number ≤ 2 ^ 64 - 1 = (let below : work.number < 2 ^ 64 = (range.number).1 in omega arith) in (
      ((omega arith, omega arith), refl),
      (
        ((omega arith, omega arith), refl),
        (range.client, (((range.number).0, number), (range.round, (asked.of_sets, (asked.of_body, blank_sized))))),
      ),
    )
