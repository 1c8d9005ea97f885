-- What is known of the replicas of a run stays all that they accepted, by what each event's letters show.
use Rattle.std.proofs.Common.{◌≡◌, ◌⊎◌, ℕ, zero, suc, ◌<◌, ◌≤◌, Bool, true, false, ◌||◌, cond, List, [], ◌∷◌, ◌++◌, length, get_or, map, set, Option, None, Some, inl, inr, refl, sym, ap, subst, ◌∙◌, arith}
use Rattle.std.specs.Prelude.{slice_get, ◌==◌, ◌&&◌}
use Rattle.std.specs.List.{list_any, AllZip, cons_option}
use Rattle.std.proofs.lemmas.Bool.{false≢true, cases_Bool, cases_eq, or_cases, eq-eqb, eqb-true, ne_eqb}
use Rattle.std.proofs.lemmas.List.{append-nil, drop_at, length-set, get_or-set_same, get_or-set_other, set-set}
use Rattle.std.proofs.lemmas.List.Folds.{list_any-append}
use Rattle.std.proofs.lemmas.Option.{none-some, same_Some, slice_get-get_or, slice_get_within}
use Rattle.qu_base.specs.declared.party.ObjectId.{ObjectId}
use Rattle.qu_base.specs.declared.party.Party.{Party}
use Rattle.qu_base.specs.declared.party.Party.TheVariants as party
use Rattle.qu_base.specs.declared.party.ReplicaId.{ReplicaId}
use Rattle.qu_base.proofs.Numbered.{object_is}
use Rattle.qu_seal.specs.Keys.{Ring}
use Rattle.qu_stamp.specs.declared.candidate.Candidate.{Candidate}
use Rattle.qu_history.specs.declared.sealed.Sealed.{Sealed}
use Rattle.qu_history.specs.declared.sets.SetOf.{SetOf}
use Rattle.qu_history.specs.History.{ObjectHistory, holds}
use Rattle.qu_history.specs.Sealing.{sealed_by}
use Rattle.qu_frames.specs.declared.frame.Letter.{Letter}
use Rattle.qu_frames.specs.Formats.{objects_in_sets}
use Rattle.qu_objects.specs.Formats.{is_one_of}
use Rattle.qu_rows.specs.State.{ReplicaState, own_candidates}
use Rattle.qu_mends.specs.Table.{candidates_in}
use Rattle.qu_replica.specs.Step.{shown, replica_step}
use Rattle.qu_replica.specs.Growth.{Grows}
use Rattle.qu_fitting.specs.Fits.{StateFits}
use Rattle.qu_replica.proofs.States.Growth.{step-grows}
use Rattle.qu_rows.proofs.Own.{IsOwn, own_history}
use Rattle.qu_claims.specs.Accepted.{accepts}
use Rattle.qu_runs.proofs.Worlds.WorldGrowth.{AcceptsMore}
use Rattle.qu_known.specs.declared.tracked.Tracked.{Tracked}
use Rattle.qu_known.specs.Tracked.{is_tracked, undecided}
use Rattle.qu_known.specs.Known.{ShownRow, Seen, known_on, beyond, with_known, with_shown_row, see_history, see_shown, see_from, see_letters, IsKnown, AreKnown, Learned}
use Rattle.qu_known.proofs.Held.{is_tracked-undecided, or_false, is_tracked-append, or_assoc}
use Rattle.qu_known.proofs.Replies.{IsSilent, Shows}

-- ---- one of a list is replaced

put_self : {X : Type 0} (items : List X) (place : ℕ) (item : X) → slice_get items place ≡ Some item
    → set items place item ≡ items
put_self [] place item is = refl
put_self (first ∷ later) zero item is = ap (λ it. it ∷ later) (sym (same_Some first item is))
put_self (first ∷ later) (suc place) item is = ap (λ rest. first ∷ rest) (put_self later place item is)

-- what is known of a replica
record KnownAt (rows : List ShownRow) (place : ℕ) (replica : ReplicaState) : Type 0 where
  row : ShownRow
  is_row : slice_get rows place ≡ Some row
  known : IsKnown replica row

known_at : (replicas : List ReplicaState) (rows : List ShownRow) (place : ℕ) (replica : ReplicaState)
    → AreKnown replicas rows → slice_get replicas place ≡ Some replica → KnownAt rows place replica
known_at [] rows place replica each found = absurd (none-some replica found)
known_at (first ∷ later) [] place replica each found = absurd each
known_at (first ∷ later) (row ∷ rows) zero replica each found =
    record { row = row; is_row = refl; known = subst (λ it. IsKnown it row) (same_Some first replica found) each.0 }
known_at (first ∷ later) (row ∷ rows) (suc place) replica each found =
    let there : KnownAt rows place replica = known_at later rows place replica each.1 found in
    record { row = there.row; is_row = there.is_row; known = there.known }

put_known : (replicas : List ReplicaState) (rows : List ShownRow) (place : ℕ) (replica : ReplicaState) (row : ShownRow)
    → AreKnown replicas rows → IsKnown replica row → AreKnown (set replicas place replica) (set rows place row)
put_known [] [] place replica row each known = each
put_known [] (other ∷ rows) place replica row each known = absurd each
put_known (first ∷ later) [] place replica row each known = absurd each
put_known (first ∷ later) (other ∷ rows) zero replica row each known = (known, each.1)
put_known (first ∷ later) (other ∷ rows) (suc place) replica row each known =
    (each.0, put_known later rows place replica row each.1 known)

either_first : (first more later : Bool) → ((first || more) || later) ≡ ((first || later) || more)
either_first true more later = refl
either_first false true true = refl
either_first false true false = refl
either_first false false true = refl
either_first false false false = refl

either_last : (first later more : Bool) → (first || (later || more)) ≡ ((first || later) || more)
either_last true later more = refl
either_last false later more = refl

any_put : {X : Type 0} (p : X → Bool) (items : List X) (place : ℕ) (old new : X) (more : Bool)
    → slice_get items place ≡ Some old → p new ≡ (p old || more)
    → list_any p (set items place new) ≡ (list_any p items || more)
any_put p [] place old new more found either = absurd (none-some old found)
any_put p (first ∷ later) zero old new more found either =
    ap (λ (test : Bool). test || list_any p later)
    (either ∙ ap (λ it. p it || more) (sym (same_Some first old found)))
    ∙ either_first (p first) more (list_any p later)
any_put p (first ∷ later) (suc place) old new more found either =
    ap (λ (test : Bool). p first || test) (any_put p later place old new more found either)
    ∙ either_last (p first) (list_any p later) more

zip_put : {X : Type 0} (R : X → X → Type 0) (items : List X) (place : ℕ) (old new : X) → ((item : X) → R item item)
    → slice_get items place ≡ Some old → R new old → AllZip R (set items place new) items
zip_put R [] place old new self found here = tt
zip_put R (first ∷ later) zero old new self found here =
    (subst (R new) (sym (same_Some first old found)) here, zip_self later)
  where
    zip_self : (items : List _) → AllZip R items items
    zip_self [] = tt
    zip_self (item ∷ rest) = (self item, zip_self rest)
zip_put R (first ∷ later) (suc place) old new self found here =
    (self first, zip_put R later place old new self found here)

-- ---- what a step of a replica tells

-- what was known and what was new, after what one replica sent
pub record Learns (old new : ReplicaState) (rows : List ShownRow) (me : ℕ) (seen : Seen) : Type 0 where
  row : ShownRow
  rows_are : seen.0 ≡ set rows me row
  known : IsKnown new row
  either : (object : ObjectId) (candidate : Candidate)
      → accepts object candidate new ≡ (accepts object candidate old || is_tracked object candidate seen.1)

-- where nothing is told, all is as it was
learns_nothing : (old new : ReplicaState) (rows : List ShownRow) (me : ℕ) (row : ShownRow) (seen : Seen)
    → slice_get rows me ≡ Some row → IsKnown old row → seen ≡ (rows, []) → length new.histories ≡ length old.histories
    → ((object : ObjectId) → own_candidates new object ≡ own_candidates old object) → Learns old new rows me seen
unfolding is_tracked
learns_nothing old new rows me row seen is_row known is number same = record {
  row = row;
  rows_are = ap (λ (it : Seen). it.0) is ∙ sym (put_self rows me row is_row);
  known = record {
    number = subst (λ (count : ℕ). count ≤ length row) (sym number) known.number;
    all = λ object. known.all object ∙ sym (same object);
  };
  either = λ object candidate. ap (holds candidate) (same object) ∙ sym (or_false (accepts object candidate old))
      ∙ ap (λ (it : Seen). accepts object candidate old || is_tracked object candidate it.1) (sym is);
}

-- what is known after some of the histories that a replica shows: of each object what it had accepted, so far
record IsTold (old new : ReplicaState) (rows : List ShownRow) (me : ℕ) (had : ObjectId → List Candidate) (seen : Seen)
    : Type 0 where
  row : ShownRow
  rows_are : seen.0 ≡ set rows me row
  number : length new.histories ≤ length row
  all : (object : ObjectId) → known_on object row ≡ had object
  either : (object : ObjectId) (candidate : Candidate)
      → holds candidate (had object) ≡ (accepts object candidate old || is_tracked object candidate seen.1)

told_first : (old new : ReplicaState) (rows : List ShownRow) (me : ℕ) (row : ShownRow)
    → slice_get rows me ≡ Some row → IsKnown old row → length new.histories ≡ length old.histories
    → IsTold old new rows me (own_candidates old) (rows, [])
unfolding is_tracked
told_first old new rows me row is_row known number = record {
  row = row;
  rows_are = sym (put_self rows me row is_row);
  number = subst (λ (count : ℕ). count ≤ length row) (sym number) known.number;
  all = known.all;
  either = λ object candidate. sym (or_false (accepts object candidate old));
}

slice_get-put : {X : Type 0} (items : List X) (place : ℕ) (item : X) → place < length items
    → slice_get (set items place item) place ≡ Some item
slice_get-put [] place item within = absurd (omega arith)
slice_get-put (first ∷ later) zero item within = refl
slice_get-put (first ∷ later) (suc place) item within = slice_get-put later place item (omega (arith, within))

-- a further history, of an object of which it had less
module _ (old new : ReplicaState) (rows : List ShownRow) (me : ReplicaId) (within : me.0 < length rows)
    (had : ObjectId → List Candidate) (seen : Seen) (told : IsTold old new rows me.0 had seen)
    (history : ObjectHistory) (found : slice_get new.histories (history.object).0 ≡ Some history)
    (more : List Candidate) (grown : history.candidates ≡ had history.object ++ more) where
  abbrev object : ObjectId
  object = history.object

  abbrev known : List Candidate
  known = known_on object told.row

  in_row : object.0 < length told.row
  in_row = omega (arith, slice_get_within new.histories object.0 history found, told.number)

  beyond_is : beyond known history.candidates ≡ more
  beyond_is =
      ap (λ (it : List Candidate). beyond it history.candidates) (told.all object)
      ∙ ap (beyond (had object)) grown ∙ drop_at (had object) more (length (had object)) refl

  -- what is known then is the whole history
  whole : known ++ beyond known history.candidates ≡ history.candidates
  whole =
      ap (λ (it : List Candidate). it ++ beyond known history.candidates) (told.all object)
      ∙ ap (λ (it : List Candidate). had object ++ it) beyond_is ∙ sym grown

  abbrev had_after : ObjectId → List Candidate
  had_after other = cond (other.0 == object.0) history.candidates (had other)

  abbrev row_after : ShownRow
  row_after = set told.row object.0 (known ++ beyond known history.candidates)

  abbrev news : List Tracked
  news = map (undecided object) (beyond known history.candidates)

  seen_is : see_history me history seen ≡ (set rows me.0 row_after, seen.1 ++ news)
  seen_is =
      ap (with_shown_row me history seen) (ap (λ (it : List ShownRow). slice_get it me.0) told.rows_are
      ∙ slice_get-put rows me.0 told.row within)
      ∙ ap (λ (made : ShownRow × List Tracked). (set seen.0 me.0 made.0, made.1))
      (ap (with_known history (told.row, seen.1)) (slice_get-get_or told.row object.0 [] in_row))
      ∙ ap (λ (it : List ShownRow). (set it me.0 row_after, seen.1 ++ news)) told.rows_are
      ∙ ap (λ (it : List ShownRow). (it, seen.1 ++ news)) (set-set rows me.0 told.row row_after)

  known_after : (other : ObjectId) → known_on other row_after ≡ had_after other
  known_after other =
      elim (cases_eq other.0 object.0) [
        | inl here ↦
            ap (λ (at : ℕ). get_or row_after at []) here
            ∙ get_or-set_same told.row object.0 (known ++ beyond known history.candidates) [] in_row
            ∙ whole
            ∙ sym (ap (λ (test : Bool). cond test history.candidates (had other)) (eq-eqb other.0 object.0 here))
        | inr apart ↦
            get_or-set_other told.row object.0 other.0 (known ++ beyond known history.candidates) [] apart
            ∙ told.all other
            ∙ sym (ap (λ (test : Bool). cond test history.candidates (had other)) (ne_eqb other.0 object.0 apart))
      ]

  news_on : (other : ObjectId) (candidate : Candidate)
      → is_tracked other candidate news ≡ ((object.0 == other.0) && holds candidate more)
  news_on other candidate =
      is_tracked-undecided other object candidate (beyond known history.candidates)
      ∙ ap (λ (them : List Candidate). (object.0 == other.0) && holds candidate them) beyond_is

  joined : (other : ObjectId) (candidate : Candidate) (held : Bool)
      → is_tracked other candidate news ≡ held
      → ((accepts other candidate old || is_tracked other candidate seen.1) || held)
      ≡ (accepts other candidate old || is_tracked other candidate (seen.1 ++ news))
  joined other candidate held is =
      or_assoc (accepts other candidate old) (is_tracked other candidate seen.1) held
      ∙ ap (λ (test : Bool). accepts other candidate old || (is_tracked other candidate seen.1 || test)) (sym is)
      ∙ ap (λ (test : Bool). accepts other candidate old || test) (sym (is_tracked-append other candidate seen.1 news))

  either_after : (other : ObjectId) (candidate : Candidate) → holds candidate (had_after other)
      ≡ (accepts other candidate old || is_tracked other candidate (seen.1 ++ news))
  either_after other candidate =
      elim (cases_eq other.0 object.0) [
        | inl here ↦
            ap (λ (test : Bool). holds candidate (cond test history.candidates (had other)))
            (eq-eqb other.0 object.0 here)
            ∙ ap (holds candidate) grown
            ∙ list_any-append _ (had object) more
            ∙ ap (λ (it : ObjectId). holds candidate (had it) || holds candidate more)
            (sym (object_is other object here))
            ∙ ap (λ (test : Bool). test || holds candidate more) (told.either other candidate)
            ∙ joined other candidate (holds candidate more) (news_on other candidate
            ∙ ap (λ (test : Bool). test && holds candidate more) (eq-eqb object.0 other.0 (sym here)))
        | inr apart ↦
            ap (λ (test : Bool). holds candidate (cond test history.candidates (had other)))
            (ne_eqb other.0 object.0 apart)
            ∙ told.either other candidate
            ∙ sym (or_false (accepts other candidate old || is_tracked other candidate seen.1))
            ∙ joined other candidate false (news_on other candidate
            ∙ ap (λ (test : Bool). test && holds candidate more)
            (ne_eqb object.0 other.0 (λ same. apart (sym same))))
      ]

  told_more : IsTold old new rows me.0 had_after (see_history me history seen)
  told_more = record {
    row = row_after;
    rows_are = ap (λ (it : Seen). it.0) seen_is;
    number =
        let size : length row_after ≡ length told.row =
        length-set told.row object.0 (known ++ beyond known history.candidates) in
        omega (arith, size, told.number);
    all = known_after;
    either = λ other candidate.
        either_after other candidate
        ∙ ap (λ (it : Seen). accepts other candidate old || is_tracked other candidate it.1) (sym seen_is);
  }

-- what is told of the replica, which has this number
module _ (old new : ReplicaState) (rows : List ShownRow) (me : ReplicaId) (within : me.0 < length rows)
    (grows : Grows old new) (fits : StateFits new) (keys : Ring) where
  -- of each object all, or what was had before
  abbrev IsBetween : (ObjectId → List Candidate) → Type 0
  IsBetween had = (object : ObjectId)
      → (had object ≡ own_candidates new object) ⊎ (had object ≡ own_candidates old object)

  -- what is known once these histories are shown
  record AreTold (sets : List SetOf) (had : ObjectId → List Candidate) (seen : Seen) : Type 0 where
    after : ObjectId → List Candidate
    told : IsTold old new rows me.0 after seen
    between : IsBetween after
    still : (object : ObjectId) → had object ≡ own_candidates new object → after object ≡ own_candidates new object
    of_sets : (object : ObjectId) → is_one_of (objects_in_sets sets) object ≡ true
        → after object ≡ own_candidates new object

  -- and there may be more of an object
  more_of : (had : ObjectId → List Candidate) → IsBetween had → (object : ObjectId)
      → (more : List Candidate) × (own_candidates new object ≡ had object ++ more)
  more_of had between object =
      elim (between object) [
        | inl all ↦ ([], sym all ∙ sym (append-nil (had object)))
        | inr before ↦
            let grown = grows.candidates object in
            (grown.0, grown.1 ∙ ap (λ (it : List Candidate). it ++ grown.0) (sym before))
      ]

  -- the first set tells nothing of an object that the replica does not have
  past_unknown : (set_shown : SetOf) (later : List SetOf) (had : ObjectId → List Candidate) (seen : Seen)
      → IsBetween had → slice_get new.histories (set_shown.object).0 ≡ None → AreTold later had seen
      → AreTold (set_shown ∷ later) had seen
  past_unknown set_shown later had seen between none rest = record {
    after = rest.after;
    told = rest.told;
    between = rest.between;
    still = rest.still;
    of_sets = λ object is.
        elim (or_cases ((set_shown.object).0 == object.0) (is_one_of (objects_in_sets later) object) is) [
          | inl here ↦
              let nothing : own_candidates new object ≡ [] =
              ap (λ (at : ℕ). candidates_in (slice_get new.histories at))
              (sym (eqb-true (set_shown.object).0 object.0 here)) ∙ ap candidates_in none in
              rest.still object (none_had (more_of had between object) nothing ∙ sym nothing)
          | inr there ↦ rest.of_sets object there
        ];
  }
    where
      none_left : (before after : List Candidate) → [] ≡ before ++ after → before ≡ []
      none_left [] after is = refl
      none_left (first ∷ before) after is = absurd cc

      none_had : {object : ObjectId} → (more : List Candidate) × (own_candidates new object ≡ had object ++ more)
          → own_candidates new object ≡ [] → had object ≡ []
      none_had {object} grown nothing = none_left (had object) grown.0 (sym nothing ∙ grown.1)

  shown_told : (sets : List SetOf) (had : ObjectId → List Candidate) (seen : Seen) → IsBetween had
      → IsTold old new rows me.0 had seen
      → AreTold sets had (see_shown me (map (sealed_by keys) (shown new sets)) seen)
  unfolding shown see_shown
  shown_told [] had seen between told = record {
    after = had;
    told = told;
    between = between;
    still = λ object same. same;
    of_sets = λ object is. absurd (false≢true is);
  }
  shown_told (set_shown ∷ later) had seen between told =
      elim (slice_get new.histories (set_shown.object).0) as (λ (found : Option ObjectHistory).
      slice_get new.histories (set_shown.object).0 ≡ found → AreTold (set_shown ∷ later) had
      (see_shown me (map (sealed_by keys) (cons_option found (shown new later))) seen)) [
        | None ↦ λ none.
            past_unknown set_shown later had (see_shown me (map (sealed_by keys) (shown new later)) seen) between none
            (shown_told later had seen between told)
        | Some history ↦ λ found.
            let own : IsOwn new.me (set_shown.object).0 history =
            own_history new (set_shown.object).0 history fits.own found in
            let place : (history.object).0 ≡ (set_shown.object).0 = own.object in
            let there : slice_get new.histories (history.object).0 ≡ Some history =
            ap (slice_get new.histories) place ∙ found in
            let all : own_candidates new history.object ≡ history.candidates = ap candidates_in there in
            let grown = more_of had between history.object in
            let step = told_more old new rows me within had seen told history there grown.0 (sym all ∙ grown.1) in
            let here : (object : ObjectId) → object.0 ≡ (history.object).0
            → history.candidates ≡ own_candidates new object =
            λ object same. sym all
            ∙ ap (λ (at : ℕ). candidates_in (slice_get new.histories at)) (sym same) in
            let next : ObjectId → List Candidate =
            λ object. cond (object.0 == (history.object).0) history.candidates (had object) in
            let between_next : IsBetween next =
            λ object. elim (cases_eq object.0 (history.object).0) [
              | inl same ↦ inl (ap (λ (test : Bool). cond test history.candidates (had object))
                  (eq-eqb object.0 (history.object).0 same) ∙ here object same)
              | inr apart ↦
                  let stays : next object ≡ had object =
                  ap (λ (test : Bool). cond test history.candidates (had object))
                  (ne_eqb object.0 (history.object).0 apart) in
                  elim (between object) [
                    | inl same ↦ inl (stays ∙ same)
                    | inr before ↦ inr (stays ∙ before)
                  ]
            ] in
            let rest = shown_told later next (see_history me history seen) between_next step in
            record {
              after = rest.after;
              told = rest.told;
              between = rest.between;
              still = λ object same. rest.still object (elim (cases_eq object.0 (history.object).0) [
                | inl equal ↦ ap (λ (test : Bool). cond test history.candidates (had object))
                    (eq-eqb object.0 (history.object).0 equal) ∙ here object equal
                | inr apart ↦ ap (λ (test : Bool). cond test history.candidates (had object))
                    (ne_eqb object.0 (history.object).0 apart) ∙ same
              ]);
              of_sets = λ object is.
                  elim (or_cases ((set_shown.object).0 == object.0) (is_one_of (objects_in_sets later) object) is) [
                    | inl equal ↦
                        let same : object.0 ≡ (history.object).0 =
                        sym (eqb-true (set_shown.object).0 object.0 equal) ∙ sym place in
                        rest.still object (ap (λ (test : Bool). cond test history.candidates (had object))
                        (eq-eqb object.0 (history.object).0 same) ∙ here object same)
                    | inr there_too ↦ rest.of_sets object there_too
                  ];
            }
      ] refl

  -- what the replica shows of the objects of some sets, where its other objects stay as they are
  pub shown_learned : (sets : List SetOf) (row : ShownRow) → slice_get rows me.0 ≡ Some row → IsKnown old row
      → ((object : ObjectId) → is_one_of (objects_in_sets sets) object ≡ false
      → own_candidates new object ≡ own_candidates old object)
      → Learns old new rows me.0 (see_shown me (map (sealed_by keys) (shown new sets)) (rows, []))
  shown_learned sets row is_row known others =
      let begun = told_first old new rows me.0 row is_row known grows.number in
      let end = shown_told sets (own_candidates old) (rows, []) (λ object. inr refl) begun in
      let all : (object : ObjectId) → end.after object ≡ own_candidates new object =
      λ object. elim (cases_Bool (is_one_of (objects_in_sets sets) object)) [
        | inl is ↦ end.of_sets object is
        | inr apart ↦ elim (end.between object) [
          | inl same ↦ same
          | inr before ↦ before ∙ sym (others object apart)
        ]
      ] in
      let told = end.told in
      record {
        row = told.row;
        rows_are = told.rows_are;
        known = record { number = told.number; all = λ object. told.all object ∙ all object };
        either = λ object candidate. ap (holds candidate) (sym (all object)) ∙ told.either object candidate;
      }

-- ---- what an event of a world tells

each_self : (states : List ReplicaState) → AllZip AcceptsMore states states
each_self [] = tt
each_self (state ∷ later) = ((λ object candidate held. held), each_self later)

pub quiet_learned : (replicas : List ReplicaState) (rows : List ShownRow) → AreKnown replicas rows
    → Learned replicas replicas (rows, [])
unfolding is_tracked
quiet_learned replicas rows known = record {
  known = known;
  either = λ object candidate. sym (or_false (list_any (accepts object candidate) replicas));
  still = λ none. each_self replicas;
}

learned_at : (replicas : List ReplicaState) (rows : List ShownRow) (me : ℕ) (old new : ReplicaState) (seen : Seen)
    → AreKnown replicas rows → slice_get replicas me ≡ Some old → Learns old new rows me seen
    → Learned replicas (set replicas me new) seen
unfolding is_tracked
learned_at replicas rows me old new seen known is_old learns = record {
  known = subst (AreKnown (set replicas me new)) (sym learns.rows_are)
      (put_known replicas rows me new learns.row known learns.known);
  either = λ object candidate. any_put (accepts object candidate) replicas me old new
      (is_tracked object candidate seen.1) is_old (learns.either object candidate);
  still = λ none. zip_put AcceptsMore replicas me old new (λ state object candidate held. held) is_old
      (λ object candidate held.
      sym (or_false (accepts object candidate old)) ∙
      ap (λ (news : List Tracked). accepts object candidate old || is_tracked object candidate news) (sym none) ∙
      sym (learns.either object candidate) ∙ held);
}

-- what the letters of a replica tell that takes a text
module _ (replicas : List ReplicaState) (rows : List ShownRow) (me : ReplicaId) (state : ReplicaState) (text : List ℕ)
    (known : AreKnown replicas rows) (is_state : slice_get replicas me.0 ≡ Some state) (named : state.me ≡ me)
    (fits : StateFits (replica_step state text).0) where
  abbrev new : ReplicaState
  new = (replica_step state text).0

  silent_learned : IsSilent state (replica_step state text)
      → Learned replicas (set replicas me.0 new) (see_letters (replica_step state text).1 (rows, []))
  silent_learned silent =
      let grows : Grows state new = step-grows state text in
      let there : KnownAt rows me.0 state = known_at replicas rows me.0 state known is_state in
      subst (λ (seen : Seen). Learned replicas (set replicas me.0 new) seen) (sym (silent.none (rows, [])))
      (learned_at replicas rows me.0 state new (rows, []) known is_state
      (learns_nothing state new rows me.0 there.row (rows, []) there.is_row there.known refl grows.number
      (λ object. ap (λ (them : List ObjectHistory). candidates_in (slice_get them object.0)) silent.histories)))

  shows_learned : Shows state (replica_step state text)
      → Learned replicas (set replicas me.0 new) (see_letters (replica_step state text).1 (rows, []))
  unfolding see_letters
  shows_learned shows =
      let grows : Grows state new = step-grows state text in
      let there : KnownAt rows me.0 state = known_at replicas rows me.0 state known is_state in
      let seen_is : see_letters (replica_step state text).1 (rows, []) ≡ see_shown me
      (map (sealed_by new.keys) (shown new shows.sets)) (rows, []) =
      ap (λ (letters : List Letter). see_letters letters (rows, [])) shows.letters
      ∙ ap (λ (from : Party). see_from from (shows.letter).text (rows, []))
      (shows.from ∙ ap (λ (it : ReplicaId). party.Replica it) (grows.me ∙ named))
      ∙ ap (λ (sealed : List Sealed). see_shown me sealed (rows, [])) shows.tells in
      subst (λ (seen : Seen). Learned replicas (set replicas me.0 new) seen) (sym seen_is)
      (learned_at replicas rows me.0 state new _ known is_state
      (shown_learned state new rows me (slice_get_within rows me.0 there.row there.is_row) grows fits new.keys
      shows.sets there.row there.is_row there.known shows.others))

  pub taken_learned : IsSilent state (replica_step state text) ⊎ Shows state (replica_step state text)
      → Learned replicas (set replicas me.0 new) (see_letters (replica_step state text).1 (rows, []))
  taken_learned (inl silent) = silent_learned silent
  taken_learned (inr shows) = shows_learned shows
