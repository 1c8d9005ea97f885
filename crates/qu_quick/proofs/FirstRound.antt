-- What a client does when it begins an act whose cached histories are current: it asks the act of the preferred
-- replicas, of each once.
use Rattle.std.proofs.Common.{◌≡◌, ℕ, zero, suc, ◌+◌, ◌≤◌, ◌==◌, Bool, true, false, not, cond, List, [], ◌∷◌, length, map, Option, None, Some, refl, sym, ap, subst, ◌∙◌, arith, inl, inr}
use Rattle.std.specs.Prelude.{nat_lt, filter, is_some}
use Rattle.std.specs.List.{AllByRecursion, fold, list_all, range_with_len}
use Rattle.std.proofs.lemmas.Bool.{cases_Bool, false≢true, and_from, eqb-true, eq-eqb}
use Rattle.std.proofs.lemmas.Bool.Decides.{nat_tests}
use Rattle.std.proofs.lemmas.List.{length-map}
use Rattle.std.proofs.lemmas.List.Sums.{length-filter}
use Rattle.qu_base.specs.Bounds.{replicas, quorum}
use Rattle.qu_base.specs.declared.party.ClientId.{ClientId}
use Rattle.qu_base.specs.declared.party.ObjectId.{ObjectId}
use Rattle.qu_base.specs.declared.party.Party.{Party}
use Rattle.qu_base.specs.declared.party.Party.TheVariants as party
use Rattle.qu_base.specs.Bounds.{AreThresholds}
use Rattle.qu_seal.specs.Keys.{Ring}
use Rattle.qu_stamp.specs.declared.candidate.Candidate.{Candidate}
use Rattle.qu_client.specs.AskedFirst.{how_many_preferred}
use Rattle.qu_client.proofs.AskedFirst.{preferred_make_a_quorum}
use Rattle.qu_history.specs.declared.sets.SetOf.{SetOf}
use Rattle.qu_history.specs.History.{ObjectHistory}
use Rattle.qu_history.specs.Sets.{histories, entries_of, method_at, order_of}
use Rattle.qu_class.specs.declared.class.Class.{Class}
use Rattle.qu_class.specs.Class.{with_members, class_in}
use Rattle.qu_history.specs.Trimming.{trimmed, trimmed_set}
use Rattle.qu_history.proofs.Method.{order_of_most}
use Rattle.qu_objects.specs.declared.act.Method.{Method}
use Rattle.qu_objects.specs.declared.op.Op.{Op}
use Rattle.qu_objects.specs.declared.op.Op.TheVariants as op
use Rattle.qu_frames.specs.Body.{body_of}
use Rattle.qu_frames.specs.declared.frame.Body.TheVariants as body
use Rattle.qu_frames.specs.declared.frame.Letter.{Letter}
use Rattle.qu_grounds.proofs.Grounds.{IsBase, is_base}
use Rattle.qu_client.specs.declared.whom.Whom.{Whom}
use Rattle.qu_client.specs.declared.whom.Whom.TheVariants.{Preferred}
use Rattle.qu_client.specs.declared.work.Work.{Work}
use Rattle.qu_question.specs.declared.question.Question.{Question}
use Rattle.qu_client.specs.declared.state.ClientState.{ClientState}
use Rattle.qu_question.specs.Named.{operation_objects}
use Rattle.qu_question.specs.Question.{set_of, sets_of, are_full, are_current, need_of, lower_of, lowest_needed, named_for, asked_upon}
use Rattle.qu_question.proofs.Building.{named_for-none, class_at_method}
use Rattle.qu_client.specs.Whom.{is_asked}
use Rattle.qu_client.specs.Work.{work_asking}
use Rattle.qu_client.specs.Rounds.{requests_from, begins}
use Rattle.qu_client.specs.State.{Stepped}
use Rattle.qu_question.specs.Kept.{unmarked}
use Rattle.qu_client.specs.Steps.{client_invoke, next_number}
use Rattle.qu_claims.specs.Quick.{first_sets, asked_first}
use Rattle.qu_claims.specs.Parts.{Names}
use Rattle.qu_kept.proofs.EachObject.{objects_named}
use Rattle.qu_replies.proofs.EachOf.{all_named, each_made}

-- ---- an act

enough_not_few : (a b : ℕ) → a ≤ b → not (nat_lt b a) ≡ true
enough_not_few a b enough = grind (arith, nat_tests)

-- where each object has a quorum of entries and is of class METHOD, the operation is asked of the preferred replicas
asked_current : (bounds : ℕ) (what : Op) (objects : List ObjectId) (sets : List SetOf) → are_full bounds sets ≡ true
    → are_current bounds sets (operation_objects what) ≡ true
    → asked_upon bounds what objects sets
    ≡ record { named = objects; sets = sets; body = body_of what; all = false }
asked_current bounds what objects sets full current = rw (full, current) refl

all_true : {A : Type 0} (test : A → Bool) (items : List A) → AllByRecursion (λ item. test item ≡ true) items
    → list_all test items ≡ true
all_true test [] all = refl
all_true test (item ∷ later) all = and_from _ _ all.0 (all_true test later all.1)

-- where none of them needs another object, none is needed
lowest_none : (bounds : ℕ) (sets : List SetOf) (objects : List ObjectId)
    → AllByRecursion (λ object. need_of (class_in bounds sets object) ≡ None) objects
    → lowest_needed bounds sets objects ≡ None
lowest_none bounds sets [] all = refl
lowest_none bounds sets (object ∷ later) all =
    ap (λ (need : Option ObjectId). fold (λ lowest it. lower_of lowest (need_of (class_in bounds sets it)))
    (lower_of None need) later) all.0
    ∙ lowest_none bounds sets later all.1

need_none : (bounds : ℕ) (sets : List SetOf) (object : ObjectId) (candidate : Candidate)
    → method_at bounds (entries_of object sets) ≡ Some candidate → need_of (class_in bounds sets object) ≡ None
unfolding class_in with_members
need_none bounds sets object candidate method =
    ap (λ (class : Class). need_of (with_members bounds sets class))
    (class_at_method bounds (entries_of object sets) candidate method)

module _ (state : ClientState) (parts : List (ObjectId × Method)) where
  abbrev pub act : Op
  act = op.Act parts

  abbrev bounds : ℕ
  bounds = state.keys.bounds

  abbrev objects : List ObjectId
  objects = objects_named parts

  -- the set of an object
  abbrev pub first_set : ObjectId → SetOf
  first_set object = trimmed_set bounds (set_of bounds (unmarked state.kept) object)

  each_set : (some : List (ObjectId × Method))
      → trimmed bounds (map (λ object. set_of bounds (unmarked state.kept) object) (objects_named some))
      ≡ map first_set (objects_named some)
  unfolding trimmed
  each_set [] = refl
  each_set (part ∷ later) = ap (λ (rest : List SetOf). first_set part.0 ∷ rest) (each_set later)

  sets_are : first_sets state act ≡ map first_set objects
  sets_are = each_set parts

  -- what holds of the set of each object holds of all sets
  pub of_sets : (P : SetOf → Type 0) → ((object : ObjectId) → Names parts object → P (first_set object))
      → AllByRecursion P (first_sets state act)
  of_sets P gives =
      subst (AllByRecursion P) (sym sets_are)
      (each_made first_set P objects (all_named (λ object. P (first_set object)) parts gives))

  -- the entries of an object are those of its set
  entries_shown : (some : List (ObjectId × Method)) (object : ObjectId) → Names some object
      → entries_of object (map first_set (objects_named some)) ≡ histories (first_set object).entries
  unfolding entries_of
  entries_shown [] object names = absurd names
  entries_shown (part ∷ later) object names =
      by ((part.0).0 == object.0) refl names (entries_shown later object)
    where
      by : (test : Bool) → ((part.0).0 == object.0) ≡ test → Names (part ∷ later) object
          → (Names later object
          → entries_of object (map first_set (objects_named later)) ≡ histories (first_set object).entries)
          → cond test (histories (first_set part.0).entries)
          (entries_of object (map first_set (objects_named later))) ≡ histories (first_set object).entries
      by true is names rest =
          ap (λ (number : ℕ). histories (first_set (record { 0 = number })).entries) (eqb-true _ _ is)
      by false is (inl same) rest = absurd (false≢true (sym is ∙ eq-eqb _ _ (ap (λ (it : ObjectId). it.0) same)))
      by false is (inr named) rest = rest named

  -- the first round of the act
  abbrev pub first_work : Work
  first_work = work_asking act (next_number state.last_request) 1
      (record {
        named = objects;
        sets = first_sets state act;
        body = body.Act parts;
        all = false;
      })

  module _ (bases : ObjectId → Candidate)
      (current : (object : ObjectId) → Names parts object
      → method_at state.keys.bounds (entries_of object (first_sets state act)) ≡ Some (bases object)) where
    pub enough_on : (object : ObjectId) → Names parts object → quorum bounds ≤ length (first_set object).entries
    enough_on object names =
        let shown : List ObjectHistory = entries_of object (first_sets state act) in
        let based : IsBase bounds shown (bases object) = is_base bounds shown (bases object) (current object names) in
        let full : quorum bounds ≤ order_of (bases object) shown = based.of_quorum in
        let most : order_of (bases object) shown ≤ length shown = order_of_most (bases object) shown in
        let here : length shown ≡ length (first_set object).entries =
        ap (λ (them : List ObjectHistory). length them)
        (ap (entries_of object) sets_are ∙ entries_shown parts object names)
        ∙ length-map (first_set object).entries (λ sealed. sealed.history) in
        omega (arith, full, most, here)

    full : are_full bounds (first_sets state act) ≡ true
    full =
        all_true (λ (set : SetOf). not (nat_lt (length set.entries) (quorum bounds))) (first_sets state act)
        (of_sets (λ (set : SetOf). not (nat_lt (length set.entries) (quorum bounds)) ≡ true)
        (λ object names. enough_not_few (quorum bounds) (length (first_set object).entries) (enough_on object names)))

    is_current : are_current bounds (first_sets state act) objects ≡ true
    is_current =
        all_true (λ (object : ObjectId). is_some (method_at bounds (entries_of object (first_sets state act)))) objects
        (all_named (λ object. is_some (method_at bounds (entries_of object (first_sets state act))) ≡ true) parts
        (λ object names. ap (λ (found : Option Candidate). is_some found) (current object names)))

    -- no other object is named
    named_is : named_for bounds 1 (unmarked state.kept) objects ≡ objects
    named_is =
        named_for-none bounds 1 (unmarked state.kept) objects
        (ap (λ (test : Bool). cond test (lowest_needed bounds (first_sets state act) objects) None) full
        ∙ lowest_none bounds (first_sets state act) objects
        (all_named (λ object. need_of (class_in bounds (first_sets state act) object) ≡ None) parts
        (λ object names. need_none bounds (first_sets state act) object (bases object) (current object names))))

    pub invoke_is : client_invoke state act ≡ begins (record state { kept = unmarked state.kept }) first_work
    invoke_is =
        let begun : Question → Stepped =
        λ question. begins (record state { kept = unmarked state.kept })
        (work_asking act (next_number state.last_request) 1 question) in
        ap (λ (named : List ObjectId).
        begun (asked_upon bounds act named (sets_of bounds 1 (unmarked state.kept) named))) named_is
        ∙ ap begun (asked_current bounds act objects (first_sets state act) full is_current)

-- ---- whom it asks

abbrev party_at : ℕ → Party
party_at number = party.Replica (record { 0 = number })

pub asked_parties : (keys : Ring) (me : ClientId) (work : Work) (whom : Whom) (replica count : ℕ)
    → map (λ (letter : Letter). letter.to) (requests_from keys replica count me work whom)
    ≡ map party_at (filter (is_asked keys.bounds whom) (range_with_len replica count))
unfolding requests_from
asked_parties keys me work whom replica zero = refl
asked_parties keys me work whom replica (suc count) =
    let rest : map (λ (letter : Letter). letter.to) (requests_from keys (replica + 1) count me work whom)
    ≡ map party_at (filter (is_asked keys.bounds whom) (range_with_len (replica + 1) count)) =
    asked_parties keys me work whom (replica + 1) count in
    elim (cases_Bool (is_asked keys.bounds whom replica)) [
      | inl asked ↦ rw (asked, rest) refl
      | inr other ↦ rw (other, rest) refl
    ]

-- the preferred are a quorum
pub asked_first-number : (bounds : ℕ) (object : ObjectId) → AreThresholds bounds
    → length (asked_first bounds object) ≡ quorum bounds
unfolding how_many_preferred
asked_first-number bounds object sizes =
    length-map (filter (is_asked bounds (Preferred object)) (range_with_len 0 (replicas bounds))) party_at
    ∙ length-filter (is_asked bounds (Preferred object)) (range_with_len 0 (replicas bounds))
    ∙ preferred_make_a_quorum bounds object sizes
