-- The acts that replicas handled, as they are listed: each with its client and its number.
use Rattle.std.proofs.Common.{◌≡◌, ℕ, Bool, true, List, [], ◌∷◌, Option, None, Some, refl, ap, subst, ◌∙◌, arith, inl, inr}
use Rattle.std.specs.Prelude.{◌==◌, ◌&&◌, Contains}
use Rattle.std.specs.List.{list_any, filter_map, cons_option}
use Rattle.std.proofs.lemmas.Bool.{false≢true, or_cases, or_left, or_right, and_parts, and_from, eq-eqb, eqb-true}
use Rattle.std.proofs.lemmas.List.Elements.{Contains-append_cases, Contains-append_left, Contains-append_right, Contains-push}
use Rattle.std.proofs.lemmas.Option.{none-some, same_Some}
use Rattle.qu_base.specs.declared.party.ClientId.{ClientId}
use Rattle.qu_base.specs.declared.party.ObjectId.{ObjectId}
use Rattle.qu_base.proofs.Numbered.{client_is}
use Rattle.qu_history.specs.declared.sets.SetOf.{SetOf}
use Rattle.qu_objects.specs.declared.act.Method.{Method}
use Rattle.qu_objects.specs.declared.op.Op.TheVariants as op
use Rattle.qu_machine.specs.PointTests.{same_op}
use Rattle.qu_machine.proofs.Equalities.{Passes, passes_from_any, decides_op}
use Rattle.qu_frames.specs.declared.frame.Body.{Body}
use Rattle.qu_frames.specs.declared.frame.Body.TheVariants as body
use Rattle.qu_trace.specs.declared.trace.Trace.{Trace}
use Rattle.qu_claims.specs.Handled.{Request, handled_by, IsHandled}
use Rattle.qu_points.specs.Points.{NamedAct, named_act_in, act_in, act_at, handled_acts, is_named_act}
use Rattle.qu_runs.proofs.Small.{only_one}

-- ---- lists

-- an item that gives what passes, and what it gives
record GivesPassing {X Y : Type 0} (f : X → Option Y) (test : Y → Bool) (items : List X) : Type 0 where
  item : X
  of_list : Contains items item
  given : Y
  gives : f item ≡ Some given
  passes : test given ≡ true

any_later : {Y : Type 0} (test : Y → Bool) (found : Option Y) (rest : List Y) → list_any test rest ≡ true
    → list_any test (cons_option found rest) ≡ true
any_later test None rest passes = passes
any_later test (Some it) rest passes = or_right (test it) (list_any test rest) passes

any_given : {X Y : Type 0} (f : X → Option Y) (test : Y → Bool) (items : List X) (item : X) (given : Y)
    → Contains items item → f item ≡ Some given → test given ≡ true → list_any test (filter_map f items) ≡ true
any_given f test [] item given held gives passes = absurd (omega (arith, held.1))
any_given f test (first ∷ later) item given held gives passes =
    elim (Contains-append_cases (first ∷ []) later item held) [
      | inl here ↦
          ap (λ found. list_any test (cons_option found (filter_map f later)))
          (ap f (only_one first item here) ∙ gives) ∙
          or_left (test given) (list_any test (filter_map f later)) passes
      | inr there ↦ any_later test (f first) (filter_map f later) (any_given f test later item given there gives passes)
    ]

gives_later : {X Y : Type 0} (f : X → Option Y) (test : Y → Bool) (first : X) (later : List X)
    → GivesPassing f test later → GivesPassing f test (first ∷ later)
gives_later f test first later it =
    record {
      item = it.item;
      of_list = Contains-append_right (first ∷ []) later it.item it.of_list;
      given = it.given;
      gives = it.gives;
      passes = it.passes;
    }

given_by : {X Y : Type 0} (f : X → Option Y) (test : Y → Bool) (first : X) (later : List X)
    → (list_any test (filter_map f later) ≡ true → GivesPassing f test later) → (found : Option Y) → f first ≡ found
    → list_any test (cons_option found (filter_map f later)) ≡ true → GivesPassing f test (first ∷ later)
given_by f test first later rest None is some = gives_later f test first later (rest some)
given_by f test first later rest (Some it) is some =
    elim (or_cases (test it) (list_any test (filter_map f later)) some) [
      | inl here ↦ record {
        item = first;
        of_list = Contains-append_left (first ∷ []) later first
            (Contains-push [] first);
        given = it;
        gives = is;
        passes = here;
      }
      | inr there ↦ gives_later f test first later (rest there)
    ]

given_passing : {X Y : Type 0} (f : X → Option Y) (test : Y → Bool) (items : List X)
    → list_any test (filter_map f items) ≡ true → GivesPassing f test items
given_passing f test [] some = absurd (false≢true some)
given_passing f test (first ∷ later) some = given_by f test first later (given_passing f test later) (f first) refl some

-- ---- acts

equal_parts : (parts others : List (ObjectId × Method)) → same_op (op.Act parts) (op.Act others) ≡ true → parts ≡ others
equal_parts parts others same =
    let acts : op.Act parts ≡ op.Act others = (decides_op (op.Act parts) (op.Act others)).0 same in
    cc

parts-self : (parts : List (ObjectId × Method)) → same_op (op.Act parts) (op.Act parts) ≡ true
parts-self parts = (decides_op (op.Act parts) (op.Act parts)).1 refl

-- an act that was handled is listed
pub handled_among : (trace : Trace) (client : ClientId) (number : ℕ) (parts : List (ObjectId × Method))
    → IsHandled trace client number parts → list_any (is_named_act client number parts) (handled_acts trace) ≡ true
unfolding handled_acts
handled_among trace client number parts it =
    any_given (act_at trace) (is_named_act client number parts) trace.entries it.entry (client, number, parts)
    it.of_trace
    (ap act_in it.handled)
    (and_from _ _ (eq-eqb client.0 client.0 refl) (and_from _ _ (eq-eqb number number refl) (parts-self parts)))

-- a request of this act
record IsActAsked (found : Option Request) (act : NamedAct) : Type 0 where
  sets : List SetOf
  is : found ≡ Some (record { client = act.0; number = act.1; sets = sets; body = body.Act act.2 })

act_asked_is : (client : ClientId) (number : ℕ) (sets : List SetOf) (asks : Body) (act : NamedAct)
    → named_act_in client number asks ≡ Some act
    → IsActAsked (Some (record { client = client; number = number; sets = sets; body = asks })) act
act_asked_is client number sets (body.Act parts) act is =
    let same : (client, number, parts) ≡ act = same_Some _ act is in
    record { sets = sets; is = ap (λ (it : NamedAct). Some (asked it)) same }
  where
    asked : NamedAct → Request
    asked it = record { client = it.0; number = it.1; sets = sets; body = body.Act it.2 }
act_asked_is client number sets (body.Ask parts) act is = absurd (none-some act is)
act_asked_is client number sets (body.Mend target) act is = absurd (none-some act is)

act_in_is : (found : Option Request) (act : NamedAct) → act_in found ≡ Some act → IsActAsked found act
act_in_is None act is = absurd (none-some act is)
act_in_is (Some request) act is = act_asked_is request.client request.number request.sets request.body act is

-- an act that is listed was handled
pub among_handled : (trace : Trace) (client : ClientId) (number : ℕ) (parts : List (ObjectId × Method))
    → list_any (is_named_act client number parts) (handled_acts trace) ≡ true → IsHandled trace client number parts
unfolding handled_acts
among_handled trace client number parts some =
    let it : GivesPassing (act_at trace) (is_named_act client number parts) trace.entries =
    given_passing (act_at trace) (is_named_act client number parts) trace.entries some in
    let asked : IsActAsked (handled_by trace (it.item).event) it.given =
    act_in_is (handled_by trace (it.item).event) it.given it.gives in
    let equal : ((((it.given).0).0 == client.0) ≡ true)
    × ((((it.given).1 == number) && same_op (op.Act (it.given).2) (op.Act parts)) ≡ true) =
    and_parts _ _ it.passes in
    let more : (((it.given).1 == number) ≡ true) × (same_op (op.Act (it.given).2) (op.Act parts) ≡ true) =
    and_parts _ _ equal.1 in
    let clients : (it.given).0 ≡ client = client_is (it.given).0 client (eqb-true _ _ equal.0) in
    let numbers : (it.given).1 ≡ number = eqb-true _ _ more.0 in
    let acts : (it.given).2 ≡ parts = equal_parts (it.given).2 parts more.1 in
    record {
      entry = it.item;
      of_trace = it.of_list;
      sets = asked.sets;
      handled = asked.is
          ∙ (λ i. Some (record {
            client = clients i;
            number = numbers i;
            sets = asked.sets;
            body = body.Act (acts i);
          }));
    }

-- ---- listed acts

act_is : (act other : NamedAct) → is_named_act act.0 act.1 act.2 other ≡ true → other ≡ act
act_is act other same =
    let one : (((other.0).0 == (act.0).0) ≡ true)
    × ((other.1 == act.1 && same_op (op.Act other.2) (op.Act act.2)) ≡ true) =
    and_parts _ _ same in
    let two : ((other.1 == act.1) ≡ true) × (same_op (op.Act other.2) (op.Act act.2) ≡ true) = and_parts _ _ one.1 in
    let client : other.0 ≡ act.0 = client_is other.0 act.0 (eqb-true _ _ one.0) in
    let number : other.1 ≡ act.1 = eqb-true _ _ two.0 in
    let parts : other.2 ≡ act.2 = equal_parts other.2 act.2 two.1 in
    (λ i. (client i, number i, parts i))

pub listed : (acts : List NamedAct) (act : NamedAct) → list_any (is_named_act act.0 act.1 act.2) acts ≡ true
    → Contains acts act
listed acts act some =
    let it : Passes (is_named_act act.0 act.1 act.2) acts = passes_from_any (is_named_act act.0 act.1 act.2) acts some
    in
    subst (λ (one : NamedAct). Contains acts one) (act_is act it.found it.passes) it.of_list

pub among : (acts : List NamedAct) (act : NamedAct) → Contains acts act
    → list_any (is_named_act act.0 act.1 act.2) acts ≡ true
among [] act held = absurd (omega (arith, held.1))
among (first ∷ later) act held =
    elim (Contains-append_cases (first ∷ []) later act held) [
      | inl here ↦
          ap (λ (it : NamedAct). list_any (is_named_act act.0 act.1 act.2) (it ∷ later)) (only_one first act here) ∙
          or_left (is_named_act act.0 act.1 act.2 act) (list_any (is_named_act act.0 act.1 act.2) later)
          (and_from _ _ (eq-eqb (act.0).0 (act.0).0 refl)
          (and_from _ _ (eq-eqb act.1 act.1 refl) (parts-self act.2)))
      | inr there ↦ or_right (is_named_act act.0 act.1 act.2 first) (list_any (is_named_act act.0 act.1 act.2) later)
          (among later act there)
    ]

pub handled_listed : (trace : Trace) (client : ClientId) (number : ℕ) (parts : List (ObjectId × Method))
    → IsHandled trace client number parts → Contains (handled_acts trace) (client, number, parts)
handled_listed trace client number parts handled =
    listed (handled_acts trace) (client, number, parts) (handled_among trace client number parts handled)
