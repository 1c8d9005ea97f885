-- What each test of a judge decides.
use Rattle.std.proofs.Common.{◌≡◌, ℕ, Bool, true, not, ◌&&◌, ◌==◌, List, refl, ap}
use Rattle.std.specs.Prelude.{Contains}
use Rattle.std.specs.Bool.{Decides, beq}
use Rattle.std.specs.List.{list_any}
use Rattle.std.specs.Cmp.{booleans_Decides}
use Rattle.std.specs.Cmp.Lexicographic.{pointwise, bytes_decides}
use Rattle.std.proofs.lemmas.Bool.{false≢true, not-true, and_parts, and_from, not_from_false}
use Rattle.std.proofs.lemmas.Bool.Decides.{Decides-eqb}
use Rattle.std.proofs.lemmas.Slice.Eq.{slice_eq-Decides}
use Rattle.std.proofs.lemmas.List.Folds.{Any-from_list_any}
use Rattle.qu_base.specs.declared.party.ClientId.{ClientId}
use Rattle.qu_base.specs.declared.party.ObjectId.{ObjectId}
use Rattle.qu_objects.specs.declared.act.Method.{Method}
use Rattle.qu_objects.specs.declared.act.Method.TheVariants.{Add, Take, Put, Append, Link, Unlink}
use Rattle.qu_objects.specs.declared.query.Ask.{Ask}
use Rattle.qu_objects.specs.declared.query.Ask.TheVariants.{Read, Cat, Find, All}
use Rattle.qu_base.specs.declared.kind.Item.{Item}
use Rattle.qu_base.specs.declared.kind.Item.TheVariants.{Number, Bytes, Entries}
use Rattle.qu_base.proofs.Items.{any_contained}
use Rattle.qu_base.proofs.Numbered.{object_is, client_is}
use Rattle.qu_objects.specs.declared.answer.Answer.{Answer}
use Rattle.qu_objects.specs.declared.answer.Answer.TheVariants as answer
use Rattle.qu_objects.specs.declared.op.Op.{Op}
use Rattle.qu_objects.specs.declared.op.Op.TheVariants as op
use Rattle.qu_machine.specs.declared.record.OpRecord.{OpRecord}
use Rattle.qu_machine.specs.declared.record.Point.{Point}
use Rattle.qu_machine.specs.Serial.{Stands, Agree, IsOfOperations}
use Rattle.qu_machine.specs.PointTests.{same_method, same_ask, same_part, same_op, stands, agree, is_of_operations}
use Rattle.qu_objects.specs.Alike.{are_same_bytes, same_named, same_item, same_answer}

-- ---- equal operations and answers

decides_bytes : (a b : List ℕ) → Decides (are_same_bytes a b) (a ≡ b)
decides_bytes a b = bytes_decides a b

decides_method : (a b : Method) → Decides (same_method a b) (a ≡ b)
decides_method (Add a) (Add b) =
    (λ same. ap (λ (it : ℕ). Add it) ((Decides-eqb a b).0 same), λ same. (Decides-eqb a b).1 (cc))
decides_method (Add a) (Take b) = (λ same. absurd (false≢true same), λ same. absurd (cc))
decides_method (Add a) (Put b) = (λ same. absurd (false≢true same), λ same. absurd (cc))
decides_method (Add a) (Append b) = (λ same. absurd (false≢true same), λ same. absurd (cc))
decides_method (Add a) (Link b bn) = (λ same. absurd (false≢true same), λ same. absurd (cc))
decides_method (Add a) (Unlink b) = (λ same. absurd (false≢true same), λ same. absurd (cc))
decides_method (Take a) (Add b) = (λ same. absurd (false≢true same), λ same. absurd (cc))
decides_method (Take a) (Take b) =
    (λ same. ap (λ (it : ℕ). Take it) ((Decides-eqb a b).0 same), λ same. (Decides-eqb a b).1 (cc))
decides_method (Take a) (Put b) = (λ same. absurd (false≢true same), λ same. absurd (cc))
decides_method (Take a) (Append b) = (λ same. absurd (false≢true same), λ same. absurd (cc))
decides_method (Take a) (Link b bn) = (λ same. absurd (false≢true same), λ same. absurd (cc))
decides_method (Take a) (Unlink b) = (λ same. absurd (false≢true same), λ same. absurd (cc))
decides_method (Put a) (Add b) = (λ same. absurd (false≢true same), λ same. absurd (cc))
decides_method (Put a) (Take b) = (λ same. absurd (false≢true same), λ same. absurd (cc))
decides_method (Put a) (Put b) =
    (λ same. ap (λ (it : List ℕ). Put it) ((decides_bytes a b).0 same), λ same. (decides_bytes a b).1 (cc))
decides_method (Put a) (Append b) = (λ same. absurd (false≢true same), λ same. absurd (cc))
decides_method (Put a) (Link b bn) = (λ same. absurd (false≢true same), λ same. absurd (cc))
decides_method (Put a) (Unlink b) = (λ same. absurd (false≢true same), λ same. absurd (cc))
decides_method (Append a) (Add b) = (λ same. absurd (false≢true same), λ same. absurd (cc))
decides_method (Append a) (Take b) = (λ same. absurd (false≢true same), λ same. absurd (cc))
decides_method (Append a) (Put b) = (λ same. absurd (false≢true same), λ same. absurd (cc))
decides_method (Append a) (Append b) =
    (λ same. ap (λ (it : List ℕ). Append it) ((decides_bytes a b).0 same), λ same. (decides_bytes a b).1 (cc))
decides_method (Append a) (Link b bn) = (λ same. absurd (false≢true same), λ same. absurd (cc))
decides_method (Append a) (Unlink b) = (λ same. absurd (false≢true same), λ same. absurd (cc))
decides_method (Link a an) (Add b) = (λ same. absurd (false≢true same), λ same. absurd (cc))
decides_method (Link a an) (Take b) = (λ same. absurd (false≢true same), λ same. absurd (cc))
decides_method (Link a an) (Put b) = (λ same. absurd (false≢true same), λ same. absurd (cc))
decides_method (Link a an) (Append b) = (λ same. absurd (false≢true same), λ same. absurd (cc))
decides_method (Link a number) (Link b other) = (
  λ same.
      let parts = and_parts (are_same_bytes a b) (number == other) same in
      let name : a ≡ b = (decides_bytes a b).0 parts.0 in
      let linked : number ≡ other = (Decides-eqb number other).0 parts.1 in
      λ i. Link (name i) (linked i),
  λ same. and_from _ _ ((decides_bytes a b).1 (cc)) ((Decides-eqb number other).1 (cc)),
)
decides_method (Link a an) (Unlink b) = (λ same. absurd (false≢true same), λ same. absurd (cc))
decides_method (Unlink a) (Add b) = (λ same. absurd (false≢true same), λ same. absurd (cc))
decides_method (Unlink a) (Take b) = (λ same. absurd (false≢true same), λ same. absurd (cc))
decides_method (Unlink a) (Put b) = (λ same. absurd (false≢true same), λ same. absurd (cc))
decides_method (Unlink a) (Append b) = (λ same. absurd (false≢true same), λ same. absurd (cc))
decides_method (Unlink a) (Link b bn) = (λ same. absurd (false≢true same), λ same. absurd (cc))
decides_method (Unlink a) (Unlink b) =
    (λ same. ap (λ (it : List ℕ). Unlink it) ((decides_bytes a b).0 same), λ same. (decides_bytes a b).1 (cc))

decides_ask : (a b : Ask) → Decides (same_ask a b) (a ≡ b)
decides_ask Read Read = (λ same. refl, λ same. refl)
decides_ask Read Cat = (λ same. absurd (false≢true same), λ same. absurd (cc))
decides_ask Read (Find b) = (λ same. absurd (false≢true same), λ same. absurd (cc))
decides_ask Read All = (λ same. absurd (false≢true same), λ same. absurd (cc))
decides_ask Cat Read = (λ same. absurd (false≢true same), λ same. absurd (cc))
decides_ask Cat Cat = (λ same. refl, λ same. refl)
decides_ask Cat (Find b) = (λ same. absurd (false≢true same), λ same. absurd (cc))
decides_ask Cat All = (λ same. absurd (false≢true same), λ same. absurd (cc))
decides_ask (Find a) Read = (λ same. absurd (false≢true same), λ same. absurd (cc))
decides_ask (Find a) Cat = (λ same. absurd (false≢true same), λ same. absurd (cc))
decides_ask (Find a) (Find b) =
    (λ same. ap (λ (it : List ℕ). Find it) ((decides_bytes a b).0 same), λ same. (decides_bytes a b).1 (cc))
decides_ask (Find a) All = (λ same. absurd (false≢true same), λ same. absurd (cc))
decides_ask All Read = (λ same. absurd (false≢true same), λ same. absurd (cc))
decides_ask All Cat = (λ same. absurd (false≢true same), λ same. absurd (cc))
decides_ask All (Find b) = (λ same. absurd (false≢true same), λ same. absurd (cc))
decides_ask All All = (λ same. refl, λ same. refl)

decides_named : (a b : List ℕ × ℕ) → Decides (same_named a b) (a ≡ b)
decides_named a b = (
  λ same.
      let parts = and_parts (are_same_bytes a.0 b.0) (a.1 == b.1) same in
      let name : a.0 ≡ b.0 = (decides_bytes a.0 b.0).0 parts.0 in
      let number : a.1 ≡ b.1 = (Decides-eqb a.1 b.1).0 parts.1 in
      λ i. (name i, number i),
  λ same. and_from _ _ ((decides_bytes a.0 b.0).1 (λ i. (same i).0)) ((Decides-eqb a.1 b.1).1 (λ i. (same i).1)),
)

decides_item : (a b : Item) → Decides (same_item a b) (a ≡ b)
decides_item (Number a) (Number b) =
    (λ same. ap (λ (it : ℕ). Number it) ((Decides-eqb a b).0 same), λ same. (Decides-eqb a b).1 (cc))
decides_item (Number a) (Bytes b) = (λ same. absurd (false≢true same), λ same. absurd (cc))
decides_item (Number a) (Entries b) = (λ same. absurd (false≢true same), λ same. absurd (cc))
decides_item (Bytes a) (Number b) = (λ same. absurd (false≢true same), λ same. absurd (cc))
decides_item (Bytes a) (Bytes b) =
    (λ same. ap (λ (it : List ℕ). Bytes it) ((decides_bytes a b).0 same), λ same. (decides_bytes a b).1 (cc))
decides_item (Bytes a) (Entries b) = (λ same. absurd (false≢true same), λ same. absurd (cc))
decides_item (Entries a) (Number b) = (λ same. absurd (false≢true same), λ same. absurd (cc))
decides_item (Entries a) (Bytes b) = (λ same. absurd (false≢true same), λ same. absurd (cc))
decides_item (Entries a) (Entries b) =
    let entries : Decides (pointwise same_named a b) (a ≡ b) = slice_eq-Decides decides_named a b _ refl in
    (λ same. ap (λ (it : List (List ℕ × ℕ)). Entries it) (entries.0 same), λ same. entries.1 (cc))

decides_part : {X : Type 0} (test : X → X → Bool) → ((a b : X) → Decides (test a b) (a ≡ b))
    → (a b : ObjectId × X) → Decides (same_part test a b) (a ≡ b)
decides_part test decides a b = (
  λ same.
      let parts : ((a.0).0 == (b.0).0 ≡ true) × (test a.1 b.1 ≡ true) = and_parts _ _ same in
      let object : a.0 ≡ b.0 = object_is a.0 b.0 ((Decides-eqb (a.0).0 (b.0).0).0 parts.0) in
      let method : a.1 ≡ b.1 = (decides a.1 b.1).0 parts.1 in
      λ i. (object i, method i),
  λ same. and_from _ _ ((Decides-eqb (a.0).0 (b.0).0).1 (λ i. ((same i).0).0)) ((decides a.1 b.1).1 (λ i. (same i).1)),
)

pub decides_op : (a b : Op) → Decides (same_op a b) (a ≡ b)
decides_op (op.Act a) (op.Act b) =
    let parts : Decides (pointwise (same_part same_method) a b) (a ≡ b) =
    slice_eq-Decides (decides_part same_method decides_method) a b _ refl in
    (λ same. ap (λ (it : List (ObjectId × Method)). op.Act it) (parts.0 same), λ same. parts.1 (cc))
decides_op (op.Act a) (op.Query b) = (λ same. absurd (false≢true same), λ same. absurd (cc))
decides_op (op.Query a) (op.Act b) = (λ same. absurd (false≢true same), λ same. absurd (cc))
decides_op (op.Query a) (op.Query b) =
    let parts : Decides (pointwise (same_part same_ask) a b) (a ≡ b) =
    slice_eq-Decides (decides_part same_ask decides_ask) a b _ refl in
    (λ same. ap (λ (it : List (ObjectId × Ask)). op.Query it) (parts.0 same), λ same. parts.1 (cc))

pub decides_answer : (a b : Answer) → Decides (same_answer a b) (a ≡ b)
decides_answer (answer.Ok a) (answer.Ok b) =
    let items : Decides (pointwise same_item a b) (a ≡ b) = slice_eq-Decides decides_item a b _ refl in
    (λ same. ap (λ (it : List Item). answer.Ok it) (items.0 same), λ same. items.1 (cc))
decides_answer (answer.Ok a) (answer.Refused at why) = (λ same. absurd (false≢true same), λ same. absurd (cc))
decides_answer (answer.Refused at why) (answer.Ok b) = (λ same. absurd (false≢true same), λ same. absurd (cc))
decides_answer (answer.Refused at why) (answer.Refused other reason) = (
  λ same.
      let parts : (at == other ≡ true) × (why == reason ≡ true) = and_parts _ _ same in
      let place : at ≡ other = (Decides-eqb at other).0 parts.0 in
      let number : why ≡ reason = (Decides-eqb why reason).0 parts.1 in
      λ i. answer.Refused (place i) (number i),
  λ same. and_from _ _ ((Decides-eqb at other).1 (cc)) ((Decides-eqb why reason).1 (cc)),
)

-- ---- an operation and a point

pub decides_stands : (operation : OpRecord) (point : Point) → Decides (stands operation point) (Stands operation point)
decides_stands operation point = (
  λ test.
      let correct : (not point.faulty ≡ true)
      × (((operation.client).0 == (point.client).0 && (operation.number == point.number && same_op
      operation.op point.op)) ≡ true) = and_parts _ _ test in
      let client : ((operation.client).0 == (point.client).0 ≡ true)
      × ((operation.number == point.number && same_op operation.op point.op) ≡ true) = and_parts _ _ correct.1 in
      let number : (operation.number == point.number ≡ true) × (same_op operation.op point.op ≡ true) =
      and_parts _ _ client.1 in
      record {
        correct = not-true point.faulty correct.0;
        client = client_is operation.client point.client ((Decides-eqb _ _).0 client.0);
        number = (Decides-eqb _ _).0 number.0;
        op = (decides_op operation.op point.op).0 number.1;
      },
  λ it.
      and_from _ _ (not_from_false point.faulty it.correct)
      (and_from _ _
      ((Decides-eqb (operation.client).0 (point.client).0).1 (ap (λ (client : ClientId). client.0) it.client))
      (and_from _ _ ((Decides-eqb operation.number point.number).1 it.number)
      ((decides_op operation.op point.op).1 it.op))),
)

pub decides_agree : (first second : Point) → Decides (agree first second) (Agree first second)
decides_agree first second = (
  λ test.
      let faulty : (beq first.faulty second.faulty ≡ true)
      × (((first.client).0 == (second.client).0 && (first.number == second.number && same_op first.op
      second.op)) ≡ true) = and_parts _ _ test in
      let client : ((first.client).0 == (second.client).0 ≡ true)
      × ((first.number == second.number && same_op first.op second.op) ≡ true) = and_parts _ _ faulty.1 in
      let number : (first.number == second.number ≡ true) × (same_op first.op second.op ≡ true) =
      and_parts _ _ client.1 in
      record {
        faulty = (booleans_Decides first.faulty second.faulty).0 faulty.0;
        client = client_is first.client second.client ((Decides-eqb _ _).0 client.0);
        number = (Decides-eqb _ _).0 number.0;
        op = (decides_op first.op second.op).0 number.1;
      },
  λ it.
      and_from _ _ ((booleans_Decides first.faulty second.faulty).1 it.faulty)
      (and_from _ _
      ((Decides-eqb (first.client).0 (second.client).0).1 (ap (λ (client : ClientId). client.0) it.client))
      (and_from _ _ ((Decides-eqb first.number second.number).1 it.number) ((decides_op first.op second.op).1 it.op))),
)

-- ---- some of a list

-- one of the list passes
pub record Passes {X : Type 0} (test : X → Bool) (all : List X) : Type 0 where
  pub found : X
  pub of_list : Contains all found
  pub passes : test found ≡ true

pub passes_from_any : {X : Type 0} (test : X → Bool) (all : List X) → list_any test all ≡ true → Passes test all
passes_from_any test all any =
    let one = Any-from_list_any test all any in
    record { found = one.1; of_list = (one.0, one.2, one.3); passes = one.4 }

pub decides_known : (operations : List OpRecord) (point : Point) → Decides (is_of_operations operations point)
    (IsOfOperations operations point)
decides_known operations point = (
  λ any.
      let one = passes_from_any (λ (operation : OpRecord). stands operation point) operations any in
      record { operation = one.found; of_list = one.of_list; stands = (decides_stands one.found point).0 one.passes },
  λ known. any_contained (λ (operation : OpRecord). stands operation point) operations known.operation
      known.of_list ((decides_stands known.operation point).1 known.stands),
)
