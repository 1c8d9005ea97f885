-- The handled acts besides the queries, one act after another.
use Rattle.std.proofs.Common.{◌≡◌, ◌⊎◌, ℕ, ◌+◌, ◌<◌, Bool, true, false, cond, List, [], ◌∷◌, ◌++◌, length, get_or, take, sym, ap, subst, ◌∙◌, inl, inr}
use Rattle.std.specs.Prelude.{Contains}
use Rattle.std.specs.List.{All, list_any}
use Rattle.std.proofs.lemmas.Bool.{false≢true, cases_Bool}
use Rattle.std.proofs.lemmas.List.{take_more, append-nil}
use Rattle.std.proofs.lemmas.List.Elements.{All-contains, All-take, Contains-append_left, Contains-push, Contains-push_cases, Contains-get_or}
use Rattle.std.proofs.lemmas.List.Quantifiers.{all_pairs_push}
use Rattle.qu_base.proofs.Numbered.{client_is}
use Rattle.qu_machine.specs.declared.record.OpRecord.{OpRecord}
use Rattle.qu_claims.specs.Order.{op_bytes}
use Rattle.qu_points.specs.Points.{NamedAct, is_named_act, is_query, as_operation, AreDistinct, IsActOf, AddsActs, new_act, ActFits}
use Rattle.qu_points.proofs.Handled.Bodies.{one_body, no_query}
use Rattle.qu_points.proofs.Handled.HandledActs.{listed, among}

abbrev is_among : NamedAct → List NamedAct → Bool
is_among act acts = list_any (is_named_act act.0 act.1 act.2) acts

act_later : (before : List NamedAct) (act : NamedAct) (operation : OpRecord)
    → IsActOf before operation → IsActOf (before ++ act ∷ []) operation
act_later before act operation is = record {
  act = is.act;
  of_list = Contains-append_left before (act ∷ []) is.act is.of_list;
  is = is.is;
}

module _ (before : List NamedAct) (act : NamedAct) (old operations : List OpRecord)
    (adds : AddsActs before old operations) where
  later_sound : (operation : OpRecord) → Contains operations operation
      → Contains old operation ⊎ IsActOf (before ++ act ∷ []) operation
  later_sound operation held =
      elim (adds.sound operation held) [
        | inl own ↦ inl own
        | inr is ↦ inr (act_later before act operation is)
      ]

  -- an act that stands there already
  skip : Contains before act → AddsActs (before ++ act ∷ []) old operations
  skip there = record {
    distinct = adds.distinct;
    sound = later_sound;
    kept = adds.kept;
    complete = λ other held. elim (Contains-push_cases before act other held) [
      | inl earlier ↦ adds.complete other earlier
      | inr same ↦
          subst (λ (it : NamedAct). Contains operations (as_operation it)) same (adds.complete act there)
    ];
  }

  module _ (queries : All (λ (operation : OpRecord). is_query operation ≡ true) old) (fit : All ActFits before)
      (fits : ActFits act) (is_new : is_among act before ≡ false) where
    other_query : (operation : OpRecord) → Contains old operation → AreDistinct operation (as_operation act)
    other_query operation held clients numbers bodies =
        no_query operation.op act.2
        (All-contains (λ (it : OpRecord). is_query it ≡ true) old operation queries held) bodies

    other_act : (operation : OpRecord) → IsActOf before operation → AreDistinct operation (as_operation act)
    other_act operation it clients numbers bodies =
        let client : (it.act).0 ≡ act.0 =
        client_is (it.act).0 act.0 (ap (λ (one : OpRecord). (one.client).0) (sym it.is) ∙ clients) in
        let number : (it.act).1 ≡ act.1 = ap (λ (one : OpRecord). one.number) (sym it.is) ∙ numbers in
        let parts : (it.act).2 ≡ act.2 =
        one_body it.act act (All-contains ActFits before it.act fit it.of_list) fits
        (ap (λ (one : OpRecord). op_bytes one.op) (sym it.is) ∙ bodies) in
        let same : it.act ≡ act = (λ i. (client i, number i, parts i)) in
        absurd (false≢true (sym is_new
        ∙ among before act (subst (λ (one : NamedAct). Contains before one) same it.of_list)))

    from_each : (operation : OpRecord) → Contains operations operation → AreDistinct operation (as_operation act)
    from_each operation held =
        elim (adds.sound operation held) [
          | inl own ↦ other_query operation own
          | inr it ↦ other_act operation it
        ]

    -- an act that is new
    add : AddsActs (before ++ act ∷ []) old (operations ++ as_operation act ∷ [])
    add = record {
      distinct = all_pairs_push AreDistinct operations (as_operation act) adds.distinct (λ place default below.
          from_each (get_or operations place default) (Contains-get_or operations place default below));
      sound = λ operation held. elim (Contains-push_cases operations (as_operation act) operation held) [
        | inl earlier ↦ later_sound operation earlier
        | inr same ↦ inr (record { act = act; of_list = Contains-push before act; is = sym same })
      ];
      kept = λ operation held.
          Contains-append_left operations (as_operation act ∷ []) operation (adds.kept operation held);
      complete = λ other held. elim (Contains-push_cases before act other held) [
        | inl earlier ↦ Contains-append_left operations (as_operation act ∷ []) (as_operation other)
            (adds.complete other earlier)
        | inr same ↦
            subst (λ (it : NamedAct). Contains (operations ++ as_operation act ∷ []) (as_operation it)) same
            (Contains-push operations (as_operation act))
      ];
    }

  adds_next : All (λ (operation : OpRecord). is_query operation ≡ true) old → All ActFits before → ActFits act
      → (new : List OpRecord) → new ≡ operations ++ new_act before act → AddsActs (before ++ act ∷ []) old new
  adds_next queries fit fits new is =
      elim (cases_Bool (is_among act before)) [
        | inl there ↦ subst (AddsActs (before ++ act ∷ []) old)
            (sym (is ∙ ap (λ (it : Bool). operations ++ cond it [] (as_operation act ∷ [])) there
            ∙ append-nil operations))
            (skip (listed before act there))
        | inr is_new ↦ subst (AddsActs (before ++ act ∷ []) old)
            (sym (is ∙ ap (λ (it : Bool). operations ++ cond it [] (as_operation act ∷ [])) is_new))
            (add queries fit fits is_new)
      ]

-- one act more
pub adds_more : (acts : List NamedAct) (index : ℕ) (act : NamedAct) (old operations new : List OpRecord)
    → All (λ (operation : OpRecord). is_query operation ≡ true) old → All ActFits acts → index < length acts
    → act ≡ get_or acts index act → AddsActs (take index acts) old operations
    → new ≡ operations ++ new_act (take index acts) act → AddsActs (take (index + 1) acts) old new
adds_more acts index act old operations new queries fit below is adds added =
    subst (λ (these : List NamedAct). AddsActs these old new)
    (sym (take_more acts index act below ∙ ap (λ (it : NamedAct). take index acts ++ it ∷ []) (sym is)))
    (adds_next (take index acts) act old operations adds queries (All-take ActFits index acts fit)
    (subst ActFits (sym is) (All-contains ActFits acts (get_or acts index act) fit
    (Contains-get_or acts index act below)))
    new added)
