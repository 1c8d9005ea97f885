-- The candidates of an update: acts, one on each object, of one update.
use Rattle.std.proofs.Common.{◌≡◌, true, length, refl, sym, ap, subst, ◌∙◌, arith, inl, inr}
use Rattle.std.proofs.lemmas.Bool.{false≢true, cases_eq}
use Rattle.std.proofs.lemmas.Option.{same_Some}
use Rattle.qu_base.specs.declared.party.ObjectId.{ObjectId}
use Rattle.qu_stamp.specs.declared.candidate.Candidate.{Candidate}
use Rattle.qu_stamp.specs.Candidate.{opening}
use Rattle.qu_chain.specs.Laws.{Laws}
use Rattle.qu_chain.specs.Joint.{Joint}
use Rattle.qu_claims.specs.Groups.{InGroup, IsOneAct}
use Rattle.qu_chain.proofs.Groups.{companion_is, members_agree}
use Rattle.qu_chain.proofs.Parents.{First, first_new}
use Rattle.qu_chain.proofs.Ancestry.{one_candidate}
use Rattle.qu_trace.specs.declared.trace.Trace.{Trace}
use Rattle.qu_claims.specs.RunSetting.{setting}
use Rattle.qu_claims.specs.Updates.{Update, IsOf, IsEverAccepted}
use Rattle.qu_runs.proofs.Acts.OneAct.{ActsAreOne, one_made_for}

-- the last time is that after all events
pub last_is : (trace : Trace) → (setting trace).last ≡ length trace.entries
unfolding setting
last_is trace = refl

-- the opening candidate is no act
pub opening_no_act : (trace : Trace) (candidate : Candidate) → candidate ≡ opening
    → (setting trace).is_act candidate ≡ true → ⊥
unfolding setting
opening_no_act trace candidate is_opening is_act =
    false≢true (ap (setting trace).is_act (sym is_opening) ∙ is_act)

-- what is made for an update is an act
pub acts : (trace : Trace) (update : Update) (object : ObjectId) (candidate : Candidate)
    → IsOf trace update object candidate → (setting trace).is_act candidate ≡ true
unfolding setting
acts trace update object candidate one = rw (one.made).of_act refl

-- a candidate is made for one update
pub one_of : (trace : Trace) → ActsAreOne trace → (update other : Update) (object : ObjectId) (candidate : Candidate)
    → IsOf trace update object candidate → IsOf trace other object candidate → update ≡ other
one_of trace one_act update other object candidate one two =
    let same = one_made_for trace one_act candidate update.client other.client update.number other.number update.parts
    other.parts one.made two.made in
    λ i. record { client = same.0 i; number = same.1 i; parts = same.2 i }

module _ (trace : Trace) (laws : Laws (setting trace)) (joint : Joint (setting trace)) where
  -- accepted candidates with one stamp are one
  pub same_accepted : (object : ObjectId) (candidate other : Candidate) → IsEverAccepted trace object candidate
      → IsEverAccepted trace object other → candidate.stamp ≡ other.stamp → candidate ≡ other
  same_accepted object candidate other accepted also same =
      one_candidate (setting trace) laws.lasting joint.one (setting trace).last (setting trace).last (omega arith)
      (omega arith) object candidate other accepted also same

  -- a candidate has one companion on an object
  pub one_companion : (object other : ObjectId) (candidate first second : Candidate)
      → IsOneAct (setting trace) object other candidate first → IsOneAct (setting trace) object other candidate second
      → IsEverAccepted trace other first → IsEverAccepted trace other second → first ≡ second
  one_companion object other candidate first second (inl one) (inl two) accepted also = sym one.1 ∙ two.1
  one_companion object other candidate first second (inl one) (inr two) accepted also =
      absurd (two.apart (ap (λ (it : ObjectId). it.0) one.0))
  one_companion object other candidate first second (inr one) (inl two) accepted also =
      absurd (one.apart (ap (λ (it : ObjectId). it.0) two.0))
  one_companion object other candidate first second (inr one) (inr two) accepted also =
      same_accepted other first second accepted also
      (same_Some first.stamp second.stamp (sym one.is_member ∙ two.is_member))

  -- of what one update makes on three objects, two are one act
  pub one_act_of : (object : ObjectId) (candidate : Candidate) → (setting trace).is_act candidate ≡ true
      → IsEverAccepted trace object candidate → (other third : ObjectId) (companion last : Candidate)
      → IsOneAct (setting trace) object other candidate companion
      → IsOneAct (setting trace) object third candidate last
      → IsEverAccepted trace other companion → IsEverAccepted trace third last
      → IsOneAct (setting trace) other third companion last
  one_act_of object candidate is_act accepted other third companion last (inl one) two also too =
      subst (λ (it : ObjectId). IsOneAct (setting trace) it third companion last) one.0
      (subst (λ (it : Candidate). IsOneAct (setting trace) object third it last) one.1 two)
  one_act_of object candidate is_act accepted other third companion last (inr one) (inl two) also too =
      subst (λ (it : ObjectId). IsOneAct (setting trace) other it companion last) two.0
      (subst (λ (it : Candidate). IsOneAct (setting trace) other object companion it) two.1
      (inr (record {
        apart = λ same. one.apart (sym same);
        is_member = (companion_is (setting trace) laws joint (setting trace).last (omega arith) object candidate other
            companion accepted one.apart also one.is_member).back;
      })))
  one_act_of object candidate is_act accepted other third companion last (inr one) (inr two) also too =
      elim (cases_eq other.0 third.0) [
        | inl same ↦
            let objects : other ≡ third = λ i. record { 0 = same i } in
            inl (
              objects,
              one_companion object third candidate companion last
                  (inr (subst (λ (it : ObjectId). InGroup (setting trace) object it candidate companion) objects one))
                  (inr two)
                  (subst (λ (it : ObjectId). IsEverAccepted trace it companion) objects also) too,
            )
        | inr apart ↦ inr (record {
          apart = apart;
          is_member = members_agree (setting trace) laws joint object candidate first accepted other third companion
              last one.apart two.apart apart also too one.is_member two.is_member;
        })
      ]
    where
      first : First (setting trace) (setting trace).last object candidate
      first =
          elim (first_new (setting trace) laws (setting trace).last (omega arith) object candidate accepted) [
            | inl begins ↦ absurd (opening_no_act trace candidate begins is_act)
            | inr it ↦ it
          ]
