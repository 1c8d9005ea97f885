-- How an object is mended without barrier: what is shown there is added, or what is chosen there is copied, together
-- with what is chosen on the other objects of the target's plan.
use Rattle.std.proofs.Common.{◌≡◌, ◌⊎◌, ◌≤◌, ◌+◌, ℕ, true, false, List, [], ◌∷◌, map, Option, Result, Ok, sym, ap, subst, ◌∙◌, inl, inr, arith}
use Rattle.std.proofs.lemmas.Bool.{false≢true}
use Rattle.qu_base.specs.Bounds.{quorum}
use Rattle.qu_base.specs.declared.party.ObjectId.{ObjectId}
use Rattle.qu_stamp.specs.declared.stamp.Stamp.{Stamp}
use Rattle.qu_stamp.specs.declared.candidate.Candidate.{Candidate}
use Rattle.qu_stamp.specs.Group.{listed_time}
use Rattle.qu_history.specs.Sets.{entries_of, order_of, latest_of}
use Rattle.qu_objects.specs.declared.state.ObjState.{ObjState}
use Rattle.qu_plan.specs.declared.plan.CopyPlan.{CopyPlan}
use Rattle.qu_plan.specs.declared.plan.PlanFail.{PlanFail}
use Rattle.qu_plan.specs.Copying.{plan_of}
use Rattle.qu_plan.specs.Chosen.{chosen_on}
use Rattle.qu_rows.specs.Rows.{Asked, fresh_stamp, fresh_group, objects_of, linking_of}
use Rattle.qu_rows.specs.State.{ReplicaState}
use Rattle.qu_claims.specs.Grounds.{IsFound, IsMade, IsPlanned, IsRemedy, Mends, MendsOn}
use Rattle.qu_claims.specs.Parts.{Names}
use Rattle.qu_grounds.proofs.Together.{IsMemberAt, member_at, fresh_listed}

-- a copy on an object of a plan, where a quorum holds the latest, a barrier
pub record IsCopy (state : ReplicaState) (asked : Asked) (plan : CopyPlan) (object : ObjectId) (copy : Candidate)
    : Type 0 where
  pub plain : copy.stamp.barrier ≡ false
  pub made : IsMade asked (chosen_on state.keys.bounds asked.sets (linking_of state) object) (objects_of plan.joint)
      object copy
  pub latest : Candidate
  pub barrier : latest.stamp.barrier ≡ true
  pub is_latest : latest.stamp ≡ latest_of (entries_of object asked.sets)
  pub full : quorum state.keys.bounds ≤ order_of latest (entries_of object asked.sets)

-- and the plan by which it is
pub record IsCopiedBy (state : ReplicaState) (asked : Asked) (target object : ObjectId) (copy : Candidate)
    : Type 0 where
  pub plan : CopyPlan
  pub planned : IsPlanned state asked target plan
  pub names : Names plan.joint object
  pub is_copy : IsCopy state asked plan object copy

-- what has no barrier is found, or a copy
pub how_mended : (state : ReplicaState) (asked : Asked) (target object : ObjectId) (candidate : Candidate)
    (version : Option ObjState) → candidate.stamp.barrier ≡ false
    → IsRemedy state asked target object candidate version
    → IsFound state.keys.bounds asked object candidate ⊎ IsCopiedBy state asked target object candidate
how_mended state asked target object candidate version plain (IsRemedy.inline_barrier barrier found) =
    absurd (false≢true (sym plain ∙ barrier))
how_mended state asked target object candidate version plain (IsRemedy.inline_method stored kind found has) = inl found
how_mended state asked target object candidate version plain (IsRemedy.barrier barrier made) =
    absurd (false≢true (sym plain ∙ barrier))
how_mended state asked target object candidate version plain
    (IsRemedy.copy latest plan before kind planned names made barrier is_latest full has) =
    inr (record {
      plan = plan;
      planned = planned;
      names = names;
      is_copy = record {
        plain = kind;
        made = made;
        latest = latest;
        barrier = barrier;
        is_latest = is_latest;
        full = full;
      };
    })

no_later : (at : ℕ) → at ≡ at + 1 → ⊥
no_later at same = omega (arith, same)

one_ok : (result : Result CopyPlan PlanFail) (one other : CopyPlan) → result ≡ Ok one → result ≡ Ok other → other ≡ one
one_ok result one other is also = cc

-- a target has one plan, so that what has a fresh stamp without barrier is a copy by it
module _ (state : ReplicaState) (asked : Asked) (target : ObjectId) (plan : CopyPlan)
    (planned : IsPlanned state asked target plan) where
  same_plan : (other : CopyPlan) → IsPlanned state asked target other → other ≡ plan
  same_plan other also =
      one_ok (plan_of state.keys.bounds asked.sets (linking_of state) target) plan other planned.is also.is

  copy_of_remedy : (object : ObjectId) (stamp : Stamp) → stamp.barrier ≡ false → (copy : Candidate)
      (version : Option ObjState) → IsRemedy state asked target object copy version
      → copy.stamp ≡ record stamp { time = (fresh_stamp asked object).time } → IsCopy state asked plan object copy
  copy_of_remedy object stamp plain copy version (IsRemedy.inline_barrier barrier found) is =
      absurd (false≢true (sym plain ∙ sym (ap (λ (it : Stamp). it.barrier) is) ∙ barrier))
  copy_of_remedy object stamp plain copy version (IsRemedy.inline_method stored kind found has) is =
      absurd (no_later (latest_of (entries_of object asked.sets)).time
      (sym (ap (λ (it : Stamp). it.time) found.latest) ∙ ap (λ (it : Stamp). it.time) is))
  copy_of_remedy object stamp plain copy version (IsRemedy.barrier barrier made) is =
      absurd (false≢true (sym plain ∙ sym (ap (λ (it : Stamp). it.barrier) is) ∙ barrier))
  copy_of_remedy object stamp plain copy version
      (IsRemedy.copy latest other before kind also names made barrier is_latest full has) is = record {
        plain = kind;
        made = subst (λ (it : CopyPlan). IsMade asked
            (chosen_on state.keys.bounds asked.sets (linking_of state) object) (objects_of it.joint) object copy)
            (same_plan other also) made;
        latest = latest;
        barrier = barrier;
        is_latest = is_latest;
        full = full;
      }

-- ---- what is copied together

names_timed : {X : Type 0} (time : ObjectId → ℕ) (parts : List (ObjectId × X)) (object : ObjectId) → Names parts object
    → Names (map (λ (it : ObjectId). (it, time it)) (objects_of parts)) object
names_timed time [] object none = none
names_timed time (part ∷ later) object (inl same) = inl same
names_timed time (part ∷ later) object (inr there) = inr (names_timed time later object there)

-- the group of fresh copies names their objects, if it is not of one object alone
fresh_names : {X : Type 0} (asked : Asked) (parts : List (ObjectId × X)) (first other : ObjectId) → Names parts first
    → Names parts other
    → (first ≡ other)
    ⊎ (Names (fresh_group asked (objects_of parts)) first × Names (fresh_group asked (objects_of parts)) other)
fresh_names asked [] first other none there = absurd none
fresh_names asked (part ∷ []) first other (inl here) (inl there) = inl (sym here ∙ there)
fresh_names asked (part ∷ []) first other (inl here) (inr none) = absurd none
fresh_names asked (part ∷ []) first other (inr none) there = absurd none
fresh_names asked (one ∷ two ∷ later) first other here there =
    let time : ObjectId → ℕ = λ it. (fresh_stamp asked it).time in
    inr (names_timed time (one ∷ two ∷ later) first here, names_timed time (one ∷ two ∷ later) other there)

named_mended : (target : ObjectId) (group : List (ObjectId × ℕ)) (object : ObjectId) → Names group object
    → MendsOn target group object
named_mended target [] object none = absurd none
named_mended target (member ∷ later) object names = names

module _ (old new : ReplicaState) (asked : Asked) (target : ObjectId) (group : List (ObjectId × ℕ))
    (candidates : ObjectId → Candidate) (mends : Mends old new asked target group candidates) (plan : CopyPlan)
    (planned : IsPlanned old asked target plan) (first : ObjectId) (names : Names plan.joint first)
    (mended : MendsOn target group first) (is_copy : IsCopy old asked plan first (candidates first)) where
  abbrev pub IsCopiedToo : ObjectId → Type 0
  IsCopiedToo other = MendsOn target group other × IsCopy old asked plan other (candidates other)

  group_is : fresh_group asked (objects_of plan.joint) ≡ group
  group_is = sym (is_copy.made).group ∙ mends.whole first mended

  copied_too : (other : ObjectId) → Names group first → Names group other → IsCopiedToo other
  copied_too other here there =
      let also : MendsOn target group other = named_mended target group other there in
      let it : IsMemberAt (candidates first) other (candidates other).stamp =
      member_at (candidates first) other (candidates other).stamp (mends.listed first other here there) in
      let listed : Names plan.joint other × ((fresh_stamp asked other).time ≡ it.time) =
      fresh_listed asked plan.joint other it.time (ap (listed_time other) (sym (is_copy.made).group) ∙ it.listed) in (
        also,
        copy_of_remedy old asked target plan planned other (candidates first).stamp is_copy.plain (candidates other)
            (mends.versions other) (mends.remedy other also)
            (sym it.is ∙ ap (λ (at : ℕ). record (candidates first).stamp { time = at }) (sym listed.1)),
      )

  -- on each object of the plan
  pub each_copied : (other : ObjectId) → Names plan.joint other → IsCopiedToo other
  each_copied other there = elim (fresh_names asked plan.joint first other names there) [
    | inl same ↦ subst IsCopiedToo same (mended, is_copy)
    | inr both ↦
        copied_too other (subst (λ (it : List (ObjectId × ℕ)). Names it first) group_is both.0)
        (subst (λ (it : List (ObjectId × ℕ)). Names it other) group_is both.1)
  ]
