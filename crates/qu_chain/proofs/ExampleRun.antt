-- The laws can be met, so their theorems say something. Five replicas, of which two are faulty, and two
-- objects. Replica 0 accepts an act on both objects, then a barrier on both, then a copy of the act on both;
-- replicas 1 and 2 accept the copy, which decides the row. Then replica 0 accepts a barrier and a copy of the
-- copy on the first object alone. Each candidate is known by its stamp's time, so each law is a test on
-- numbers, answered by computing.
use Rattle.std.proofs.Common.{◌≡◌, ◌⊎◌, ℕ, suc, ◌+◌, ◌<◌, ◌≤◌, Bool, true, false, not, cond, refl, sym, ap, ◌∙◌, subst, arith, inl, inr, None, Some}
use Rattle.std.specs.Prelude.{nat_lt, nat_eq}
use Rattle.std.proofs.lemmas.Bool.{false≢true, cases_Bool, cases_eq, not-true, ltb-true, eqb-true}
use Rattle.std.proofs.lemmas.Bool.Decides.{nat_tests}
use Rattle.qu_base.specs.declared.party.ObjectId.{ObjectId}
use Rattle.qu_stamp.specs.declared.stamp.Stamp.{Stamp}
use Rattle.qu_stamp.specs.declared.candidate.Candidate.{Candidate}
use Rattle.qu_stamp.specs.Stamp.{is_below}
use Rattle.qu_stamp.specs.Candidate.{opening}
use Rattle.qu_stamp.proofs.Order.{is_below-self, is_below-not_back, is_below_by_time}
use Rattle.qu_claims.specs.Count.{count}
use Rattle.qu_claims.specs.Setting.{acceptors, IsEstablished, IsAttested, IsNew}
use Rattle.qu_chain.specs.Laws.{Sizes, IsLinked, Given, Laws}
use Rattle.qu_claims.specs.Decided.{IsDecided, IsDecidedBy}
use Rattle.qu_chain.specs.Joint.{HasCompanion, IsCopied, Joint}
use Rattle.qu_chain.proofs.Ancestry.{Acceptor, acceptor}
use Rattle.qu_chain.proofs.ExampleSteps.{is_barrier, prior_of, stamp_at, candidate_at, reaches, mover, number_at, when, is_accepted, run, all_below-at, holders, Held, held, accepted_at, by_held, reaches-more, Brings, brings, rises, passes_none, is_settling, rested, here_too}

-- ---- the laws

sizes_met : Sizes run
unfolding count
sizes_met = record {
  borne = omega arith;
  counted = refl;
  meets = omega arith;
  shares = omega arith;
  within = omega arith;
}

-- ---- facts of numbers

starts : (replica number : ℕ) → when replica number ≤ 0 → number ≡ 0
starts replica number since = grind (arith, nat_tests)

brought : (time : ℕ) → time < 7 → when (mover time) (number_at time) ≡ suc time
brought time bound =
    eqb-true (when (mover time) (number_at time)) (suc time)
    (all_below-at 7 (λ step. nat_eq (when (mover step) (number_at step)) (suc step)) refl time bound)

moves_good : (time : ℕ) → nat_lt (mover time) 3 ≡ true
moves_good time = grind (arith, nat_tests)

numbers : (time : ℕ) → (1 ≤ number_at time) × (number_at time < 6)
numbers time = (grind (arith, nat_tests), grind (arith, nat_tests))

prior_below : (number : ℕ) → 1 ≤ number → prior_of number < number
prior_below number some = grind (arith, nat_tests)

prior_plain : (number : ℕ) → not (is_barrier (prior_of number)) ≡ true
prior_plain number = grind (arith, nat_tests)

act_settles : (number : ℕ) → nat_eq number 1 ≡ true → is_settling number ≡ true
act_settles number is_act = grind (arith, nat_tests)

narrower : (number : ℕ) (object : ObjectId) → number < 6 → is_barrier number ≡ false
    → reaches (prior_of number) object ≡ true → reaches number object ≡ false → is_settling number ≡ true
narrower number object known plain below_here not_here = grind (arith, nat_tests)

not_above : (number : ℕ) (stamp : Stamp) → stamp ≡ stamp_at stamp.time → stamp.time ≤ number
    → is_below (stamp_at number) stamp ≡ false
not_above number stamp is_numbered order =
    elim (cases_eq stamp.time number) [
      | inl same_number ↦
          ap (is_below (stamp_at number)) (is_numbered ∙ ap stamp_at same_number) ∙ is_below-self (stamp_at number)
      | inr other ↦
          is_below-not_back stamp (stamp_at number) (is_below_by_time stamp (stamp_at number) (omega arith))
    ]

is_member-parts : (here : Bool) (stamp member : Stamp) → cond here (Some stamp) None ≡ Some member
    → (here ≡ true) × (stamp ≡ member)
is_member-parts true stamp member is_member = (refl, cc)
is_member-parts false stamp member is_member = absurd (cc)

is_none : (here : Bool) (stamp : Stamp) → cond here (Some stamp) None ≡ None → here ≡ false
is_none true stamp none = absurd (cc)
is_none false stamp none = refl

has_member : (candidate : Candidate) (object : ObjectId) → reaches candidate.stamp.time object ≡ true
    → run.member candidate object ≡ Some candidate.stamp
has_member candidate object here = ap (λ (it : Bool). cond it (Some candidate.stamp) None) here

-- ---- each step against the laws

module _ (time : ℕ) (object : ObjectId) (replica : ℕ) (candidate : Candidate)
    (new : IsNew run time object replica candidate) where
  it : Brings time object replica candidate
  it = brings time object replica candidate new

  same_time : candidate.stamp.time ≡ number_at time
  same_time = ap (λ (one : Candidate). one.stamp.time) it.is

  by_mover : (number : ℕ) → when replica number ≤ time → when (mover time) number ≤ time
  by_mover number since = subst (λ (by : ℕ). when by number ≤ time) it.by since

  above : (earlier : Candidate) → is_accepted time object replica earlier ≡ true
      → is_below earlier.stamp candidate.stamp ≡ true
  above earlier accepted =
      let its : Held time object replica earlier = held time object replica earlier accepted in
      let lower : earlier.stamp.time < number_at time =
      rises time earlier.stamp.time it.bound its.within (by_mover earlier.stamp.time its.since) in
      let same_number : candidate.stamp.time ≡ number_at time = same_time in
      is_below_by_time earlier.stamp candidate.stamp (omega arith)

  module _ (plain : not candidate.stamp.barrier ≡ true) where
    not_barrier : is_barrier (number_at time) ≡ false
    not_barrier = ap (λ (one : Candidate). one.stamp.barrier) (sym it.is) ∙ not-true candidate.stamp.barrier plain

    abbrev base : Candidate
    base = candidate_at (prior_of (number_at time))

    base_here : (other : ObjectId) → reaches (number_at time) other ≡ true
        → reaches (prior_of (number_at time)) other ≡ true
    base_here other here =
        let some : 1 ≤ number_at time = (numbers time).0 in
        let lower : prior_of (number_at time) < number_at time = prior_below (number_at time) some in
        reaches-more (prior_of (number_at time)) (number_at time) other (omega arith) here

    on_base : (other : ObjectId) → reaches (prior_of (number_at time)) other ≡ true
        → cond (is_settling (number_at time)) 3 1 ≤ acceptors run time other base
    on_base other here =
        let some : 1 ≤ number_at time = (numbers time).0 in
        let known : number_at time < 6 = (numbers time).1 in
        let lower : prior_of (number_at time) < number_at time = prior_below (number_at time) some in
        let enough : cond (is_settling (number_at time)) 3 1 ≤ holders time (prior_of (number_at time)) =
        rested time it.bound not_barrier in
        let as_many : holders time (prior_of (number_at time)) ≤ acceptors run time other base =
        here_too time other (prior_of (number_at time)) (omega arith) here in
        omega arith

    base_attested : IsAttested run time object base
    base_attested =
        some_more (is_settling (number_at time)) (acceptors run time object base)
        (on_base object (base_here object it.here))
      where
        some_more : (settles : Bool) (number : ℕ) → cond settles 3 1 ≤ number → 3 ≤ number + 2
        some_more true number enough = omega arith
        some_more false number enough = omega arith

    base_established : (other : ObjectId) → reaches (prior_of (number_at time)) other ≡ true
        → is_settling (number_at time) ≡ true → IsEstablished run time other base
    base_established other here settles =
        let enough : 3 ≤ acceptors run time other base =
        subst (λ (it : Bool). cond it 3 1 ≤ acceptors run time other base) settles (on_base other here) in
        omega arith

    linked : IsLinked run time object replica candidate
    linked =
        let lower : prior_of (number_at time) < number_at time = prior_below (number_at time) (numbers time).0 in
        let same_number : candidate.stamp.time ≡ number_at time = same_time in
        record {
          base = base;
          plain_base = prior_plain (number_at time);
          prior = ap (λ (one : Candidate). one.prior) it.is;
          below = is_below_by_time base.stamp candidate.stamp (omega arith);
          attested = base_attested;
          settled = λ is_act.
              base_established object (base_here object it.here)
              (act_settles (number_at time) (ap (λ (number : ℕ). nat_eq number 1) (sym same_time) ∙ is_act));
          not_below = λ other other_plain established accepted.
              let its : Held time object replica other = held time object replica other accepted in
              not_above (prior_of (number_at time)) other.stamp
              (ap (λ (one : Candidate). one.stamp) its.is_numbered)
              (passes_none time other.stamp.time it.bound its.within (by_mover other.stamp.time its.since)
              (ap (λ (one : Candidate). one.stamp.barrier) (sym its.is_numbered)
              ∙ not-true other.stamp.barrier other_plain) not_barrier);
        }

    copied : IsCopied run time object replica candidate
    copied = record {
      base = base;
      prior = ap (λ (one : Candidate). one.prior) it.is;
      attested = base_attested;
      joined = λ other companion apart is_member accepted.
          let parts : (reaches candidate.stamp.time other ≡ true) × (candidate.stamp ≡ companion.stamp) =
          is_member-parts (reaches candidate.stamp.time other) candidate.stamp companion.stamp is_member in
          let its : Held (suc time) other replica companion = held (suc time) other replica companion accepted in
          let same_number : companion.stamp.time ≡ number_at time =
          ap (λ (stamp : Stamp). stamp.time) (sym parts.1) ∙ same_time in
          has_member base other
          (base_here other (ap (λ (number : ℕ). reaches number other) (sym same_time) ∙ parts.0))
          ∙ ap (λ (number : ℕ). Some (stamp_at (prior_of number))) (sym same_number)
          ∙ ap (λ (one : Candidate). Some one.prior) (sym its.is_numbered);
      covered = λ other stamp apart is_member none.
          let parts : (reaches (prior_of (number_at time)) other ≡ true) × (base.stamp ≡ stamp) =
          is_member-parts (reaches (prior_of (number_at time)) other) base.stamp stamp is_member in
          record {
            candidate = base;
            stamp_is = parts.1;
            decided = IsDecided.established base (prior_plain (number_at time))
                (base_established other parts.0
                (narrower (number_at time) other (numbers time).1 not_barrier parts.0
                (ap (λ (number : ℕ). reaches number other) (sym same_time)
                ∙ is_none (reaches candidate.stamp.time other) candidate.stamp none)));
          };
    }

given : (time : ℕ) → time < 7 → (object : ObjectId) → reaches (number_at time) object ≡ true → Given run time object
given time bound object here =
    let known : number_at time < 6 = (numbers time).1 in
    let step : when (mover time) (number_at time) ≡ suc time = brought time bound in
    let good : mover time < 3 = ltb-true (mover time) 3 (moves_good time) in
    record {
      replica = mover time;
      candidate = candidate_at (number_at time);
      new = record {
        step = bound;
        within = omega arith;
        good = moves_good time;
        after = accepted_at (suc time) object (mover time) (number_at time) known here (omega arith);
        before = not_before;
      };
    }
  where
    not_before : is_accepted time object (mover time) (candidate_at (number_at time)) ≡ false
    not_before =
        elim (cases_Bool (is_accepted time object (mover time) (candidate_at (number_at time)))) [
          | inr not_yet ↦ not_yet
          | inl already ↦
              let its : Held time object (mover time) (candidate_at (number_at time)) =
              held time object (mover time) (candidate_at (number_at time)) already in
              let since : when (mover time) (number_at time) ≤ time = its.since in
              let step : when (mover time) (number_at time) ≡ suc time = brought time bound in
              absurd (omega arith)
        ]

moves : (time : ℕ) (object : ObjectId) → time < 7
    → Given run time object ⊎ ((replica : ℕ) (candidate : Candidate) → IsNew run time object replica candidate → ⊥)
moves time object bound =
    elim (cases_Bool (reaches (number_at time) object)) [
      | inl here ↦ inl (given time bound object here)
      | inr not_here ↦
          inr (λ replica candidate new.
          false≢true (sym not_here ∙ (brings time object replica candidate new).here))
    ]

started : (object : ObjectId) (replica : ℕ) (candidate : Candidate)
    → is_accepted 0 object replica candidate ≡ true → candidate ≡ opening
started object replica candidate accepted =
    let it : Held 0 object replica candidate = held 0 object replica candidate accepted in
    it.is_numbered ∙ ap candidate_at (starts replica candidate.stamp.time it.since)

known_here : (time : ℕ) (object : ObjectId) (replica : ℕ) (candidate : Candidate)
    → is_accepted time object replica candidate ≡ true → run.known object ≡ true
known_here time object replica candidate accepted =
    reaches-more 0 candidate.stamp.time object (omega arith) (held time object replica candidate accepted).here

grows : (time : ℕ) (object : ObjectId) (replica : ℕ) (candidate : Candidate)
    → is_accepted time object replica candidate ≡ true → is_accepted (suc time) object replica candidate ≡ true
grows time object replica candidate accepted =
    let it : Held time object replica candidate = held time object replica candidate accepted in
    let since : when replica candidate.stamp.time ≤ time = it.since in
    by_held time (suc time) object object replica candidate it it.here (omega arith)

joint : (time : ℕ) (object : ObjectId) (replica : ℕ) (candidate : Candidate) (other : ObjectId) (stamp : Stamp)
    → is_accepted time object replica candidate ≡ true → run.member candidate other ≡ Some stamp
    → HasCompanion run time object replica candidate other stamp
joint time object replica candidate other stamp accepted is_member =
    let it : Held time object replica candidate = held time object replica candidate accepted in
    let parts : (reaches candidate.stamp.time other ≡ true) × (candidate.stamp ≡ stamp) =
    is_member-parts (reaches candidate.stamp.time other) candidate.stamp stamp is_member in
    record {
      companion = candidate;
      stamp_is = parts.1;
      accepted_too = by_held time time object other replica candidate it parts.0 it.since;
      back = has_member candidate object it.here;
      plain_too = refl;
      act_too = refl;
    }

together : (time : ℕ) (object other_object : ObjectId) (replica other_replica : ℕ) (candidate other : Candidate)
    → IsNew run time object replica candidate → IsNew run time other_object other_replica other
    → run.member candidate other_object ≡ Some other.stamp
together time object other_object replica other_replica candidate other new other_new =
    let it : Brings time object replica candidate = brings time object replica candidate new in
    let its : Brings time other_object other_replica other = brings time other_object other_replica other other_new in
    has_member candidate other_object
    (ap (λ (one : Candidate). reaches one.stamp.time other_object) it.is ∙ its.here)
    ∙ ap (λ (one : Candidate). Some one.stamp) (it.is ∙ sym its.is)

one : (object : ObjectId) (replica other_replica : ℕ) (candidate other : Candidate)
    → is_accepted 7 object replica candidate ≡ true → is_accepted 7 object other_replica other ≡ true
    → candidate.stamp ≡ other.stamp → candidate ≡ other
one object replica other_replica candidate other accepted other_accepted same_stamp =
    (held 7 object replica candidate accepted).is_numbered
    ∙ ap (λ (stamp : Stamp). candidate_at stamp.time) same_stamp
    ∙ sym (held 7 object other_replica other other_accepted).is_numbered

pub laws_met : Laws run
laws_met = record {
  lasting = record { sizes = sizes_met; grows = grows };
  opens = refl;
  begins = λ object replica known good within.
      accepted_at 0 object replica 0 (omega arith) known (omega arith);
  start = λ object replica candidate good within accepted. started object replica candidate accepted;
  only_known = λ time object replica candidate good within accepted.
      known_here time object replica candidate accepted;
  rising = λ time object replica candidate earlier new accepted.
      above time object replica candidate new earlier accepted;
  alone = λ time object replica candidate other new other_new.
      (brings time object replica candidate new).is ∙ sym (brings time object replica other other_new).is;
  moves = moves;
  one_mover = λ time object other_object replica other_replica candidate other new other_new.
      (brings time object replica candidate new).by
      ∙ sym (brings time other_object other_replica other other_new).by;
  linked = λ time object replica candidate past plain new. inr (linked time object replica candidate new plain);
}

pub joint_met : Joint run
joint_met = record {
  one = λ object replica other_replica candidate other good other_good within other_within accepted other_accepted.
      one object replica other_replica candidate other accepted other_accepted;
  joint = λ time object replica candidate other stamp good within accepted apart is_member.
      joint time object replica candidate other stamp accepted is_member;
  together = λ time object other_object replica other_replica candidate other apart new other_new.
      together time object other_object replica other_replica candidate other new other_new;
  copies = λ time object replica candidate plain no_act new. inr (copied time object replica candidate new plain);
}

-- ---- and the step of replica 2 decides the act, which one correct replica accepted

third : (a b c : Bool) → 3 ≤ cond a 1 0 + cond b 1 0 + cond c 1 0 → c ≡ true
third a b true enough = refl
third a b false enough = absurd (grind arith)

all_three : (time : ℕ) (object : ObjectId) (candidate : Candidate) → IsEstablished run time object candidate
    → is_accepted time object 2 candidate ≡ true
unfolding count
all_three time object candidate established =
    third (is_accepted time object 0 candidate) (is_accepted time object 1 candidate)
    (is_accepted time object 2 candidate) (omega arith)

last_joins : (number : ℕ) → when 2 number ≤ 4 → number ≡ 0
last_joins number since = grind (arith, nat_tests)

-- before it only the opening candidate is decided
only_opening : (object : ObjectId) (candidate : Candidate) → IsDecided run 4 object candidate → candidate ≡ opening
only_opening object candidate (IsDecided.established _ plain established) =
    let it : Held 4 object 2 candidate = held 4 object 2 candidate (all_three 4 object candidate established) in
    it.is_numbered ∙ ap candidate_at (last_joins candidate.stamp.time it.since)
only_opening object candidate (IsDecided.prior _ child decided prior accepted) =
    let by : Acceptor run 4 object candidate = acceptor run 4 object candidate accepted in
    let its : Held 4 object by.replica candidate = held 4 object by.replica candidate by.accepted in
    its.is_numbered
    ∙ ap (λ (stamp : Stamp). candidate_at stamp.time) (sym prior)
    ∙ ap (λ (it : Candidate). candidate_at it.prior.time) (only_opening object child decided)

pub decides : (object : ObjectId) → run.known object ≡ true → IsDecidedBy run 4 object (candidate_at 1)
unfolding count
decides object known =
    let of_act : 1 ≤ acceptors run 5 object (candidate_at 1) = here_too 5 object 1 (omega arith) known in
    let of_copy : 3 ≤ acceptors run 5 object (candidate_at 3) = here_too 5 object 3 (omega arith) known in
    record {
      within = omega arith;
      after = IsDecided.prior (candidate_at 1) (candidate_at 3)
          (IsDecided.established (candidate_at 3) refl (omega arith)) refl of_act;
      before = λ already.
          let same_time : 1 ≡ 0 =
          ap (λ (it : Candidate). it.stamp.time) (only_opening object (candidate_at 1) already) in
          absurd (omega arith);
    }
