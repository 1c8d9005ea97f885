-- Where no two texts have one digest, a stamp names the histories upon which its candidate was accepted, and with them
-- its prior and its group.
use Rattle.std.proofs.Common.{◌≡◌, List, length, None, sym, ap, subst, ◌∙◌, arith}
use Rattle.std.proofs.lemmas.Bool.{false≢true}
use Rattle.std.proofs.lemmas.Option.{none-some, same_Some}
use Rattle.qu_base.specs.declared.party.ObjectId.{ObjectId}
use Rattle.qu_stamp.specs.declared.stamp.Stamp.{Stamp}
use Rattle.qu_stamp.specs.declared.candidate.Candidate.{Candidate}
use Rattle.qu_history.specs.History.{ObjectHistory}
use Rattle.qu_history.specs.Sets.{entries_of}
use Rattle.qu_objects.specs.declared.act.Method.{Method}
use Rattle.qu_class.specs.Class.{is_in_sets}
use Rattle.qu_class.specs.Repairable.{object_base}
use Rattle.qu_frames.specs.declared.frame.Body.TheVariants as body
use Rattle.qu_rows.specs.Rows.{Asked, asked_of, act_asked, fresh_group, linking_of, objects_of}
use Rattle.qu_rows.specs.State.{ReplicaState}
use Rattle.qu_trace.specs.declared.trace.Trace.{Trace}
use Rattle.qu_world.specs.Run.{IsRun}
use Rattle.qu_claims.specs.Digested.{NoCollision}
use Rattle.qu_claims.specs.Grounds.{IsMadeFrom}
use Rattle.qu_claims.specs.Named.{StampsNameHistories}
use Rattle.qu_claims.specs.Origins.{Origin}
use Rattle.qu_runs.specs.Plain.{ArePlain}
use Rattle.qu_runs.proofs.Acts.OneAct.{acts_are_one}
use Rattle.qu_accepts.proofs.Handled.{handled}
use Rattle.qu_accepts.proofs.Handling.{mid_bounds}
use Rattle.qu_agreed.proofs.Agreed.{agree, both_hold}
use Rattle.qu_agreed.proofs.Alike.{same_histories, same_objects}
use Rattle.qu_agreed.proofs.CopiesAgree.{DoBothHold, same_times, same_prior, same_group}
use Rattle.qu_agreed.proofs.HowMade.{HowMade, how_made}
use Rattle.qu_agreed.proofs.Made.{upon_made}
use Rattle.qu_laws.proofs.Origins.{accepted_from}

-- two candidates have one prior and one group
record AreNamed (first second : Candidate) : Type 0 where
  prior : first.prior ≡ second.prior
  group : first.group ≡ second.group

module _ (trace : Trace) (is_run : IsRun trace) (have : ArePlain trace) (no_collision : NoCollision trace)
    (object : ObjectId) where
  abbrev CameFrom : Candidate → Type 0
  CameFrom candidate = Origin trace (length trace.entries) object candidate

  -- the state upon which it was made, and what was asked
  abbrev state_at : (candidate : Candidate) → CameFrom candidate → ReplicaState
  state_at candidate it = ((it.delivered).handles).mid

  abbrev asked_at : (candidate : Candidate) → CameFrom candidate → Asked
  asked_at candidate it =
      asked_of ((it.delivered).accepts).client ((it.delivered).accepts).number ((it.delivered).accepts).sets
      ((it.delivered).accepts).asks

  made_at : (candidate : Candidate) (it : CameFrom candidate)
      → HowMade trace.setup.bounds (state_at candidate it) (asked_at candidate it) ((it.delivered).accepts).asks
      object candidate
  made_at candidate it =
      subst (HowMade trace.setup.bounds (state_at candidate it) (asked_at candidate it) ((it.delivered).accepts).asks
      object) it.is_candidate
      (how_made trace.setup.bounds (state_at candidate it) it.new ((it.delivered).accepts).client
      ((it.delivered).accepts).number ((it.delivered).accepts).sets ((it.delivered).accepts).asks
      ((it.delivered).accepts).group ((it.delivered).accepts).candidates
      (mid_bounds trace it.past it.place it.old it.new (it.delivered).handles) ((it.delivered).accepts).reasons object
      (it.delivered).adds
      (subst (λ (one : Candidate). IsMadeFrom trace.setup.bounds (linking_of (state_at candidate it))
      (asked_at candidate it) ((it.delivered).accepts).asks object one) (sym it.is_candidate) it.made))

  module _ (first second : Candidate) (one : CameFrom first) (two : CameFrom second)
      (same : first.stamp ≡ second.stamp) where
    abbrev here : ReplicaState
    here = state_at first one

    abbrev there : ReplicaState
    there = state_at second two

    abbrev asked : Asked
    asked = asked_at first one

    abbrev beside : Asked
    beside = asked_at second two

    alike : (of : ObjectId) → entries_of of asked.sets ≡ entries_of of beside.sets
    alike = same_histories trace is_run have no_collision object first second one two same

    alike_in : (of : ObjectId) → is_in_sets asked.sets of ≡ is_in_sets beside.sets of
    alike_in = same_objects trace is_run have no_collision object first second one two same

    hold : DoBothHold here there
    hold =
        both_hold trace is_run have (length trace.entries)
        (agree trace is_run have no_collision (length trace.entries))
        one.past (omega (arith, one.earlier)) two.past (omega (arith, two.earlier)) here there
        (upon_made trace is_run have one.past one.earlier one.place one.old one.new (one.delivered).handles)
        (upon_made trace is_run have two.past two.earlier two.place two.old two.new (two.delivered).handles)

    same_act : asked.act ≡ beside.act
    same_act =
        sym (ap (λ (made : Stamp). made.act) (one.made).stamp) ∙ ap (λ (made : Stamp). made.act) same
        ∙ ap (λ (made : Stamp). made.act) (two.made).stamp

    abbrev base_stamp : List ObjectHistory → Stamp
    base_stamp entries = (object_base trace.setup.bounds entries).stamp

    -- upon the object candidate of the same histories
    upon_base : first.prior ≡ base_stamp (entries_of object asked.sets)
        → second.prior ≡ base_stamp (entries_of object beside.sets) → first.prior ≡ second.prior
    upon_base it also = it ∙ ap base_stamp (alike object) ∙ sym also

    acts_named : (parts others : List (ObjectId × Method)) → ((one.delivered).accepts).asks ≡ body.Act parts
        → ((two.delivered).accepts).asks ≡ body.Act others
        → first.prior ≡ base_stamp (entries_of object asked.sets)
        → second.prior ≡ base_stamp (entries_of object beside.sets)
        → first.group ≡ fresh_group asked (objects_of parts) → second.group ≡ fresh_group beside (objects_of others)
        → AreNamed first second
    acts_named parts others is also prior besides group grouped =
        let acts = acts_are_one trace is_run have no_collision ((one.delivered).accepts).client
        ((two.delivered).accepts).client ((one.delivered).accepts).number ((two.delivered).accepts).number parts others
        (handled trace is_run one.past one.earlier one.place one.old one.new object one.delivered parts is)
        (handled trace is_run two.past two.earlier two.place two.old two.new object two.delivered others also)
        (same_Some _ _ (sym (ap (act_asked ((one.delivered).accepts).client ((one.delivered).accepts).number) is)
        ∙ same_act
        ∙ ap (act_asked ((two.delivered).accepts).client ((two.delivered).accepts).number) also)) in
        record {
          prior = upon_base prior besides;
          group = group ∙ same_times asked beside alike (objects_of parts)
              ∙ ap (λ (it : List (ObjectId × Method)). fresh_group beside (objects_of it)) acts.2 ∙ sym grouped;
        }

    -- an act has a digest, and what no operation makes has none
    not_both : (parts : List (ObjectId × Method)) → ((one.delivered).accepts).asks ≡ body.Act parts
        → beside.act ≡ None → ⊥
    not_both parts is none =
        none-some _ (sym none ∙ sym same_act
        ∙ ap (act_asked ((one.delivered).accepts).client ((one.delivered).accepts).number) is)

    nor_both : (parts : List (ObjectId × Method)) → ((two.delivered).accepts).asks ≡ body.Act parts
        → asked.act ≡ None → ⊥
    nor_both parts is none =
        none-some _ (sym none ∙ same_act
        ∙ ap (act_asked ((two.delivered).accepts).client ((two.delivered).accepts).number) is)

    named_by : HowMade trace.setup.bounds here asked ((one.delivered).accepts).asks object first
        → HowMade trace.setup.bounds there beside ((two.delivered).accepts).asks object second
        → AreNamed first second
    named_by (HowMade.by_act parts is made) (HowMade.by_act others also again) =
        acts_named parts others is also made.prior again.prior made.group again.group
    named_by (HowMade.by_act parts is made) (HowMade.by_barrier none barrier again) = absurd (not_both parts is none)
    named_by (HowMade.by_act parts is made) (HowMade.by_copy none again) = absurd (not_both parts is none)
    named_by (HowMade.by_barrier none barrier made) (HowMade.by_act parts is again) = absurd (nor_both parts is none)
    named_by (HowMade.by_barrier none barrier made) (HowMade.by_barrier nor also again) = record {
      prior = upon_base made.prior again.prior;
      group = made.group ∙ sym again.group;
    }
    named_by (HowMade.by_barrier none barrier made) (HowMade.by_copy nor again) =
        absurd (false≢true (sym again.plain ∙ sym (ap (λ (it : Stamp). it.barrier) same) ∙ barrier))
    named_by (HowMade.by_copy none made) (HowMade.by_act parts is again) = absurd (nor_both parts is none)
    named_by (HowMade.by_copy none made) (HowMade.by_barrier nor barrier again) =
        absurd (false≢true (sym made.plain ∙ ap (λ (it : Stamp). it.barrier) same ∙ barrier))
    named_by (HowMade.by_copy none made) (HowMade.by_copy nor again) = record {
      prior = same_prior here there hold trace.setup.bounds asked beside alike alike_in object first second made again;
      group = same_group here there hold trace.setup.bounds asked beside alike alike_in object first second made again;
    }

    are_named : AreNamed first second
    are_named = named_by (made_at first one) (made_at second two)

module _ (trace : Trace) (is_run : IsRun trace) (have : ArePlain trace) where
  pub stamps_name : NoCollision trace → StampsNameHistories trace
  stamps_name no_collision = record {
    origin = accepted_from trace is_run have;
    histories = same_histories trace is_run have no_collision;
    prior = λ object first second one two same.
        (are_named trace is_run have no_collision object first second one two same).prior;
    group = λ object first second one two same.
        (are_named trace is_run have no_collision object first second one two same).group;
  }
