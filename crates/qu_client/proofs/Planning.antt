-- What a plan that changes the operation under way makes of a client that has one.
use Rattle.std.proofs.Common.{◌≡◌, ℕ, List, [], Option, Some, option_map, ap}
use Rattle.qu_base.specs.declared.party.ObjectId.{ObjectId}
use Rattle.rand_pcg.specs.Lcg.{Lcg}
use Rattle.qu_question.specs.declared.kept.Kept.{Kept}
use Rattle.qu_client.specs.declared.planned.Turn.TheVariants.{Counts, Rests, Passes}
use Rattle.qu_client.specs.declared.work.Counted.{Counted}
use Rattle.qu_client.specs.declared.work.Phase.{Phase}
use Rattle.qu_client.specs.declared.work.Phase.TheVariants.{Resting}
use Rattle.qu_client.specs.declared.work.Work.{Work}
use Rattle.qu_client.specs.State.{ClientState}
use Rattle.qu_client.specs.Plans.{after_turn}

changed : (state : ClientState) (work : Work) (change : Work → Work) → state.work ≡ Some work
    → option_map change state.work ≡ Some (change work)
changed state work change is = ap (option_map change) is

pub counted : (state : ClientState) (work : Work) (kept : List Kept) (replies : List Counted) → state.work ≡ Some work
    → after_turn (record state { kept = kept }) (Counts replies)
    ≡ record state { kept = kept; work = Some (record work { replies = replies }) }
counted state work kept replies is =
    ap (λ (it : Option Work). record state { kept = kept; work = it })
    (changed state work (λ (it : Work). record it { replies = replies }) is)

pub rested : (state : ClientState) (work : Work) (kept : List Kept) (ticks : ℕ) (waits : Lcg) (named : List ObjectId)
    → state.work ≡ Some work → after_turn (record state { kept = kept }) (Rests ticks waits named)
    ≡ record state {
      waits = waits;
      kept = kept;
      work = Some (record work { phase = Resting ticks; named = named; replies = [] });
    }
rested state work kept ticks waits named is =
    ap (λ (it : Option Work). record state { waits = waits; kept = kept; work = it })
    (changed state work (λ (it : Work). record it { phase = Resting ticks; named = named; replies = [] }) is)

pub passed : (state : ClientState) (work : Work) (phase : Phase) → state.work ≡ Some work
    → after_turn state (Passes phase) ≡ record state { work = Some (record work { phase = phase }) }
passed state work phase is =
    ap (λ (it : Option Work). record state { work = it })
    (changed state work (λ (it : Work). record it { phase = phase }) is)
