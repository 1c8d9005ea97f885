-- Each replica after some events stood at its place before them.
use Rattle.std.proofs.Common.{◌≡◌, ℕ, zero, suc, List, [], ◌∷◌, Some, refl, subst}
use Rattle.std.specs.Prelude.{slice_get}
use Rattle.std.specs.List.{AllZip}
use Rattle.std.proofs.lemmas.Option.{none-some, same_Some}
use Rattle.qu_rows.specs.State.{ReplicaState}
use Rattle.qu_replica.specs.Growth.{Grows}
use Rattle.qu_trace.specs.declared.event.Event.{Event}
use Rattle.qu_world.specs.State.{WorldState}
use Rattle.qu_world.specs.Step.{world_step}
use Rattle.qu_world.proofs.WorldGrowth.{world_step-grows}

pub record WasBefore (olds : List ReplicaState) (place : ℕ) (new : ReplicaState) : Type 0 where
  pub old : ReplicaState
  pub is_old : slice_get olds place ≡ Some old
  pub grows : Grows old new

pub grown_from : (olds news : List ReplicaState) (place : ℕ) (new : ReplicaState) → AllZip Grows olds news
    → slice_get news place ≡ Some new → WasBefore olds place new
grown_from [] [] place new each is_new = absurd (none-some new is_new)
grown_from [] (here ∷ news) place new each is_new = absurd each
grown_from (old ∷ olds) [] place new each is_new = absurd each
grown_from (old ∷ olds) (here ∷ news) zero new each is_new =
    record { old = old; is_old = refl; grows = subst (Grows old) (same_Some here new is_new) each.0 }
grown_from (old ∷ olds) (here ∷ news) (suc place) new each is_new =
    let later : WasBefore olds place new = grown_from olds news place new each.1 is_new in
    record { old = later.old; is_old = later.is_old; grows = later.grows }

-- each replica after an event stood at the same place before it
pub was_before : (world : WorldState) (event : Event) (place : ℕ) (new : ReplicaState)
    → slice_get (world_step world event).replicas place ≡ Some new → WasBefore world.replicas place new
was_before world event place new is_new =
    grown_from world.replicas (world_step world event).replicas place new (world_step-grows world event).replicas is_new
