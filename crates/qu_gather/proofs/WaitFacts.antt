-- Whom a letter is waited for by.
use Rattle.std.proofs.Common.{◌≡◌, ◌≢◌, ℕ, true, false, List, Option, None, Some, refl, ap, inl, inr}
use Rattle.std.proofs.lemmas.Bool.{cases_Bool, eq-eqb, eqb-true}
use Rattle.qu_base.specs.declared.party.ClientId.{ClientId}
use Rattle.qu_base.specs.declared.party.Party.{Party}
use Rattle.qu_base.specs.declared.party.Party.TheVariants as party
use Rattle.qu_base.specs.declared.party.ReplicaId.{ReplicaId}
use Rattle.qu_frames.specs.declared.frame.Letter.{Letter}
use Rattle.qu_trace.specs.declared.event.Event.TheVariants.{Deliver}
use Rattle.qu_trace.specs.declared.trace.Setup.{Setup}
use Rattle.qu_trace.specs.Faulty.{is_same, is_faulty}
use Rattle.qu_trace.specs.Letters.{numbered}
use Rattle.qu_gather.specs.Ticks.{answered_client, asker_of, waiting_client}

pub waits_own : (setup : Setup) (asker : Option ClientId) (letter : Letter) (me : ClientId)
    → letter.from ≡ party.Client me → is_faulty setup letter.to ≡ false → waiting_client setup asker letter ≡ Some me
waits_own setup asker letter me from correct = rw from (rw correct refl)

pub waits_not : (setup : Setup) (asker : Option ClientId) (letter : Letter) (me : ClientId)
    → letter.from ≡ party.Client me → is_faulty setup letter.to ≡ true → waiting_client setup asker letter ≡ None
waits_not setup asker letter me from faulty = rw from (rw faulty refl)

pub waits_answer : (setup : Setup) (letter : Letter) (me : ClientId) (replica : ReplicaId)
    → letter.from ≡ party.Replica replica → letter.to ≡ party.Client me
    → waiting_client setup (Some me) letter ≡ Some me
waits_answer setup letter me replica from to = rw from (rw to (rw (eq-eqb me.0 me.0 refl) refl))

-- a client that is another party waits for nothing
other_party : (asker : ClientId) (to : Party) → to ≢ party.Client asker → answered_client (Some asker) to ≡ None
other_party asker (party.Replica me) apart = refl
other_party asker (party.Client me) apart =
    elim (cases_Bool (is_same (party.Client me) (party.Client asker))) [
      | inl same ↦ absurd (apart (ap (λ (number : ℕ). party.Client (record { 0 = number })) (eqb-true _ _ same)))
      | inr other ↦ rw other refl
    ]

other_asker : (asker : Option ClientId) (to : Party) → ((me : ClientId) → asker ≡ Some me → to ≢ party.Client me)
    → answered_client asker to ≡ None
other_asker None to apart = refl
other_asker (Some asker) to apart = other_party asker to (apart asker refl)

pub waits_other : (setup : Setup) (asker : Option ClientId) (letter : Letter) (replica : ReplicaId)
    → letter.from ≡ party.Replica replica → ((me : ClientId) → asker ≡ Some me → letter.to ≢ party.Client me)
    → waiting_client setup asker letter ≡ None
waits_other setup asker letter replica from apart = rw from (other_asker asker letter.to apart)

-- a client asks with a letter of its own
pub asks : (senders : List Party) (letter : ℕ) (me : ClientId) → numbered senders letter ≡ Some (party.Client me)
    → asker_of senders (Deliver letter) ≡ Some me
asks senders letter me found = rw found refl
