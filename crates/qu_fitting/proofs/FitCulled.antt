-- The sets that a replica culls fit, the entries that it names rise, and the HMACs that it makes fit.
use Rattle.std.proofs.Common.{◌≡◌, ◌⊎◌, ◌-◌, ℕ, ◌+◌, ◌*◌, ◌<◌, ◌≤◌, Bool, true, not, cond, List, [], ◌∷◌, ◌++◌, length, Option, None, Some, inl, inr, refl, sym, subst, arith}
use Rattle.std.specs.Prelude.{IsTrue, nat_lt, map, filter}
use Rattle.std.specs.List.{flat_map, range_with_len}
use Rattle.std.proofs.lemmas.Bool.{cases_Bool, lt-ltb, leb-true, eq-eqb, or_right}
use Rattle.std.proofs.lemmas.List.{length-append, length-map}
use Rattle.std.proofs.lemmas.List.FromFn.{length-map-range_with_len}
use Rattle.qu_base.specs.declared.limits.TheConstants.{REPLICA_IDS, OBJECT_IDS}
use Rattle.qu_base.specs.declared.party.Digest.{Digest}
use Rattle.qu_base.specs.declared.party.ObjectId.{ObjectId}
use Rattle.qu_base.specs.declared.party.Party.TheVariants.{Replica}
use Rattle.qu_base.specs.declared.party.ReplicaId.{ReplicaId}
use Rattle.qu_base.specs.Bounds.{replicas, is_replica_count}
use Rattle.qu_base.specs.Format.{FitsFrom, bytes}
use Rattle.qu_base.proofs.ThresholdFacts.{count_is_few}
use Rattle.qu_base.proofs.Items.{few_left}
use Rattle.qu_seal.specs.Keys.{Ring, seal_of, authenticator_of}
use Rattle.qu_seal.proofs.Lengths.{length-hmac}
use Rattle.qu_history.specs.declared.sealed.Sealed.{Sealed}
use Rattle.qu_history.specs.declared.sets.SetOf.{SetOf}
use Rattle.qu_history.specs.Culling.{is_right, culled_set, culled, left_of, left_out}
use Rattle.qu_history.specs.Formats.{macs_form, entry_form, sealed_entry_form, entries_form, set_form, sets_form}
use Rattle.qu_class.proofs.EntriesFit.{EntriesFit, not_below, entries_left}
use Rattle.qu_frames.specs.Formats.{is_after_pair, pair_after, culled_form}

-- ---- HMACs

module _ (ring : Ring) (me : ReplicaId) (text : Digest) where
  seal_sized : (number : ℕ) → length (seal_of ring (Replica me) (Replica (record { 0 = number })) text) ≡ 32
  unfolding seal_of
  seal_sized number = length-hmac _ _

  each_sealed : (numbers : List ℕ) → FitsFrom {K = Unit {0}} (λ before. bytes 32) (λ mac. tt) tt
      (map (λ number. seal_of ring (Replica me) (Replica (record { 0 = number })) text) numbers)
  each_sealed [] = tt
  each_sealed (number ∷ later) = (seal_sized number, each_sealed later)

  pub seals_fit : IsTrue (is_replica_count (replicas ring.bounds)) → macs_form.Fits (authenticator_of ring me text)
  unfolding authenticator_of
  seals_fit sized =
      let make : ℕ → List ℕ = λ number. seal_of ring (Replica me) (Replica (record { 0 = number })) text in
      let size : ℕ = replicas ring.bounds in
      let many : length (map make (range_with_len 0 size)) ≡ size = length-map-range_with_len make 0 size in
      let few : size ≤ REPLICA_IDS = count_is_few size sized in (
        ((omega arith, omega (arith, many, few)), subst (λ (it : ℕ). IsTrue (is_replica_count it)) (sym many) sized),
        (refl, each_sealed (range_with_len 0 size)),
      )

-- ---- sets

replica_few : (object : ObjectId) (least : ℕ) (sealed : Sealed) → (sealed_entry_form object least).Fits sealed
    → ((sealed.history).replica).0 ≤ REPLICA_IDS - 1
unfolding sealed_entry_form entry_form
replica_few object least sealed fits = (fits.0.1.0.0).1

module _ (ring : Ring) (me : ReplicaId) where
  set_culled : (least : ℕ) (set : SetOf) → (set_form least).Fits set → (set_form least).Fits (culled_set ring me set)
  unfolding set_form entries_form
  set_culled least set fits =
      let kept = few_left (is_right ring me) set.entries in
      let few : length set.entries ≤ REPLICA_IDS = ((fits.1).0).1 in (
        fits.0,
        (
          (omega arith, omega (arith, kept, few)),
          (refl, entries_left (is_right ring me) set.object 0 set.entries (((fits.1).1).1)),
        ),
      )

  sets_culled : (least : ℕ) (sets : List SetOf) → FitsFrom set_form (λ (set : SetOf). (set.object).0 + 1) least sets
      → FitsFrom set_form (λ (set : SetOf). (set.object).0 + 1) least (map (culled_set ring me) sets)
  sets_culled least [] fits = tt
  sets_culled least (set ∷ later) fits =
      (set_culled least set fits.0, sets_culled ((set.object).0 + 1) later fits.1)

  -- culled sets fit
  pub culled-fits : (sets : List SetOf) → sets_form.Fits sets → sets_form.Fits (culled ring me sets)
  unfolding sets_form culled
  culled-fits sets fits =
      let same : length (map (culled_set ring me) sets) ≡ length sets = length-map sets (culled_set ring me) in
      let bounds = fits.0 in
      ((omega (arith, same, bounds.0), omega (arith, same, bounds.1)), (refl, sets_culled 0 sets (fits.1).1))

  -- ---- what is named

  abbrev Pair : Type 0
  Pair = ObjectId × ReplicaId

  abbrev PairsFit : Option Pair → List Pair → Type 0
  PairsFit before pairs = FitsFrom pair_after (λ (pair : Pair). Some pair) before pairs

  -- a pair of this object may follow from this replica on, and one of any later object
  abbrev Precedes : Option Pair → ObjectId → ℕ → Type 0
  Precedes before object least =
      (next : ObjectId) (replica : ReplicaId) → (object.0 < next.0) ⊎ ((object.0 ≡ next.0) × (least ≤ replica.0))
      → is_after_pair before (next, replica) ≡ true

  own_precedes : (object : ObjectId) (replica : ReplicaId) → Precedes (Some (object, replica)) object (replica.0 + 1)
  own_precedes object replica next other (inl above) = rw (lt-ltb object.0 next.0 above) refl
  own_precedes object replica next other (inr here) =
      let past : replica.0 < other.0 = omega (arith, here.1) in
      or_right (nat_lt object.0 next.0) _ (rw (eq-eqb object.0 next.0 here.0) (lt-ltb replica.0 other.0 past))

  abbrev pair_of : ObjectId → Sealed → Pair
  pair_of object sealed = (object, (sealed.history).replica)

  abbrev wrong : List Sealed → List Sealed
  wrong entries = filter (λ sealed. not (is_right ring me sealed)) entries

  pairs_fit : (object : ObjectId) (least : ℕ) (before : Option Pair) (entries : List Sealed) (rest : List Pair)
      → object.0 ≤ OBJECT_IDS - 1 → EntriesFit object least entries → Precedes before object least
      → ((last : Option Pair) → ((next : ObjectId) (replica : ReplicaId) → object.0 < next.0
      → is_after_pair last (next, replica) ≡ true) → PairsFit last rest)
      → PairsFit before (map (pair_of object) (wrong entries) ++ rest)
  pairs_fit object least before [] rest within fits precedes goes_on =
      goes_on before (λ next replica above. precedes next replica (inl above))
  pairs_fit object least before (sealed ∷ later) rest within fits precedes goes_on =
      let replica : ReplicaId = (sealed.history).replica in
      let above : least ≤ replica.0 = not_below object least sealed fits.0 in
      elim (cases_Bool (is_right ring me sealed)) [
        | inl right ↦
            subst (λ (it : Bool). PairsFit before
            (map (pair_of object) (cond (not it) (sealed ∷ wrong later) (wrong later)) ++ rest)) (sym right)
            (pairs_fit object (replica.0 + 1) before later rest within fits.1
            (λ next other place. precedes next other (lower object.0 next.0 least replica.0 other.0 above place))
            goes_on)
        | inr wrong_is ↦
            subst (λ (it : Bool). PairsFit before
            (map (pair_of object) (cond (not it) (sealed ∷ wrong later) (wrong later)) ++ rest)) (sym wrong_is) (
              (
                ((omega arith, within), (omega arith, replica_few object least sealed fits.0)),
                precedes object replica (inr (refl, above)),
              ),
              pairs_fit object (replica.0 + 1) (Some (object, replica)) later rest within fits.1
                  (own_precedes object replica) goes_on,
            )
      ]
    where
      lower : (object next least replica other : ℕ) → least ≤ replica
          → (object < next) ⊎ ((object ≡ next) × (replica + 1 ≤ other))
          → (object < next) ⊎ ((object ≡ next) × (least ≤ other))
      lower object next least replica other above (inl later) = inl later
      lower object next least replica other above (inr here) = inr (here.0, omega (arith, here.1, above))

  all_pairs_fit : (least : ℕ) (before : Option Pair) (sets : List SetOf)
      → FitsFrom set_form (λ (set : SetOf). (set.object).0 + 1) least sets
      → ((next : ObjectId) (replica : ReplicaId) → least ≤ next.0 → is_after_pair before (next, replica) ≡ true)
      → PairsFit before (flat_map (left_of ring me) sets)
  unfolding set_form entries_form
  all_pairs_fit least before [] fits precedes = tt
  all_pairs_fit least before (set ∷ later) fits precedes =
      let above : least ≤ (set.object).0 = leb-true _ _ (((fits.0).0).1) in
      pairs_fit set.object 0 before set.entries (flat_map (left_of ring me) later) ((((fits.0).0).0).1)
      ((((fits.0).1).1).1)
      (λ next replica place. precedes next replica (from least (set.object).0 next.0 replica.0 above place))
      (λ last after. all_pairs_fit ((set.object).0 + 1) last later fits.1
      (λ next replica order. after next replica (omega arith)))
    where
      from : (least object next replica : ℕ) → least ≤ object → (object < next) ⊎ ((object ≡ next) × (0 ≤ replica))
          → least ≤ next
      from least object next replica above (inl later) = omega arith
      from least object next replica above (inr here) = omega (arith, here.0, above)

  few_pairs : (least : ℕ) (sets : List SetOf) → FitsFrom set_form (λ (set : SetOf). (set.object).0 + 1) least sets
      → length (flat_map (left_of ring me) sets) ≤ length sets * REPLICA_IDS
  unfolding set_form entries_form
  few_pairs least [] fits = omega arith
  few_pairs least (set ∷ later) fits =
      let few : length set.entries ≤ REPLICA_IDS = (((fits.0).1).0).1 in
      let kept = few_left (λ sealed. not (is_right ring me sealed)) set.entries in
      let same = length-map (wrong set.entries) (pair_of set.object) in
      let rest = few_pairs ((set.object).0 + 1) later fits.1 in
      let sum = length-append (left_of ring me set) (flat_map (left_of ring me) later) in
      omega (arith, few, kept, same, rest, sum)

  -- the entries that are left out, as they are named
  pub left_out-fits : (sets : List SetOf) → sets_form.Fits sets → culled_form.Fits (left_out ring me sets)
  unfolding sets_form left_out culled_form
  left_out-fits sets fits =
      let few = few_pairs 0 sets (fits.1).1 in
      let most = (fits.0).1 in (
        (omega arith, omega (arith, few, most)),
        (refl, all_pairs_fit 0 None sets (fits.1).1 (λ next replica order. refl)),
      )

-- none are named
pub none_named-fit : culled_form.Fits []
unfolding culled_form
none_named-fit = ((omega arith, omega arith), (refl, tt))
