-- Whether the parts of an operation name an object.
use Rattle.std.proofs.Common.{◌≡◌, ◌⊎◌, ℕ, List, [], ◌∷◌, inl, inr, ap}
use Rattle.std.proofs.lemmas.Bool.{cases_eq}
use Rattle.qu_base.specs.declared.party.ObjectId.{ObjectId}
use Rattle.qu_claims.specs.Parts.{Names}
use Rattle.qu_rows.specs.Rows.{objects_of}
use Rattle.qu_frames.specs.declared.frame.Body.{Body}
use Rattle.qu_claims.specs.Grounds.{AddsTo, MendsOn, mended_objects}
use Rattle.qu_frames.specs.declared.frame.Body.TheVariants as body

pub named_or_not : {X : Type 0} (parts : List (ObjectId × X)) (object : ObjectId)
    → Names parts object ⊎ (Names parts object → ⊥)
named_or_not [] object = inr (λ none. none)
named_or_not (part ∷ later) object =
    let numbered : ℕ → ObjectId = λ it. record { 0 = it } in
    elim (cases_eq (part.0).0 object.0) [
      | inl here ↦ inl (inl (ap numbered here))
      | inr apart ↦ elim (named_or_not later object) [
        | inl names ↦ inl (inr names)
        | inr none ↦ inr (λ names. elim names [
          | inl same ↦ apart (ap (λ (it : ObjectId). it.0) same)
          | inr named ↦ none named
        ])
      ]
    ]

-- ---- what a request adds to

mends_or_not : (target : ObjectId) (group : List (ObjectId × ℕ)) (object : ObjectId)
    → MendsOn target group object ⊎ (MendsOn target group object → ⊥)
mends_or_not target (member ∷ later) object = named_or_not (member ∷ later) object
mends_or_not target [] object =
    elim (cases_eq target.0 object.0) [
      | inl same ↦ inl (ap (λ (it : ℕ). record { 0 = it }) same)
      | inr apart ↦ inr (λ is. apart (ap (λ (it : ObjectId). it.0) is))
    ]

pub adds_or_not : (asks : Body) (group : List (ObjectId × ℕ)) (object : ObjectId)
    → AddsTo asks group object ⊎ (AddsTo asks group object → ⊥)
adds_or_not (body.Act parts) group object = named_or_not parts object
adds_or_not (body.Ask parts) group object = inr (λ never. never)
adds_or_not (body.Mend target) group object = mends_or_not target group object

-- ---- what a request mends

abbrev pub Lists : List ObjectId → ObjectId → Type 0
Lists [] object = ⊥
Lists (first ∷ later) object = (first ≡ object) ⊎ Lists later object

named_listed : {X : Type 0} (parts : List (ObjectId × X)) (object : ObjectId) → Names parts object
    → Lists (objects_of parts) object
named_listed [] object never = never
named_listed (part ∷ later) object (inl same) = inl same
named_listed (part ∷ later) object (inr there) = inr (named_listed later object there)

pub mended_listed : (target : ObjectId) (group : List (ObjectId × ℕ)) (object : ObjectId)
    → MendsOn target group object → Lists (mended_objects target group) object
mended_listed target [] object is = inl is
mended_listed target (member ∷ later) object named = named_listed (member ∷ later) object named
