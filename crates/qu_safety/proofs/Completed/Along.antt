-- Lists of parts: what holds along the objects of one holds along the same objects of another.
use Rattle.std.proofs.Common.{◌≡◌, zero, suc, ◌≤◌, List, [], ◌∷◌, length, map, get_or, All, refl, sym, subst, arith, inl}
use Rattle.std.specs.Prelude.{Contains}
use Rattle.std.specs.List.{AllZip}
use Rattle.std.proofs.lemmas.List.Elements.{All-nil, All-cons, All-head, All-tail, Contains-get_or}
use Rattle.qu_base.specs.declared.party.ObjectId.{ObjectId}
use Rattle.qu_base.proofs.Items.{later_contains}
use Rattle.qu_claims.specs.Parts.{Names}
use Rattle.qu_replies.specs.Replies.{HoldsOfFirst}

-- the objects of a list
abbrev pub objects_in : {X : Type 0} → List (ObjectId × X) → List ObjectId
objects_in all = map (λ part. part.0) all

same_cons : (first second : ObjectId) (later others : List ObjectId) → first ∷ later ≡ second ∷ others
    → (first ≡ second) × (later ≡ others)
same_cons first second later others same = (cc, cc)

pub all_along : {X Y : Type 0} (Q : ObjectId → Type 0) (from : List (ObjectId × X)) (to : List (ObjectId × Y))
    → objects_in from ≡ objects_in to → All (λ (it : ObjectId × X). Q it.0) from
    → All (λ (it : ObjectId × Y). Q it.0) to
all_along Q [] [] same all = All-nil (λ it. Q it.0)
all_along Q [] (second ∷ to) same all = absurd (cc)
all_along Q (first ∷ from) [] same all = absurd (cc)
all_along Q (first ∷ from) (second ∷ to) same all =
    let both = same_cons first.0 second.0 (objects_in from) (objects_in to) same in
    All-cons (λ it. Q it.0) second to (subst Q both.0 (All-head (λ it. Q it.0) first from all))
    (all_along Q from to both.1 (All-tail (λ it. Q it.0) first from all))

-- what each element has, all have
pub all_contained : {X : Type 0} (Q : X → Type 0) (xs : List X) → ((x : X) → Contains xs x → Q x) → All Q xs
all_contained Q xs gives place default below =
    gives (get_or xs place default) (Contains-get_or xs place default below)

pub zip_along : {X Y V : Type 0} (R : ObjectId → V → Type 0) (from : List (ObjectId × X)) (to : List (ObjectId × Y))
    (values : List V) → objects_in from ≡ objects_in to
    → AllZip (λ (it : ObjectId × X) (value : V). R it.0 value) from values
    → AllZip (λ (it : ObjectId × Y) (value : V). R it.0 value) to values
zip_along R [] [] values same each = each
zip_along R [] (second ∷ to) values same each = absurd (cc)
zip_along R (first ∷ from) [] values same each = absurd (cc)
zip_along R (first ∷ from) (second ∷ to) [] same each = absurd each
zip_along R (first ∷ from) (second ∷ to) (value ∷ values) same each =
    let both = same_cons first.0 second.0 (objects_in from) (objects_in to) same in
    (subst (λ it. R it value) both.0 each.0, zip_along R from to values both.1 each.1)

-- ---- one list beside another

pub zip_weaker : {X Y : Type 0} (R S : X → Y → Type 0) (xs : List X) (ys : List Y)
    → ((x : X) (y : Y) → Contains xs x → R x y → S x y) → AllZip R xs ys → AllZip S xs ys
zip_weaker R S [] [] weaker each = each
zip_weaker R S [] (y ∷ ys) weaker each = absurd each
zip_weaker R S (x ∷ xs) [] weaker each = absurd each
zip_weaker R S (x ∷ xs) (y ∷ ys) weaker each = (
  weaker x y (0, omega arith, refl) each.0,
  zip_weaker R S xs ys (λ one other among. weaker one other (later_contains x xs one among)) each.1,
)

pub zip_at : {X Y : Type 0} (R : X → Y → Type 0) (xs : List X) (ys : List Y) (x : X) → Contains xs x
    → AllZip R xs ys → (y : Y) × R x y
zip_at R [] ys x (place, below, is) each = absurd (omega arith)
zip_at R (first ∷ xs) [] x among each = absurd each
zip_at R (first ∷ xs) (y ∷ ys) x (zero, below, is) each = (y, subst (λ it. R it y) is each.0)
zip_at R (first ∷ xs) (y ∷ ys) x (suc place, below, is) each = zip_at R xs ys x (place, omega arith, is) each.1

-- what all of one list have beside them, all of it have
pub all_beside : {X Y : Type 0} (R : X → Y → Type 0) (Q : X → Type 0) (xs : List X) (ys : List Y)
    → ((x : X) (y : Y) → R x y → Q x) → AllZip R xs ys → All Q xs
all_beside R Q [] ys gives each = All-nil Q
all_beside R Q (x ∷ xs) [] gives each = absurd each
all_beside R Q (x ∷ xs) (y ∷ ys) gives each =
    All-cons Q x xs (gives x y each.0) (all_beside R Q xs ys gives each.1)

-- ---- the first of some

-- an element of one list whose object the other names
pub record Named {X Y : Type 0} (from : List (ObjectId × X)) (to : List (ObjectId × Y)) : Type 0 where
  pub told : ObjectId × X
  pub among : Contains from told
  pub names : Names to told.0

-- the first element, which has what the first of the list has
pub first_having : {X Y : Type 0} (P : ObjectId × X → Type 0) (from : List (ObjectId × X)) (to : List (ObjectId × Y))
    → objects_in from ≡ objects_in to → 1 ≤ length to → HoldsOfFirst P from → (named : Named from to) × P named.told
first_having P from [] same some first = absurd (omega arith)
first_having P [] (second ∷ to) same some first = absurd first
first_having P (one ∷ from) (second ∷ to) same some first = (
  record {
    told = one;
    among = (0, omega arith, refl);
    names = inl (sym (same_cons one.0 second.0 (objects_in from) (objects_in to) same).0);
  },
  first,
)
