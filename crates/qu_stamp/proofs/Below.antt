-- What is below what, by an order that is total.
use Rattle.std.proofs.Common.{◌≡◌, ◌||◌, ◌&&◌, true, false, refl, sym, ap, ◌∙◌}
use Rattle.std.specs.declared.cmp.Ordering.{Ordering}
use Rattle.std.specs.declared.cmp.Ordering.TheVariants.{Less, Equal, Greater}
use Rattle.std.specs.Ordering.{ordering_then, ordering_reverse, is_lt, is_eq, is_gt}
use Rattle.std.specs.Cmp.{IsTotalOrder}
use Rattle.std.proofs.lemmas.Bool.{false≢true}
use Rattle.std.proofs.lemmas.Cmp.{tied_itself, upto}

pub both_equal : (first later : Ordering) → ordering_then first later ≡ Equal → (first ≡ Equal) × (later ≡ Equal)
both_equal Less later level = absurd (false≢true (ap is_eq level))
both_equal Equal later level = (refl, level)
both_equal Greater later level = absurd (false≢true (ap is_eq level))

pub is_Less : (order : Ordering) → is_lt order ≡ true → order ≡ Less
is_Less Less below = refl
is_Less Equal below = absurd (false≢true below)
is_Less Greater below = absurd (false≢true below)

pub is_Equal : (order : Ordering) → is_eq order ≡ true → order ≡ Equal
is_Equal Less level = absurd (false≢true level)
is_Equal Equal level = refl
is_Equal Greater level = absurd (false≢true level)

turned_lt : (order : Ordering) → is_lt (ordering_reverse order) ≡ is_gt order
turned_lt Less = refl
turned_lt Equal = refl
turned_lt Greater = refl

not_both : (order : Ordering) → is_lt order ≡ true → is_gt order ≡ false
not_both Less below = refl
not_both Equal below = refl
not_both Greater below = absurd (false≢true below)

one_of : (order : Ordering) → is_lt order ≡ false → is_eq order ≡ false → is_gt order ≡ true
one_of Less not_below unlike = absurd (false≢true (sym not_below))
one_of Equal not_below unlike = absurd (false≢true (sym unlike))
one_of Greater not_below unlike = refl

-- the first orders, and the later one where they are alike
pub lt_then : (first later : Ordering) → (is_lt first || (is_eq first && is_lt later))
    ≡ is_lt (ordering_then first later)
lt_then Less later = refl
lt_then Equal later = refl
lt_then Greater later = refl

pub eq_then : (first later : Ordering) → (is_eq first && is_eq later) ≡ is_eq (ordering_then first later)
eq_then Less later = refl
eq_then Equal later = refl
eq_then Greater later = refl

module _ {K : Type 0} (cmp : K → K → Ordering) (total : IsTotalOrder cmp) where
  -- nothing is below itself
  pub lt-self : (a : K) → is_lt (cmp a a) ≡ false
  lt-self a = ap is_lt (tied_itself total a)

  pub lt-chain : (a b c : K) → is_lt (cmp a b) ≡ true → is_lt (cmp b c) ≡ true → is_lt (cmp a c) ≡ true
  lt-chain a b c ab bc = ap is_lt (total.trans a b c (is_Less (cmp a b) ab) (is_Less (cmp b c) bc))

  -- the second is below the first where the order answers `Greater`
  above : (a b : K) → is_lt (cmp b a) ≡ is_gt (cmp a b)
  above a b = ap is_lt (total.antisymm b a) ∙ turned_lt (cmp a b)

  pub lt-not_back : (a b : K) → is_lt (cmp a b) ≡ true → is_lt (cmp b a) ≡ false
  lt-not_back a b ab = above a b ∙ not_both (cmp a b) ab

  -- of two that are not alike, one is below the other
  pub lt-other : (a b : K) → is_lt (cmp a b) ≡ false → is_eq (cmp a b) ≡ false → is_lt (cmp b a) ≡ true
  lt-other a b not_below unlike = above a b ∙ one_of (cmp a b) not_below unlike

  -- what is not above one is not above a later one
  pub lt-not_chain : (a b c : K) → is_lt (cmp a b) ≡ false → is_lt (cmp b c) ≡ false → is_lt (cmp a c) ≡ false
  lt-not_chain a b c ab bc = above c a ∙ upto total c b a (sym (above c b) ∙ bc) (sym (above b a) ∙ ab)
