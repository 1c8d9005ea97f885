-- The orders of stamps and of candidates are strict and total, and `same` tests whether two are equal.
use mathlib.Core.Bool.{beq}
use Rattle.std.proofs.Common.{◌≡◌, ℕ, Bool, ◌<◌, true, false, not, ◌&&◌, ◌||◌, List, [], ◌∷◌, length, inl, inr, refl, sym, ◌∙◌, ap, arith, None, Some}
use Rattle.std.specs.Prelude.{Option, ◌==◌, MatchOption, ⊤}
use Rattle.std.specs.declared.cmp.Ordering.{Ordering}
use Rattle.std.specs.declared.cmp.Ordering.TheVariants.{Less, Equal, Greater}
use Rattle.std.specs.Ordering.{nat_cmp, bool_cmp, ordering_then, is_lt, is_eq}
use Rattle.std.specs.List.{repeat}
use Rattle.std.specs.Option.{option_cmp, option_eq}
use Rattle.std.specs.Cmp.{IsTotalOrder, bool_cmp_total}
use Rattle.std.specs.Cmp.Lexicographic.{slice_cmp, options_total, bytes_decides, pointwise}
use Rattle.std.proofs.lemmas.Cmp.{nat_cmp_total, lists_total, on_total, then_total, tied_itself}
use Rattle.std.proofs.lemmas.Map.Lookups.{CmpEqualImpliesEq, exact_unsigned, exact_bytes}
use Rattle.std.specs.Bool.{Decides}
use Rattle.std.specs.Cmp.{booleans_Decides}
use Rattle.std.proofs.lemmas.Bool.{false≢true, cases_Bool, or_left, and_parts, and_from, eq-eqb, eqb-true}
use Rattle.std.proofs.lemmas.Bool.Decides.{nat_tests}
use Rattle.std.proofs.lemmas.Slice.Eq.{slice_eq-Decides}
use Rattle.qu_base.specs.declared.party.Digest.{Digest}
use Rattle.qu_base.specs.declared.party.ObjectId.{ObjectId}
use Rattle.qu_stamp.proofs.Below.{both_equal, is_Equal, lt_then, eq_then, lt-self, lt-chain, lt-not_back, lt-other, lt-not_chain}
use Rattle.qu_stamp.proofs.Groups.{groups_total, exact_groups, decides_group, same_group-self}
use Rattle.qu_stamp.specs.declared.stamp.Stamp.{Stamp}
use Rattle.qu_stamp.specs.declared.candidate.Candidate.{Candidate}
use Rattle.qu_stamp.specs.Stamp.{opening_stamp, is_sized, digest_cmp, stamp_cmp, is_below, same_digest, same_stamp}
use Rattle.qu_stamp.specs.Group.{group_cmp, is_group_below, same_group}
use Rattle.qu_stamp.specs.Candidate.{is_before, same}

-- ---- the total order

digests_total : IsTotalOrder digest_cmp
digests_total = then_total (on_total (λ digest. not (is_sized digest)) bool_cmp_total)
    (on_total (λ (digest : Digest). digest.0) (lists_total nat_cmp_total))

stamps_total : IsTotalOrder stamp_cmp
unfolding stamp_cmp
stamps_total =
    then_total (on_total (λ (stamp : Stamp). stamp.time) nat_cmp_total)
    (then_total (on_total (λ (stamp : Stamp). stamp.barrier) bool_cmp_total)
    (then_total (on_total (λ (stamp : Stamp). (stamp.client).0) nat_cmp_total)
    (then_total (on_total (λ (stamp : Stamp). stamp.act) (options_total digests_total))
    (on_total (λ (stamp : Stamp). stamp.set) digests_total))))

-- ---- stamps that compare alike are equal

abbrev digest_of_bytes : List ℕ → Digest
digest_of_bytes bytes = record { 0 = bytes }

exact_digests : CmpEqualImpliesEq digest_cmp
exact_digests a b level =
    let parts : (bool_cmp (not (is_sized a)) (not (is_sized b)) ≡ Equal) × (slice_cmp nat_cmp a.0 b.0 ≡ Equal) =
    both_equal _ _ level in
    ap digest_of_bytes (exact_bytes a.0 b.0 parts.1)

exact_tests : CmpEqualImpliesEq bool_cmp
exact_tests false false level = refl
exact_tests false true level = absurd (false≢true (ap is_eq level))
exact_tests true false level = absurd (false≢true (ap is_eq level))
exact_tests true true level = refl

exact_acts : (a b : Option Digest) → option_cmp digest_cmp a b ≡ Equal → a ≡ b
exact_acts None None level = refl
exact_acts None (Some b) level = absurd (false≢true (ap is_eq level))
exact_acts (Some a) None level = absurd (false≢true (ap is_eq level))
exact_acts (Some a) (Some b) level = ap Some (exact_digests a b level)

-- stamps with equal fields are equal
by_fields : (a b : Stamp) → a.time ≡ b.time → a.barrier ≡ b.barrier → (a.client).0 ≡ (b.client).0 → a.act ≡ b.act
    → a.set ≡ b.set → a ≡ b
by_fields a b time barrier client act set =
    λ i. record { time = time i; barrier = barrier i; client = record { 0 = client i }; act = act i; set = set i }

exact_stamps : CmpEqualImpliesEq stamp_cmp
unfolding stamp_cmp
exact_stamps a b level =
    let time : _ = both_equal _ _ level in
    let barrier : _ = both_equal _ _ time.1 in
    let client : _ = both_equal _ _ barrier.1 in
    let act : _ = both_equal _ _ client.1 in
    by_fields a b (exact_unsigned a.time b.time time.0) (exact_tests a.barrier b.barrier barrier.0)
    (exact_unsigned (a.client).0 (b.client).0 client.0) (exact_acts a.act b.act act.0) (exact_digests a.set b.set act.1)

-- ---- what the code computes, on digests of 32 bytes

sized_cmp : (a b : Digest) → length a.0 ≡ 32 → length b.0 ≡ 32 → digest_cmp a b ≡ slice_cmp nat_cmp a.0 b.0
sized_cmp a b size other_size =
    ap (λ size. ordering_then (bool_cmp (not (size == 32)) (not (length b.0 == 32))) (slice_cmp nat_cmp a.0 b.0)) size
    ∙ ap (λ size. ordering_then (bool_cmp (not (32 == 32)) (not (size == 32))) (slice_cmp nat_cmp a.0 b.0)) other_size

sized_acts : (a b : Option Digest) → MatchOption a ⊤ (λ digest. length digest.0 ≡ 32)
    → MatchOption b ⊤ (λ digest. length digest.0 ≡ 32) → option_cmp digest_cmp a b ≡ option_cmp
    (λ (digest other : Digest). slice_cmp nat_cmp digest.0 other.0) a b
sized_acts None None size other_size = refl
sized_acts None (Some b) size other_size = refl
sized_acts (Some a) None size other_size = refl
sized_acts (Some a) (Some b) size other_size = sized_cmp a b size other_size

-- what the derived order answers is the order of the definitions
pub derived_cmp : (a b : Stamp) → length (a.set).0 ≡ 32 → length (b.set).0 ≡ 32
    → MatchOption a.act ⊤ (λ digest. length digest.0 ≡ 32) → MatchOption b.act ⊤ (λ digest. length digest.0 ≡ 32)
    → ordering_then (nat_cmp a.time b.time)
    (ordering_then (bool_cmp a.barrier b.barrier)
    (ordering_then (nat_cmp (a.client).0 (b.client).0)
    (ordering_then (option_cmp (λ (digest other : Digest). slice_cmp nat_cmp digest.0 other.0) a.act b.act)
    (slice_cmp nat_cmp (a.set).0 (b.set).0)))) ≡ stamp_cmp a b
unfolding stamp_cmp
derived_cmp a b set other_set act other_act =
    ap (λ order. ordering_then (nat_cmp a.time b.time)
    (ordering_then (bool_cmp a.barrier b.barrier) (ordering_then (nat_cmp (a.client).0 (b.client).0) order)))
    (ap (λ order. ordering_then order (slice_cmp nat_cmp (a.set).0 (b.set).0))
    (sym (sized_acts a.act b.act act other_act))
    ∙ ap (ordering_then (option_cmp digest_cmp a.act b.act)) (sym (sized_cmp a.set b.set set other_set)))

-- ---- the order below

-- no stamp is below itself
pub is_below-self : (a : Stamp) → is_below a a ≡ false
unfolding is_below
is_below-self = lt-self stamp_cmp stamps_total

pub is_below-chain : (a b c : Stamp) → is_below a b ≡ true → is_below b c ≡ true → is_below a c ≡ true
unfolding is_below
is_below-chain = lt-chain stamp_cmp stamps_total

pub is_below-not_back : (a b : Stamp) → is_below a b ≡ true → is_below b a ≡ false
unfolding is_below
is_below-not_back = lt-not_back stamp_cmp stamps_total

pub decides_digest : (a b : Digest) → Decides (same_digest a b) (a ≡ b)
decides_digest a b = (
  λ alike. ap digest_of_bytes ((bytes_decides a.0 b.0).0 alike),
  λ equal. (bytes_decides a.0 b.0).1 (ap (λ (digest : Digest). digest.0) equal),
)

pub same_act-self : (act : Option Digest) → option_eq same_digest act act ≡ true
same_act-self None = refl
same_act-self (Some digest) = (decides_digest digest digest).1 refl

pub equal_by_same_act : (a b : Option Digest) → option_eq same_digest a b ≡ true → a ≡ b
equal_by_same_act None None alike = refl
equal_by_same_act None (Some b) alike = absurd (false≢true alike)
equal_by_same_act (Some a) None alike = absurd (false≢true alike)
equal_by_same_act (Some a) (Some b) alike = ap Some ((decides_digest a b).0 alike)

pub same_stamp-self : (a : Stamp) → same_stamp a a ≡ true
unfolding same_stamp
same_stamp-self a =
    and_from (a.time == a.time) _ (eq-eqb a.time a.time refl)
    (and_from (beq a.barrier a.barrier) _ ((booleans_Decides a.barrier a.barrier).1 refl)
    (and_from ((a.client).0 == (a.client).0) _ (eq-eqb (a.client).0 (a.client).0 refl)
    (and_from (option_eq same_digest a.act a.act) (same_digest a.set a.set) (same_act-self a.act)
    ((decides_digest a.set a.set).1 refl))))

pub equal_by_same_stamp : (a b : Stamp) → same_stamp a b ≡ true → a ≡ b
unfolding same_stamp
equal_by_same_stamp a b alike =
    let time : _ = and_parts (a.time == b.time) _ alike in
    let barrier : _ = and_parts (beq a.barrier b.barrier) _ time.1 in
    let client : _ = and_parts ((a.client).0 == (b.client).0) _ barrier.1 in
    let act : _ = and_parts (option_eq same_digest a.act b.act) (same_digest a.set b.set) client.1 in
    by_fields a b (eqb-true a.time b.time time.0) ((booleans_Decides a.barrier b.barrier).0 barrier.0)
    (eqb-true (a.client).0 (b.client).0 client.0) (equal_by_same_act a.act b.act act.0)
    ((decides_digest a.set b.set).0 act.1)

-- the same stamps are those that compare alike
alike_stamps : (a b : Stamp) → same_stamp a b ≡ is_eq (stamp_cmp a b)
alike_stamps a b =
    elim (cases_Bool (same_stamp a b)) [
      | inl alike ↦
          alike ∙ sym (ap (λ other. is_eq (stamp_cmp a other)) (sym (equal_by_same_stamp a b alike))
          ∙ ap is_eq (tied_itself stamps_total a))
      | inr unlike ↦ elim (cases_Bool (is_eq (stamp_cmp a b))) [
        | inl level ↦ absurd
            (false≢true (sym unlike ∙ ap (same_stamp a) (sym (exact_stamps a b (is_Equal (stamp_cmp a b) level)))
            ∙ same_stamp-self a))
        | inr not_level ↦ unlike ∙ sym not_level
      ]
    ]

-- of two stamps that are not the same, one is below the other
pub is_below-other : (a b : Stamp) → is_below a b ≡ false → same_stamp a b ≡ false → is_below b a ≡ true
unfolding is_below
is_below-other a b not_below unlike =
    lt-other stamp_cmp stamps_total a b not_below (sym (alike_stamps a b) ∙ unlike)

-- what is not above one stamp is not above a later one
pub is_below-not_chain : (a b c : Stamp) → is_below a b ≡ false → is_below b c ≡ false → is_below a c ≡ false
unfolding is_below
is_below-not_chain = lt-not_chain stamp_cmp stamps_total

not_lt_then : (first later : Ordering) → is_lt first ≡ false → is_lt later ≡ false
    → is_lt (ordering_then first later) ≡ false
not_lt_then Less later not_first not_later = not_first
not_lt_then Equal later not_first not_later = not_later
not_lt_then Greater later not_first not_later = refl

not_lt_zero : (n : ℕ) → is_lt (nat_cmp n 0) ≡ false
not_lt_zero n = grind (arith, nat_tests)

not_lt_false : (test : Bool) → is_lt (bool_cmp test false) ≡ false
not_lt_false false = refl
not_lt_false true = refl

not_lt_None : (act : Option Digest) → is_lt (option_cmp digest_cmp act None) ≡ false
not_lt_None None = refl
not_lt_None (Some digest) = refl

-- no list of so many bytes is below as many zeros
not_lt_zeros : (bytes : List ℕ) → is_lt (slice_cmp nat_cmp bytes (repeat (length bytes) (0 ∷ []))) ≡ false
not_lt_zeros [] = refl
not_lt_zeros (byte ∷ bytes) = not_lt_then (nat_cmp byte 0) _ (not_lt_zero byte) (not_lt_zeros bytes)

not_lt_blank : (digest : Digest) → is_lt (digest_cmp digest (digest_of_bytes (repeat 32 (0 ∷ [])))) ≡ false
not_lt_blank digest =
    elim (cases_Bool (is_sized digest)) [
      | inl sized ↦
          not_lt_then (bool_cmp (not (is_sized digest)) false) _ (not_lt_false (not (is_sized digest)))
          (ap (λ size. is_lt (slice_cmp nat_cmp digest.0 (repeat size (0 ∷ []))))
          (sym (eqb-true (length digest.0) 32 sized)) ∙ not_lt_zeros digest.0)
      | inr unsized ↦ ap
          (λ test. is_lt
          (ordering_then (bool_cmp (not test) false) (slice_cmp nat_cmp digest.0 (repeat 32 (0 ∷ []))))) unsized
    ]

-- the opening stamp is the least
pub is_below-opening : (a : Stamp) → is_below a opening_stamp ≡ false
unfolding is_below stamp_cmp
is_below-opening a =
    not_lt_then (nat_cmp a.time 0) _ (not_lt_zero a.time)
    (not_lt_then (bool_cmp a.barrier false) _ (not_lt_false a.barrier)
    (not_lt_then (nat_cmp (a.client).0 0) _ (not_lt_zero (a.client).0)
    (not_lt_then (option_cmp digest_cmp a.act None) _ (not_lt_None a.act) (not_lt_blank a.set))))

less_decides : (a b : ℕ) (later : Ordering) → a < b → is_lt (ordering_then (nat_cmp a b) later) ≡ true
less_decides a b later less = grind (arith, nat_tests)

-- a stamp of smaller time is below
pub is_below_by_time : (a b : Stamp) → a.time < b.time → is_below a b ≡ true
unfolding is_below stamp_cmp
is_below_by_time a b earlier = less_decides a.time b.time _ earlier

-- ---- candidates

-- the order of candidates, in one comparison
abbrev candidate_cmp : Candidate → Candidate → Ordering
candidate_cmp a b =
    ordering_then (stamp_cmp a.stamp b.stamp)
    (ordering_then (stamp_cmp a.prior b.prior) (group_cmp a.group b.group))

candidates_total : IsTotalOrder candidate_cmp
candidates_total =
    then_total (on_total (λ (candidate : Candidate). candidate.stamp) stamps_total)
    (then_total (on_total (λ (candidate : Candidate). candidate.prior) stamps_total)
    (on_total (λ (candidate : Candidate). candidate.group) groups_total))

alike_groups : (a b : List (ObjectId × ℕ)) → same_group a b ≡ is_eq (group_cmp a b)
alike_groups a b =
    elim (cases_Bool (same_group a b)) [
      | inl alike ↦
          alike ∙ sym (ap (λ other. is_eq (group_cmp a other)) (sym ((decides_group a b).0 alike))
          ∙ ap is_eq (tied_itself groups_total a))
      | inr unlike ↦ elim (cases_Bool (is_eq (group_cmp a b))) [
        | inl level ↦ absurd
            (false≢true (sym unlike ∙ ap (same_group a) (sym (exact_groups a b (is_Equal (group_cmp a b) level)))
            ∙ same_group-self a))
        | inr not_level ↦ unlike ∙ sym not_level
      ]
    ]

is_before-lt : (a b : Candidate) → is_before a b ≡ is_lt (candidate_cmp a b)
unfolding is_below
is_before-lt a b =
    ap (λ same. is_below a.stamp b.stamp || (same && (is_below a.prior b.prior
    || (same_stamp a.prior b.prior && is_group_below a.group b.group)))) (alike_stamps a.stamp b.stamp)
    ∙ ap (λ same. is_below a.stamp b.stamp || (is_eq (stamp_cmp a.stamp b.stamp) && (is_below a.prior b.prior
    || (same && is_group_below a.group b.group)))) (alike_stamps a.prior b.prior)
    ∙ ap (λ later. is_below a.stamp b.stamp || (is_eq (stamp_cmp a.stamp b.stamp) && later))
    (lt_then (stamp_cmp a.prior b.prior) (group_cmp a.group b.group))
    ∙ lt_then (stamp_cmp a.stamp b.stamp) _

same-eq : (a b : Candidate) → same a b ≡ is_eq (candidate_cmp a b)
same-eq a b =
    ap (λ alike. alike && (same_stamp a.prior b.prior && same_group a.group b.group)) (alike_stamps a.stamp b.stamp)
    ∙ ap (λ alike. is_eq (stamp_cmp a.stamp b.stamp) && (alike && same_group a.group b.group))
    (alike_stamps a.prior b.prior)
    ∙ ap (λ alike. is_eq (stamp_cmp a.stamp b.stamp) && (is_eq (stamp_cmp a.prior b.prior) && alike))
    (alike_groups a.group b.group)
    ∙ ap (λ later. is_eq (stamp_cmp a.stamp b.stamp) && later)
    (eq_then (stamp_cmp a.prior b.prior) (group_cmp a.group b.group))
    ∙ eq_then (stamp_cmp a.stamp b.stamp) _

-- no candidate is before itself
pub is_before-self : (a : Candidate) → is_before a a ≡ false
is_before-self a = is_before-lt a a ∙ lt-self candidate_cmp candidates_total a

-- a candidate with an earlier stamp is before one with a later stamp
pub is_before_by_stamp : (a b : Candidate) → is_below a.stamp b.stamp ≡ true → is_before a b ≡ true
is_before_by_stamp a b below = or_left _ _ below

pub is_before-chain : (a b c : Candidate) → is_before a b ≡ true → is_before b c ≡ true → is_before a c ≡ true
is_before-chain a b c ab bc =
    is_before-lt a c ∙ lt-chain candidate_cmp candidates_total a b c (sym (is_before-lt a b) ∙ ab)
    (sym (is_before-lt b c) ∙ bc)

pub is_before-not_back : (a b : Candidate) → is_before a b ≡ true → is_before b a ≡ false
is_before-not_back a b ab =
    is_before-lt b a ∙ lt-not_back candidate_cmp candidates_total a b (sym (is_before-lt a b) ∙ ab)

-- of two candidates that are not the same, one is before the other
pub is_before-other : (a b : Candidate) → is_before a b ≡ false → same a b ≡ false → is_before b a ≡ true
is_before-other a b not_before unlike =
    is_before-lt b a ∙ lt-other candidate_cmp candidates_total a b (sym (is_before-lt a b) ∙ not_before)
    (sym (same-eq a b) ∙ unlike)

-- what is not above one candidate is not above a later one
pub is_before-not_chain : (a b c : Candidate) → is_before a b ≡ false → is_before b c ≡ false → is_before a c ≡ false
is_before-not_chain a b c ab bc =
    is_before-lt a c ∙ lt-not_chain candidate_cmp candidates_total a b c (sym (is_before-lt a b) ∙ ab)
    (sym (is_before-lt b c) ∙ bc)

pub same-self : (a : Candidate) → same a a ≡ true
same-self a =
    and_from _ _ (same_stamp-self a.stamp) (and_from _ _ (same_stamp-self a.prior) (same_group-self a.group))

pub equal_by_same : (a b : Candidate) → same a b ≡ true → a ≡ b
equal_by_same a b alike =
    let stamp = and_parts (same_stamp a.stamp b.stamp) _ alike in
    let prior = and_parts (same_stamp a.prior b.prior) (same_group a.group b.group) stamp.1 in
    let stamps = equal_by_same_stamp a.stamp b.stamp stamp.0 in
    let priors = equal_by_same_stamp a.prior b.prior prior.0 in
    let groups = (decides_group a.group b.group).0 prior.1 in
    λ i. record { stamp = stamps i; prior = priors i; group = groups i }

decides_candidate : (a b : Candidate) → Decides (same a b) (a ≡ b)
decides_candidate a b = (equal_by_same a b, λ equal. ap (λ (it : Candidate). same a it) (cc) ∙ same-self a)

pub decides_candidates : (a b : List Candidate) → Decides (pointwise same a b) (a ≡ b)
decides_candidates a b = slice_eq-Decides decides_candidate a b (pointwise same a b) refl
