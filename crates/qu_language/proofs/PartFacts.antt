-- Facts on the parts of an operation that are read one after another.
use Rattle.std.proofs.Common.{◌≡◌, ℕ, suc, ◌+◌, ◌-◌, ◌<◌, ◌≤◌, Bool, List, [], ◌∷◌, ◌++◌, length, Result, Ok, Err, refl, sym, ap, subst, ◌∙◌, arith, length-append}
use Rattle.std.specs.Prelude.{IsTrue, nat_lt, map}
use Rattle.std.specs.List.{list_all}
use Rattle.std.proofs.lemmas.Bool.{and_from, and_parts, le-leb, lt-ltb, ltb-true}
use Rattle.qu_base.specs.declared.limits.TheConstants.{OBJECT_IDS}
use Rattle.qu_base.specs.declared.party.ObjectId.{ObjectId}
use Rattle.qu_objects.specs.declared.limits.TheConstants.{MOST_PARTS}
use Rattle.qu_objects.specs.Parts.{is_object_from, are_objects_from, are_parts, is_sized_method, is_sized_ask, are_sized}
use Rattle.qu_script_words.specs.declared.bad.BadKind.{BadKind}
use Rattle.qu_script_words.specs.declared.bad.LineFail.{LineFail}
use Rattle.qu_script_words.specs.declared.bad.LineFail.TheVariants as fails
use Rattle.qu_script_words.specs.Meaning.{then_good, LineFails, IsReadAs}
use Rattle.qu_script_words.specs.Words.{end_of}
use Rattle.qu_language.specs.declared.operation.Part.{Part}
use Rattle.qu_language.specs.declared.operation.Part.TheVariants.{Does, Asks}
use Rattle.qu_language.specs.declared.parts.Parts.{Parts}
use Rattle.qu_language.specs.Operation.{joined_part, more_parts}
use Rattle.qu_language.specs.Parts.{are_all_below, are_below, is_sized_part, with_part, AreGood, AreBuilt}

-- so many parts were read and may be followed by one more: it is read, or nothing where no word is left
pub more_step : (count objects : ℕ) (parts next : Parts) (words rest : List (List ℕ)) → count < MOST_PARTS
    → joined_part objects parts words ≡ Ok (next, rest)
    → more_parts (MOST_PARTS - count) objects parts words ≡ more_parts (MOST_PARTS - (count + 1)) objects next rest
unfolding more_parts
more_step count objects parts next words rest few read =
    let left : MOST_PARTS - count ≡ suc (MOST_PARTS - (count + 1)) = omega (arith, few) in
    ap (λ (it : ℕ). more_parts it objects parts words) left
    ∙ ap (λ found. then_good found (λ next. more_parts (MOST_PARTS - (count + 1)) objects next.0 next.1)) read

pub more_fails : (count objects : ℕ) (parts : Parts) (words : List (List ℕ)) (kind : BadKind) → count < MOST_PARTS
    → joined_part objects parts words ≡ Err kind
    → more_parts (MOST_PARTS - count) objects parts words ≡ Err kind
unfolding more_parts
more_fails count objects parts words kind few bad =
    let left : MOST_PARTS - count ≡ suc (MOST_PARTS - (count + 1)) = omega (arith, few) in
    ap (λ (it : ℕ). more_parts it objects parts words) left
    ∙ ap (λ found. then_good found (λ next. more_parts (MOST_PARTS - (count + 1)) objects next.0 next.1)) bad

-- where it is refused, so are all of them
pub more_refused : (result : Result Parts LineFail) (fail : LineFail) (meant : Result Parts BadKind)
    (count objects : ℕ) (parts : Parts) (words : List (List ℕ)) → result ≡ Err fail
    → meant ≡ more_parts (MOST_PARTS - count) objects parts words → count < MOST_PARTS
    → LineFails fail (joined_part objects parts words) → IsReadAs (λ it. it) result meant
more_refused result (fails.Bad kind) meant count objects parts words is meant_is few bad =
    subst (λ (it : Result Parts LineFail). IsReadAs (λ it. it) it meant) (sym is)
    (meant_is ∙ more_fails count objects parts words kind few bad)
more_refused result fails.NoMemory meant count objects parts words is meant_is few bad =
    subst (λ (it : Result Parts LineFail). IsReadAs (λ it. it) it meant) (sym is) tt

pub more_end : (count objects : ℕ) (parts : Parts) (words : List (List ℕ)) → MOST_PARTS ≤ count
    → more_parts (MOST_PARTS - count) objects parts words ≡ then_good (end_of words) (λ done. Ok parts)
unfolding more_parts
more_end count objects parts words all =
    let left : MOST_PARTS - count ≡ 0 = omega (arith, all) in
    ap (λ (it : ℕ). more_parts it objects parts words) left

-- ---- what holds of the parts so far

rise_more : {X : Type 0} (least : ℕ) (parts : List (ObjectId × X)) (object : ObjectId) (what : X)
    → IsTrue (are_objects_from least (map (λ part. part.0) parts)) → IsTrue (are_all_below object parts)
    → least ≤ object.0 → object.0 < OBJECT_IDS
    → IsTrue (are_objects_from least (map (λ part. part.0) (parts ++ (object, what) ∷ [])))
unfolding are_objects_from
rise_more least [] object what rise below from known =
    and_from _ _ (and_from _ _ (le-leb _ _ from) (lt-ltb _ _ known)) refl
rise_more least (part ∷ later) object what rise below from known =
    let both = and_parts (is_object_from least part.0)
    (are_objects_from ((part.0).0 + 1) (map (λ it. it.0) later)) rise in
    let apart = and_parts (nat_lt (part.0).0 object.0) (are_all_below object later) below in
    let lower : (part.0).0 < object.0 = ltb-true _ _ apart.0 in
    and_from _ _ both.0
    (rise_more ((part.0).0 + 1) later object what both.1 apart.1 (omega (arith, lower)) known)

sized_more : {X : Type 0} (test : X → Bool) (xs : List X) (x : X) → IsTrue (list_all test xs) → IsTrue (test x)
    → IsTrue (list_all test (xs ++ x ∷ []))
sized_more test [] x all one = and_from _ _ one refl
sized_more test (y ∷ ys) x all one =
    let parts = and_parts (test y) (list_all test ys) all in
    and_from _ _ parts.0 (sized_more test ys x parts.1 one)

good_more : {X : Type 0} (test : X → Bool) (parts : List (ObjectId × X)) (object : ObjectId) (what : X)
    → AreGood test parts → object.0 < OBJECT_IDS → IsTrue (are_all_below object parts) → IsTrue (test what)
    → AreGood test (parts ++ (object, what) ∷ [])
good_more test parts object what good known below sized = record {
  rise = rise_more 0 parts object what good.rise below (omega arith) known;
  sized = sized_more (λ part. test part.1) parts (object, what) good.sized sized;
}

good_none : {X : Type 0} (test : X → Bool) (parts : List (ObjectId × X)) → parts ≡ [] → AreGood test parts
unfolding are_objects_from
good_none {X = X} test parts none = record {
  rise = ap (λ (it : List (ObjectId × X)). are_objects_from 0 (map (λ part. part.0) it)) none;
  sized = ap (λ (it : List (ObjectId × X)). are_sized test it) none;
}

-- no part
pub built_none : (parts : Parts) → parts.updates ≡ [] → parts.queries ≡ [] → AreBuilt 0 0 parts
built_none parts no_updates no_queries =
    let updates : length parts.updates ≡ 0 = ap length no_updates in
    let queries : length parts.queries ≡ 0 = ap length no_queries in record {
      some = omega arith;
      few = omega (arith, updates, queries);
      updates = good_none is_sized_method parts.updates no_updates;
      queries = good_none is_sized_ask parts.queries no_queries;
    }

-- one more part
pub built_with : (least most : ℕ) (parts : Parts) (object : ObjectId) (part : Part) → AreBuilt least most parts
    → object.0 < OBJECT_IDS → IsTrue (are_below object parts) → IsTrue (is_sized_part part)
    → AreBuilt (least + 1) (most + 1) (with_part parts object part)
built_with least most parts object (Does method) built known below sized =
    let each = and_parts (are_all_below object parts.updates) (are_all_below object parts.queries) below in
    let size = length-append parts.updates ((object, method) ∷ []) in record {
      some = omega (arith, size, built.some);
      few = omega (arith, size, built.few);
      updates = good_more is_sized_method parts.updates object method built.updates known each.0 sized;
      queries = built.queries;
    }
built_with least most parts object (Asks ask) built known below sized =
    let each = and_parts (are_all_below object parts.updates) (are_all_below object parts.queries) below in
    let size = length-append parts.queries ((object, ask) ∷ []) in record {
      some = omega (arith, size, built.some);
      few = omega (arith, size, built.few);
      updates = built.updates;
      queries = good_more is_sized_ask parts.queries object ask built.queries known each.1 sized;
    }

-- no more than so many are no more than one more
pub built_wider : (least most : ℕ) (parts : Parts) → AreBuilt least most parts → AreBuilt least (most + 1) parts
built_wider least most parts built = record {
  some = built.some;
  few = omega (arith, built.few);
  updates = built.updates;
  queries = built.queries;
}

pub built_within : (count : ℕ) (parts : Parts) → AreBuilt 1 count parts → count ≤ MOST_PARTS
    → AreBuilt 1 MOST_PARTS parts
built_within count parts built few = record {
  some = built.some;
  few = omega (arith, few, built.few);
  updates = built.updates;
  queries = built.queries;
}

-- an operation may have them
good_are : {X : Type 0} (test : X → Bool) (parts : List (ObjectId × X)) → AreGood test parts → 1 ≤ length parts
    → length parts ≤ MOST_PARTS → IsTrue (are_parts parts)
good_are test parts good some few = and_from _ _ (and_from _ _ (le-leb _ _ some) (le-leb _ _ few)) good.rise

pub updates_are : (parts : Parts) → AreBuilt 1 MOST_PARTS parts → parts.queries ≡ []
    → IsTrue (are_parts parts.updates) × IsTrue (are_sized is_sized_method parts.updates)
updates_are parts built none =
    let size : length parts.queries ≡ 0 = ap length none in (
      good_are is_sized_method parts.updates built.updates (omega (arith, size, built.some)) (omega (arith, built.few)),
      built.updates.sized,
    )

pub queries_are : (parts : Parts) → AreBuilt 1 MOST_PARTS parts → 1 ≤ length parts.queries
    → IsTrue (are_parts parts.queries) × IsTrue (are_sized is_sized_ask parts.queries)
queries_are parts built some = (
  good_are is_sized_ask parts.queries built.queries some (omega (arith, built.few)),
  built.queries.sized,
)

pub ruleset more_facts = (more_step, more_fails, more_end, built_within)

pub ruleset built_facts = (built_with)

pub ruleset wider_facts = (built_wider)

pub ruleset op_facts = (updates_are, queries_are)
