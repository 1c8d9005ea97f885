-- A history that is kept takes the first place of its source, or the end.
use Rattle.std.proofs.Common.{◌≡◌, ℕ, zero, suc, ◌<◌, ◌≤◌, ◌⊎◌, Bool, true, false, cond, List, [], ◌∷◌, ◌++◌, length, get_or, set, None, Some, refl, sym, ap, ◌∙◌, inl, inr, arith}
use Rattle.std.specs.List.{position, position_or_len}
use Rattle.std.proofs.lemmas.Bool.{cases_Bool, ltb-false}
use Rattle.std.proofs.lemmas.List.Quantifiers.{position-Some}
use Rattle.qu_question.specs.declared.kept.Kept.{Kept}
use Rattle.qu_question.specs.Kept.{is_older, same_source, keep}

abbrev pub of_source : Kept → Kept → Bool
of_source new held = same_source new.sealed.history held.sealed.history

abbrev pub older : Kept → Kept → Bool
older new held = is_older new.number new.round held.number held.round

keep-here : (new held : Kept) (later : List Kept) → of_source new held ≡ true → keep new (held ∷ later) ≡ cond
    (older new held) (held ∷ later) (new ∷ later)
unfolding keep
keep-here new held later here = rw here refl

keep-there : (new held : Kept) (later : List Kept) → of_source new held ≡ false
    → keep new (held ∷ later) ≡ held ∷ keep new later
unfolding keep
keep-there new held later there = rw there refl

cond-cons : {X : Type 0} (b : Bool) (x : X) (xs ys : List X) → x ∷ cond b xs ys ≡ cond b (x ∷ xs) (x ∷ ys)
cond-cons b x xs ys = elim b as (λ v. x ∷ cond v xs ys ≡ cond v (x ∷ xs) (x ∷ ys)) [ true ↦ refl | false ↦ refl ]

keep_at : (new : Kept) (kept : List Kept) (i : ℕ) (d : Kept) → i < length kept
    → ((k : ℕ) → k < i → of_source new (get_or kept k d) ≡ false) → of_source new (get_or kept i d) ≡ true
    → keep new kept ≡ cond (older new (get_or kept i d)) kept (set kept i new)
keep_at new [] i d within before here = absurd (omega arith)
keep_at new (held ∷ later) zero d within before here = keep-here new held later here
keep_at new (held ∷ later) (suc i) d within before here =
    keep-there new held later (before 0 (omega arith)) ∙
    ap (λ rest. held ∷ rest) (keep_at new later i d (omega arith) (λ k below. before (suc k) (omega arith)) here) ∙
    cond-cons _ held later (set later i new)

keep_end-step : (new held : Kept) (later : List Kept)
    → (length later ≤ position_or_len (of_source new) later → keep new later ≡ later ++ new ∷ [])
    → length (held ∷ later) ≤ position_or_len (of_source new) (held ∷ later) → (of_source new held ≡ true)
    ⊎ (of_source new held ≡ false) → keep new (held ∷ later) ≡ held ∷ (later ++ new ∷ [])
keep_end-step new held later rest end (inl here) = absurd (let none = rw here at end in omega arith)
keep_end-step new held later rest end (inr there) =
    let past = rw there at end in
    keep-there new held later there ∙ ap (λ kept. held ∷ kept) (rest (omega arith))

keep_end : (new : Kept) (kept : List Kept) → length kept ≤ position_or_len (of_source new) kept
    → keep new kept ≡ kept ++ new ∷ []
unfolding keep
keep_end new [] end = refl
keep_end new (held ∷ later) end =
    keep_end-step new held later (keep_end new later) end (cases_Bool (of_source new held))

end_by : (b : Bool) (at : ℕ) → cond b (Some at) None ≡ None → b ≡ false
end_by true at none = cc
end_by false at none = refl

-- a history goes to the end where no history of its source is kept
pub keep_new : (new : Kept) (kept : List Kept) → None ≡ position (of_source new) kept → keep new kept ≡ kept ++ new ∷ []
keep_new new kept none =
    keep_end new kept (ltb-false _ _ (end_by _ _ (sym none)))

keep_found : (new : Kept) (kept : List Kept) (i : ℕ) (held : Kept) → Some i ≡ position (of_source new) kept
    → held ≡ get_or kept i held → keep new kept ≡ cond (older new held) kept (set kept i new)
keep_found new kept i held found here =
    let at = position-Some (of_source new) kept i held (sym found) in
    keep_at new kept i held at.0 at.2 at.1 ∙ ap (λ it. cond (older new it) kept (set kept i new)) (sym here)

-- it takes the place of the one of its source
pub keep_newer : (new : Kept) (kept : List Kept) (i : ℕ) (held : Kept) → Some i ≡ position (of_source new) kept
    → held ≡ get_or kept i held → older new held ≡ false → keep new kept ≡ set kept i new
keep_newer new kept i held found here newer =
    keep_found new kept i held found here ∙ ap (λ b. cond b kept (set kept i new)) newer

-- unless it is older
pub keep_older : (new : Kept) (kept : List Kept) (i : ℕ) (held : Kept) → Some i ≡ position (of_source new) kept
    → held ≡ get_or kept i held → older new held ≡ true → keep new kept ≡ kept
keep_older new kept i held found here older_here =
    keep_found new kept i held found here ∙ ap (λ b. cond b kept (set kept i new)) older_here
