-- How bags change: the oldest letter is taken from one of them, and letters are put into each.
use Rattle.std.proofs.Common.{◌≡◌, ℕ, zero, suc, ◌+◌, ◌<◌, Bool, true, false, List, [], ◌∷◌, ◌++◌, map, length, take, drop, get_or, None, refl, sym, ap, subst, ◌∙◌, arith}
use Rattle.std.specs.Prelude.{slice_get, slice_set, if◌then◌else◌}
use Rattle.std.specs.List.{AllZip}
use Rattle.std.proofs.lemmas.List.{append_assoc, drop_more, get_or_at, length-map, length-take-le, map_more, set_at, take_more}
use Rattle.std.proofs.lemmas.Option.{none-some}
use Rattle.std.proofs.lemmas.Slice.Zip.{all_zipped_more}
use Rattle.qu_base.specs.declared.party.Party.{Party}
use Rattle.qu_frames.specs.declared.frame.Letter.{Letter}
use Rattle.qu_post.specs.declared.bags.Bag.{Bag}
use Rattle.qu_post.specs.declared.filed.Filed.{Filed}
use Rattle.qu_frames.specs.declared.input.LetterName.{LetterName}
use Rattle.qu_post.specs.Actors.{is_one_party}
use Rattle.qu_post.specs.Letters.{letters_to, named_letters}
use Rattle.qu_post.specs.Bags.{oldest_for, without_oldest, with_letters, IsArriving}

-- ---- the oldest letter is taken

no_first : {X : Type 0} (items : List X) → slice_get items 0 ≡ None → drop 1 items ≡ items
no_first [] none = refl
no_first (first ∷ later) none = absurd (none-some first (sym none))

-- where no letter waits for a party, nothing is taken
pub nothing_taken : (who : Party) (bags : List Bag) → oldest_for who bags ≡ None → without_oldest who bags ≡ bags
unfolding oldest_for without_oldest
nothing_taken who [] none = refl
nothing_taken who (bag ∷ later) none = by (is_one_party bag.owner who) (nothing_taken who later) none
  where
    by : (is_owner : Bool) → (oldest_for who later ≡ None → without_oldest who later ≡ later)
        → (if is_owner then slice_get bag.letters 0 else oldest_for who later) ≡ None
        → (if is_owner then record bag { letters = drop 1 bag.letters } ∷ later
        else bag ∷ without_oldest who later) ≡ bag ∷ later
    by true rest none = ap (λ (letters : List (LetterName × Letter)). record bag { letters = letters } ∷ later)
        (no_first bag.letters none)
    by false rest none = ap (λ (others : List Bag). bag ∷ others) (rest none)

-- the first bag of a party changes, at this place
pub taken_at : (who : Party) (bags : List Bag) (place : ℕ) (bag : Bag) → place < length bags
    → bag ≡ get_or bags place bag → is_one_party bag.owner who ≡ true
    → take place bags ++ without_oldest who (drop place bags)
    ≡ slice_set bags place (record bag { letters = drop 1 bag.letters })
unfolding without_oldest
taken_at who [] place bag below read one = absurd (omega arith)
taken_at who (first ∷ later) zero bag below read one =
    ap (λ (is_owner : Bool). if is_owner then record first { letters = drop 1 first.letters } ∷ later
    else first ∷ without_oldest who later)
    (subst (λ (it : Bag). is_one_party it.owner who ≡ true) read one)
    ∙ ap (λ (it : Bag). record it { letters = drop 1 it.letters } ∷ later) (sym read)
taken_at who (first ∷ later) (suc place) bag below read one =
    ap (λ (rest : List Bag). first ∷ rest) (taken_at who later place bag (omega arith) read one)

-- ---- letters are put into each bag

pub zip_more : {A B : Type 0} (R : A → B → Type 0) (xs : List A) (ys zs : List B) (place : ℕ) (x : A) (y : B)
    → place < length xs → x ≡ get_or xs place x → AllZip R (take place xs) ys → R x y → zs ≡ ys ++ y ∷ []
    → AllZip R (take (place + 1) xs) zs
zip_more R xs ys zs place x y below read each here pushed =
    let front : take (place + 1) xs ≡ take place xs ++ x ∷ [] =
    take_more xs place x below ∙ ap (λ it. take place xs ++ it ∷ []) (sym read) in
    subst (λ it. AllZip R it zs) (sym front)
    (subst (λ it. AllZip R (take place xs ++ x ∷ []) it) (sym pushed)
    (all_zipped_more R (take place xs) ys x y each here))

zip_next : {A B : Type 0} (R : A → B → Type 0) (xs : List A) (y : B) (later : List B) (place : ℕ) (default : A)
    → place < length xs → AllZip R (drop place xs) (y ∷ later)
    → R (get_or xs place default) y × AllZip R (drop (suc place) xs) later
zip_next R [] y later place default below each = absurd (omega arith)
zip_next R (x ∷ xs) y later zero default below each = each
zip_next R (x ∷ xs) y later (suc place) default below each = zip_next R xs y later place default (omega arith) each

-- of two lists of one length, one is not at its end before the other
pub zip_ended : {A B : Type 0} (R : A → B → Type 0) (xs : List A) (ys : List B) (place : ℕ) → place < length xs
    → ys ≡ [] → AllZip R (drop place xs) ys → ⊥
zip_ended R xs ys place below none each = ended xs place below (subst (λ it. AllZip R (drop place xs) it) none each)
  where
    ended : (xs : List _) (place : ℕ) → place < length xs → AllZip R (drop place xs) [] → ⊥
    ended [] place below each = omega arith
    ended (x ∷ xs) zero below each = each
    ended (x ∷ xs) (suc place) below each = ended xs place (omega arith) each

-- the items before a place are changed, and then the one at it
put_one : (f : Bag → Bag) (olds now : List Bag) (place : ℕ) (bag : Bag) → place < length olds
    → now ≡ map f (take place olds) ++ drop place olds → bag ≡ get_or now place bag
    → (bag ≡ get_or olds place bag)
    × (slice_set now place (f bag) ≡ map f (take (place + 1) olds) ++ drop (place + 1) olds)
put_one f olds now place bag below so_far read =
    let item = get_or olds place bag in
    let front = map f (take place olds) in
    let behind = drop (place + 1) olds in
    let long : length front ≡ place = length-map (take place olds) f ∙ length-take-le place olds (omega arith) in
    let whole : now ≡ front ++ item ∷ behind =
    so_far ∙ ap (λ (rest : List Bag). front ++ rest) (drop_more olds place bag below) in
    let is : bag ≡ item = read ∙ ap (λ (it : List Bag). get_or it place bag) whole
    ∙ get_or_at front item behind bag place long in
    let more : map f (take (place + 1) olds) ++ behind ≡ front ++ f item ∷ behind =
    ap (λ (it : List Bag). it ++ behind) (map_more f olds place bag below)
    ∙ append_assoc front (f item ∷ []) behind in (
      is,
      ap (λ (it : List Bag). slice_set it place (f bag)) whole ∙ set_at front item behind (f bag) place long
          ∙ ap (λ (it : Bag). front ++ f it ∷ behind) is ∙ sym more,
    )

-- the bag at this place takes the letters that are next
pub put_next : (step : Filed) (olds now : List Bag) (arriving later : List (List (LetterName × Letter))) (place : ℕ)
    (bag new : Bag) (letters : List (LetterName × Letter)) → place < length olds
    → now ≡ map (with_letters step) (take place olds) ++ drop place olds → bag ≡ get_or now place bag
    → AllZip (IsArriving step) (drop place olds) arriving → arriving ≡ letters ∷ later
    → new ≡ record (get_or now place bag) { letters = (get_or now place bag).letters ++ letters }
    → (slice_set now place new ≡ map (with_letters step) (take (place + 1) olds) ++ drop (place + 1) olds)
    × AllZip (IsArriving step) (drop (place + 1) olds) later
put_next step olds now arriving later place bag new letters below so_far read each is made =
    let put = put_one (with_letters step) olds now place bag below so_far read in
    let next = zip_next (IsArriving step) olds letters later place bag below
    (subst (λ it. AllZip (IsArriving step) (drop place olds) it) is each) in
    let own : letters ≡ letters_to bag.owner (named_letters step) = next.0.letters_are
    ∙ ap (λ (it : Bag). letters_to it.owner (named_letters step)) (sym put.0) in
    let whole : new ≡ with_letters step bag = made
    ∙ ap (λ (it : Bag). record it { letters = it.letters ++ letters }) (sym read)
    ∙ ap (λ (it : List (LetterName × Letter)). record bag { letters = bag.letters ++ it }) own in
    let on : suc place ≡ place + 1 = omega arith in (
      ap (λ (it : Bag). slice_set now place it) whole ∙ put.1,
      subst (λ (n : ℕ). AllZip (IsArriving step) (drop n olds) later) on next.1,
    )
