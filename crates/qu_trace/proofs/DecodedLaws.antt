-- What bytes are decoded to, by the frame that they are, and where the frames of letters stand.
use Rattle.std.proofs.Common.{◌≡◌, ℕ, zero, suc, ◌+◌, ◌-◌, ◌^◌, ◌≤◌, List, [], ◌∷◌, ◌++◌, length, take, drop, get_or, refl, sym, ap, subst, ◌∙◌, arith}
use Rattle.std.specs.Prelude.{map, slice_get, option_map, Option, Some, None, Result, Ok, Err}
use Rattle.std.specs.Option.{option_and_then, option_flatten}
use Rattle.std.proofs.lemmas.List.{map-append, length-map, length-append, take_at}
use Rattle.std.proofs.lemmas.Option.{none-some, same_Some, slice_get-map}
use Rattle.qu_base.specs.declared.bad_text.BadText.{BadText}
use Rattle.qu_base.specs.declared.party.Party.{Party}
use Rattle.qu_frames.specs.declared.frame.Frame.{Frame}
use Rattle.qu_frames.specs.declared.frame.Letter.{Letter}
use Rattle.qu_trace.specs.declared.trace.Entry.{Entry}
use Rattle.qu_trace.specs.Letters.{letters_of, offered_by}
use Rattle.qu_trace.specs.Decoded.{frame_found, frame_sent, frame_numbered, frame_offered, frame_offered_at, IsFrameOf}
use Rattle.qu_trace.specs.Starts.{starts_from, start_behind}

-- ---- what bytes are decoded to

pub decoded_to : (found : Result Frame BadText) (frame : Frame) → frame_found found ≡ Some frame → found ≡ Ok frame
decoded_to (Ok it) frame is = ap (λ (one : Frame). Ok one) (same_Some it frame is)
decoded_to (Err bad) frame is = absurd (none-some frame is)

-- ---- the frame at a place

flat_mapped : {X Y : Type 0} (read : X → Option Y) (found : Option X)
    → option_flatten (option_map read found) ≡ option_and_then read found
flat_mapped read None = refl
flat_mapped read (Some it) = refl

pub frame_with : (entries : List Entry) (number place : ℕ) → number ≡ suc place
    → option_flatten (slice_get (map frame_sent (letters_of entries)) place) ≡ frame_numbered entries number
frame_with entries number place is =
    ap (λ (it : Option (Option Frame)). option_flatten it) (slice_get-map frame_sent (letters_of entries) place)
    ∙ flat_mapped frame_sent (slice_get (letters_of entries) place)
    ∙ ap (λ (it : ℕ). frame_numbered entries it) (sym is)

-- ---- the frames of an entry's letters

drop_past : {X : Type 0} (xs ys : List X) (k rest : ℕ) → k ≡ length xs + rest → drop k (xs ++ ys) ≡ drop rest ys
drop_past [] ys k rest at = let e : k ≡ rest = omega arith in rw e refl
drop_past (x ∷ xs) ys zero rest at = absurd (omega arith)
drop_past (x ∷ xs) ys (suc k) rest at = drop_past xs ys k rest (omega arith)

-- they stand among those of all from this place on, where so many letters stand before the first entry
pub record StandAt (before start : ℕ) (entries : List Entry) (entry : Entry) : Type 0 where
  pub least : before ≤ start
  pub most : start + length entry.letters ≤ before + length (letters_of entries)
  pub part : take (length entry.letters) (drop (start - before) (map frame_sent (letters_of entries)))
      ≡ map frame_sent entry.letters

taken : (ours others : List Letter) → take (length ours) (map frame_sent (ours ++ others)) ≡ map frame_sent ours
taken ours others =
    ap (λ (it : List (Option Frame)). take (length ours) it) (map-append frame_sent ours others)
    ∙ take_at (map frame_sent ours) (map frame_sent others) (length ours) (length-map ours frame_sent)

pub stand_at : (before index : ℕ) (entries : List Entry) (entry : Entry) → slice_get entries index ≡ Some entry
    → before + length (letters_of entries) ≤ 2 ^ 64 - 1
    → StandAt before (get_or (starts_from before entries) index 0) entries entry
unfolding letters_of starts_from
stand_at before index [] entry is few = absurd (none-some entry is)
stand_at before zero (first ∷ later) entry is few =
    let none : before - before ≡ 0 = omega arith in
    subst (λ (it : Entry). StandAt before before (first ∷ later) it) (same_Some first entry is)
    (record {
      least = omega arith;
      most = omega (arith, length-append first.letters (letters_of later));
      part =
          ap (λ (at : ℕ). take (length first.letters)
          (drop at (map frame_sent (first.letters ++ letters_of later)))) none
          ∙ taken first.letters (letters_of later);
    })
stand_at before (suc index) (first ∷ later) entry is few =
    let all : length (first.letters ++ letters_of later) ≡ length first.letters + length (letters_of later) =
    length-append first.letters (letters_of later) in
    let next : start_behind before first ≡ before + length first.letters = omega (arith, all, few) in
    let there : StandAt (before + length first.letters)
    (get_or (starts_from (before + length first.letters) later) index 0) later entry =
    stand_at (before + length first.letters) index later entry is (omega (arith, all, few)) in
    let start : ℕ = get_or (starts_from (before + length first.letters) later) index 0 in
    subst (λ (at : ℕ). StandAt before (get_or (starts_from at later) index 0) (first ∷ later) entry) (sym next)
    (record {
      least = omega (arith, there.least);
      most = omega (arith, there.most, all);
      part =
          ap (λ (it : List (Option Frame)). take (length entry.letters) (drop (start - before) it))
          (map-append frame_sent first.letters (letters_of later))
          ∙ ap (λ (it : List (Option Frame)). take (length entry.letters) it)
          (drop_past (map frame_sent first.letters) (map frame_sent (letters_of later)) (start - before)
          (start - (before + length first.letters))
          (omega (arith, there.least, length-map first.letters frame_sent)))
          ∙ there.part;
    })

-- ---- what an event offers

-- where bytes are offered, the frame that is offered is theirs
pub offers : (frame : Option Frame) (offered : Option (Party × List ℕ)) → frame ≡ frame_offered offered
    → IsFrameOf frame offered
offers frame None is = tt
offers frame (Some (to, text)) is = is

pub frame_of_entry : (entries : List Entry) (index : ℕ) (entry : Entry) (frame : Option Frame)
    → slice_get entries index ≡ Some entry → frame ≡ frame_offered_at entries (slice_get entries index)
    → IsFrameOf frame (offered_by entries entry.event)
frame_of_entry entries index entry frame found is =
    offers frame (offered_by entries entry.event) (is ∙ ap (frame_offered_at entries) found)
