use Rattle.std.proofs.Common.{◌≡◌, ℕ, ◌+◌, ◌<◌, List, ◌∷◌, length, get_or, drop, sym, ap, ◌∙◌}
use Rattle.std.proofs.lemmas.List.{drop_more}
use Rattle.qu_frames.specs.declared.frame.Letter.{Letter}
use Rattle.qu_known.specs.Known.{Seen, see_from, see_letters}
use Rattle.qu_known.specs.Answers.{letter_told}
use Rattle.qu_known.proofs.Filtered.{filtered_more}
use Rattle.qu_known.proofs.known.Known.see_letters.Goals as goal

-- one letter more was seen
seen_more : (letters : List Letter) (index : ℕ) (letter : Letter) (old new : Seen) → index < length letters
    → letter ≡ get_or letters index letter → see_from letter.from letter.text old ≡ new
    → see_letters (drop (index + 1) letters) new ≡ see_letters (drop index letters) old
unfolding see_letters
seen_more letters index letter old new below is next =
    sym (ap (λ (them : List Letter). see_letters them old) (drop_more letters index letter below)
    ∙ ap (λ (it : Letter). see_letters (it ∷ drop (index + 1) letters) old) (sym is)
    ∙ ap (see_letters (drop (index + 1) letters)) next)

pub loop-place-preserved : goal.loop-place-preserved
loop-place-preserved c = record {
  news = seen_more c.args.letters.now c.loop-place.place c.index-letters-place.result
      (c.loop-place.self, c.loop-place.news) (c.see_letter.new.self, c.see_letter.new.news) c.loop-place-test.true
      c.index-letters-place.is c.in_ok-see_letter.ensures.news
      ∙ c.loop-place.invariant.news;
  rounds = filtered_more letter_told c.args.letters.now c.loop-place.place c.index-letters-place.result
      c.loop-place.rounds c.see_letter.new.rounds c.loop-place-test.true c.index-letters-place.is
      c.loop-place.invariant.rounds c.in_ok-see_letter.ensures.rounds;
}
