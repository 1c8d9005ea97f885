-- What stands under the lock of the post, and what its calls make of it.
use Rattle.std.specs.Prelude.{ℕ, ◌+◌, ◌-◌, ◌^◌, Bool, ◌==◌, ◌&&◌, if◌then◌else◌, List, [], ◌∷◌, ◌++◌, map, min, is_some}
use Rattle.std.specs.List.{list_all}
use Rattle.qu_base.specs.declared.party.Party.{Party}
use Rattle.qu_post.specs.declared.bags.Bag.{Bag}
use Rattle.qu_post.specs.declared.filed.Filed.{Filed}
use Rattle.qu_post.specs.Bags.{empty_bag, is_empty_bag, oldest_for, without_oldest, with_letters}

pub record PostContent : Type 0 where
  -- the steps that were filed, in their order
  pub journal : List Filed
  -- the bags of the actors: of replicas and then of clients, each by rising number
  pub bags : List Bag
  -- how many steps are under way
  pub under_way : ℕ
  -- how many tickets were given
  pub given : ℕ

-- the post before the first step
abbrev pub empty_post : List Party → PostContent
empty_post actors = record { journal = []; bags = map empty_bag actors; under_way = 0; given = 0 }

-- one more, up to the greatest number of 64 bits
abbrev pub counted_up : ℕ → ℕ
counted_up count = min (count + 1) (2 ^ 64 - 1)

-- one less, down to 0
abbrev pub counted_down : ℕ → ℕ
counted_down count = count - 1

-- a step more is under way
abbrev pub with_step_begun : PostContent → PostContent
with_step_begun post = record post { under_way = counted_up post.under_way }

-- the oldest letter for this party is taken, for a step that is under way now; where there is none, nothing changes
abbrev pub with_letter_taken : Party → PostContent → PostContent
with_letter_taken who post =
    if is_some (oldest_for who post.bags)
    then with_step_begun (record post { bags = without_oldest who post.bags }) else post

-- a ticket more is given
abbrev pub with_ticket_given : PostContent → PostContent
with_ticket_given post = record post { given = counted_up post.given }

-- the step stands in the journal, its letters wait in the bags, and a step less is under way
abbrev pub with_step_filed : Filed → PostContent → PostContent
with_step_filed step post = record post {
  journal = post.journal ++ step ∷ [];
  bags = map (with_letters step) post.bags;
  under_way = counted_down post.under_way;
}

-- no letter waits, and no step is under way
abbrev pub is_quiet : PostContent → Bool
is_quiet post = list_all is_empty_bag post.bags && post.under_way == 0
