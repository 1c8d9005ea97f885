-- What a list has, by recursion: what a step copies is such a list of objects.
use Rattle.std.specs.Prelude.{◌≡◌, List, [], ◌∷◌, ◌⊎◌}

-- the list has the item
unfoldable pub IsListed : {X : Type 0} → List X → X → Type 0
IsListed [] item = ⊥
IsListed (first ∷ later) item = (first ≡ item) ⊎ IsListed later item
