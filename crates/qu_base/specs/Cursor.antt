-- A place in a text, and the bytes that are left from there on.
use Rattle.std.specs.Prelude.{◌≡◌, ℕ, ◌+◌, List, ◌++◌, length}

pub record Front : Type 0 where
  pub place : ℕ
  pub rest : List ℕ

-- a piece was taken off the front
pub record Takes (old new : Front) (piece : List ℕ) : Type 0 where
  pub bytes : old.rest ≡ piece ++ new.rest
  pub place : new.place ≡ old.place + length piece

-- a text goes on after what was there
abbrev pub Extends : List ℕ → List ℕ → Type 0
Extends old new = (more : List ℕ) × (new ≡ old ++ more)
