-- What the numbers grow by.
use Rattle.std.specs.Prelude.{◌≡◌, ◌<◌, ℕ, List, [], ◌∷◌, ◌++◌, map, length}
use Rattle.pg_keyed.specs.Lists.{Each}
use Rattle.pg_value.specs.declared.shape.ElemId.{ElemId}
use Rattle.pg_meaning.specs.Walks.{Hop}
use Rattle.pg_meaning.specs.Fits.{Mention}
use Rattle.pg_search.specs.Numbers.{Numbers, Grow, elem_at, hops_at, mentions_at, mention_of}

-- an element has this number
pub record IsNumbered (n : Numbers) (elem : ElemId) (k : ℕ) (m : Numbers) : Type 0 where
  pub grow : Grow n m
  pub within : k < length m.elems
  pub stands : elem_at m k ≡ elem

-- a walk with a hop behind it has this number
pub record IsLonger (n : Numbers) (walk : ℕ) (hop : Hop) (k : ℕ) (m : Numbers) : Type 0 where
  pub grow : Grow n m
  pub within : k < length m.walks
  pub stands : hops_at m k ≡ hops_at n walk ++ hop ∷ []

-- mentions with others behind them have this number
pub record IsNamed (n : Numbers) (names : ℕ) (more : List (ℕ × ℕ)) (k : ℕ) (m : Numbers) : Type 0 where
  pub grow : Grow n m
  pub within : k < length m.names
  pub stands : mentions_at m k ≡ mentions_at n names ++ map (mention_of n) more

-- the numbers of these walks are appended
pub record AreAdded (n m : Numbers) (old new : List ℕ) (walks : List (List Hop)) : Type 0 where
  pub grow : Grow n m
  pub added : List ℕ
  pub whole : new ≡ old ++ added
  pub within : Each (λ k. k < length m.walks) added
  pub stand : map (hops_at m) added ≡ walks

-- these are the numbers of the mentions
pub record AreSeen (n : Numbers) (seen : List (ℕ × ℕ)) (mentions : List Mention) : Type 0 where
  pub within : Each (λ m. m.1 < length n.elems) seen
  pub stand : map (mention_of n) seen ≡ mentions
