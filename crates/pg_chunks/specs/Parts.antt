-- A list that is kept in parts.
use Rattle.std.specs.Prelude.{ℕ, zero, suc, ◌≡◌, ◌+◌, ◌-◌, ◌^◌, ◌<◌, ◌≤◌, List, [], ◌∷◌, ◌++◌, length, take, get_or, slice_set, insert, Bool, Result, Ok, Err}
use Rattle.std.specs.declared.cmp.Ordering.{Ordering}
use Rattle.std.specs.Ordering.{is_lt}
use Rattle.pg_keyed.specs.Lists.{Each}
use Rattle.pg_chunks.specs.declared.part.Chunk.{Chunk}

module _ {X : Type 0} where
  abbrev pub items_of : Chunk X → List X
  items_of c = c.items.items

  -- the parts, one after another
  abbrev pub joined : List (Chunk X) → List X
  joined [] = []
  joined (c ∷ cs) = items_of c ++ joined cs

  -- how many items stand before a part
  abbrev pub before_part : ℕ → List (Chunk X) → ℕ
  before_part n cs = length (joined (take n cs))

  -- the part that holds the item at a place
  abbrev pub IsPartOf : ℕ → ℕ → List (Chunk X) → Type 0
  IsPartOf part at cs = (part < length cs) × (before_part part cs ≤ at) × (at < before_part (part + 1) cs)

  -- each part tells how many items stand before it, from n on
  abbrev pub Starts : ℕ → List (Chunk X) → Type 0
  Starts n [] = Unit {0}
  Starts n (c ∷ cs) = (c.start ≡ n) × Starts (n + length (items_of c)) cs

  -- no part starts behind n
  abbrev pub StartsWithin : ℕ → List (Chunk X) → Type 0
  StartsWithin n cs = Each (λ c. c.start ≤ n) cs

  -- one item more stands before each part
  abbrev pub raised : List (Chunk X) → List (Chunk X)
  raised [] = []
  raised (c ∷ cs) = record c { start = c.start + 1 } ∷ raised cs

  -- so from a part on
  abbrev pub raised_from : ℕ → List (Chunk X) → List (Chunk X)
  raised_from zero cs = raised cs
  raised_from (suc n) [] = []
  raised_from (suc n) (c ∷ cs) = c ∷ raised_from n cs

  -- how many items a part may have
  abbrev pub Fills : Chunk X → Type 0
  Fills c = (64 ≤ length (items_of c)) × (length (items_of c) < 128)

  -- the parts after an item was put in at a place
  pub record Grown (cs : List (Chunk X)) (at : ℕ) (x : X) (ds : List (Chunk X)) : Type 0 where
    pub whole : joined ds ≡ insert (joined cs) at x
    pub starts : Starts 0 ds
    pub fills : Each Fills ds

  -- the parts after the item at a place was replaced
  pub record Set (cs : List (Chunk X)) (at : ℕ) (x : X) (ds : List (Chunk X)) : Type 0 where
    pub whole : joined ds ≡ slice_set (joined cs) at x
    pub starts : Starts 0 ds
    pub fills : Each Fills ds

  -- parts of the same list
  pub record Same (cs ds : List (Chunk X)) : Type 0 where
    pub whole : joined ds ≡ joined cs
    pub starts : Starts 0 ds
    pub fills : Each Fills ds

  -- the parts tell their places, all but the last are filled, and `before` counts their items
  pub record IsKept (full : List (Chunk X)) (before : ℕ) (last : List X) : Type 0 where
    pub starts : Starts 0 full
    pub fills : Each Fills full
    pub counts : before ≡ length (joined full)
    pub bound : before ≤ 2 ^ 62
    pub short : length last < 128

-- items that stand together in a list, from a place on
abbrev pub IsRun : {X : Type 0} → ℕ → List X → List X → Type 0
IsRun {X} at xs run = (front back : List X) × (length front ≡ at) × (xs ≡ front ++ (run ++ back)) × (0 < length run)

-- places counted from n on
abbrev pub shift : ℕ → Result ℕ ℕ → Result ℕ ℕ
shift n (Ok i) = Ok (n + i)
shift n (Err i) = Err (n + i)

-- the place that a search answers, found or not
abbrev pub place : Result ℕ ℕ → ℕ
place (Ok i) = i
place (Err i) = i

-- whether the last item stands before a key
abbrev pub EndsBefore : {X K : Type 0} → (X → K) → (K → K → Ordering) → K → List X → Bool → Type 0
EndsBefore key cmp k xs b = (d : _) → is_lt (cmp (key (get_or xs (length xs - 1) d)) k) ≡ b
