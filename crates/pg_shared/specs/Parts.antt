-- A list that is kept in chunks.
use Rattle.std.specs.Prelude.{ℕ, ◌≡◌, ◌+◌, ◌^◌, ◌<◌, ◌≤◌, List, [], ◌∷◌, ◌++◌, length, take, cond}
use Rattle.std.specs.declared.cmp.Ordering.{Ordering}
use Rattle.std.specs.Ordering.{is_gt}
use Rattle.pg_keyed.specs.Lists.{Each}
use Rattle.pg_shared.specs.declared.part.Part.{Part}

module _ {X : Type 0} where
  -- the items of the chunks, one chunk after another
  abbrev pub joined : List (Part X) → List X
  joined [] = []
  joined (p ∷ ps) = p.items ++ joined ps

  -- how many items stand before a chunk
  abbrev pub before_part : ℕ → List (Part X) → ℕ
  before_part n ps = length (joined (take n ps))

  -- the chunk that holds the item at a place
  abbrev pub IsPartOf : ℕ → ℕ → List (Part X) → Type 0
  IsPartOf part at ps = (part < length ps) × (before_part part ps ≤ at) × (at < before_part (part + 1) ps)

  -- each chunk tells how many items stand before it, from n on
  abbrev pub Starts : ℕ → List (Part X) → Type 0
  Starts n [] = Unit {0}
  Starts n (p ∷ ps) = (p.before ≡ n) × Starts (n + length p.items) ps

  -- a chunk tells its first item
  abbrev pub Leads : Part X → Type 0
  Leads p = (rest : List X) × (p.items ≡ p.first ∷ rest)

  -- how many items a chunk has at least, beside others, and at most
  abbrev pub IsLong : Part X → Type 0
  IsLong p = 64 ≤ length p.items

  abbrev pub IsShort : Part X → Type 0
  IsShort p = length p.items < 128

  -- a chunk of these items
  pub record IsPart (before : ℕ) (xs : List X) (p : Part X) : Type 0 where
    pub at : p.before ≡ before
    pub items : p.items ≡ xs
    pub leads : Leads p

  -- the chunks tell their places and first items; each has at most 127 items, and each but an only one at least 64
  pub record IsKept (ps : List (Part X)) : Type 0 where
    pub starts : Starts 0 ps
    pub leads : Each Leads ps
    pub short : Each IsShort ps
    pub long : 1 < length ps → Each IsLong ps
    pub bound : length (joined ps) < 2 ^ 63

-- how many chunks, from the front on, have a first item that is not above a key
module _ {X K : Type 0} (key : X → K) (cmp : K → K → Ordering) where
  abbrev pub heads : K → List (Part X) → ℕ
  heads k [] = 0
  heads k (p ∷ ps) = cond (is_gt (cmp (key p.first) k)) 0 (heads k ps + 1)
