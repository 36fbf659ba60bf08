-- Changes put on the items of chunks.
use Rattle.std.specs.Prelude.{ℕ, suc, List, [], ◌∷◌, length, Bool, cond}
use Rattle.std.specs.declared.cmp.Ordering.{Ordering}
use Rattle.std.specs.Ordering.{is_eq, is_lt, is_gt}
use Rattle.pg_shared.specs.declared.part.Part.{Part}

-- how many items, from the front on, pass a test
abbrev pub leading : {X : Type 0} → (X → Bool) → List X → ℕ
leading t [] = 0
leading t (x ∷ xs) = cond (t x) (suc (leading t xs)) 0

module _ {X W K : Type 0} (key : X → K) (named : W → K) (cmp : K → K → Ordering) where
  -- an item stands before the key that a change names
  abbrev pub is_before : W → X → Bool
  is_before w x = is_lt (cmp (key x) (named w))

  -- the key that a change names stands before an item
  abbrev pub is_named_before : X → W → Bool
  is_named_before x w = is_gt (cmp (key x) (named w))

  -- the items without the first, where that has the key that a change names
  abbrev pub past : W → List X → List X
  past w [] = []
  past w (x ∷ xs) = cond (is_eq (cmp (key x) (named w))) xs (x ∷ xs)

  -- how many changes stand before the first item of chunks: all where there is no chunk
  abbrev pub before_parts : List (Part X) → List W → ℕ
  before_parts [] ws = length ws
  before_parts (p ∷ ps) ws = leading (is_named_before p.first) ws
