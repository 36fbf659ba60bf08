-- A list that is being made, chunk by chunk.
use Rattle.std.specs.Prelude.{◌≡◌, ◌^◌, ◌<◌, ◌≤◌, List, ◌++◌, length}
use Rattle.pg_keyed.specs.Lists.{Each}
use Rattle.pg_shared.specs.declared.maker.Maker.{Maker}
use Rattle.pg_shared.specs.Parts.{joined, Starts, Leads, IsLong, IsShort}

module _ {X : Type 0} where
  -- all items so far
  abbrev pub items_of : Maker X → List X
  items_of m = joined m.parts.items ++ m.pending.items

  -- the chunks so far tell their places and first items, and each has 64 to 127 items; fewer than 128 are in none yet
  pub record IsMade (m : Maker X) : Type 0 where
    pub starts : Starts 0 m.parts.items
    pub leads : Each Leads m.parts.items
    pub long : Each IsLong m.parts.items
    pub short : Each IsShort m.parts.items
    pub counts : m.before ≡ length (joined m.parts.items)
    pub bound : m.before ≤ 2 ^ 62
    pub rest : length m.pending.items < 128
