-- A list of writes in order of table and key, with a limit, and what a put does to it.
use Rattle.std.specs.Prelude.{ℕ, ◌≡◌, ◌⊎◌, ◌<◌, ◌≤◌, List, [], ◌∷◌, length, Bool, true, false, is_some, Result, Ok, Err}
use Rattle.std.specs.declared.option.Option.{Option}
use Rattle.pg_keyed.specs.Keyed as keyed
use Rattle.pg_value.specs.declared.write.Write.{Write}
use Rattle.pg_value.specs.declared.write.PutFault.{PutFault}
use Rattle.pg_value.specs.declared.write.PutFault.TheVariants.{Full, Memory}
use Rattle.pg_value.specs.Order.{Place, place_cmp}

-- the place that a write names
abbrev pub named : Write → Place
named w = (w.table.0, w.key.values)

-- in order of table and key, no place twice
abbrev pub IsInOrder : List Write → Type 0
IsInOrder writes = keyed.Ascends named place_cmp writes

-- the write of a place
abbrev pub write_at : Place → List Write → Option Write
write_at p writes = keyed.get named place_cmp p writes

-- writes put on writes: where both name a place, the newer's
abbrev pub merge : List Write → List Write → List Write
merge older newer = keyed.merge named place_cmp older newer

pub record Limited : Type 0 where
  pub list : List Write
  pub limit : ℕ

-- there is a write of the place
abbrev pub has : Place → List Write → Bool
has p writes = is_some (write_at p writes)

-- where the write of a place stands, or else where it would stand
abbrev pub Sought : Place → List Write → Result ℕ ℕ → Type 0
Sought p writes r = keyed.Sought named place_cmp p writes r

-- what `put` does: the write replaces that of its place or is added. Full comes exactly where the place is new and the
-- limit is reached; Memory only where the place is new and it is not.
abbrev pub Put : Limited → Limited → Write → Result Unit PutFault → Type 0
Put old new w (Ok u) = (new.list ≡ merge old.list (w ∷ [])) × (new.limit ≡ old.limit) × ((has (named w) old.list ≡ true) ⊎ (length old.list < old.limit))
Put old new w (Err (Full back)) = (new ≡ old) × (back ≡ w) × (has (named w) old.list ≡ false) × (old.limit ≤ length old.list)
Put old new w (Err (Memory back)) = (new ≡ old) × (back ≡ w) × (has (named w) old.list ≡ false) × (length old.list < old.limit)
