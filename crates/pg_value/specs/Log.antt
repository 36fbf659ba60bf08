-- The log of commits: the tables after a prefix of it, when a commit conflicts, and which logs are lawful.
-- Snapshot isolation with first committer wins, after Berenson et al., SIGMOD 1995.
use Rattle.std.specs.Prelude.{ℕ, ◌≡◌, ◌+◌, ◌<◌, ◌≤◌, Bool, cond, List, [], ◌∷◌, ◌++◌, length, take, drop}
use Rattle.std.specs.declared.option.Option.{Option}
use Rattle.std.specs.declared.option.Option.TheVariants.{Some, None}
use Rattle.std.specs.Option.{option_map}
use Rattle.std.specs.List.{list_any}
use Rattle.std.specs.Ordering.{is_eq}
use Rattle.pg_keyed.specs.Keyed as keyed
use Rattle.pg_value.specs.declared.write.Write.{Write}
use Rattle.pg_value.specs.declared.write.Commit.{Commit}
use Rattle.pg_value.specs.Order.{place_cmp}
use Rattle.pg_value.specs.Tables.{Stored, Tables, place_of}
use Rattle.pg_value.specs.Writes.{named}

-- the row that a write gives, or none where it is gone
abbrev pub row_given : Write → Option Stored
row_given w = option_map (λ r. record { table = w.table; key = w.key; row = r }) w.row

-- writes put on tables: the rows whose place is named go, and the writes' rows come, in order
abbrev pub put : Tables → List Write → Tables
put tables writes = keyed.put place_of named row_given place_cmp tables writes

-- the writes of commits, one after another
abbrev pub puts : Tables → List Commit → Tables
puts tables [] = tables
puts tables (c ∷ cs) = puts (put tables c.writes.list) cs

-- version k: the tables after the first k commits, from empty tables
abbrev pub after : List Commit → ℕ → Tables
after log k = puts [] (take k log)

-- version k under a transaction's own writes
abbrev pub view : List Commit → ℕ → List Write → Tables
view log k writes = put (after log k) writes

-- how many writes the log holds
abbrev pub held : List Commit → ℕ
held [] = 0
held (c ∷ cs) = length c.writes.list + held cs

-- one of the writes names the place of w
abbrev pub names : List Write → Write → Bool
names writes w = list_any (λ x. is_eq (place_cmp (named x) (named w))) writes

-- the first of these commits, numbered from n, that wrote w's place
abbrev pub first_writer : ℕ → List Commit → Write → Option ℕ
first_writer n [] w = None
first_writer n (c ∷ cs) w = cond (names c.writes.list w) (Some n) (first_writer (n + 1) cs w)

abbrev pub or_later : Option ℕ → Write → Option (Write × ℕ) → Option (Write × ℕ)
or_later (Some j) w later = Some (w, j)
or_later None w later = later

-- the first write whose place one of these commits, numbered from n, wrote, and the first such commit
abbrev pub conflict_after : ℕ → List Commit → List Write → Option (Write × ℕ)
conflict_after n later [] = None
conflict_after n later (w ∷ ws) = or_later (first_writer n later w) w (conflict_after n later ws)

-- the first write whose place a commit after the k-th wrote, and the first such commit
abbrev pub conflict : List Commit → ℕ → List Write → Option (Write × ℕ)
conflict log k writes = conflict_after (k + 1) (drop k log) writes

-- these writes would take the log past its limit
abbrev pub IsFull : ℕ → List Commit → List Write → Type 0
IsFull limit log writes = limit < held log + length writes

-- the commits that follow `before` are lawful: each had read an earlier version, wrote something, and met no conflict
abbrev pub IsLawfulFrom : List Commit → List Commit → Type 0
IsLawfulFrom before [] = Unit {0}
IsLawfulFrom before (c ∷ cs) =
    (c.from ≤ length before) × (c.writes.list ≡ [] → ⊥) × (conflict before c.from c.writes.list ≡ None) × IsLawfulFrom (before ++ c ∷ []) cs

pub record IsLawful (limit : ℕ) (log : List Commit) : Type 0 where
  pub each : IsLawfulFrom [] log
  pub within : held log ≤ limit
