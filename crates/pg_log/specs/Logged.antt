-- A log with its limit and the room that it has; the commit of a number; and where writes first meet commits that came since.
use Rattle.std.specs.Prelude.{◌≡◌, ◌==◌, ℕ, ◌+◌, ◌-◌, List, [], ◌∷◌, cond, slice_get, nat_lt}
use Rattle.std.specs.declared.option.Option.{Option}
use Rattle.std.specs.declared.option.Option.TheVariants.{Some, None}
use Rattle.pg_value.specs.declared.write.Write.{Write}
use Rattle.pg_value.specs.declared.write.Commit.{Commit}
use Rattle.pg_value.specs.Log.{names, conflict, first_writer}

-- the commits, how many writes they may hold in all, and for how many commits more there is room
pub record Logged : Type 0 where
  pub list : List Commit
  pub limit : ℕ
  pub spare : ℕ

-- the commit of a number, counted from 1
abbrev pub commit_at : List Commit → ℕ → Option Commit
commit_at log n = cond (n == 0) None (slice_get log (n - 1))

-- what the writes conflict with, where the write is given by its place
abbrev pub Placed : Option (Write × ℕ) → List Write → Option (ℕ × ℕ) → Type 0
Placed found writes None = found ≡ None
Placed found writes (Some (at, k)) = (w : Write) × (slice_get writes at ≡ Some w) × (found ≡ Some (w, k))

-- the place of the first write whose key a commit after the k-th wrote, and the first such commit
abbrev pub Changed : List Commit → ℕ → List Write → Option (ℕ × ℕ) → Type 0
Changed log k writes found = Placed (conflict log k writes) writes found

-- THE SAME AS THE CODE FINDS IT

-- the place of the first write that one of these names, where the first write has place i
abbrev pub first_named : ℕ → List Write → List Write → Option ℕ
first_named i named_by [] = None
first_named i named_by (w ∷ ws) = cond (names named_by w) (Some i) (first_named (i + 1) named_by ws)

-- the lesser of two places
abbrev pub lesser : Option ℕ → Option ℕ → Option ℕ
lesser None b = b
lesser (Some i) None = Some i
lesser (Some i) (Some j) = cond (nat_lt j i) (Some j) (Some i)

abbrev pub or_else : Option ℕ → ℕ → Option (ℕ × ℕ) → Option (ℕ × ℕ)
or_else (Some k) i later = Some (i, k)
or_else None i later = later

-- the place of the first write that one of these commits wrote, and the first such commit; the first commit has number n, and the first write place i
abbrev pub changed_from : ℕ → ℕ → List Commit → List Write → Option (ℕ × ℕ)
changed_from i n commits [] = None
changed_from i n commits (w ∷ ws) = or_else (first_writer n commits w) i (changed_from (i + 1) n commits ws)

-- what is found with one commit more, of number n
abbrev pub earlier : Option (ℕ × ℕ) → Option ℕ → ℕ → Option (ℕ × ℕ)
earlier found None n = found
earlier None (Some i) n = Some (i, n)
earlier (Some (j, k)) (Some i) n = cond (nat_lt i j) (Some (i, n)) (Some (j, k))
