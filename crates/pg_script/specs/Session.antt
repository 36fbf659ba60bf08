-- A legal session: the fold of the table over the items and outcomes of one section, over one log.
use Rattle.std.specs.Prelude.{◌≡◌, ℕ, ◌+◌, ◌<◌, ◌≤◌, max, List, [], ◌∷◌, ◌++◌, length, take, Contains}
use Rattle.std.specs.declared.option.Option.TheVariants.{Some, None}
use Rattle.pg_value.specs.declared.write.Commit.{Commit}
use Rattle.pg_value.specs.Log.{view, held, conflict}
use Rattle.pg_script.specs.declared.script.Item.{Item}
use Rattle.pg_script.specs.declared.outcome.Outcome.{Outcome}
use Rattle.pg_script.specs.declared.outcome.Outcome.TheVariants.{Defined, Began, Changed, ChangedAlone, Committed, CommitEmpty, RolledBack, Rows, After, AtByte, AlreadyOpen, NotOpen, Duplicate, TooManyWrites, AtColumn, Conflict, LogFull}
use Rattle.pg_script.specs.Judged.{Judges, History, Session, Judged}

-- the number of an outcome, after so many commits seen: its version, the later one where it has two, or what was seen
-- where it was refused before a start
abbrev pub number : ℕ → Outcome → ℕ
number seen (Defined name at) = at
number seen (Began at) = at
number seen (Changed rows at) = at
number seen (ChangedAlone rows from at) = at
number seen (Committed from at) = at
number seen (CommitEmpty at) = at
number seen (RolledBack at) = at
number seen (Rows at base names rows) = at
number seen (After name n at) = at
number seen (AtByte kind byte) = seen
number seen AlreadyOpen = seen
number seen NotOpen = seen
number seen (Duplicate row at) = at
number seen (TooManyWrites row at) = at
number seen (AtColumn kind row column at) = at
number seen (Conflict table key from at) = at
number seen (LogFull from room) = from

-- the commits that an outcome prints
abbrev pub printed : Outcome → List ℕ
printed (Defined name at) = []
printed (Began at) = []
printed (Changed rows at) = []
printed (ChangedAlone rows from at) = at ∷ []
printed (Committed from at) = at ∷ []
printed (CommitEmpty at) = []
printed (RolledBack at) = []
printed (Rows at base names rows) = []
printed (After name n at) = []
printed (AtByte kind byte) = []
printed AlreadyOpen = []
printed NotOpen = []
printed (Duplicate row at) = []
printed (TooManyWrites row at) = []
printed (AtColumn kind row column at) = []
printed (Conflict table key from at) = []
printed (LogFull from room) = []

abbrev pub all_printed : List Outcome → List ℕ
all_printed [] = []
all_printed (o ∷ os) = printed o ++ all_printed os

-- what a section has seen after its outcomes: each raises it to at least its number
abbrev pub raised : ℕ → List Outcome → ℕ
raised seen [] = seen
raised seen (o ∷ os) = raised (max seen (number seen o)) os

-- each outcome's number is at most this
abbrev pub NumbersWithin : ℕ → ℕ → List Outcome → Type 0
NumbersWithin most seen [] = Unit {0}
NumbersWithin most seen (o ∷ os) = (number seen o ≤ most) × NumbersWithin most (max seen (number seen o)) os

-- the commit of this number
abbrev pub Logs : List Commit → ℕ → Commit → Type 0
Logs log c commit = (front : List Commit) × (back : List Commit) × (log ≡ front ++ commit ∷ back) × (c ≡ length front + 1)

-- What an AFTER is judged by: the session m is found past its i-th item at a length of the log. Where the outcomes of all sections are known: there
-- are so many, and the length holds their numbers (which begin at the setup's length; that much was seen).
abbrev pub IsMet : (ℕ → List Outcome) → ℕ → ℕ → ℕ → Type 0
IsMet outs m i at = (i ≤ length (outs m)) × NumbersWithin at 0 (take i (outs m))

-- what a session notes of an AFTER that it met: the other session, how many of its items, and the length of the log then
pub record Meeting : Type 0 where
  pub session : ℕ
  pub items : ℕ
  pub at : ℕ

-- where a session is judged alone: by what it noted
abbrev pub IsNoted : List Meeting → ℕ → ℕ → ℕ → Type 0
IsNoted meetings m i at = Contains meetings (record { session = m; items = i; at = at })

-- What an outcome of section n may rest on in a whole run: one log, whose first commits are the setup's, and what an AFTER is judged by.
-- A start fixes a version that holds all that the section has seen, and in the setup just that.
-- A conflict is over some prefix of the log, a full log over a prefix at least as long as what was seen and as the version.
-- An AFTER is met at a length of the log that holds what was seen.
abbrev pub whole : ℕ → List Commit → (ℕ → ℕ → ℕ → Type 0) → ℕ → History
whole limit log met n = record {
  starts = λ seen k. (seen ≤ k) × (k ≤ length log) × (n ≡ 0 → k ≡ seen);
  defines = λ seen at. at ≡ seen;
  sees = λ k ws t. (k ≤ length log) × (t ≡ view log k ws);
  logs = λ c commit. Logs log c commit;
  conflicts = λ k ws w j. (j ≤ length log) × (conflict (take j log) k ws ≡ Some (w, j));
  fills = λ seen k ws room. (p : ℕ) × (k ≤ p) × (seen ≤ p) × (p ≤ length log) × (conflict (take p log) k ws ≡ None) × (room ≡ held (take p log)) × (limit < room + length ws);
  meets = λ seen m i at. (seen ≤ at) × (at ≤ length log) × met m i at;
  bases = λ k base. (base ≤ k) × (k ≤ base + 256);
}

-- items answered one after another, each by the table
abbrev pub Runs : {K D C Q X Y : Type 0} → Judges K D C Q X Y → History → ℕ → ℕ → Session K → List Item → List Outcome → Session K → Type 0
Runs J h n seen s [] [] s' = s' ≡ s
Runs J h n seen s [] (o ∷ os) s' = ⊥
Runs J h n seen s (i ∷ is) [] s' = ⊥
Runs {K} J h n seen s (i ∷ is) (o ∷ os) s' = (m : Session K) × Judged J h n seen s i o m × Runs J h n (max seen (number seen o)) m is os s'
