-- The script that a seed and a size give, for measuring: vertices and edges that are drawn, a session that changes edges, and a session that reads
-- beside it. And the summary of a transcript.
use Rattle.std.specs.Prelude.{ℕ, zero, suc, min, ◌+◌, ◌-◌, ◌*◌, ◌/◌, ◌%◌, ◌^◌, List, [], ◌∷◌, ◌++◌, codes, length, slice_get, Option, Some, None}
use Rattle.std.specs.List.{flat_map, last_or, sum_by}
use Rattle.std.specs.Fmt.{decimal}
use Rattle.pg_script.specs.declared.outcome.Outcome.{Outcome}
use Rattle.pg_script.specs.declared.outcome.Outcome.TheVariants.{Rows}
use Rattle.pg_script.specs.declared.transcript.SectionOut.{SectionOut}
use Rattle.pg_script.specs.declared.transcript.Transcript.{Transcript}
use Rattle.pg_script.specs.declared.generated.Filled.{Filled}
use Rattle.pg_script.specs.declared.generated.Filled.TheVariants.{Persons, Edges}
use Rattle.pg_script.specs.Text.{line, at_text}

-- THE NUMBERS THAT ARE DRAWN

abbrev pub next_number : ℕ → ℕ
next_number s = (s * 6364136223846793005 + 1442695040888963407) % 2 ^ 64

-- what a number gives of those below m
abbrev pub drawn : ℕ → ℕ → ℕ
drawn s m = (s / 2 ^ 33) % m

-- the number of a seed after so many draws
abbrev pub number_after : ℕ → ℕ → ℕ
number_after seed zero = seed
number_after seed (suc k) = next_number (number_after seed k)

-- what the draw of a place gives, the first one having place 0
abbrev pub draw : ℕ → ℕ → ℕ → ℕ
draw seed k m = drawn (number_after seed (suc k)) m

-- a seed, of which so many draws are made
pub record Drawn : Type 0 where
  pub seed : ℕ
  pub made : ℕ

-- TEXTS ONE BEHIND ANOTHER

-- those of the numbers below a count, from 0 on
abbrev pub each_below : (ℕ → List ℕ) → ℕ → List ℕ
each_below f zero = []
each_below f (suc count) = each_below f count ++ f count

-- ROWS

-- the row of a place, the first one having place 0
abbrev pub person_row : ℕ → List ℕ
person_row i = codes "(" ++ (decimal (i + 1) ++ codes ", 'P')")

abbrev pub next_text : ℕ → List ℕ
next_text number = codes ", " ++ decimal number

abbrev pub knows_row : ℕ → ℕ → ℕ → List ℕ
knows_row seed n i =
    codes "(" ++ (decimal (i + 1) ++ (next_text (draw seed (3 * i) n + 1) ++ (next_text (draw seed (3 * i + 1) n + 1) ++ (next_text (draw seed (3 * i + 2) 100) ++ codes ")"))))

abbrev pub row_text : ℕ → ℕ → Filled → ℕ → List ℕ
row_text seed n Persons i = person_row i
row_text seed n Edges i = knows_row seed n i

abbrev pub name_of : Filled → List ℕ
name_of Persons = codes "person"
name_of Edges = codes "knows"

-- how many draws the rows before a place take
abbrev pub draws_before : Filled → ℕ → ℕ
draws_before Persons i = 0
draws_before Edges i = 3 * i

-- a comma and a space, and the row of a place
abbrev pub further_row : ℕ → ℕ → Filled → ℕ → List ℕ
further_row seed n filled i = codes ", " ++ row_text seed n filled i

-- so many rows from a place on, of which there is one at least
abbrev pub rows_text : ℕ → ℕ → Filled → ℕ → ℕ → List ℕ
rows_text seed n filled first count = row_text seed n filled first ++ each_below (λ k. further_row seed n filled (first + 1 + k)) (count - 1)

-- of so many rows in all, those of the statement of a place: 100, and in the last statement the rest
abbrev pub rows_in : ℕ → ℕ → ℕ
rows_in count k = min 100 (count - 100 * k)

abbrev pub insert_line : ℕ → ℕ → Filled → ℕ → ℕ → List ℕ
insert_line seed n filled count k = line (codes "INSERT INTO " ++ (name_of filled ++ (codes " VALUES " ++ (rows_text seed n filled (100 * k) (rows_in count k) ++ codes ";"))))

-- how many statements so many rows take
abbrev pub insert_count : ℕ → ℕ
insert_count count = (count + 99) / 100

abbrev pub insert_lines : ℕ → ℕ → Filled → ℕ → List ℕ
insert_lines seed n filled count = each_below (insert_line seed n filled count) (insert_count count)

-- THE SCRIPT

abbrev pub definitions : List ℕ
definitions =
    line (codes "@setup")
    ++ (line (codes "CREATE TABLE person (id INTEGER PRIMARY KEY, name VARCHAR(20));")
    ++ (line (codes "CREATE TABLE knows (id INTEGER PRIMARY KEY, a INTEGER, b INTEGER, w INTEGER);")
    ++ line (codes "CREATE PROPERTY GRAPH social VERTEX TABLES (person) EDGE TABLES (knows SOURCE KEY (a) REFERENCES person (id) DESTINATION KEY (b) REFERENCES person (id));")))

-- the change of a place, behind the draws of 4n edges
abbrev pub update_line : ℕ → ℕ → ℕ → List ℕ
update_line seed n j = line (codes "UPDATE knows SET w = w + 1 WHERE id = " ++ (decimal (draw seed (12 * n + j) (4 * n) + 1) ++ codes ";"))

abbrev pub queries : List ℕ
queries =
    line (codes "@session b")
    ++ (line (codes "BEGIN;")
    ++ (line (codes "SELECT * FROM GRAPH_TABLE (social MATCH (x)-[e]->(y) COLUMNS (x.id AS p, y.id AS q));")
    ++ (line (codes "SELECT * FROM GRAPH_TABLE (social MATCH ANY SHORTEST (x WHERE x.id = 1)->+(y) COLUMNS (y.id AS q));")
    ++ (line (codes "COMMIT;")
    ++ line (codes "SELECT * FROM GRAPH_TABLE (social MATCH (x)-[e]->(y WHERE y.id = 1) COLUMNS (e.id AS q));")))))

abbrev pub turn_of_a : ℕ → List ℕ
turn_of_a j = line (codes "a")

-- b begins, then come all changes, and then the queries
abbrev pub order : List ℕ
order = line (codes "@order") ++ (line (codes "b") ++ (each_below turn_of_a 300 ++ line (codes "b b b b")))

-- of a seed, for n persons and 4n edges between them
abbrev pub generated : ℕ → ℕ → List ℕ
generated seed n =
    definitions
    ++ (insert_lines seed n Persons n
    ++ (insert_lines seed n Edges (4 * n)
    ++ (line (codes "@session a")
    ++ (each_below (update_line seed n) 300
    ++ (queries ++ order)))))

-- THE SUMMARY

abbrev pub row_count : Outcome → ℕ
row_count (Rows at base names rows) = length rows
row_count o = 0

abbrev pub statement_count : SectionOut → ℕ
statement_count s = length s.outcomes

abbrev pub rows_of_section : SectionOut → ℕ
rows_of_section s = sum_by row_count s.outcomes

-- the version and the base of an answer
abbrev pub stands : Outcome → List (ℕ × ℕ)
stands (Rows at base names rows) = (at, base) ∷ []
stands o = []

abbrev pub last_section : List SectionOut → List Outcome
last_section sections = elim (slice_get sections (length sections - 1)) [ None ↦ [] | Some s ↦ s.outcomes ]

-- those of the last answer
abbrev pub last_stand : List Outcome → Option (ℕ × ℕ)
last_stand outcomes = last_or None (flat_map stands outcomes)

-- the last of some, or else the one before
abbrev pub later : Option (ℕ × ℕ) → List (ℕ × ℕ) → Option (ℕ × ℕ)
later before xs = last_or before xs

abbrev pub stand_text : Option (ℕ × ℕ) → List ℕ
stand_text (Some s) = at_text s.0 ++ (codes " base " ++ decimal s.1)
stand_text None = []

abbrev pub count_line : List ℕ → ℕ → List ℕ
count_line word count = line (word ++ decimal count)

-- the last answer of the last section, where it has one
abbrev pub last_line : List SectionOut → List ℕ
last_line sections = line (codes "last" ++ stand_text (last_stand (last_section sections)))

abbrev pub summary_text : Transcript → List ℕ
summary_text t =
    count_line (codes "statements ") (sum_by statement_count t.sections)
    ++ (count_line (codes "commits ") (length t.log)
    ++ (count_line (codes "rows ") (sum_by rows_of_section t.sections)
    ++ (last_line t.sections
    ++ line (codes "@end"))))
