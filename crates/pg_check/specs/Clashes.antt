-- Two mentions of one variable that may not both stand, as one pass over the mentions finds the later of them.
use Rattle.std.specs.Prelude.{ℕ, ◌&&◌, ◌||◌, ◌==◌, Bool, false, not, List, [], ◌∷◌, ◌++◌, slice_get, Option, Some, None}
use Rattle.std.specs.Map.{lookup}
use Rattle.std.specs.Str.{bytes_eq}
use Rattle.std.proofs.Common.{Bor}
use Rattle.indexmap.specs.IndexMap.{insert_entry}
use Rattle.pg_ast.specs.declared.expr.Name.{Name}
use Rattle.pg_meaning.specs.Mentions.{Mention, same_sort, leaves_part}
use Rattle.pg_rules.specs.Places.{place_if}
use Rattle.pg_check.specs.declared.clashes.MetOf.{MetOf}
use Rattle.pg_check.specs.Gathered.{mention_view}

-- WHAT WAS MET OF A VARIABLE

-- its first mention, and whether a later one is of another sort or part
pub record Met : Type 0 where
  pub first : Mention Name
  pub mixed : Bool

abbrev pub met_view : MetOf → Met
met_view m = record { first = mention_view m.first; mixed = m.mixed }

-- both name nodes or both edges, and neither leaves the part of the other
abbrev pub are_kin : Mention Name → Mention Name → Bool
are_kin m n = same_sort m.edge n.edge && not (leaves_part m n)

abbrev pub met_with : Option Met → Mention Name → Met
met_with None m = record { first = m; mixed = false }
met_with (Some s) m = record { first = s.first; mixed = s.mixed || not (are_kin s.first m) }

-- the mention is not kin to each that was met
abbrev pub strays : Option Met → Mention Name → Bool
strays None n = false
strays (Some s) n = s.mixed || not (are_kin s.first n)

-- WHAT WAS MET OF A VARIABLE IN A PATH PATTERN

-- whether a mention other than as first or last node was met
abbrev pub inner_with : Option Bool → Mention Name → Bool
inner_with None m = not m.end
inner_with (Some inner) m = inner || not m.end

abbrev pub returns_to : (ℕ → Bool) → Option Bool → Mention Name → Bool
returns_to strict None n = false
returns_to strict (Some inner) n = strict n.path && (not n.end || inner)

-- THE PASS

abbrev pub Place : Type 0
Place = List ℕ × ℕ

abbrev pub place_eq : Place → Place → Bool
place_eq a b = bytes_eq a.0 b.0 && (a.1 == b.1)

abbrev pub place_of : Mention Name → Place
place_of m = (m.variable.text, m.path)

abbrev pub Mets : Type 0
Mets = List (List ℕ × Met)

abbrev pub Inners : Type 0
Inners = List (Place × Bool)

abbrev pub met_entry : Bor (List ℕ) × MetOf → List ℕ × Met
met_entry e = (e.0.now, met_view e.1)

abbrev pub inner_entry : (Bor (List ℕ) × ℕ) × Bool → Place × Bool
inner_entry e = ((e.0.0.now, e.0.1), e.1)

abbrev pub note_met : Mets → Mention Name → Mets
note_met known m = insert_entry bytes_eq known m.variable.text (met_with (lookup (bytes_eq m.variable.text) known) m)

abbrev pub note_inner : Inners → Mention Name → Inners
note_inner known m = insert_entry place_eq known (place_of m) (inner_with (lookup (place_eq (place_of m)) known) m)

abbrev pub is_late : (ℕ → Bool) → Mets → Inners → Mention Name → Bool
is_late strict mets inners n = strays (lookup (bytes_eq n.variable.text) mets) n || returns_to strict (lookup (place_eq (place_of n)) inners) n

abbrev pub late_after : (ℕ → Bool) → Mets → Inners → List (Mention Name) → List ℕ
late_after strict mets inners [] = []
late_after strict mets inners (n ∷ ns) = place_if (is_late strict mets inners n) n.variable.at ++ late_after strict (note_met mets n) (note_inner inners n) ns

-- whether the path pattern of a number allows every walk and has a part that is repeated without end
abbrev pub is_yes : Option Bool → Bool
is_yes None = false
is_yes (Some b) = b

abbrev pub is_strict_in : List Bool → ℕ → Bool
is_strict_in walks path = is_yes (slice_get walks path)
