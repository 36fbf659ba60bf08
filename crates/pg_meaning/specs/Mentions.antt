-- Where the variables of path patterns are mentioned, for patterns as they are written and as they are checked:
-- `V` is a name with its place there, and a number here.
use Rattle.std.specs.Prelude.{ℕ, ◌+◌, ◌==◌, ◌&&◌, ◌||◌, Bool, true, false, cond, not, is_some, List, [], ◌∷◌, ◌++◌, filter, Option, Some, None, option_map, find, filter_map}
use Rattle.pg_meaning.specs.Outlines.{Outline, Spot, spots}

-- MENTIONS

-- a variable where a node or an edge names it
pub record Mention (V : Type 0) : Type 0 where
  pub variable : V
  -- it names an edge, and else a node
  pub edge : Bool
  -- the number of its path pattern
  pub path : ℕ
  -- the number of the quantified part in which it stands
  pub part : Option ℕ
  -- it is the first or the last node of its path pattern
  pub end : Bool

abbrev pub mention_at : {V : Type 0} → ℕ → Spot V → Option (Mention V)
mention_at path s = option_map (λ v. record { variable = v; edge = s.edge; path = path; part = s.part; end = s.end }) s.variable

abbrev pub mentions_in : {V : Type 0} → ℕ → List (Outline V) → List (Mention V)
mentions_in path os = filter_map (mention_at path) (spots os)

-- the mentions of path patterns that are numbered from here on
abbrev pub mentions_from : {V : Type 0} → ℕ → List (List (Outline V)) → List (Mention V)
mentions_from path [] = []
mentions_from path (os ∷ paths) = mentions_in path os ++ mentions_from (path + 1) paths

-- all mentions of a query's path patterns, in order of writing
abbrev pub mentions : {V : Type 0} → List (List (Outline V)) → List (Mention V)
mentions paths = mentions_from 0 paths

-- each variable once, at its first mention
abbrev pub first_mentions : {V : Type 0} → (V → V → Bool) → List (Mention V) → List (Mention V)
first_mentions same [] = []
first_mentions same (m ∷ ms) = m ∷ filter (λ n. not (same m.variable n.variable)) (first_mentions same ms)

-- DEGREES

-- what a variable stands for outside its part: one element, or one for each round of its part
pub data Degree : Type 0 where
  Singleton : Degree
  Grouped : Degree

abbrev pub degree_of : {V : Type 0} → Mention V → Degree
degree_of m = cond (is_some m.part) Grouped Singleton

-- the degree of a variable, none where no mention names it
abbrev pub degree_in : {V : Type 0} → (V → V → Bool) → List (Mention V) → V → Option Degree
degree_in same ms v = option_map degree_of (find (λ m. same v m.variable) ms)

-- TWO MENTIONS OF ONE VARIABLE

abbrev pub same_part : Option ℕ → Option ℕ → Bool
same_part None None = true
same_part None (Some q) = false
same_part (Some p) None = false
same_part (Some p) (Some q) = p == q

-- one stands in a quantified part, and the other stands outside it
abbrev pub leaves_part : {V : Type 0} → Mention V → Mention V → Bool
leaves_part m n = (is_some m.part || is_some n.part) && not ((m.path == n.path) && same_part m.part n.part)

-- both stand in a path pattern in which a variable may stand twice only as first and as last node
abbrev pub returns : {V : Type 0} → (ℕ → Bool) → Mention V → Mention V → Bool
returns strict m n = strict m.path && ((m.path == n.path) && not (m.end && n.end))

abbrev pub same_sort : Bool → Bool → Bool
same_sort true edge = edge
same_sort false edge = not edge

-- one variable that names a node and an edge, or stands inside and outside a quantified part, or returns where it may not
abbrev pub clash : {V : Type 0} → (V → V → Bool) → (ℕ → Bool) → Mention V → Mention V → Bool
clash same strict m n = same m.variable n.variable && (not (same_sort m.edge n.edge) || (leaves_part m n || returns strict m n))
