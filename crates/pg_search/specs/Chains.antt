-- Lists that share their fronts. A list is known by a number: 0 is the empty one, and each other is an earlier list with an item behind it.
-- An item is two numbers.
use Rattle.std.specs.Prelude.{◌≡◌, ◌≤◌, ◌⊎◌, ◌==◌, ◌&&◌, not, ℕ, Bool, List, [], ◌∷◌, ◌++◌, slice_get, Some}
use Rattle.std.specs.Option.{unwrap_or}
use Rattle.pg_meaning.specs.Bindings.{Distinct}
use Rattle.pg_search.specs.declared.chains.Link.{Link}

-- the list of a number
abbrev pub list_at : List (List (ℕ × ℕ)) → ℕ → List (ℕ × ℕ)
list_at lists n = unwrap_or (slice_get lists n) []

abbrev pub is_first : ℕ → ℕ × ℕ → Bool
is_first n item = item.0 == n

abbrev pub is_second : ℕ → ℕ × ℕ → Bool
is_second n item = item.1 == n

-- the same first number with another second one
abbrev pub is_other : ℕ → ℕ → ℕ × ℕ → Bool
is_other n m item = (item.0 == n) && not (item.1 == m)

-- THE LISTS OF SOME LINKS

abbrev pub item_of : Link → ℕ × ℕ
item_of link = (link.first, link.second)

abbrev pub extended : List (List (ℕ × ℕ)) → Link → List (ℕ × ℕ)
extended lists link = list_at lists link.before ++ item_of link ∷ []

abbrev pub grown : List (List (ℕ × ℕ)) → List Link → List (List (ℕ × ℕ))
grown lists [] = lists
grown lists (link ∷ links) = grown (lists ++ extended lists link ∷ []) links

abbrev pub lists_of : List Link → List (List (ℕ × ℕ))
lists_of links = grown ([] ∷ []) links

-- each link goes on from a list that stands before it, and no list stands twice
pub record AreLinks (links : List Link) : Type 0 where
  pub earlier : (k : ℕ) (link : Link) → slice_get links k ≡ Some link → link.before ≤ k
  pub distinct : Distinct (lists_of links)

-- PUTTING A LIST

-- the list with this number is an earlier one with an item behind it; it was there, or stands behind the others
pub record IsPushed (lists : List (List (ℕ × ℕ))) (before : ℕ) (item : ℕ × ℕ) (n : ℕ) (more : List (List (ℕ × ℕ))) : Type 0 where
  pub there : slice_get more n ≡ Some (list_at lists before ++ item ∷ [])
  pub grows : (more ≡ lists) ⊎ (more ≡ lists ++ (list_at lists before ++ item ∷ []) ∷ [])
