-- What a search numbers: elements, walks as lists of an edge and a vertex, and mentions as lists of a variable and an element. A state
-- is kept by such numbers.
use Rattle.std.specs.Prelude.{◌≡◌, ◌<◌, ◌≤◌, ℕ, List, [], ◌∷◌, map, length, Contains, Some, slice_get}
use Rattle.std.specs.Option.{unwrap_or}
use Rattle.pg_value.specs.declared.shape.ElemId.{ElemId}
use Rattle.pg_meaning.specs.Walks.{Hop, last_vertex}
use Rattle.pg_meaning.specs.Fits.{Mention}
use Rattle.pg_meaning.specs.Bindings.{Distinct}
use Rattle.pg_auto.specs.States.{State}
use Rattle.pg_search.specs.declared.states.Kept.{Kept}
use Rattle.pg_search.specs.Chains.{list_at}

pub record Numbers : Type 0 where
  pub start : ElemId
  pub elems : List ElemId
  pub walks : List (List (ℕ × ℕ))
  pub names : List (List (ℕ × ℕ))

-- the start has the number 0
abbrev pub first_numbers : ElemId → Numbers
first_numbers start = record { start = start; elems = start ∷ []; walks = [] ∷ []; names = [] ∷ [] }

-- WHAT THE NUMBERS STAND FOR

abbrev pub elem_at : Numbers → ℕ → ElemId
elem_at n k = unwrap_or (slice_get n.elems k) n.start

abbrev pub hop_of : Numbers → ℕ × ℕ → Hop
hop_of n item = record { edge = elem_at n item.0; to = elem_at n item.1 }

abbrev pub mention_of : Numbers → ℕ × ℕ → Mention
mention_of n item = record { var = item.0; elem = elem_at n item.1 }

abbrev pub hops_at : Numbers → ℕ → List Hop
hops_at n k = map (hop_of n) (list_at n.walks k)

abbrev pub mentions_at : Numbers → ℕ → List Mention
mentions_at n k = map (mention_of n) (list_at n.names k)

abbrev pub state_of : Numbers → Kept → State
state_of n a = record {
  stage = a.stage;
  done = a.done;
  at = last_vertex n.start (hops_at n a.walk);
  hops = hops_at n a.walk;
  singles = mentions_at n a.singles;
  groups = mentions_at n a.groups;
}

-- nothing has two numbers, and what lists hold are numbers of elements
pub record AreNumbers (n : Numbers) : Type 0 where
  pub first : slice_get n.elems 0 ≡ Some n.start
  pub elems : Distinct n.elems
  pub walks : Distinct n.walks
  pub names : Distinct n.names
  pub of_walks : (k : ℕ) (item : ℕ × ℕ) → Contains (list_at n.walks k) item → (item.0 < length n.elems) × (item.1 < length n.elems)
  pub of_names : (k : ℕ) (item : ℕ × ℕ) → Contains (list_at n.names k) item → item.1 < length n.elems

-- different numbers stand for different walks, and for different mentions
pub record StandApart (n : Numbers) : Type 0 where
  pub hops : (i j : ℕ) → i < length n.walks → j < length n.walks → hops_at n i ≡ hops_at n j → i ≡ j
  pub mentions : (i j : ℕ) → i < length n.names → j < length n.names → mentions_at n i ≡ mentions_at n j → i ≡ j

pub record IsWithin (n : Numbers) (a : Kept) : Type 0 where
  pub walk : a.walk < length n.walks
  pub singles : a.singles < length n.names
  pub groups : a.groups < length n.names

-- MORE NUMBERS

-- those that were there stand for what they stood for
pub record Grow (n m : Numbers) : Type 0 where
  pub start : m.start ≡ n.start
  pub more_elems : length n.elems ≤ length m.elems
  pub more_walks : length n.walks ≤ length m.walks
  pub more_names : length n.names ≤ length m.names
  pub elems : (k : ℕ) → k < length n.elems → elem_at m k ≡ elem_at n k
  pub hops : (k : ℕ) → k < length n.walks → hops_at m k ≡ hops_at n k
  pub mentions : (k : ℕ) → k < length n.names → mentions_at m k ≡ mentions_at n k
