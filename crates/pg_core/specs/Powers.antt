-- The lengths of the runs over a base, newest first: the powers of two of their sum, each once, rising.
use Rattle.std.specs.Prelude.{ℕ, ◌≡◌, ◌+◌, ◌^◌, ◌≤◌, ◌==◌, List, [], ◌∷◌, cond}

-- different powers of two, from 2 ^ k on, rising
abbrev pub Powers : ℕ → List ℕ → Type 0
Powers k [] = Unit {0}
Powers k (n ∷ ns) = (e : ℕ) × (k ≤ e) × (n ≡ 2 ^ e) × Powers (e + 1) ns

-- a length more: it is added to the next while both are equal
abbrev pub carry : ℕ → List ℕ → List ℕ
carry n [] = n ∷ []
carry n (m ∷ ms) = cond (m == n) (carry (m + n) ms) (n ∷ m ∷ ms)
