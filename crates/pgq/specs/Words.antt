-- The words that the program is run with, each by its bytes, and what they ask for.
use Rattle.std.specs.Prelude.{ℕ, ◌≡◌, ◌⊎◌, List, [], ◌∷◌, codes}
use Rattle.pgq.specs.declared.words.Form.{Form}
use Rattle.pgq.specs.declared.words.Form.TheVariants.{Step}

-- WHICH ARGUMENTS ARE WORDS

-- all but the first argument, which is the program's name
abbrev pub behind_name : List (List ℕ) → List (List ℕ)
behind_name [] = []
behind_name (name ∷ words) = words

-- FORMS

-- `step`, or `step -`
abbrev pub IsStep : List (List ℕ) → Type 0
IsStep words = (words ≡ codes "step" ∷ []) ⊎ (words ≡ codes "step" ∷ codes "-" ∷ [])

-- the words have this form
abbrev pub HasForm : Form → List (List ℕ) → Type 0
HasForm Step words = IsStep words

-- the words have no form
abbrev pub HasNoForm : List (List ℕ) → Type 0
HasNoForm words = (form : Form) → ¬ HasForm form words
