-- Texts appended one after another.
use Rattle.std.proofs.Common.{◌≡◌, ℕ, List, ◌++◌, append_assoc}

-- two parts of a line, and its end
pub line_of_two : (o a b e z m n : List ℕ) → m ≡ o ++ a → n ≡ m ++ b → n ++ (e ++ z) ≡ o ++ ((a ++ (b ++ e)) ++ z)
line_of_two o a b e z m n f g = rw (g, f) (simp append_assoc)
