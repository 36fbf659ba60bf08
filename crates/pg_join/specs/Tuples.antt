-- Tuples whose bindings are borrowed, and bindings by their keys.
use Rattle.std.specs.Prelude.{◌≡◌, ℕ, List, [], ◌∷◌, length, slice_get, Option, Some, None}
use Rattle.std.specs.Option.{unwrap_or}
use Rattle.pg_value.specs.declared.shape.ElemId.{ElemId}
use Rattle.pg_meaning.specs.declared.checked.CheckedPath.{CheckedPath}
use Rattle.pg_meaning.specs.declared.checked.PathBinding.{PathBinding}
use Rattle.pg_join.specs.Joining.{IsLast, has_key, key_of}

-- The place of the last binding with a key, and for each place that of the one before it with the same.
pub record IsIndex (vars : List ℕ) (p : CheckedPath) (kept : List PathBinding) (known : List ElemId → Option ℕ) (earlier : List (Option ℕ)) : Type 0 where
  pub last : (key : List ElemId) → IsLast (has_key vars p key) kept (length kept) (known key)
  pub long : length earlier ≡ length kept
  pub before : (i : ℕ) (b : PathBinding) → slice_get kept i ≡ Some b → IsLast (has_key vars p (key_of vars (p ∷ []) (b ∷ []))) kept i (unwrap_or (slice_get earlier i) None)
