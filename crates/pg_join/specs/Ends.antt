-- What is noted of the bindings from one start by their last vertices.
use Rattle.std.specs.Prelude.{◌≡◌, ◌≤◌, ℕ, Bool, true, false, nat_le, List, [], ◌∷◌, ◌++◌, length, Contains, Option, Some, None}
use Rattle.pg_value.specs.declared.shape.ElemId.{ElemId}
use Rattle.pg_meaning.specs.declared.checked.PathBinding.{PathBinding}
use Rattle.pg_join.specs.Selecting.{end_of}

-- the least length of those with this last vertex, None where there is none
abbrev pub IsLeast : List PathBinding → ElemId → Option ℕ → Type 0
IsLeast all e None = (b : PathBinding) → Contains all b → end_of b ≡ Some e → ⊥
IsLeast all e (Some n) = ((b : PathBinding) → Contains all b → end_of b ≡ Some e → n ≤ length b.edges) × ((b : PathBinding) × Contains all b × (end_of b ≡ Some e) × (length b.edges ≡ n))

-- a length that is no greater is known
abbrev pub is_known : Option ℕ → ℕ → Bool
is_known None n = false
is_known (Some known) n = nat_le known n

abbrev pub is_within : ℕ → Option ℕ → Bool
is_within n None = false
is_within n (Some least) = nat_le n least

abbrev pub least_at : (ElemId → Option ℕ) → Option ElemId → Option ℕ
least_at least None = None
least_at least (Some e) = least e

-- no longer than the least length that is known for its last vertex
abbrev pub is_least : (ElemId → Option ℕ) → PathBinding → Bool
is_least least b = is_within (length b.edges) (least_at least (end_of b))

-- a last vertex is put behind those that are noted, where it is not among them
abbrev pub IsNoted : List ElemId → Option ElemId → Bool → List ElemId → Type 0
IsNoted noted end true more = (e : ElemId) × (end ≡ Some e) × (more ≡ noted ++ e ∷ []) × (Contains noted e → ⊥)
IsNoted noted end false more = (more ≡ noted) × ((e : ElemId) → end ≡ Some e → Contains noted e)
