-- What an expression is judged over, where an aggregate has chosen an element of its variable.
use Rattle.std.specs.Prelude.{ℕ, List, map, Option, Some, None}
use Rattle.pg_value.specs.declared.value.Value.{Value}
use Rattle.pg_value.specs.declared.value.Value.TheVariants.{Null}
use Rattle.pg_value.specs.declared.shape.ElemId.{ElemId}
use Rattle.pg_value.specs.Graph.{property}
use Rattle.pg_meaning.specs.CExprs.{CTree}
use Rattle.pg_meaning.specs.Meaning.{Scope, OfRow, OfVars, with_elem, value_of}
use Rattle.pg_expr.specs.declared.references.Chosen.{Chosen}

-- a property of an element
abbrev pub property_at : Scope → ElemId → List (Option ℕ) → Value
property_at (OfRow row) e columns = Null
property_at (OfVars tables f) e columns = property tables e columns

-- an element is chosen only where variables stand for elements
abbrev pub MayChoose : Option Chosen → Scope → Type 0
MayChoose None scope = Unit {0}
MayChoose (Some c) (OfRow row) = ⊥
MayChoose (Some c) (OfVars tables f) = Unit {0}

-- the variable of the chosen element stands for it alone
abbrev pub chosen_in : Option Chosen → Scope → Scope
chosen_in None scope = scope
chosen_in (Some c) scope = with_elem scope c.var c.elem.now

-- the values of an aggregate's argument, where its variable stands for one element after another
abbrev pub values_at : CTree → Scope → ℕ → List ElemId → List Value
values_at x scope v es = map (λ e. value_of x (with_elem scope v e)) es
