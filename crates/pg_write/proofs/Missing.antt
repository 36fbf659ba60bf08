-- The first place in two lists, and names that are no column in lists of names that are joined.
use Rattle.std.proofs.Common.{◌≡◌, ℕ, ap, sym, ◌∙◌, List, ◌++◌, Option}
use Rattle.std.proofs.lemmas.Grind.{flat_map-append}
use Rattle.pg_ast.specs.declared.expr.Name.{Name}
use Rattle.pg_rules.specs.declared.entry.ColumnEntry.{ColumnEntry}
use Rattle.pg_rules.specs.Definitions.Graphs.{missing}
use Rattle.pg_rules.specs.Places.{least, sooner, least_append}

pub missing_append : (columns : List ColumnEntry) (xs ys : List Name) → least (missing columns (xs ++ ys)) ≡ sooner (least (missing columns xs)) (least (missing columns ys))
missing_append columns xs ys = ap least (flat_map-append _ xs ys) ∙ least_append (missing columns xs) (missing columns ys)

-- the first place in two lists
pub joined : (xs ys : List ℕ) (v e r : Option ℕ) → v ≡ least xs → e ≡ least ys → r ≡ sooner v e → r ≡ least (xs ++ ys)
joined xs ys v e r hv he h = h ∙ ap (λ o. sooner o e) hv ∙ ap (sooner (least xs)) he ∙ sym (least_append xs ys)
