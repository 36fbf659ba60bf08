use Rattle.std.proofs.Common.{◌∙◌, ◌++◌, ◌∷◌, [], ℕ, zero-add, ap, sym, map}
use Rattle.std.specs.Prelude.{Option}
use Rattle.std.specs.List.{range_with_len}
use Rattle.std.proofs.lemmas.List.FromFn.{map-range_with_len_more}
use Rattle.pg_rules.specs.Catalog.LookUps.{table_number}
use Rattle.pg_rules.specs.Catalog.GraphLookUps.{property_at}
use Rattle.pg_check.proofs.columns.columns_of.Goals as goal

pub loop-table-preserved : goal.loop-table-preserved
loop-table-preserved c =
    let place : ℕ → Option ℕ = λ t. property_at c.args.catalog.now c.args.graph (table_number t) c.args.name.now in
    let table = c.loop-table.table in
    c.in-Ok.ensures.ok
    ∙ ap (λ l. l ++ c.property.result ∷ []) c.loop-table.invariant
    ∙ ap (λ p. map place (range_with_len 0 table) ++ p ∷ []) c.property.ensures
    ∙ sym (map-range_with_len_more place 0 table table (zero-add table))
