use Rattle.std.proofs.Common.{[], ap, sym, ◌∙◌}
use Rattle.std.specs.Option.{option_copied, option_map, unwrap_or}
use Rattle.pg_value.specs.Tables.{Stored}
use Rattle.pg_value.specs.TablesLaws.{stored_in, stored_at_in}
use Rattle.pg_write.proofs.tables.TableListsTableRows.row.Goals as goal

pub returns-in-Some : goal.returns-in-Some
returns-in-Some c =
    c.row_in.ensures
    ∙ ap (option_map (λ (s : Stored). s.row))
    (c.find.ensures
    ∙ ap (stored_in c.args.key.now.values) (ap (λ o. unwrap_or (option_copied o) []) (sym c.in-Some.is) ∙ c.list.ensures)
    ∙ stored_at_in c.args.table c.args.key.now.values c.args.self.now)

pub returns-in-None : goal.returns-in-None
returns-in-None c = ap (option_map (λ (s : Stored). s.row))
    (ap (stored_in c.args.key.now.values) (ap (λ o. unwrap_or (option_copied o) []) (sym c.in-None.is) ∙ c.list.ensures)
    ∙ stored_at_in c.args.table c.args.key.now.values c.args.self.now)
