use Rattle.std.proofs.Common.{ap, ◌∙◌}
use Rattle.std.specs.List.{insert}
use Rattle.pg_chunks.proofs.Keeps.{on_ok, last_grown}
use Rattle.pg_chunks.proofs.parts.Parts.insert.Goals as goal

pub returns-else-at-self-clause-ok : goal.returns-else-at-self-clause-ok
returns-else-at-self-clause-ok g c =
    on_ok c.insert_last.result (λ e. last_grown c.self.inside.full.items c.insert_last.new.full.items c.self.inside.before c.args.at c.self.inside.last.items c.insert_last.new.last.items c.args.item c.self.invariant c.if-at-self.false e ∙ ap (λ xs. insert xs c.args.at c.args.item) c.self.view_is) c.insert_last.ensures.ok
