use Rattle.std.proofs.Common.{ap, ◌∙◌, ◌++◌}
use Rattle.pg_shared.specs.Made.{items_of}
use Rattle.pg_shared.proofs.Growth.{on_then}
use Rattle.pg_shared.proofs.Merges.{empty_is, under_nothing}
use Rattle.pg_shared.proofs.maker.Maker.push_under.Goals as goal

pub returns-then-is_empty-clause-items : goal.returns-then-is_empty-clause-items
returns-then-is_empty-clause-items g c =
    on_then _ _ c.push_part.result
    (λ e. e ∙ ap (λ l. items_of c.args.self.now ++ l) (under_nothing g.T.Keyed.key_of g.C.Change.named g.C.Change.given g.T.Keyed.key_cmp g.met.T.Keyed.exact c.args.part.now.items c.args.changes.now (empty_is c.args.changes.now c.is_empty.result c.is_empty.ensures c.if-is_empty.true)))
    c.push_part.ensures.items
