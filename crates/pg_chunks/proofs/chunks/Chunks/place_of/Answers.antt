use Rattle.std.proofs.Common.{length, sym, subst}
use Rattle.std.specs.Prelude.{Err}
use Rattle.pg_keyed.specs.Keyed.{Sought}
use Rattle.pg_keyed.specs.Searches.{at_end}
use Rattle.pg_chunks.proofs.chunks.Chunks.place_of.Goals as goal

pub returns-then-are_before-clause-value : goal.returns-then-are_before-clause-value
returns-then-are_before-clause-value g c =
    let s = at_end g.T.Keyed.key_of g.T.Keyed.key_cmp g.met.T.Keyed.exact (g.P.Probe.sought c.args.key.now) c.self.inside.parts c.self.invariant (c.are_before.ensures c.if-are_before.true) in
    subst (λ n. Sought g.T.Keyed.key_of g.T.Keyed.key_cmp (g.P.Probe.sought c.args.key.now) c.args.self.now (Err n)) (sym c.len.ensures)
    (subst (λ xs. Sought g.T.Keyed.key_of g.T.Keyed.key_cmp (g.P.Probe.sought c.args.key.now) xs (Err (length c.self.inside.parts))) c.self.view_is s)
