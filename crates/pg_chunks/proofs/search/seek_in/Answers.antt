use Rattle.std.proofs.Common.{◌++◌, sym, subst, arith}
use Rattle.pg_keyed.specs.Keyed.{Sought}
use Rattle.pg_chunks.specs.Parts.{joined}
use Rattle.pg_chunks.proofs.Places.{ascends_first, ascends_second}
use Rattle.pg_chunks.proofs.Seeks.{sought_full, sought_last, cost_full, cost_last, some_read}
use Rattle.pg_chunks.proofs.search.seek_in.Goals as goal

pub part_of-part-requires-clause-ascends : goal.part_of-part-requires-clause-ascends
part_of-part-requires-clause-ascends g c = ascends_first g.T.Keyed.key_of g.T.Keyed.key_cmp g.met.T.Keyed.exact (joined c.args.full.now) c.args.last.now c.requires.ascends

pub seek_part-requires-clause-ascends : goal.seek_part-requires-clause-ascends
seek_part-requires-clause-ascends g c = ascends_first g.T.Keyed.key_of g.T.Keyed.key_cmp g.met.T.Keyed.exact (joined c.args.full.now) c.args.last.now c.requires.ascends

pub search-requires : goal.search-requires
search-requires g c = ascends_second g.T.Keyed.key_of g.T.Keyed.key_cmp g.met.T.Keyed.exact (joined c.args.full.now) c.args.last.now c.requires.ascends

pub returns-then-part-full-clause-value : goal.returns-then-part-full-clause-value
returns-then-part-full-clause-value g c =
    let t = c.if-part-full.true in
    sought_full g.T.Keyed.key_of g.T.Keyed.key_cmp g.met.T.Keyed.exact (g.P.Probe.sought c.args.key.now) c.args.full.now c.args.last.now c.part_of-part.result c.seek_part.result c.requires.ascends t (c.part_of-part.ensures.high t) c.seek_part.ensures.value

pub returns-then-part-full-clause-cost : goal.returns-then-part-full-clause-cost
returns-then-part-full-clause-cost g c =
    let t = c.if-part-full.true in
    let d = cost_full c.args.full.now c.args.last.now c.requires.kept.fills (omega arith) in
    let a = c.part_of-part.ensures.cost in
    let b = c.seek_part.ensures.cost in
    omega arith

pub returns-else-part-full-clause-value : goal.returns-else-part-full-clause-value
returns-else-part-full-clause-value g c =
    let t = c.if-part-full.false in
    let w = c.part_of-part.ensures.within in
    subst (λ r. Sought g.T.Keyed.key_of g.T.Keyed.key_cmp (g.P.Probe.sought c.args.key.now) (joined c.args.full.now ++ c.args.last.now) r) (sym c.behind.ensures)
    (sought_last g.T.Keyed.key_of g.T.Keyed.key_cmp g.met.T.Keyed.exact (g.P.Probe.sought c.args.key.now) c.args.full.now c.args.last.now c.part_of-part.result c.args.before c.search.result (omega arith) c.part_of-part.ensures.low c.requires.kept.counts c.search.ensures.value)

pub returns-else-part-full-clause-cost : goal.returns-else-part-full-clause-cost
returns-else-part-full-clause-cost g c =
    let d = cost_last c.args.full.now c.args.last.now c.requires.kept.fills c.requires.kept.short in
    let a = c.part_of-part.ensures.cost in
    let b = c.search.ensures.cost in
    omega arith

pub returns-then-part-full-clause-some : goal.returns-then-part-full-clause-some
returns-then-part-full-clause-some g c z =
    let t = c.if-part-full.true in
    let a = c.part_of-part.ensures.some (omega arith) in
    let b = c.seek_part.ensures.counts in
    omega arith

pub returns-else-part-full-clause-some : goal.returns-else-part-full-clause-some
returns-else-part-full-clause-some g c z =
    some_read c.args.full.now c.args.last.now _ _ _ c.part_of-part.ensures.some c.search.ensures.some c.part_of-part.ensures.counts c.search.ensures.counts z
