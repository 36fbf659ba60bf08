use Rattle.std.proofs.Common.{length, sym, ap, subst, arith}
use Rattle.pg_keyed.specs.Keyed.{Ascends, Sought}
use Rattle.pg_chunks.specs.Parts.{joined, Fills}
use Rattle.pg_chunks.proofs.Places.{sought_place}
use Rattle.pg_chunks.proofs.Splits.{start_at, each_at, before_within}
use Rattle.pg_chunks.proofs.Seeks.{seven, ascends_part, sought_part}
use Rattle.pg_chunks.proofs.search.seek_part.Goals as goal

pub search-requires : goal.search-requires
search-requires g c =
    subst (λ xs. Ascends g.T.Keyed.key_of g.T.Keyed.key_cmp xs) (sym c.as_slice.ensures.value)
    (ascends_part g.T.Keyed.key_of g.T.Keyed.key_cmp g.met.T.Keyed.exact c.args.full.now c.args.part c.index-full-part.result c.requires.ascends c.requires.within c.index-full-part.is)

pub behind-requires : goal.behind-requires
behind-requires g c =
    let a = start_at 0 c.args.full.now c.args.part c.index-full-part.result c.requires.starts c.requires.within c.index-full-part.is in
    let w = before_within c.args.full.now c.args.part in
    let b = c.requires.bound in
    let f = (each_at Fills c.args.full.now c.args.part c.index-full-part.result c.requires.fills c.requires.within).1 in
    let y = ap (λ p. length p.items.items) c.index-full-part.is in
    let x = ap length c.as_slice.ensures.value in
    let p = sought_place g.T.Keyed.key_of g.T.Keyed.key_cmp (g.P.Probe.sought c.args.key.now) c.as_slice.result.now c.search.result c.search.ensures.value in
    omega arith

pub returns-clause-value : goal.returns-clause-value
returns-clause-value g c =
    subst (λ r. Sought g.T.Keyed.key_of g.T.Keyed.key_cmp (g.P.Probe.sought c.args.key.now) (joined c.args.full.now) r) (sym c.behind.ensures)
    (sought_part g.T.Keyed.key_of g.T.Keyed.key_cmp g.met.T.Keyed.exact (g.P.Probe.sought c.args.key.now) c.args.full.now c.args.part c.index-full-part.result c.search.result c.requires.starts c.requires.ascends c.requires.within c.index-full-part.is c.requires.low c.requires.high
    (subst (λ xs. Sought g.T.Keyed.key_of g.T.Keyed.key_cmp (g.P.Probe.sought c.args.key.now) xs c.search.result) c.as_slice.ensures.value c.search.ensures.value))

pub returns-clause-cost : goal.returns-clause-cost
returns-clause-cost g c =
    let f = (each_at Fills c.args.full.now c.args.part c.index-full-part.result c.requires.fills c.requires.within).1 in
    let y = ap (λ p. length p.items.items) c.index-full-part.is in
    let x = ap length c.as_slice.ensures.value in
    let d = seven (length c.as_slice.result.now) (omega arith) in
    let e = c.search.ensures.cost in
    omega arith
