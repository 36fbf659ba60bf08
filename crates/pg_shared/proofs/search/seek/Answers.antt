use Rattle.std.proofs.Common.{length, sym, ap, subst, ◌∙◌, arith}
use Rattle.pg_keyed.specs.Keyed.{Ascends, Sought}
use Rattle.pg_chunks.specs.Digits.{digits}
use Rattle.pg_chunks.specs.Parts.{shift}
use Rattle.pg_shared.specs.Parts.{joined}
use Rattle.pg_shared.proofs.Heads.{heads_within, sought_none, sought_in, ascends_part, cost, cost_none, start_is, place_within}
use Rattle.pg_shared.proofs.Walks.{end_of}
use Rattle.pg_shared.proofs.search.seek.Goals as goal

pub returns-then-count-eq0-clause-value : goal.returns-then-count-eq0-clause-value
returns-then-count-eq0-clause-value g c = sought_none g.T.Keyed.key_of g.T.Keyed.key_cmp g.met.T.Keyed.exact (g.P.Probe.sought c.args.key.now) c.args.parts.now (let e = c.heads-count.ensures.value in let z = c.if-count-eq0.true in omega arith) c.requires.kept.leads c.requires.ascends

pub returns-then-count-eq0-clause-cost : goal.returns-then-count-eq0-clause-cost
returns-then-count-eq0-clause-cost g c = let h = c.heads-count.ensures.cost in let d = cost_none c.args.parts.now c.requires.kept.leads in omega arith

pub offset_bounds-parts-count : goal.offset_bounds-parts-count
offset_bounds-parts-count g c =
    let w = heads_within g.T.Keyed.key_of g.T.Keyed.key_cmp g.met.T.Keyed.exact (g.P.Probe.sought c.args.key.now) c.args.parts.now in
    let e = c.heads-count.ensures.value in
    let z = c.if-count-eq0.false in
    omega arith

pub bounds-parts-count : goal.bounds-parts-count
bounds-parts-count g c =
    let w = heads_within g.T.Keyed.key_of g.T.Keyed.key_cmp g.met.T.Keyed.exact (g.P.Probe.sought c.args.key.now) c.args.parts.now in
    let e = c.heads-count.ensures.value in
    let z = c.if-count-eq0.false in
    omega arith

pub search-requires : goal.search-requires
search-requires g c =
    let w = heads_within g.T.Keyed.key_of g.T.Keyed.key_cmp g.met.T.Keyed.exact (g.P.Probe.sought c.args.key.now) c.args.parts.now in
    let e = c.heads-count.ensures.value in
    let z = c.if-count-eq0.false in
    subst (Ascends g.T.Keyed.key_of g.T.Keyed.key_cmp) (sym c.as_slice.ensures) (ascends_part g.T.Keyed.key_of g.T.Keyed.key_cmp g.met.T.Keyed.exact c.args.parts.now _ c.index-parts-count.result c.requires.ascends (omega arith) c.index-parts-count.is)

pub behind-requires : goal.behind-requires
behind-requires g c =
    let w = heads_within g.T.Keyed.key_of g.T.Keyed.key_cmp g.met.T.Keyed.exact (g.P.Probe.sought c.args.key.now) c.args.parts.now in
    let e = c.heads-count.ensures.value in
    let z = c.if-count-eq0.false in
    let s = start_is c.args.parts.now _ c.index-parts-count.result c.requires.kept (omega arith) c.index-parts-count.is in
    let n = end_of c.args.parts.now _ c.index-parts-count.result (omega arith) c.index-parts-count.is in
    let b = c.requires.kept.bound in
    let p = place_within g.T.Keyed.key_of g.T.Keyed.key_cmp (g.P.Probe.sought c.args.key.now) c.as_slice.result.now c.search.result c.search.ensures.value in
    let l = ap length c.as_slice.ensures in
    omega arith

pub returns-clause-value : goal.returns-clause-value
returns-clause-value g c =
    let w = heads_within g.T.Keyed.key_of g.T.Keyed.key_cmp g.met.T.Keyed.exact (g.P.Probe.sought c.args.key.now) c.args.parts.now in
    let e = c.heads-count.ensures.value in
    let z = c.if-count-eq0.false in
    let s = start_is c.args.parts.now _ c.index-parts-count.result c.requires.kept (omega arith) c.index-parts-count.is in
    subst (Sought g.T.Keyed.key_of g.T.Keyed.key_cmp (g.P.Probe.sought c.args.key.now) (joined c.args.parts.now)) (sym (c.behind.ensures ∙ ap (λ n. shift n c.search.result) s))
    (sought_in g.T.Keyed.key_of g.T.Keyed.key_cmp g.met.T.Keyed.exact (g.P.Probe.sought c.args.key.now) c.args.parts.now _ c.index-parts-count.result c.search.result c.requires.kept.leads c.requires.ascends (omega arith) (omega arith) c.index-parts-count.is (subst (λ l. Sought g.T.Keyed.key_of g.T.Keyed.key_cmp (g.P.Probe.sought c.args.key.now) l c.search.result) c.as_slice.ensures c.search.ensures.value))

pub returns-clause-cost : goal.returns-clause-cost
returns-clause-cost g c =
    let w = heads_within g.T.Keyed.key_of g.T.Keyed.key_cmp g.met.T.Keyed.exact (g.P.Probe.sought c.args.key.now) c.args.parts.now in
    let e = c.heads-count.ensures.value in
    let z = c.if-count-eq0.false in
    let d = cost c.args.parts.now _ c.index-parts-count.result c.requires.kept (omega arith) c.index-parts-count.is in
    let l = ap (λ l. digits (length l)) c.as_slice.ensures in
    let h = c.heads-count.ensures.cost in
    let s = c.search.ensures.cost in
    omega arith
