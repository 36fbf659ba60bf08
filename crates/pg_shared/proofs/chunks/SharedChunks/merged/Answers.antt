use Rattle.std.proofs.Common.{ap, sym, subst, ◌∙◌, ◌++◌}
use Rattle.pg_keyed.specs.Keyed.{Ascends, put, weave}
use Rattle.pg_shared.specs.Parts.{joined, IsKept}
use Rattle.pg_shared.proofs.Growth.{if_then}
use Rattle.pg_shared.proofs.Merges.{empty_is, put_none, put_order, woven_is_put}
use Rattle.pg_shared.proofs.chunks.SharedChunks.merged.Goals as goal

pub returns-then-is_empty : goal.returns-then-is_empty
returns-then-is_empty g c =
    if_then _ _ c.share.result
    (λ same e. e ∙ put_none g.T.Keyed.key_of g.C.Change.named g.C.Change.given g.T.Keyed.key_cmp g.met.T.Keyed.exact c.args.self.now c.args.changes.now (empty_is c.args.changes.now c.is_empty.result c.is_empty.ensures c.if-is_empty.true))
    c.share.ensures

pub returns : goal.returns
returns g c =
    let whole = ap joined c.as_slice.ensures ∙ c.self.view_is in
    let ascends = subst (Ascends g.T.Keyed.key_of g.T.Keyed.key_cmp) c.self.view_is c.self.invariant.1 in
    ap joined (c.in_ok-new.ensures ∙ c.from_vec.ensures) ∙ c.in_ok-parts.ensures.items ∙ c.in_ok-push_merged.ensures.items
    ∙ ap (λ l. l ++ weave g.T.Keyed.key_of g.C.Change.named g.C.Change.given g.T.Keyed.key_cmp (joined c.as_slice.result.now) c.args.changes.now) c.new-made.ensures.items
    ∙ ap (λ xs. weave g.T.Keyed.key_of g.C.Change.named g.C.Change.given g.T.Keyed.key_cmp xs c.args.changes.now) whole
    ∙ woven_is_put g.T.Keyed.key_of g.C.Change.named g.C.Change.given g.T.Keyed.key_cmp g.met.T.Keyed.exact g.met.C.Change.fits c.args.self.now c.args.changes.now ascends c.requires

pub invariant_of-result : goal.invariant_of-result
invariant_of-result g c =
    let whole = ap joined c.as_slice.ensures ∙ c.self.view_is in
    let ascends = subst (Ascends g.T.Keyed.key_of g.T.Keyed.key_cmp) c.self.view_is c.self.invariant.1 in
    let put_is =
    ap joined (c.in_ok-new.ensures ∙ c.from_vec.ensures) ∙ c.in_ok-parts.ensures.items ∙ c.in_ok-push_merged.ensures.items
    ∙ ap (λ l. l ++ weave g.T.Keyed.key_of g.C.Change.named g.C.Change.given g.T.Keyed.key_cmp (joined c.as_slice.result.now) c.args.changes.now) c.new-made.ensures.items
    ∙ ap (λ xs. weave g.T.Keyed.key_of g.C.Change.named g.C.Change.given g.T.Keyed.key_cmp xs c.args.changes.now) whole
    ∙ woven_is_put g.T.Keyed.key_of g.C.Change.named g.C.Change.given g.T.Keyed.key_cmp g.met.T.Keyed.exact g.met.C.Change.fits c.args.self.now c.args.changes.now ascends c.requires in (
      subst IsKept (sym (c.in_ok-new.ensures ∙ c.from_vec.ensures)) c.in_ok-parts.ensures.kept,
      subst (Ascends g.T.Keyed.key_of g.T.Keyed.key_cmp) (sym put_is) (put_order g.T.Keyed.key_of g.C.Change.named g.C.Change.given g.T.Keyed.key_cmp g.met.T.Keyed.exact c.args.self.now c.args.changes.now ascends),
    )
