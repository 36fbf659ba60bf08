use Rattle.std.proofs.Common.{◌∷◌, ◌++◌, [], ap, sym, subst, ◌∙◌, arith}
use Rattle.std.specs.Prelude.{filter}
use Rattle.std.proofs.lemmas.List.{take_all}
use Rattle.pg_keyed.specs.Keyed.{Ascends}
use Rattle.pg_value.specs.Order.{key_cmp}
use Rattle.pg_value.specs.TablesLaws.{key_of}
use Rattle.pgq.proofs.Commits.TakenOut.{is_left, next_ascends, one_kept, left_is}
use Rattle.pgq.proofs.rows.take_out.Goals as goal

pub keep_row-requires-clause-behind : goal.keep_row-requires-clause-behind
keep_row-requires-clause-behind c =
    let t = c.loop-at-test.true in
    let l = c.len-at-end.ensures.length in
    subst (λ ks. Ascends key_of key_cmp (ks ++ c.at.result.now ∷ [])) (sym c.loop-at.invariant)
    (next_ascends c.args.table c.args.writes.now.list c.args.rows.now c.loop-at.at c.at.result.now c.requires.ascends (omega arith) c.at.ensures)

pub loop-at-preserved : goal.loop-at-preserved
loop-at-preserved c =
    let t = c.loop-at-test.true in
    let l = c.len-at-end.ensures.length in
    one_kept c.args.table c.args.writes.now.list c.args.rows.now c.loop-at.kept c.keep_row.new.kept c.loop-at.at c.at.result.now (omega arith) c.at.ensures c.loop-at.invariant c.in-Ok.ensures

pub returns : goal.returns
returns c =
    let t = c.loop-at-test.false in
    let l = c.len-at-end.ensures.length in
    c.loop-at.invariant ∙ ap (filter (is_left c.args.table c.args.writes.now.list)) (take_all c.loop-at.at c.args.rows.now (omega arith)) ∙ left_is c.args.table c.args.writes.now.list c.args.rows.now c.requires.own c.requires.gone
