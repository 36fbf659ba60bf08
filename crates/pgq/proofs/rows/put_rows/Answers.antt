use Rattle.std.proofs.Common.{◌∷◌, ◌+◌, [], drop, ap, sym, subst, ◌∙◌, arith}
use Rattle.std.proofs.lemmas.List.{drop_all}
use Rattle.pg_keyed.specs.Keyed.{Ascends, Each}
use Rattle.pg_keyed.specs.Puts.{put_nothing}
use Rattle.pg_value.specs.Order.{key_cmp}
use Rattle.pg_value.specs.Orders.{keys}
use Rattle.pg_value.specs.Log.{row_given}
use Rattle.pg_value.specs.TablesLaws.{key_of, key_named, put_in}
use Rattle.pgq.specs.Commits.{HasRow}
use Rattle.pgq.proofs.Commits.RowPuts.{rises, one_by_one, next_of}
use Rattle.pgq.proofs.rows.put_rows.Goals as goal

pub loop-at-preserved : goal.loop-at-preserved
loop-at-preserved c =
    let before = c.loop-at.invariant in
    let t = c.loop-at-test.true in
    let l = c.len-at-end.ensures.length in
    let w = c.at.result.now in
    let rest = drop (c.loop-at.at + 1) c.args.writes.now.list in
    let next = next_of c.args.writes.now.list c.loop-at.at w (omega arith) c.at.ensures in
    let later = subst (Ascends key_named key_cmp) next before.later in
    let present = subst (Each HasRow) next before.present in
    let put = c.in-Ok.ensures in
    record {
      ascends = subst (Ascends key_of key_cmp) (sym put) (rises c.loop-at.rows (w ∷ []) before.ascends);
      later = later.1;
      present = present.1;
      whole = ap (λ xs. put_in xs rest) put ∙ one_by_one c.loop-at.rows w rest before.ascends later ∙ ap (put_in c.loop-at.rows) (sym next) ∙ before.whole;
    }

pub returns : goal.returns
returns c =
    let t = c.loop-at-test.false in
    let l = c.len-at-end.ensures.length in
    sym (put_nothing key_of key_named row_given key_cmp keys c.loop-at.rows)
    ∙ ap (put_in c.loop-at.rows) (sym (drop_all c.loop-at.at c.args.writes.now.list (omega arith)))
    ∙ c.loop-at.invariant.whole
