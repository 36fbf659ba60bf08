-- What may be read by several threads at once.
use denote.RattleType.{RattleType}
use denote.Param.Send.{IsSync, sendable}
use Rattle.std.proofs.Crossing.{crosses}
use Rattle.std.proofs.option.Option.TheSendSync as option
use Rattle.pg_value.specs.contracts.list.List as list_of
use Rattle.pg_value.proofs.list.List.TheSendSync as list
use Rattle.pg_value.proofs.value.Value.TheSendSync as value
use Rattle.pg_value.proofs.shape.TableSet.TheSendSync as tables
use Rattle.pg_value.proofs.shape.GraphShape.TheSendSync as graph
use Rattle.sqlite_items.proofs.boxed.Boxed.TheSendSync as boxed
use Rattle.pg_ast.proofs.expr.Agg.TheSendSync as agg
use Rattle.pg_ast.proofs.expr.BinOp.TheSendSync as binary
use Rattle.pg_ast.proofs.expr.UnOp.TheSendSync as unary
use Rattle.pg_ast.proofs.pattern.Arrow.TheSendSync as arrow
use Rattle.pg_ast.proofs.pattern.Quant.TheSendSync as quant
use Rattle.pg_ast.proofs.pattern.Mode.TheSendSync as mode
use Rattle.pg_ast.proofs.pattern.Selector.TheSendSync as selector
use Rattle.pg_meaning.proofs.checked.CExpr.TheLaws.TheKnot as knot
use Rattle.pg_meaning.specs.contracts.checked.CExpr as expr
use Rattle.pg_meaning.specs.contracts.checked.CFiller as filler
use Rattle.pg_meaning.specs.contracts.checked.CPart as part
use Rattle.pg_meaning.specs.contracts.checked.CheckedPath as path

pub expr_row : IsSync expr.the_row
expr_row = search (sendable, crosses, knot.sync-CExpr, option.the_sync, option.the_field_sync, list.the_sync, value.the_sync, value.the_field_sync, boxed.the_sync, agg.the_sync, agg.the_field_sync, binary.the_sync, binary.the_field_sync, unary.the_sync, unary.the_field_sync) depth 30

pub filler_row : IsSync filler.the_row
filler_row = let e = expr_row in search (sendable, crosses, option.the_sync, option.the_field_sync, tables.the_sync, tables.the_field_sync) depth 30

pub filler_field : IsSync filler.the_field.row
filler_field = let e = expr_row in search (sendable, crosses, option.the_sync, option.the_field_sync, tables.the_sync, tables.the_field_sync) depth 30

pub part_row : IsSync part.the_row
part_row = let e = expr_row in let f = filler_row in let h = filler_field in search (sendable, crosses, option.the_sync, option.the_field_sync, list.the_sync, arrow.the_sync, arrow.the_field_sync, quant.the_sync, quant.the_field_sync) depth 30

pub part_field : IsSync part.the_field.row
part_field = let e = expr_row in let f = filler_row in let h = filler_field in search (sendable, crosses, option.the_sync, option.the_field_sync, list.the_sync, arrow.the_sync, arrow.the_field_sync, quant.the_sync, quant.the_field_sync) depth 30

pub path_row : IsSync path.the_row
path_row = let e = part_row in let f = part_field in search (sendable, crosses, list.the_sync, graph.the_sync, graph.the_field_sync, selector.the_sync, selector.the_field_sync, mode.the_sync, mode.the_field_sync) depth 30

pub path_field : IsSync path.the_field.row
path_field = let e = part_row in let f = part_field in search (sendable, crosses, list.the_sync, graph.the_sync, graph.the_field_sync, selector.the_sync, selector.the_field_sync, mode.the_sync, mode.the_field_sync) depth 30
