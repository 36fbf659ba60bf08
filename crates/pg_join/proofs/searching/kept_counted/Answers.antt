use Rattle.std.proofs.Common.{◌≡◌, sym}
use Rattle.std.proofs.lemmas.Result.{IfOk-weaker}
use Rattle.pg_ast.specs.declared.pattern.Selector.TheVariants.{Any, AnyShortest, AllShortest}
use Rattle.pg_short.specs.Selections.{AreSelected}
use Rattle.pg_join.specs.Selecting.{AreKeptFrom}
use Rattle.pg_join.proofs.Selections.{kept_selected, kept_all, endless_walk}
use Rattle.pg_join.proofs.searching.kept_counted.Goals as goal
