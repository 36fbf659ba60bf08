use Rattle.std.proofs.Common.{◌≡◌, map, take}
use Rattle.pg_meaning.specs.Answers.{bound_to}
use Rattle.pg_meaning.specs.CExprs.{ctree_of}
use Rattle.pg_meaning.specs.Meaning.{OfVars, value_of}
use Rattle.pg_join.proofs.rows.row_of.Given as goal

abbrev pub invariant-loop-column : goal.invariant-loop-column
invariant-loop-column g l = l.values ≡ map (λ c. value_of (ctree_of c.expr) (OfVars (g.V.View.tables l.view) (bound_to l.bound))) (take l.column-index l.query.columns)
