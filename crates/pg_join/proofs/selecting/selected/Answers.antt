use Rattle.pg_join.proofs.Selections.{least_have_ends}
use Rattle.pg_join.proofs.selecting.selected.Goals as goal

pub first_of_each-requires-in-AnyShortest : goal.first_of_each-requires-in-AnyShortest
first_of_each-requires-in-AnyShortest c = least_have_ends c.args.found c.in_ok-least-in-AnyShortest.least (λ b i. ((c.in_ok-least-in-AnyShortest.ensures.exactly b).0 i).0) c.requires
