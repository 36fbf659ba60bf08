use Rattle.pg_short.specs.Found.{steps_in}
use Rattle.pg_short.specs.Tight.{AreTight, numbers_in}
use Rattle.pg_short.proofs.tight.tight_steps.Given as goal

abbrev pub invariant-loop-number : goal.invariant-loop-number
invariant-loop-number l = AreTight (steps_in l.search) l.search.order.items (numbers_in l.lists.items) l.number
