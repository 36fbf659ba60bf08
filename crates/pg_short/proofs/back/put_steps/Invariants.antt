use Rattle.std.proofs.Common.{map, take}
use Rattle.pg_auto.specs.Autos.{stage_view}
use Rattle.pg_short.specs.Found.{steps_in}
use Rattle.pg_short.specs.Rests.{PutBack, left_of}
use Rattle.pg_short.proofs.back.put_steps.Given as goal

abbrev pub invariant-loop-number : goal.invariant-loop-number
invariant-loop-number l =
    PutBack (map stage_view l.stages) (steps_in l.search) l.search.order.items (take l.number-index l.tight) (left_of l.fn.numbers l.rest) l.fn.numbers l.numbers l.fn.states l.states
