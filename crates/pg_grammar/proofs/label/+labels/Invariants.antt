-- What falls with each call, and what the loops over operators keep.
use Rattle.std.proofs.Common.{◌≡◌, ◌-◌, ◌+◌, ◌*◌}
use Rattle.pg_grammar.specs.Kit.Reading.{turns}
use Rattle.pg_grammar.specs.Read.Labels.{primary, intersection, union, next_complement, next_intersection, goes_on_and, goes_on_or}
use Rattle.pg_grammar.proofs.label.+labels.Given as goal

abbrev pub decreases-primary : goal.decreases-primary
decreases-primary l = l.depth * 9000 + l.left

abbrev pub decreases-complement : goal.decreases-complement
decreases-complement l = l.depth * 9000 + 300 + l.left

abbrev pub decreases-next_complement : goal.decreases-next_complement
decreases-next_complement l = l.depth * 9000 + 600

abbrev pub decreases-intersection : goal.decreases-intersection
decreases-intersection l = l.depth * 9000 + 900 + l.left

abbrev pub decreases-next_intersection : goal.decreases-next_intersection
decreases-next_intersection l = l.depth * 9000 + 1200

abbrev pub decreases-union : goal.decreases-union
decreases-union l = l.depth * 9000 + 1500 + l.left

abbrev pub decreases-paren : goal.decreases-paren
decreases-paren l = l.depth * 9000 + 1800 + l.left

abbrev pub invariant-intersection-loop-turn : goal.invariant-intersection-loop-turn
invariant-intersection-loop-turn l = intersection (primary l.depth) l.left l.fn.cursor ≡ turns (l._turn-end - l._turn) goes_on_and (next_complement (primary l.depth)) l.x l.cursor

abbrev pub invariant-union-loop-turn : goal.invariant-union-loop-turn
invariant-union-loop-turn l = union (primary l.depth) l.left l.fn.cursor ≡ turns (l._turn-end - l._turn) goes_on_or (next_intersection (primary l.depth)) l.x l.cursor
