-- What falls with each call, and what the loops over operators keep.
use Rattle.std.proofs.Common.{◌≡◌, ◌-◌, ◌+◌, ◌*◌}
use Rattle.pg_grammar.specs.Kit.Reading.{turns}
use Rattle.pg_grammar.specs.Read.Exprs.{primary, prod, sum, conj, any_of, next_factor, next_term, next_neg, next_conj, goes_on_prod, goes_on_sum, goes_on_conj, goes_on_any}
use Rattle.pg_grammar.proofs.expr.+expr.Given as goal

abbrev pub decreases-primary : goal.decreases-primary
decreases-primary l = l.depth * 9000 + l.left

abbrev pub decreases-unary : goal.decreases-unary
decreases-unary l = l.depth * 9000 + 300 + l.left

abbrev pub decreases-next_factor : goal.decreases-next_factor
decreases-next_factor l = l.depth * 9000 + 600

abbrev pub decreases-prod : goal.decreases-prod
decreases-prod l = l.depth * 9000 + 900 + l.left

abbrev pub decreases-next_term : goal.decreases-next_term
decreases-next_term l = l.depth * 9000 + 1200

abbrev pub decreases-sum : goal.decreases-sum
decreases-sum l = l.depth * 9000 + 1500 + l.left

abbrev pub decreases-compared : goal.decreases-compared
decreases-compared l = l.depth * 9000 + 1800

abbrev pub decreases-test : goal.decreases-test
decreases-test l = l.depth * 9000 + 2100 + l.left

abbrev pub decreases-neg : goal.decreases-neg
decreases-neg l = l.depth * 9000 + 2400 + l.left

abbrev pub decreases-next_neg : goal.decreases-next_neg
decreases-next_neg l = l.depth * 9000 + 2700

abbrev pub decreases-conj : goal.decreases-conj
decreases-conj l = l.depth * 9000 + 3000 + l.left

abbrev pub decreases-next_conj : goal.decreases-next_conj
decreases-next_conj l = l.depth * 9000 + 3300

abbrev pub decreases-any_of : goal.decreases-any_of
decreases-any_of l = l.depth * 9000 + 3600 + l.left

abbrev pub decreases-paren : goal.decreases-paren
decreases-paren l = l.depth * 9000 + 3900 + l.left

abbrev pub decreases-of_expr : goal.decreases-of_expr
decreases-of_expr l = l.depth * 9000 + 3900 + l.left

abbrev pub decreases-argument : goal.decreases-argument
decreases-argument l = l.depth * 9000 + 4200 + l.left

abbrev pub decreases-aggregate : goal.decreases-aggregate
decreases-aggregate l = l.depth * 9000 + 4500 + l.left

abbrev pub invariant-prod-loop-turn : goal.invariant-prod-loop-turn
invariant-prod-loop-turn l = prod (primary l.scope l.depth) l.left l.fn.cursor ≡ turns (l._turn-end - l._turn) goes_on_prod (next_factor (primary l.scope l.depth)) l.x l.cursor

abbrev pub invariant-sum-loop-turn : goal.invariant-sum-loop-turn
invariant-sum-loop-turn l = sum (primary l.scope l.depth) l.left l.fn.cursor ≡ turns (l._turn-end - l._turn) goes_on_sum (next_term (primary l.scope l.depth)) l.x l.cursor

abbrev pub invariant-conj-loop-turn : goal.invariant-conj-loop-turn
invariant-conj-loop-turn l = conj (primary l.scope l.depth) l.left l.fn.cursor ≡ turns (l._turn-end - l._turn) goes_on_conj (next_neg (primary l.scope l.depth)) l.x l.cursor

abbrev pub invariant-any_of-loop-turn : goal.invariant-any_of-loop-turn
invariant-any_of-loop-turn l = any_of (primary l.scope l.depth) l.left l.fn.cursor ≡ turns (l._turn-end - l._turn) goes_on_any (next_conj (primary l.scope l.depth)) l.x l.cursor
