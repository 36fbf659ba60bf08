use Rattle.std.proofs.Common.{◌++◌, ap, sym, ◌∙◌}
use Rattle.std.specs.Prelude.{slice_get}
use Rattle.pg_search.specs.Found.{found_at, found_in}
use Rattle.pg_search.proofs.Finding.{flat_more}
use Rattle.pg_search.proofs.bindings.found.Goals as goal

pub loop-i-preserved : goal.loop-i-preserved
loop-i-preserved c = c.in_ok-push_at.ensures ∙ ap (λ l. l ++ found_in c.args.numbers.now c.args.count c.args.vars.now (slice_get c.args.states.now c.loop-i.i)) c.loop-i.invariant ∙ sym (flat_more (found_at c.args.numbers.now c.args.count c.args.vars.now) c.args.states.now c.loop-i.i)
