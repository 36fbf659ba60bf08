use Rattle.std.proofs.Common.{◌≡◌, drop, map, []}
use Rattle.pg_check.specs.Gathered.{firsts_after, mention_view}
use Rattle.pg_check.proofs.variables.Variables.of.Given as goal

abbrev pub invariant-loop-mention : goal.invariant-loop-mention
invariant-loop-mention l = firsts_after l.variables (map mention_view (drop l.mention-index l.mentions)) ≡ firsts_after [] (map mention_view l.mentions)
