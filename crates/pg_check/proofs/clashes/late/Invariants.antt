use Rattle.std.proofs.Common.{◌≡◌, drop, map}
use Rattle.std.specs.Prelude.{[]}
use Rattle.pg_rules.specs.Places.{least, sooner}
use Rattle.pg_check.specs.Clashes.{late_after, is_strict_in}
use Rattle.pg_check.specs.Gathered.{mention_view}
use Rattle.pg_check.proofs.clashes.late.Given as goal

abbrev pub invariant-loop-mention : goal.invariant-loop-mention
invariant-loop-mention l = sooner l.found (least (late_after (is_strict_in l.walks) l.mets l.inners (map mention_view (drop l.mention-index l.mentions)))) ≡ least (late_after (is_strict_in l.walks) [] [] (map mention_view l.mentions))
