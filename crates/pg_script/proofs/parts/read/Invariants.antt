use Rattle.std.proofs.Common.{◌-◌, length}
use Rattle.pg_script.proofs.Passes.Parts.{Gathers}
use Rattle.pg_script.proofs.parts.read.Given as goal

abbrev pub invariant-parts : goal.invariant-parts
invariant-parts l = Gathers l.bytes l.head l.out l.at

abbrev pub decreases-parts : goal.decreases-parts
decreases-parts l = length l.bytes - l.at
