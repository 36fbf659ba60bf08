use Rattle.std.proofs.Common.{arith}
use Rattle.pg_ast.specs.Trees.{is_binary}
use Rattle.pg_rules.specs.Places.{least_append}
use Rattle.pg_check.proofs.types.+wrong_in.Goals as goal

pub returns-in-Binary : goal.returns-in-Binary
returns-in-Binary g t c = let e = is_binary _ _ _ _ _ c.in-Binary.is in grind (arith, least_append)
