use Rattle.std.proofs.Common.{◌≡◌, ◌++◌}
use Rattle.pg_script.specs.Generated.{turn_of_a}
use Rattle.pg_script.proofs.GeneratedLaws.{one_more, none_yet}
use Rattle.pg_script.proofs.generated.push_turns.Goals as goal
