use Rattle.pg_rules.proofs.KeptSound.AddedTables.{nothing_sound, kept_sound}
use Rattle.pg_rules.proofs.sound.sound_definitions.Goals as goal

pub returns : goal.returns
returns c = record { nothing = nothing_sound; kept = kept_sound }
