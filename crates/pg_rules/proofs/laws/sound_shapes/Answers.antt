use Rattle.pg_rules.proofs.SoundShapes.{shapes_are_sound}
use Rattle.pg_rules.proofs.laws.sound_shapes.Goals as goal

pub returns : goal.returns
returns c = shapes_are_sound
