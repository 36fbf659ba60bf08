use Rattle.pg_auto.proofs.Ranks.Bounds.{sound_are_bounded}
use Rattle.pg_auto.proofs.laws.sound_are_bounded.Goals as goal

pub returns : goal.returns
returns c = sound_are_bounded
