use Rattle.std.proofs.Common.{sym, subst}
use Rattle.pg_meaning.specs.Sound.Graphs.{AreSoundShapes}
use Rattle.pg_meaning.specs.Sound.Changes.{IsSoundChange}
use Rattle.pg_tests.specs.Changes.{insert}
use Rattle.pg_tests.proofs.SoundInsert.{shapes_are_sound, insert_is_sound}
use Rattle.pg_tests.proofs.changes.effect_of.Goals as goal

pub effect-requires-clause-shapes : goal.effect-requires-clause-shapes
effect-requires-clause-shapes c = subst AreSoundShapes (sym c.in-Ok.ensures) shapes_are_sound

pub effect-requires-clause-change : goal.effect-requires-clause-change
effect-requires-clause-change c = subst (IsSoundChange c.in-Ok.shapes) (sym c.in-Ok-insert.ensures) (subst (λ s. IsSoundChange s insert) (sym c.in-Ok.ensures) insert_is_sound)
