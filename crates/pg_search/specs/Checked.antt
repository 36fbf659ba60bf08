-- The stages of a sound path pattern ask what may be judged: their conditions were checked over the shapes.
use Rattle.pg_keyed.specs.Lists.{Each}
use Rattle.pg_value.specs.declared.shape.Shapes.{Shapes}
use Rattle.pg_meaning.specs.declared.checked.CheckedPath.{CheckedPath}
use Rattle.pg_meaning.specs.Sound.Patterns.{IsSoundPath}
use Rattle.pg_auto.specs.Stages.{Stage, stages_of}
use Rattle.pg_search.specs.Hops.{IsChecked, IsCheckedNode, IsCheckedLeg}

pub record IsCheckedStage (shapes : Shapes) (stage : Stage) : Type 0 where
  pub node : IsCheckedNode shapes stage.round.node
  pub legs : Each (IsCheckedLeg shapes) stage.round.legs
  pub cond : IsChecked shapes stage.round.cond

abbrev pub SoundAreChecked : Type 0
SoundAreChecked = (shapes : Shapes) (path : CheckedPath) → IsSoundPath shapes path → Each (IsCheckedStage shapes) (stages_of path)
