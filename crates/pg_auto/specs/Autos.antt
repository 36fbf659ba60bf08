-- What an automaton that borrows from its path pattern stands for.
use Rattle.std.specs.Prelude.{map}
use Rattle.std.specs.Option.{option_copied}
use Rattle.pg_meaning.specs.Rounds.{Leg}
use Rattle.pg_auto.specs.declared.auto.Leg.{Leg as HeldLeg}
use Rattle.pg_auto.specs.declared.auto.Stage.{Stage as HeldStage}
use Rattle.pg_auto.specs.declared.auto.Variable.{Variable as HeldVariable}
use Rattle.pg_auto.specs.declared.auto.Auto.{Auto}
use Rattle.pg_auto.specs.Stages.{Stage, Variable, Pattern}

abbrev pub leg_view : HeldLeg → Leg
leg_view l = record { arrow = l.arrow; edge = l.edge.now; node = option_copied l.node }

abbrev pub stage_view : HeldStage → Stage
stage_view s = record {
  round = record { node = option_copied s.node; legs = map leg_view s.legs; cond = option_copied s.cond };
  low = s.low;
  high = s.high;
  grouped = s.grouped;
}

abbrev pub variable_view : HeldVariable → Variable
variable_view x = record { number = x.number; grouped = x.grouped }

abbrev pub pattern : Auto → Pattern
pattern auto = record { graph = auto.graph.now; stages = map stage_view auto.stages; vars = map variable_view auto.vars }
