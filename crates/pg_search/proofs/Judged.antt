-- What a sound path pattern asks may be judged.
use Rattle.std.specs.Prelude.{List, [], ◌∷◌, map, Option, Some, None, IfSome}
use Rattle.pg_keyed.specs.Lists.{Each}
use Rattle.pg_value.specs.declared.shape.TableNo.{TableNo}
use Rattle.pg_value.specs.declared.shape.GraphShape.{GraphShape}
use Rattle.pg_value.specs.declared.shape.Shapes.{Shapes}
use Rattle.pg_ast.specs.declared.pattern.Arrow.{Arrow}
use Rattle.pg_meaning.specs.declared.checked.CExpr.{CExpr}
use Rattle.pg_meaning.specs.declared.checked.CFiller.{CFiller}
use Rattle.pg_meaning.specs.declared.checked.CPart.{CPart}
use Rattle.pg_meaning.specs.declared.checked.CPart.TheVariants.{Node, Edge, Group}
use Rattle.pg_meaning.specs.HopQuery.{edge_tables}
use Rattle.pg_meaning.specs.Rounds.{legs_of, group_of}
use Rattle.pg_meaning.specs.Sound.{Degrees, IsSoundCondition}
use Rattle.pg_meaning.specs.Sound.Kinds.{OfTables}
use Rattle.pg_meaning.specs.Sound.Patterns.{IsSoundFiller, IsSoundNode, IsSoundLink, IsSoundPart, singletons, variables_in}
use Rattle.pg_auto.specs.Stages.{stage_of}
use Rattle.pg_search.specs.Hops.{IsChecked, IsCheckedLeg}
use Rattle.pg_search.specs.Checked.{IsCheckedStage}

condition_judged : (shapes : Shapes) (degrees : Degrees) (condition : Option CExpr) → IsSoundCondition (OfTables shapes) degrees condition → IsChecked shapes condition
condition_judged shapes degrees None h = tt
condition_judged shapes degrees (Some c) h = record { degrees = degrees; sound = h.sound }

filler_judged : (shapes : Shapes) (sort : List TableNo) (f : CFiller) → IsSoundFiller shapes sort f → IsChecked shapes f.cond
filler_judged shapes sort f sound = condition_judged shapes (singletons (variables_in (f ∷ []))) f.cond sound.condition

module _ (shapes : Shapes) (graph : GraphShape) where
  legs_judged : (arrows : List Arrow) (edges nodes : List CFiller) → Each (IsSoundLink shapes graph) edges → Each (IsSoundNode shapes graph) nodes → Each (IsCheckedLeg shapes) (legs_of arrows edges nodes)
  legs_judged (a ∷ arrows) (e ∷ edges) (n ∷ nodes) h k = (
    record { edge = filler_judged shapes (edge_tables shapes graph) e h.0; node = filler_judged shapes graph.vertices n k.0 },
    legs_judged arrows edges nodes h.1 k.1,
  )
  legs_judged [] edges nodes h k = tt
  legs_judged (a ∷ arrows) [] nodes h k = tt
  legs_judged (a ∷ arrows) (e ∷ edges) [] h k = tt

  group_judged : (nodes : List CFiller) (arrows : List Arrow) (edges : List CFiller) (condition : Option CExpr) → Each (IsSoundNode shapes graph) nodes → Each (IsSoundLink shapes graph) edges
      → IsChecked shapes condition → IfSome (group_of nodes arrows edges condition).node (λ f. IsChecked shapes f.cond) × Each (IsCheckedLeg shapes) (group_of nodes arrows edges condition).legs × IsChecked shapes (group_of nodes arrows edges condition).cond
  group_judged [] arrows edges condition h k c = (tt, tt, c)
  group_judged (n ∷ nodes) arrows edges condition h k c = (filler_judged shapes graph.vertices n h.0, legs_judged arrows edges nodes k h.1, c)

  part_judged : (part : CPart) → IsSoundPart shapes graph part → IsCheckedStage shapes (stage_of part)
  part_judged (Node f) h = record { node = filler_judged shapes graph.vertices f h; legs = tt; cond = tt }
  part_judged (Edge arrow f quant) h = record { node = tt; legs = (record { edge = filler_judged shapes (edge_tables shapes graph) f h; node = tt }, tt); cond = tt }
  part_judged (Group nodes arrows edges condition quant) h =
      let g = group_judged nodes arrows edges condition h.0 h.1 (condition_judged shapes _ condition h.6) in
      record { node = g.0; legs = g.1; cond = g.2 }

  pub stages_judged : (parts : List CPart) → Each (IsSoundPart shapes graph) parts → Each (IsCheckedStage shapes) (map stage_of parts)
  stages_judged [] h = tt
  stages_judged (part ∷ parts) h = (part_judged part h.0, stages_judged parts h.1)
