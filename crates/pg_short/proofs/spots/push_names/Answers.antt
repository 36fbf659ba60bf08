use Rattle.std.proofs.Common.{◌++◌, [], ◌∷◌, List, map, cond, ap, ◌∙◌, append_assoc}
use Rattle.std.specs.List.{list_any}
use Rattle.pg_meaning.specs.Fits.{Mention}
use Rattle.pg_auto.specs.Autos.{stage_view}
use Rattle.pg_short.specs.Spots.{names}
use Rattle.pg_short.specs.Steps.{named_view}
use Rattle.pg_short.proofs.Lists.{filter_one_more}
use Rattle.pg_short.proofs.spots.push_names.Goals as goal

pub loop-name-preserved : goal.loop-name-preserved
loop-name-preserved c =
    let p = λ (m : Mention). list_any (names m.var) (map stage_view c.args.stages.now) in
    let x = c.name-item.result in
    c.in_ok-push_needed.ensures ∙ ap (λ (ms : List Mention). ms ++ cond (p (named_view x)) (named_view x ∷ []) []) c.loop-name.invariant
    ∙ append_assoc (map named_view c.args.out.now.items) _ _
    ∙ ap (λ (ms : List Mention). map named_view c.args.out.now.items ++ ms) (filter_one_more p named_view c.args.names.now c.loop-name.name-index x c.loop-name-test.true c.name-item.is)
