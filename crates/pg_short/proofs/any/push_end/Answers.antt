use Rattle.std.proofs.Common.{◌∷◌, ◌++◌, [], List, map, arith, ap, sym, ◌∙◌, append-nil}
use Rattle.std.proofs.lemmas.List.{length-map}
use Rattle.pg_meaning.specs.declared.checked.PathBinding.{PathBinding}
use Rattle.pg_meaning.specs.Bindings.{path_binding}
use Rattle.pg_auto.specs.Autos.{stage_view}
use Rattle.pg_auto.specs.States.{binding_of}
use Rattle.pg_short.specs.Steps.{step_view}
use Rattle.pg_short.specs.Walks.{rounds_in, walk_along}
use Rattle.pg_short.specs.declared.steps.Step.{Step}
use Rattle.pg_short.specs.declared.bindings.WalkedRound.{WalkedRound}
use Rattle.pg_short.proofs.FoundRounds.{on_ok}
use Rattle.pg_short.proofs.FoundSteps.{get_map}
use Rattle.pg_short.proofs.Queued.{get_some_or}
use Rattle.pg_short.proofs.Tracing.{end_some, end_none}
use Rattle.pg_short.proofs.any.push_end.Goals as goal

pub returns-in_ok-binding-clause-given : goal.returns-in_ok-binding-clause-given
returns-in_ok-binding-clause-given c =
    let stages = map stage_view c.args.stages.now in
    let found = map step_view c.args.found.now in
    let step = c.index-found-number.result in
    let start = c.args.start.now in
    let vars = c.args.vars.now in
    let rounds = c.in_ok-rounds.rounds.items in
    let here = get_map step_view c.args.found.now c.args.number step (get_some_or c.args.found.now c.args.number step c.requires.number c.index-found-number.is) in
    let e = ap (λ (x : Step). x.spot.stage) c.index-found-number.is in
    let ended = end_some stages start found c.requires.stand vars c.args.number (step_view step) (rounds_in rounds) here (let l = c.if-stages-found.true in let m = length-map c.args.stages.now stage_view in omega arith) c.in_ok-rounds.ensures in
    let given = c.in_ok-binding.ensures.given ∙ ap (λ (rs : List WalkedRound). path_binding (binding_of start vars (walk_along (rounds_in rs)))) c.as_slice.ensures.value in
    on_ok c.push.result _ _ (λ p. p ∙ ap (λ (b : PathBinding). c.args.out.now ++ b ∷ []) given ∙ ap (λ (bs : List PathBinding). c.args.out.now ++ bs) (sym ended)) c.push.ensures.ok

pub returns-else-stages-found-clause-given : goal.returns-else-stages-found-clause-given
returns-else-stages-found-clause-given c =
    let stages = map stage_view c.args.stages.now in
    let found = map step_view c.args.found.now in
    let step = c.index-found-number.result in
    let here = get_map step_view c.args.found.now c.args.number step (get_some_or c.args.found.now c.args.number step c.requires.number c.index-found-number.is) in
    let e = ap (λ (x : Step). x.spot.stage) c.index-found-number.is in
    let open' = end_none stages c.args.start.now found c.requires.stand c.args.vars.now c.args.number (step_view step) here (let l = c.if-stages-found.false in let m = length-map c.args.stages.now stage_view in omega arith) in
    sym (ap (λ (bs : List PathBinding). c.args.out.now ++ bs) open' ∙ append-nil c.args.out.now)
