use Rattle.std.proofs.Common.{List, map, subst}
use Rattle.pg_auto.specs.Autos.{pattern}
use Rattle.pg_short.specs.Found.{task_over}
use Rattle.pg_short.proofs.Begun.{begun_searching}
use Rattle.pg_short.specs.Costs.{IsRead}
use Rattle.pg_short.specs.Steps.{spot_view}
use Rattle.pg_short.specs.declared.spots.Spot.{Spot as HeldSpot}
use Rattle.pg_short.proofs.ReadSteps.{begun_read}
use Rattle.pg_short.proofs.search.search_from.Goals as goal

pub go_on_all-requires-clause-searching : goal.go_on_all-requires-clause-searching
go_on_all-requires-clause-searching g c κs within =
    begun_searching (task_over (g.V.View.shapes c.args.view.now) (g.V.View.tables c.args.view.now) (pattern c.args.auto.now) c.args.start.now) c.in_ok-search.search c.in_ok-search.ensures

pub returns-in_err-search-clause-reads : goal.returns-in_err-search-clause-reads
returns-in_err-search-clause-reads g c = begun_read (g.V.View.hop_cost c.args.view.now) (task_over (g.V.View.shapes c.args.view.now) (g.V.View.tables c.args.view.now) (pattern c.args.auto.now) c.args.start.now) c.args.steps.now

pub returns-in_err-go_on_all-clause-reads : goal.returns-in_err-go_on_all-clause-reads
returns-in_err-go_on_all-clause-reads g c =
    subst (λ (keys : List HeldSpot). IsRead (g.V.View.hop_cost c.args.view.now) (task_over (g.V.View.shapes c.args.view.now) (g.V.View.tables c.args.view.now) (pattern c.args.auto.now) c.args.start.now) (map spot_view keys) c.args.steps.now c.go_on_all.new.steps) c.in_ok-search.ensures.spots c.go_on_all.ensures.reads

pub returns-clause-reads : goal.returns-clause-reads
returns-clause-reads g c =
    subst (λ (keys : List HeldSpot). IsRead (g.V.View.hop_cost c.args.view.now) (task_over (g.V.View.shapes c.args.view.now) (g.V.View.tables c.args.view.now) (pattern c.args.auto.now) c.args.start.now) (map spot_view keys) c.args.steps.now c.go_on_all.new.steps) c.in_ok-search.ensures.spots c.go_on_all.ensures.reads
