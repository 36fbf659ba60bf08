use Rattle.std.proofs.Common.{◌≡◌, ◌≤◌, ◌+◌, ◌*◌, [], length, Some, ap, sym, subst, ◌∙◌, arith}
use Rattle.std.specs.List.{cons_option}
use Rattle.std.specs.Prelude.{slice_get}
use Rattle.std.proofs.lemmas.List.{length-map}
use Rattle.pg_snap.specs.Bases.{entries_in_base}
use Rattle.pg_snap.specs.Costs.{base_search, runs_search, runs_entries, runs_cost}
use Rattle.pg_snap.specs.Snapshots.{parts}
use Rattle.pg_snap.specs.Under.{plain, plains, sides_of, side_of, under_runs, HaveShape}
use Rattle.pg_snap.proofs.RowLaws.{back_of}
use Rattle.pg_snap.proofs.SideLaws.{have_shape, reached_value, reached_cost, news_short}
use Rattle.pg_snap.proofs.StepLaws.{if_ok}
use Rattle.pg_snap.proofs.snapshot.Snapshot.reached.Goals as goal

pub under_own-requires : goal.under_own-requires
under_own-requires g c =
    let s = c.args.self.now in
    subst (λ o. HaveShape c.args.edge c.args.shape.now (cons_option o [])) (sym c.own.ensures)
    (back_of (λ run. slice_get run.shapes.edges c.args.edge.0 ≡ Some c.args.shape.now) s.runs (cons_option s.own []) (have_shape s.base.shapes c.args.edge c.args.shape.now (parts s) c.fits.ensures.made.parts c.requires))

pub returns-clause-value : goal.returns-clause-value
returns-clause-value g c =
    let s = c.args.self.now in
    let e = c.args.edge in
    let dir = c.args.dir in
    let v = c.args.vertex.now.values in
    let t = c.args.shape.now.table in
    let olds : plains c.in_ok-olds.olds.items ≡ sides_of (entries_in_base s.base e dir v) =
    c.in_ok-olds.ensures ∙ c.sides.ensures.value ∙ ap (λ b. sides_of (entries_in_base b e dir v)) c.base.ensures in
    let news : plains c.in_ok-news.news.items ≡ under_runs e dir v t (plains c.in_ok-olds.olds.items) s.runs =
    c.in_ok-news.ensures.value ∙ ap (under_runs e dir v t (plains c.in_ok-olds.olds.items)) c.runs.ensures in
    if_ok c.under_own.result _ _ (λ all a. reached_value s e c.args.shape.now dir v (plains c.in_ok-olds.olds.items) (plains c.in_ok-news.news.items) (plains all.items) olds news
    (a ∙ ap (λ o. under_runs e dir v t (plains c.in_ok-news.news.items) (cons_option o [])) c.own.ensures)) c.under_own.ensures.value

pub returns-clause-cost : goal.returns-clause-cost
returns-clause-cost g c =
    let s = c.args.self.now in
    let e = c.args.edge in
    let dir = c.args.dir in
    let v = c.args.vertex.now.values in
    let t = c.args.shape.now.table in
    let olds : plains c.in_ok-olds.olds.items ≡ sides_of (entries_in_base s.base e dir v) =
    c.in_ok-olds.ensures ∙ c.sides.ensures.value ∙ ap (λ b. sides_of (entries_in_base b e dir v)) c.base.ensures in
    let news : plains c.in_ok-news.news.items ≡ under_runs e dir v t (plains c.in_ok-olds.olds.items) s.runs =
    c.in_ok-news.ensures.value ∙ ap (under_runs e dir v t (plains c.in_ok-olds.olds.items)) c.runs.ensures in
    let n0 : length c.in_ok-olds.olds.items ≡ length (entries_in_base s.base e dir v) = sym (length-map c.in_ok-olds.olds.items plain) ∙ ap length olds ∙ length-map (entries_in_base s.base e dir v) side_of in
    let m1 = length-map c.in_ok-news.news.items plain in
    let n1 = news_short s e c.args.shape.now dir v (plains c.in_ok-olds.olds.items) (plains c.in_ok-news.news.items) olds news in
    reached_cost s e c.args.shape.now dir v (length c.in_ok-olds.olds.items) (length c.in_ok-news.news.items) c.args.steps.now c.sides.new.steps c.under_runs.new.steps c.under_own.new.steps n0 (omega (arith, m1, n1))
    (subst (λ b. c.sides.new.steps ≤ c.args.steps.now + base_search b e) c.base.ensures c.sides.ensures.cost)
    (subst (λ rs. c.under_runs.new.steps ≤ c.sides.new.steps + runs_search e rs + (length c.in_ok-olds.olds.items + runs_entries e dir v rs) * runs_cost t rs) c.runs.ensures c.under_runs.ensures.cost)
    (subst (λ o. c.under_own.new.steps ≤ c.under_runs.new.steps + runs_search e (cons_option o []) + length c.in_ok-news.news.items * runs_cost t (cons_option o [])) c.own.ensures c.under_own.ensures.cost)

pub returns-in_err-news-clause-cost : goal.returns-in_err-news-clause-cost
returns-in_err-news-clause-cost g c =
    let s = c.args.self.now in
    let e = c.args.edge in
    let dir = c.args.dir in
    let v = c.args.vertex.now.values in
    let t = c.args.shape.now.table in
    let olds : plains c.in_ok-olds.olds.items ≡ sides_of (entries_in_base s.base e dir v) =
    c.in_ok-olds.ensures ∙ c.sides.ensures.value ∙ ap (λ b. sides_of (entries_in_base b e dir v)) c.base.ensures in
    let n0 : length c.in_ok-olds.olds.items ≡ length (entries_in_base s.base e dir v) = sym (length-map c.in_ok-olds.olds.items plain) ∙ ap length olds ∙ length-map (entries_in_base s.base e dir v) side_of in
    reached_cost s e c.args.shape.now dir v (length c.in_ok-olds.olds.items) 0 c.args.steps.now c.sides.new.steps c.under_runs.new.steps c.under_runs.new.steps n0 (omega arith)
    (subst (λ b. c.sides.new.steps ≤ c.args.steps.now + base_search b e) c.base.ensures c.sides.ensures.cost)
    (subst (λ rs. c.under_runs.new.steps ≤ c.sides.new.steps + runs_search e rs + (length c.in_ok-olds.olds.items + runs_entries e dir v rs) * runs_cost t rs) c.runs.ensures c.under_runs.ensures.cost)
    (omega arith)
