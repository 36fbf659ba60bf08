use Rattle.std.proofs.Common.{rules, ◌≡◌, ◌==◌, ◌&&◌, ◌<◌, ◌≤◌, ℕ, Bool, length, map, arith, ap, sym, ◌∙◌}
use Rattle.std.specs.Prelude.{slice_get, nat_lt}
use Rattle.std.proofs.lemmas.Bool.{lt-ltb}
use Rattle.pg_short.specs.Steps.{Step, step_view, spot_view}
use Rattle.pg_short.specs.Found.{steps_in}
use Rattle.pg_short.proofs.Lists.{one_get}
use Rattle.pg_short.proofs.TightSteps.{visited_within, visited_at, step_at, same_least, lt_false}
use Rattle.pg_short.proofs.tight.is_least.Goals as goal

pub index-requires-then-step-number : goal.index-requires-then-step-number
index-requires-then-step-number c =
    let s = c.args.search.now in
    let l : c.index.result.now < length s.found.items = visited_within s (map spot_view s.spots.keys) c.requires.together c.args.place c.index.result.now c.requires.place c.index.ensures in
    search rules

pub returns-then-step-number : goal.returns-then-step-number
returns-then-step-number c = λ step least h i.
    let s = c.args.search.now in
    let spots = map spot_view s.spots.keys in
    let here = step_at s spots c.requires.together c.args.number c.index-step.result.now c.requires.number c.index-step.ensures in
    let same = one_get (slice_get (steps_in s) c.args.number) (step_view c.index-step.result.now) step here h in
    let is = visited_at s spots c.requires.together c.args.place c.index.result.now c.index-then-step-number.result.now c.requires.place c.index.ensures c.index-then-step-number.ensures in
    let one = same_least (steps_in s) s.order.items spots c.requires.together c.args.place (step_view c.index-then-step-number.result.now) least is i in
    let before : step.before < c.args.number = let a = ap (λ (x : Step). x.before) same in let b = c.if-step-number.true in omega arith in
    (λ j. (same j).long == (one j).long) ∙ sym (ap (λ b. b && (step.long == least.long)) (lt-ltb step.before c.args.number before))

pub returns-else-step-number : goal.returns-else-step-number
returns-else-step-number c = λ step least h i.
    let s = c.args.search.now in
    let spots = map spot_view s.spots.keys in
    let here = step_at s spots c.requires.together c.args.number c.index-step.result.now c.requires.number c.index-step.ensures in
    let same = one_get (slice_get (steps_in s) c.args.number) (step_view c.index-step.result.now) step here h in
    let no = lt_false step.before c.args.number (let a = ap (λ (x : Step). x.before) same in let b = c.if-step-number.false in omega arith) in
    ap (λ (x : Step). nat_lt x.before c.args.number) same ∙ no ∙ sym (ap (λ b. b && (step.long == least.long)) no)
