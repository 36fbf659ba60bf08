use Rattle.std.proofs.Common.{map, sym, ◌∙◌, subst}
use Rattle.std.proofs.lemmas.List.{length-map}
use Rattle.pg_auto.specs.Autos.{stage_view}
use Rattle.pg_short.specs.Steps.{step_view}
use Rattle.pg_short.specs.Found.{steps_in}
use Rattle.pg_short.specs.Tight.{AreTight, numbers_in}
use Rattle.pg_short.proofs.Keeping.{led_more, led_all}
use Rattle.pg_short.proofs.back.go_back_all.Goals as goal

pub returns-in-None-clause-led : goal.returns-in-None-clause-led
returns-in-None-clause-led c =
    let s = c.args.search.now in
    led_all (map stage_view c.args.stages.now) (steps_in s) s.order.items c.loop-at.numbers c.loop-at.states c.loop-at.at (sym c.in-None.ensures) c.loop-at.invariant.led

pub loop-at-preserved : goal.loop-at-preserved
loop-at-preserved c =
    let s = c.args.search.now in
    let lists = numbers_in c.args.tight.now in
    let tight = subst (AreTight (steps_in s) s.order.items lists) (sym (length-map s.found.items step_view)) c.requires.tight in
    let p = c.in_ok-go_back-in-Some.ensures in
    record {
      kept = p.puts.within;
      start = p.puts.grow.start ∙ c.loop-at.invariant.start;
      led = led_more (map stage_view c.args.stages.now) (steps_in s) s.order.items c.loop-at.numbers c.go_back.new.numbers c.loop-at.states c.go_back.new.states lists tight c.loop-at.at c.in-Some.rest (sym c.in-Some.ensures) p
          c.loop-at.invariant.led;
    }
