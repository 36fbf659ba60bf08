use Rattle.std.proofs.Common.{subst, ◌∙◌, ◌≡◌, length}
use Rattle.pg_pins.specs.Held.{pinned_numbers}
use Rattle.pg_core.proofs.Good.{pins_counted}
use Rattle.pg_core.proofs.versions.Versions.counts.Goals as goal

pub returns-clause-pins : goal.returns-clause-pins
returns-clause-pins g c = subst (λ v. c.counts.result.1 ≡ length (pinned_numbers v.held.pins)) c.self.view_is (c.counts.ensures.pins ∙ pins_counted c.self.inside.kept.pins)
