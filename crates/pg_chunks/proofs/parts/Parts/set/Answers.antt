use Rattle.std.proofs.Common.{ap, refl, ◌∙◌}
use Rattle.std.specs.Prelude.{slice_set}
use Rattle.pg_chunks.proofs.Keeps.{set_whole, last_set}
use Rattle.pg_chunks.proofs.parts.Parts.set.Goals as goal

pub returns-then-at-self : goal.returns-then-at-self
returns-then-at-self g c =
    set_whole c.self.inside.full.items c.set_at.new.full.items c.self.inside.before c.args.at c.self.inside.last.items c.args.item c.self.invariant c.if-at-self.true c.set_at.ensures ∙ ap (λ xs. slice_set xs c.args.at c.args.item) c.self.view_is

pub returns-else-at-self : goal.returns-else-at-self
returns-else-at-self g c =
    last_set c.self.inside.full.items c.self.inside.before c.args.at c.self.inside.last.items _ c.args.item c.self.invariant c.if-at-self.false refl ∙ ap (λ xs. slice_set xs c.args.at c.args.item) c.self.view_is
