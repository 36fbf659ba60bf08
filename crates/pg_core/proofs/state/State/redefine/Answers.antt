use Rattle.std.proofs.Common.{subst, sym}
use Rattle.pg_core.specs.Versions.{Extends}
use Rattle.pg_core.specs.State.{Standing}
use Rattle.pg_core.proofs.state.State.redefine.Goals as goal

pub redefine-requires-clause-extends : goal.redefine-requires-clause-extends
redefine-requires-clause-extends g c = subst (λ (s : Standing). Extends s.shapes c.args.shapes) (sym c.self.view_is) c.requires.extends
