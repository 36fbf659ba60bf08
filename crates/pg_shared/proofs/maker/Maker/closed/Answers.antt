use Rattle.std.proofs.Common.{ap, sym, subst, ◌∙◌, ◌++◌}
use Rattle.pg_shared.specs.Parts.{joined, IsKept}
use Rattle.pg_shared.proofs.Growth.{ended, joined_push}
use Rattle.pg_shared.proofs.maker.Maker.closed.Goals as goal

pub returns-clause-kept : goal.returns-clause-kept
returns-clause-kept g c = subst IsKept (sym c.in_ok-push.ensures.items) (ended c.args.self c.in_ok-part.part c.requires.made c.in_ok-part.ensures.leads c.in_ok-part.ensures.at c.in_ok-part.ensures.items c.requires.long)

pub returns-clause-items : goal.returns-clause-items
returns-clause-items g c = ap joined c.in_ok-push.ensures.items ∙ joined_push c.args.self.parts.items c.in_ok-part.part ∙ ap (λ l. joined c.args.self.parts.items ++ l) c.in_ok-part.ensures.items
