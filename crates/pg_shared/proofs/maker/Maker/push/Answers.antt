use Rattle.std.proofs.Common.{ap, ◌∙◌, ◌++◌, take}
use Rattle.std.proofs.lemmas.List.{take-append-drop}
use Rattle.pg_shared.specs.Parts.{joined}
use Rattle.pg_shared.proofs.Growth.{on_then, split_items}
use Rattle.pg_shared.proofs.maker.Maker.push.Goals as goal

pub returns-clause-items : goal.returns-clause-items
returns-clause-items g c =
    on_then _ _ c.close.result
    (λ e. e ∙ split_items (joined c.args.self.now.parts.items) c.args.self.now.pending.items c.split_off.new.self.items c.in_ok-rest.rest.items c.push-2.new.self.items c.args.item
    (ap (λ l. l ++ c.in_ok-rest.rest.items) c.in_ok-rest.ensures.items ∙ ap (λ l. take 64 c.args.self.now.pending.items ++ l) c.in_ok-rest.ensures.tail ∙ take-append-drop 64 c.args.self.now.pending.items)
    c.in_ok-push-2.ensures.items)
    c.close.ensures.items
