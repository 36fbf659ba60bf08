use Rattle.std.proofs.Common.{ap, sym, ◌∙◌, ◌+◌, ◌∷◌, length, arith}
use Rattle.pg_shared.proofs.Growth.{grown, shared_items}
use Rattle.pg_shared.proofs.maker.Maker.push_shared.Goals as goal

pub returns-clause-made : goal.returns-clause-made
returns-clause-made g c =
    let leads = c.requires.leads in
    let e = ap length c.in_ok-items.ensures in
    let n = c.len-count.ensures in
    let l = c.requires.long in
    let s = c.requires.short in
    let b = c.if-self-ge-MOST_BEFORE.false in
    grown c.args.self.now _ (record { first = c.in_ok-first.first; before = c.args.self.now.before; items = c.in_ok-items.items }) c.requires.made
    (leads.0, c.in_ok-items.ensures ∙ leads.1 ∙ ap (λ x. x ∷ leads.0) (sym c.in_ok-first.ensures)) (omega arith) (omega arith) (omega arith) (omega arith) c.in_ok-push.ensures.items (omega arith) c.requires.made.rest

pub returns-clause-items : goal.returns-clause-items
returns-clause-items g c =
    shared_items c.args.self.now (record { parts = c.push.new.self; before = c.args.self.now.before + c.len-count.result; pending = c.args.self.now.pending }) (record { first = c.in_ok-first.first; before = c.args.self.now.before; items = c.in_ok-items.items })
    c.args.part.now.items c.in_ok-push.ensures.items c.in_ok-items.ensures c.requires.none c.requires.none
