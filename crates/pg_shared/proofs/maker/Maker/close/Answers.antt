use Rattle.std.proofs.Common.{ap, ◌∙◌, ◌+◌, ◌++◌, length, arith}
use Rattle.pg_shared.specs.Made.{items_of}
use Rattle.pg_shared.proofs.Growth.{grown, closed_items}
use Rattle.pg_shared.proofs.maker.Maker.close.Goals as goal

pub returns-clause-made : goal.returns-clause-made
returns-clause-made g c =
    let e = ap length c.in_ok-part.ensures.items in
    let v = ap (λ v. length v.items) c.replace-items.ensures.value in
    let a = ap (λ v. length v.items) c.replace-items.ensures.after in
    let n = c.len-count.ensures in
    let l = c.requires.long in
    let r = c.requires.rest in
    let m = c.requires.made.rest in
    let b = c.if-self-ge-MOST_BEFORE.false in
    grown c.args.self.now _ c.in_ok-part.part c.requires.made c.in_ok-part.ensures.leads (omega arith) (omega arith) c.in_ok-part.ensures.at (omega arith) c.in_ok-push.ensures.items (omega arith) (omega arith)

pub returns-clause-items : goal.returns-clause-items
returns-clause-items g c =
    closed_items c.args.self.now (record { parts = c.push.new.self; before = c.args.self.now.before + c.len-count.result; pending = c.replace-items.new.dest }) c.in_ok-part.part c.in_ok-push.ensures.items (c.in_ok-part.ensures.items ∙ ap (λ v. v.items) c.replace-items.ensures.value)
    ∙ ap (λ v. items_of c.args.self.now ++ v.items) c.replace-items.ensures.after
