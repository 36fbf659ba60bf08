use Rattle.std.proofs.Common.{ap, sym, ◌∙◌, ◌++◌, ◌+◌, length, append-nil, arith}
use Rattle.pg_shared.specs.Parts.{joined}
use Rattle.pg_shared.proofs.Growth.{popped, popped_long, joined_push, least}
use Rattle.pg_shared.proofs.maker.Maker.reopen.Goals as goal

pub push_copies-requires : goal.push_copies-requires
push_copies-requires g c = record { made = popped c.args.self _ c.in-Some.last c.requires.made c.in-Some.ensures.items (omega arith) c.new.ensures.items }

pub returns-clause-items : goal.returns-clause-items
returns-clause-items g c =
    let ps = c.pop.new.self.items in
    let last = c.in-Some.last in
    c.in_ok-push_items.ensures.items ∙ ap (λ l. l ++ c.args.self.pending.items)
    (c.in_ok-push_copies.ensures.items ∙ ap (λ l. (joined ps ++ c.new.result.items) ++ l) c.as_slice.ensures ∙ ap (λ l. (joined ps ++ l) ++ last.items) c.new.ensures.items ∙ ap (λ l. l ++ last.items) (append-nil (joined ps)) ∙ sym (joined_push ps last) ∙ ap joined (sym c.in-Some.ensures.items))

pub returns-clause-some : goal.returns-clause-some
returns-clause-some g c =
    let l = popped_long c.args.self _ c.in-Some.last c.requires.made c.in-Some.ensures.items in
    let s = ap length c.as_slice.ensures in
    let a = least (length c.new.result.items + length c.as_slice.result.now) (length c.push_copies.new.self.pending.items) c.in_ok-push_copies.ensures.rest (omega arith) in
    let b = least (length c.push_copies.new.self.pending.items + length c.args.self.pending.items) (length c.push_items.new.self.pending.items) c.in_ok-push_items.ensures.rest (omega arith) in
    omega arith

pub returns-clause-rest : goal.returns-clause-rest
returns-clause-rest g c = λ more.
    let l = popped_long c.args.self _ c.in-Some.last c.requires.made c.in-Some.ensures.items in
    let s = ap length c.as_slice.ensures in
    let a = least (length c.new.result.items + length c.as_slice.result.now) (length c.push_copies.new.self.pending.items) c.in_ok-push_copies.ensures.rest (omega arith) in
    least (length c.push_copies.new.self.pending.items + length c.args.self.pending.items) (length c.push_items.new.self.pending.items) c.in_ok-push_items.ensures.rest (omega arith)
