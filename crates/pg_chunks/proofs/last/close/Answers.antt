use Rattle.std.proofs.Common.{ap, refl, arith}
use Rattle.pg_chunks.proofs.Keeps.{closed_in, whole_in}
use Rattle.pg_chunks.proofs.last.close.Goals as goal

pub returns-clause-kept : goal.returns-clause-kept
returns-clause-kept g c =
    let v = c.replace-items.ensures.value in
    let n = c.len-count.ensures in
    let w = ap (λ a. a.len) v in
    let k = c.args.last.now.ok in
    closed_in c.args.full.now.items c.push_reserved.new.self.items c.args.before.now c.len-count.result c.args.last.now.items c.args.rest.items c.replace-items.new.dest.items _ c.requires.kept c.requires.low c.requires.bound c.requires.rest refl (ap (λ a. a.items) v)
    c.push_reserved.ensures.items (omega arith) (ap (λ a. a.items) c.replace-items.ensures.after)

pub returns-clause-whole : goal.returns-clause-whole
returns-clause-whole g c =
    whole_in c.args.full.now.items c.push_reserved.new.self.items c.args.last.now.items c.args.rest.items c.replace-items.new.dest.items _ (ap (λ a. a.items) c.replace-items.ensures.value) c.push_reserved.ensures.items (ap (λ a. a.items) c.replace-items.ensures.after)
