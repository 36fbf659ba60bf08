use Rattle.std.proofs.lemmas.List.Sorted.{length_permutation}
use Rattle.pg_adj.proofs.Sorting.{sorted}
use Rattle.pg_adj.proofs.seen.seen_in_order.Goals as goal

pub returns : goal.returns
returns c = sorted c.args.dir c.args.ends.now c.in_ok-seen.seen.items c.sort.new.self.items (length_permutation _ _ c.sort.ensures.permutation) c.in_ok-seen.ensures c.in_ok-sort.ensures.sorted c.sort.ensures.stable
