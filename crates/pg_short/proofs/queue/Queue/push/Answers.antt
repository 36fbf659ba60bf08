use Rattle.std.proofs.Common.{ℕ, List, ◌∷◌, map, subst}
use Rattle.std.specs.BinaryHeap.{heap_items}
use Rattle.std.specs.declared.cmp.Reverse.{Reverse}
use Rattle.std.proofs.lemmas.List.Sorted.{IsPermutation-sym}
use Rattle.pg_short.specs.Searches.{IsOut}
use Rattle.pg_short.proofs.Queued.{out_of}
use Rattle.pg_short.proofs.queue.Queue.push.Goals as goal

pub returns : goal.returns
returns c = subst (λ (q : List (ℕ × ℕ)). IsOut (c.args.long, c.args.number) (map (λ (r : Reverse (ℕ × ℕ)). r.0) (heap_items c.push.new.self)) q) c.self.view_is
    (out_of (λ (r : Reverse (ℕ × ℕ)). r.0) (heap_items c.push.new.self) (heap_items c.self.inside.heap) (record { 0 = (c.args.long, c.args.number) })
    (IsPermutation-sym (record { 0 = (c.args.long, c.args.number) } ∷ heap_items c.self.inside.heap) (heap_items c.push.new.self) c.in_ok-push.ensures.permutation))
