use Rattle.std.proofs.Common.{◌≤◌, ℕ, List, map, Contains, subst, sym}
use Rattle.std.specs.Prelude.{Option, IfSome}
use Rattle.std.specs.BinaryHeap.{heap_items}
use Rattle.std.specs.declared.cmp.Reverse.{Reverse}
use Rattle.pg_short.specs.Searches.{IsOut}
use Rattle.pg_short.proofs.Queued.{out_of, bound_least}
use Rattle.pg_short.proofs.queue.Queue.pop.Goals as goal
use Rattle.pg_short.proofs.queue.Queue.pop.Goals.{in-Some, in-None}

pub returns-clause-out : goal.returns-clause-out
returns-clause-out c =
    let P : Option (ℕ × ℕ) → Type 0 = λ o. IfSome o (λ e. IsOut e c.args.self.now (map (λ (r : Reverse (ℕ × ℕ)). r.0) (heap_items c.pop.new.self))) in
    elim c.match-pop.branch [
      | in-Some w ↦ subst P (sym w.result-is)
          (subst (λ (q : List (ℕ × ℕ)). IsOut w.in-Some.field-0.0 q (map (λ (r : Reverse (ℕ × ℕ)). r.0) (heap_items c.pop.new.self))) c.self.view_is
          (out_of (λ (r : Reverse (ℕ × ℕ)). r.0) (heap_items c.self.inside.heap) (heap_items c.pop.new.self) w.in-Some.field-0 w.in-Some.ensures.permutation))
      | in-None w ↦ subst P (sym w.result-is) tt
    ]

pub returns-clause-least : goal.returns-clause-least
returns-clause-least c =
    let P : Option (ℕ × ℕ) → Type 0 = λ o. IfSome o (λ e. (x : ℕ × ℕ) → Contains c.args.self.now x → e.0 ≤ x.0) in
    elim c.match-pop.branch [
      | in-Some w ↦ subst P (sym w.result-is)
          (λ x d. bound_least (heap_items c.self.inside.heap) w.in-Some.field-0 (w.in-Some.ensures.heap_order c.self.invariant).1 x (subst (λ (q : List (ℕ × ℕ)). Contains q x) (sym c.self.view_is) d))
      | in-None w ↦ subst P (sym w.result-is) tt
    ]
