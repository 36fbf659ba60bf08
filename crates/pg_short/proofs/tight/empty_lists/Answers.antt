use Rattle.std.proofs.Common.{◌≡◌, ◌∷◌, ◌++◌, [], ℕ, List, length, arith, ap, ◌∙◌, length-append}
use Rattle.std.specs.Prelude.{Vec}
use Rattle.std.specs.declared.alloc.Global.{Global}
use Rattle.pg_short.specs.Tight.{list_in, numbers_in}
use Rattle.pg_short.proofs.Searching.{map_both}
use Rattle.pg_short.proofs.TightSteps.{empty_more}
use Rattle.pg_short.proofs.tight.empty_lists.Goals as goal

pub loop-place-preserved : goal.loop-place-preserved
loop-place-preserved c =
    let was = numbers_in c.loop-place.lists.items in
    let more : numbers_in c.push.new.self.items ≡ was ++ [] ∷ [] =
    ap numbers_in c.in_ok-push.ensures.items ∙ map_both (λ (v : Vec ℕ Global). v.items) c.loop-place.lists.items (c.new.result ∷ []) ∙ ap (λ ks. was ++ ks ∷ []) c.new.ensures.items in
    record {
      count = let a = ap length more in let b = length-append was ([] ∷ []) in let d = c.loop-place.invariant.count in omega arith;
      empty = λ p. ap (λ ks. list_in ks p) more ∙ empty_more was c.loop-place.invariant.empty p;
    }
