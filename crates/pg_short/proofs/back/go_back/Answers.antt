use Rattle.std.proofs.Common.{◌≡◌, ◌<◌, ◌≤◌, ℕ, [], List, map, length, get_or, arith, Contains, ap, sym, ◌∙◌, subst}
use Rattle.std.specs.Prelude.{Option, Vec}
use Rattle.std.specs.Option.{unwrap_or}
use Rattle.std.specs.declared.alloc.Global.{Global}
use Rattle.std.proofs.lemmas.Bool.{ltb-true}
use Rattle.pg_auto.specs.Autos.{stage_view}
use Rattle.pg_short.specs.Found.{steps_in}
use Rattle.pg_short.specs.Tight.{list_in, numbers_in}
use Rattle.pg_short.specs.Rests.{PutBack, left_of}
use Rattle.pg_short.proofs.Lists.{none_from}
use Rattle.pg_short.proofs.Queued.{get_some_or}
use Rattle.pg_short.proofs.FoundRounds.{on_ok}
use Rattle.pg_short.proofs.FoundSteps.{get_map, none_map}
use Rattle.pg_short.proofs.Keeping.{put_none}
use Rattle.pg_short.proofs.back.go_back.Goals as goal

some_in : (lists : List (Vec ℕ Global)) (p : ℕ) (list : Vec ℕ Global) → p < length lists → list ≡ get_or lists p list → list_in (numbers_in lists) p ≡ list.items
some_in lists p list l e = ap (λ (o : Option (List ℕ)). unwrap_or o []) (get_map (λ (v : Vec ℕ Global). v.items) lists p list (get_some_or lists p list l e))

none_in : (lists : List (Vec ℕ Global)) (p : ℕ) → length lists ≤ p → list_in (numbers_in lists) p ≡ []
none_in lists p l = ap (λ (o : Option (List ℕ)). unwrap_or o []) (none_map (λ (v : Vec ℕ Global). v.items) lists p (none_from lists p l))

pub put_steps-requires-clause-tight : goal.put_steps-requires-clause-tight
put_steps-requires-clause-tight c = λ k here.
    c.requires.tight.only c.args.rest.stage k (subst (λ ks. Contains ks k) (c.as_slice.ensures.value ∙ sym (some_in c.args.tight.now c.args.rest.stage c.in-Some.steps.now (ltb-true c.args.rest.stage (length c.args.tight.now) (sym c.in-Some.ensures.lookup.0)) c.in-Some.ensures.lookup.1)) here)

pub put_steps-requires-clause-rest : goal.put_steps-requires-clause-rest
put_steps-requires-clause-rest c = c.requires.kept c.args.rest c.requires.rest

pub returns-in-Some : goal.returns-in-Some
returns-in-Some c =
    let s = c.args.search.now in
    let n = c.args.numbers.now in
    on_ok c.put_steps.result _ _ (λ p. subst (λ ks. PutBack (map stage_view c.args.stages.now) (steps_in s) s.order.items ks (left_of n c.args.rest) n c.put_steps.new.numbers c.args.states.now c.put_steps.new.states)
    (c.as_slice.ensures.value ∙ sym (some_in c.args.tight.now c.args.rest.stage c.in-Some.steps.now (ltb-true c.args.rest.stage (length c.args.tight.now) (sym c.in-Some.ensures.lookup.0)) c.in-Some.ensures.lookup.1)) p) c.put_steps.ensures

pub returns-in-None : goal.returns-in-None
returns-in-None c =
    let s = c.args.search.now in
    let n = c.args.numbers.now in
    subst (λ ks. PutBack (map stage_view c.args.stages.now) (steps_in s) s.order.items ks (left_of n c.args.rest) n n c.args.states.now c.args.states.now)
    (sym (none_in c.args.tight.now c.args.rest.stage (omega (arith, c.in-None.ensures.lookup)))) (put_none (map stage_view c.args.stages.now) (steps_in s) s.order.items n c.args.states.now (left_of n c.args.rest) c.requires.kept)
