use Rattle.std.proofs.Common.{◌++◌, ◌≤◌, List, length, arith, ap, sym, ◌∙◌}
use Rattle.std.specs.Prelude.{flat_map, slice_get}
use Rattle.pg_meaning.specs.declared.checked.PathBinding.{PathBinding}
use Rattle.pg_short.specs.Rests.{whole_at, whole_in, rest_of}
use Rattle.pg_short.proofs.Keeping.{flat_at, flat_mapped, take_whole}
use Rattle.pg_short.proofs.back.whole.Goals as goal

pub loop-at-preserved : goal.loop-at-preserved
loop-at-preserved c =
    let n = c.args.numbers.now in
    record {
      given = c.in_ok-push_whole_at.ensures.given ∙ ap (λ (bs : List PathBinding). bs ++ whole_in n c.args.vars.now c.args.place (slice_get c.args.states.now c.loop-at.at)) c.loop-at.invariant.given
          ∙ sym (flat_at (λ a. whole_at n.start c.args.vars.now c.args.place (rest_of n a)) c.args.states.now c.loop-at.at);
      short = c.in_ok-push_whole_at.ensures.short c.loop-at.invariant.short;
    }

pub returns-clause-given : goal.returns-clause-given
returns-clause-given c =
    let n = c.args.numbers.now in
    let l : length c.args.states.now ≤ c.loop-at.at = let e = c.len-at-end.ensures in let f = c.loop-at-test.false in omega arith in
    c.loop-at.invariant.given ∙ ap (flat_map (λ a. whole_at n.start c.args.vars.now c.args.place (rest_of n a))) (take_whole c.args.states.now c.loop-at.at l)
    ∙ flat_mapped (whole_at n.start c.args.vars.now c.args.place) (rest_of n) c.args.states.now
