use Rattle.std.proofs.Common.{◌∙◌, ap, map, ◌++◌}
use Rattle.pg_meaning.specs.Mentions.{clash}
use Rattle.pg_rules.specs.Queries as rules
use Rattle.pg_rules.specs.Queries.{later_of, is_strict}
use Rattle.pg_rules.specs.Queries.Collections.{same_name, mentions_of}
use Rattle.pg_check.specs.Judgement.{AreOf, trees}
use Rattle.pg_check.specs.Passes.{inner_view}
use Rattle.pg_check.specs.Gathered.{mention_view}
use Rattle.pg_check.proofs.Loops.{joined}
use Rattle.pg_check.proofs.places.bad_variable.Goals as goal

pub returns : goal.returns
returns c = let q = c.args.query.now in
    let are : AreOf q c.deref.result.now c.deref-2.result.now = record { inner_are = ap trees c.deref.ensures.value ∙ c.requires.exprs.inner_are; outer_are = ap trees c.deref-2.ensures.value ∙ c.requires.exprs.outer_are } in
    let late = later_of (clash same_name (is_strict q)) (mentions_of q) in
    joined (rules.unknown q) (rules.foreign q ++ late) c.in_ok-unknown.unknown c.sooner-later.result c.sooner.result
    (c.in_ok-unknown.ensures q are c.requires.variables)
    (joined (rules.foreign q) late c.in_ok-foreign.foreign c.in_ok-clash.clash c.sooner-later.result
    (c.in_ok-foreign.ensures q (ap (map inner_view) c.deref-3.ensures.value ∙ c.requires.conditions))
    (c.in_ok-clash.ensures q (ap (map mention_view) c.deref-5.ensures.value ∙ c.requires.mentions) (c.deref-4.ensures.value ∙ c.requires.walks))
    c.sooner-later.ensures)
    c.sooner.ensures
