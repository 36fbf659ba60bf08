use Rattle.std.proofs.Common.{◌∙◌, ap, sym, List, [], false, not}
use Rattle.std.specs.List.{flat_map}
use Rattle.std.proofs.lemmas.List.Folds.{flat_map-map}
use Rattle.pg_rules.specs.Places.{least, place_if}
use Rattle.pg_ast.specs.Trees.{tree_of}
use Rattle.pg_catalog.specs.NameSets.{add_all}
use Rattle.pg_check.specs.declared.uses.UseOf.{UseOf}
use Rattle.pg_check.specs.UsePlaces.{foreign, stray, texts_of}
use Rattle.pg_check.specs.Gathered.{use_view, seen_in}
use Rattle.pg_check.specs.Passes.{inner_view}
use Rattle.pg_check.proofs.Loops.{flat_same}
use Rattle.pg_check.proofs.Names.{among_set}
use Rattle.pg_check.proofs.conditions.foreign_in.Goals as goal

pub returns : goal.returns
returns c = let i = inner_view c.args.inner in
    let f = foreign (add_all [] (texts_of i.own)) in
    let x = tree_of i.condition.expr in
    c.foreign_of.ensures
    ∙ ap (λ (us : List UseOf). least (flat_map (λ u. foreign c.in_ok-names.names (use_view u)) us)) c.deref.ensures.value
    ∙ ap least (sym (flat_map-map (foreign c.in_ok-names.names) use_view c.in_ok-used.used.items))
    ∙ ap (λ us. least (flat_map (foreign c.in_ok-names.names) us)) c.in_ok-used.ensures
    ∙ ap (λ ns. least (flat_map (foreign ns) (seen_in false x))) c.in_ok-names.ensures
    ∙ ap least (flat_same f (stray i.own) (λ u. ap (λ b. place_if (not b) u.variable.at) (among_set u.variable i.own)) (seen_in false x))
