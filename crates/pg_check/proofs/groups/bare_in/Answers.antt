use Rattle.std.proofs.Common.{◌∙◌, ap, sym, List}
use Rattle.std.specs.List.{flat_map}
use Rattle.std.proofs.lemmas.List.Folds.{flat_map-map}
use Rattle.pg_rules.specs.Places.{least}
use Rattle.pg_check.specs.declared.uses.UseOf.{UseOf}
use Rattle.pg_check.specs.UsePlaces.{bare}
use Rattle.pg_check.specs.Gathered.{use_view}
use Rattle.pg_check.proofs.groups.bare_in.Goals as goal

pub returns : goal.returns
returns c = let g = bare c.args.variables.now in
    c.bare_of.ensures
    ∙ ap (λ (us : List UseOf). least (flat_map (λ u. g (use_view u)) us)) c.deref.ensures.value
    ∙ ap least (sym (flat_map-map g use_view c.in_ok-used.used.items))
    ∙ ap (λ us. least (flat_map g us)) c.in_ok-used.ensures
