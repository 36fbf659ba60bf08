use Rattle.std.proofs.Common.{◌∙◌, ap}
use Rattle.pg_rules.specs.Places.{sooner}
use Rattle.pg_check.proofs.JudgeLaws.{limit_is}
use Rattle.pg_check.proofs.judge.limit.Goals as goal

pub returns : goal.returns
returns c = let a = c.ninth_path-path.result in
    let b = c.last_column-column.result in
    let v = c.place_at-variable.result in
    let e = c.crowded_paths-edge.result in
    let n = c.large_paths-number.result in
    let l = c.long_paths-length.result in
    c.sooner.ensures
    ∙ ap (sooner a) (c.sooner-behind.ensures ∙ ap (sooner b) (c.sooner-of_names.ensures ∙ ap (sooner v) (c.sooner-of_parts.ensures ∙ ap (sooner e) c.sooner-of_paths.ensures)))
    ∙ limit_is c.args.query.now c.args.variables.now c.as_slice-paths.result.now c.as_slice.result.now a b v e n l c.as_slice-paths.ensures c.as_slice.ensures c.requires c.ninth_path-path.ensures c.last_column-column.ensures c.place_at-variable.ensures c.crowded_paths-edge.ensures c.large_paths-number.ensures c.long_paths-length.ensures
