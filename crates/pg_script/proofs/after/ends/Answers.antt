use Rattle.std.proofs.Common.{ap, ◌∙◌, ◌∷◌, [], ℕ, List}
use Rattle.std.specs.Str.{bytes_eq}
use Rattle.std.proofs.lemmas.Slice.Eq.{slice_eq-Decides}
use Rattle.std.proofs.lemmas.Bool.Decides.{Decides-eqb}
use Rattle.pg_script.proofs.Passes.After.{ends_is}
use Rattle.pg_script.proofs.after.ends.Goals as goal

pub returns : goal.returns
returns c =
    let left = c.split_at.result.1.now in
    ends_is c.args.bytes.now left c.gap_len.result c.eq.result c.gap_len.ensures.gap c.split_at.ensures.back
    (slice_eq-Decides Decides-eqb left (59 ∷ []) c.eq.result (c.eq.ensures ∙ ap (λ (l : List ℕ). bytes_eq left l) c.as_slice.ensures))
