use Rattle.std.proofs.Common.{◌++◌, ◌∙◌}
use Rattle.std.proofs.lemmas.List.{take-append-drop}
use Rattle.pg_chunks.proofs.part.insert_split.Goals as goal

pub returns-in-Ok-split_off-clause-ok : goal.returns-in-Ok-split_off-clause-ok
returns-in-Ok-split_off-clause-ok g c =
    let kept = c.in-Ok-split_off.ensures.items in
    let tail = c.in-Ok-split_off.ensures.tail in
    (λ i. kept i ++ tail i) ∙ take-append-drop 64 _ ∙ c.in-Ok.ensures.items
