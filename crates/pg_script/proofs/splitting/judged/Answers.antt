use Rattle.std.proofs.Common.{List, ℕ, sym, subst, take}
use Rattle.std.proofs.lemmas.Result.{MatchResult-weaker}
use Rattle.pg_script.specs.Script.{Part}
use Rattle.pg_script.specs.Passes.{parts_of}
use Rattle.pg_script.specs.Passes.Drafts.{SplitFault}
use Rattle.pg_script.proofs.Passes.Inputs.{early_first, split_fault, is_split}
use Rattle.pg_script.proofs.splitting.judged.Goals as goal

pub returns-in-Some : goal.returns-in-Some
returns-in-Some c =
    let bytes : List ℕ = c.args.bytes.now in
    let parts : List Part = parts_of bytes c.args.parts.now in
    subst (SplitFault bytes) (sym c.bad.ensures)
    (take c.args.head bytes, parts, c.requires.read.read, early_first bytes c.split_at.result.0.now c.args.head c.in-Some.place parts c.split_at.ensures.front c.requires.read.within c.requires.read.spread c.in-Some.ensures)

pub returns-in-None : goal.returns-in-None
returns-in-None c =
    let bytes : List ℕ = c.args.bytes.now in
    let parts : List Part = parts_of bytes c.args.parts.now in
    MatchResult-weaker c.make_draft.result c.make_draft.ensures
    (λ d h. is_split bytes (take c.args.head bytes) c.split_at.result.0.now parts d c.split_at.ensures.front c.requires.read.read c.in-None.ensures h)
    (λ fault f. split_fault bytes (take c.args.head bytes) c.split_at.result.0.now parts fault c.split_at.ensures.front c.requires.read.read c.in-None.ensures f)
