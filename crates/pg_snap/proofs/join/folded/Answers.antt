use Rattle.std.proofs.Common.{◌≡◌, List, ◌∷◌, get_or, sym, ap, ◌∙◌}
use Rattle.pg_run.specs.Runs.{RunOf}
use Rattle.pg_value.specs.Log.{put}
use Rattle.pg_snap.specs.Bases.{BaseOf}
use Rattle.pg_snap.proofs.JoinLaws.{two_first, follow_two, folded_is}
use Rattle.pg_snap.proofs.StepLaws.{if_ok, behind}
use Rattle.pg_snap.proofs.join.folded.Goals as goal

first_of : (runs : List RunOf) (run item : RunOf) → run ≡ item → item ≡ get_or runs 0 item → run ≡ get_or runs 0 run
first_of runs run item e h = e ∙ h ∙ ap (get_or runs 0) (sym e)

abbrev as_base : BaseOf → RunOf → BaseOf
as_base b run = record { shapes = b.shapes; no = run.last; tables = put b.tables run.writes }

pub as_one-requires-clause-follow : goal.as_one-requires-clause-follow
as_one-requires-clause-follow c =
    let runs = c.runs.result.now in
    let oldest = c.get-in-len1-up-runs.result.now in
    let next = c.get-in-len1-up-runs-2.result.now in
    let all = sym c.runs.ensures ∙ two_first runs oldest next c.in-len1-up.len_at_least (first_of runs oldest c.oldest-item.result c.get-in-len1-up-runs.ensures c.oldest-item.is) c.in-len1-up-runs.len_at_least
    (first_of (behind runs) next c.next-item.result c.get-in-len1-up-runs-2.ensures c.next-item.is) in
    follow_two c.args.snapshot.now oldest (next ∷ behind (behind runs)) c.fits.ensures.made all

pub returns-in_ok-run-in-len1-up-runs : goal.returns-in_ok-run-in-len1-up-runs
returns-in_ok-run-in-len1-up-runs c =
    let runs = c.runs.result.now in
    let s = c.args.snapshot.now in
    let oldest = c.get-in-len1-up-runs.result.now in
    let next = c.get-in-len1-up-runs-2.result.now in
    let run = c.in_ok-run-in-len1-up-runs.run' in
    let all = sym c.runs.ensures ∙ two_first runs oldest next c.in-len1-up.len_at_least (first_of runs oldest c.oldest-item.result c.get-in-len1-up-runs.ensures c.oldest-item.is) c.in-len1-up-runs.len_at_least
    (first_of (behind runs) next c.next-item.result c.get-in-len1-up-runs-2.ensures c.next-item.is) in
    if_ok c.merged-in-len1-up-runs.result _ _
    (λ base e. folded_is s oldest run (next ∷ behind (behind runs)) base c.fits.ensures.made c.requires all c.in_ok-run-in-len1-up-runs.ensures
    (e ∙ ap (λ (b : BaseOf). as_base b run) c.base-base.ensures))
    c.merged-in-len1-up-runs.ensures
