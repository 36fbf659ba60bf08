use Rattle.std.proofs.Common.{◌≡◌, ◌∙◌, ap, sym, subst, List, map, ◌++◌, true}
use Rattle.pg_check.specs.declared.mentions.PlacedSpot.{PlacedSpot}
use Rattle.std.specs.Prelude.{filter_map, OnOk}
use Rattle.pg_ast.specs.declared.expr.Name.{Name}
use Rattle.pg_ast.specs.declared.pattern.Part.{Part}
use Rattle.pg_meaning.specs.Mentions.{Mention, mention_at}
use Rattle.pg_meaning.specs.Outlines.{Spot, spots_from}
use Rattle.pg_rules.specs.Queries.Collections.{outline_of}
use Rattle.pg_check.specs.Gathered.{spot_view, mention_view, marked}
use Rattle.pg_check.proofs.MentionLaws.{ends_marked}
use Rattle.pg_check.proofs.mentions.push_path.Goals as goal

pub returns : goal.returns
returns c = let at = mention_at c.args.number in
    let os = spots_from 0 (map outline_of c.args.path.now.parts) in
    subst (λ (ms : List (Mention Name)). OnOk c.push_mentions.result (map mention_view c.push_mentions.new.out.items ≡ map mention_view c.args.out.now.items ++ ms))
    (ap (λ (ss : List PlacedSpot). filter_map at (marked true (map spot_view ss))) c.deref.ensures.value
    ∙ ap (λ (ss : List (Spot Name)). filter_map at (marked true ss)) (c.in_ok-spots.ensures ∙ ap (λ (ps : List Part). spots_from 0 (map outline_of ps)) c.as_slice.ensures)
    ∙ sym (ap (filter_map at) (ends_marked os)))
    c.push_mentions.ensures
