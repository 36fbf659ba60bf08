use Rattle.std.proofs.Common.{◌≡◌, ◌++◌, [], List, map, ap, sym, ◌∙◌}
use Rattle.std.specs.Prelude.{filter}
use Rattle.std.specs.List.{list_any}
use Rattle.pg_meaning.specs.Fits.{Mention}
use Rattle.pg_expr.specs.Mentions.{mention_view}
use Rattle.pg_auto.specs.Stages.{Stage}
use Rattle.pg_auto.specs.Autos.{stage_view}
use Rattle.pg_short.specs.Spots.{names}
use Rattle.pg_short.specs.Steps.{named_view}
use Rattle.pg_short.proofs.Lists.{drop_map, filter_both}
use Rattle.pg_short.proofs.steps.names_after.Goals as goal

joined : (old one two now A B : List Mention) (ss : List Stage) → old ≡ [] → one ≡ old ++ filter (λ m. list_any (names m.var) ss) A → now ≡ one ++ filter (λ m. list_any (names m.var) ss) B
    → (ts : List Stage) → ss ≡ ts → now ≡ filter (λ m. list_any (names m.var) ts) (A ++ B)
joined old one two now A B ss e f h ts k =
    h ∙ ap (λ ms. ms ++ filter (λ m. list_any (names m.var) ss) B) (f ∙ ap (λ ms. ms ++ filter (λ m. list_any (names m.var) ss) A) e)
    ∙ sym (filter_both (λ (m : Mention). list_any (names m.var) ss) A B) ∙ ap (λ (us : List Stage). filter (λ (m : Mention). list_any (names m.var) us) (A ++ B)) k

pub returns : goal.returns
returns c = joined _ _ [] _ (map named_view c.args.names.now) (map mention_view c.args.seen.now) _ (ap (map named_view) c.new-after.ensures.items) c.in_ok-push_names.ensures c.in_ok-push_mentions.ensures
    _ (ap (map stage_view) c.stages_from-later.ensures ∙ drop_map stage_view c.args.from c.args.stages.now)
