use Rattle.std.proofs.Common.{◌≡◌, ◌∙◌, List, [], map, ap, subst, IfOk}
use Rattle.pg_rules.specs.declared.entry.LabelEntry.{LabelEntry}
use Rattle.pg_catalog.specs.NameSets.{add_all}
use Rattle.pg_catalog.proofs.Agreement.{lacks_is}
use Rattle.pg_catalog.proofs.graph.label_agreement.lacks.Goals as goal

pub returns : goal.returns
returns c = subst (λ a. IfOk c.lacks_under.result (λ b. b ≡ a))
    (lacks_is c.args.e.now c.args.f.now c.add_label_names.new.self
    (c.in_ok-add_label_names.ensures ∙ ap (λ s. add_all s (map (λ (l : LabelEntry). l.name) c.as_slice.result.now)) c.new-labels.ensures ∙ ap (λ (ls : List LabelEntry). add_all [] (map (λ l. l.name) ls)) c.as_slice.ensures))
    c.lacks_under.ensures
