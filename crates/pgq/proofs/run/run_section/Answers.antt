use Rattle.std.proofs.Common.{ap, subst, ◌∙◌, length}
use Rattle.pgq.specs.Sections.{HasAnswered}
use Rattle.pgq.proofs.Runs.Sections.{section_is}
use Rattle.pgq.proofs.run.run_section.Goals as goal

pub returns-clause-run : goal.returns-clause-run
returns-clause-run c = section_is c.args.script.now c.args.number c.args.section.now c.args.engine.now c.answer_items.new.engine c.in_ok-name.name c.in_ok-outcomes.outcomes c.requires.stands
    (subst (λ items. HasAnswered c.args.script.now c.args.number items c.args.engine.now c.in_ok-outcomes.outcomes c.answer_items.new.engine) c.as_slice.ensures c.in_ok-outcomes.ensures.answered)
    (c.in_ok-outcomes.ensures.all ∙ ap length c.as_slice.ensures) c.in_ok-name.ensures
