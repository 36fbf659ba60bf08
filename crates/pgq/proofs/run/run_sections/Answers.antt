use Rattle.pgq.proofs.Runs.Sections.{section_more, counted_more}
use Rattle.pgq.proofs.run.run_sections.Goals as goal

pub sections-preserved : goal.sections-preserved
sections-preserved c = (
  c.in-Ok.ensures.ready,
  section_more c.args.script.now c.args.engine.now c.sections.engine c.run_section.new.engine c.sections.outs c.push.new.self c.in-Ok.out c.as_slice-section-items.result.now c.section-item.result c.sections.i
      c.sections.invariant.1 c.sections.invariant.2 c.as_slice-section-items.ensures c.sections-test.true c.section-item.is c.in-Ok.ensures.run c.in-Ok-push.ensures.ok,
  counted_more c.sections.outs c.push.new.self c.sections.i c.in-Ok.out c.sections.invariant.2 c.in-Ok-push.ensures.ok,
)
