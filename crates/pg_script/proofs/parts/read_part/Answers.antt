use Rattle.pg_script.proofs.Passes.Parts.{part_is}
use Rattle.pg_script.proofs.parts.read_part.Goals as goal

pub returns : goal.returns
returns c =
    part_is c.args.bytes.now c.split_at.result.1.now c.split_at-2.result.0.now c.args.at c.block-block.result c.header-form.result c.in_ok-content.content c.requires.within c.split_at.ensures.back c.split_at-2.ensures.front
    c.block-block.ensures c.header-form.ensures.is c.header-form.ensures.fits c.in_ok-content.ensures
