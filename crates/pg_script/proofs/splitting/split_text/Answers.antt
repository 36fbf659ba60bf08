use Rattle.pg_script.proofs.Passes.Inputs.{no_script, is_text}
use Rattle.pg_script.proofs.splitting.split_text.Goals as goal

pub returns-in-Err : goal.returns-in-Err
returns-in-Err c = no_script c.args.bytes.now c.in-Err.fault (is_text c.args.bytes.now c.args.text.now c.requires.same c.requires.short c.utf8.text) c.in-Err.ensures
