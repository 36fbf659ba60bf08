use Rattle.std.proofs.Common.{◌≢◌, rules}
use Rattle.pg_script.proofs.Passes.Atoms.{byte_begins}
use Rattle.pg_script.proofs.statements.first_atom_len.Goals as goal

pub returns-in_default-clause-begins : goal.returns-in_default-clause-begins
returns-in_default-clause-begins c =
    let n : c.args.first ≢ 45 = search rules in
    let d : c.args.first ≢ 34 = search rules in
    let s : c.args.first ≢ 39 = search rules in
    byte_begins c.args.first c.args.rest.now c.requires d s (λ e. absurd (n e))
