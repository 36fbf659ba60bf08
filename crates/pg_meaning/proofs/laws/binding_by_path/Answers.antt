use Rattle.pg_meaning.proofs.BindingLaws.{binding_exact}
use Rattle.pg_meaning.proofs.laws.binding_by_path.Goals as goal

pub returns : goal.returns
returns c = binding_exact
