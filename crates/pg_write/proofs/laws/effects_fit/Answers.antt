use Rattle.pg_write.proofs.FittingLaws as laws
use Rattle.pg_write.proofs.laws.effects_fit.Goals as goal

pub returns : goal.returns
returns c = laws.effects_fit
