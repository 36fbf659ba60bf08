use Rattle.pg_search.proofs.Judged.{stages_judged}
use Rattle.pg_search.proofs.laws.sound_are_checked.Goals as goal

pub returns : goal.returns
returns c = λ shapes path sound. stages_judged shapes path.graph path.parts sound.parts
