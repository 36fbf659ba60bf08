-- How a statement that is refused before it reads the tables is answered.
use Rattle.std.specs.Prelude.{ℕ, ◌≡◌}
use Rattle.std.specs.declared.option.Option.{Option}
use Rattle.std.specs.declared.option.Option.TheVariants.{Some}
use Rattle.pg_script.specs.declared.outcome.FaultKind.{FaultKind}
use Rattle.pg_script.specs.declared.outcome.Outcome.{Outcome}
use Rattle.pg_script.specs.declared.outcome.Outcome.TheVariants.{AtByte}

-- a fault of this kind at this place is answered so
abbrev pub IsTold : Option (FaultKind × ℕ) → Outcome → Type 0
IsTold refusal o = (kind : FaultKind) × (at : ℕ) × (refusal ≡ Some (kind, at)) × (o ≡ AtByte kind at)
