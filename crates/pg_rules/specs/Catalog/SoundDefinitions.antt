-- What every catalog is, and what accepted definitions keep: a catalog of nothing is sound, and a sound one stays so.
use Rattle.std.specs.Prelude.{◌≡◌}
use Rattle.std.specs.declared.option.Option.TheVariants.{None}
use Rattle.pg_ast.specs.declared.define.Define.{Define}
use Rattle.pg_rules.specs.Catalog.{Defined, IsSmall}
use Rattle.pg_rules.specs.Catalog.LookUps.{nothing}
use Rattle.pg_rules.specs.Catalog.Sound.{IsSound}
use Rattle.pg_rules.specs.Definitions.{define_fault, with_definition}

-- what is defined by definitions that were accepted
pub record IsCatalog (d : Defined) : Type 0 where
  pub small : IsSmall d
  pub sound : IsSound d

-- THE LAW

abbrev pub NothingIsSound : Type 0
NothingIsSound = IsSound nothing

-- where a definition has no fault, it leaves a sound catalog sound
abbrev pub DefinitionsKeepSound : Type 0
DefinitionsKeepSound = (d : Defined) (definition : Define) → IsSound d → define_fault d definition ≡ None → IsSound (with_definition d definition)
