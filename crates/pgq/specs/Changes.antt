-- What an INSERT, UPDATE or DELETE outside a transaction is over the tables after the whole log.
use Rattle.std.specs.Prelude.{◌≡◌, ℕ, [], length, None}
use Rattle.pg_value.specs.Writes.{Limited}
use Rattle.pg_value.specs.Log.{after}
use Rattle.pg_meaning.specs.declared.checked.CheckedChange.{CheckedChange}
use Rattle.pg_rules.specs.Catalog.{Defined}
use Rattle.pg_rules.specs.Changes.{Change, change_fault, resolved_change}
use Rattle.pg_write.specs.ChangeEffects.{Does, Refuses}
use Rattle.pg_write.specs.declared.refused.EffectRefused.{EffectRefused}
use Rattle.pgq.specs.declared.engine.Engine.{Engine}
use Rattle.pg_language.specs.Language.{most_transaction_writes}

-- what a statement outside a transaction has written before it
abbrev pub nothing_written : Limited
nothing_written = record { list = []; limit = most_transaction_writes }

-- the checked change is that of a change that is not refused before it reads the tables
pub record IsAccepted (d : Defined) (c : Change) (checked : CheckedChange) : Type 0 where
  pub right : change_fault d.0 c ≡ None
  pub is : checked ≡ resolved_change d.0 c

-- no row of it has a fault: its writes, and how many rows it changes
abbrev pub IsMade : Engine → CheckedChange → Limited → ℕ → Type 0
IsMade e change writes rows = Does e.shapes (after e.log (length e.log)) nothing_written change writes rows

-- its first faulty row
abbrev pub IsRefused : Engine → CheckedChange → EffectRefused → Type 0
IsRefused e change refused = Refuses e.shapes (after e.log (length e.log)) nothing_written change refused
