-- Where a search for least lengths stands: what of a state decides which states follow it, and how much longer they are. Of what a walk has
-- named it keeps what a stage that is still to come names too.
use Rattle.std.specs.Prelude.{ℕ, Bool, not, ◌&&◌, List, drop, filter}
use Rattle.std.specs.List.{list_any}
use Rattle.pg_value.specs.declared.shape.ElemId.{ElemId}
use Rattle.pg_meaning.specs.Fits.{Mention}
use Rattle.pg_auto.specs.Stages.{Stage, mentions}
use Rattle.pg_auto.specs.States.{State}

-- a stage that stands once names the variable
abbrev pub names : ℕ → Stage → Bool
names x stage = not stage.grouped && mentions x stage.round

-- a stage from this number on does
abbrev pub is_needed : List Stage → ℕ → ℕ → Bool
is_needed stages k x = list_any (names x) (drop k stages)

abbrev pub needed : List Stage → ℕ → List Mention → List Mention
needed stages k seen = filter (λ m. is_needed stages k m.var) seen

pub record Spot : Type 0 where
  pub stage : ℕ
  pub done : ℕ
  pub at : ElemId
  pub names : List Mention

abbrev pub spot_of : List Stage → State → Spot
spot_of stages s = record { stage = s.stage; done = s.done; at = s.at; names = needed stages s.stage s.singles }
