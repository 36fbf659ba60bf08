use Rattle.std.proofs.Common.{◌≡◌, ◌==◌, drop}
use Rattle.std.specs.Prelude.{find}
use Rattle.pg_write.proofs.proposed.set_for.Given as goal

-- none is found before
abbrev pub invariant-loop-set : goal.invariant-loop-set
invariant-loop-set l = find (λ s. s.column == l.column) l.sets ≡ find (λ s. s.column == l.column) (drop l.set-index l.sets)
