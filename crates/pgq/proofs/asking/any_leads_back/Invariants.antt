use Rattle.std.proofs.Common.{◌≡◌, drop}
use Rattle.std.specs.List.{list_any}
use Rattle.pgq.specs.Asking.{leads_back}
use Rattle.pgq.proofs.asking.any_leads_back.Given as goal

abbrev pub invariant-loop-arrow : goal.invariant-loop-arrow
invariant-loop-arrow l = list_any leads_back l.arrows ≡ list_any leads_back (drop l.arrow-index l.arrows)
