use Rattle.std.proofs.Common.{◌≡◌, drop}
use Rattle.std.specs.List.{list_any}
use Rattle.pgq.specs.Asking.{part_leads_back}
use Rattle.pgq.proofs.asking.paths_lead_back.Given as goal

abbrev pub invariant-loop-path : goal.invariant-loop-path
invariant-loop-path l = list_any (λ p. list_any part_leads_back p.parts) l.paths ≡ list_any (λ p. list_any part_leads_back p.parts) (drop l.path-index l.paths)
