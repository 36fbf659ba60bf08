use Rattle.std.proofs.Common.{◌≡◌, drop}
use Rattle.std.specs.List.{list_any}
use Rattle.pgq.specs.Asking.{part_leads_back}
use Rattle.pgq.proofs.asking.parts_lead_back.Given as goal

abbrev pub invariant-loop-part : goal.invariant-loop-part
invariant-loop-part l = list_any part_leads_back l.parts ≡ list_any part_leads_back (drop l.part-index l.parts)
