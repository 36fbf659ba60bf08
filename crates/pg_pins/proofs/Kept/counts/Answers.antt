use Rattle.std.proofs.Common.{arith, ◌≡◌, ap, ◌∙◌, length, subst}
use Rattle.std.specs.Prelude.{is_some}
use Rattle.std.specs.List.{count_by}
use Rattle.pg_pins.specs.Held.{listed_numbers}
use Rattle.pg_pins.proofs.Rooms.{few_counted}
use Rattle.pg_pins.proofs.Numbers.{as_listed}
use Rattle.pg_pins.proofs.Kept.counts.Goals as goal

pub returns-clause-bound : goal.returns-clause-bound
returns-clause-bound g c = let f = few_counted _ _ _ _ _ c.self.invariant in let p = c.count_pins-pins.ensures ∙ ap (count_by is_some) c.as_slice.ensures.value in let k = c.len-kept.ensures in let o = c.one_if.ensures.small in omega (arith, f, p, k, o)

pub returns-clause-listed : goal.returns-clause-listed
returns-clause-listed g c = subst (λ h. length h.bases ≡ length (listed_numbers h)) c.self.view_is (as_listed _ c.self.invariant.0)
