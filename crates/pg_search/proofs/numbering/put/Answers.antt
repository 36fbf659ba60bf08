use Rattle.std.proofs.Common.{◌≡◌, ◌+◌, ◌≤◌, ◌++◌, Bool, true, false, if◌then◌else◌, length, slice_get, ap, ◌∙◌, arith}
use Rattle.pg_search.proofs.Numberings.{get_behind}
use Rattle.pg_search.proofs.numbering.put.Goals as goal

at_most_one : (b : Bool) → (if b then 1 else 0) ≤ 1
at_most_one true = omega arith
at_most_one false = omega arith

pub overflow_add-result : goal.overflow_add-result
overflow_add-result g c =
    let few = c.requires.few in
    let count = c.len-count.ensures in
    let rest = c.len-rest.ensures.small in
    let old = c.len-rest.ensures.len in
    let new = c.in_ok-place.ensures.len in
    let one = at_most_one c.in_ok-place.field-0-1 in
    let within = c.in_ok-place.ensures.within in
    omega arith

pub returns-clause-stored : goal.returns-clause-stored
returns-clause-stored g c =
    let s = c.in_ok-place.ensures.stored in
    let count : c.len-count.result ≡ length c.args.few.now.items = omega (arith, c.len-count.ensures) in
    (s.0, ap (λ n. slice_get (c.args.few.now.items ++ c.insert_full.new.self.keys) (n + c.in_ok-place.place)) count ∙ (get_behind c.args.few.now.items c.insert_full.new.self.keys c.in_ok-place.place ∙ s.1), s.2)
