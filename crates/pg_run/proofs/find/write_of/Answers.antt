use Rattle.std.proofs.Common.{ℕ, ◌≡◌, ◌≤◌, ◌-◌, sym, ap, subst, ◌∙◌, arith, length}
use Rattle.pg_keyed.specs.Keyed.{Ascends, get}
use Rattle.pg_value.specs.Order.{key_cmp}
use Rattle.pg_value.specs.TablesLaws.{key_named}
use Rattle.pg_chunks.specs.Digits.{digits_more}
use Rattle.std.proofs.lemmas.List.{length-drop}
use Rattle.pg_run.proofs.CutLaws.{first_less, first_equal, first_greater, behind_first, rest_ascends}
use Rattle.pg_run.proofs.find.write_of.Goals as goal

few : (m d n : ℕ) → m ≡ d → d ≡ n - 1 → m ≤ n
few m d n a b = omega arith

pub returns-in-Less-clause-value : goal.returns-in-Less-clause-value
returns-in-Less-clause-value g c = first_less c.args.key.now.values c.args.writes.now c.first-item.result c.in-len1-up.len_at_least c.first-item.is c.requires (sym c.in-Less.ensures)

pub halved-requires : goal.halved-requires
halved-requires g c = subst (Ascends key_named key_cmp) (sym (behind_first c.args.writes.now c.in-len1-up.len_at_least)) (rest_ascends c.args.writes.now c.requires)

pub returns-in-Equal-clause-value : goal.returns-in-Equal-clause-value
returns-in-Equal-clause-value g c = first_equal c.args.key.now.values c.args.writes.now c.first-item.result c.in-len1-up.len_at_least c.first-item.is (sym c.in-Equal.ensures)

pub returns-in-Greater-clause-value : goal.returns-in-Greater-clause-value
returns-in-Greater-clause-value g c =
    c.halved.ensures.value ∙ ap (get key_named key_cmp c.args.key.now.values) (behind_first c.args.writes.now c.in-len1-up.len_at_least)
    ∙ first_greater c.args.key.now.values c.args.writes.now c.first-item.result c.in-len1-up.len_at_least c.first-item.is (sym c.in-Greater.ensures)

pub returns-in-Greater-clause-cost : goal.returns-in-Greater-clause-cost
returns-in-Greater-clause-cost g c =
    let t = c.tick.ensures in
    let h = c.halved.ensures.cost in
    let e = ap length (behind_first c.args.writes.now c.in-len1-up.len_at_least) in
    let l = length-drop 1 c.args.writes.now in
    let d = digits_more _ (length c.args.writes.now) (few _ _ _ e l) in
    omega (arith, t, h, d)
