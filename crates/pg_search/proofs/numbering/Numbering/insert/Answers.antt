use Rattle.std.proofs.Common.{ap, sym, ◌∙◌, slice_get}
use Rattle.pg_search.proofs.Numberings.{get_before, any_at, insert_known}
use Rattle.pg_search.proofs.numbering.Numbering.insert.Goals as goal

pub returns-in-Some-clause-keys : goal.returns-in-Some-clause-keys
returns-in-Some-clause-keys g c =
    let f = c.in-Some.ensures.some in
    let few = ap (λ xs. slice_get xs c.in-Some.number) (sym c.as_slice.ensures.value) ∙ f.1 in
    let all = ap (λ xs. slice_get xs c.in-Some.number) (sym c.self.view_is) ∙ get_before c.self.inside.few.items c.self.inside.many.keys c.in-Some.number f.0 few in
    insert_known g.K.PartialEq.eq c.args.self.now c.args.item (any_at (g.K.PartialEq.eq c.args.item) c.args.self.now c.in-Some.number f.0 all f.2)

pub returns-in-Some-clause-stored : goal.returns-in-Some-clause-stored
returns-in-Some-clause-stored g c =
    let f = c.in-Some.ensures.some in
    let few = ap (λ xs. slice_get xs c.in-Some.number) (sym c.as_slice.ensures.value) ∙ f.1 in
    (f.0, ap (λ xs. slice_get xs c.in-Some.number) (sym c.self.view_is) ∙ get_before c.self.inside.few.items c.self.inside.many.keys c.in-Some.number f.0 few, f.2)
