use Rattle.std.proofs.Common.{◌≡◌, List, subst, sym}
use Rattle.std.specs.Prelude.{IfOk, OnOk, OnErr, Some, slice_get}
use Rattle.std.specs.declared.result.Result.{Result}
use Rattle.std.specs.declared.result.Result.TheVariants.{Ok, Err}
use Rattle.std.specs.declared.alloc.AllocError.{AllocError}
use Rattle.std.proofs.Common.{ℕ}
use Rattle.pg_value.specs.declared.shape.ElemId.{ElemId}
use Rattle.pg_search.specs.Numbers.{Numbers, AreNumbers}
use Rattle.pg_search.specs.Puts.{IsPut}
use Rattle.pg_search.specs.Steps.{IsNumbered}
use Rattle.pg_search.proofs.Numbers.{put_elem, numbered, with_elems}
use Rattle.pg_search.proofs.numbered.Numbered.add.Goals as goal

stays : (n : Numbers) → AreNumbers n → (elem : ElemId) (more : List ElemId) (r : Result ℕ AllocError) → OnOk r (IsPut n.elems elem more) → OnErr r (more ≡ n.elems) → AreNumbers (with_elems n more)
stays n are elem more (Ok k) p e = put_elem n are elem more p
stays n are elem more (Err x) p e = subst (λ xs. AreNumbers (with_elems n xs)) (sym e) are

added : (n : Numbers) → AreNumbers n → (elem : ElemId) (more : List ElemId) (r : Result ℕ AllocError) → OnOk r (IsPut n.elems elem more) → IfOk r (λ k. slice_get more k ≡ Some elem) → IfOk r (λ k. IsNumbered n elem k (with_elems n more))
added n are elem more (Ok k) p h = numbered n are elem more k p h
added n are elem more (Err x) p h = h

pub invariant_of-self : goal.invariant_of-self
invariant_of-self c =
    let n : Numbers = record { start = c.self.inside.start.now; elems = c.self.inside.elems; walks = c.self.inside.walks; names = c.self.inside.names } in
    stays n c.self.invariant c.args.elem c.insert_elem.new.elems c.insert_elem.result c.insert_elem.ensures.put c.insert_elem.ensures.err

pub returns-clause-added : goal.returns-clause-added
returns-clause-added c =
    let n : Numbers = record { start = c.self.inside.start.now; elems = c.self.inside.elems; walks = c.self.inside.walks; names = c.self.inside.names } in
    subst (λ (m : Numbers). IfOk c.insert_elem.result (λ k. IsNumbered m c.args.elem k (with_elems n c.insert_elem.new.elems))) c.self.view_is
    (added n c.self.invariant c.args.elem c.insert_elem.new.elems c.insert_elem.result c.insert_elem.ensures.put c.insert_elem.ensures.place)
