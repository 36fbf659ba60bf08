-- The edges at an end, as they stand in order of ends, are the table's at that end in key order.
use Rattle.std.proofs.Common.{◌≡◌, List, [], ◌∷◌, Bool, true, false, cond, refl, ap, sym, subst, ◌∙◌}
use Rattle.std.specs.declared.cmp.Ordering.{Ordering}
use Rattle.std.specs.declared.cmp.Ordering.TheVariants.{Less, Equal}
use Rattle.std.specs.Ordering.{is_eq, ordering_then}
use Rattle.pg_keyed.specs.Keyed.{Above, Ascends}
use Rattle.pg_keyed.specs.Orders.{Exact, same, is_equal}
use Rattle.pg_keyed.specs.Lists.{Each, Among, among_filter, from_filter}
use Rattle.pg_keyed.specs.Reads.{filter_ascends, same_members}
use Rattle.pg_keyed.specs.Adjacency.{at_end, Grouped}

module _ {X V K : Type 0} (place : X → V) (key : X → K) (vcmp : V → V → Ordering) (cmp : K → K → Ordering) (p : Exact vcmp) (o : Exact cmp) where
  one_end : (v : V) (x : X) (xs : List X) → is_eq (vcmp v (place x)) ≡ true → Each (λ y. ordering_then (vcmp (place x) (place y)) (cmp (key x) (key y)) ≡ Less) xs → Above key cmp (key x) (at_end place key vcmp cmp v xs)
  one_end v x [] e h = tt
  one_end v x (y ∷ ys) e h = go (is_eq (vcmp v (place y))) refl (one_end v x ys e h.1)
    where
      go : (b : Bool) → is_eq (vcmp v (place y)) ≡ b → Above key cmp (key x) (at_end place key vcmp cmp v ys) → Above key cmp (key x) (cond b (y ∷ at_end place key vcmp cmp v ys) (at_end place key vcmp cmp v ys))
      go true f r =
          let a = p.exact v (place x) (is_equal _ e) in
          let b = p.exact v (place y) (is_equal _ f) in
          let c : vcmp (place x) (place y) ≡ Equal = subst (λ w. vcmp w (place y) ≡ Equal) (sym b ∙ a) (same p (place y)) in
          (sym (ap (λ w. ordering_then w (cmp (key x) (key y))) c) ∙ h.0, r)
      go false f r = r

  grouped_ascends : (v : V) (xs : List X) → Grouped place key vcmp cmp xs → Ascends key cmp (at_end place key vcmp cmp v xs)
  grouped_ascends v [] h = tt
  grouped_ascends v (x ∷ xs) h = go (is_eq (vcmp v (place x))) refl (grouped_ascends v xs h.1)
    where
      go : (b : Bool) → is_eq (vcmp v (place x)) ≡ b → Ascends key cmp (at_end place key vcmp cmp v xs) → Ascends key cmp (cond b (x ∷ at_end place key vcmp cmp v xs) (at_end place key vcmp cmp v xs))
      go true e r = (one_end v x xs e h.0, r)
      go false e r = r

  -- the entries at an end, as they stand in the array, are the table's edges at that end in key order
  pub at_end_is : (rows grouped : List X) (v : V) → Ascends key cmp rows → Grouped place key vcmp cmp grouped → ((x : X) → Among x rows → Among x grouped) → ((x : X) → Among x grouped → Among x rows) → at_end place key vcmp cmp v grouped ≡ at_end place key vcmp cmp v rows
  at_end_is rows grouped v a g f h =
      let t = λ (x : X). is_eq (vcmp v (place x)) in
      same_members key cmp o (at_end place key vcmp cmp v grouped) (at_end place key vcmp cmp v rows) (grouped_ascends v grouped g) (filter_ascends key cmp o t rows a)
      (λ x m. let r = from_filter t x grouped m in among_filter t x rows r.1 (h x r.0))
      (λ x m. let r = from_filter t x rows m in among_filter t x grouped r.1 (f x r.0))
