-- An aggregate over some values and one more.
use Rattle.std.proofs.Common.{◌≡◌, ℕ, pos, ◌+ℤ◌, ◌+◌, ◌<◌, suc, Bool, true, false, cond, not, List, [], ◌∷◌, ◌++◌, length, take, get_or, refl, ap, ap₂, sym, ◌∙◌, arith}
use Rattle.std.proofs.lemmas.List.{map_more}
use Rattle.std.proofs.lemmas.Int.{ints}
use Rattle.std.specs.Prelude.{Some}
use Rattle.std.specs.Cmp.{IsStrictWeakOrder}
use Rattle.std.specs.Ordering.{is_lt}
use Rattle.std.proofs.lemmas.List.MinMax.{ranks_by, IsStrictWeakOrder-flip}
use Rattle.pg_keyed.specs.Lists.{Each, each_map, each_kept}
use Rattle.pg_value.specs.declared.value.Value.{Value}
use Rattle.pg_value.specs.declared.value.Value.TheVariants.{Int}
use Rattle.pg_value.specs.declared.shape.ElemId.{ElemId}
use Rattle.pg_value.specs.Compare.{is_null}
use Rattle.pg_value.specs.Order.{value_cmp, number}
use Rattle.pg_value.specs.Orders.{value_total}
use Rattle.pg_ast.specs.declared.expr.Agg.{Agg}
use Rattle.pg_ast.specs.declared.expr.Agg.TheVariants.{Count, Sum, Min, Max}
use Rattle.pg_meaning.specs.CExprs.{CTree}
use Rattle.pg_meaning.specs.Meaning.{Scope, OfRow, OfVars, present, total, lesser, greater, all_by, aggregate, elems_of, with_elem, value_of}
use Rattle.pg_expr.specs.declared.references.Chosen.{Chosen}
use Rattle.pg_expr.specs.Aggregates.{joined, added}
use Rattle.pg_expr.specs.References.{MayChoose, values_at}

-- none of them NULL
abbrev AreThere : List Value → Type 0
AreThere vs = Each (λ v. is_null v ≡ false) vs

not_true : (b : Bool) → not b ≡ true → b ≡ false
not_true true h = cc
not_true false h = refl

-- THE LESSER OF TWO

-- by an order, the second where it is before the first
abbrev pick : (Value → Value → Bool) → Value → Value → Value
pick before u v = cond (before v u) v u

module _ (before : Value → Value → Bool) (o : IsStrictWeakOrder before) where
  true_false : true ≡ false → ⊥
  true_false h = cc

  -- before one that is before another
  through : (a b c : Value) → before b a ≡ true → before c b ≡ true → before c a ≡ true
  through a b c p q = go (before c a) refl
    where
      go : (r : Bool) → before c a ≡ r → before c a ≡ true
      go true h = h
      go false h = absurd (true_false (sym q ∙ o.chain c a b h (o.one_way b a p)))

  pick_assoc : (a b c : Value) → pick before (pick before a b) c ≡ pick before a (pick before b c)
  pick_assoc a b c = go (before b a) refl (before c b) refl
    where
      go : (p : Bool) → before b a ≡ p → (q : Bool) → before c b ≡ q → pick before (cond p b a) c ≡ pick before a (cond q c b)
      go true p true q = ap (λ r. cond r c b) q ∙ sym (ap (λ r. cond r c a) (through a b c p q))
      go true p false q = ap (λ r. cond r c b) q ∙ sym (ap (λ r. cond r b a) p)
      go false p true q = refl
      go false p false q = ap (λ r. cond r c a) (o.chain c b a q p) ∙ sym (ap (λ r. cond r b a) p)

  pick_more : (v : Value) (vs : List Value) (w : Value) → all_by (pick before) v (vs ++ w ∷ []) ≡ pick before (all_by (pick before) v vs) w
  pick_more v [] w = refl
  pick_more v (u ∷ us) w = ap (pick before v) (pick_more u us w) ∙ sym (pick_assoc v (all_by (pick before) u us) w)

  pick_one : (u v : Value) → is_null u ≡ false → is_null v ≡ false → is_null (pick before u v) ≡ false
  pick_one u v a b = go (before v u)
    where
      go : (p : Bool) → is_null (cond p v u) ≡ false
      go true = b
      go false = a

by_order : IsStrictWeakOrder (λ u v. is_lt (value_cmp u v))
by_order = ranks_by value_total (λ v. v)

backwards : IsStrictWeakOrder (λ u v. is_lt (value_cmp v u))
backwards = IsStrictWeakOrder-flip (λ u v. is_lt (value_cmp u v)) by_order

-- COUNTS AND SUMS

length_more : (vs : List Value) (v : Value) → length (vs ++ v ∷ []) ≡ length vs + 1
length_more [] v = refl
length_more (u ∷ vs) v = ap suc (length_more vs v) ∙ omega arith

count_more : (vs : List Value) (v : Value) → pos (length (vs ++ v ∷ [])) ≡ pos (length vs) +ℤ pos 1
count_more vs v = ap pos (length_more vs v)

total_more : (vs : List Value) (v : Value) → total (vs ++ v ∷ []) ≡ total vs +ℤ number v
total_more [] v = omega (arith, ints)
total_more (u ∷ vs) v = let r = total_more vs v in omega (arith, ints, r)

-- ONE VALUE MORE

-- some values that are not NULL make none but a number, or one of them
all_one : (f : Value → Value → Value) → ((u v : Value) → is_null u ≡ false → is_null v ≡ false → is_null (f u v) ≡ false) → (v : Value) (vs : List Value) → is_null v ≡ false
    → AreThere vs → is_null (all_by f v vs) ≡ false
all_one f one v [] h k = h
all_one f one v (u ∷ us) h k = one v (all_by f u us) h (all_one f one u us k.0 k.1)

joined_more : (agg : Agg) (vs : List Value) (v : Value) → AreThere vs → aggregate agg (vs ++ v ∷ []) ≡ joined agg (aggregate agg vs) v
joined_more Count vs v h = ap Int (count_more vs v)
joined_more Sum [] v h = ap Int (omega (arith, ints))
joined_more Sum (u ∷ us) v h = ap Int (total_more (u ∷ us) v)
joined_more Min [] v h = refl
joined_more Min (u ∷ us) v h =
    pick_more (λ a b. is_lt (value_cmp a b)) by_order u us v
    ∙ sym (ap (λ b. cond b v (lesser (all_by lesser u us) v)) (all_one lesser (pick_one (λ a b. is_lt (value_cmp a b)) by_order) u us h.0 h.1))
joined_more Max [] v h = refl
joined_more Max (u ∷ us) v h =
    pick_more (λ a b. is_lt (value_cmp b a)) backwards u us v
    ∙ sym (ap (λ b. cond b v (greater (all_by greater u us) v)) (all_one greater (pick_one (λ a b. is_lt (value_cmp b a)) backwards) u us h.0 h.1))

present_there : (vs : List Value) → AreThere (present vs)
present_there vs = each_map (λ v. not (is_null v) ≡ true) (λ v. is_null v ≡ false) (λ v h. not_true (is_null v) h) (present vs) (each_kept (λ v. not (is_null v)) vs)

present_more : (vs : List Value) (v : Value) → present (vs ++ v ∷ []) ≡ cond (is_null v) (present vs) (present vs ++ v ∷ [])
present_more [] v = go (is_null v)
  where
    go : (b : Bool) → cond (not b) (v ∷ []) [] ≡ cond b [] (v ∷ [])
    go true = refl
    go false = refl
present_more (u ∷ vs) v = go (is_null u) (is_null v) (present_more vs v)
  where
    go : (a b : Bool) → present (vs ++ v ∷ []) ≡ cond b (present vs) (present vs ++ v ∷ [])
        → cond (not a) (u ∷ present (vs ++ v ∷ [])) (present (vs ++ v ∷ [])) ≡ cond b (cond (not a) (u ∷ present vs) (present vs)) (cond (not a) (u ∷ present vs) (present vs) ++ v ∷ [])
    go true true e = e
    go true false e = e
    go false true e = ap (λ ws. u ∷ ws) e
    go false false e = ap (λ ws. u ∷ ws) e

pub added_more : (agg : Agg) (vs : List Value) (v : Value) → aggregate agg (present (vs ++ v ∷ [])) ≡ added agg (aggregate agg (present vs)) v
added_more agg vs v = ap (aggregate agg) (present_more vs v) ∙ go (is_null v)
  where
    go : (b : Bool) → aggregate agg (cond b (present vs) (present vs ++ v ∷ [])) ≡ cond b (aggregate agg (present vs)) (joined agg (aggregate agg (present vs)) v)
    go true = refl
    go false = joined_more agg (present vs) v (present_there vs)

-- over the elements up to a place, and the one there
pub turn : (agg : Agg) (x : CTree) (scope : Scope) (v : ℕ) (es : List ElemId) (i : ℕ) (e : ElemId) (u w : Value) → es ≡ elems_of scope v → i < length es → e ≡ get_or es i e
    → u ≡ aggregate agg (present (values_at x scope v (take i (elems_of scope v)))) → w ≡ value_of x (with_elem scope v e)
    → aggregate agg (present (values_at x scope v (take (i + 1) (elems_of scope v)))) ≡ added agg u w
turn agg x scope v es i e u w all h is before own =
    ap (λ es. aggregate agg (present (values_at x scope v (take (i + 1) es)))) (sym all)
    ∙ ap (λ vs. aggregate agg (present vs)) (map_more (λ e. value_of x (with_elem scope v e)) es i e h ∙ ap (λ d. values_at x scope v (take i es) ++ value_of x (with_elem scope v d) ∷ []) (sym is))
    ∙ added_more agg (values_at x scope v (take i es)) (value_of x (with_elem scope v e))
    ∙ ap₂ (added agg) (ap (λ es. aggregate agg (present (values_at x scope v (take i es)))) all ∙ sym before) (sym own)

-- more than one element is there only where variables stand for elements
pub may_choose : (scope : Scope) (v : ℕ) (es : List ElemId) (i : ℕ) (c : Chosen) → es ≡ elems_of scope v → i < length es → MayChoose (Some c) scope
may_choose (OfVars tables f) v es i c all h = tt
may_choose (OfRow row) v es i c all h = let e : length es ≡ 0 = ap length all in absurd (omega (arith, h, e))
