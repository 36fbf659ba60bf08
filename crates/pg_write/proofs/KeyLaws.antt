-- The key that a condition asks for is that of every row of which the condition is true, so the row of that key is the only one that is taken.
use Rattle.std.proofs.Common.{ℕ, ◌≡◌, Bool, true, false, cond, refl, ap, sym, ◌∙◌, List, [], ◌∷◌, filter, inl, inr}
use Rattle.std.specs.Prelude.{◌||◌, slice_index_or, option_to_list}
use Rattle.std.specs.Ordering.{is_eq}
use Rattle.std.specs.declared.option.Option.{Option}
use Rattle.std.specs.declared.option.Option.TheVariants.{Some, None}
use Rattle.std.proofs.lemmas.Bool.{eqb-true}
use Rattle.std.proofs.lemmas.Option.{none-some, same_Some}
use Rattle.pg_keyed.specs.Lists.{Each}
use Rattle.pg_keyed.specs.Keyed.{Ascends}
use Rattle.pg_keyed.specs.Orders.{is_equal, same}
use Rattle.pg_keyed.specs.Reads.{here_or, get_here, get_there}
use Rattle.pg_keyed.specs.Ranks.{above_none}
use Rattle.pg_value.specs.declared.value.Value.{Value}
use Rattle.pg_value.specs.declared.value.Value.TheVariants.{Null}
use Rattle.pg_value.specs.declared.value.Truth.{Truth}
use Rattle.pg_value.specs.declared.value.Truth.TheVariants.{True, False, Unknown}
use Rattle.pg_value.specs.declared.value.Cmp.TheVariants as cmps
use Rattle.pg_value.specs.declared.row.Row.{Row}
use Rattle.pg_value.specs.declared.shape.TableNo.{TableNo}
use Rattle.pg_value.specs.declared.shape.TableShape.{TableShape}
use Rattle.pg_value.specs.Compare.{is_null, compare}
use Rattle.pg_value.specs.Compare as compared
use Rattle.pg_value.specs.Order.{value_cmp, key_cmp}
use Rattle.pg_value.specs.Orders.{value_exact, keys}
use Rattle.pg_value.specs.Tables.{Stored, Tables, pick, held_in, FitsBoth}
use Rattle.pg_value.specs.TablesLaws.{key_of, stored_in, held_ascends, stored_at_in}
use Rattle.pg_ast.specs.declared.expr.BinOp.{BinOp}
use Rattle.pg_ast.specs.declared.expr.BinOp.TheVariants as bin
use Rattle.pg_meaning.specs.declared.checked.CExpr.{CExpr}
use Rattle.pg_meaning.specs.CExprs.{CTree, Literal, ColumnAt, PropertyOf, One, Two, Group, Counted, ctree_of}
use Rattle.pg_meaning.specs.Meaning.{OfRow, value_of, truth_of, as_value, as_truth, truth_and}
use Rattle.pg_rules.specs.Changes.ChangeEffect.{is_true, takes}
use Rattle.pg_write.specs.KeyOfCondition.{first_of, is_and, is_equals, is_column, literal_in, literal_beside, literal_for, with_value, literals_for, key_in}
use Rattle.pg_write.specs.JudgedRows.{row_at, AreStored}

-- THE WALK OVER A CONDITION

pub found_first : (c : ℕ) (op : BinOp) (x y : CTree) (v : Value) → is_and op ≡ true → literal_for c x ≡ Some v → literal_for c (Two op x y) ≡ Some v
found_first c op x y v a h = ap (λ b. cond b (first_of (literal_for c x) (literal_for c y)) (cond (is_equals op) (literal_beside c x y) None)) a ∙ ap (λ o. first_of o (literal_for c y)) h

pub beside : (c : ℕ) (op : BinOp) (x y : CTree) → is_and op ≡ false → is_equals op ≡ true → literal_for c (Two op x y) ≡ literal_beside c x y
beside c op x y a e = ap (λ b. cond b (first_of (literal_for c x) (literal_for c y)) (cond (is_equals op) (literal_beside c x y) None)) a ∙ ap (λ b. cond b (literal_beside c x y) None) e

pub no_link : (c : ℕ) (op : BinOp) (x y : CTree) → is_and op ≡ false → is_equals op ≡ false → literal_for c (Two op x y) ≡ None
no_link c op x y a e = ap (λ b. cond b (first_of (literal_for c x) (literal_for c y)) (cond (is_equals op) (literal_beside c x y) None)) a ∙ ap (λ b. cond b (literal_beside c x y) None) e

-- WHAT A TRUE CONDITION SAYS

false_true : {P : Type 0} → false ≡ true → P
false_true h = absurd cc

truth_back : (t : Truth) → as_truth (as_value t) ≡ t
truth_back True = refl
truth_back False = refl
truth_back Unknown = refl

both_true : (a b : Truth) → is_true (truth_and a b) ≡ true → (is_true a ≡ true) × (is_true b ≡ true)
both_true True b h = (refl, h)
both_true False b h = false_true h
both_true Unknown True h = false_true h
both_true Unknown False h = false_true h
both_true Unknown Unknown h = false_true h

met : (b : Bool) → is_true (compared.truth_of b) ≡ true → b ≡ true
met true h = refl
met false h = false_true h

equal_meets : (a b : Value) (n : Bool) → (is_null a || is_null b) ≡ n → is_true (cond n Unknown (compared.truth_of (is_eq (value_cmp a b)))) ≡ true → a ≡ b
equal_meets a b true e h = false_true h
equal_meets a b false e h = value_exact a b (is_equal (value_cmp a b) (met (is_eq (value_cmp a b)) h))

equal_true : (a b : Value) → is_true (compare cmps.Eq a b) ≡ true → a ≡ b
equal_true a b h = equal_meets a b (is_null a || is_null b) refl h

abbrev holds : CTree → Row → Bool
holds x row = is_true (truth_of x (OfRow row))

column_is : (c : ℕ) (x : CTree) (row : Row) → is_column c x ≡ true → value_of x (OfRow row) ≡ slice_index_or row.values c Null
column_is c (ColumnAt d) row h = ap (λ p. slice_index_or row.values p Null) (eqb-true d c h)
column_is c (Literal v) row h = false_true h
column_is c (PropertyOf x places) row h = false_true h
column_is c (One op x) row h = false_true h
column_is c (Two op x y) row h = false_true h
column_is c (Group agg x) row h = false_true h
column_is c (Counted x) row h = false_true h

literal_is : (x : CTree) (v : Value) (row : Row) → literal_in x ≡ Some v → value_of x (OfRow row) ≡ v
literal_is (Literal u) v row h = same_Some u v h
literal_is (ColumnAt d) v row h = absurd (none-some v h)
literal_is (PropertyOf x places) v row h = absurd (none-some v h)
literal_is (One op x) v row h = absurd (none-some v h)
literal_is (Two op x y) v row h = absurd (none-some v h)
literal_is (Group agg x) v row h = absurd (none-some v h)
literal_is (Counted x) v row h = absurd (none-some v h)

beside_is : (c : ℕ) (x y : CTree) (v : Value) (row : Row) (p q : Bool) → is_column c x ≡ p → is_column c y ≡ q → cond p (literal_in y) (cond q (literal_in x) None) ≡ Some v
    → value_of x (OfRow row) ≡ value_of y (OfRow row) → slice_index_or row.values c Null ≡ v
beside_is c x y v row true q e f h s = sym (column_is c x row e) ∙ s ∙ literal_is y v row h
beside_is c x y v row false true e f h s = sym (column_is c y row f) ∙ sym s ∙ literal_is x v row h
beside_is c x y v row false false e f h s = absurd (none-some v h)

-- a column has the literal that the condition asks for
pub column_has : (c : ℕ) (x : CTree) (v : Value) (row : Row) → literal_for c x ≡ Some v → holds x row ≡ true → slice_index_or row.values c Null ≡ v
column_has c (Literal u) v row h t = absurd (none-some v h)
column_has c (ColumnAt d) v row h t = absurd (none-some v h)
column_has c (PropertyOf x places) v row h t = absurd (none-some v h)
column_has c (One op x) v row h t = absurd (none-some v h)
column_has c (Group agg x) v row h t = absurd (none-some v h)
column_has c (Counted x) v row h t = absurd (none-some v h)
column_has c (Two bin.And x y) v row h t =
    let b = both_true (truth_of x (OfRow row)) (truth_of y (OfRow row)) (ap is_true (sym (truth_back (truth_and (truth_of x (OfRow row)) (truth_of y (OfRow row))))) ∙ t) in
    go (literal_for c x) refl h (λ e. column_has c x v row e b.0) (λ e. column_has c y v row e b.1)
  where
    go : (o : Option Value) → literal_for c x ≡ o → first_of o (literal_for c y) ≡ Some v → (literal_for c x ≡ Some v → slice_index_or row.values c Null ≡ v) → (literal_for c y ≡ Some v → slice_index_or row.values c Null ≡ v) → slice_index_or row.values c Null ≡ v
    go (Some u) e f p q = p (e ∙ f)
    go None e f p q = q f
column_has c (Two bin.Eq x y) v row h t =
    beside_is c x y v row (is_column c x) (is_column c y) refl refl h
    (equal_true (value_of x (OfRow row)) (value_of y (OfRow row)) (ap is_true (sym (truth_back (compare cmps.Eq (value_of x (OfRow row)) (value_of y (OfRow row))))) ∙ t))
column_has c (Two bin.Or x y) v row h t = absurd (none-some v h)
column_has c (Two bin.Ne x y) v row h t = absurd (none-some v h)
column_has c (Two bin.Lt x y) v row h t = absurd (none-some v h)
column_has c (Two bin.Le x y) v row h t = absurd (none-some v h)
column_has c (Two bin.Gt x y) v row h t = absurd (none-some v h)
column_has c (Two bin.Ge x y) v row h t = absurd (none-some v h)
column_has c (Two bin.Plus x y) v row h t = absurd (none-some v h)
column_has c (Two bin.Minus x y) v row h t = absurd (none-some v h)
column_has c (Two bin.Times x y) v row h t = absurd (none-some v h)

no_list : (vs : List Value) → ◌≡◌ {A = Option (List Value)} None (Some vs) → ⊥
no_list vs h = cc

-- and so have all of them
columns_have : (x : CTree) (cs : List ℕ) (vs : List Value) (row : Row) → literals_for x cs ≡ Some vs → holds x row ≡ true → pick cs row.values ≡ vs
columns_have x [] vs row h t = same_Some [] vs h
columns_have x (c ∷ cs) vs row h t = go (literal_for c x) refl (literals_for x cs) refl (λ us f. columns_have x cs us row f t) h
  where
    go : (o : Option Value) → literal_for c x ≡ o → (r : Option (List Value)) → literals_for x cs ≡ r → ((us : List Value) → literals_for x cs ≡ Some us → pick cs row.values ≡ us) → with_value o r ≡ Some vs → pick (c ∷ cs) row.values ≡ vs
    go None e r f again g = absurd (no_list vs g)
    go (Some v) e None f again g = absurd (no_list vs g)
    go (Some v) e (Some us) f again g =
        let first = column_has c x v row e t in
        let rest = again us f in
        (λ i. first i ∷ rest i) ∙ same_Some (v ∷ us) vs g

key_is : (condition : Option CExpr) (cs : List ℕ) (vs : List Value) (row : Row) → key_in condition cs ≡ Some vs → takes condition row ≡ true → pick cs row.values ≡ vs
key_is None cs vs row h t = absurd (no_list vs h)
key_is (Some e) cs vs row h t = columns_have (ctree_of e) cs vs row h t

-- THE ONE ROW

module _ (t : Row → Bool) (k : List Value) where
  abbrev kept : List Stored → List Stored
  kept rows = filter (λ s. t s.row) rows

  -- where none has the key none is kept
  none_kept : (rows : List Stored) → Each (λ s. t s.row ≡ true → s.key.values ≡ k) rows → stored_in k rows ≡ None → kept rows ≡ []
  none_kept [] h n = refl
  none_kept (s ∷ rows) h n = elim (here_or key_of key_cmp keys k s) [
    | inl e ↦ absurd (none-some s (sym n ∙ ap (λ j. stored_in j (s ∷ rows)) e ∙ get_here key_of key_cmp keys s rows))
    | inr m ↦ go (t s.row) refl m (none_kept rows h.1 (sym (get_there key_of key_cmp keys k s rows m) ∙ n))
  ]
    where
      not_equal : is_eq (key_cmp k (key_of s)) ≡ false → t s.row ≡ true → ⊥
      not_equal m e = absurd (none-some s (sym n ∙ ap (λ j. stored_in j (s ∷ rows)) (sym (h.0 e)) ∙ get_here key_of key_cmp keys s rows))

      go : (b : Bool) → t s.row ≡ b → is_eq (key_cmp k (key_of s)) ≡ false → kept rows ≡ [] → cond b (s ∷ kept rows) (kept rows) ≡ []
      go true e m again = absurd (not_equal m e)
      go false e m again = again

  -- only the row of the key is kept
  pub one_kept : (rows : List Stored) → Ascends key_of key_cmp rows → Each (λ s. t s.row ≡ true → s.key.values ≡ k) rows → kept rows ≡ kept (option_to_list (stored_in k rows))
  one_kept [] a h = refl
  one_kept (s ∷ rows) a h = elim (here_or key_of key_cmp keys k s) [
    | inl e ↦ (let none = none_kept rows h.1 (ap (λ j. stored_in j rows) e ∙ above_none key_of key_cmp keys (key_of s) rows a.0) in
        ap (λ l. cond (t s.row) (s ∷ l) l) none ∙ sym (ap (λ o. kept (option_to_list o)) (ap (λ j. stored_in j (s ∷ rows)) e ∙ get_here key_of key_cmp keys s rows)))
    | inr m ↦ go (t s.row) refl m (one_kept rows a.1 h.1)
  ]
    where
      go : (b : Bool) → t s.row ≡ b → is_eq (key_cmp k (key_of s)) ≡ false → kept rows ≡ kept (option_to_list (stored_in k rows)) → cond b (s ∷ kept rows) (kept rows) ≡ kept (option_to_list (stored_in k (s ∷ rows)))
      go true e m again = false_true (sym m ∙ ap (λ j. is_eq (key_cmp j (key_of s))) (sym (h.0 e)) ∙ ap is_eq (same keys (key_of s)))
      go false e m again = again ∙ ap (λ o. kept (option_to_list o)) (sym (get_there key_of key_cmp keys k s rows m))

-- the key that a condition asks for is that of each row of which it is true
asked : (shape : TableShape) (condition : Option CExpr) (k : List Value) (rows : List Stored) → key_in condition shape.key ≡ Some k → Each (λ s. FitsBoth shape s.key s.row) rows
    → Each (λ s. takes condition s.row ≡ true → s.key.values ≡ k) rows
asked shape condition k [] e h = tt
asked shape condition k (s ∷ rows) e h = ((λ t. sym h.0.1 ∙ key_is condition shape.key k s.row e t), asked shape condition k rows e h.1)

pub one_taken : (table : TableNo) (shape : TableShape) (tables : Tables) (condition : Option CExpr) (k : List Value) → key_in condition shape.key ≡ Some k → AreStored table shape tables
    → filter (λ s. takes condition s.row) (held_in table tables) ≡ filter (λ s. takes condition s.row) (row_at tables table k)
one_taken table shape tables condition k e a =
    one_kept (takes condition) k (held_in table tables) (held_ascends table tables a.in_order) (asked shape condition k (held_in table tables) e a.each)
    ∙ ap (λ o. filter (λ s. takes condition s.row) (option_to_list o)) (stored_at_in table k tables)
