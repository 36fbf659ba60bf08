-- What the grammar gives of each expression.
use Rattle.std.proofs.Common.{◌-◌, ◌^◌, ℕ, zero, suc, Bool, true, false, nat_lt, refl, sym, ap, ◌∙◌, subst, List, inl, inr}
use Rattle.std.specs.Prelude.{pos, if◌then◌else◌}
use Rattle.pg_value.specs.declared.value.Value.TheVariants as value
use Rattle.pg_ast.specs.declared.expr.Name.{Name}
use Rattle.pg_ast.specs.declared.expr.Expr.{Expr}
use Rattle.pg_ast.specs.declared.expr.Expr.TheVariants as expr
use Rattle.pg_ast.specs.declared.expr.Whole.{Whole}
use Rattle.pg_ast.specs.declared.expr.Agg.{Agg}
use Rattle.pg_ast.specs.declared.expr.Agg.TheVariants as agg
use Rattle.pg_ast.specs.declared.expr.UnOp.{UnOp}
use Rattle.pg_ast.specs.declared.expr.UnOp.TheVariants as un
use Rattle.pg_ast.specs.declared.expr.BinOp.{BinOp}
use Rattle.pg_ast.specs.declared.counted.Scope.TheVariants.{Insert, Change, Query}
use Rattle.pg_ast.specs.declared.counted.AggWord.{AggWord}
use Rattle.pg_ast.specs.declared.counted.CountedExpr.{CountedExpr}
use Rattle.pg_ast.specs.Trees.{tree_of, tree_unary, tree_binary, tree_agg}
use Rattle.pg_ast.specs.Words.Terminals.{Tokens}
use Rattle.pg_ast.specs.Grammar.Rule.{Rule, give, ◌or◌, only}
use Rattle.pg_ast.specs.Grammar.Counting.{allows}
use Rattle.pg_ast.specs.Grammar.Exprs.{binary_digits, number_literal, literal_of, number_after, literal, base, null_test, unary, next_factor, prod, next_term, sum, compared, test, neg, next_neg, conj, next_conj, any_of, paren, of_variable, of_expr, argument, aggregate, primary, whole}
use Rattle.pg_rules.specs.Written.{HasBits, IsChangeTree, IsInsertTree}
use Rattle.pg_rules.proofs.Written.Rules.{repeat_keeps}

-- OPERATORS AND PARENTHESES

module _ (G : Expr → Type 0) (of_unary : (op : UnOp) (x : Expr) (at : ℕ) → G x → G (expr.Unary op x at)) (of_binary : (op : BinOp) (x y : Expr) (at : ℕ) → G x → G y → G (expr.Binary op x y at)) where
  abbrev Keeps : CountedExpr → Type 0
  Keeps x = G x.expr

  abbrev pub Good : (ℕ → Rule CountedExpr) → Type 0
  Good P = (k : ℕ) (x : CountedExpr) (ts : Tokens) → P k x ts → G x.expr

  module _ (P : ℕ → Rule CountedExpr) (good : Good P) where
    unary_good : Good (unary P)
    unary_good zero y ts h = good zero y ts h
    unary_good (suc k) y ts (inl h) =
        let x = h.goes_on in
        subst Keeps (sym x.goes_on.0) (of_unary un.Minus x.first.expr h.first.from (unary_good k x.first x.front x.begins))
    unary_good (suc k) y ts (inr h) = good (suc k) y ts h

    factor_good : (x y : CountedExpr) (ts : Tokens) → G x.expr → only (allows x.left) (next_factor P x) y ts → G y.expr
    factor_good x y ts g h =
        let o = h.1 in
        let z = o.goes_on in
        subst Keeps (sym z.goes_on.0) (of_binary o.first.op x.expr z.first.expr o.first.at g (unary_good (x.left - 1) z.first z.front z.begins))

    prod_good : Good (prod P)
    prod_good k y ts h = repeat_keeps Keeps (λ x. only (allows x.left) (next_factor P x)) factor_good h.goes_on.0 h.first y h.back (unary_good k h.first h.front h.begins) h.goes_on.1

    term_good : (x y : CountedExpr) (ts : Tokens) → G x.expr → only (allows x.left) (next_term P x) y ts → G y.expr
    term_good x y ts g h =
        let o = h.1 in
        let z = o.goes_on in
        subst Keeps (sym z.goes_on.0) (of_binary o.first.op x.expr z.first.expr o.first.at g (prod_good (x.left - 1) z.first z.front z.begins))

    sum_good : Good (sum P)
    sum_good k y ts h = repeat_keeps Keeps (λ x. only (allows x.left) (next_term P x)) term_good h.goes_on.0 h.first y h.back (prod_good k h.first h.front h.begins) h.goes_on.1

    null_good : (x y : CountedExpr) (ts : Tokens) → G x.expr → null_test x y ts → G y.expr
    null_good x y ts g h = elim h.goes_on [
      | inl a ↦ subst Keeps (sym a.goes_on.goes_on.0) (of_unary un.IsNotNull x.expr h.first.from g)
      | inr b ↦ subst Keeps (sym b.goes_on.0) (of_unary un.IsNull x.expr h.first.from g)
    ]

    tested : (x y : CountedExpr) (ts : Tokens) → G x.expr → (only (allows x.left) (compared P x) or only (allows x.left) (null_test x) or give x) y ts → G y.expr
    tested x y ts g (inl h) =
        let o = h.1 in
        let z = o.goes_on in
        subst Keeps (sym z.goes_on.0) (of_binary o.first.op x.expr z.first.expr o.first.at g (sum_good (x.left - 1) z.first z.front z.begins))
    tested x y ts g (inr (inl h)) = null_good x y ts g h.1
    tested x y ts g (inr (inr h)) = subst Keeps (sym h.0) g

    test_good : Good (test P)
    test_good k y ts h = tested h.first y h.back (sum_good k h.first h.front h.begins) h.goes_on

    neg_good : Good (neg P)
    neg_good zero y ts h = test_good zero y ts h
    neg_good (suc k) y ts (inl h) =
        let x = h.goes_on in
        subst Keeps (sym x.goes_on.0) (of_unary un.Not x.first.expr h.first.from (neg_good k x.first x.front x.begins))
    neg_good (suc k) y ts (inr h) = test_good (suc k) y ts h

    next_neg_good : (x y : CountedExpr) (ts : Tokens) → G x.expr → only (allows x.left) (next_neg P x) y ts → G y.expr
    next_neg_good x y ts g h =
        let o = h.1 in
        let z = o.goes_on in
        subst Keeps (sym z.goes_on.0) (of_binary o.first.op x.expr z.first.expr o.first.at g (neg_good (x.left - 1) z.first z.front z.begins))

    conj_good : Good (conj P)
    conj_good k y ts h = repeat_keeps Keeps (λ x. only (allows x.left) (next_neg P x)) next_neg_good h.goes_on.0 h.first y h.back (neg_good k h.first h.front h.begins) h.goes_on.1

    next_conj_good : (x y : CountedExpr) (ts : Tokens) → G x.expr → only (allows x.left) (next_conj P x) y ts → G y.expr
    next_conj_good x y ts g h =
        let o = h.1 in
        let z = o.goes_on in
        subst Keeps (sym z.goes_on.0) (of_binary o.first.op x.expr z.first.expr o.first.at g (conj_good (x.left - 1) z.first z.front z.begins))

    pub any_good : Good (any_of P)
    any_good k y ts h = repeat_keeps Keeps (λ x. only (allows x.left) (next_conj P x)) next_conj_good h.goes_on.0 h.first y h.back (conj_good k h.first h.front h.begins) h.goes_on.1

    pub paren_good : Good (paren P)
    paren_good k y ts h =
        let x = h.goes_on in
        subst Keeps (sym x.goes_on.goes_on.0) (any_good k x.first x.front x.begins)

    -- AGGREGATES

    module _ (of_agg : (a : Agg) (x : Expr) (at : ℕ) → G x → G (expr.Agg a x at)) (of_count : (v : Name) (at : ℕ) → G (expr.CountVar v at)) where
      variable_good : (a : AggWord) (k : ℕ) (y : CountedExpr) (ts : Tokens) → of_variable a k y ts → G y.expr
      variable_good a k y ts h = subst Keeps (sym h.goes_on.goes_on.0) (of_count h.first a.at)

      expr_good : (a : AggWord) (k : ℕ) (y : CountedExpr) (ts : Tokens) → of_expr P a k y ts → G y.expr
      expr_good a k y ts h = subst Keeps (sym h.goes_on.goes_on.0) (of_agg a.agg h.first.expr a.at (any_good k h.first h.front h.begins))

      argument_good : (a : Agg) (w : AggWord) (k : ℕ) (y : CountedExpr) (ts : Tokens) → argument P a w k y ts → G y.expr
      argument_good agg.Count w k y ts (inl h) = variable_good w k y ts h
      argument_good agg.Count w k y ts (inr h) = expr_good w k y ts h
      argument_good agg.Sum w k y ts h = expr_good w k y ts h
      argument_good agg.Min w k y ts h = expr_good w k y ts h
      argument_good agg.Max w k y ts h = expr_good w k y ts h

      pub aggregate_good : Good (aggregate P)
      aggregate_good k y ts h =
          let x = h.goes_on in
          argument_good h.first.agg h.first (k - 1) y x.back x.goes_on

-- LITERALS

literal_written : (n at : ℕ) → IsInsertTree (tree_of (literal_of n at))
literal_written n at = go (nat_lt n (2 ^ 127))
  where
    go : (b : Bool) → IsInsertTree (tree_of (if b then (expr.Lit (value.Int (pos n)) (binary_digits n) at) else (expr.TooWide at)))
    go true = (refl, tt, tt)
    go false = (tt, tt, tt)

number_written : (digits : List ℕ) (at : ℕ) → IsInsertTree (tree_of (number_literal digits at))
unfolding number_literal
number_written digits at = literal_written (number_after 0 digits) at

literal_good : (e : Expr) (ts : Tokens) → literal e ts → IsInsertTree (tree_of e)
literal_good e ts (inl h) = subst (λ x. IsInsertTree (tree_of x)) (sym h.goes_on.0) (number_written _ h.first.from)
literal_good e ts (inr (inl h)) = subst (λ x. IsInsertTree (tree_of x)) (sym h.goes_on.0) (refl, tt, tt)
literal_good e ts (inr (inr (inl h))) = subst (λ x. IsInsertTree (tree_of x)) (sym h.goes_on.0) (refl, tt, tt)
literal_good e ts (inr (inr (inr (inl h)))) = subst (λ x. IsInsertTree (tree_of x)) (sym h.goes_on.0) (refl, tt, tt)
literal_good e ts (inr (inr (inr (inr h)))) = subst (λ x. IsInsertTree (tree_of x)) (sym h.goes_on.0) (refl, tt, tt)

-- EXPRESSIONS OF INSERT

abbrev InInsert : Expr → Type 0
InInsert e = IsInsertTree (tree_of e)

insert_unary : (op : UnOp) (x : Expr) (at : ℕ) → InInsert x → InInsert (expr.Unary op x at)
insert_unary op x at h = subst IsInsertTree (sym (tree_unary op x at)) h

insert_binary : (op : BinOp) (x y : Expr) (at : ℕ) → InInsert x → InInsert y → InInsert (expr.Binary op x y at)
insert_binary op x y at h k = subst IsInsertTree (sym (tree_binary op x y at)) ((h.0, k.0), (h.1, k.1), (h.2, k.2))

insert_base : Good InInsert insert_unary insert_binary (base Insert)
insert_base k y ts h = subst (λ (x : CountedExpr). InInsert x.expr) (sym h.goes_on.0) (literal_good h.first h.front h.begins)

insert_primary : (depth : ℕ) → Good InInsert insert_unary insert_binary (primary Insert depth)
unfolding primary
insert_primary zero k y ts h = insert_base k y ts h
insert_primary (suc depth) k y ts (inl h) = paren_good InInsert insert_unary insert_binary (primary Insert depth) (insert_primary depth) k y ts h
insert_primary (suc depth) k y ts (inr h) = insert_base k y ts h

pub insert_whole : (w : Whole) (ts : Tokens) → whole Insert w ts → IsInsertTree (tree_of w.expr)
insert_whole w ts h =
    let c = h.begins in
    subst (λ (x : Whole). IsInsertTree (tree_of x.expr)) (sym (h.goes_on.0 ∙ ap (λ x. x.whole) c.goes_on.0))
    (any_good InInsert insert_unary insert_binary (primary Insert 64) (insert_primary 64) 255 c.first.0 c.front c.begins.0)

-- EXPRESSIONS OF UPDATE AND DELETE

abbrev InChange : Expr → Type 0
InChange e = IsChangeTree (tree_of e)

change_unary : (op : UnOp) (x : Expr) (at : ℕ) → InChange x → InChange (expr.Unary op x at)
change_unary op x at h = subst IsChangeTree (sym (tree_unary op x at)) h

change_binary : (op : BinOp) (x y : Expr) (at : ℕ) → InChange x → InChange y → InChange (expr.Binary op x y at)
change_binary op x y at h k = subst IsChangeTree (sym (tree_binary op x y at)) ((h.0, k.0), (h.1, k.1))

change_base : Good InChange change_unary change_binary (base Change)
change_base k y ts (inl h) = subst (λ (x : CountedExpr). InChange x.expr) (sym (h.goes_on.0 ∙ ap (λ (e : Expr). record { expr = e; left = k; plain = false }) h.begins.goes_on.0)) (tt, tt)
change_base k y ts (inr h) = let l = literal_good h.first h.front h.begins in subst (λ (x : CountedExpr). InChange x.expr) (sym h.goes_on.0) (l.0, l.1)

change_primary : (depth : ℕ) → Good InChange change_unary change_binary (primary Change depth)
unfolding primary
change_primary zero k y ts h = change_base k y ts h
change_primary (suc depth) k y ts (inl h) = paren_good InChange change_unary change_binary (primary Change depth) (change_primary depth) k y ts h
change_primary (suc depth) k y ts (inr h) = change_base k y ts h

pub change_whole : (w : Whole) (ts : Tokens) → whole Change w ts → IsChangeTree (tree_of w.expr)
change_whole w ts h =
    let c = h.begins in
    subst (λ (x : Whole). IsChangeTree (tree_of x.expr)) (sym (h.goes_on.0 ∙ ap (λ x. x.whole) c.goes_on.0))
    (any_good InChange change_unary change_binary (primary Change 64) (change_primary 64) 255 c.first.0 c.front c.begins.0)

-- EXPRESSIONS OF A QUERY

abbrev InQuery : Expr → Type 0
InQuery e = HasBits (tree_of e)

query_unary : (op : UnOp) (x : Expr) (at : ℕ) → InQuery x → InQuery (expr.Unary op x at)
query_unary op x at h = subst HasBits (sym (tree_unary op x at)) h

query_binary : (op : BinOp) (x y : Expr) (at : ℕ) → InQuery x → InQuery y → InQuery (expr.Binary op x y at)
query_binary op x y at h k = subst HasBits (sym (tree_binary op x y at)) (h, k)

query_agg : (a : Agg) (x : Expr) (at : ℕ) → InQuery x → InQuery (expr.Agg a x at)
query_agg a x at h = subst HasBits (sym (tree_agg a x at)) h

query_base : Good InQuery query_unary query_binary (base Query)
query_base k y ts (inl h) =
    let n = h.begins.goes_on.goes_on in
    subst (λ (x : CountedExpr). InQuery x.expr) (sym (h.goes_on.0 ∙ ap (λ (e : Expr). record { expr = e; left = k; plain = true }) n.goes_on.0)) tt
query_base k y ts (inr h) = subst (λ (x : CountedExpr). InQuery x.expr) (sym h.goes_on.0) (literal_good h.first h.front h.begins).0

query_primary : (depth : ℕ) → Good InQuery query_unary query_binary (primary Query depth)
unfolding primary
query_primary zero k y ts h = query_base k y ts h
query_primary (suc depth) k y ts (inl h) = paren_good InQuery query_unary query_binary (primary Query depth) (query_primary depth) k y ts h
query_primary (suc depth) k y ts (inr (inl h)) = aggregate_good InQuery query_unary query_binary (primary Query depth) (query_primary depth) query_agg (λ v at. tt) k y ts h.1
query_primary (suc depth) k y ts (inr (inr h)) = query_base k y ts h

pub query_whole : (w : Whole) (ts : Tokens) → whole Query w ts → HasBits (tree_of w.expr)
query_whole w ts h =
    let c = h.begins in
    subst (λ (x : Whole). HasBits (tree_of x.expr)) (sym (h.goes_on.0 ∙ ap (λ x. x.whole) c.goes_on.0))
    (any_good InQuery query_unary query_binary (primary Query 64) (query_primary 64) 255 c.first.0 c.front c.begins.0)
