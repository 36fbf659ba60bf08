-- The value of a tuple for a column, and what is found among items that may be evaluated.
use Rattle.std.proofs.Common.{ℕ, zero, suc, ◌≡◌, ◌+◌, ◌<◌, ◌==◌, Bool, true, false, cond, refl, ap, sym, subst, ◌∙◌, List, [], ◌∷◌, map, length, get_or, drop, arith, add-one}
use Rattle.std.specs.Prelude.{find}
use Rattle.std.specs.declared.option.Option.{Option}
use Rattle.std.specs.declared.option.Option.TheVariants.{Some, None}
use Rattle.std.proofs.lemmas.Bool.{ne_eqb}
use Rattle.std.proofs.lemmas.Option.{none-some, same_Some}
use Rattle.pg_keyed.specs.Lists.{Each}
use Rattle.pg_value.specs.declared.value.Value.{Value}
use Rattle.pg_value.specs.declared.value.Value.TheVariants.{Null}
use Rattle.pg_meaning.specs.declared.checked.CExpr.{CExpr}
use Rattle.pg_rules.specs.Changes.InsertEffect.{given, plain_value}
use Rattle.pg_write.specs.JudgedRows.{expr_for}

-- what is found is one of them
pub found_one : {X : Type 0} (P : X → Type 0) (t : X → Bool) (xs : List X) (x : X) → Each P xs → find t xs ≡ Some x → P x
found_one P t [] x h e = absurd (none-some x e)
found_one P t (y ∷ ys) x h e = go (t y) e (λ f. found_one P t ys x h.1 f)
  where
    go : (b : Bool) → cond b (Some y) (find t ys) ≡ Some x → (find t ys ≡ Some x → P x) → P x
    go true f again = subst P (same_Some y x f) h.0
    go false f again = again f

pub expr_one : (P : CExpr → Type 0) (columns : List ℕ) (tuple : List CExpr) (c : ℕ) (e : CExpr) → Each P tuple → expr_for columns tuple c ≡ Some e → P e
expr_one P [] tuple c e h f = absurd (none-some e f)
expr_one P (t ∷ ts) [] c e h f = absurd (none-some e f)
expr_one P (t ∷ ts) (x ∷ xs) c e h f = go (t == c) f (λ g. expr_one P ts xs c e h.1 g)
  where
    go : (b : Bool) → cond b (Some x) (expr_for ts xs c) ≡ Some e → (expr_for ts xs c ≡ Some e → P e) → P e
    go true g again = subst P (same_Some x e g) h.0
    go false g again = again g

abbrev value_in : Option CExpr → Value
value_in None = Null
value_in (Some e) = plain_value e

-- the value of a column is that of its expression, NULL where it has none
given_is : (columns : List ℕ) (tuple : List CExpr) (c : ℕ) → given columns (map plain_value tuple) c ≡ value_in (expr_for columns tuple c)
given_is [] tuple c = refl
given_is (t ∷ ts) [] c = refl
given_is (t ∷ ts) (x ∷ xs) c = go (t == c) (given_is ts xs c)
  where
    go : (b : Bool) → given ts (map plain_value xs) c ≡ value_in (expr_for ts xs c) → cond b (plain_value x) (given ts (map plain_value xs) c) ≡ value_in (cond b (Some x) (expr_for ts xs c))
    go true again = refl
    go false again = again

pub given_some : (columns : List ℕ) (tuple : List CExpr) (c : ℕ) (e : CExpr) → expr_for columns tuple c ≡ Some e → given columns (map plain_value tuple) c ≡ plain_value e
given_some columns tuple c e h = given_is columns tuple c ∙ ap value_in h

pub given_none : (columns : List ℕ) (tuple : List CExpr) (c : ℕ) → expr_for columns tuple c ≡ None → given columns (map plain_value tuple) c ≡ Null
given_none columns tuple c h = given_is columns tuple c ∙ ap value_in h

-- one step of the search
pub passed : (columns : List ℕ) (tuple : List CExpr) (i c : ℕ) → i < length columns → (get_or columns i 0 ≡ c → ⊥)
    → expr_for (drop i columns) (drop i tuple) c ≡ expr_for (drop (i + 1) columns) (drop (i + 1) tuple) c
passed columns tuple i c inside is = rw add-one (go columns tuple i inside is)
  where
    nothing : (ts : List ℕ) → expr_for ts [] c ≡ None
    nothing [] = refl
    nothing (t ∷ ts) = refl

    go : (columns : List ℕ) (tuple : List CExpr) (i : ℕ) → i < length columns → (get_or columns i 0 ≡ c → ⊥) → expr_for (drop i columns) (drop i tuple) c ≡ expr_for (drop (suc i) columns) (drop (suc i) tuple) c
    go [] tuple i l e = absurd (omega arith)
    go (t ∷ ts) [] zero l e = sym (nothing ts)
    go (t ∷ ts) (x ∷ xs) zero l e = ap (λ b. cond b (Some x) (expr_for ts xs c)) (ne_eqb t c e)
    go (t ∷ ts) [] (suc i) l e = nothing (drop i ts) ∙ sym (nothing (drop (suc i) ts))
    go (t ∷ ts) (x ∷ xs) (suc i) l e = go ts xs i (omega arith) e
