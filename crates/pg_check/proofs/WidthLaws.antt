-- Where an expression is too wide, from the widths of its operands as far as 127.
use Rattle.std.proofs.Common.{◌≡◌, ℕ, ap, sym, ◌∙◌, ◌++◌, not, ◌&&◌, Option}
use Rattle.pg_ast.specs.declared.expr.UnOp.{UnOp}
use Rattle.pg_ast.specs.declared.expr.BinOp.{BinOp}
use Rattle.pg_ast.specs.declared.expr.Agg.{Agg}
use Rattle.pg_ast.specs.Trees.{ExprTree, One, Two, Group}
use Rattle.pg_meaning.specs.Typing.{Names, width_of, too_wide, unary_width, binary_width, agg_width}
use Rattle.pg_rules.specs.ExprFaults.{wide_at}
use Rattle.pg_rules.specs.Places.{least, sooner, place_if, least_append}
use Rattle.pg_check.specs.Scopes.{capped, is_over}
use Rattle.pg_check.proofs.Caps.{over_unary, over_binary, over_agg}

pub wide_one : (names : Names) (op : UnOp) (x : ExprTree) (at w : ℕ) (p : Option ℕ) → w ≡ capped (width_of names x) → p ≡ least (wide_at names x) → sooner (least (place_if (is_over (unary_width op w) w 0) at)) p ≡ least (wide_at names (One op x at))
wide_one names op x at w p hw hp =
    ap (λ v. sooner (least (place_if (is_over (unary_width op v) v 0) at)) p) hw
    ∙ ap (λ b. sooner (least (place_if b at)) p) (over_unary op (width_of names x))
    ∙ ap (sooner (least (place_if (too_wide (unary_width op (width_of names x)) && not (too_wide (width_of names x))) at))) hp
    ∙ sym (least_append (place_if (too_wide (unary_width op (width_of names x)) && not (too_wide (width_of names x))) at) (wide_at names x))

pub wide_group : (names : Names) (agg : Agg) (x : ExprTree) (at w : ℕ) (p : Option ℕ) → w ≡ capped (width_of names x) → p ≡ least (wide_at names x) → sooner (least (place_if (is_over (agg_width agg w) w 0) at)) p ≡ least (wide_at names (Group agg x at))
wide_group names agg x at w p hw hp =
    ap (λ v. sooner (least (place_if (is_over (agg_width agg v) v 0) at)) p) hw
    ∙ ap (λ b. sooner (least (place_if b at)) p) (over_agg agg (width_of names x))
    ∙ ap (sooner (least (place_if (too_wide (agg_width agg (width_of names x)) && not (too_wide (width_of names x))) at))) hp
    ∙ sym (least_append (place_if (too_wide (agg_width agg (width_of names x)) && not (too_wide (width_of names x))) at) (wide_at names x))

pub wide_two : (names : Names) (op : BinOp) (x y : ExprTree) (at v w : ℕ) (p r : Option ℕ) → v ≡ capped (width_of names x) → w ≡ capped (width_of names y) → p ≡ least (wide_at names x) → r ≡ least (wide_at names y) → sooner (least (place_if (is_over (binary_width op v w) v w) at)) (sooner p r) ≡ least (wide_at names (Two op x y at))
wide_two names op x y at v w p r hv hw hp hr =
    let own = place_if (is_over (binary_width op (width_of names x) (width_of names y)) (width_of names x) (width_of names y)) at in
    ap (λ n. sooner (least (place_if (is_over (binary_width op n w) n w) at)) (sooner p r)) hv
    ∙ ap (λ n. sooner (least (place_if (is_over (binary_width op (capped (width_of names x)) n) (capped (width_of names x)) n) at)) (sooner p r)) hw
    ∙ ap (λ b. sooner (least (place_if b at)) (sooner p r)) (over_binary op (width_of names x) (width_of names y))
    ∙ ap (λ o. sooner (least own) (sooner o r)) hp
    ∙ ap (λ o. sooner (least own) (sooner (least (wide_at names x)) o)) hr
    ∙ ap (sooner (least own)) (sym (least_append (wide_at names x) (wide_at names y)))
    ∙ sym (least_append own (wide_at names x ++ wide_at names y))
