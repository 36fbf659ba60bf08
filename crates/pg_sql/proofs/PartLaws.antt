-- The parsers of what may be left out, of what may be repeated and of lists in parentheses read their rules.
use Rattle.std.proofs.Common.{◌≡◌, ℕ, Bool, true, false, List, [], ◌∷◌, ◌++◌, Some, None, refl}
use Rattle.pg_ast.specs.Words.Terminals.{Terminal, W}
use Rattle.pg_ast.specs.Grammar.Rule.{Rule, Then, ◌or◌}
use Rattle.pg_ast.specs.Grammar.Parts as grammar
use Rattle.pg_ast.specs.Words.Names as word
use Rattle.pg_grammar.specs.Kit.Reading.{Parser}
use Rattle.pg_grammar.specs.Kit.Reading as kit
use Rattle.pg_grammar.specs.Kit.Sets.{any, disjoint, disjoint-none}
use Rattle.pg_grammar.specs.Kit.{exact-same}
use Rattle.pg_grammar.specs.Kit.Optional.{factored, unfactored}
use Rattle.pg_grammar.specs.Kit.Parses.{Parses, parses-give, parses-then, parses-or, parses-loop}
use Rattle.pg_grammar.specs.Kit.OneToken.{parses-word, parses-symbol, separated-parses}
use Rattle.pg_sql.specs.Read.Parts as parser

pub parses-optional : {A : Type 0} {P : Rule A} {p : Parser A} {first : Terminal} {e : List Terminal} →
    Parses P p (first ∷ []) e false → Parses (grammar.optional P) (kit.optional first p) (first ∷ []) (e ++ first ∷ []) true
parses-optional h = parses-or (parses-then h (λ x. parses-give (Some x)) refl) (parses-give None) refl

pub parses-skip : (w : List ℕ) → Parses (grammar.skip (W w)) (parser.skip (W w)) (W w ∷ []) (W w ∷ []) true
unfolding parser.skip
parses-skip w = parses-or (parses-then (parses-word w) (λ _. parses-give tt) refl) (parses-give tt) refl

pub parses-more : {A : Type 0} {P : Rule A} {p : Parser A} {f e : List Terminal} →
    Parses P p f e false → disjoint f e ≡ true → (xs : List A) → Parses (grammar.more P xs) (parser.more (any f) p xs) f (f ++ e) true
parses-more {f = f} {e = e} h d xs = parses-loop _ _ f e (λ ys. parses-then h (λ y. parses-give (ys ++ y ∷ [])) refl) d xs

pub parses-several : {A : Type 0} {P : Rule A} {p : Parser A} {f e : List Terminal} →
    Parses P p f e false → disjoint f e ≡ true → Parses (grammar.several P) (parser.several (any f) p) f ((f ++ e) ++ e) false
parses-several h d = parses-then h (λ x. parses-more h d (x ∷ [])) d

pub parses-listed : {A : Type 0} {P : Rule A} {p : Parser A} {f e : List Terminal} →
    Parses P p f e false → disjoint (word.comma ∷ []) e ≡ true → disjoint (word.close ∷ []) ((word.comma ∷ e) ++ e) ≡ true →
    Parses (grammar.listed P) (kit.listed p) (word.opening ∷ []) [] false
parses-listed {f = f} h d d' =
    parses-then (parses-symbol _) (λ _.
    parses-then (separated-parses _ h d) (λ xs.
    parses-then (parses-symbol _) (λ _. parses-give xs) refl) d') (disjoint-none f)

-- two alternatives may be written with their common front
pub parses-unfactored : {A B : Type 0} {P : Rule A} {Q R : A → Rule B} {p : Parser B} {f e : List Terminal} {n : Bool} →
    Parses (Then P (λ x. Q x or R x)) p f e n → Parses (Then P Q or Then P R) p f e n
parses-unfactored {P = P} {Q = Q} {R = R} {p = p} {e = e} h = record {
  exact = exact-same (Then P (λ x. Q x or R x)) (Then P Q or Then P R) (any e) p p (factored P Q R) (unfactored P Q R) (λ l. refl) h.exact;
  begins = λ t u k. h.begins t u (unfactored P Q R t u k);
  inner = λ t u k. h.inner t u (unfactored P Q R t u k);
  some = let s = h.some in record { tree = s.tree; tokens = s.tokens; spelled = factored P Q R s.tree s.tokens s.spelled };
}
