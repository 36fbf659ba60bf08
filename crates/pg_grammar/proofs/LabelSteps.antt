-- One step of the parsers of label expressions, as the code tests it.
use Rattle.std.proofs.Common.{◌≡◌, ℕ, zero, suc, ◌-◌, Bool, true, false, [], ◌∷◌, refl, arith, sub-one}
use Rattle.std.specs.Prelude.{◌&&◌, if◌then◌else◌, nat_lt}
use Rattle.std.proofs.lemmas.Bool.{lt-ltb}
use Rattle.pg_lex.specs.declared.token.Token.{Token}
use Rattle.pg_ast.specs.declared.pattern.LabelExpr.TheVariants as label
use Rattle.pg_ast.specs.declared.counted.CountedLabel.{CountedLabel}
use Rattle.pg_grammar.specs.Kit.Reading.{Parser, ◌>>=◌, pure, eat, sees, sees_if, guarded}
use Rattle.pg_ast.specs.Words.Terminals.{Tokens}
use Rattle.pg_ast.specs.Grammar.Labels.{labelled}
use Rattle.pg_grammar.specs.Read.Labels.{complement, primary, paren, base}
use Rattle.pg_ast.specs.Words.Names as word

pub sees_guarded : (ok : Bool) (f : Token → Bool) (l : Tokens) → sees_if (guarded ok f) l ≡ (ok && sees_if f l)
sees_guarded true f [] = refl
sees_guarded false f [] = refl
sees_guarded true f (t ∷ l) = refl
sees_guarded false f (t ∷ l) = refl

-- what is read from a complement's mark on
abbrev pub complemented : (ℕ → Parser CountedLabel) → ℕ → Parser CountedLabel
complemented P k = eat word.exclaim >>= λ _. complement P k >>= λ x. pure (labelled (label.Not x.label) x.left)

pub complement_step : (P : ℕ → Parser CountedLabel) (k : ℕ) (l : Tokens) → complement P k l ≡ (if (nat_lt 0 k && sees word.exclaim l) then complemented P (k - 1) l else P k l)
unfolding complement
complement_step P zero l = refl
complement_step P (suc k) l = let some : nat_lt 0 (suc k) ≡ true = lt-ltb 0 (suc k) (omega arith) in rw (sub-one, some) refl

pub primary_step : (d k : ℕ) (l : Tokens) → primary d k l ≡ (if (nat_lt 0 d && sees word.opening l) then paren (primary (d - 1)) k l else base k l)
unfolding primary
primary_step zero k l = refl
primary_step (suc d) k l = let some : nat_lt 0 (suc d) ≡ true = lt-ltb 0 (suc d) (omega arith) in rw (sub-one, some) refl
