-- A recursion on a count of turns, beside a loop that counts up.
use Rattle.std.proofs.Common.{◌≡◌, ℕ, zero, suc, ◌+◌, ◌-◌, ◌<◌, ◌≤◌, Bool, true, false, Ok, refl, sym, ap, ◌∙◌, arith}
use Rattle.pg_lex.specs.declared.token.Token.{Token}
use Rattle.pg_ast.specs.Words.Terminals.{Tokens}
use Rattle.pg_grammar.specs.Kit.Reading.{Parser, Moves, sees_if, turns}

pub one_more : {X : Type 0} {x : X} (f : ℕ → X) (n at : ℕ) → at < n → x ≡ f (n - at) → x ≡ f (suc (n - (at + 1)))
one_more f n at below e = let turn : n - at ≡ suc (n - (at + 1)) = omega arith in e ∙ ap f turn

-- no turn is left
pub turned_out : {A : Type 0} (f : A → Token → Bool) (step : A → Parser A) (n at : ℕ) (x : A) (l : Tokens) → n ≤ at → turns (n - at) f step x l ≡ Ok (x, l)
unfolding turns
turned_out f step n at x l past = let none : n - at ≡ 0 = omega arith in ap (λ k. turns k f step x l) none

-- the next token begins no turn
pub turned_enough : {A : Type 0} (n : ℕ) (f : A → Token → Bool) (step : A → Parser A) (x : A) (l : Tokens) → sees_if (f x) l ≡ false → turns n f step x l ≡ Ok (x, l)
unfolding turns
turned_enough zero f step x l s = refl
turned_enough (suc n) f step x l s = rw s refl

-- what was asked for did not come
pub unseen : (came seen : Bool) → came ≡ false → came ≡ seen → seen ≡ false
unseen came seen n e = sym e ∙ n

-- and the cursor stands where it stood
pub stayed : (came : Bool) (before after : Tokens) → came ≡ false → Moves before came after → after ≡ before
stayed true before after n m = absurd cc
stayed false before after n m = cc
