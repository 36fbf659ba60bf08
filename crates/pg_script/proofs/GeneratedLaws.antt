-- What the loops of a generated script and of a summary keep.
use Rattle.std.proofs.Common.{◌≡◌, ◌<◌, ◌+◌, ◌-◌, ◌*◌, ◌++◌, ℕ, List, [], ◌∷◌, length, take, get_or, sym, ap, ◌∙◌, refl, append_assoc, append-nil, add-one, arith}
use Rattle.std.proofs.Math.Seq.{take-suc}
use Rattle.std.proofs.lemmas.Grind.{flat_map-append}
use Rattle.std.specs.Prelude.{min, codes, Option, Some, None}
use Rattle.std.specs.List.{flat_map, last_or}
use Rattle.pg_script.specs.declared.generated.Filled.{Filled}
use Rattle.pg_script.specs.declared.generated.Filled.TheVariants.{Persons, Edges}
use Rattle.pg_script.specs.declared.outcome.Outcome.{Outcome}
use Rattle.pg_script.specs.Text.{line}
use Rattle.pg_script.specs.Generated.{Drawn, each_below, draws_before, rows_in, stands, last_stand, later}

-- so many texts are written, and so many draws made
pub record SoFar (f : ℕ → List ℕ) (made count : ℕ) (before out : List ℕ) (old draws : Drawn) : Type 0 where
  pub text : out ≡ before ++ each_below f count
  pub seed : draws.seed ≡ old.seed
  pub drawn : draws.made ≡ made

pub one_more : (f : ℕ → List ℕ) (count : ℕ) (before out new : List ℕ) → out ≡ before ++ each_below f count → new ≡ out ++ f count → new ≡ before ++ each_below f (count + 1)
one_more f count before out new h e =
    e ∙ ap (λ o. o ++ f count) h ∙ append_assoc before (each_below f count) (f count) ∙ ap (λ n. before ++ each_below f n) (sym (add-one count))

pub none_yet : (f : ℕ → List ℕ) (before : List ℕ) → before ≡ before ++ each_below f 0
none_yet f before = sym (append-nil before)

-- behind a statement the draws are those before the next one's rows, or before the end
pub next_draws : (filled : Filled) (count k : ℕ) → 100 * k < count → draws_before filled (100 * k + rows_in count k) ≡ draws_before filled (min (100 * (k + 1)) count)
next_draws Persons count k less = refl
next_draws Edges count k less = ap (λ n. 3 * n) (omega (arith, less))

pub first_draws : (filled : Filled) (count k : ℕ) → 100 * k < count → draws_before filled (min (100 * k) count) ≡ draws_before filled (100 * k)
first_draws Persons count k less = refl
first_draws Edges count k less = ap (λ n. 3 * n) (omega (arith, less))

-- TEXTS OF SEVERAL PARTS

pub of_three : (o a b c x y : List ℕ) → x ≡ o ++ a → y ≡ x ++ b → y ++ c ≡ o ++ (a ++ (b ++ c))
of_three o a b c x y e f = ap (λ l. l ++ c) (f ∙ ap (λ l. l ++ b) e) ∙ simp append_assoc

pub ended : (o a b x y : List ℕ) → x ≡ o ++ a → y ≡ x ++ b → y ++ codes ";\n" ≡ o ++ line (a ++ (b ++ codes ";"))
ended o a b x y e f = ap (λ l. l ++ codes ";\n") (f ∙ ap (λ l. l ++ b) e) ∙ simp append_assoc

pub ended_of_four : (o a b c d x y z w : List ℕ) → x ≡ o ++ a → y ≡ x ++ b → z ≡ y ++ c → w ≡ z ++ d → w ++ codes ";\n" ≡ o ++ line (a ++ (b ++ (c ++ (d ++ codes ";"))))
ended_of_four o a b c d x y z w e f g h =
    ap (λ l. l ++ codes ";\n") (h ∙ ap (λ l. l ++ d) (g ∙ ap (λ l. l ++ c) (f ∙ ap (λ l. l ++ b) e))) ∙ simp append_assoc

-- THE LAST ANSWER

last_append : (o : Option (ℕ × ℕ)) (xs ys : List (ℕ × ℕ)) → last_or o (xs ++ ys) ≡ last_or (last_or o xs) ys
last_append o [] ys = refl
last_append o (x ∷ xs) ys = last_append (Some x) xs ys

pub one_more_outcome : (os : List Outcome) (i : ℕ) (o : Outcome) (before after : Option (ℕ × ℕ)) → i < length os → o ≡ get_or os i o → before ≡ last_stand (take i os) → after ≡ later before (stands o)
    → after ≡ last_stand (take (i + 1) os)
one_more_outcome os i o before after less is h e =
    e ∙ ap (λ b. later b (stands o)) h ∙ ap (λ x. later (last_stand (take i os)) (stands x)) is
    ∙ ap (λ xs. later (last_stand (take i os)) xs) (sym (append-nil (stands (get_or os i o))))
    ∙ sym (last_append None (flat_map stands (take i os)) (flat_map stands (get_or os i o ∷ [])))
    ∙ ap (last_or None) (sym (flat_map-append stands (take i os) (get_or os i o ∷ [])))
    ∙ ap (λ l. last_stand l) (sym (take-suc os i o less))
    ∙ ap (λ n. last_stand (take n os)) (sym (add-one i))

-- THE WHOLE

pub of_seven : (a b c d e f g o0 o1 o2 o3 o4 o5 o6 o7 : List ℕ) → o0 ≡ [] → o1 ≡ o0 ++ a → o2 ≡ o1 ++ b → o3 ≡ o2 ++ c → o4 ≡ o3 ++ d → o5 ≡ o4 ++ e → o6 ≡ o5 ++ f → o7 ≡ o6 ++ g
    → o7 ≡ a ++ (b ++ (c ++ (d ++ (e ++ (f ++ g)))))
of_seven a b c d e f g o0 o1 o2 o3 o4 o5 o6 o7 h0 h1 h2 h3 h4 h5 h6 h7 =
    let front : o3 ≡ (a ++ b) ++ c = h3 ∙ ap (λ l. l ++ c) (h2 ∙ ap (λ l. l ++ b) (h1 ∙ ap (λ l. l ++ a) h0)) in
    h7 ∙ ap (λ l. l ++ g) (h6 ∙ ap (λ l. l ++ f) (h5 ∙ ap (λ l. l ++ e) (h4 ∙ ap (λ l. l ++ d) front))) ∙ simp append_assoc
