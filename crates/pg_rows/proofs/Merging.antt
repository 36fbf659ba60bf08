-- Rows table by table, each under its writes.
use Rattle.std.proofs.Common.{ℕ, zero, suc, ◌≡◌, ◌+◌, ◌<◌, ◌≤◌, ◌==◌, Bool, true, false, List, [], ◌∷◌, ◌++◌, length, get_or, refl, ap, sym, subst, ◌∙◌, arith, length-append, inl, inr}
use Rattle.std.proofs.lemmas.Bool.{eqb-true, eq-eqb}
use Rattle.std.proofs.lemmas.Bool.Decides.{leb_tells}
use Rattle.pg_keyed.specs.Keyed.{Ascends}
use Rattle.pg_value.specs.declared.write.Write.{Write}
use Rattle.pg_value.specs.Order.{key_cmp}
use Rattle.pg_value.specs.Tables.{Stored}
use Rattle.pg_value.specs.TablesLaws.{key_named, put_in}
use Rattle.pg_rows.specs.Rows.{AreInOrder, AreUnder}

true_false : true ≡ false → ⊥
true_false h = cc

get_pushed : {X : Type 0} (lists : List (List X)) (ws : List X) (t : ℕ) → t ≡ length lists → get_or (lists ++ ws ∷ []) t [] ≡ ws
get_pushed [] ws zero e = refl
get_pushed [] ws (suc t) e = absurd (omega (arith, e))
get_pushed (l ∷ lists) ws zero e = absurd (omega (arith, e))
get_pushed (l ∷ lists) ws (suc t) e = get_pushed lists ws t (omega (arith, e))

get_before : {X : Type 0} (lists : List (List X)) (ws : List X) (t : ℕ) → t < length lists → get_or (lists ++ ws ∷ []) t [] ≡ get_or lists t []
get_before [] ws t l = absurd (omega (arith, l))
get_before (x ∷ lists) ws zero l = refl
get_before (x ∷ lists) ws (suc t) l = get_before lists ws t (omega (arith, l))

get_none : {X : Type 0} (lists : List (List X)) (t : ℕ) → length lists ≤ t → get_or lists t [] ≡ []
get_none [] t l = refl
get_none (x ∷ lists) zero l = absurd (omega (arith, l))
get_none (x ∷ lists) (suc t) l = get_none lists t (omega (arith, l))

less : (t n : ℕ) → t < n + 1 → (t ≡ n → ⊥) → t < n
less zero zero l d = absurd (d refl)
less zero (suc n) l d = omega arith
less (suc t) zero l d = absurd (omega (arith, l))
less (suc t) (suc n) l d = let r = less t n (omega (arith, l)) (λ e. d (ap suc e)) in omega (arith, r)

-- the writes to a table are in order
pub list_ascends : (lists : List (List Write)) (t : ℕ) → AreInOrder lists → Ascends key_named key_cmp (get_or lists t [])
list_ascends [] t h = tt
list_ascends (ws ∷ lists) zero h = h.0
list_ascends (ws ∷ lists) (suc t) h = list_ascends lists t h.1

-- so far
pub record UnderTo (a : List (List Stored)) (b : List (List Write)) (n : ℕ) (lists : List (List Stored)) : Type 0 where
  pub count : length lists ≡ n
  pub each : (t : ℕ) → t < n → get_or lists t [] ≡ put_in (get_or a t []) (get_or b t [])

pub under_none : (a : List (List Stored)) (b : List (List Write)) → UnderTo a b 0 []
under_none a b = record { count = refl; each = λ t l. absurd (omega (arith, l)) }

pub under_more : (a : List (List Stored)) (b : List (List Write)) (n : ℕ) (lists new : List (List Stored)) (rows : List Stored) → UnderTo a b n lists → new ≡ lists ++ rows ∷ [] → rows ≡ put_in (get_or a n []) (get_or b n []) → UnderTo a b (n + 1) new
under_more a b n lists new rows h e g = subst (UnderTo a b (n + 1)) (sym e) (record {
  count = (let l = length-append lists (rows ∷ []) in let c = h.count in omega (arith, l, c));
  each = λ t l. each t l (t == n) refl;
})
  where
    each : (t : ℕ) → t < n + 1 → (q : Bool) → (t == n) ≡ q → get_or (lists ++ rows ∷ []) t [] ≡ put_in (get_or a t []) (get_or b t [])
    each t l true q = let s = eqb-true t n q in get_pushed lists rows t (s ∙ sym h.count) ∙ g ∙ ap (λ m. put_in (get_or a m []) (get_or b m [])) (sym s)
    each t l false q =
        let d : t ≡ n → ⊥ = λ s. true_false (sym (eq-eqb t n s) ∙ q) in
        let m : t < n = less t n l d in
        get_before lists rows t (let c = h.count in omega (arith, m, c)) ∙ h.each t m

pub under_all : (a : List (List Stored)) (b : List (List Write)) (n : ℕ) (lists : List (List Stored)) → UnderTo a b n lists → length a ≤ n → length b ≤ n → AreUnder a b lists
under_all a b n lists h la lb t = elim (leb_tells (suc t) n) [
  | inl x ↦ h.each t (let l = x.1 in omega (arith, l))
  | inr x ↦ (let l = x.1 in let c = h.count in get_none lists t (omega (arith, l, c)) ∙ sym (λ i. put_in (get_none a t (omega (arith, l, la)) i) (get_none b t (omega (arith, l, lb)) i)))
]
