-- The elements of a variable among mentions.
use Rattle.std.proofs.Common.{◌≡◌, ◌==◌, ℕ, Bool, true, false, not, cond, List, [], ◌∷◌, ◌++◌, map, Contains, ◌⊎◌, inl, inr, refl, ap, sym, ◌∙◌, eq-eqb}
use Rattle.std.specs.Prelude.{filter}
use Rattle.std.proofs.lemmas.Bool.{eqb-true}
use Rattle.pg_value.specs.declared.shape.ElemId.{ElemId}
use Rattle.pg_meaning.specs.Fits.{Mention, Agree, elements, firsts}
use Rattle.pg_meaning.specs.Members.{in_nil, in_here, in_there, in_cons, in_filter}
use Rattle.pg_auto.proofs.Members.{kept}

true_false : true ≡ false → ⊥
true_false h = cc

-- ONE MENTION

elements_here : (m : Mention) (ms : List Mention) (x : ℕ) → m.var ≡ x → elements (m ∷ ms) x ≡ m.elem ∷ elements ms x
elements_here m ms x e = ap (λ b. map (λ (n : Mention). n.elem) (cond b (m ∷ filter (λ (n : Mention). n.var == x) ms) (filter (λ (n : Mention). n.var == x) ms))) (eq-eqb m.var x e)

elements_skip : (m : Mention) (ms : List Mention) (x : ℕ) → (m.var == x) ≡ false → elements (m ∷ ms) x ≡ elements ms x
elements_skip m ms x e = ap (λ b. map (λ (n : Mention). n.elem) (cond b (m ∷ filter (λ (n : Mention). n.var == x) ms) (filter (λ (n : Mention). n.var == x) ms))) e

-- APPENDED

pub elements_append : (ms ns : List Mention) (x : ℕ) → elements (ms ++ ns) x ≡ elements ms x ++ elements ns x
elements_append [] ns x = refl
elements_append (m ∷ ms) ns x = go (m.var == x) (elements_append ms ns x)
  where
    go : (b : Bool) → elements (ms ++ ns) x ≡ elements ms x ++ elements ns x
        → map (λ (n : Mention). n.elem) (cond b (m ∷ filter (λ (n : Mention). n.var == x) (ms ++ ns)) (filter (λ (n : Mention). n.var == x) (ms ++ ns)))
        ≡ map (λ (n : Mention). n.elem) (cond b (m ∷ filter (λ (n : Mention). n.var == x) ms) (filter (λ (n : Mention). n.var == x) ms)) ++ elements ns x
    go true h = ap (λ es. m.elem ∷ es) h
    go false h = h

-- a variable that is not mentioned has none
pub elements_none : (ms : List Mention) (x : ℕ) → ((m : Mention) → Contains ms m → m.var ≡ x → ⊥) → elements ms x ≡ []
elements_none [] x out = refl
elements_none (m ∷ ms) x out = go (m.var == x) refl (elements_none ms x (λ n c. out n (in_there m ms n c)))
  where
    go : (b : Bool) → (m.var == x) ≡ b → elements ms x ≡ [] → elements (m ∷ ms) x ≡ []
    go true e h = absurd (out m (in_here m ms m refl) (eqb-true m.var x e))
    go false e h = elements_skip m ms x e ∙ h

-- where mentions agree, a variable's elements begin with that of each of its mentions
pub record Begins (ms : List Mention) (x : ℕ) (e : ElemId) : Type 0 where
  pub rest : List ElemId
  pub begins : elements ms x ≡ e ∷ rest

pub begins_with : (ms : List Mention) (m : Mention) → Agree ms → Contains ms m → Begins ms m.var m.elem
begins_with [] m a c = absurd (in_nil m c)
begins_with (n ∷ ms) m a c = go (n.var == m.var) refl (in_cons n ms m c) (λ d. begins_with ms m (λ p q f g e. a p q (in_there n ms p f) (in_there n ms q g) e) d)
  where
    go : (b : Bool) → (n.var == m.var) ≡ b → (n ≡ m) ⊎ Contains ms m → (Contains ms m → Begins ms m.var m.elem) → Begins (n ∷ ms) m.var m.elem
    go true e d again =
        let same = eqb-true n.var m.var e in record {
          rest = elements ms m.var;
          begins = elements_here n ms m.var same ∙ ap (λ z. z ∷ elements ms m.var) (a n m (in_here n ms n refl) c same);
        }
    go false e (inl d) again = absurd (true_false (sym (eq-eqb n.var m.var (ap (λ z. z.var) d)) ∙ e))
    go false e (inr d) again = let h = again d in record { rest = h.rest; begins = elements_skip n ms m.var e ∙ h.begins }

-- THE FIRST MENTIONS

pub firsts_in : (ms : List Mention) (m : Mention) → Contains (firsts ms) m → Contains ms m
firsts_in [] m c = absurd (in_nil m c)
firsts_in (n ∷ ms) m c = elim (in_cons n (filter (λ (k : Mention). not (k.var == n.var)) (firsts ms)) m c) [
  | inl e ↦ in_here n ms m e
  | inr r ↦ in_there n ms m (firsts_in ms m (in_filter (λ (k : Mention). not (k.var == n.var)) (firsts ms) m r).0)
]

pub firsts_agree : (ms : List Mention) → Agree ms → Agree (firsts ms)
firsts_agree ms a m n c d e = a m n (firsts_in ms m c) (firsts_in ms n d) e

-- each variable that is mentioned has one
pub record IsFirstOf (ms : List Mention) (x : ℕ) : Type 0 where
  pub mention : Mention
  pub there : Contains (firsts ms) mention
  pub var : mention.var ≡ x

pub firsts_cover : (ms : List Mention) (m : Mention) → Contains ms m → IsFirstOf ms m.var
firsts_cover [] m c = absurd (in_nil m c)
firsts_cover (n ∷ ms) m c = go (n.var == m.var) refl (in_cons n ms m c) (λ d. firsts_cover ms m d)
  where
    others : List Mention
    others = filter (λ (k : Mention). not (k.var == n.var)) (firsts ms)

    go : (b : Bool) → (n.var == m.var) ≡ b → (n ≡ m) ⊎ Contains ms m → (Contains ms m → IsFirstOf ms m.var) → IsFirstOf (n ∷ ms) m.var
    go true e d again = record { mention = n; there = in_here n (filter (λ (k : Mention). not (k.var == n.var)) (firsts ms)) n refl; var = eqb-true n.var m.var e }
    go false e (inl d) again = absurd (true_false (sym (eq-eqb n.var m.var (ap (λ z. z.var) d)) ∙ e))
    go false e (inr d) again =
        let h = again d in record {
          mention = h.mention;
          there = in_there n (filter (λ (k : Mention). not (k.var == n.var)) (firsts ms)) h.mention (kept (λ (k : Mention). not (k.var == n.var)) (firsts ms) h.mention h.there (differs h.mention h.var e));
          var = h.var;
        }
      where
        differs : (k : Mention) → k.var ≡ m.var → (n.var == m.var) ≡ false → not (k.var == n.var) ≡ true
        differs k same out = by (k.var == n.var) refl
          where
            by : (b : Bool) → (k.var == n.var) ≡ b → not b ≡ true
            by true f = absurd (true_false (sym (eq-eqb n.var m.var (sym (eqb-true k.var n.var f) ∙ same)) ∙ out))
            by false f = refl

-- where mentions agree, the elements of a variable among the first mentions begin with that of each mention
pub firsts_begin : (ms : List Mention) (m : Mention) → Agree ms → Contains ms m → Begins (firsts ms) m.var m.elem
firsts_begin ms m a c =
    let n = firsts_cover ms m c in
    let b = begins_with (firsts ms) n.mention (firsts_agree ms a) n.there in
    let same = a n.mention m (firsts_in ms n.mention n.there) c n.var in
    record { rest = b.rest; begins = ap (elements (firsts ms)) (sym n.var) ∙ b.begins ∙ ap (λ z. z ∷ b.rest) same }

-- MENTIONS BY THEIR VARIABLES

-- mentions of the same variables, and of one element where of one variable, are the same
pub same_mentions : (ms ns : List Mention) → map (λ m. m.var) ms ≡ map (λ m. m.var) ns → ((m n : Mention) → Contains ms m → Contains ns n → m.var ≡ n.var → m.elem ≡ n.elem) → ms ≡ ns
same_mentions [] [] e h = refl
same_mentions [] (n ∷ ns) e h = absurd (cc)
same_mentions (m ∷ ms) [] e h = absurd (cc)
same_mentions (m ∷ ms) (n ∷ ns) e h =
    let var : m.var ≡ n.var = cc in
    let vars : map (λ (k : Mention). k.var) ms ≡ map (λ (k : Mention). k.var) ns = cc in
    let elem = h m n (in_here m ms m refl) (in_here n ns n refl) var in
    let rest = same_mentions ms ns vars (λ a b c d f. h a b (in_there m ms a c) (in_there n ns b d) f) in
    λ i. record { var = var i; elem = elem i } ∷ rest i

-- lists that begin alike go on alike
pub same_rest : (a b : List ElemId) (xs ys : List ElemId) → a ≡ b → a ++ xs ≡ b ++ ys → xs ≡ ys
same_rest a b xs ys e h = cancel a xs ys (h ∙ ap (λ z. z ++ ys) (sym e))
  where
    cancel : (a xs ys : List ElemId) → a ++ xs ≡ a ++ ys → xs ≡ ys
    cancel [] xs ys h = h
    cancel (z ∷ a) xs ys h = cancel a xs ys (let k : a ++ xs ≡ a ++ ys = cc in k)
