-- Where the next section line stands, and a section as it stands in front.
use Rattle.std.proofs.Common.{◌≡◌, ◌⊎◌, inl, inr, ℕ, zero, suc, ◌+◌, ◌-◌, ◌≤◌, ◌<◌, Bool, true, false, cond, List, [], ◌∷◌, ◌++◌, length, take, drop, refl, sym, ap, ◌∙◌, subst, arith}
use Rattle.std.specs.Prelude.{not, ◌&&◌, ◌==◌}
use Rattle.std.specs.List.{prefix_len}
use Rattle.std.proofs.lemmas.List.{take-append-drop, drop-drop, length-take-le, append-nil, take_all, drop_all, length-drop, length-append, drop_more}
use Rattle.std.proofs.lemmas.Bool.{and_parts, both_ways, eqb-true, eq-eqb}
use Rattle.pg_lex.specs.Bytes.{starts_with}
use Rattle.pg_lex.specs.Tokens.{is_line, EndsLine}
use Rattle.pg_script.specs.Layout.{BeginsLine}
use Rattle.pg_script.proofs.Texts.Front.{front_passes, front_stops, stop_is}
use Rattle.pg_script.specs.Passes.{section_at, IsFree, IsBlockSpan}

-- behind these bytes a line begins, where one begins or not in front of them
abbrev BeginsFrom : Bool → List ℕ → Type 0
BeginsFrom begins front = ((begins ≡ true) × (front ≡ [])) ⊎ ((lines : List ℕ) × (front ≡ lines ++ 10 ∷ []))

abbrev FreeFrom : Bool → List ℕ → Type 0
FreeFrom begins text = (front back : List ℕ) → text ≡ front ++ 64 ∷ back → BeginsFrom begins front → ⊥

-- one byte on
begins_more : (begins : Bool) (b : ℕ) (front : List ℕ) → BeginsFrom (b == 10) front → BeginsFrom begins (b ∷ front)
begins_more begins b front (inl h) = inr ([], let e : b ≡ 10 = eqb-true b 10 h.0 in rw (e, h.1) refl)
begins_more begins b front (inr h) = inr (b ∷ h.0, ap (λ (l : List ℕ). b ∷ l) h.1)

begins_less : (begins : Bool) (b : ℕ) (front : List ℕ) → BeginsFrom begins (b ∷ front) → BeginsFrom (b == 10) front
begins_less begins b front (inl h) = let e : b ∷ front ≡ [] = h.1 in cc
begins_less begins b front (inr ([], e)) = let f : b ≡ 10 = cc in let g : front ≡ [] = cc in inl (eq-eqb b 10 f, g)
begins_less begins b front (inr (c ∷ lines, e)) = inr (lines, let f : front ≡ lines ++ 10 ∷ [] = cc in f)

free_less : (begins : Bool) (b : ℕ) (text : List ℕ) → (begins && (b == 64)) ≡ false → FreeFrom (b == 10) text → FreeFrom begins (b ∷ text)
free_less begins b text n f [] back e (inl h) = let g : b ≡ 64 = cc in both_ways (begins && (b == 64)) n (rw (h.0, eq-eqb b 64 g) refl)
free_less begins b text n f [] back e (inr ([], h)) = cc
free_less begins b text n f [] back e (inr (c ∷ lines, h)) = cc
free_less begins b text n f (c ∷ front) back e h =
    let k : b ≡ c = cc in
    let g : text ≡ front ++ 64 ∷ back = cc in
    f front back g (begins_less begins b front (subst (λ x. BeginsFrom begins (x ∷ front)) (sym k) h))

free_none : (begins : Bool) → FreeFrom begins []
free_none begins [] back e h = cc
free_none begins (c ∷ front) back e h = cc

abbrev Next : Bool → ℕ → List ℕ → Type 0
Next begins n bytes = (drop n bytes ≡ []) ⊎ ((starts_with 64 (drop n bytes) ≡ true) × BeginsFrom begins (take n bytes))

next_more : (begins : Bool) (b n : ℕ) (bs : List ℕ) → Next (b == 10) n bs → Next begins (suc n) (b ∷ bs)
next_more begins b n bs (inl e) = inl e
next_more begins b n bs (inr h) = inr (h.0, begins_more begins b (take n bs) h.1)

pub section_free : (begins : Bool) (bytes : List ℕ) → FreeFrom begins (take (section_at begins bytes) bytes) × Next begins (section_at begins bytes) bytes
section_free begins [] = (free_none begins, inl refl)
section_free begins (b ∷ bs) = by (begins && (b == 64)) refl (section_free (b == 10) bs) where
  by : (t : Bool) → (begins && (b == 64)) ≡ t → FreeFrom (b == 10) (take (section_at (b == 10) bs) bs) × Next (b == 10) (section_at (b == 10) bs) bs
      → FreeFrom begins (take (cond t 0 (1 + section_at (b == 10) bs)) (b ∷ bs)) × Next begins (cond t 0 (1 + section_at (b == 10) bs)) (b ∷ bs)
  by true e h = let p = and_parts begins (b == 64) e in (free_none begins, inr (p.1, inl (p.0, refl)))
  by false e h =
      let one : 1 + section_at (b == 10) bs ≡ suc (section_at (b == 10) bs) = omega arith in
      rw one (free_less begins b (take (section_at (b == 10) bs) bs) e h.0, next_more begins b (section_at (b == 10) bs) bs h.1)

-- A SECTION IN FRONT

abbrev pub no_feed : ℕ → Bool
no_feed b = not (b == 10)

pub line_is : (bytes : List ℕ) → is_line (take (prefix_len no_feed bytes) bytes) ≡ true
line_is bytes = front_passes no_feed bytes

pub line_ends : (bytes : List ℕ) → EndsLine (drop (prefix_len no_feed bytes) bytes)
line_ends bytes = stop_is 10 (drop (prefix_len no_feed bytes) bytes) (front_stops no_feed bytes)

to_from : (front : List ℕ) → BeginsLine front → BeginsFrom true front
to_from front (inl e) = inl (refl, e)
to_from front (inr h) = inr h

from_to : (front : List ℕ) → BeginsFrom true front → BeginsLine front
from_to front (inl h) = inl h.1
from_to front (inr h) = inr h

next_is : (n : ℕ) (bytes : List ℕ) → Next true n bytes → (drop n bytes ≡ []) ⊎ ((starts_with 64 (drop n bytes) ≡ true) × BeginsLine (take n bytes))
next_is n bytes (inl e) = inl e
next_is n bytes (inr h) = inr (h.0, from_to (take n bytes) h.1)

pub free_is : (bytes : List ℕ) (n : ℕ) → n ≡ section_at true bytes → IsFree n bytes
free_is bytes n e =
    let h = section_free true bytes in
    subst (λ k. IsFree k bytes) (sym e) (record {
      free = λ front back p b. h.0 front back p (to_from front b);
      next = next_is (section_at true bytes) bytes h.1;
    })

starts_take : (n : ℕ) (bytes : List ℕ) → 0 < n → starts_with 64 bytes ≡ true → starts_with 64 (take n bytes) ≡ true
starts_take zero bytes l h = absurd (omega arith)
starts_take (suc n) [] l h = h
starts_take (suc n) (b ∷ bs) l h = h

line_some : (bytes : List ℕ) → starts_with 64 bytes ≡ true → 0 < prefix_len no_feed bytes
line_some [] h = cc
line_some (b ∷ bs) h =
    let e : b ≡ 64 = eqb-true b 64 h in
    subst (λ x. 0 < prefix_len no_feed (x ∷ bs)) (sym e) (let k : 0 < 1 + prefix_len no_feed bs = omega arith in k)

take_none : (n : ℕ) (xs : List ℕ) → xs ≡ [] → take n xs ≡ []
take_none zero xs e = refl
take_none (suc n) xs e = rw e refl

no_none : (front back : List ℕ) → [] ≡ front ++ 64 ∷ back → ⊥
no_none [] back e = cc
no_none (c ∷ front) back e = cc

pub block_whole : (bytes : List ℕ) (n : ℕ) → n ≡ prefix_len no_feed bytes → n ≡ length bytes → starts_with 64 bytes ≡ true → IsBlockSpan bytes (record { line = n; from = n; to = n })
block_whole bytes n e w s =
    let some : 0 < n = omega (arith, line_some bytes s) in
    let line : take n bytes ≡ bytes = take_all n bytes (omega arith) in
    let rest : drop n bytes ≡ [] = drop_all n bytes (omega arith) in
    let text : take (n - n) (drop n bytes) ≡ [] = take_none (n - n) (drop n bytes) rest in
    record {
      some = some;
      low = omega arith;
      mid = omega arith;
      high = omega arith;
      is = λ at. record {
        feed = [];
        parts = rw (line, text, rest) (sym (append-nil bytes));
        marked = starts_take n bytes some s;
        is_line = subst (λ k. is_line (take k bytes) ≡ true) (sym e) (line_is bytes);
        ends = inr (refl, text, rest);
        free = rw text (λ front back p b. no_none front back p);
        next = inl rest;
        at_is = refl;
        from_is = rw (append-nil, line) (ap (λ k. at + k) w);
      };
    }

-- the line feed behind a line
feed_at : (bytes : List ℕ) (n : ℕ) → n < length bytes → EndsLine (drop n bytes) → drop n bytes ≡ 10 ∷ drop (n + 1) bytes
feed_at bytes n h e = by (drop_more bytes n 0 h) e where
  by : {b : ℕ} {bs : List ℕ} → drop n bytes ≡ b ∷ bs → EndsLine (drop n bytes) → drop n bytes ≡ 10 ∷ bs
  by {b} {bs} d (inl x) = cc
  by {b} {bs} d (inr x) = let k : b ≡ 10 = eqb-true b 10 (sym (ap (starts_with 10) d) ∙ x) in d ∙ ap (λ c. c ∷ bs) k

pub block_more : (bytes : List ℕ) (n m : ℕ) → n ≡ prefix_len no_feed bytes → n < length bytes → starts_with 64 bytes ≡ true → m ≤ length (drop (n + 1) bytes) → IsFree m (drop (n + 1) bytes)
    → IsBlockSpan bytes (record { line = n; from = n + 1; to = n + 1 + m })
block_more bytes n m e w s k f =
    let some : 0 < n = omega (arith, line_some bytes s) in
    let back : List ℕ = drop (n + 1) bytes in
    let len : n + 1 + m - (n + 1) ≡ m = omega arith in
    let rest : drop (n + 1 + m) bytes ≡ drop m back = sym (drop-drop m (n + 1) bytes) in
    let feed : drop n bytes ≡ 10 ∷ back = feed_at bytes n w (subst (λ j. EndsLine (drop j bytes)) (sym e) (line_ends bytes)) in
    let parts : bytes ≡ take n bytes ++ ((10 ∷ []) ++ (take m back ++ drop m back)) =
    sym (take-append-drop n bytes) ∙ ap (λ (l : List ℕ). take n bytes ++ l) (feed ∙ ap (λ (l : List ℕ). 10 ∷ l) (sym (take-append-drop m back))) in
    let long : n + 1 ≡ length (take n bytes ++ 10 ∷ []) = omega (arith, length-append (take n bytes) (10 ∷ []), length-take-le n bytes (omega arith)) in
    record {
      some = omega arith;
      low = omega arith;
      mid = omega arith;
      high = omega (arith, length-drop (n + 1) bytes);
      is = λ at. rw (len, rest) (record {
        feed = 10 ∷ [];
        parts = parts;
        marked = starts_take n bytes some s;
        is_line = subst (λ j. is_line (take j bytes) ≡ true) (sym e) (line_is bytes);
        ends = inl refl;
        free = f.free;
        next = f.next;
        at_is = refl;
        from_is = ap (λ j. at + j) long;
      });
    }
