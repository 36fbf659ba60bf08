-- The words of the order, one behind another.
use Rattle.std.proofs.Common.{◌≡◌, ◌≢◌, ◌⊎◌, inl, inr, ℕ, suc, ◌+◌, ◌-◌, ◌≤◌, ◌<◌, Bool, true, false, cond, List, [], ◌∷◌, ◌++◌, length, map, take, drop, refl, sym, ap, ◌∙◌, subst, arith, append_assoc}
use Rattle.std.specs.Prelude.{not, ◌&&◌, ◌||◌, ◌==◌, codes}
use Rattle.std.specs.List.{list_all, prefix_len}
use Rattle.std.proofs.lemmas.List.{take-append-drop, take-take, drop-take, length-take-le, length-append, length-drop, drop-drop, append-nil}
use Rattle.std.proofs.lemmas.Bool.{and_parts, or_parts, eqb-true}
use Rattle.pg_lex.specs.Bytes.{is_white, starts, starts_with}
use Rattle.pg_lex.specs.Tokens.{White, Comment, IsClear, Gap, bytes_of}
use Rattle.pg_script.specs.declared.statements.Span.{Span}
use Rattle.pg_script.specs.Layout.{Turn, IsWord, AreTurns}
use Rattle.pg_script.specs.Passes.{ends_word, word_len, cut, turn_at, Rise}
use Rattle.pg_script.proofs.Passes.Sections.{no_feed, line_is, line_ends}

-- ONE WORD

abbrev pub Stops : List ℕ → Type 0
Stops rest = (rest ≡ []) ⊎ ((starts is_white rest ≡ true) ⊎ ((back : List ℕ) × (rest ≡ codes "--" ++ back)))

abbrev pub Whole : ℕ → List ℕ → Type 0
Whole n bytes = (front back : List ℕ) → bytes ≡ front ++ (codes "--" ++ back) → n ≤ length front

stop_cases : (b : ℕ) (bs : List ℕ) → (is_white b || ((b == 45) && starts_with 45 bs)) ≡ true → Stops (b ∷ bs)
stop_cases b bs h = by (is_white b) refl h where
  dashes : (cs : List ℕ) → starts_with 45 cs ≡ true → (b ≡ 45) → Stops (b ∷ cs)
  dashes [] s e = cc
  dashes (c ∷ cs) s e = let f : c ≡ 45 = eqb-true c 45 s in inr (inr (cs, rw (e, f) refl))

  by : (t : Bool) → is_white b ≡ t → (t || ((b == 45) && starts_with 45 bs)) ≡ true → Stops (b ∷ bs)
  by true e k = inr (inl e)
  by false e k = let p = and_parts (b == 45) (starts_with 45 bs) k in dashes bs p.1 (eqb-true b 45 p.0)

pub word_dark : (bytes : List ℕ) → list_all (λ b. not (is_white b)) (take (word_len bytes) bytes) ≡ true
word_dark [] = refl
word_dark (b ∷ bs) = by (is_white b || ((b == 45) && starts_with 45 bs)) refl (word_dark bs) where
  by : (t : Bool) → (is_white b || ((b == 45) && starts_with 45 bs)) ≡ t → list_all (λ x. not (is_white x)) (take (word_len bs) bs) ≡ true
      → list_all (λ x. not (is_white x)) (take (cond t 0 (1 + word_len bs)) (b ∷ bs)) ≡ true
  by true e h = refl
  by false e h = let one : 1 + word_len bs ≡ suc (word_len bs) = omega arith in let w : is_white b ≡ false = (or_parts (is_white b) ((b == 45) && starts_with 45 bs) e).0 in rw (one, w) h

pub word_stops : (bytes : List ℕ) → Stops (drop (word_len bytes) bytes)
word_stops [] = inl refl
word_stops (b ∷ bs) = by (is_white b || ((b == 45) && starts_with 45 bs)) refl (word_stops bs) where
  by : (t : Bool) → (is_white b || ((b == 45) && starts_with 45 bs)) ≡ t → Stops (drop (word_len bs) bs) → Stops (drop (cond t 0 (1 + word_len bs)) (b ∷ bs))
  by true e h = stop_cases b bs e
  by false e h = let one : 1 + word_len bs ≡ suc (word_len bs) = omega arith in rw one h

cond_zero : (t : Bool) (n : ℕ) → t ≡ true → cond t 0 n ≡ 0
cond_zero true n e = refl
cond_zero false n e = cc

cond_less : (t : Bool) (n m : ℕ) → n ≤ m → cond t 0 n ≤ m
cond_less true n m h = omega arith
cond_less false n m h = h

or_second : (a b : Bool) → b ≡ true → (a || b) ≡ true
or_second true b e = refl
or_second false b e = e

pub word_whole : (bytes : List ℕ) → Whole (word_len bytes) bytes
word_whole [] front back e = omega arith
word_whole (b ∷ bs) [] back e =
    let f : b ≡ 45 = cc in
    let g : bs ≡ 45 ∷ back = cc in
    let k : word_len (b ∷ bs) ≡ 0 = rw (f, g) refl in
    omega arith
word_whole (b ∷ bs) (c ∷ front) back e =
    let g : bs ≡ front ++ (codes "--" ++ back) = cc in
    let k : word_len bs ≤ length front = word_whole bs front back g in
    cond_less (is_white b || ((b == 45) && starts_with 45 bs)) (1 + word_len bs) (length (c ∷ front)) (omega arith)

-- a text in front of which no blank stands
pub clear_some : (bytes : List ℕ) → IsClear bytes → word_len bytes ≡ 0 → bytes ≡ []
clear_some [] k e = refl
clear_some (b ∷ bs) k e = by (is_white b || ((b == 45) && starts_with 45 bs)) refl e where
  dashes : (cs : List ℕ) → bs ≡ cs → starts_with 45 cs ≡ true → b ≡ 45 → ⊥
  dashes [] f s g = cc
  dashes (c ∷ cs) f s g =
      let h : c ≡ 45 = eqb-true c 45 s in
      let n : ℕ = prefix_len no_feed cs in
      let p : b ∷ bs ≡ bytes_of (Comment (take n cs)) ++ drop n cs = rw (f, g, h) (ap (λ (l : List ℕ). 45 ∷ 45 ∷ l) (sym (take-append-drop n cs))) in
      k (Comment (take n cs)) (drop n cs) p (line_is cs, line_ends cs)

  not_white : is_white b ≡ true → ⊥
  not_white h = k (White b) bs refl h

  cases : (t : Bool) → is_white b ≡ t → (t || ((b == 45) && starts_with 45 bs)) ≡ true → ⊥
  cases true h o = not_white h
  cases false h o = let p = and_parts (b == 45) (starts_with 45 bs) o in dashes bs refl p.1 (eqb-true b 45 p.0)

  by : (t : Bool) → (is_white b || ((b == 45) && starts_with 45 bs)) ≡ t → cond t 0 (1 + word_len bs) ≡ 0 → b ∷ bs ≡ []
  by true h o = absurd (cases (is_white b) refl h)
  by false h o = absurd (omega arith)

pub word_is : (bytes : List ℕ) (n : ℕ) → n ≡ word_len bytes → 0 < n → n ≤ length bytes → IsWord (take n bytes) (drop n bytes)
word_is bytes n e s w =
    let len : length (take n bytes) ≡ n = length-take-le n bytes w in
    record {
      some = λ z. (let k : n ≡ 0 = sym len ∙ ap length z in absurd (omega arith));
      dark = subst (λ k. list_all (λ b. not (is_white b)) (take k bytes) ≡ true) (sym e) (word_dark bytes);
      whole = λ front back p. (let h : word_len bytes ≤ length front = word_whole bytes front back (sym (take-append-drop n bytes) ∙ p) in omega arith);
      ends = subst (λ k. Stops (drop k bytes)) (sym e) (word_stops bytes);
    }

-- ONE WORD BEHIND ANOTHER

abbrev pub left : List ℕ → ℕ → ℕ → List ℕ
left bytes at to = take (to - at) (drop at bytes)

-- the words from a place on complete those found
pub record Completes (bytes : List ℕ) (from to : ℕ) (out : List Span) (at : ℕ) : Type 0 where
  pub low : from ≤ at
  pub high : at ≤ to
  pub so_far : (more : List Span) → AreTurns at (left bytes at to) (map (turn_at bytes) more) → AreTurns from (left bytes from to) (map (turn_at bytes) (out ++ more))

pub turns_none : (bytes : List ℕ) (from to : ℕ) → from ≤ to → Completes bytes from to [] from
turns_none bytes from to h = record { low = omega arith; high = h; so_far = λ more t. t }

left_drop : (bytes : List ℕ) (at to n : ℕ) → n ≤ to - at → drop n (left bytes at to) ≡ left bytes (at + n) to
left_drop bytes at to n h =
    let k : to - at ≡ n + (to - (at + n)) = omega arith in
    ap (λ m. drop n (take m (drop at bytes))) k ∙ drop-take n (to - (at + n)) (drop at bytes) ∙ ap (take (to - (at + n))) (drop-drop n at bytes)

left_len : (bytes : List ℕ) (at to : ℕ) → at ≤ to → to ≤ length bytes → length (left bytes at to) ≡ to - at
left_len bytes at to h w = length-take-le (to - at) (drop at bytes) (omega (arith, length-drop at bytes))

-- what was read at a place: blanks and a word
pub record Reads (bytes : List ℕ) (at to word len : ℕ) : Type 0 where
  pub low : at ≤ word
  pub high : word ≤ to
  pub gap : Gap (take (word - at) (left bytes at to)) (drop (word - at) (left bytes at to))
  pub len_is : len ≡ word_len (left bytes word to)
  pub len_high : len ≤ length (left bytes word to)

pub turns_more : (bytes : List ℕ) (from to at word len : ℕ) (out now : List Span) → to ≤ length bytes → Completes bytes from to out at → Reads bytes at to word len → (len ≡ 0 → ⊥)
    → now ≡ out ++ record { from = word; to = word + len } ∷ [] → Completes bytes from to now (word + len)
turns_more bytes from to at word len out now within c r s e =
    let h : length (left bytes word to) ≡ to - word = left_len bytes word to r.high within in
    let w : drop (word - at) (left bytes at to) ≡ left bytes word to = left_drop bytes at to (word - at) (omega (arith, c.high, r.high)) ∙ ap (λ n. left bytes n to) (let k : at + (word - at) ≡ word = omega (arith, r.low) in k) in
    let behind : drop len (left bytes word to) ≡ left bytes (word + len) to = left_drop bytes word to len (omega (arith, r.len_high, h)) in
    let mine : take len (left bytes word to) ≡ cut bytes (record { from = word; to = word + len }) =
    take-take len (to - word) (drop word bytes) (omega (arith, r.len_high, h)) ∙ ap (λ n. take n (drop word bytes)) (let k : len ≡ word + len - word = omega arith in k) in
    let gap : List ℕ = take (word - at) (left bytes at to) in
    let gap_len : length gap ≡ word - at = length-take-le (word - at) (left bytes at to) (omega (arith, left_len bytes at to c.high within, r.high)) in
    let some : 0 < len = omega (arith, s) in
    let word_there : IsWord (take len (left bytes word to)) (drop len (left bytes word to)) = word_is (left bytes word to) len r.len_is some r.len_high in
    let word_len_is : length (cut bytes (record { from = word; to = word + len })) ≡ len = ap length (sym mine) ∙ length-take-le len (left bytes word to) r.len_high in
    let joined : left bytes word to ≡ cut bytes (record { from = word; to = word + len }) ++ left bytes (word + len) to =
    sym (take-append-drop len (left bytes word to)) ∙ ap (λ (l : List ℕ). l ++ drop len (left bytes word to)) mine ∙ ap (λ (l : List ℕ). cut bytes (record { from = word; to = word + len }) ++ l) behind in
    record {
      low = omega (arith, c.low, r.low);
      high = omega (arith, r.len_high, h, r.high);
      so_far = λ more t.
          subst (λ (l : List Span). AreTurns from (left bytes from to) (map (turn_at bytes) l)) (sym (append_assoc out (record { from = word; to = word + len } ∷ []) more) ∙ ap (λ (l : List Span). l ++ more) (sym e))
          (c.so_far (record { from = word; to = word + len } ∷ more) (
            gap,
            left bytes (word + len) to,
            sym (take-append-drop (word - at) (left bytes at to)) ∙ ap (λ (l : List ℕ). gap ++ l) (w ∙ joined),
            subst (Gap gap) (w ∙ joined) r.gap,
            subst (λ (l : List ℕ). IsWord l (left bytes (word + len) to)) mine (subst (IsWord (take len (left bytes word to))) behind word_there),
            omega (arith, gap_len, r.low),
            subst (λ n. AreTurns n (left bytes (word + len) to) (map (turn_at bytes) more)) (let k : word + len ≡ word + length (cut bytes (record { from = word; to = word + len })) = omega (arith, word_len_is) in k) t,
          ));
    }

pub turns_all : (bytes : List ℕ) (from to at word len : ℕ) (out : List Span) → to ≤ length bytes → Completes bytes from to out at → Reads bytes at to word len → len ≡ 0
    → AreTurns from (left bytes from to) (map (turn_at bytes) out)
turns_all bytes from to at word len out within c r z =
    let w : drop (word - at) (left bytes at to) ≡ left bytes word to = left_drop bytes at to (word - at) (omega (arith, c.high, r.high)) ∙ ap (λ n. left bytes n to) (let k : at + (word - at) ≡ word = omega (arith, r.low) in k) in
    let clear : IsClear (left bytes word to) = subst IsClear w r.gap.clear in
    let none : left bytes word to ≡ [] = clear_some (left bytes word to) clear (sym r.len_is ∙ z) in
    let whole : take (word - at) (left bytes at to) ≡ left bytes at to =
    sym (append-nil (take (word - at) (left bytes at to))) ∙ ap (λ (l : List ℕ). take (word - at) (left bytes at to) ++ l) (sym (w ∙ none)) ∙ take-append-drop (word - at) (left bytes at to) in
    let last : Gap (left bytes at to) [] = subst (λ (l : List ℕ). Gap l []) whole (subst (Gap (take (word - at) (left bytes at to))) (w ∙ none) r.gap) in
    subst (λ (l : List Span). AreTurns from (left bytes from to) (map (turn_at bytes) l)) (append-nil out) (c.so_far [] last)

-- THEIR PLACES

name_some : (name : List ℕ) → name ≢ [] → 0 < length name
name_some [] h = absurd (h refl)
name_some (b ∷ bs) h = omega arith

pub turns_rise : (at low high : ℕ) (text : List ℕ) (ts : List Turn) → AreTurns at text ts → low ≤ at → at + length text ≤ high → Rise low high (map (λ t. t.at) ts)
turns_rise at low high text [] h l u = tt
turns_rise at low high text (t ∷ ts) (gap, rest, e, g, w, a, more) l u =
    let len : length text ≡ length gap + (length t.name + length rest) = ap length e ∙ length-append gap (t.name ++ rest) ∙ ap (λ n. length gap + n) (length-append t.name rest) in
    let some : 0 < length t.name = name_some t.name w.some in
    (omega arith, omega arith, turns_rise (t.at + length t.name) t.at high rest ts more (omega arith) (omega arith))

-- AS THE CODE FINDS THEM

pub word_next : (bytes : List ℕ) (at : ℕ) → ends_word (drop at bytes) ≡ false → (at < length bytes) × (word_len (drop at bytes) ≡ 1 + word_len (drop (at + 1) bytes))
word_next bytes at e = by (drop at bytes) refl e where
  by : (xs : List ℕ) → drop at bytes ≡ xs → ends_word xs ≡ false → (at < length bytes) × (word_len (drop at bytes) ≡ 1 + word_len (drop (at + 1) bytes))
  by [] d f = cc
  by (x ∷ xs) d f =
      let len : length bytes - at ≡ length (x ∷ xs) = sym (length-drop at bytes) ∙ ap length d in
      let tail : drop (at + 1) bytes ≡ xs = sym (drop-drop 1 at bytes) ∙ ap (drop 1) d in
      (omega arith, rw (d, tail) (ap (λ t. cond t 0 (1 + word_len xs)) f))

pub reads_from : (bytes : List ℕ) (at to g len : ℕ) (l w : List ℕ) → at ≤ to → to ≤ length bytes → l ≡ left bytes at to → w ≡ left bytes (at + g) to → g ≤ length l
    → Gap (take g l) (drop g l) → len ≡ word_len w → len ≤ length w → Reads bytes at to (at + g) len
reads_from bytes at to g len l w low high e f within gap is fits =
    let n : length l ≡ to - at = ap length e ∙ left_len bytes at to low high in
    let back : at + g - at ≡ g = omega arith in
    record {
      low = omega arith;
      high = omega arith;
      gap = rw back (subst (λ (x : List ℕ). Gap (take g x) (drop g x)) e gap);
      len_is = is ∙ ap word_len f;
      len_high = subst (λ (x : List ℕ). len ≤ length x) f fits;
    }
