-- `plain_at` finds the token at the front, where no quote stands there.
use Rattle.std.proofs.Common.{◌≡◌, ℕ, suc, ◌+◌, ◌≤◌, Bool, true, false, cond, List, [], ◌∷◌, ◌++◌, length, take, drop, map, Option, Some, None, refl, sym, ap, ◌∙◌, subst, arith, inl, inr, ◌⊎◌}
use Rattle.std.specs.Prelude.{◌&&◌, ◌||◌, ◌==◌, MatchOption}
use Rattle.std.specs.List.{list_all, prefix_len}
use Rattle.std.proofs.lemmas.List.{take-append-drop, length-take-le}
use Rattle.std.proofs.lemmas.Bool.{and_parts, both_ways}
use Rattle.pg_lex.specs.declared.token.TokenKind.{TokenKind}
use Rattle.pg_lex.specs.declared.token.TokenKind.TheVariants.{Word, Number, Symbol, End, Bad}
use Rattle.pg_lex.specs.Bytes.{is_digit, is_letter, is_word_byte, upper, starts}
use Rattle.pg_lex.specs.Tokens.{Spells, MayEnd, Stands, NoToken, IsUnclosed, is_symbol}
use Rattle.pg_lex.specs.Front.{HasFront, IsPlain, is_single, is_pair, symbol_at, word_at, number_at, plain_at}
use Rattle.pg_lex.specs.Spelled.{Letter, Digit, Double, Single, Other, class_of, front_class, kind_class, spells_class, spells_some, is_short, symbol_short, letter_class, digit_class, same_front}

-- FRONTS THAT PASS A TEST

run_within : (f : ℕ → Bool) (text : List ℕ) → prefix_len f text ≤ length text
run_within f [] = omega arith
run_within f (b ∷ bs) = by (f b) (run_within f bs) where
  by : (t : Bool) → prefix_len f bs ≤ length bs → cond t (1 + prefix_len f bs) 0 ≤ length (b ∷ bs)
  by true h = omega arith
  by false h = omega arith

run_all : (f : ℕ → Bool) (text : List ℕ) → list_all f (take (prefix_len f text) text) ≡ true
run_all f [] = refl
run_all f (b ∷ bs) = by (f b) refl (run_all f bs) where
  by : (t : Bool) → f b ≡ t → list_all f (take (prefix_len f bs) bs) ≡ true → list_all f (take (cond t (1 + prefix_len f bs) 0) (b ∷ bs)) ≡ true
  by true e h = let one : 1 + prefix_len f bs ≡ suc (prefix_len f bs) = omega arith in rw (one, e) h
  by false e h = refl

-- a front whose bytes all pass is no longer than the run
run_longest : (f : ℕ → Bool) (text other more : List ℕ) → text ≡ other ++ more → list_all f other ≡ true → length other ≤ prefix_len f text
run_longest f text [] more e h = omega arith
run_longest f [] (b ∷ other) more e h = absurd cc
run_longest f (c ∷ text) (b ∷ other) more e h =
    let k = and_parts (f b) (list_all f other) h in
    let same : c ≡ b = cc in
    let rest : text ≡ other ++ more = cc in
    let n = run_longest f text other more rest k.1 in
    rw (same, k.0) (omega arith)

run_starts : (f g : ℕ → Bool) → ((b : ℕ) → f b ≡ true → g b ≡ true) → (text : List ℕ) → starts f text ≡ true → starts f (take (prefix_len g text) text) ≡ true
run_starts f g k [] h = h
run_starts f g k (b ∷ bs) h =
    let one : 1 + prefix_len g bs ≡ suc (prefix_len g bs) = omega arith in
    rw (k b h, one) h

letter_word : (b : ℕ) → is_letter b ≡ true → is_word_byte b ≡ true
letter_word b h = rw h refl

-- A TOKEN IN FRONT

stands_front : (text : List ℕ) (n : ℕ) (k : TokenKind) → n ≤ length text → Spells k (take n text)
    → ((other more : List ℕ) (j : TokenKind) → text ≡ other ++ more → Spells j other → length other ≤ n) → MayEnd k (drop n text) → HasFront text (k, n)
stands_front text n k w s l m = (
  w,
  record {
    spells = s;
    longest = λ other more j e h. (let a = l other more j (sym (take-append-drop n text) ∙ e) h in rw (length-take-le n text w) a);
    ends = m;
  },
)

-- WORDS AND NUMBERS

word_longest : (text other more : List ℕ) (k : TokenKind) → front_class text ≡ Some Letter → text ≡ other ++ more → front_class text ≡ Some (kind_class k) → Spells k other → length other ≤ prefix_len is_word_byte text
word_longest text other more (Word w) c e h l = run_longest is_word_byte text other more e l.1
word_longest text other more End c e h l = absurd l
word_longest text other more Bad c e h l = absurd l
word_longest text other more _ c e h l = absurd cc

word_front : (text : List ℕ) → starts is_letter text ≡ true → HasFront text (word_at text)
word_front text h = stands_front text (prefix_len is_word_byte text) (Word (map upper (take (prefix_len is_word_byte text) text))) (run_within is_word_byte text)
    (run_starts is_letter is_word_byte letter_word text h, run_all is_word_byte text, refl)
    (λ other more j e l. word_longest text other more j (letter_class text h) e (spells_class j text other more e l) l)
    tt

number_longest : (text other more : List ℕ) (k : TokenKind) → front_class text ≡ Some Digit → text ≡ other ++ more → front_class text ≡ Some (kind_class k) → Spells k other → length other ≤ prefix_len is_digit text
number_longest text other more (Number w) c e h l = run_longest is_digit text other more e l.1
number_longest text other more End c e h l = absurd l
number_longest text other more Bad c e h l = absurd l
number_longest text other more _ c e h l = absurd cc

number_front : (text : List ℕ) → starts is_digit text ≡ true → starts is_letter (drop (prefix_len is_digit text) text) ≡ false → HasFront text (Number (take (prefix_len is_digit text) text), prefix_len is_digit text)
number_front text h n = stands_front text (prefix_len is_digit text) (Number (take (prefix_len is_digit text) text)) (run_within is_digit text)
    (run_starts is_digit is_digit (λ b h. h) text h, run_all is_digit text, refl)
    (λ other more j e l. number_longest text other more j (digit_class text h) e (spells_class j text other more e l) l)
    n

-- digits with a letter behind them
no_number : (text used rest : List ℕ) (k : TokenKind) → starts is_digit text ≡ true → starts is_letter (drop (prefix_len is_digit text) text) ≡ true → text ≡ used ++ rest → Stands k used rest → front_class text ≡ Some (kind_class k) → ⊥
no_number text used rest (Number n) d l e h c =
    let run = take (prefix_len is_digit text) text in
    let past = drop (prefix_len is_digit text) text in
    let parts : run ++ past ≡ text = take-append-drop (prefix_len is_digit text) text in
    let long = h.longest run past (Number run) (sym e ∙ sym parts) (run_starts is_digit is_digit (λ b h. h) text d, run_all is_digit text, refl) in
    let short = run_longest is_digit text used rest e h.spells.1 in
    let size : length run ≡ prefix_len is_digit text = length-take-le (prefix_len is_digit text) text (run_within is_digit text) in
    let same = same_front used run rest past (sym e ∙ sym parts) (omega arith) in
    both_ways (starts is_letter rest) h.ends (ap (starts is_letter) same.1 ∙ l)
no_number text used rest End d l e h c = h.spells
no_number text used rest Bad d l e h c = h.spells
no_number text used rest _ d l e h c = let f = digit_class text d in cc

-- SYMBOLS

or_assoc : (a b c : Bool) → ((a || b) || c) ≡ (a || (b || c))
or_assoc true b c = refl
or_assoc false b c = refl

or_false : (a : Bool) → (a || false) ≡ a
or_false true = refl
or_false false = refl

and_true : (a : Bool) → (a && true) ≡ a
and_true true = refl
and_true false = refl

and_false : (a : Bool) → (a && false) ≡ false
and_false true = refl
and_false false = refl

single_is : (b : ℕ) → is_symbol (b ∷ []) ≡ is_single b
unfolding is_symbol
single_is b = simp (or_assoc, or_false, and_true, and_false)

and_or : (a b c : Bool) → (a && (b || c)) ≡ ((a && b) || (a && c))
and_or true b c = refl
and_or false b c = refl

pair_is : (b c : ℕ) → is_symbol (b ∷ c ∷ []) ≡ is_pair b c
unfolding is_symbol
pair_is b c = simp (or_assoc, or_false, and_true, and_false, and_or)

-- where a symbol's first byte may stand, only a symbol may
only_symbol : (P : Type 0) (other : List ℕ) (k : TokenKind) → Some Other ≡ Some (kind_class k) → Spells k other → (is_symbol other ≡ true → P) → P
only_symbol P other (Symbol s) c l k = k l.0
only_symbol P other End c l k = absurd l
only_symbol P other Bad c l k = absurd l
only_symbol P other _ c l k = absurd cc

-- a symbol at the front is its first byte or its first two
symbol_within : (b : ℕ) (bs other more : List ℕ) → b ∷ bs ≡ other ++ more → is_symbol other ≡ true → is_short other ≡ true
    → ((length other ≡ 1) × (is_single b ≡ true)) ⊎ ((c : ℕ) × (cs : List ℕ) × (bs ≡ c ∷ cs) × (length other ≡ 2) × (is_pair b c ≡ true))
symbol_within b bs [] more e h s = absurd cc
symbol_within b bs (x ∷ []) more e h s = let p : b ≡ x = cc in inl (omega arith, sym (single_is b) ∙ ap (λ y. is_symbol (y ∷ [])) p ∙ h)
symbol_within b bs (x ∷ y ∷ []) more e h s =
    let p : b ≡ x = cc in
    let q : bs ≡ y ∷ more = cc in
    inr (y, more, q, omega arith, sym (pair_is b y) ∙ ap (λ z. is_symbol (z ∷ y ∷ [])) p ∙ h)
symbol_within b bs (x ∷ y ∷ z ∷ other) more e h s = absurd cc

pair_front : (b c : ℕ) (cs : List ℕ) → class_of b ≡ Other → is_pair b c ≡ true → HasFront (b ∷ c ∷ cs) (Symbol (b ∷ c ∷ []), 2)
pair_front b c cs o h = stands_front (b ∷ c ∷ cs) 2 (Symbol (b ∷ c ∷ [])) (omega arith) (pair_is b c ∙ h, refl)
    (λ other more j e l. only_symbol (length other ≤ 2) other j (sym (ap Some o) ∙ spells_class j (b ∷ c ∷ cs) other more e l) l (λ s.
    elim (symbol_within b (c ∷ cs) other more e s (symbol_short other s)) [
      | inl w ↦ omega arith
      | inr w ↦ omega (arith, w.3)
    ]))
    tt

single_front : (b : ℕ) (bs : List ℕ) → class_of b ≡ Other → is_single b ≡ true → ((c : ℕ) (cs : List ℕ) → bs ≡ c ∷ cs → is_pair b c ≡ true → ⊥) → HasFront (b ∷ bs) (Symbol (b ∷ []), 1)
single_front b bs o h n = stands_front (b ∷ bs) 1 (Symbol (b ∷ [])) (omega arith) (single_is b ∙ h, refl)
    (λ other more j e l. only_symbol (length other ≤ 1) other j (sym (ap Some o) ∙ spells_class j (b ∷ bs) other more e l) l (λ s.
    elim (symbol_within b bs other more e s (symbol_short other s)) [
      | inl w ↦ omega arith
      | inr w ↦ absurd (n w.0 w.1 w.2 w.4)
    ]))
    tt

no_symbol : (b : ℕ) (bs : List ℕ) → class_of b ≡ Other → is_single b ≡ false → ((c : ℕ) (cs : List ℕ) → bs ≡ c ∷ cs → is_pair b c ≡ true → ⊥) → NoToken (b ∷ bs)
no_symbol b bs o h n kind used rest e l = only_symbol ⊥ used kind (sym (ap Some o) ∙ spells_class kind (b ∷ bs) used rest e l.spells) l.spells (λ s.
    elim (symbol_within b bs used rest e s (symbol_short used s)) [
      | inl w ↦ both_ways (is_single b) h w.1
      | inr w ↦ n w.0 w.1 w.2 w.4
    ])

-- ALL OF THEM

pub plain_closed : (text : List ℕ) → IsPlain (front_class text) → IsUnclosed text → ⊥
plain_closed text p (inl (t, e)) = subst (λ (l : List ℕ). IsPlain (front_class l)) e p
plain_closed text p (inr (t, e)) = subst (λ (l : List ℕ). IsPlain (front_class l)) e p

abbrev pub IsFound : List ℕ → Option (TokenKind × ℕ) → Type 0
IsFound text found = MatchOption found (NoToken text) (λ f. HasFront text f)

number_found : (text : List ℕ) → starts is_digit text ≡ true → IsFound text (number_at text)
number_found text d = by (starts is_letter (drop (prefix_len is_digit text) text)) refl where
  by : (t : Bool) → starts is_letter (drop (prefix_len is_digit text) text) ≡ t → IsFound text (cond t None (Some (Number (take (prefix_len is_digit text) text), prefix_len is_digit text)))
  by true h = λ kind used rest e l. no_number text used rest kind d h e l (spells_class kind text used rest e l.spells)
  by false h = number_front text d h

symbol_found : (b : ℕ) (bs : List ℕ) → class_of b ≡ Other → IsFound (b ∷ bs) (symbol_at b bs)
symbol_found b [] o = by (is_single b) refl where
  by : (t : Bool) → is_single b ≡ t → IsFound (b ∷ []) (cond t (Some (Symbol (b ∷ []), 1)) None)
  by true h = single_front b [] o h (λ c cs e p. cc)
  by false h = no_symbol b [] o h (λ c cs e p. cc)
symbol_found b (c ∷ cs) o = by (is_pair b c) (is_single b) refl refl where
  other : is_pair b c ≡ false → (d : ℕ) (ds : List ℕ) → c ∷ cs ≡ d ∷ ds → is_pair b d ≡ true → ⊥
  other h d ds e p = both_ways (is_pair b c) h (let q : c ≡ d = cc in rw q p)

  by : (t u : Bool) → is_pair b c ≡ t → is_single b ≡ u → IsFound (b ∷ c ∷ cs) (cond t (Some (Symbol (b ∷ c ∷ []), 2)) (cond u (Some (Symbol (b ∷ []), 1)) None))
  by true u h i = pair_front b c cs o h
  by false true h i = single_front b (c ∷ cs) o i (other h)
  by false false h i = no_symbol b (c ∷ cs) o i (other h)

pub no_bytes : NoToken []
no_bytes kind [] rest e l = spells_some kind l.spells
no_bytes kind (c ∷ used) rest e l = cc

pub plain_found : (text : List ℕ) → IsPlain (front_class text) → IsFound text (plain_at text)
unfolding plain_at
plain_found [] p = no_bytes
plain_found (b ∷ bs) p = by (is_letter b) (is_digit b) refl refl p where
  rest : (t u : Bool) → is_letter b ≡ false → is_digit b ≡ false → (b == 34) ≡ t → (b == 39) ≡ u → IsPlain (Some (cond t Double (cond u Single Other))) → IsFound (b ∷ bs) (symbol_at b bs)
  rest true u a d x y p = absurd p
  rest false true a d x y p = absurd p
  rest false false a d x y p = symbol_found b bs (rw (a, d, x, y) refl)

  by : (t u : Bool) → is_letter b ≡ t → is_digit b ≡ u → IsPlain (Some (cond t Letter (cond u Digit (cond (b == 34) Double (cond (b == 39) Single Other))))) → IsFound (b ∷ bs) (cond t (Some (word_at (b ∷ bs))) (cond u (number_at (b ∷ bs)) (symbol_at b bs)))
  by true u a d p = word_front (b ∷ bs) a
  by false true a d p = number_found (b ∷ bs) d
  by false false a d p = rest (b == 34) (b == 39) a d refl refl p
