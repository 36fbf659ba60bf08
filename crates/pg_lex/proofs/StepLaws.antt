-- One token more, and how the token list goes on after it.
use Rattle.std.proofs.Common.{◌≡◌, ◌≢◌, ℕ, ◌+◌, ◌-◌, ◌<◌, ◌≤◌, true, false, List, [], ◌∷◌, ◌++◌, length, take, drop, refl, sym, ap, ◌∙◌, subst, arith, inl, inr, append_assoc}
use Rattle.std.proofs.lemmas.List.{take-append-drop, drop-drop, length-take-le, length-drop, drop_all}
use Rattle.pg_lex.specs.declared.token.Token.{Token}
use Rattle.pg_lex.specs.declared.token.TokenKind.{TokenKind}
use Rattle.pg_lex.specs.declared.token.TokenKind.TheVariants.{Word, Quoted, Number, Literal, Symbol, End, Bad}
use Rattle.pg_lex.specs.Tokens.{Stands, NoToken, IsUnclosed, Gap, Begins, IsLast, Tokens}
use Rattle.pg_lex.specs.Front.{HasFront}
use Rattle.pg_lex.specs.Steps.{is_last, last_at, IsNext}
use Rattle.pg_lex.specs.Spelled.{spells_some}

-- a token that stands somewhere has bytes, and is not the last
stands_more : (kind : TokenKind) (used rest : List ℕ) → Stands kind used rest → (0 < length used) × (is_last kind ≡ false)
stands_more kind [] rest h = absurd (spells_some kind h.spells)
stands_more (Word w) (b ∷ used) rest h = (omega arith, refl)
stands_more (Quoted w) (b ∷ used) rest h = (omega arith, refl)
stands_more (Number w) (b ∷ used) rest h = (omega arith, refl)
stands_more (Literal w) (b ∷ used) rest h = (omega arith, refl)
stands_more (Symbol w) (b ∷ used) rest h = (omega arith, refl)
stands_more End (b ∷ used) rest h = absurd h.spells
stands_more Bad (b ∷ used) rest h = absurd h.spells

-- what was read at a place, with its blanks
pub record Read (text left : List ℕ) (at n : ℕ) : Type 0 where
  pub left_is : left ≡ drop at text
  pub within : n ≤ length left
  pub reach : at + n ≤ length text
  pub gap : Gap (take n left) (drop n left)

pub read_at : (text bytes left : List ℕ) (at n : ℕ) → bytes ≡ text → left ≡ drop at bytes → at ≤ length text → n ≤ length left → Gap (take n left) (drop n left) → Read text left at n
read_at text bytes left at n e l w r g =
    let p : left ≡ drop at text = l ∙ ap (drop at) e in
    record { left_is = p; within = r; reach = omega (arith, ap length p, length-drop at text); gap = g }

rest_is : (text left : List ℕ) (at n : ℕ) → Read text left at n → drop n left ≡ drop (at + n) text
rest_is text left at n r = ap (drop n) r.left_is ∙ drop-drop n at text

pub found_next : (base at n len : ℕ) (text left : List ℕ) (kind : TokenKind) → Read text left at n → HasFront (drop (at + n) text) (kind, len)
    → IsNext base text at (record { kind = kind; from = base + (at + n); to = base + (at + n) + len })
found_next base at n len text left kind r f =
    let w = r.reach in
    let rest = drop (at + n) text in
    let size : length (take len rest) ≡ len = length-take-le len rest f.0 in
    let some = stands_more kind (take len rest) (drop len rest) f.1 in
    let gap_size : length (take n left) ≡ n = length-take-le n left r.within in
    let behind : drop len rest ≡ drop (base + (at + n) + len - base) text = drop-drop len (at + n) text ∙ ap (λ m. drop m text) (omega arith) in
    let parts : drop at text ≡ take n left ++ (take len rest ++ drop len rest) =
    sym r.left_is ∙ sym (take-append-drop n left) ∙ ap (λ (l : List ℕ). take n left ++ l) (rest_is text left at n r ∙ sym (take-append-drop len rest)) in
    record {
      low = omega arith;
      high = omega (arith, f.0, length-drop (at + n) text);
      last = λ e. absurd (let g = some.1 in cc);
      more = λ e. subst (Begins (base + at) (drop at text) (record { kind = kind; from = base + (at + n); to = base + (at + n) + len })) behind (record {
        before = take n left;
        used = take len rest;
        parts = parts;
        gap = subst (Gap (take n left)) (rest_is text left at n r ∙ sym (take-append-drop len rest)) r.gap;
        stands = f.1;
        from = omega (arith, gap_size);
        to = omega (arith, size);
      });
      grows = λ e. omega (arith, some.0, size);
    }

-- a last token at a place
last_next : (base at n place : ℕ) (text left : List ℕ) (kind : TokenKind) → Read text left at n → is_last kind ≡ true → base + at ≤ place → place ≤ base + length text
    → IsLast kind (base + at + n) (drop (at + n) text) place → IsNext base text at (last_at kind place)
last_next base at n place text left kind r k low high l =
    let gap_size : length (take n left) ≡ n = length-take-le n left r.within in
    record {
      low = low;
      high = high;
      last = λ e. record {
        before = take n left;
        rest = drop (at + n) text;
        parts = sym r.left_is ∙ sym (take-append-drop n left) ∙ ap (λ (x : List ℕ). take n left ++ x) (rest_is text left at n r);
        gap = subst (Gap (take n left)) (rest_is text left at n r) r.gap;
        from = rw gap_size l;
        to = refl;
      };
      more = λ e. absurd cc;
      grows = λ e. absurd cc;
    }

pub end_next : (base at n : ℕ) (text left : List ℕ) → Read text left at n → at + n ≡ length text → IsNext base text at (last_at End (base + (at + n)))
end_next base at n text left r e =
    last_next base at n (base + (at + n)) text left End r refl (omega arith) (omega arith) (drop_all (at + n) text (omega arith), omega arith)

pub bad_next : (base at n : ℕ) (text left : List ℕ) → Read text left at n → (at + n ≡ length text → ⊥) → NoToken (drop (at + n) text) → (IsUnclosed (drop (at + n) text) → ⊥)
    → IsNext base text at (last_at Bad (base + (at + n)))
bad_next base at n text left r e none closed =
    let w = r.reach in
    let some : drop (at + n) text ≢ [] = λ z. e (omega (arith, w, ap length z, length-drop (at + n) text)) in
    last_next base at n (base + (at + n)) text left Bad r refl (omega arith) (omega arith) (some, none, inr (closed, omega arith))

unclosed_some : (bytes : List ℕ) → IsUnclosed bytes → bytes ≢ []
unclosed_some bytes (inl (t, h)) e = cc
unclosed_some bytes (inr (t, h)) e = cc

pub unclosed_next : (base at n : ℕ) (text left : List ℕ) → Read text left at n → NoToken (drop (at + n) text) → IsUnclosed (drop (at + n) text)
    → IsNext base text at (last_at Bad (base + length text))
unclosed_next base at n text left r none quote =
    let w = r.reach in
    let some : drop (at + n) text ≢ [] = unclosed_some (drop (at + n) text) quote in
    last_next base at n (base + length text) text left Bad r refl (omega arith) (omega arith) (some, none, inl (quote, omega (arith, length-drop (at + n) text)))

-- ALL TOKENS

-- the tokens so far, before any that are those of the rest
abbrev pub Completes : ℕ → List ℕ → List Token → ℕ → Type 0
Completes base text out at = (more : List Token) → Tokens (base + at) (drop at text) more → Tokens base text (out ++ more)

pub one_more : (base at to : ℕ) (text : List ℕ) (out outs : List Token) (t : Token) → Completes base text out at → IsNext base text at t → is_last t.kind ≡ false → to ≡ t.to - base → outs ≡ out ++ t ∷ [] → Completes base text outs to
one_more base at to text out outs t inv next k e o more h =
    let place : base + to ≡ t.to = omega (arith, next.low) in
    let rest : Tokens t.to (drop (t.to - base) text) more = subst (λ m. Tokens t.to (drop m text) more) e (subst (λ m. Tokens m (drop to text) more) place h) in
    rw (o, append_assoc) (inv (t ∷ more) (inr (drop (t.to - base) text, next.more k, rest)))

pub all_done : (base at : ℕ) (text : List ℕ) (out outs : List Token) (t : Token) → Completes base text out at → IsNext base text at t → is_last t.kind ≡ true → outs ≡ out ++ t ∷ [] → Tokens base text outs
all_done base at text out outs t inv next k o = rw o (inv (t ∷ []) (inl (next.last k, refl)))
