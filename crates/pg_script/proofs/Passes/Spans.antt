-- The pieces of a text, and the statements that they are.
use Rattle.std.proofs.Common.{◌≡◌, ◌≢◌, ℕ, ◌+◌, ◌-◌, ◌≤◌, Bool, true, false, List, [], ◌∷◌, ◌++◌, length, map, take, drop, refl, sym, ap, ◌∙◌, subst, arith, inl, inr, ◌⊎◌, append_assoc}
use Rattle.std.specs.Prelude.{◌==◌}
use Rattle.std.specs.List.{AllByRecursion}
use Rattle.std.proofs.lemmas.List.{take-append-drop, drop-drop, append-nil, drop_all, length-drop, length-take-le, length-append, take_at, drop_at, map-append, nil_from_length}
use Rattle.std.proofs.Math.Seq.{take-add}
use Rattle.std.proofs.lemmas.Bool.{eqb-true, eqb-false}
use Rattle.pg_lex.specs.Bytes.{starts_with}
use Rattle.pg_lex.specs.Tokens.{Gap}
use Rattle.pg_script.specs.declared.statements.Span.{Span}
use Rattle.pg_script.specs.declared.statements.Piece.{Piece}
use Rattle.pg_script.specs.Statements.{IsUncut, Statement, statement_of, IsPiece, AreStatements}
use Rattle.pg_script.specs.Passes.Spans.{span_of, Lies, HasSpans, IsCut, spans_of, BeginsPiece}
use Rattle.pg_script.proofs.Passes.Atoms.{gap_uncut, uncut_both}

-- WHERE STATEMENTS STAND

piece_parts : (text piece gap body behind : List ℕ) → text ≡ piece ++ behind → piece ≡ gap ++ body → text ≡ gap ++ (body ++ behind)
piece_parts text piece gap body behind e f = rw (e, f) (append_assoc gap body behind)

statement_lies : (at : ℕ) (text gap body behind : List ℕ) → text ≡ gap ++ (body ++ behind) → body ≢ [] → Lies at text (statement_of (at + length gap) body (take 1 behind))
statement_lies at text gap body behind e some =
    let n : length text ≡ length gap + (length body + length behind) = ap length e ∙ length-append gap (body ++ behind) ∙ ap (λ m. length gap + m) (length-append body behind) in
    let m : length (body ++ take 1 behind) ≡ length body + length (take 1 behind) = length-append body (take 1 behind) in
    let k : length behind ≡ length (take 1 behind) + length (drop 1 behind) = ap length (sym (take-append-drop 1 behind)) ∙ length-append (take 1 behind) (drop 1 behind) in
    let full : (length body ≡ 0) → ⊥ = λ z. some (nil_from_length body z) in
    let s = length (body ++ take 1 behind) in
    let front : at + length gap - at ≡ length gap = omega arith in
    let size : at + length gap + s - (at + length gap) ≡ s = omega arith in
    let d : drop (length gap) text ≡ body ++ behind = ap (drop (length gap)) e ∙ drop_at gap (body ++ behind) (length gap) refl in
    let b : body ++ behind ≡ (body ++ take 1 behind) ++ drop 1 behind = ap (λ (l : List ℕ). body ++ l) (sym (take-append-drop 1 behind)) ∙ sym (append_assoc body (take 1 behind) (drop 1 behind)) in
    record {
      low = omega arith;
      some = omega (arith, m, full);
      high = omega (arith, n, m, k);
      bytes = rw (front, size, d, b) (sym (take_at (body ++ take 1 behind) (drop 1 behind) s refl));
    }

piece_lies : (at : ℕ) (text piece behind : List ℕ) (found : List Statement) → text ≡ piece ++ behind → IsPiece at piece behind found → AllByRecursion (Lies at text) found
piece_lies at text piece behind found e p = by p.is where
  by : ((p.body ≡ []) × (found ≡ [])) ⊎ ((p.body ≢ []) × (found ≡ statement_of (at + length p.gap) p.body (take 1 behind) ∷ [])) → AllByRecursion (Lies at text) found
  by (inl h) = rw h.1 tt
  by (inr h) = rw h.1 (statement_lies at text p.gap p.body behind (piece_parts text piece p.gap p.body behind e p.parts) h.0, tt)

lies_further : (at to : ℕ) (text front rest : List ℕ) (s : Statement) → text ≡ front ++ rest → to ≡ at + length front → Lies to rest s → Lies at text s
lies_further at to text front rest s e p h =
    let n : length text ≡ length front + length rest = ap length e ∙ length-append front rest in
    let d : drop (s.from - at) text ≡ drop (s.from - to) rest =
    ap (λ m. drop m text) (let w = h.low in omega arith) ∙ sym (drop-drop (s.from - to) (length front) text) ∙ ap (λ (l : List ℕ). drop (s.from - to) l) (ap (drop (length front)) e ∙ drop_at front rest (length front) refl) in
    record {
      low = omega (arith, h.low);
      some = h.some;
      high = omega (arith, h.high);
      bytes = h.bytes ∙ ap (λ (l : List ℕ). take (s.to - s.from) l) (sym d);
    }

all_further : (at to : ℕ) (text front rest : List ℕ) (found : List Statement) → text ≡ front ++ rest → to ≡ at + length front → AllByRecursion (Lies to rest) found → AllByRecursion (Lies at text) found
all_further at to text front rest [] e p h = tt
all_further at to text front rest (s ∷ ss) e p h = (lies_further at to text front rest s e p h.0, all_further at to text front rest ss e p h.1)

both_lie : (at : ℕ) (text : List ℕ) (here more found : List Statement) → found ≡ here ++ more → AllByRecursion (Lies at text) here → AllByRecursion (Lies at text) more → AllByRecursion (Lies at text) found
both_lie at text here more found e g h = subst (AllByRecursion (Lies at text)) (sym e) (by here g) where
  by : (here : List Statement) → AllByRecursion (Lies at text) here → AllByRecursion (Lies at text) (here ++ more)
  by [] g = h
  by (s ∷ ss) g = (g.0, by ss g.1)

-- the statements of a text stand in it
pub all_lie : (at : ℕ) (text : List ℕ) (pieces : List (List ℕ)) (found : List Statement) → AreStatements at text pieces found → AllByRecursion (Lies at text) found
all_lie at text [] found h = absurd h
all_lie at text (p ∷ []) found h = piece_lies at text p [] found (h.0 ∙ sym (append-nil p)) h.2
all_lie at text (p ∷ q ∷ ps) found (rest, here, more, e, u, i, s, f) =
    let cut : text ≡ (p ++ 59 ∷ []) ++ rest = e ∙ sym (append_assoc p (59 ∷ []) rest) in
    let place : at + (length p + 1) ≡ at + length (p ++ 59 ∷ []) = omega (arith, length-append p (59 ∷ [])) in
    both_lie at text here more found f (piece_lies at text p (59 ∷ rest) here e i) (all_further at (at + (length p + 1)) text (p ++ 59 ∷ []) rest more cut place (all_lie (at + (length p + 1)) rest (q ∷ ps) more s))

-- THE PIECE IN FRONT

first_is : (bytes : List ℕ) → starts_with 59 bytes ≡ true → bytes ≡ 59 ∷ drop 1 bytes
first_is [] h = absurd cc
first_is (b ∷ bs) h = ap (λ c. c ∷ bs) (eqb-true b 59 h)

abbrev pub IsEnd : ℕ → List ℕ → ℕ → Type 0
IsEnd n bytes end = ((n ≡ length bytes) × (end ≡ 0)) ⊎ ((n ≢ length bytes) × (end ≡ 1))

front_end : (n end : ℕ) (bytes : List ℕ) → n ≤ length bytes → IsEnd n bytes end → (n + end ≤ length bytes) × (end ≡ length (take 1 (drop n bytes)))
front_end n end bytes w (inl (l, e)) = (omega arith, e ∙ sym (ap (λ (l : List ℕ). length (take 1 l)) (drop_all n bytes (omega arith))))
front_end n end bytes w (inr (l, e)) =
    let m : 1 ≤ length (drop n bytes) = omega (arith, length-drop n bytes) in
    (omega arith, e ∙ sym (length-take-le 1 (drop n bytes) m))

pub front_is : (bytes rest : List ℕ) (gap body end : ℕ) → gap ≤ length bytes → Gap (take gap bytes) (drop gap bytes) → rest ≡ drop gap bytes → body ≤ length rest → IsUncut (take body rest) (drop body rest)
    → IsCut (drop body rest) → IsEnd (gap + body) bytes end → BeginsPiece bytes (record { gap = gap; body = body; end = end })
front_is bytes rest gap body end w g r l u c e =
    let d : drop body rest ≡ drop (gap + body) bytes = ap (drop body) r ∙ drop-drop body gap bytes in
    let t : take (gap + body) bytes ≡ take gap bytes ++ take body rest = take-add gap body bytes ∙ ap (λ (l : List ℕ). take gap bytes ++ take body l) (sym r) in
    let n : gap + body ≤ length bytes = omega (arith, w, l, ap length r, length-drop gap bytes) in
    let cut : IsCut (drop (gap + body) bytes) = subst IsCut d c in
    let ends = front_end (gap + body) end bytes n e in
    let before : drop gap bytes ≡ take body rest ++ drop body rest = sym r ∙ sym (take-append-drop body rest) in
    let first : IsUncut (take gap bytes) (take body rest ++ drop body rest) = gap_uncut (take gap bytes) (take body rest ++ drop body rest) (subst (Gap (take gap bytes)) before g) in
    let both : IsUncut (take gap bytes ++ take body rest) (drop body rest) = uncut_both (take gap bytes) (take body rest) (drop body rest) first u in
    record {
      within = ends.0;
      blank = g;
      uncut = subst (IsUncut (take (gap + body) bytes)) d (subst (λ (l : List ℕ). IsUncut l (drop body rest)) (sym t) both);
      end_is = ends.1;
      cut = cut;
    }

-- the statement of a piece
pub record HasStatement (at : ℕ) (left : List ℕ) (p : Piece) : Type 0 where
  pub here : List Statement
  pub is : IsPiece at (take (p.gap + p.body) left) (drop (p.gap + p.body) left) here
  pub spans : map span_of here ≡ spans_of at p

no_body : (left : List ℕ) (gap body : ℕ) → (body == 0) ≡ true → take body (drop gap left) ≡ []
no_body left gap body e = ap (λ n. take n (drop gap left)) (eqb-true body 0 e)

some_body : (left : List ℕ) (gap body : ℕ) → gap + body ≤ length left → (body == 0) ≡ false → take body (drop gap left) ≢ []
some_body left gap body w e z =
    let n : body ≢ 0 = eqb-false body 0 e in
    let m : body ≤ length (drop gap left) = omega (arith, length-drop gap left) in
    n (sym (length-take-le body (drop gap left) m) ∙ ap length z)

-- where a piece has a body
piece_statement : ℕ → List ℕ → Piece → Statement
piece_statement at left p = statement_of (at + length (take p.gap left)) (take p.body (drop p.gap left)) (take 1 (drop (p.gap + p.body) left))

piece_is : (at : ℕ) (left : List ℕ) (p : Piece) → BeginsPiece left p → (found : List Statement)
    → ((take p.body (drop p.gap left) ≡ []) × (found ≡ [])) ⊎ ((take p.body (drop p.gap left) ≢ []) × (found ≡ piece_statement at left p ∷ []))
    → IsPiece at (take (p.gap + p.body) left) (drop (p.gap + p.body) left) found
unfolding piece_statement
piece_is at left p h found is =
    let d : drop p.gap left ≡ take p.body (drop p.gap left) ++ drop (p.gap + p.body) left =
    sym (take-append-drop p.body (drop p.gap left)) ∙ ap (λ (l : List ℕ). take p.body (drop p.gap left) ++ l) (drop-drop p.body p.gap left) in
    record { gap = take p.gap left; body = take p.body (drop p.gap left); parts = take-add p.gap p.body left; blank = subst (Gap (take p.gap left)) d h.blank; is = is }

one_span : (at : ℕ) (left : List ℕ) (p : Piece) → BeginsPiece left p → p.gap + p.body ≤ length left → span_of (piece_statement at left p) ∷ [] ≡ record { from = at + p.gap; to = at + p.gap + (p.body + p.end) } ∷ []
unfolding piece_statement
one_span at left p h n =
    let g : length (take p.gap left) ≡ p.gap = length-take-le p.gap left (omega arith) in
    let m : p.body ≤ length (drop p.gap left) = omega (arith, length-drop p.gap left) in
    let b : length (take p.body (drop p.gap left) ++ take 1 (drop (p.gap + p.body) left)) ≡ p.body + p.end =
    length-append (take p.body (drop p.gap left)) (take 1 (drop (p.gap + p.body) left)) ∙ omega (arith, h.end_is, length-take-le p.body (drop p.gap left) m) in
    rw (g, b) refl

pub has_statement : (at : ℕ) (left : List ℕ) (p : Piece) → BeginsPiece left p → HasStatement at left p
has_statement at left p h = by (p.body == 0) refl where
  by : (t : Bool) → (p.body == 0) ≡ t → HasStatement at left p
  by true e = record { here = []; is = piece_is at left p h [] (inl (no_body left p.gap p.body e, refl)); spans = rw e refl }
  by false e =
      let n : p.gap + p.body ≤ length left = let w = h.within in omega arith in
      record {
        here = piece_statement at left p ∷ [];
        is = piece_is at left p h (piece_statement at left p ∷ []) (inr (some_body left p.gap p.body n e, refl));
        spans = rw e (one_span at left p h n);
      }

-- THE STATEMENTS SO FAR

-- these are the statements, before any that are those of the rest
abbrev pub Completes : ℕ → List ℕ → List Span → ℕ → Type 0
Completes at text out from = (pieces : List (List ℕ)) (more : List Statement) → AreStatements (at + from) (drop from text) pieces more → HasSpans at text (out ++ map span_of more)

pub completes_none : (at : ℕ) (text : List ℕ) → Completes at text [] 0
completes_none at text pieces more h =
    let here : AreStatements at text pieces more = subst (λ n. AreStatements n text pieces more) (omega arith) h in
    record { found = more; statements = (pieces, here); spans_are = refl; each = all_lie at text pieces more here }

spans_more : (out : List Span) (here more : List Statement) (spans : List Span) → map span_of here ≡ spans → out ++ map span_of (here ++ more) ≡ (out ++ spans) ++ map span_of more
spans_more out here more spans e = rw (map-append span_of here more, e) (sym (append_assoc out spans (map span_of more)))

cut_some : (bytes : List ℕ) → IsCut bytes → (length (take 1 bytes) ≡ 0 → ⊥) → bytes ≡ 59 ∷ drop 1 bytes
cut_some [] c n = absurd (n refl)
cut_some (b ∷ bs) (inl e) n = absurd cc
cut_some (b ∷ bs) (inr h) n = first_is (b ∷ bs) h

cut_none : (bytes : List ℕ) → length (take 1 bytes) ≡ 0 → bytes ≡ []
cut_none [] n = refl
cut_none (b ∷ bs) n = absurd (omega arith)

one_end : (bytes : List ℕ) → bytes ≡ 59 ∷ drop 1 bytes → length (take 1 bytes) ≡ 1
one_end [] e = absurd cc
one_end (b ∷ bs) e = omega arith

pub completes_more : (at from to : ℕ) (text left : List ℕ) (out outs : List Span) (p : Piece) → Completes at text out from → left ≡ drop from text → BeginsPiece left p → (p.end ≡ 0 → ⊥)
    → to ≡ from + (p.gap + p.body + p.end) → outs ≡ out ++ spans_of (at + from) p → Completes at text outs to
completes_more at from to text left out outs p inv l h some t o [] more g = absurd g
completes_more at from to text left out outs p inv l h some t o (q ∷ qs) more g =
    let n = p.gap + p.body in
    let w = h.within in
    let begins : drop n left ≡ 59 ∷ drop 1 (drop n left) = cut_some (drop n left) h.cut (λ z. some (h.end_is ∙ z)) in
    let one : p.end ≡ 1 = h.end_is ∙ one_end (drop n left) begins in
    let rest : drop 1 (drop n left) ≡ drop to text =
    drop-drop 1 n left ∙ ap (drop (n + 1)) l ∙ drop-drop (n + 1) from text ∙ ap (λ m. drop m text) (omega arith) in
    let cut : drop n left ≡ 59 ∷ drop to text = begins ∙ ap (λ (l : List ℕ). 59 ∷ l) rest in
    let whole : drop from text ≡ take n left ++ 59 ∷ drop to text = sym l ∙ sym (take-append-drop n left) ∙ ap (λ (l : List ℕ). take n left ++ l) cut in
    let place : at + to ≡ at + from + (length (take n left) + 1) = omega (arith, length-take-le n left (omega arith)) in
    let s = has_statement (at + from) left p h in
    let uncut : IsUncut (take n left) (59 ∷ drop to text) = subst (IsUncut (take n left)) cut h.uncut in
    let is : IsPiece (at + from) (take n left) (59 ∷ drop to text) s.here = subst (λ (b : List ℕ). IsPiece (at + from) (take n left) b s.here) cut s.is in
    let tail : AreStatements (at + from + (length (take n left) + 1)) (drop to text) (q ∷ qs) more = subst (λ m. AreStatements m (drop to text) (q ∷ qs) more) place g in
    let all : HasSpans at text (out ++ map span_of (s.here ++ more)) = inv (take n left ∷ q ∷ qs) (s.here ++ more) (drop to text, s.here, more, whole, uncut, is, tail, refl) in
    subst (HasSpans at text) (spans_more out s.here more (spans_of (at + from) p) s.spans ∙ ap (λ (x : List Span). x ++ map span_of more) (sym o)) all

pub completes_all : (at from : ℕ) (text left : List ℕ) (out outs : List Span) (p : Piece) → Completes at text out from → left ≡ drop from text → BeginsPiece left p → p.end ≡ 0
    → outs ≡ out ++ spans_of (at + from) p → HasSpans at text outs
completes_all at from text left out outs p inv l h none o =
    let n = p.gap + p.body in
    let cut : drop n left ≡ [] = cut_none (drop n left) (sym h.end_is ∙ none) in
    let whole : drop from text ≡ take n left = sym l ∙ sym (take-append-drop n left) ∙ ap (λ (l : List ℕ). take n left ++ l) cut ∙ append-nil (take n left) in
    let s = has_statement (at + from) left p h in
    let uncut : IsUncut (take n left) [] = subst (IsUncut (take n left)) cut h.uncut in
    let is : IsPiece (at + from) (take n left) [] s.here = subst (λ (b : List ℕ). IsPiece (at + from) (take n left) b s.here) cut s.is in
    let all : HasSpans at text (out ++ map span_of s.here) = inv (take n left ∷ []) s.here (whole, uncut, is) in
    subst (HasSpans at text) (ap (λ (x : List Span). out ++ x) s.spans ∙ sym o) all
