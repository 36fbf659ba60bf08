-- An input is laid out in one way: one text before the first section line, and one list of sections; a section line has
-- one form, and the text of an order one list of words.
use Rattle.std.proofs.Common.{◌≡◌, ◌≢◌, ℕ, ◌+◌, true, List, [], ◌∷◌, ◌++◌, length, drop, refl, sym, ap, ◌∙◌, subst, arith, inl, inr, ◌⊎◌, append-nil}
use Rattle.std.specs.Prelude.{not, codes}
use Rattle.std.specs.List.{list_all}
use Rattle.std.proofs.lemmas.List.{length-append}
use Rattle.std.proofs.lemmas.Bool.{both_ways, not-true, true≢false, eqb-true}
use Rattle.pg_lex.specs.Bytes.{is_white, starts, starts_with}
use Rattle.pg_lex.specs.Tokens.{Gap, EndsLine}
use Rattle.pg_lex.specs.Once.{gap_once}
use Rattle.pg_script.specs.Layout.{BeginsLine, HasNoSection, Block, IsBlock, AreBlocks, IsLaidOut, is_name_byte, Header, Setup, Session, Order, Other, SaysSession, IsHeader, Turn, IsWord, AreTurns}
use Rattle.pg_script.proofs.Texts.Cuts.{Longer, Compared, compare, all_at, lines_once}
use Rattle.pg_script.proofs.Texts.Front.{front_once}
use Rattle.pg_script.proofs.Passes.SectionLines.{blank_stops, name_bytes}

-- TEXTS UP TO A SECTION LINE

-- the end or a section line follows
abbrev Follows : List ℕ → List ℕ → Type 0
Follows text rest = (rest ≡ []) ⊎ ((starts_with 64 rest ≡ true) × BeginsLine text)

text_ends : (a b x y : List ℕ) → Longer a b x y → Follows a x → HasNoSection b → ⊥
text_ends a b x y (c, more, p, q) (inl e) free = cc
text_ends a b x y (c, more, p, q) (inr h) free =
    let e : c ≡ 64 = eqb-true c 64 (sym (ap (starts_with 64) q) ∙ h.0) in
    free a more (p ∙ ap (λ k. a ++ k ∷ more) e) h.1

texts_once : (a b x y : List ℕ) → a ++ x ≡ b ++ y → HasNoSection a → Follows a x → HasNoSection b → Follows b y → (a ≡ b) × (x ≡ y)
texts_once a b x y e f s g t = by (compare a b x y e) where
  by : Compared a b x y → (a ≡ b) × (x ≡ y)
  by (inl h) = h
  by (inr (inl h)) = absurd (text_ends a b x y h s g)
  by (inr (inr h)) = absurd (text_ends b a y x h t f)

-- SECTIONS

-- the line's end, which at the end of the input may be missing
abbrev AreEnds : List ℕ → List ℕ → List ℕ → Type 0
AreEnds feed text rest = (feed ≡ 10 ∷ []) ⊎ ((feed ≡ []) × (text ≡ []) × (rest ≡ []))

nothing : (feed text rest : List ℕ) → (feed ≡ []) × (text ≡ []) × (rest ≡ []) → feed ++ (text ++ rest) ≡ []
nothing feed text rest h = rw (h.0, h.1, h.2) refl

ends_line : (feed text rest : List ℕ) → AreEnds feed text rest → EndsLine (feed ++ (text ++ rest))
ends_line feed text rest (inl e) = inr (ap (λ (l : List ℕ). starts_with 10 (l ++ (text ++ rest))) e)
ends_line feed text rest (inr h) = inl (nothing feed text rest h)

fed : (feed more : List ℕ) → feed ≡ 10 ∷ [] → feed ++ more ≡ 10 ∷ more
fed feed more e = ap (λ (l : List ℕ). l ++ more) e

feed_some : (f g t u r s : List ℕ) → f ++ (t ++ r) ≡ g ++ (u ++ s) → f ≡ 10 ∷ [] → (g ≡ []) × (u ≡ []) × (s ≡ []) → ⊥
feed_some f g t u r s e a b = let k : 10 ∷ (t ++ r) ≡ [] = sym (fed f (t ++ r) a) ∙ e ∙ nothing g u s b in cc

feeds_once : (f g t u r s : List ℕ) → f ++ (t ++ r) ≡ g ++ (u ++ s) → AreEnds f t r → AreEnds g u s → (f ≡ g) × (t ++ r ≡ u ++ s)
feeds_once f g t u r s e (inl a) (inl b) =
    let k : 10 ∷ (t ++ r) ≡ 10 ∷ (u ++ s) = sym (fed f (t ++ r) a) ∙ e ∙ fed g (u ++ s) b in
    let m : t ++ r ≡ u ++ s = cc in
    (a ∙ sym b, m)
feeds_once f g t u r s e (inl a) (inr b) = absurd (feed_some f g t u r s e a b)
feeds_once f g t u r s e (inr a) (inl b) = absurd (feed_some g f u t s r (sym e) b a)
feeds_once f g t u r s e (inr a) (inr b) = (a.0 ∙ sym b.0, nothing [] t r (refl, a.1, a.2) ∙ sym (nothing [] u s (refl, b.1, b.2)))

abbrev block_made : ℕ → List ℕ → ℕ → List ℕ → Block
block_made a l f t = record { at = a; line = l; from = f; text = t }

block_same : (a b f g : ℕ) (l m t u : List ℕ) → a ≡ b → l ≡ m → f ≡ g → t ≡ u → block_made a l f t ≡ block_made b m g u
block_same a b f g l m t u p q r s = rw (p, q, r, s) refl

block_once : (at : ℕ) (bytes r s : List ℕ) (b c : Block) → IsBlock at bytes b r → IsBlock at bytes c s → (b ≡ c) × (r ≡ s)
block_once at bytes r s b c g h =
    let k = lines_once b.line c.line (g.feed ++ (b.text ++ r)) (h.feed ++ (c.text ++ s)) (sym g.parts ∙ h.parts) g.is_line (ends_line g.feed b.text r g.ends) h.is_line (ends_line h.feed c.text s h.ends) in
    let f = feeds_once g.feed h.feed b.text c.text r s k.1 g.ends h.ends in
    let t = texts_once b.text c.text r s f.1 g.free g.next h.free h.next in
    let o : b.from ≡ c.from = g.from_is ∙ ap (λ (l : List ℕ). at + length (l ++ g.feed)) k.0 ∙ ap (λ (l : List ℕ). at + length (c.line ++ l)) f.0 ∙ sym h.from_is in
    (block_same b.at c.at b.from c.from b.line c.line b.text c.text (g.at_is ∙ sym h.at_is) k.0 o t.0, t.1)

marked_some : (line more : List ℕ) → starts_with 64 line ≡ true → line ++ more ≡ [] → ⊥
marked_some [] more h e = cc
marked_some (b ∷ line) more h e = cc

block_some : (at : ℕ) (bytes r : List ℕ) (b : Block) → IsBlock at bytes b r → bytes ≡ [] → ⊥
block_some at bytes r b g e = marked_some b.line (g.feed ++ (b.text ++ r)) g.marked (sym g.parts ∙ e)

blocks_once : (at : ℕ) (bytes : List ℕ) (bs cs : List Block) → AreBlocks at bytes bs → AreBlocks at bytes cs → bs ≡ cs
blocks_once at bytes [] [] g h = refl
blocks_once at bytes [] (c ∷ cs) g (s, h, hs) = absurd (block_some at bytes s c h g)
blocks_once at bytes (b ∷ bs) [] (r, g, gs) h = absurd (block_some at bytes r b g h)
blocks_once at bytes (b ∷ bs) (c ∷ cs) (r, g, gs) (s, h, hs) =
    let k = block_once at bytes r s b c g h in
    let i : AreBlocks (b.from + length b.text) r cs = subst (λ (l : List ℕ). AreBlocks (b.from + length b.text) l cs) (sym k.1) (subst (λ (x : Block). AreBlocks (x.from + length x.text) s cs) (sym k.0) hs) in
    rw (k.0, blocks_once (b.from + length b.text) r bs cs gs i) refl

pub laid_out_once : (bytes a b : List ℕ) (bs cs : List Block) → IsLaidOut bytes a bs → IsLaidOut bytes b cs → (a ≡ b) × (bs ≡ cs)
laid_out_once bytes a b bs cs g h =
    let k = texts_once a b g.rest h.rest (sym g.parts ∙ h.parts) g.free g.next h.free h.next in
    let i : AreBlocks (length a) g.rest cs = subst (λ (l : List ℕ). AreBlocks (length a) l cs) (sym k.1) (subst (λ (l : List ℕ). AreBlocks (length l) h.rest cs) (sym k.0) h.sections) in
    (k.0, blocks_once (length a) g.rest bs cs g.sections i)

-- SECTION LINES

names_once : (line n m : List ℕ) → SaysSession n line → SaysSession m line → n ≡ m
names_once line n m g h =
    let x : List ℕ = g.1.0 in
    let y : List ℕ = h.1.0 in
    let a : drop 9 line ≡ n ++ x = ap (drop 9) g.1.1 in
    let b : drop 9 line ≡ m ++ y = ap (drop 9) h.1.1 in
    (front_once is_name_byte n m x y (sym a ∙ b) (name_bytes n g.0) (blank_stops x g.1.2) (name_bytes m h.0) (blank_stops y h.1.2)).0

-- the byte behind `@se`, and that behind `@`, tell the forms
no_setup_session : (line x n y : List ℕ) → line ≡ codes "@setup" ++ x → line ≡ (codes "@session " ++ n) ++ y → ⊥
no_setup_session line x n y g h = true≢false (ap (λ (l : List ℕ). starts_with 116 (drop 3 l)) (sym g ∙ h))

no_setup_order : (line x y : List ℕ) → line ≡ codes "@setup" ++ x → line ≡ codes "@order" ++ y → ⊥
no_setup_order line x y g h = true≢false (ap (λ (l : List ℕ). starts_with 115 (drop 1 l)) (sym g ∙ h))

no_session_order : (line n x y : List ℕ) → line ≡ (codes "@session " ++ n) ++ x → line ≡ codes "@order" ++ y → ⊥
no_session_order line n x y g h = true≢false (ap (λ (l : List ℕ). starts_with 115 (drop 1 l)) (sym g ∙ h))

pub header_once : (line : List ℕ) (g h : Header) → IsHeader line g → IsHeader line h → g ≡ h
header_once line Setup Setup p q = refl
header_once line Setup (Session m) p q = absurd (no_setup_session line p.0 m q.1.0 p.1 q.1.1)
header_once line Setup Order p q = absurd (no_setup_order line p.0 q.0 p.1 q.1)
header_once line Setup Other p q = absurd (q.0 p)
header_once line (Session n) Setup p q = absurd (no_setup_session line q.0 n p.1.0 q.1 p.1.1)
header_once line (Session n) (Session m) p q = ap Session (names_once line n m p q)
header_once line (Session n) Order p q = absurd (no_session_order line n p.1.0 q.0 p.1.1 q.1)
header_once line (Session n) Other p q = absurd (q.2 n p)
header_once line Order Setup p q = absurd (no_setup_order line q.0 p.0 q.1 p.1)
header_once line Order (Session m) p q = absurd (no_session_order line m q.1.0 p.0 q.1.1 p.1)
header_once line Order Order p q = refl
header_once line Order Other p q = absurd (q.1 p)
header_once line Other Setup p q = absurd (p.0 q)
header_once line Other (Session m) p q = absurd (p.2 m q)
header_once line Other Order p q = absurd (p.1 q)
header_once line Other Other p q = refl

-- THE WORDS OF AN ORDER

word_ends : (w v x y : List ℕ) → w ++ x ≡ v ++ y → Longer w v x y → IsWord w x → IsWord v y → ⊥
word_ends w v x y e (c, more, p, q) g h = by g.ends where
  by : (x ≡ []) ⊎ ((starts is_white x ≡ true) ⊎ ((back : List ℕ) × (x ≡ codes "--" ++ back))) → ⊥
  by (inl n) = cc
  by (inr (inl s)) = both_ways (is_white c) (not-true (is_white c) (all_at (λ b. not (is_white b)) w more c (sym (ap (list_all (λ b. not (is_white b))) p) ∙ h.dark))) (sym (ap (starts is_white) q) ∙ s)
  by (inr (inr (back, n))) =
      let l = h.whole w back (sym e ∙ ap (λ (z : List ℕ). w ++ z) n) in
      let m = ap length p ∙ length-append w (c ∷ more) in
      omega arith

words_once : (w v x y : List ℕ) → w ++ x ≡ v ++ y → IsWord w x → IsWord v y → (w ≡ v) × (x ≡ y)
words_once w v x y e g h = by (compare w v x y e) where
  by : Compared w v x y → (w ≡ v) × (x ≡ y)
  by (inl k) = k
  by (inr (inl k)) = absurd (word_ends w v x y e k g h)
  by (inr (inr k)) = absurd (word_ends v w y x (sym e) k h g)

word_some : (word rest : List ℕ) → word ≢ [] → [] ≡ word ++ rest → ⊥
word_some [] rest n e = n refl
word_some (b ∷ word) rest n e = cc

-- where no word is left none follows
no_word : (text gap word rest : List ℕ) → Gap text [] → text ≡ gap ++ (word ++ rest) → Gap gap (word ++ rest) → IsWord word rest → ⊥
no_word text gap word rest g e h w = word_some word rest w.some (gap_once text gap [] (word ++ rest) (append-nil text ∙ e) g h).1

abbrev turn_made : ℕ → List ℕ → Turn
turn_made a n = record { at = a; name = n }

turn_same : (a b : ℕ) (n m : List ℕ) → a ≡ b → n ≡ m → turn_made a n ≡ turn_made b m
turn_same a b n m p q = rw (p, q) refl

pub turns_once : (at : ℕ) (text : List ℕ) (ts us : List Turn) → AreTurns at text ts → AreTurns at text us → ts ≡ us
turns_once at text [] [] g h = refl
turns_once at text [] (u ∷ us) g (gap, rest, e, b, w, a, more) = absurd (no_word text gap u.name rest g e b w)
turns_once at text (t ∷ ts) [] (gap, rest, e, b, w, a, more) h = absurd (no_word text gap t.name rest h e b w)
turns_once at text (t ∷ ts) (u ∷ us) (g, r, e, b, w, a, gs) (h, s, f, c, v, d, hs) =
    let k = gap_once g h (t.name ++ r) (u.name ++ s) (sym e ∙ f) b c in
    let m = words_once t.name u.name r s k.1 w v in
    let o : t.at ≡ u.at = a ∙ ap (λ (l : List ℕ). at + length l) k.0 ∙ sym d in
    let n : t ≡ u = turn_same t.at u.at t.name u.name o m.0 in
    let i : AreTurns (t.at + length t.name) r us = subst (λ (l : List ℕ). AreTurns (t.at + length t.name) l us) (sym m.1) (subst (λ (x : Turn). AreTurns (x.at + length x.name) s us) (sym n) hs) in
    rw (n, turns_once (t.at + length t.name) r ts us gs i) refl
