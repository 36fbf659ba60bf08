-- The sections of the input, one behind another, and where their parts stand.
use Rattle.std.proofs.Common.{◌≡◌, ◌≢◌, ◌⊎◌, inl, inr, ℕ, ◌+◌, ◌-◌, ◌≤◌, ◌<◌, true, List, [], ◌∷◌, ◌++◌, length, map, take, drop, refl, sym, ap, ◌∙◌, subst, arith, append_assoc}
use Rattle.std.specs.List.{AllByRecursion, AllZip, list_all}
use Rattle.std.proofs.lemmas.Bool.{and_parts}
use Rattle.std.proofs.lemmas.Bool.Decides.{nat_tests}
use Rattle.std.proofs.lemmas.List.{take-append-drop, take-take, take_at, drop-take, drop-drop, length-take-le, length-append, length-drop, append-nil, drop_all}
use Rattle.std.proofs.Math.Seq.{take-add}
use Rattle.pg_lex.specs.Bytes.{starts_with}
use Rattle.pg_script.specs.declared.statements.Span.{Span}
use Rattle.pg_script.specs.declared.header.Form.{Form}
use Rattle.pg_script.specs.declared.header.Form.TheVariants as forms
use Rattle.pg_script.specs.declared.layout.BlockSpan.{BlockSpan}
use Rattle.pg_script.specs.declared.parts.Content.{Content}
use Rattle.pg_script.specs.declared.parts.Content.TheVariants as contents
use Rattle.pg_script.specs.declared.parts.PartSpan.{PartSpan}
use Rattle.pg_script.specs.Layout.{BeginsLine, Block, IsBlock, AreBlocks, Header, Setup, Session, Order, Other, IsHeader, is_name_byte, AreTurns}
use Rattle.pg_script.specs.Statements.{Statement, IsPiece, AreStatements, HasStatements, statement_of}
use Rattle.pg_script.specs.Script.{HasContent, IsPart}
use Rattle.pg_script.specs.Passes.Spans.{Lies as LiesIn, HasSpans, span_of}
use Rattle.pg_script.specs.Passes.{cut, statement_at, turn_at, header_of, header_in, statements_in, turns_in, parts_of, text_at, block_of, IsBlockSpan, IsFree, FormFits, IsContent, Rise, HasPlainName, Separates, AreSpread, IsPartSpan, HasPartSpans}
use Rattle.pg_script.proofs.Passes.Lines.{feed_separates}
use Rattle.pg_script.proofs.Passes.Turns.{turns_rise}
use Rattle.pg_script.proofs.Passes.SectionLines.{name_bytes}

-- THE STATEMENTS OF A TEXT

-- a cut of a text is a cut of the whole
cut_within : (bytes : List ℕ) (from to m k : ℕ) → m + k ≤ to - from → take k (drop m (text_at bytes from to)) ≡ take k (drop (from + m) bytes)
cut_within bytes from to m k h =
    let n : to - from ≡ m + (to - from - m) = omega arith in
    ap (λ j. take k (drop m (take j (drop from bytes)))) n ∙ ap (take k) (drop-take m (to - from - m) (drop from bytes))
    ∙ take-take k (to - from - m) (drop m (drop from bytes)) (omega arith) ∙ ap (take k) (drop-drop m from bytes)

text_len : (bytes : List ℕ) (from to : ℕ) → from ≤ to → to ≤ length bytes → length (text_at bytes from to) ≡ to - from
text_len bytes from to h w = length-take-le (to - from) (drop from bytes) (omega (arith, length-drop from bytes))

statement_same : (s : Statement) (b : List ℕ) → s.bytes ≡ b → s ≡ record { from = s.from; to = s.to; bytes = b }
statement_same s b e = rw (← e) refl

one_found : (bytes : List ℕ) (from to : ℕ) (s : Statement) → from ≤ to → to ≤ length bytes → LiesIn from (text_at bytes from to) s → s ≡ statement_at bytes (span_of s)
one_found bytes from to s h w l =
    let n : length (text_at bytes from to) ≡ to - from = text_len bytes from to h w in
    let k : from + (s.from - from) ≡ s.from = omega (arith, l.low) in
    statement_same s (cut bytes (span_of s))
    (l.bytes ∙ cut_within bytes from to (s.from - from) (s.to - s.from) (omega (arith, l.low, l.some, l.high, n)) ∙ ap (λ j. take (s.to - s.from) (drop j bytes)) k)

all_found : (bytes : List ℕ) (from to : ℕ) (found : List Statement) → from ≤ to → to ≤ length bytes → AllByRecursion (LiesIn from (text_at bytes from to)) found → found ≡ map (statement_at bytes) (map span_of found)
all_found bytes from to [] h w a = refl
all_found bytes from to (s ∷ ss) h w a =
    ap (λ x. x ∷ ss) (one_found bytes from to s h w a.0) ∙ ap (λ xs. statement_at bytes (span_of s) ∷ xs) (all_found bytes from to ss h w a.1)

pub statements_found : (bytes : List ℕ) (from to : ℕ) (spans : List Span) → from ≤ to → to ≤ length bytes → HasSpans from (text_at bytes from to) spans → HasStatements from (text_at bytes from to) (map (statement_at bytes) spans)
statements_found bytes from to spans h w s =
    subst (HasStatements from (text_at bytes from to)) (all_found bytes from to s.found h w s.each ∙ ap (map (statement_at bytes)) (sym s.spans_are)) s.statements

-- THEIR PLACES

abbrev froms : List Statement → List ℕ
froms = map (λ s. s.from)

rise_low : (a b high : ℕ) (ps : List ℕ) → a ≤ b → Rise b high ps → Rise a high ps
rise_low a b high [] h r = tt
rise_low a b high (p ∷ ps) h r = (omega (arith, r.0), r.1, r.2)

body_some : (body : List ℕ) → body ≢ [] → 0 < length body
body_some [] h = absurd (h refl)
body_some (b ∷ bs) h = omega arith

-- the statement of a piece, and those behind it
piece_rises : (at low mid high : ℕ) (p behind : List ℕ) (here more : List Statement) → IsPiece at p behind here → low ≤ at → at + length p ≤ mid → mid ≤ high → Rise mid high (froms more) → Rise low high (froms (here ++ more))
piece_rises at low mid high p behind here more h l m u r = by (ap length h.parts ∙ length-append h.gap h.body) h.is where
  by : length p ≡ length h.gap + length h.body → ((h.body ≡ []) × (here ≡ [])) ⊎ ((h.body ≢ []) × (here ≡ statement_of (at + length h.gap) h.body (take 1 behind) ∷ [])) → Rise low high (froms (here ++ more))
  by len (inl k) = rw k.1 (rise_low low mid high (froms more) (omega arith) r)
  by len (inr k) = let some : 0 < length h.body = body_some h.body k.0 in rw k.1 (omega arith, omega arith, rise_low (at + length h.gap) mid high (froms more) (omega arith) r)

append_none : (xs : List Statement) → xs ++ [] ≡ xs
append_none xs = append-nil xs

are_rise : (at low high : ℕ) (text : List ℕ) (pieces : List (List ℕ)) (found : List Statement) → AreStatements at text pieces found → low ≤ at → at + length text ≤ high → Rise low high (froms found)
are_rise at low high text [] found h l u = absurd h
are_rise at low high text (p ∷ []) found h l u =
    let e : length text ≡ length p = ap length h.0 in
    subst (λ (xs : List Statement). Rise low high (froms xs)) (append-nil found) (piece_rises at low high high p [] found [] h.2 l (omega arith) (omega arith) tt)
are_rise at low high text (p ∷ q ∷ ps) found (rest, here, more, e, uncut, piece, are, all) l u =
    let n : length text ≡ length p + (1 + length rest) = ap length e ∙ length-append p (59 ∷ rest) ∙ omega arith in
    rw all (piece_rises at low (at + (length p + 1)) high p (59 ∷ rest) here more piece l (omega arith) (omega arith) (are_rise (at + (length p + 1)) (at + (length p + 1)) high rest (q ∷ ps) more are (omega arith) (omega arith)))

pub statements_rise : (at low high : ℕ) (text : List ℕ) (found : List Statement) → HasStatements at text found → low ≤ at → at + length text ≤ high → Rise low high (froms found)
statements_rise at low high text found h l u = are_rise at low high text h.0 found h.1 l u

-- ONE SECTION

content_header : (bytes line : List ℕ) (at n from to : ℕ) (form : Form) (content : Content) → line ≡ take n (drop at bytes) → n ≤ length (drop at bytes) → FormFits n form → IsContent bytes at from to form content → header_of line form ≡ header_in bytes content
content_header bytes line at n from to forms.Setup (contents.Setup spans) e w f c = refl
content_header bytes line at n from to (forms.Session len) (contents.Session name spans) e w f c =
    let m : n ≡ 9 + (n - 9) = omega arith in
    let back : at + 9 + len - (at + 9) ≡ len = omega arith in
    let one : take len (drop 9 line) ≡ take len (drop (at + 9) bytes) =
    ap (λ (l : List ℕ). take len (drop 9 l)) (e ∙ ap (λ k. take k (drop at bytes)) m) ∙ ap (take len) (drop-take 9 (n - 9) (drop at bytes)) ∙ take-take len (n - 9) (drop 9 (drop at bytes)) (omega arith) ∙ ap (take len) (drop-drop 9 at bytes) in
    ap Session (one ∙ sym (ap (λ k. take k (drop (at + 9) bytes)) back) ∙ sym (ap (cut bytes) c.0))
content_header bytes line at n from to forms.Order (contents.Order words) e w f c = refl
content_header bytes line at n from to forms.Other contents.Other e w f c = refl
content_header bytes line at n from to forms.Setup (contents.Session name spans) e w f c = absurd c
content_header bytes line at n from to forms.Setup (contents.Order words) e w f c = absurd c
content_header bytes line at n from to forms.Setup contents.Other e w f c = absurd c
content_header bytes line at n from to (forms.Session len) (contents.Setup spans) e w f c = absurd c
content_header bytes line at n from to (forms.Session len) (contents.Order words) e w f c = absurd c
content_header bytes line at n from to (forms.Session len) contents.Other e w f c = absurd c
content_header bytes line at n from to forms.Order (contents.Setup spans) e w f c = absurd c
content_header bytes line at n from to forms.Order (contents.Session name spans) e w f c = absurd c
content_header bytes line at n from to forms.Order contents.Other e w f c = absurd c
content_header bytes line at n from to forms.Other (contents.Setup spans) e w f c = absurd c
content_header bytes line at n from to forms.Other (contents.Session name spans) e w f c = absurd c
content_header bytes line at n from to forms.Other (contents.Order words) e w f c = absurd c

-- what the content says of statements and words, and that they stand in the text
pub record Holds (bytes : List ℕ) (low from to : ℕ) (b : Block) (content : Content) : Type 0 where
  pub has : HasContent (header_in bytes content) b (statements_in bytes content) (turns_in bytes content)
  pub statements : Rise low to (froms (statements_in bytes content))
  pub turns : Rise low to (map (λ t. t.at) (turns_in bytes content))

content_holds : (bytes : List ℕ) (at from to : ℕ) (b : Block) (form : Form) (content : Content) → b.from ≡ from → b.text ≡ text_at bytes from to → at ≤ from → from + length b.text ≤ to → IsContent bytes at from to form content → Holds bytes at from to b content
content_holds bytes at from to b forms.Setup (contents.Setup spans) e t l u c =
    let s : HasStatements b.from b.text (map (statement_at bytes) spans) = rw (e, t) c in
    record { has = (s, refl); statements = statements_rise b.from at to b.text (map (statement_at bytes) spans) s (omega arith) (omega arith); turns = tt }
content_holds bytes at from to b (forms.Session len) (contents.Session name spans) e t l u c =
    let s : HasStatements b.from b.text (map (statement_at bytes) spans) = rw (e, t) c.1 in
    record { has = (s, refl); statements = statements_rise b.from at to b.text (map (statement_at bytes) spans) s (omega arith) (omega arith); turns = tt }
content_holds bytes at from to b forms.Order (contents.Order words) e t l u c =
    let s : AreTurns b.from b.text (map (turn_at bytes) words) = rw (e, t) c in
    record { has = (refl, s); statements = tt; turns = turns_rise b.from at to b.text (map (turn_at bytes) words) s (omega arith) (omega arith) }
content_holds bytes at from to b forms.Other contents.Other e t l u c = record { has = (refl, refl); statements = tt; turns = tt }
content_holds bytes at from to b forms.Setup (contents.Session name spans) e t l u c = absurd c
content_holds bytes at from to b forms.Setup (contents.Order words) e t l u c = absurd c
content_holds bytes at from to b forms.Setup contents.Other e t l u c = absurd c
content_holds bytes at from to b (forms.Session len) (contents.Setup spans) e t l u c = absurd c
content_holds bytes at from to b (forms.Session len) (contents.Order words) e t l u c = absurd c
content_holds bytes at from to b (forms.Session len) contents.Other e t l u c = absurd c
content_holds bytes at from to b forms.Order (contents.Setup spans) e t l u c = absurd c
content_holds bytes at from to b forms.Order (contents.Session name spans) e t l u c = absurd c
content_holds bytes at from to b forms.Order contents.Other e t l u c = absurd c
content_holds bytes at from to b forms.Other (contents.Setup spans) e t l u c = absurd c
content_holds bytes at from to b forms.Other (contents.Session name spans) e t l u c = absurd c
content_holds bytes at from to b forms.Other (contents.Order words) e t l u c = absurd c

-- a section that another one follows ends with a line feed
none_begins : (rest : List ℕ) → rest ≡ [] → starts_with 64 rest ≡ true → ⊥
none_begins [] e h = cc
none_begins (b ∷ bs) e h = cc

ends_with_feed : (line feed text rest : List ℕ) → (feed ≡ 10 ∷ []) ⊎ ((feed ≡ []) × (text ≡ []) × (rest ≡ [])) → BeginsLine text → starts_with 64 rest ≡ true → (front : List ℕ) × (line ++ (feed ++ text) ≡ front ++ 10 ∷ [])
ends_with_feed line feed text rest (inr h) b s = absurd (none_begins rest h.2 s)
ends_with_feed line feed text rest (inl h) (inl b) s = (line, rw (h, b) refl)
ends_with_feed line feed text rest (inl h) (inr (lines, b)) s = (line ++ (10 ∷ lines), rw (h, b) (sym (append_assoc line (10 ∷ lines) (10 ∷ []))))

section_apart : (bytes : List ℕ) (at end : ℕ) (b : Block) → end ≤ length bytes → at ≤ end → IsBlock at (drop at bytes) b (drop end bytes) → end ≡ b.from + length b.text → (drop end bytes ≡ []) ⊎ ((starts_with 64 (drop end bytes) ≡ true) × Separates bytes end)
section_apart bytes at end b w l h e = by h.next where
  by : (drop end bytes ≡ []) ⊎ ((starts_with 64 (drop end bytes) ≡ true) × BeginsLine b.text) → (drop end bytes ≡ []) ⊎ ((starts_with 64 (drop end bytes) ≡ true) × Separates bytes end)
  by (inl n) = inl n
  by (inr (s, f)) =
      let k = ends_with_feed b.line h.feed b.text (drop end bytes) h.ends f s in
      let parts : drop at bytes ≡ (b.line ++ (h.feed ++ b.text)) ++ drop end bytes =
      h.parts ∙ ap (λ (x : List ℕ). b.line ++ x) (sym (append_assoc h.feed b.text (drop end bytes))) ∙ sym (append_assoc b.line (h.feed ++ b.text) (drop end bytes)) in
      let long : length (b.line ++ (h.feed ++ b.text)) ≡ end - at = omega (arith, ap length parts, length-append (b.line ++ (h.feed ++ b.text)) (drop end bytes), length-drop at bytes, length-drop end bytes) in
      let front : take (end - at) (drop at bytes) ≡ b.line ++ (h.feed ++ b.text) = ap (take (end - at)) parts ∙ take_at (b.line ++ (h.feed ++ b.text)) (drop end bytes) (end - at) long in
      let all : take end bytes ≡ (take at bytes ++ k.0) ++ 10 ∷ [] =
      ap (λ n. take n bytes) (let m : end ≡ at + (end - at) = omega arith in m) ∙ take-add at (end - at) bytes ∙ ap (λ (x : List ℕ). take at bytes ++ x) (front ∙ k.1) ∙ sym (append_assoc (take at bytes) k.0 (10 ∷ [])) in
      inr (s, feed_separates bytes (take at bytes ++ k.0) end w all)

byte_ascii : (b : ℕ) → is_name_byte b ≡ true → b < 128
byte_ascii b h = grind (arith, nat_tests)

name_ascii : (bs : List ℕ) → list_all is_name_byte bs ≡ true → AllByRecursion (λ b. b < 128) bs
name_ascii [] h = tt
name_ascii (b ∷ bs) h = let p = and_parts (is_name_byte b) (list_all is_name_byte bs) h in (byte_ascii b p.0, name_ascii bs p.1)

plain_name : (line : List ℕ) (h : Header) → IsHeader line h → HasPlainName h
plain_name line Setup h = tt
plain_name line (Session name) h = name_ascii name (name_bytes name h.0)
plain_name line Order h = tt
plain_name line Other h = tt

pub part_is : (bytes left line : List ℕ) (at : ℕ) (b : BlockSpan) (form : Form) (content : Content) → at ≤ length bytes → left ≡ drop at bytes → line ≡ take b.line left → IsBlockSpan left b
    → IsHeader line (header_of line form) → FormFits (length line) form → IsContent bytes at (at + b.from) (at + b.to) form content
    → IsPartSpan bytes at (record { at = at; end = at + b.to; content = content })
part_is bytes left line at b form content within e l s is fits c =
    let n : length left ≡ length bytes - at = ap length e ∙ length-drop at bytes in
    let whole : Block = block_of at left b in
    let mid : ℕ = b.to - b.from in
    let end : drop b.to left ≡ drop (at + b.to) bytes = ap (drop b.to) e ∙ drop-drop b.to at bytes in
    let block : IsBlock at (drop at bytes) whole (drop (at + b.to) bytes) = subst (λ (r : List ℕ). IsBlock at (drop at bytes) whole r) end (subst (λ (x : List ℕ). IsBlock at x whole (drop b.to left)) e (s.is at)) in
    let gap : at + b.to - (at + b.from) ≡ mid = omega (arith, s.mid) in
    let text : whole.text ≡ text_at bytes (at + b.from) (at + b.to) =
    ap (take mid) (ap (drop b.from) e ∙ drop-drop b.from at bytes) ∙ sym (ap (λ k. take k (drop (at + b.from) bytes)) gap) in
    let long : length whole.text ≡ mid = length-take-le mid (drop b.from left) (omega (arith, length-drop b.from left, s.high)) in
    let line_len : length line ≡ b.line = ap length l ∙ length-take-le b.line left (omega (arith, s.low, s.mid, s.high)) in
    let ends : at + b.to ≡ (at + b.from) + length whole.text = omega (arith, long, s.mid) in
    let high : at + b.to ≤ length bytes = omega (arith, s.high, n) in
    let fit : FormFits b.line form = subst (λ k. FormFits k form) line_len fits in
    let header : header_of line form ≡ header_in bytes content = content_header bytes line at b.line (at + b.from) (at + b.to) form content (l ∙ ap (take b.line) e) (omega (arith, s.low, s.mid, s.high, ap length e)) fit c in
    let holds : Holds bytes at (at + b.from) (at + b.to) whole content = content_holds bytes at (at + b.from) (at + b.to) whole form content refl text (omega arith) (omega (arith, long, s.mid)) c in
    record {
      block = whole;
      is_block = block;
      end_is = ends;
      within = high;
      is_part = record { at = refl; header = subst (IsHeader whole.line) header (subst (λ (x : List ℕ). IsHeader x (header_of line form)) l is); content = holds.has };
      lies = record { at = refl; some = omega (arith, s.some, s.mid); statements = holds.statements; turns = holds.turns; named = plain_name line (header_in bytes content) (subst (IsHeader line) header is) };
      apart = section_apart bytes at (at + b.to) whole high (omega arith) block ends;
    }

-- ALL SECTIONS

-- the sections from a place on
pub record Tail (bytes : List ℕ) (at : ℕ) (spans : List PartSpan) : Type 0 where
  pub blocks : List Block
  pub are : AreBlocks at (drop at bytes) blocks
  pub each : AllZip IsPart blocks (parts_of bytes spans)
  pub spread : AreSpread bytes at (parts_of bytes spans)

pub tail_none : (bytes : List ℕ) (at : ℕ) → length bytes ≤ at → Tail bytes at []
tail_none bytes at h = record { blocks = []; are = drop_all at bytes h; each = tt; spread = tt }

no_block : (at : ℕ) (b : Block) (rest : List ℕ) → IsBlock at [] b rest → ⊥
no_block at b rest h = by b.line h.parts h.marked where
  by : (line : List ℕ) → [] ≡ line ++ (h.feed ++ (b.text ++ rest)) → starts_with 64 line ≡ true → ⊥
  by [] e s = cc
  by (c ∷ cs) e s = cc

none_left : (bytes : List ℕ) (at : ℕ) (spans : List PartSpan) (bs : List Block) → drop at bytes ≡ [] → AreBlocks at (drop at bytes) bs → AllZip IsPart bs (parts_of bytes spans) → parts_of bytes spans ≡ []
none_left bytes at [] bs e a z = refl
none_left bytes at (p ∷ ps) [] e a z = absurd z
none_left bytes at (p ∷ ps) (b ∷ bs) e a z = absurd (no_block at b a.0 (subst (λ (x : List ℕ). IsBlock at x b a.0) e a.1))

pub tail_more : (bytes : List ℕ) (at : ℕ) (p : PartSpan) (spans : List PartSpan) → IsPartSpan bytes at p → Tail bytes p.end spans → Tail bytes at (p ∷ spans)
tail_more bytes at p spans h t = record {
  blocks = h.block ∷ t.blocks;
  are = (drop p.end bytes, h.is_block, subst (λ n. AreBlocks n (drop p.end bytes) t.blocks) h.end_is t.are);
  each = (h.is_part, t.each);
  spread = (p.end, h.lies, by h.apart, t.spread);
} where
  by : (drop p.end bytes ≡ []) ⊎ ((starts_with 64 (drop p.end bytes) ≡ true) × Separates bytes p.end) → (parts_of bytes spans ≡ []) ⊎ Separates bytes p.end
  by (inl n) = inl (none_left bytes p.end spans t.blocks n t.are t.each)
  by (inr k) = inr k.1

-- the sections from a place on complete those found
pub record Gathers (bytes : List ℕ) (head : ℕ) (out : List PartSpan) (at : ℕ) : Type 0 where
  pub within : at ≤ length bytes
  pub begins : (drop at bytes ≡ []) ⊎ (starts_with 64 (drop at bytes) ≡ true)
  pub so_far : (more : List PartSpan) → Tail bytes at more → Tail bytes head (out ++ more)

begins_of : {P : Type 0} (n : ℕ) (bytes : List ℕ) → (drop n bytes ≡ []) ⊎ ((starts_with 64 (drop n bytes) ≡ true) × P) → (drop n bytes ≡ []) ⊎ (starts_with 64 (drop n bytes) ≡ true)
begins_of n bytes (inl h) = inl h
begins_of n bytes (inr h) = inr h.0

pub gathers_none : (bytes : List ℕ) (head : ℕ) → head ≤ length bytes → IsFree head bytes → Gathers bytes head [] head
gathers_none bytes head w f = record { within = w; begins = begins_of head bytes f.next; so_far = λ more t. t }

pub gathers_more : (bytes : List ℕ) (head at : ℕ) (out now : List PartSpan) (p : PartSpan) → Gathers bytes head out at → IsPartSpan bytes at p → now ≡ out ++ p ∷ [] → Gathers bytes head now p.end
gathers_more bytes head at out now p g h e = record {
  within = h.within;
  begins = begins_of p.end bytes h.apart;
  so_far = λ more t.
      subst (Tail bytes head) (sym (append_assoc out (p ∷ []) more) ∙ ap (λ (l : List PartSpan). l ++ more) (sym e)) (g.so_far (p ∷ more) (tail_more bytes at p more h t));
}

pub begins_here : (bytes : List ℕ) (at : ℕ) → at < length bytes → (drop at bytes ≡ []) ⊎ (starts_with 64 (drop at bytes) ≡ true) → starts_with 64 (drop at bytes) ≡ true
begins_here bytes at h (inl n) = absurd (let e : length bytes - at ≡ 0 = sym (length-drop at bytes) ∙ ap length n in omega arith)
begins_here bytes at h (inr s) = s

next_of : (n : ℕ) (bytes : List ℕ) → IsFree n bytes → (drop n bytes ≡ []) ⊎ ((starts_with 64 (drop n bytes) ≡ true) × BeginsLine (take n bytes))
next_of n bytes f = f.next

pub reading_is : (bytes : List ℕ) (head at : ℕ) (out : List PartSpan) → head ≤ length bytes → IsFree head bytes → Gathers bytes head out at → length bytes ≤ at → HasPartSpans bytes head out
reading_is bytes head at out w f g h =
    let t : Tail bytes head out = subst (Tail bytes head) (append-nil out) (g.so_far [] (tail_none bytes at h)) in
    let n : head ≡ length (take head bytes) = sym (length-take-le head bytes w) in
    record {
      within = w;
      read = record {
        blocks = t.blocks;
        laid_out = record { rest = drop head bytes; parts = sym (take-append-drop head bytes); free = f.free; next = f.next; sections = subst (λ k. AreBlocks k (drop head bytes) t.blocks) n t.are };
        each = t.each;
      };
      spread = t.spread;
    }
