-- The statements of a script are parts of its text.
use Rattle.std.proofs.Common.{◌≡◌, ◌≢◌, ℕ, zero, suc, ◌+◌, ◌≤◌, Bool, true, false, cond, List, [], ◌∷◌, ◌++◌, length, take, refl, sym, ap, ◌∙◌, subst, arith, inl, inr, ◌⊎◌, append_assoc, append-nil}
use Rattle.std.specs.Prelude.{get_or, slice_get}
use Rattle.std.specs.declared.option.Option.TheVariants.{Some}
use Rattle.std.specs.List.{AllZip}
use Rattle.std.specs.Str.{IsUtf8, IsCharBoundary}
use Rattle.std.proofs.lemmas.Str.{IsUtf8-between, IsCharBoundary-end}
use Rattle.std.proofs.lemmas.List.{length-append}
use Rattle.pg_keyed.specs.Lists.{Each, each_append}
use Rattle.pg_lex.specs.Bytes.{starts_with}
use Rattle.pg_script.specs.declared.script.Item.{Item}
use Rattle.pg_script.specs.declared.script.Item.TheVariants.{Sql, After}
use Rattle.pg_script.specs.declared.script.Section.{Section}
use Rattle.pg_script.specs.declared.script.Script.{Script}
use Rattle.pg_script.specs.Layout.{BeginsLine, Turn, Block, IsBlock, AreBlocks, Header, Setup, Session, Order, Other}
use Rattle.pg_script.specs.Statements.{Statement, statement_of, IsPiece, AreStatements}
use Rattle.pg_script.specs.Script.{Part, HasContent, IsPart, is_setup, setup_statements, IsItem, AreSessions, IsScript}
use Rattle.pg_script.specs.Legal.{no_section, items_of}
use Rattle.pg_lex.specs.Parts.{IsPartAt}
use Rattle.pg_script.specs.Whole.{ItemsArePlaced, ScriptsAreWhole}
use Rattle.pg_script.proofs.Whole.Boundaries.{CutsAt, cut_before, cut_after, begins_with, some_before, gap_cut}
use Rattle.pg_script.proofs.Whole.Counts.{few_items}
use Rattle.pg_script.proofs.Whole.Orders.{order_of_sessions}

-- A STATEMENT

part_at : (bytes : List ℕ) (from to : ℕ) → IsUtf8 bytes → from ≤ to → IsCharBoundary bytes from → IsCharBoundary bytes to → IsPartAt bytes from to
part_at bytes from to u w c d = record { ordered = w; within = d.0; utf8 = IsUtf8-between bytes from to u w c d }

abbrev pub IsPlaced : List ℕ → Statement → Type 0
IsPlaced bytes s = IsPartAt bytes s.from s.to

-- the text may be cut behind what stands behind a piece of its `;`
abbrev pub EndsAt : List ℕ → List ℕ → List ℕ → Type 0
EndsAt bytes front behind = CutsAt bytes (front ++ take 1 behind)

statement_placed : (bytes front gap body behind : List ℕ) → IsUtf8 bytes → CutsAt bytes (front ++ gap) → EndsAt bytes (front ++ (gap ++ body)) behind
    → IsPlaced bytes (statement_of (length front + length gap) body (take 1 behind))
statement_placed bytes front gap body behind u c d =
    let end = take 1 behind in
    let a : length (front ++ gap) ≡ length front + length gap = length-append front gap in
    let b : length ((front ++ (gap ++ body)) ++ end) ≡ length front + length gap + length (body ++ end) =
    omega (arith, length-append (front ++ (gap ++ body)) end, length-append front (gap ++ body), length-append gap body, length-append body end) in
    part_at bytes (length front + length gap) (length front + length gap + length (body ++ end)) u (omega arith) (subst (IsCharBoundary bytes) a c) (subst (IsCharBoundary bytes) b d)

-- THE STATEMENTS OF A TEXT

piece_placed : (bytes front piece behind tail : List ℕ) (at : ℕ) (found : List Statement) → IsUtf8 bytes → at ≡ length front → bytes ≡ front ++ (piece ++ (behind ++ tail)) → CutsAt bytes front → EndsAt bytes (front ++ piece) behind
    → IsPiece at piece behind found → Each (IsPlaced bytes) found
piece_placed bytes front piece behind tail at found u w e c d p = by p.is where
  by : ((p.body ≡ []) × (found ≡ [])) ⊎ ((p.body ≢ []) × (found ≡ statement_of (at + length p.gap) p.body (take 1 behind) ∷ [])) → Each (IsPlaced bytes) found
  by (inl h) = subst (Each (IsPlaced bytes)) (sym h.1) tt
  by (inr h) =
      let s : bytes ≡ front ++ (p.gap ++ ((p.body ++ behind) ++ tail)) =
      e ∙ ap (λ (l : List ℕ). front ++ l) (ap (λ (l : List ℕ). l ++ (behind ++ tail)) p.parts ∙ append_assoc p.gap p.body (behind ++ tail) ∙ ap (λ (l : List ℕ). p.gap ++ l) (sym (append_assoc p.body behind tail))) in
      let some : p.body ++ behind ≢ [] = some_before p.body behind h.0 in
      let k = gap_cut bytes front p.gap (p.body ++ behind) tail u s p.blank some c in
      let g = statement_placed bytes front p.gap p.body behind u k (subst (λ (l : List ℕ). EndsAt bytes (front ++ l) behind) p.parts d) in
      subst (Each (IsPlaced bytes)) (sym (h.1 ∙ ap (λ n. statement_of (n + length p.gap) p.body (take 1 behind) ∷ []) w)) (g, tt)

-- the text of a section, which stands in the bytes between what is before it and what is behind it
pub statements_placed : (bytes front tail : List ℕ) (pieces : List (List ℕ)) (at : ℕ) (text : List ℕ) (found : List Statement) → IsUtf8 bytes → at ≡ length front → bytes ≡ front ++ (text ++ tail)
    → CutsAt bytes front → CutsAt bytes (front ++ text) → AreStatements at text pieces found → Each (IsPlaced bytes) found
statements_placed bytes front tail [] at text found u w e c d h = absurd h
statements_placed bytes front tail (p ∷ []) at text found u w e c d h =
    let s : bytes ≡ front ++ (p ++ ([] ++ tail)) = e ∙ ap (λ (l : List ℕ). front ++ (l ++ tail)) h.0 in
    let end : EndsAt bytes (front ++ p) [] = subst (CutsAt bytes) (ap (λ (l : List ℕ). front ++ l) h.0 ∙ sym (append-nil (front ++ p))) d in
    piece_placed bytes front p [] tail at found u w s c end h.2
statements_placed bytes front tail (p ∷ q ∷ ps) at text found u w e c d (rest, here, more, t, uncut, piece, are, both) =
    let s : bytes ≡ front ++ (p ++ ((59 ∷ rest) ++ tail)) = e ∙ ap (λ (l : List ℕ). front ++ l) (ap (λ (l : List ℕ). l ++ tail) t ∙ append_assoc p (59 ∷ rest) tail) in
    let s2 : bytes ≡ (front ++ p) ++ 59 ∷ (rest ++ tail) = s ∙ sym (append_assoc front p (59 ∷ (rest ++ tail))) in
    let end : CutsAt bytes ((front ++ p) ++ 59 ∷ []) = cut_after bytes (front ++ p) 59 (rest ++ tail) u s2 (omega arith) in
    let s3 : bytes ≡ ((front ++ p) ++ 59 ∷ []) ++ (rest ++ tail) = s2 ∙ sym (append_assoc (front ++ p) (59 ∷ []) (rest ++ tail)) in
    let n : at + (length p + 1) ≡ length ((front ++ p) ++ 59 ∷ []) = omega (arith, w, length-append (front ++ p) (59 ∷ []), length-append front p) in
    let f : front ++ text ≡ ((front ++ p) ++ 59 ∷ []) ++ rest =
    ap (λ (l : List ℕ). front ++ l) t ∙ sym (append_assoc front p (59 ∷ rest)) ∙ sym (append_assoc (front ++ p) (59 ∷ []) rest) in
    let first = piece_placed bytes front p (59 ∷ rest) tail at here u w s c end piece in
    let others = statements_placed bytes ((front ++ p) ++ 59 ∷ []) tail (q ∷ ps) (at + (length p + 1)) rest more u n s3 end (subst (CutsAt bytes) f d) are in
    subst (Each (IsPlaced bytes)) (sym both) (each_append (IsPlaced bytes) here more first others)

-- THE STATEMENTS OF THE SECTIONS

abbrev pub PartIsPlaced : List ℕ → Part → Type 0
PartIsPlaced bytes p = Each (IsPlaced bytes) p.statements

-- the end of the input, or a section line, is a place to cut
pub rest_cut : (bytes front rest : List ℕ) → bytes ≡ front ++ rest → (rest ≡ []) ⊎ (starts_with 64 rest ≡ true) → CutsAt bytes front
rest_cut bytes front rest e (inl h) =
    let s : bytes ≡ front = e ∙ ap (λ (l : List ℕ). front ++ l) h ∙ append-nil front in
    subst (λ (l : List ℕ). IsCharBoundary bytes (length l)) s (IsCharBoundary-end bytes)
rest_cut bytes front rest e (inr h) =
    let m = begins_with 64 rest h in
    cut_before bytes front 64 m.0 (e ∙ ap (λ (l : List ℕ). front ++ l) m.1) (omega arith)

next_line : (text rest : List ℕ) → (rest ≡ []) ⊎ ((starts_with 64 rest ≡ true) × BeginsLine text) → (rest ≡ []) ⊎ (starts_with 64 rest ≡ true)
next_line text rest (inl h) = inl h
next_line text rest (inr h) = inr h.0

-- behind a section's line
line_cut : (bytes front line feed text rest : List ℕ) → IsUtf8 bytes → bytes ≡ front ++ (line ++ (feed ++ (text ++ rest))) → (feed ≡ 10 ∷ []) ⊎ ((feed ≡ []) × (text ≡ []) × (rest ≡ [])) → CutsAt bytes (front ++ (line ++ feed))
line_cut bytes front line feed text rest u e (inl h) =
    let s : bytes ≡ (front ++ line) ++ 10 ∷ (text ++ rest) = e ∙ sym (append_assoc front line (feed ++ (text ++ rest))) ∙ ap (λ (l : List ℕ). (front ++ line) ++ (l ++ (text ++ rest))) h in
    subst (CutsAt bytes) (append_assoc front line (10 ∷ []) ∙ ap (λ (l : List ℕ). front ++ (line ++ l)) (sym h)) (cut_after bytes (front ++ line) 10 (text ++ rest) u s (omega arith))
line_cut bytes front line feed text rest u e (inr (f, t, r)) =
    let s : bytes ≡ (front ++ (line ++ feed)) ++ (text ++ rest) =
    e ∙ ap (λ (l : List ℕ). front ++ l) (sym (append_assoc line feed (text ++ rest))) ∙ sym (append_assoc front (line ++ feed) (text ++ rest)) in
    let z : text ++ rest ≡ [] = ap (λ (l : List ℕ). l ++ rest) t ∙ r in
    rest_cut bytes (front ++ (line ++ feed)) (text ++ rest) s (inl z)

content_placed : (bytes front tail : List ℕ) (b : Block) (header : Header) (statements : List Statement) (turns : List Turn) → IsUtf8 bytes → b.from ≡ length front → bytes ≡ front ++ (b.text ++ tail) → CutsAt bytes front → CutsAt bytes (front ++ b.text)
    → HasContent header b statements turns → Each (IsPlaced bytes) statements
content_placed bytes front tail b Setup statements turns u w e c d h = statements_placed bytes front tail h.0.0 b.from b.text statements u w e c d h.0.1
content_placed bytes front tail b (Session name) statements turns u w e c d h = statements_placed bytes front tail h.0.0 b.from b.text statements u w e c d h.0.1
content_placed bytes front tail b Order statements turns u w e c d h = subst (Each (IsPlaced bytes)) (sym h.0) tt
content_placed bytes front tail b Other statements turns u w e c d h = subst (Each (IsPlaced bytes)) (sym h.0) tt

part_placed : (bytes front own rest : List ℕ) (at : ℕ) (b : Block) (p : Part) → IsUtf8 bytes → at ≡ length front → bytes ≡ front ++ own → IsBlock at own b rest → IsPart b p → PartIsPlaced bytes p
part_placed bytes front own rest at b p u w e k h =
    let s : bytes ≡ front ++ (b.line ++ (k.feed ++ (b.text ++ rest))) = e ∙ ap (λ (l : List ℕ). front ++ l) k.parts in
    let before = front ++ (b.line ++ k.feed) in
    let s2 : bytes ≡ before ++ (b.text ++ rest) =
    s ∙ ap (λ (l : List ℕ). front ++ l) (sym (append_assoc b.line k.feed (b.text ++ rest))) ∙ sym (append_assoc front (b.line ++ k.feed) (b.text ++ rest)) in
    let s3 : bytes ≡ (before ++ b.text) ++ rest = s2 ∙ sym (append_assoc before b.text rest) in
    let c = line_cut bytes front b.line k.feed b.text rest u s k.ends in
    let d = rest_cut bytes (before ++ b.text) rest s3 (next_line b.text rest k.next) in
    let n : b.from ≡ length before = omega (arith, k.from_is, w, length-append front (b.line ++ k.feed)) in
    content_placed bytes before rest b p.header p.statements p.turns u n s2 c d h.content

pub parts_placed : (bytes front own : List ℕ) (at : ℕ) (blocks : List Block) (parts : List Part) → IsUtf8 bytes → at ≡ length front → bytes ≡ front ++ own → AreBlocks at own blocks → AllZip IsPart blocks parts → Each (PartIsPlaced bytes) parts
parts_placed bytes front own at [] [] u w e k h = tt
parts_placed bytes front own at [] (p ∷ ps) u w e k h = absurd h
parts_placed bytes front own at (b ∷ bs) [] u w e k h = absurd h
parts_placed bytes front own at (b ∷ bs) (p ∷ ps) u w e (rest, k, more) h =
    let to = front ++ (b.line ++ (k.feed ++ b.text)) in
    let s : bytes ≡ to ++ rest =
    e ∙ ap (λ (l : List ℕ). front ++ l) (k.parts ∙ ap (λ (l : List ℕ). b.line ++ l) (sym (append_assoc k.feed b.text rest)) ∙ sym (append_assoc b.line (k.feed ++ b.text) rest)) ∙ sym (append_assoc front (b.line ++ (k.feed ++ b.text)) rest) in
    let n : b.from + length b.text ≡ length to =
    omega (arith, k.from_is, w, length-append front (b.line ++ (k.feed ++ b.text)), length-append b.line (k.feed ++ b.text), length-append k.feed b.text, length-append b.line k.feed) in
    (part_placed bytes front own rest at b p u w e k h.0, parts_placed bytes to rest (b.from + length b.text) bs ps u n s more h.1)

-- THE ITEMS OF THE SCRIPT

abbrev pub ItemIsPlaced : List ℕ → Item → Type 0
ItemIsPlaced bytes (Sql from to) = IsPartAt bytes from to
ItemIsPlaced bytes (After section n) = Unit {0}

abbrev pub SectionIsPlaced : List ℕ → Section → Type 0
SectionIsPlaced bytes section = Each (ItemIsPlaced bytes) section.items

item_placed : (bytes : List ℕ) (before : List Part) (s : Statement) (item : Item) → IsPlaced bytes s → IsItem before s item → ItemIsPlaced bytes item
item_placed bytes before s (Sql from to) h k = rw (k.1, k.2) h
item_placed bytes before s (After section n) h k = tt

items_placed : (bytes : List ℕ) (before : List Part) (statements : List Statement) (items : List Item) → Each (IsPlaced bytes) statements → AllZip (IsItem before) statements items → Each (ItemIsPlaced bytes) items
items_placed bytes before [] [] h k = tt
items_placed bytes before [] (i ∷ is) h k = absurd k
items_placed bytes before (s ∷ ss) [] h k = absurd k
items_placed bytes before (s ∷ ss) (i ∷ is) h k = (item_placed bytes before s i h.0 k.0, items_placed bytes before ss is h.1 k.1)

setup_placed : (bytes : List ℕ) (parts : List Part) → Each (PartIsPlaced bytes) parts → Each (IsPlaced bytes) (setup_statements parts)
setup_placed bytes [] h = tt
setup_placed bytes (p ∷ ps) h = each_append (IsPlaced bytes) (cond (is_setup p.header) p.statements []) (setup_statements ps) (by (is_setup p.header)) (setup_placed bytes ps h.1) where
  by : (t : Bool) → Each (IsPlaced bytes) (cond t p.statements [])
  by true = h.0
  by false = tt

sessions_placed : (bytes : List ℕ) (before parts : List Part) (sections : List Section) → Each (PartIsPlaced bytes) parts → AreSessions before parts sections → Each (SectionIsPlaced bytes) sections
sessions_placed bytes before [] sections h k = subst (Each (SectionIsPlaced bytes)) (sym k) tt
sessions_placed bytes before (p ∷ ps) sections h (inl k) = sessions_placed bytes (before ++ p ∷ []) ps sections h.1 k.1
sessions_placed bytes before (p ∷ ps) sections h (inr (section, more, e, s, k)) =
    subst (Each (SectionIsPlaced bytes)) (sym e) (items_placed bytes before p.statements section.items h.0 s.items, sessions_placed bytes (before ++ p ∷ []) ps more h.1 k)

pub sections_placed : (bytes : List ℕ) (script : Script) → IsScript bytes script → Each (SectionIsPlaced bytes) script.sections
sections_placed bytes script h =
    let laid = h.read.laid_out in
    let placed = parts_placed bytes h.head laid.rest (length h.head) h.read.blocks h.parts h.is_text.utf8 refl laid.parts laid.sections h.read.each in
    let first = items_placed bytes [] (setup_statements h.parts) h.setup.items (setup_placed bytes h.parts placed) h.is_setup.items in
    subst (Each (SectionIsPlaced bytes)) (sym h.sections) (first, sessions_placed bytes [] h.parts h.others placed h.are_sessions)

section_found : (bytes : List ℕ) (sections : List Section) (n : ℕ) → Each (SectionIsPlaced bytes) sections → SectionIsPlaced bytes (get_or sections n no_section)
section_found bytes [] n h = tt
section_found bytes (s ∷ ss) zero h = h.0
section_found bytes (s ∷ ss) (suc n) h = section_found bytes ss n h.1

item_found : (bytes : List ℕ) (items : List Item) (k : ℕ) (item : Item) → Each (ItemIsPlaced bytes) items → slice_get items k ≡ Some item → ItemIsPlaced bytes item
item_found bytes [] k item h e = absurd cc
item_found bytes (i ∷ is) zero item h e = let q : i ≡ item = cc in subst (ItemIsPlaced bytes) q h.0
item_found bytes (i ∷ is) (suc k) item h e = item_found bytes is k item h.1 e

pub items_are_placed : (bytes : List ℕ) (script : Script) → IsScript bytes script → ItemsArePlaced script
items_are_placed bytes script h n k from to e =
    let sections = sections_placed bytes script h in
    let p : IsPartAt bytes from to = item_found bytes (items_of script n) k (Sql from to) (section_found bytes script.sections n sections) e in
    subst (λ (l : List ℕ). IsPartAt l from to) (sym h.text) p

pub scripts_whole : ScriptsAreWhole
scripts_whole bytes script h = (items_are_placed bytes script h, order_of_sessions bytes script h, few_items bytes script h)
