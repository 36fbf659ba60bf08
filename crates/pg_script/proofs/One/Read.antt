-- An input is read in one way: one text before the first section line, and one list of sections with their statements and words.
use Rattle.std.proofs.Common.{◌≡◌, ℕ, List, refl, sym, ◌∙◌, subst}
use Rattle.std.specs.List.{AllZip}
use Rattle.pg_script.specs.Layout.{Block, Header, Setup, Session, Order, Other, Turn}
use Rattle.pg_script.specs.Statements.{Statement}
use Rattle.pg_script.specs.Script.{Part, HasContent, IsPart, IsRead}
use Rattle.pg_script.proofs.Texts.Cuts.{zips_once}
use Rattle.pg_script.proofs.One.Layout.{laid_out_once, header_once, turns_once}
use Rattle.pg_script.proofs.One.Statements.{statements_once}

content_once : (h : Header) (b : Block) (s t : List Statement) (u v : List Turn) → HasContent h b s u → HasContent h b t v → (s ≡ t) × (u ≡ v)
content_once Setup b s t u v g h = (statements_once b.from b.text s t g.0 h.0, g.1 ∙ sym h.1)
content_once (Session name) b s t u v g h = (statements_once b.from b.text s t g.0 h.0, g.1 ∙ sym h.1)
content_once Order b s t u v g h = (g.0 ∙ sym h.0, turns_once b.from b.text u v g.1 h.1)
content_once Other b s t u v g h = (g.0 ∙ sym h.0, g.1 ∙ sym h.1)

abbrev part_made : ℕ → Header → List Statement → List Turn → Part
part_made a h s t = record { at = a; header = h; statements = s; turns = t }

part_same : (a b : ℕ) (g h : Header) (s t : List Statement) (u v : List Turn) → a ≡ b → g ≡ h → s ≡ t → u ≡ v → part_made a g s u ≡ part_made b h t v
part_same a b g h s t u v i j k l = rw (i, j, k, l) refl

part_once : (b : Block) (p q : Part) → IsPart b p → IsPart b q → p ≡ q
part_once b p q g h =
    let e : p.header ≡ q.header = header_once b.line p.header q.header g.header h.header in
    let k = content_once p.header b p.statements q.statements p.turns q.turns g.content (subst (λ (x : Header). HasContent x b q.statements q.turns) (sym e) h.content) in
    part_same p.at q.at p.header q.header p.statements q.statements p.turns q.turns (g.at ∙ sym h.at) e k.0 k.1

pub read_once : (bytes a b : List ℕ) (ps qs : List Part) → IsRead bytes a ps → IsRead bytes b qs → (a ≡ b) × (ps ≡ qs)
read_once bytes a b ps qs g h =
    let l = laid_out_once bytes a b g.blocks h.blocks g.laid_out h.laid_out in
    (l.0, zips_once IsPart part_once g.blocks ps qs g.each (subst (λ (x : List Block). AllZip IsPart x qs) (sym l.1) h.each))
