-- An input is at most one script.
use Rattle.std.proofs.Common.{◌≡◌, ℕ, zero, suc, ◌+◌, Bool, true, false, cond, List, [], ◌∷◌, ◌++◌, length, refl, sym, ap, ◌∙◌, subst, inl, inr, append_assoc}
use Rattle.std.specs.Prelude.{not, slice_get}
use Rattle.std.specs.declared.option.Option.TheVariants.{Some}
use Rattle.std.specs.List.{AllZip}
use Rattle.std.specs.Str.{bytes_eq}
use Rattle.std.proofs.lemmas.Bool.{both_ways, and_right, or_left, or_right}
use Rattle.std.proofs.lemmas.Slice.Eq.{bytes_eq-Decides}
use Rattle.pg_script.specs.declared.script.Item.{Item}
use Rattle.pg_script.specs.declared.script.Item.TheVariants.{Sql, After}
use Rattle.pg_script.specs.declared.script.Section.{Section}
use Rattle.pg_script.specs.declared.script.Script.{Script}
use Rattle.pg_script.specs.declared.fault.ScriptKind.{ScriptKind}
use Rattle.pg_script.specs.declared.fault.ScriptKind.TheVariants as kinds
use Rattle.pg_script.specs.Layout.{line_at, Header, Session, Turn}
use Rattle.pg_script.specs.Statements.{Statement}
use Rattle.pg_script.specs.After.{begins_after, number_from}
use Rattle.pg_script.specs.Script.{Part, is_session, has_order, sessions, is_session_of, has_session, IsAfterOf, is_in_place, misplaced, HasFault, within, IsItem, setup_statements, IsSetup, IsSession, AreSessions, IsTurn, all_turns, has_setup, IsScript}
use Rattle.pg_script.proofs.Texts.Cuts.{Longer, Compared, compare, zips_once}
use Rattle.pg_script.proofs.One.Read.{read_once}
use Rattle.pg_script.proofs.Passes.After.{after_once}

-- THE NAMES OF SESSIONS DIFFER

abbrev Differ : List Part → Type 0
Differ parts = (before after : List Part) (p : Part) (name : List ℕ) → parts ≡ before ++ p ∷ after → p.header ≡ Session name → has_session name before ≡ false

no_place : (before : List Part) (name : List ℕ) → has_session name before ≡ true → is_in_place before (Session name) ≡ false
no_place [] name h = absurd cc
no_place (p ∷ ps) name h = and_right (not (has_order (p ∷ ps))) (not (has_session name (p ∷ ps))) (ap not h)

right_differ : (bytes head : List ℕ) (parts : List Part) → ((line : ℕ) (kind : ScriptKind) → HasFault bytes head parts line kind → ⊥) → Differ parts
right_differ bytes head parts right before after p name e h = by (has_session name before) refl where
  by : (t : Bool) → has_session name before ≡ t → has_session name before ≡ false
  by false s = s
  by true s = absurd (right (line_at bytes p.at) kinds.Section (within before after p e (misplaced (ap (is_in_place before) h ∙ no_place before name s) refl refl)))

front_differ : (front back : List Part) → Differ (front ++ back) → Differ front
front_differ front back d before after p name e h = d before (after ++ back) p name (ap (λ (l : List Part). l ++ back) e ∙ append_assoc before (p ∷ after) back) h

-- THE PLACE OF A SESSION

-- a session with so many sessions before it
abbrev StandsAt : List Part → ℕ → Part → Type 0
StandsAt parts i e = (before after : List Part) × (parts ≡ before ++ e ∷ after) × (length (sessions before) ≡ i)

stands_at : (parts : List Part) (i : ℕ) (e : Part) → slice_get (sessions parts) i ≡ Some e → StandsAt parts i e
stands_at [] i e h = absurd cc
stands_at (p ∷ ps) i e h = by (is_session p.header) refl i h (λ j g. stands_at ps j e g) where
  by : (t : Bool) → is_session p.header ≡ t → (i : ℕ) → slice_get (cond t (p ∷ sessions ps) (sessions ps)) i ≡ Some e → ((j : ℕ) → slice_get (sessions ps) j ≡ Some e → StandsAt ps j e) → StandsAt (p ∷ ps) i e
  by false s i h k =
      let m = k i h in
      (p ∷ m.0, m.1, ap (λ (l : List Part). p ∷ l) m.2, ap (λ t. length (cond t (p ∷ sessions m.0) (sessions m.0))) s ∙ m.3)
  by true s zero h k = let q : p ≡ e = cc in ([], ps, ap (λ x. x ∷ ps) q, refl)
  by true s (suc i) h k =
      let m = k i h in
      (p ∷ m.0, m.1, ap (λ (l : List Part). p ∷ l) m.2, ap (λ t. length (cond t (p ∷ sessions m.0) (sessions m.0))) s ∙ ap suc m.3)

same_name : (name : List ℕ) → bytes_eq name name ≡ true
same_name name = (bytes_eq-Decides name name).1 refl

session_found : (name : List ℕ) (front back : List Part) (p : Part) → p.header ≡ Session name → has_session name (front ++ p ∷ back) ≡ true
session_found name [] back p h = or_left (is_session_of name p.header) (has_session name back) (ap (is_session_of name) h ∙ same_name name)
session_found name (q ∷ front) back p h = or_right (is_session_of name q.header) (has_session name (front ++ p ∷ back)) (session_found name front back p h)

-- no session of the name stands before one of the name
no_earlier : (parts : List Part) → Differ parts → (name : List ℕ) (a b x y : List Part) (e f : Part) → parts ≡ b ++ f ∷ y → e.header ≡ Session name → f.header ≡ Session name → Longer a b (e ∷ x) (f ∷ y) → ⊥
no_earlier parts d name a b x y e f p g h (c, more, q, r) =
    let k : e ≡ c = cc in
    let m : has_session name b ≡ true = ap (has_session name) q ∙ session_found name a more c (ap (λ t. t.header) (sym k) ∙ g) in
    both_ways (has_session name b) (d b y f name p h) m

place_once : (parts : List Part) → Differ parts → (name : List ℕ) (i j : ℕ) (e f : Part) → slice_get (sessions parts) i ≡ Some e → e.header ≡ Session name → slice_get (sessions parts) j ≡ Some f → f.header ≡ Session name → i ≡ j
place_once parts d name i j e f s g t h =
    let a = stands_at parts i e s in
    let b = stands_at parts j f t in
    by a b (compare a.0 b.0 (e ∷ a.1) (f ∷ b.1) (sym a.2 ∙ b.2)) where
      by : (a : StandsAt parts i e) (b : StandsAt parts j f) → Compared a.0 b.0 (e ∷ a.1) (f ∷ b.1) → i ≡ j
      by a b (inl k) = sym a.3 ∙ ap (λ (l : List Part). length (sessions l)) k.0 ∙ b.3
      by a b (inr (inl k)) = absurd (no_earlier parts d name a.0 b.0 a.1 b.1 e f b.2 g h k)
      by a b (inr (inr k)) = absurd (no_earlier parts d name b.0 a.0 b.1 a.1 f e a.2 h g k)

-- ITEMS

after_of_once : (before : List Part) → Differ before → (bytes : List ℕ) (s t n m : ℕ) → IsAfterOf before bytes s n → IsAfterOf before bytes t m → (s ≡ t) × (n ≡ m)
after_of_once before d bytes s t n m g h =
    let k = after_once bytes g.name h.name g.digits h.digits g.is h.is in
    let p : g.place ≡ h.place = place_once before d g.name g.place h.place g.earlier h.earlier g.stands g.named h.stands (h.named ∙ ap Session (sym k.0)) in
    (g.section_is ∙ ap (λ i. i + 1) p ∙ sym h.section_is, g.n_is ∙ ap (number_from 0) k.1 ∙ sym h.n_is)

item_once : (before : List Part) → Differ before → (s : Statement) (i j : Item) → IsItem before s i → IsItem before s j → i ≡ j
item_once before d s (Sql f t) (Sql g u) a b = let p : f ≡ g = a.1 ∙ sym b.1 in let q : t ≡ u = a.2 ∙ sym b.2 in rw (p, q) refl
item_once before d s (Sql f t) (After o m) a b = absurd (both_ways (begins_after s.bytes) a.0 b.0)
item_once before d s (After o n) (Sql g u) a b = absurd (both_ways (begins_after s.bytes) b.0 a.0)
item_once before d s (After o n) (After p m) a b = let k = after_of_once before d s.bytes o p n m a.1 b.1 in rw (k.0, k.1) refl

items_once : (before : List Part) → Differ before → (ss : List Statement) (is js : List Item) → AllZip (IsItem before) ss is → AllZip (IsItem before) ss js → is ≡ js
items_once before d ss is js g h = zips_once (IsItem before) (item_once before d) ss is js g h

-- SECTIONS

abbrev section_made : List ℕ → List Item → Section
section_made n is = record { name = n; items = is }

section_same : (n m : List ℕ) (is js : List Item) → n ≡ m → is ≡ js → section_made n is ≡ section_made m js
section_same n m is js p q = rw (p, q) refl

setup_once : (parts : List Part) → Differ [] → (s t : Section) → IsSetup parts s → IsSetup parts t → s ≡ t
setup_once parts d s t g h = section_same s.name t.name s.items t.items (g.named ∙ sym h.named) (items_once [] d (setup_statements parts) s.items t.items g.items h.items)

abbrev name_of : Header → List ℕ
name_of (Session name) = name
name_of _ = []

session_once : (before : List Part) → Differ before → (p : Part) (s t : Section) → IsSession before p s → IsSession before p t → s ≡ t
session_once before d p s t g h = section_same s.name t.name s.items t.items (ap name_of (sym g.named ∙ h.named)) (items_once before d p.statements s.items t.items g.items h.items)

no_session : (before : List Part) (p : Part) (s : Section) → is_session p.header ≡ false → IsSession before p s → ⊥
no_session before p s n g = both_ways (is_session p.header) n (ap is_session g.named)

sessions_once : (before ps : List Part) (x y : List Section) → Differ (before ++ ps) → AreSessions before ps x → AreSessions before ps y → x ≡ y
sessions_once before [] x y d a b = a ∙ sym b
sessions_once before (p ∷ ps) x y d (inl a) (inl b) = sessions_once (before ++ p ∷ []) ps x y (subst Differ (sym (append_assoc before (p ∷ []) ps)) d) a.1 b.1
sessions_once before (p ∷ ps) x y d (inl a) (inr (t, more, f, h, hs)) = absurd (no_session before p t a.0 h)
sessions_once before (p ∷ ps) x y d (inr (s, more, e, g, gs)) (inl b) = absurd (no_session before p s b.0 g)
sessions_once before (p ∷ ps) x y d (inr (s, us, e, g, gs)) (inr (t, vs, f, h, hs)) =
    let k : s ≡ t = session_once before (front_differ before (p ∷ ps) d) p s t g h in
    let m : us ≡ vs = sessions_once (before ++ p ∷ []) ps us vs (subst Differ (sym (append_assoc before (p ∷ []) ps)) d) gs hs in
    e ∙ ap (λ (z : Section). z ∷ us) k ∙ ap (λ (z : List Section). t ∷ z) m ∙ sym f

-- THE ORDER

turn_once : (parts : List Part) → Differ parts → (t : Turn) (i j : ℕ) → IsTurn parts t i → IsTurn parts t j → i ≡ j
turn_once parts d t i j g h =
    g.section_is ∙ ap (λ n. n + 1) (place_once parts d t.name g.place h.place g.session h.session g.stands g.named h.stands h.named) ∙ sym h.section_is

-- THE SCRIPT

abbrev script_made : List ℕ → Bool → List Section → List ℕ → Script
script_made t b ss o = record { text = t; has_setup = b; sections = ss; order = o }

script_same : (t u o p : List ℕ) (a b : Bool) (ss zs : List Section) → t ≡ u → a ≡ b → ss ≡ zs → o ≡ p → script_made t a ss o ≡ script_made u b zs p
script_same t u o p a b ss zs i j k l = rw (i, j, k, l) refl

-- what a script has of the sections as they are read
record HasParts (parts : List Part) (s : Script) : Type 0 where
  has : s.has_setup ≡ has_setup parts
  setup : Section
  others : List Section
  sections : s.sections ≡ setup ∷ others
  is_setup : IsSetup parts setup
  are_sessions : AreSessions [] parts others
  order : AllZip (IsTurn parts) (all_turns parts) s.order

has_parts : (bytes : List ℕ) (s : Script) → (g : IsScript bytes s) → HasParts g.parts s
has_parts bytes s g = record { has = g.setup_stands; setup = g.setup; others = g.others; sections = g.sections; is_setup = g.is_setup; are_sessions = g.are_sessions; order = g.order }

parts_script : (parts : List Part) → Differ parts → (bytes : List ℕ) (s t : Script) → s.text ≡ bytes → t.text ≡ bytes → HasParts parts s → HasParts parts t → s ≡ t
parts_script parts d bytes s t e f g h =
    let k : g.setup ≡ h.setup = setup_once parts (front_differ [] parts d) g.setup h.setup g.is_setup h.is_setup in
    let m : g.others ≡ h.others = sessions_once [] parts g.others h.others d g.are_sessions h.are_sessions in
    let n : s.sections ≡ t.sections = g.sections ∙ ap (λ (z : Section). z ∷ g.others) k ∙ ap (λ (z : List Section). h.setup ∷ z) m ∙ sym h.sections in
    let o : s.order ≡ t.order = zips_once (IsTurn parts) (turn_once parts d) (all_turns parts) s.order t.order g.order h.order in
    script_same s.text t.text s.order t.order s.has_setup t.has_setup s.sections t.sections (e ∙ sym f) (g.has ∙ sym h.has) n o

-- Two scripts of the same bytes are one.
pub script_once : (bytes : List ℕ) (s t : Script) → IsScript bytes s → IsScript bytes t → s ≡ t
script_once bytes s t g h =
    let r = (read_once bytes g.head h.head g.parts h.parts g.read h.read).1 in
    parts_script g.parts (right_differ bytes g.head g.parts g.right) bytes s t g.text h.text (has_parts bytes s g) (subst (λ (z : List Part). HasParts z t) (sym r) (has_parts bytes t h))
