-- Sessions by their names, and the items of statements.
use Rattle.std.proofs.Common.{◌≡◌, ◌⊎◌, inl, inr, ℕ, zero, suc, ◌+◌, ◌≤◌, ◌<◌, Bool, true, false, cond, Option, Some, None, List, [], ◌∷◌, ◌++◌, length, map, take, drop, get_or, refl, ⊎_elim, sym, ap, ◌∙◌, subst, arith}
use Rattle.std.specs.Prelude.{◌&&◌, ◌||◌, nat_le, nat_lt, is_some, slice_get, MatchOption}
use Rattle.std.specs.List.{AllByRecursion, AllZip}
use Rattle.std.specs.Cmp.Lexicographic.{bytes_decides}
use Rattle.std.proofs.lemmas.Bool.{and_parts, and_from, both_ways, cases_lt, leb-true, le-leb}
use Rattle.std.proofs.lemmas.Option.{none-some, same_Some, slice_get_within}
use Rattle.std.proofs.lemmas.Bool.Decides.{nat_tests}
use Rattle.std.proofs.lemmas.List.{take-append-drop, map-append, drop_more, take_more, map_push}
use Rattle.pg_script.specs.declared.statements.Span.{Span}
use Rattle.pg_script.specs.declared.script.Item.{Item}
use Rattle.pg_script.specs.declared.script.Item.TheVariants.{Sql, After}
use Rattle.pg_script.specs.declared.fault.ScriptKind.{ScriptKind}
use Rattle.pg_script.specs.declared.fault.ScriptKind.TheVariants as kinds
use Rattle.pg_script.specs.declared.fault.ScriptFault.{ScriptFault}
use Rattle.pg_script.specs.declared.fault.ScriptFault.TheVariants as faults
use Rattle.pg_script.specs.Layout.{line_at, Header, Setup, Session, Order, Other}
use Rattle.pg_script.specs.Statements.{Statement}
use Rattle.pg_script.specs.After.{begins_after, number_from, IsAfter}
use Rattle.pg_script.specs.Passes.Awaited.{HasAwaited}
use Rattle.pg_script.specs.Script.{Part, is_session, is_session_of, sessions, has_session, IsAfterOf, Stands, rank}
use Rattle.pg_script.specs.Passes.{statement_at, Rise}
use Rattle.pg_script.specs.Passes.Drafts.{Before, FirstOf, FaultOf, earlier, find_session, IsWaitItem, RiseSomewhere, IsBadAfter, IsGoodItem, IsFair, HasBadAfter, HasBadStatement}
use Rattle.pg_script.proofs.Passes.Lines.{line_rises}
use Rattle.pg_script.proofs.Passes.After.{after_once}

-- SESSIONS BY NAME

session_named : (name : List ℕ) (h : Header) → is_session_of name h ≡ true → h ≡ Session name
session_named name Setup e = cc
session_named name (Session other) e = ap Session (sym ((bytes_decides name other).0 e))
session_named name Order e = cc
session_named name Other e = cc

pub named_session : (name : List ℕ) (h : Header) → h ≡ Session name → is_session_of name h ≡ true
named_session name h e = subst (λ x. is_session_of name x ≡ true) (sym e) ((bytes_decides name name).1 refl)

named_is_session : (name : List ℕ) (h : Header) → is_session_of name h ≡ true → is_session h ≡ true
named_is_session name Setup e = cc
named_is_session name (Session other) e = refl
named_is_session name Order e = cc
named_is_session name Other e = cc

pub record IsFound (name : List ℕ) (least n : ℕ) (ps : List Part) (k : ℕ) : Type 0 where
  pub place : ℕ
  pub earlier : Part
  pub stands : slice_get (sessions ps) place ≡ Some earlier
  pub named : earlier.header ≡ Session name
  pub enough : least ≤ length earlier.statements
  pub number : k ≡ place + n

pub find_some : (name : List ℕ) (least n : ℕ) (ps : List Part) (k : ℕ) → find_session name least n ps ≡ Some k → IsFound name least n ps k
find_some name least n [] k e = absurd (none-some k e)
find_some name least n (p ∷ ps) k e = by (λ m h. find_some name least m ps k h) (is_session p.header) refl e where
  found : ((m : ℕ) → find_session name least m ps ≡ Some k → IsFound name least m ps k) → (u : Bool) → (is_session_of name p.header && nat_le least (length p.statements)) ≡ u → is_session p.header ≡ true → cond u (Some n) (find_session name least (n + 1) ps) ≡ Some k → IsFound name least n (p ∷ ps) k
  found more true f g h =
      let q = and_parts (is_session_of name p.header) (nat_le least (length p.statements)) f in
      record {
        place = 0;
        earlier = p;
        stands = ap (λ t. slice_get (cond t (p ∷ sessions ps) (sessions ps)) 0) g;
        named = session_named name p.header q.0;
        enough = leb-true least (length p.statements) q.1;
        number = let m : n ≡ k = same_Some n k h in omega arith;
      }
  found more false f g h =
      let r = more (n + 1) h in
      record {
        place = suc r.place;
        earlier = r.earlier;
        stands = ap (λ t. slice_get (cond t (p ∷ sessions ps) (sessions ps)) (suc r.place)) g ∙ r.stands;
        named = r.named;
        enough = r.enough;
        number = omega (arith, r.number);
      }

  by : ((m : ℕ) → find_session name least m ps ≡ Some k → IsFound name least m ps k) → (t : Bool) → is_session p.header ≡ t → cond t (cond (is_session_of name p.header && nat_le least (length p.statements)) (Some n) (find_session name least (n + 1) ps)) (find_session name least n ps) ≡ Some k → IsFound name least n (p ∷ ps) k
  by more true g h = found more (is_session_of name p.header && nat_le least (length p.statements)) refl g h
  by more false g h =
      let r = more n h in
      record {
        place = r.place;
        earlier = r.earlier;
        stands = ap (λ t. slice_get (cond t (p ∷ sessions ps) (sessions ps)) r.place) g ∙ r.stands;
        named = r.named;
        enough = r.enough;
        number = r.number;
      }

abbrev NoneFound : List ℕ → ℕ → ℕ → List Part → Type 0
NoneFound name least n ps = (place : ℕ) (earlier : Part) → slice_get (sessions ps) place ≡ Some earlier → earlier.header ≡ Session name → least ≤ length earlier.statements → ⊥

pub find_none : (name : List ℕ) (least n : ℕ) (ps : List Part) → find_session name least n ps ≡ None → NoneFound name least n ps
find_none name least n [] e place earlier s h l = absurd (none-some earlier s)
find_none name least n (p ∷ ps) e place earlier s h l = by (λ m k j q. find_none name least m ps k j earlier q h l) (is_session p.header) refl e s where
  here : (u : Bool) → (is_session_of name p.header && nat_le least (length p.statements)) ≡ u → p ≡ earlier → cond u (Some n) (find_session name least (n + 1) ps) ≡ None → ⊥
  here true f q k = absurd (none-some n (sym k))
  here false f q k =
      both_ways (is_session_of name p.header && nat_le least (length p.statements)) f
      (and_from (is_session_of name p.header) (nat_le least (length p.statements)) (named_session name p.header (ap (λ x. x.header) q ∙ h)) (le-leb least (length p.statements) (subst (λ x. least ≤ length x.statements) (sym q) l)))

  past : (u : Bool) → cond u (Some n) (find_session name least (n + 1) ps) ≡ None → find_session name least (n + 1) ps ≡ None
  past true k = absurd (none-some n (sym k))
  past false k = k

  at : ((m : ℕ) → find_session name least m ps ≡ None → (j : ℕ) → slice_get (sessions ps) j ≡ Some earlier → ⊥) → (j : ℕ) → slice_get (p ∷ sessions ps) j ≡ Some earlier → cond (is_session_of name p.header && nat_le least (length p.statements)) (Some n) (find_session name least (n + 1) ps) ≡ None → ⊥
  at more zero q k = here (is_session_of name p.header && nat_le least (length p.statements)) refl (same_Some p earlier q) k
  at more (suc j) q k = more (n + 1) (past (is_session_of name p.header && nat_le least (length p.statements)) k) j q

  by : ((m : ℕ) → find_session name least m ps ≡ None → (j : ℕ) → slice_get (sessions ps) j ≡ Some earlier → ⊥) → (t : Bool) → is_session p.header ≡ t → cond t (cond (is_session_of name p.header && nat_le least (length p.statements)) (Some n) (find_session name least (n + 1) ps)) (find_session name least n ps) ≡ None
      → slice_get (cond t (p ∷ sessions ps) (sessions ps)) place ≡ Some earlier → ⊥
  by more true g k q = at more place q k
  by more false g k q = more n k place q

-- a session of this name stands among them exactly where one is found
pub has_is_found : (name : List ℕ) (n : ℕ) (ps : List Part) → has_session name ps ≡ is_some (find_session name 0 n ps)
has_is_found name n [] = refl
has_is_found name n (p ∷ ps) = by (is_session_of name p.header) (is_session p.header) (nat_le 0 (length p.statements)) (le-leb 0 (length p.statements) (omega arith)) (named_is_session name p.header) (has_is_found name n ps) (has_is_found name (n + 1) ps) where
  by : (u t v : Bool) → v ≡ true → (u ≡ true → t ≡ true) → has_session name ps ≡ is_some (find_session name 0 n ps) → has_session name ps ≡ is_some (find_session name 0 (n + 1) ps)
      → (u || has_session name ps) ≡ is_some (cond t (cond (u && v) (Some n) (find_session name 0 (n + 1) ps)) (find_session name 0 n ps))
  by true true true e f h i = refl
  by true true false e f h i = cc
  by true false v e f h i = let g : false ≡ true = f refl in cc
  by false true v e f h i = i
  by false false v e f h i = h

pub zip_push : {A B : Type 0} (R : A → B → Type 0) (xs : List A) (ys : List B) (x : A) (y : B) → AllZip R xs ys → R x y → AllZip R (xs ++ x ∷ []) (ys ++ y ∷ [])
zip_push R [] [] x y z r = (r, tt)
zip_push R [] (b ∷ ys) x y z r = absurd z
zip_push R (a ∷ xs) [] x y z r = absurd z
zip_push R (a ∷ xs) (b ∷ ys) x y z r = (z.0, zip_push R xs ys x y z.1 r)

pub good_more : (bytes : List ℕ) (before : List Part) (in_session : Bool) (spans : List Span) (i : ℕ) (d : Span) (items now : List Item) (item : Item) → i < length spans → AllZip (IsGoodItem before in_session) (map (statement_at bytes) (take i spans)) items
    → IsGoodItem before in_session (statement_at bytes (get_or spans i d)) item → now ≡ items ++ item ∷ [] → AllZip (IsGoodItem before in_session) (map (statement_at bytes) (take (i + 1) spans)) now
good_more bytes before in_session spans i d items now item w z g e =
    let parts : map (statement_at bytes) (take (i + 1) spans) ≡ map (statement_at bytes) (take i spans) ++ statement_at bytes (get_or spans i d) ∷ [] =
    ap (map (statement_at bytes)) (take_more spans i d w) ∙ map_push (statement_at bytes) (take i spans) (get_or spans i d) in
    rw (parts, e) (zip_push (IsGoodItem before in_session) (map (statement_at bytes) (take i spans)) items (statement_at bytes (get_or spans i d)) item z g)

pub get_at : (bytes : List ℕ) (spans : List Span) (i : ℕ) (d : Span) → i < length spans → slice_get (map (statement_at bytes) spans) i ≡ Some (statement_at bytes (get_or spans i d))
get_at bytes [] i d w = absurd (omega arith)
get_at bytes (s ∷ ss) zero d w = refl
get_at bytes (s ∷ ss) (suc i) d w = get_at bytes ss i d (omega arith)

-- what holds of each section holds of each session
of_session : (Q : Part → Type 0) (ps : List Part) (place : ℕ) (x : Part) → AllByRecursion Q ps → slice_get (sessions ps) place ≡ Some x → Q x
of_session Q [] place x a e = absurd (none-some x e)
of_session Q (p ∷ ps) place x a e = by (λ j q. of_session Q ps j x a.1 q) (is_session p.header) place e where
  by : ((j : ℕ) → slice_get (sessions ps) j ≡ Some x → Q x) → (t : Bool) (j : ℕ) → slice_get (cond t (p ∷ sessions ps) (sessions ps)) j ≡ Some x → Q x
  by more true zero q = subst Q (same_Some p x q) a.0
  by more true (suc j) q = more j q
  by more false j q = more j q

pub found_small : (name : List ℕ) (least : ℕ) (ps : List Part) (k : ℕ) → IsFair ps → Some k ≡ find_session name least 1 ps → k ≤ 64
found_small name least ps k f e = let h = find_some name least 1 ps k (sym e) in let w = slice_get_within (sessions ps) h.place h.earlier h.stands in omega (arith, h.number, w, f.few)

-- THE ITEM OF A STATEMENT

pub waits : (before : List Part) (name : List ℕ) (number k : ℕ) → IsFair before → (number ≡ 0 → ⊥) → Some k ≡ find_session name number 1 before → IsWaitItem before name number (Some (After k number))
waits before name number k f z e =
    let h = find_some name number 1 before k (sym e) in
    let s : length h.earlier.statements ≤ 100000 = of_session (λ p. length p.statements ≤ 100000) before h.place h.earlier f.short h.stands in
    (h.place, h.earlier, h.stands, h.named, h.number, refl, omega (arith, z), h.enough, omega (arith, s, h.enough))

pub no_wait : (before : List Part) (name : List ℕ) (number : ℕ) → None ≡ find_session name number 1 before → IsWaitItem before name number None
no_wait before name number e place earlier s h one l = find_none name number 1 before (sym e) place earlier s h l

pub item_of_wait : (before : List Part) (in_session : Bool) (s : Statement) (bytes name : List ℕ) (number : ℕ) (result : Option Item) → bytes ≡ s.bytes → begins_after s.bytes ≡ true → in_session ≡ true → HasAwaited bytes name number
    → IsWaitItem before name number result → MatchOption result (IsBadAfter before in_session s) (IsGoodItem before in_session s)
item_of_wait before in_session s bytes name number None e b t a w = (
  b,
  λ section n i h.
      let once = after_once s.bytes h.name name h.digits a.digits h.is (subst (λ (x : List ℕ). IsAfter x name a.digits) e a.is) in
      let same : n ≡ number_from 0 a.digits = h.n_is ∙ ap (number_from 0) once.1 in
      w h.place h.earlier h.stands (h.named ∙ ap Session once.0) (omega (arith, h.some, same, a.number_is)) (omega (arith, h.within, same, a.number_is)),
)
item_of_wait before in_session s bytes name number (Some (Sql from to)) e b t a w = absurd w
item_of_wait before in_session s bytes name number (Some (After section n)) e b t a (place, earlier, stands, named, section_is, n_is, one, within, small) =
    let is : IsAfterOf before s.bytes section n = record {
      name = name;
      digits = a.digits;
      is = subst (λ (x : List ℕ). IsAfter x name a.digits) e a.is;
      place = place;
      earlier = earlier;
      stands = stands;
      named = named;
      section_is = section_is;
      n_is = omega (arith, n_is, small, a.number_is);
      some = one;
      within = within;
    } in
    record { is = (b, is); good = λ bad. bad.1 section n t is }

-- THE ITEMS OF STATEMENTS

pub all_good : (before : List Part) (in_session : Bool) (ss : List Statement) (items : List Item) (s : Statement) → AllZip (IsGoodItem before in_session) ss items → Stands ss s → IsBadAfter before in_session s → ⊥
all_good before in_session [] items s z ([], back, e) b = cc
all_good before in_session [] items s z (x ∷ front, back, e) b = cc
all_good before in_session (x ∷ xs) [] s z w b = absurd z
all_good before in_session (x ∷ xs) (i ∷ is) s z ([], back, e) b = let k : x ≡ s = cc in z.0.good (subst (IsBadAfter before in_session) (sym k) b)
all_good before in_session (x ∷ xs) (i ∷ is) s z (y ∷ front, back, e) b = let k : xs ≡ front ++ s ∷ back = cc in all_good before in_session xs is s z.1 (front, back, k) b

rise_at : (low high : ℕ) (front back : List Statement) (s : Statement) → Rise low high (map (λ x. x.from) (front ++ s ∷ back)) → low ≤ s.from
rise_at low high [] back s r = r.0
rise_at low high (x ∷ front) back s r = let h = rise_at x.from high front back s r.2 in omega (arith, r.0, h)

-- behind good ones, the first bad one stands first
first_bad : (before : List Part) (in_session : Bool) (front back : List Statement) (s t : Statement) (items : List Item) (low high : ℕ) → AllZip (IsGoodItem before in_session) front items → Rise low high (map (λ x. x.from) (front ++ s ∷ back))
    → Stands (front ++ s ∷ back) t → IsBadAfter before in_session t → s.from ≤ t.from
first_bad before in_session [] back s t items low high z r ([], rest, e) b = let k : s ≡ t = cc in let j : s.from ≡ t.from = ap (λ x. x.from) k in omega arith
first_bad before in_session [] back s t items low high z r (x ∷ front, rest, e) b = let k : back ≡ front ++ t ∷ rest = cc in rise_at s.from high front rest t (subst (λ (l : List Statement). Rise s.from high (map (λ y. y.from) l)) k r.2)
first_bad before in_session (x ∷ xs) back s t [] low high z r w b = absurd z
first_bad before in_session (x ∷ xs) back s t (i ∷ is) low high z r ([], rest, e) b = let k : x ≡ t = cc in absurd (z.0.good (subst (IsBadAfter before in_session) (sym k) b))
first_bad before in_session (x ∷ xs) back s t (i ∷ is) low high z r (y ∷ front, rest, e) b = let k : xs ++ s ∷ back ≡ front ++ t ∷ rest = cc in first_bad before in_session xs back s t is x.from high z.1 r.2 (front, rest, k) b

pub not_after : (line l : ℕ) (kind k : ScriptKind) → line ≤ l → rank kind ≤ rank k → Before line kind l k
not_after line l kind k h r = by (cases_lt line l) where
  by : (line < l) ⊎ (l ≤ line) → Before line kind l k
  by (inl a) = inl a
  by (inr a) = inr (omega arith, r)

pub bad_first : (bytes : List ℕ) (before : List Part) (in_session : Bool) (spans : List Span) (i : ℕ) (d : Span) (items : List Item) → i < length spans → AllZip (IsGoodItem before in_session) (map (statement_at bytes) (take i spans)) items
    → IsBadAfter before in_session (statement_at bytes (get_or spans i d)) → RiseSomewhere (map (statement_at bytes) spans) → FirstOf (HasBadAfter bytes before in_session (map (statement_at bytes) spans)) (line_at bytes (get_or spans i d).from) kinds.AfterName
bad_first bytes before in_session spans i d items w z b r =
    let span : Span = get_or spans i d in
    let s : Statement = statement_at bytes span in
    let front : List Statement = map (statement_at bytes) (take i spans) in
    let back : List Statement = map (statement_at bytes) (drop (i + 1) spans) in
    let parts : map (statement_at bytes) spans ≡ front ++ s ∷ back =
    ap (map (statement_at bytes)) (sym (take-append-drop i spans) ∙ ap (λ (l : List Span). take i spans ++ l) (drop_more spans i d w)) ∙ map-append (statement_at bytes) (take i spans) (span ∷ drop (i + 1) spans) in
    record {
      is = record { s = s; stands = (front, back, parts); bad = b; line_is = refl; kind_is = refl };
      first = λ l k h.
          let low : s.from ≤ h.s.from = first_bad before in_session front back s h.s items r.0 r.1 z (subst (λ (x : List Statement). Rise r.0 r.1 (map (λ y. y.from) x)) parts r.2) (subst (λ (x : List Statement). Stands x h.s) parts h.stands) h.bad in
          not_after (line_at bytes s.from) l kinds.AfterName k (omega (arith, line_rises bytes s.from h.s.from low, h.line_is)) (let e : rank k ≡ 5 = ap rank h.kind_is in omega arith);
    }

-- THE 100,001ST STATEMENT

pub no_many : (ss : List Statement) (n : ℕ) (s : Statement) → length ss ≤ n → slice_get ss n ≡ Some s → ⊥
no_many [] n s h e = absurd (none-some s e)
no_many (x ∷ xs) zero s h e = absurd (omega arith)
no_many (x ∷ xs) (suc n) s h e = no_many xs n s (omega arith) e

pub few_first : (bytes : List ℕ) (before : List Part) (in_session : Bool) (ss : List Statement) (fault : ScriptFault) → length ss ≤ 100000 → FaultOf (HasBadAfter bytes before in_session ss) fault → FaultOf (HasBadStatement bytes before in_session ss) fault
few_first bytes before in_session ss faults.Memory h f = tt
few_first bytes before in_session ss (faults.Bad line kind) h f = record {
  is = inr f.is;
  first = λ l k w. by l k w;
} where
  by : (l : ℕ) (k : ScriptKind) → HasBadStatement bytes before in_session ss l k → Before line kind l k
  by l k (inl m) = absurd (no_many ss 100000 m.s h m.stands)
  by l k (inr a) = f.first l k a

pub good_many : (bytes : List ℕ) (before : List Part) (in_session : Bool) (ss : List Statement) (items : List Item) (s : Statement) → AllZip (IsGoodItem before in_session) ss items → slice_get ss 100000 ≡ Some s
    → FirstOf (HasBadStatement bytes before in_session ss) (line_at bytes s.from) kinds.Statements
good_many bytes before in_session ss items s z e = record {
  is = inl (record { s = s; stands = e; line_is = refl; kind_is = refl });
  first = λ l k w. by l k w;
} where
  by : (l : ℕ) (k : ScriptKind) → HasBadStatement bytes before in_session ss l k → Before (line_at bytes s.from) kinds.Statements l k
  by l k (inl m) = let same : s ≡ m.s = same_Some s m.s (sym e ∙ m.stands) in inr (ap (λ x. line_at bytes x.from) same ∙ sym m.line_is, let r : rank k ≡ 4 = ap rank m.kind_is in omega arith)
  by l k (inr a) = absurd (all_good before in_session ss items a.s z a.stands a.bad)

pub earlier_first : (bytes : List ℕ) (before : List Part) (in_session : Bool) (ss : List Statement) (fault : ScriptFault) (s : Statement) → slice_get ss 100000 ≡ Some s → FaultOf (HasBadAfter bytes before in_session ss) fault
    → FaultOf (HasBadStatement bytes before in_session ss) (earlier fault (line_at bytes s.from))
earlier_first bytes before in_session ss faults.Memory s e f = tt
earlier_first bytes before in_session ss (faults.Bad line kind) s e f = by (nat_lt line (line_at bytes s.from)) refl where
  before_it : line < line_at bytes s.from → (l : ℕ) (k : ScriptKind) → HasBadStatement bytes before in_session ss l k → Before line kind l k
  before_it h l k (inl m) = let q : line_at bytes s.from ≡ l = ap (λ x. line_at bytes x.from) (same_Some s m.s (sym e ∙ m.stands)) ∙ sym m.line_is in inl (omega arith)
  before_it h l k (inr a) = f.first l k a

  behind_it : line_at bytes s.from ≤ line → (l : ℕ) (k : ScriptKind) → HasBadStatement bytes before in_session ss l k → Before (line_at bytes s.from) kinds.Statements l k
  behind_it h l k (inl m) = inr (ap (λ x. line_at bytes x.from) (same_Some s m.s (sym e ∙ m.stands)) ∙ sym m.line_is, let r : rank k ≡ 4 = ap rank m.kind_is in omega arith)
  behind_it h l k (inr a) =
      let r : rank k ≡ 5 = ap rank a.kind_is in
      let low : (line < l) ⊎ ((line ≡ l) × (rank kind ≤ rank k)) = f.first l k a in
      not_after (line_at bytes s.from) l kinds.Statements k (⊎_elim (λ (p : line < l). (let q : line_at bytes s.from ≤ l = omega arith in q)) (λ (p : (line ≡ l) × (rank kind ≤ rank k)). (let q : line_at bytes s.from ≤ l = omega (arith, p.0) in q)) low) (omega arith)

  by : (t : Bool) → nat_lt line (line_at bytes s.from) ≡ t → FaultOf (HasBadStatement bytes before in_session ss) (cond t (faults.Bad line kind) (faults.Bad (line_at bytes s.from) kinds.Statements))
  by true t = let h : line < line_at bytes s.from = grind (arith, nat_tests) in record { is = inr f.is; first = before_it h }
  by false t = let h : line_at bytes s.from ≤ line = grind (arith, nat_tests) in record { is = inl (record { s = s; stands = e; line_is = refl; kind_is = refl }); first = behind_it h }
