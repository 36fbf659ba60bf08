-- What is made of one section more, and the first fault of a section and of the input.
use Rattle.std.proofs.Common.{◌≡◌, ◌⊎◌, inl, inr, ℕ, zero, suc, ◌+◌, ◌≤◌, ◌<◌, Bool, true, false, cond, Some, None, List, [], ◌∷◌, ◌++◌, length, map, take, drop, get_or, refl, sym, ap, ◌∙◌, subst, arith, append_assoc}
use Rattle.std.specs.Prelude.{◌&&◌, ◌||◌, ◌==◌, not, is_some, slice_get}
use Rattle.std.specs.List.{AllByRecursion, AllZip, list_any}
use Rattle.std.proofs.lemmas.Bool.{both_ways, eqb-true}
use Rattle.std.proofs.lemmas.Option.{none-some, same_Some}
use Rattle.std.proofs.lemmas.List.{length-append, length-map, append-nil, map-append, take-append-drop, drop_more, take_more, map_push}
use Rattle.std.proofs.lemmas.List.Concat.{flat_map-append}
use Rattle.std.proofs.lemmas.List.Elements.{filter-append}
use Rattle.pg_script.specs.declared.statements.Span.{Span}
use Rattle.pg_script.specs.declared.script.Item.{Item}
use Rattle.pg_script.specs.declared.script.Section.{Section}
use Rattle.pg_script.specs.declared.parts.Content.{Content}
use Rattle.pg_script.specs.declared.parts.Content.TheVariants as contents
use Rattle.pg_script.specs.declared.parts.PartSpan.{PartSpan}
use Rattle.pg_script.specs.declared.draft.Draft.{Draft}
use Rattle.pg_script.specs.declared.fault.ScriptKind.{ScriptKind}
use Rattle.pg_script.specs.declared.fault.ScriptKind.TheVariants as kinds
use Rattle.pg_script.specs.declared.fault.ScriptFault.{ScriptFault}
use Rattle.pg_script.specs.declared.fault.ScriptFault.TheVariants as faults
use Rattle.pg_script.specs.Layout.{line_at, Setup, Session, Order, Turn}
use Rattle.pg_script.specs.Statements.{Statement}
use Rattle.pg_script.specs.Script.{Part, is_setup, is_session, is_session_of, is_order, is_in_place, has_setup, has_order, sessions, has_session, Stands, IsWrong, misplaced, unknown, many_sessions, many_statements, bad_after, rank, IsItem, setup_statements, IsSession, AreSessions, IsTurn, all_turns}
use Rattle.pg_script.specs.Passes.{cut, statement_at, turn_at, header_in, turns_in, part_of, parts_of, Rise, Lies, Separates, AreSpread}
use Rattle.pg_script.specs.Passes.Drafts.{Before, FirstOf, FaultOf, NoneOf, find_session, IsGoodItem, HasBadStatement, HasUnknown, IsFair, IsDraft, IsWithin, LiesSomewhere, part_with, AreRight, IsAdded}
use Rattle.pg_script.proofs.Passes.Lines.{line_rises}
use Rattle.pg_script.proofs.Passes.Items.{not_after, found_small, named_session, find_some, has_is_found, all_good, no_many, zip_push}

-- WHERE A FAULT OF A SECTION STANDS

get_stands : (ss : List Statement) (n : ℕ) (s : Statement) → slice_get ss n ≡ Some s → Stands ss s
get_stands [] n s e = absurd (none-some s e)
get_stands (x ∷ xs) zero s e = ([], xs, ap (λ y. y ∷ xs) (same_Some x s e))
get_stands (x ∷ xs) (suc n) s e = let h = get_stands xs n s e in (x ∷ h.0, h.1, ap (λ (l : List Statement). x ∷ l) h.2)

rise_in : {A : Type 0} (f : A → ℕ) (low high : ℕ) (front back : List A) (x : A) → Rise low high (map f (front ++ x ∷ back)) → (low ≤ f x) × (f x < high)
rise_in f low high [] back x r = (r.0, r.1)
rise_in f low high (y ∷ front) back x r = let h = rise_in f (f y) high front back x r.2 in (omega (arith, r.0, h.0), h.1)

pub record IsPlaced (bytes : List ℕ) (from to line : ℕ) : Type 0 where
  pub place : ℕ
  pub low : from ≤ place
  pub high : place < to
  pub line_is : line ≡ line_at bytes place

statement_placed : (bytes : List ℕ) (from to line : ℕ) (p : Part) (s : Statement) → Lies from to p → Stands p.statements s → line ≡ line_at bytes s.from → IsPlaced bytes from to line
statement_placed bytes from to line p s l h e =
    let r = rise_in (λ (x : Statement). x.from) from to h.0 h.1 s (subst (λ (x : List Statement). Rise from to (map (λ y. y.from) x)) h.2 l.statements) in
    record { place = s.from; low = r.0; high = r.1; line_is = e }

pub wrong_placed : (bytes : List ℕ) (before : List Part) (p : Part) (from to line : ℕ) (kind : ScriptKind) → Lies from to p → IsWrong bytes before p line kind → IsPlaced bytes from to line
wrong_placed bytes before p from to line kind l (misplaced i e k) = record { place = p.at; low = omega (arith, l.at); high = omega (arith, l.at, l.some); line_is = e }
wrong_placed bytes before p from to line kind l (unknown front back t h u e k) =
    let r = rise_in (λ (x : Turn). x.at) from to front back t (subst (λ (x : List Turn). Rise from to (map (λ y. y.at) x)) h l.turns) in
    record { place = t.at; low = r.0; high = r.1; line_is = e }
wrong_placed bytes before p from to line kind l (many_sessions s m e k) = record { place = p.at; low = omega (arith, l.at); high = omega (arith, l.at, l.some); line_is = e }
wrong_placed bytes before p from to line kind l (many_statements s h e k) = statement_placed bytes from to line p s l (get_stands p.statements 100000 s h) e
wrong_placed bytes before p from to line kind l (bad_after s h b n e k) = statement_placed bytes from to line p s l h e

wrong_rank : (bytes : List ℕ) (before : List Part) (p : Part) (line : ℕ) (kind : ScriptKind) → IsWrong bytes before p line kind → 2 ≤ rank kind
wrong_rank bytes before p line kind (misplaced i e k) = let r : rank kind ≡ 2 = ap rank k in omega arith
wrong_rank bytes before p line kind (unknown front back t h u e k) = let r : rank kind ≡ 2 = ap rank k in omega arith
wrong_rank bytes before p line kind (many_sessions s m e k) = let r : rank kind ≡ 3 = ap rank k in omega arith
wrong_rank bytes before p line kind (many_statements s h e k) = let r : rank kind ≡ 4 = ap rank k in omega arith
wrong_rank bytes before p line kind (bad_after s h b n e k) = let r : rank kind ≡ 5 = ap rank k in omega arith

wrong_low : (bytes : List ℕ) (before : List Part) (p : Part) (from to line : ℕ) (kind : ScriptKind) → Lies from to p → IsWrong bytes before p line kind → line_at bytes p.at ≤ line
wrong_low bytes before p from to line kind l w =
    let h = wrong_placed bytes before p from to line kind l w in
    let k = line_rises bytes p.at h.place (omega (arith, l.at, h.low)) in
    omega (arith, k, h.line_is)

-- THE FIRST FAULT OF A SECTION

no_cons : {A : Type 0} (xs front back : List A) (x : A) → xs ≡ [] → xs ≡ front ++ x ∷ back → ⊥
no_cons xs [] back x e h = cc
no_cons xs (y ∷ front) back x e h = cc

pub misplaced_first : (bytes : List ℕ) (before : List Part) (p : Part) (from to : ℕ) → Lies from to p → is_in_place before p.header ≡ false → FirstOf (IsWrong bytes before p) (line_at bytes p.at) kinds.Section
misplaced_first bytes before p from to l i = record {
  is = misplaced i refl refl;
  first = λ n k w. not_after (line_at bytes p.at) n kinds.Section k (wrong_low bytes before p from to n k l w) (wrong_rank bytes before p n k w);
}

pub sessions_first : (bytes : List ℕ) (before : List Part) (p : Part) (from to : ℕ) → Lies from to p → is_in_place before p.header ≡ true → p.turns ≡ [] → is_session p.header ≡ true → 64 ≤ length (sessions before)
    → FirstOf (IsWrong bytes before p) (line_at bytes p.at) kinds.Sessions
sessions_first bytes before p from to l i t s m = record {
  is = many_sessions s m refl refl;
  first = λ n k w. not_after (line_at bytes p.at) n kinds.Sessions k (wrong_low bytes before p from to n k l w) (by n k w);
} where
  by : (n : ℕ) (k : ScriptKind) → IsWrong bytes before p n k → 3 ≤ rank k
  by n k (misplaced j e q) = absurd (both_ways (is_in_place before p.header) j i)
  by n k (unknown front back x h u e q) = absurd (no_cons p.turns front back x t h)
  by n k (many_sessions j h e q) = let r : rank k ≡ 3 = ap rank q in omega arith
  by n k (many_statements x h e q) = let r : rank k ≡ 4 = ap rank q in omega arith
  by n k (bad_after x h b z e q) = let r : rank k ≡ 5 = ap rank q in omega arith

-- a section whose line may stand there, and that has no words
pub record IsPlain (before : List Part) (p : Part) : Type 0 where
  pub in_place : is_in_place before p.header ≡ true
  pub no_turns : p.turns ≡ []
  pub few : is_session p.header ≡ true → length (sessions before) < 64

statement_wrong : (bytes : List ℕ) (before : List Part) (p : Part) (line : ℕ) (kind : ScriptKind) → HasBadStatement bytes before (is_session p.header) p.statements line kind → IsWrong bytes before p line kind
statement_wrong bytes before p line kind (inl m) = many_statements m.s m.stands m.line_is m.kind_is
statement_wrong bytes before p line kind (inr a) = bad_after a.s a.stands a.bad.0 a.bad.1 a.line_is a.kind_is

wrong_statement : (bytes : List ℕ) (before : List Part) (p : Part) (line : ℕ) (kind : ScriptKind) → IsPlain before p → IsWrong bytes before p line kind → HasBadStatement bytes before (is_session p.header) p.statements line kind
wrong_statement bytes before p line kind h (misplaced j e q) = absurd (both_ways (is_in_place before p.header) j h.in_place)
wrong_statement bytes before p line kind h (unknown front back x g u e q) = absurd (no_cons p.turns front back x h.no_turns g)
wrong_statement bytes before p line kind h (many_sessions j m e q) = absurd (let k = h.few j in omega arith)
wrong_statement bytes before p line kind h (many_statements x g e q) = inl (record { s = x; stands = g; line_is = e; kind_is = q })
wrong_statement bytes before p line kind h (bad_after x g b z e q) = inr (record { s = x; stands = g; bad = (b, z); line_is = e; kind_is = q })

pub plain_first : (bytes : List ℕ) (before : List Part) (p : Part) (fault : ScriptFault) → IsPlain before p → FaultOf (HasBadStatement bytes before (is_session p.header) p.statements) fault → FaultOf (IsWrong bytes before p) fault
plain_first bytes before p faults.Memory h f = tt
plain_first bytes before p (faults.Bad line kind) h f = record { is = statement_wrong bytes before p line kind f.is; first = λ l k w. f.first l k (wrong_statement bytes before p l k h w) }

pub plain_right : (bytes : List ℕ) (before : List Part) (p : Part) (items : List Item) → IsPlain before p → AllZip (IsGoodItem before (is_session p.header)) p.statements items → length p.statements ≤ 100000 → NoneOf (IsWrong bytes before p)
plain_right bytes before p items h z n l k w = by (wrong_statement bytes before p l k h w) where
  by : HasBadStatement bytes before (is_session p.header) p.statements l k → ⊥
  by (inl m) = no_many p.statements 100000 m.s n m.stands
  by (inr a) = all_good before (is_session p.header) p.statements items a.s z a.stands a.bad

-- a section that has words alone
pub record IsWordy (before : List Part) (p : Part) : Type 0 where
  pub in_place : is_in_place before p.header ≡ true
  pub no_statements : p.statements ≡ []
  pub other : is_session p.header ≡ false

wrong_word : (bytes : List ℕ) (before : List Part) (p : Part) (line : ℕ) (kind : ScriptKind) → IsWordy before p → IsWrong bytes before p line kind → HasUnknown bytes before p.turns line kind
wrong_word bytes before p line kind h (misplaced j e q) = absurd (both_ways (is_in_place before p.header) j h.in_place)
wrong_word bytes before p line kind h (unknown front back x g u e q) = record { front = front; back = back; t = x; stands = g; unknown = u; line_is = e; kind_is = q }
wrong_word bytes before p line kind h (many_sessions j m e q) = absurd (both_ways (is_session p.header) h.other j)
wrong_word bytes before p line kind h (many_statements x g e q) = absurd (no_many p.statements 100000 x (let n : length p.statements ≡ 0 = ap length h.no_statements in omega arith) g)
wrong_word bytes before p line kind h (bad_after x g b z e q) = absurd (no_cons p.statements g.0 g.1 x h.no_statements g.2)

pub wordy_first : (bytes : List ℕ) (before : List Part) (p : Part) (fault : ScriptFault) → IsWordy before p → FaultOf (HasUnknown bytes before p.turns) fault → FaultOf (IsWrong bytes before p) fault
wordy_first bytes before p faults.Memory h f = tt
wordy_first bytes before p (faults.Bad line kind) h f = record {
  is = unknown f.is.front f.is.back f.is.t f.is.stands f.is.unknown f.is.line_is f.is.kind_is;
  first = λ l k w. f.first l k (wrong_word bytes before p l k h w);
}

turn_known : (before : List Part) (ts : List Turn) (sections : List ℕ) (front back : List Turn) (t : Turn) → AllZip (IsTurn before) ts sections → ts ≡ front ++ t ∷ back → (section : ℕ) × IsTurn before t section
turn_known before [] sections front back t z e = absurd (no_cons [] front back t refl e)
turn_known before (x ∷ xs) [] front back t z e = absurd z
turn_known before (x ∷ xs) (n ∷ ns) [] back t z e = let k : x ≡ t = cc in (n, subst (λ y. IsTurn before y n) k z.0)
turn_known before (x ∷ xs) (n ∷ ns) (y ∷ front) back t z e = let k : xs ≡ front ++ t ∷ back = cc in turn_known before xs ns front back t z.1 k

any_at : (f : Part → Bool) (ps : List Part) (k : ℕ) (x : Part) → slice_get (sessions ps) k ≡ Some x → f x ≡ true → list_any f ps ≡ true
any_at f [] k x e h = absurd (none-some x e)
any_at f (p ∷ ps) k x e h = by (λ j q. any_at f ps j x q h) (is_session p.header) k e where
  later : (b : Bool) → list_any f ps ≡ true → (b || list_any f ps) ≡ true
  later true g = refl
  later false g = g

  here : (b : Bool) → b ≡ true → (b || list_any f ps) ≡ true
  here true g = refl
  here false g = cc

  by : ((j : ℕ) → slice_get (sessions ps) j ≡ Some x → list_any f ps ≡ true) → (t : Bool) (j : ℕ) → slice_get (cond t (p ∷ sessions ps) (sessions ps)) j ≡ Some x → (f p || list_any f ps) ≡ true
  by more true zero q = here (f p) (ap f (same_Some p x q) ∙ h)
  by more true (suc j) q = later (f p) (more j q)
  by more false j q = later (f p) (more j q)

turn_has : (before : List Part) (t : Turn) (section : ℕ) → IsTurn before t section → has_session t.name before ≡ true
turn_has before t section h = any_at (λ p. is_session_of t.name p.header) before h.place h.session h.stands (named_session t.name h.session.header h.named)

pub wordy_right : (bytes : List ℕ) (before : List Part) (p : Part) (sections : List ℕ) → IsWordy before p → AllZip (IsTurn before) p.turns sections → NoneOf (IsWrong bytes before p)
wordy_right bytes before p sections h z l k w =
    let u = wrong_word bytes before p l k h w in
    let t = turn_known before p.turns sections u.front u.back u.t z u.stands in
    both_ways (has_session u.t.name before) u.unknown (turn_has before u.t t.0 t.1)

-- THE WORDS OF THE ORDER

pub turn_found : (bytes : List ℕ) (before : List Part) (word : Span) (k : ℕ) → Some k ≡ find_session (cut bytes word) 0 1 before → IsTurn before (turn_at bytes word) k
turn_found bytes before word k e = let h = find_some (cut bytes word) 0 1 before k (sym e) in record { place = h.place; session = h.earlier; stands = h.stands; named = h.named; section_is = h.number }

first_unknown : (before : List Part) (front back : List Turn) (s : Turn) (sections : List ℕ) (low high : ℕ) → AllZip (IsTurn before) front sections → Rise low high (map (λ x. x.at) (front ++ s ∷ back))
    → (before' after' : List Turn) (t : Turn) → front ++ s ∷ back ≡ before' ++ t ∷ after' → has_session t.name before ≡ false → s.at ≤ t.at
first_unknown before [] back s sections low high z r [] after' t e u = let k : s ≡ t = cc in let j : s.at ≡ t.at = ap (λ x. x.at) k in omega arith
first_unknown before [] back s sections low high z r (x ∷ before') after' t e u = let k : back ≡ before' ++ t ∷ after' = cc in (rise_in (λ (y : Turn). y.at) s.at high before' after' t (subst (λ (l : List Turn). Rise s.at high (map (λ y. y.at) l)) k r.2)).0
first_unknown before (x ∷ xs) back s [] low high z r before' after' t e u = absurd z
first_unknown before (x ∷ xs) back s (n ∷ ns) low high z r [] after' t e u = let k : x ≡ t = cc in absurd (both_ways (has_session t.name before) u (turn_has before t n (subst (λ y. IsTurn before y n) k z.0)))
first_unknown before (x ∷ xs) back s (n ∷ ns) low high z r (y ∷ before') after' t e u = let k : xs ++ s ∷ back ≡ before' ++ t ∷ after' = cc in first_unknown before xs back s ns x.at high z.1 r.2 before' after' t k u

pub unknown_first : (bytes : List ℕ) (before : List Part) (words : List Span) (i : ℕ) (d : Span) (sections : List ℕ) (low high : ℕ) → i < length words → AllZip (IsTurn before) (map (turn_at bytes) (take i words)) sections
    → None ≡ find_session (cut bytes (get_or words i d)) 0 1 before → Rise low high (map (λ t. t.at) (map (turn_at bytes) words)) → FirstOf (HasUnknown bytes before (map (turn_at bytes) words)) (line_at bytes (get_or words i d).from) kinds.Section
unknown_first bytes before words i d sections low high w z e r =
    let word : Span = get_or words i d in
    let t : Turn = turn_at bytes word in
    let front : List Turn = map (turn_at bytes) (take i words) in
    let back : List Turn = map (turn_at bytes) (drop (i + 1) words) in
    let parts : map (turn_at bytes) words ≡ front ++ t ∷ back =
    ap (map (turn_at bytes)) (sym (take-append-drop i words) ∙ ap (λ (l : List Span). take i words ++ l) (drop_more words i d w)) ∙ map-append (turn_at bytes) (take i words) (word ∷ drop (i + 1) words) in
    let no : has_session t.name before ≡ false = has_is_found t.name 1 before ∙ ap is_some (sym e) in
    record {
      is = record { front = front; back = back; t = t; stands = parts; unknown = no; line_is = refl; kind_is = refl };
      first = λ l k h.
          let low' : t.at ≤ h.t.at = first_unknown before front back t sections low high z (subst (λ (x : List Turn). Rise low high (map (λ y. y.at) x)) parts r) h.front h.back h.t (sym parts ∙ h.stands) h.unknown in
          not_after (line_at bytes t.at) l kinds.Section k (omega (arith, line_rises bytes t.at h.t.at low', h.line_is)) (let q : rank k ≡ 2 = ap rank h.kind_is in omega arith);
    }

pub turns_more : (bytes : List ℕ) (before : List Part) (words : List Span) (i : ℕ) (d : Span) (sections now : List ℕ) (k : ℕ) → i < length words → AllZip (IsTurn before) (map (turn_at bytes) (take i words)) sections
    → IsTurn before (turn_at bytes (get_or words i d)) k → now ≡ sections ++ k ∷ [] → AllZip (IsTurn before) (map (turn_at bytes) (take (i + 1) words)) now
turns_more bytes before words i d sections now k w z t e =
    let parts : map (turn_at bytes) (take (i + 1) words) ≡ map (turn_at bytes) (take i words) ++ turn_at bytes (get_or words i d) ∷ [] =
    ap (map (turn_at bytes)) (take_more words i d w) ∙ map_push (turn_at bytes) (take i words) (get_or words i d) in
    rw (parts, e) (zip_push (IsTurn before) (map (turn_at bytes) (take i words)) sections (turn_at bytes (get_or words i d)) k z t)

-- ONE SECTION MORE

any_push : (f : Part → Bool) (ps : List Part) (p : Part) → list_any f (ps ++ p ∷ []) ≡ (list_any f ps || f p)
any_push f [] p = by (f p) where
  by : (b : Bool) → (b || false) ≡ (false || b)
  by true = refl
  by false = refl
any_push f (q ∷ qs) p = by (f q) (any_push f qs p) where
  by : (b : Bool) → list_any f (qs ++ p ∷ []) ≡ (list_any f qs || f p) → (b || list_any f (qs ++ p ∷ [])) ≡ ((b || list_any f qs) || f p)
  by true h = refl
  by false h = h

or_no : (a b : Bool) → b ≡ false → (a || b) ≡ a
or_no true b h = refl
or_no false b h = h

or_yes : (a b : Bool) → b ≡ true → (a || b) ≡ true
or_yes true b h = refl
or_yes false b h = h

any_same : (f : Part → Bool) (ps : List Part) (p : Part) → f p ≡ false → list_any f (ps ++ p ∷ []) ≡ list_any f ps
any_same f ps p h = any_push f ps p ∙ or_no (list_any f ps) (f p) h

sessions_push : (ps : List Part) (p : Part) → sessions (ps ++ p ∷ []) ≡ sessions ps ++ sessions (p ∷ [])
sessions_push ps p = filter-append (λ x. is_session x.header) ps (p ∷ [])

sessions_one : (p : Part) → is_session p.header ≡ true → sessions (p ∷ []) ≡ p ∷ []
sessions_one p h = ap (λ t. cond t (p ∷ []) []) h

sessions_none : (p : Part) → is_session p.header ≡ false → sessions (p ∷ []) ≡ []
sessions_none p h = ap (λ t. cond t (p ∷ []) []) h

short_push : (ps : List Part) (p : Part) → AllByRecursion (λ x. length x.statements ≤ 100000) ps → length p.statements ≤ 100000 → AllByRecursion (λ x. length x.statements ≤ 100000) (ps ++ p ∷ [])
short_push [] p a h = (h, tt)
short_push (q ∷ qs) p a h = (a.0, short_push qs p a.1 h)

get_more : (xs ys : List Part) (k : ℕ) (x : Part) → slice_get xs k ≡ Some x → slice_get (xs ++ ys) k ≡ Some x
get_more [] ys k x e = absurd (none-some x e)
get_more (z ∷ zs) ys zero x e = e
get_more (z ∷ zs) ys (suc k) x e = get_more zs ys k x e

turn_later : (ps : List Part) (p : Part) (t : Turn) (n : ℕ) → IsTurn ps t n → IsTurn (ps ++ p ∷ []) t n
turn_later ps p t n h = record {
  place = h.place;
  session = h.session;
  stands = ap (λ (l : List Part). slice_get l h.place) (sessions_push ps p) ∙ get_more (sessions ps) (sessions (p ∷ [])) h.place h.session h.stands;
  named = h.named;
  section_is = h.section_is;
}

turns_later : (ps : List Part) (p : Part) (ts : List Turn) (ns : List ℕ) → AllZip (IsTurn ps) ts ns → AllZip (IsTurn (ps ++ p ∷ [])) ts ns
turns_later ps p [] [] z = tt
turns_later ps p [] (n ∷ ns) z = absurd z
turns_later ps p (t ∷ ts) [] z = absurd z
turns_later ps p (t ∷ ts) (n ∷ ns) z = (turn_later ps p t n z.0, turns_later ps p ts ns z.1)

turns_push : (ps : List Part) (p : Part) → all_turns (ps ++ p ∷ []) ≡ all_turns ps ++ p.turns
turns_push ps p = flat_map-append (λ x. x.turns) ps (p ∷ []) ∙ ap (λ (l : List Turn). all_turns ps ++ l) (append-nil p.turns)

setup_push : (ps : List Part) (p : Part) → setup_statements (ps ++ p ∷ []) ≡ setup_statements ps ++ cond (is_setup p.header) p.statements []
setup_push ps p = flat_map-append (λ x. cond (is_setup x.header) x.statements []) ps (p ∷ []) ∙ ap (λ (l : List Statement). setup_statements ps ++ l) (append-nil (cond (is_setup p.header) p.statements []))

are_same : (before ps : List Part) (p : Part) (ss : List Section) → is_session p.header ≡ false → AreSessions before ps ss → AreSessions before (ps ++ p ∷ []) ss
are_same before [] p ss n a = inl (n, a)
are_same before (q ∷ qs) p ss n (inl a) = inl (a.0, are_same (before ++ q ∷ []) qs p ss n a.1)
are_same before (q ∷ qs) p ss n (inr (s, more, e, i, a)) = inr (s, more, e, i, are_same (before ++ q ∷ []) qs p more n a)

are_more : (before ps : List Part) (p : Part) (ss : List Section) (s : Section) → IsSession (before ++ ps) p s → AreSessions before ps ss → AreSessions before (ps ++ p ∷ []) (ss ++ s ∷ [])
are_more before [] p ss s i a = inr (s, [], ap (λ (l : List Section). l ++ s ∷ []) a, subst (λ (l : List Part). IsSession l p s) (append-nil before) i, refl)
are_more before (q ∷ qs) p ss s i (inl a) = inl (a.0, are_more (before ++ q ∷ []) qs p ss s (subst (λ (l : List Part). IsSession l p s) (sym (append_assoc before (q ∷ []) qs)) i) a.1)
are_more before (q ∷ qs) p ss s i (inr (x, more, e, j, a)) =
    inr (x, more ++ s ∷ [], ap (λ (l : List Section). l ++ s ∷ []) e, j, are_more (before ++ q ∷ []) qs p more s (subst (λ (l : List Part). IsSession l p s) (sym (append_assoc before (q ∷ []) qs)) i) a)

good_items : (before : List Part) (b : Bool) (ss : List Statement) (items : List Item) → AllZip (IsGoodItem before b) ss items → AllZip (IsItem before) ss items
good_items before b [] [] z = tt
good_items before b [] (i ∷ is) z = absurd z
good_items before b (s ∷ ss) [] z = absurd z
good_items before b (s ∷ ss) (i ∷ is) z = (z.0.is, good_items before b ss is z.1)

-- the setup, which stands first
pub draft_setup : (ps : List Part) (p : Part) (d : Draft) (items : List Item) → ps ≡ [] → p.header ≡ Setup → p.turns ≡ [] → IsDraft ps d → AllZip (IsGoodItem ps (is_session p.header)) p.statements items → length p.statements ≤ 100000
    → IsDraft (ps ++ p ∷ []) (record { has_setup = true; has_order = d.has_order; setup = items; sessions = d.sessions; order = d.order })
draft_setup ps p d items none h t i z n =
    let other : is_session p.header ≡ false = ap is_session h in
    let same : sessions (ps ++ p ∷ []) ≡ sessions ps = sessions_push ps p ∙ ap (λ (l : List Part). sessions ps ++ l) (sessions_none p other) ∙ append-nil (sessions ps) in
    record {
      setup_stands = sym (any_push (λ x. is_setup x.header) ps p ∙ or_yes (has_setup ps) (is_setup p.header) (ap is_setup h));
      order_stands = i.order_stands ∙ sym (any_same (λ x. is_order x.header) ps p (ap is_order h));
      setup = subst (λ (l : List Statement). AllZip (IsItem []) l items) (sym (setup_push ps p ∙ ap (λ (l : List Part). setup_statements l ++ cond (is_setup p.header) p.statements []) none ∙ ap (λ x. cond (is_setup x) p.statements []) h))
          (subst (λ (l : List Part). AllZip (IsItem l) p.statements items) none (good_items ps (is_session p.header) p.statements items z));
      made = are_same [] ps p d.sessions other i.made;
      count = i.count ∙ ap length (sym same);
      order = subst (λ (l : List Turn). AllZip (IsTurn (ps ++ p ∷ [])) l d.order) (sym (turns_push ps p ∙ ap (λ (l : List Turn). all_turns ps ++ l) t ∙ append-nil (all_turns ps))) (turns_later ps p (all_turns ps) d.order i.order);
      fair = record { few = (let e : length (sessions (ps ++ p ∷ [])) ≡ length (sessions ps) = ap length same in omega (arith, i.fair.few)); short = short_push ps p i.fair.short n };
    }

-- a session
pub draft_session : (ps : List Part) (p : Part) (d : Draft) (items : List Item) (name : List ℕ) (made : List Section) → p.header ≡ Session name → p.turns ≡ [] → IsDraft ps d → AllZip (IsGoodItem ps (is_session p.header)) p.statements items → length p.statements ≤ 100000
    → length (sessions ps) < 64 → made ≡ d.sessions ++ record { name = name; items = items } ∷ []
    → IsDraft (ps ++ p ∷ []) (record { has_setup = d.has_setup; has_order = d.has_order; setup = d.setup; sessions = made; order = d.order })
draft_session ps p d items name made h t i z n few e =
    let is : is_session p.header ≡ true = ap is_session h in
    let more : sessions (ps ++ p ∷ []) ≡ sessions ps ++ p ∷ [] = sessions_push ps p ∙ ap (λ (l : List Part). sessions ps ++ l) (sessions_one p is) in
    let long : length (sessions (ps ++ p ∷ [])) ≡ length (sessions ps) + 1 = ap length more ∙ length-append (sessions ps) (p ∷ []) in
    let added : length made ≡ length d.sessions + 1 = ap length e ∙ length-append d.sessions (record { name = name; items = items } ∷ []) in
    record {
      setup_stands = i.setup_stands ∙ sym (any_same (λ x. is_setup x.header) ps p (ap is_setup h));
      order_stands = i.order_stands ∙ sym (any_same (λ x. is_order x.header) ps p (ap is_order h));
      setup = subst (λ (l : List Statement). AllZip (IsItem []) l d.setup) (sym (setup_push ps p ∙ ap (λ x. setup_statements ps ++ cond (is_setup x) p.statements []) h ∙ append-nil (setup_statements ps))) i.setup;
      made = subst (λ (l : List Section). AreSessions [] (ps ++ p ∷ []) l) (sym e) (are_more [] ps p d.sessions (record { name = name; items = items }) (record { named = h; items = good_items ps (is_session p.header) p.statements items z }) i.made);
      count = omega (arith, i.count, long, added);
      order = subst (λ (l : List Turn). AllZip (IsTurn (ps ++ p ∷ [])) l d.order) (sym (turns_push ps p ∙ ap (λ (l : List Turn). all_turns ps ++ l) t ∙ append-nil (all_turns ps))) (turns_later ps p (all_turns ps) d.order i.order);
      fair = record { few = omega (arith, long, few); short = short_push ps p i.fair.short n };
    }

-- the order, which stands last
pub draft_order : (ps : List Part) (p : Part) (d : Draft) (turns : List ℕ) → p.header ≡ Order → p.statements ≡ [] → all_turns ps ≡ [] → IsDraft ps d → AllZip (IsTurn ps) p.turns turns
    → IsDraft (ps ++ p ∷ []) (record { has_setup = d.has_setup; has_order = true; setup = d.setup; sessions = d.sessions; order = turns })
draft_order ps p d turns h s none i z =
    let other : is_session p.header ≡ false = ap is_session h in
    let same : sessions (ps ++ p ∷ []) ≡ sessions ps = sessions_push ps p ∙ ap (λ (l : List Part). sessions ps ++ l) (sessions_none p other) ∙ append-nil (sessions ps) in
    record {
      setup_stands = i.setup_stands ∙ sym (any_same (λ x. is_setup x.header) ps p (ap is_setup h));
      order_stands = sym (any_push (λ x. is_order x.header) ps p ∙ or_yes (has_order ps) (is_order p.header) (ap is_order h));
      setup = subst (λ (l : List Statement). AllZip (IsItem []) l d.setup) (sym (setup_push ps p ∙ ap (λ x. setup_statements ps ++ cond (is_setup x) p.statements []) h ∙ append-nil (setup_statements ps))) i.setup;
      made = are_same [] ps p d.sessions other i.made;
      count = i.count ∙ ap length (sym same);
      order = subst (λ (l : List Turn). AllZip (IsTurn (ps ++ p ∷ [])) l turns) (sym (turns_push ps p ∙ ap (λ (l : List Turn). l ++ p.turns) none)) (turns_later ps p p.turns turns z);
      fair = record {
        few = (let e : length (sessions (ps ++ p ∷ [])) ≡ length (sessions ps) = ap length same in omega (arith, i.fair.few));
        short = short_push ps p i.fair.short (let n : length p.statements ≡ 0 = ap length s in omega arith);
      };
    }

pub draft_none : IsDraft [] (record { has_setup = false; has_order = false; setup = []; sessions = []; order = [] })
draft_none = record { setup_stands = refl; order_stands = refl; setup = tt; made = refl; count = refl; order = tt; fair = record { few = omega arith; short = tt } }

-- sections without an order have no words
pub no_words : (bytes : List ℕ) (spans : List PartSpan) → has_order (parts_of bytes spans) ≡ false → all_turns (parts_of bytes spans) ≡ []
no_words bytes [] h = refl
no_words bytes (s ∷ ss) h = by s.content h (no_words bytes ss) where
  by : (c : Content) → (is_order (header_in bytes c) || has_order (parts_of bytes ss)) ≡ false → (has_order (parts_of bytes ss) ≡ false → all_turns (parts_of bytes ss) ≡ []) → turns_in bytes c ++ all_turns (parts_of bytes ss) ≡ []
  by (contents.Setup spans) k more = more k
  by (contents.Session name spans) k more = more k
  by (contents.Order words) k more = cc
  by contents.Other k more = more k

pub part_same : (bytes : List ℕ) (p : PartSpan) (k : Content) → p.content ≡ k → part_with bytes p.at k ≡ part_of bytes p
part_same bytes p k e = ap (part_with bytes p.at) (sym e)

-- ALL SECTIONS

pub right_push : (bytes : List ℕ) (b ps : List Part) (p : Part) → AreRight bytes b ps → NoneOf (IsWrong bytes (b ++ ps) p) → AreRight bytes b (ps ++ p ∷ [])
right_push bytes b [] p a n = (subst (λ (l : List Part). NoneOf (IsWrong bytes l p)) (append-nil b) n, tt)
right_push bytes b (q ∷ qs) p a n = (a.0, right_push bytes (b ++ q ∷ []) qs p a.1 (subst (λ (l : List Part). NoneOf (IsWrong bytes l p)) (sym (append_assoc b (q ∷ []) qs)) n))

right_at : (bytes : List ℕ) (b before after : List Part) (p : Part) → AreRight bytes b (before ++ p ∷ after) → NoneOf (IsWrong bytes (b ++ before) p)
right_at bytes b [] after p a = subst (λ (l : List Part). NoneOf (IsWrong bytes l p)) (sym (append-nil b)) a.0
right_at bytes b (q ∷ before) after p a = subst (λ (l : List Part). NoneOf (IsWrong bytes l p)) (append_assoc b (q ∷ []) before) (right_at bytes (b ++ q ∷ []) before after p a.1)

pub right_none : (bytes : List ℕ) (parts : List Part) → AreRight bytes [] parts → NoneOf (IsWithin bytes parts)
right_none bytes parts a l k w = right_at bytes [] w.before w.after w.p (subst (AreRight bytes []) w.stands a) l k w.wrong

pub spread_at : (bytes : List ℕ) (from : ℕ) (front back : List Part) (p : Part) → AreSpread bytes from (front ++ p ∷ back) → LiesSomewhere p
spread_at bytes from [] back p s = (from, s.0, s.1)
spread_at bytes from (x ∷ front) back p s = spread_at bytes s.0 front back p s.3

-- a fault of a section stands behind the place where the sections begin
spread_low : (bytes : List ℕ) (from : ℕ) (front back b : List Part) (p : Part) (l : ℕ) (k : ScriptKind) → AreSpread bytes from (front ++ p ∷ back) → IsWrong bytes b p l k → line_at bytes from ≤ l
spread_low bytes from [] back b p l k s w =
    let h = wrong_placed bytes b p from s.0 l k s.1 w in
    let r = line_rises bytes from h.place h.low in
    omega (arith, r, h.line_is)
spread_low bytes from (x ∷ front) back b p l k s w =
    let h = spread_low bytes s.0 front back b p l k s.3 w in
    let r = line_rises bytes from s.0 (omega (arith, s.1.some)) in
    omega (arith, r, h)

pub within_low : (bytes : List ℕ) (from : ℕ) (parts : List Part) (l : ℕ) (k : ScriptKind) → AreSpread bytes from parts → IsWithin bytes parts l k → line_at bytes from ≤ l
within_low bytes from parts l k s w = spread_low bytes from w.before w.after w.before w.p l k (subst (AreSpread bytes from) w.stands s) w.wrong

pub within_rank : (bytes : List ℕ) (parts : List Part) (l : ℕ) (k : ScriptKind) → IsWithin bytes parts l k → 2 ≤ rank k
within_rank bytes parts l k w = wrong_rank bytes w.before w.p l k w.wrong

apart_at : (bytes : List ℕ) (to : ℕ) (back b a : List Part) (p : Part) → back ≡ b ++ p ∷ a → (back ≡ []) ⊎ Separates bytes to → Separates bytes to
apart_at bytes to back b a p e (inl n) = absurd (no_cons back b a p n e)
apart_at bytes to back b a p e (inr s) = s

first_at : (bytes : List ℕ) (from line : ℕ) (kind : ScriptKind) (b front back : List Part) (p : Part) → AreRight bytes b front → FirstOf (IsWrong bytes (b ++ front) p) line kind → AreSpread bytes from (front ++ p ∷ back)
    → (before after : List Part) (q : Part) (l : ℕ) (k : ScriptKind) → front ++ p ∷ back ≡ before ++ q ∷ after → IsWrong bytes (b ++ before) q l k → Before line kind l k
first_at bytes from line kind b [] back p a f s [] after q l k e w = let h : p ≡ q = cc in f.first l k (subst (λ x. IsWrong bytes (b ++ []) x l k) (sym h) w)
first_at bytes from line kind b [] back p a f s (x ∷ before) after q l k e w =
    let h : back ≡ before ++ q ∷ after = cc in
    let apart : Separates bytes s.0 = apart_at bytes s.0 back before after q h s.2 in
    let here = wrong_placed bytes (b ++ []) p from s.0 line kind s.1 f.is in
    let low : line_at bytes s.0 ≤ l = spread_low bytes s.0 before after (b ++ x ∷ before) q l k (subst (AreSpread bytes s.0) h s.3) w in
    let less : line_at bytes here.place < line_at bytes s.0 = apart here.place here.high in
    inl (omega (arith, low, less, here.line_is))
first_at bytes from line kind b (x ∷ front) back p a f s [] after q l k e w =
    let h : x ≡ q = cc in absurd (a.0 l k (subst (λ (y : List Part). IsWrong bytes y x l k) (append-nil b) (subst (λ y. IsWrong bytes (b ++ []) y l k) (sym h) w)))
first_at bytes from line kind b (x ∷ front) back p a f s (y ∷ before) after q l k e w =
    let h : front ++ p ∷ back ≡ before ++ q ∷ after = cc in
    let g : x ≡ y = cc in
    first_at bytes s.0 line kind (b ++ x ∷ []) front back p a.1 (subst (λ (z : List Part). FirstOf (IsWrong bytes z p) line kind) (sym (append_assoc b (x ∷ []) front)) f) s.3 before after q l k h
    (subst (λ (z : List Part). IsWrong bytes z q l k) (ap (λ z. b ++ z ∷ before) (sym g) ∙ sym (append_assoc b (x ∷ []) before)) w)

pub within_first : (bytes : List ℕ) (from : ℕ) (parts front back : List Part) (p : Part) (fault : ScriptFault) → parts ≡ front ++ p ∷ back → AreRight bytes [] front → AreSpread bytes from parts → FaultOf (IsWrong bytes front p) fault → FaultOf (IsWithin bytes parts) fault
within_first bytes from parts front back p faults.Memory e a s f = tt
within_first bytes from parts front back p (faults.Bad line kind) e a s f = record {
  is = record { before = front; after = back; p = p; stands = e; wrong = f.is };
  first = λ l k w. first_at bytes from line kind [] front back p a f (subst (AreSpread bytes from) e s) w.before w.after w.p l k (sym e ∙ w.stands) w.wrong;
}

-- AS THE CODE FINDS THEM

pub section_small : (ps : List Part) (name : List ℕ) (k : ℕ) → IsFair ps → Some k ≡ find_session name 0 1 ps → k ≤ 64
section_small ps name k f e = found_small name 0 ps k f e

not_yes : (b : Bool) → not b ≡ false → b ≡ true
not_yes true h = refl
not_yes false h = cc

not_no : (b : Bool) → b ≡ false → not b ≡ true
not_no true h = cc
not_no false h = refl

pub found_old : (name : List ℕ) (ps : List Part) (k : ℕ) (b : Bool) → Some k ≡ find_session name 0 1 ps → false ≡ (not b && not (has_session name ps))
found_old name ps k b e = by b (has_session name ps) (has_is_found name 1 ps ∙ ap is_some (sym e)) where
  by : (b h : Bool) → h ≡ true → false ≡ (not b && not h)
  by true true k = refl
  by false true k = refl
  by b false k = cc

pub found_new : (name : List ℕ) (ps : List Part) (b : Bool) → None ≡ find_session name 0 1 ps → not b ≡ (not b && not (has_session name ps))
found_new name ps b e = by b (has_session name ps) (has_is_found name 1 ps ∙ ap is_some (sym e)) where
  by : (b h : Bool) → h ≡ false → not b ≡ (not b && not h)
  by true false k = refl
  by false false k = refl
  by b true k = cc

setup_behind : (ps : List Part) → (ps ≡ [] → ⊥) → is_in_place ps Setup ≡ false
setup_behind [] h = absurd (h refl)
setup_behind (p ∷ ps) h = refl

setup_first : (ps : List Part) → ps ≡ [] → is_in_place ps Setup ≡ true
setup_first ps e = ap (λ l. is_in_place l Setup) e

abbrev setup_part : List ℕ → ℕ → List Span → Part
setup_part bytes at spans = part_with bytes at (contents.Setup spans)

setup_plain : (bytes : List ℕ) (ps : List Part) (at : ℕ) (spans : List Span) → ps ≡ [] → IsPlain ps (setup_part bytes at spans)
setup_plain bytes ps at spans e = record { in_place = setup_first ps e; no_turns = refl; few = λ h. cc }

pub setup_misplaced : (bytes : List ℕ) (ps : List Part) (at : ℕ) (spans : List Span) → (ps ≡ [] → ⊥) → LiesSomewhere (setup_part bytes at spans) → FirstOf (IsWrong bytes ps (setup_part bytes at spans)) (line_at bytes at) kinds.Section
setup_misplaced bytes ps at spans h l = misplaced_first bytes ps (setup_part bytes at spans) l.0 l.1 l.2 (setup_behind ps h)

pub setup_fault : (bytes : List ℕ) (ps : List Part) (at : ℕ) (spans : List Span) (fault : ScriptFault) → ps ≡ [] → FaultOf (HasBadStatement bytes ps false (map (statement_at bytes) spans)) fault → FaultOf (IsWrong bytes ps (setup_part bytes at spans)) fault
setup_fault bytes ps at spans fault e f = plain_first bytes ps (setup_part bytes at spans) fault (setup_plain bytes ps at spans e) f

pub setup_added : (bytes : List ℕ) (ps : List Part) (at : ℕ) (spans : List Span) (d : Draft) (items : List Item) → ps ≡ [] → IsDraft ps d → AllZip (IsGoodItem ps false) (map (statement_at bytes) spans) items → length spans ≤ 100000
    → IsAdded bytes ps (setup_part bytes at spans) (record { has_setup = true; has_order = d.has_order; setup = items; sessions = d.sessions; order = d.order })
setup_added bytes ps at spans d items e i z n =
    let m : length (map (statement_at bytes) spans) ≤ 100000 = omega (arith, length-map spans (statement_at bytes)) in
    record {
      drafted = draft_setup ps (setup_part bytes at spans) d items e refl refl i z m;
      right = plain_right bytes ps (setup_part bytes at spans) items (setup_plain bytes ps at spans e) z m;
    }

abbrev session_part : List ℕ → ℕ → Span → List Span → Part
session_part bytes at name spans = part_with bytes at (contents.Session name spans)

pub session_misplaced : (bytes : List ℕ) (ps : List Part) (at : ℕ) (name : Span) (spans : List Span) (d : Draft) → IsDraft ps d → (not d.has_order && not (has_session (cut bytes name) ps)) ≡ false → LiesSomewhere (session_part bytes at name spans)
    → FirstOf (IsWrong bytes ps (session_part bytes at name spans)) (line_at bytes at) kinds.Section
session_misplaced bytes ps at name spans d i h l = misplaced_first bytes ps (session_part bytes at name spans) l.0 l.1 l.2 (ap (λ b. not b && not (has_session (cut bytes name) ps)) (sym i.order_stands) ∙ h)

pub session_many : (bytes : List ℕ) (ps : List Part) (at : ℕ) (name : Span) (spans : List Span) (d : Draft) → IsDraft ps d → (not d.has_order && not (has_session (cut bytes name) ps)) ≡ true → 64 ≤ length d.sessions → LiesSomewhere (session_part bytes at name spans)
    → FirstOf (IsWrong bytes ps (session_part bytes at name spans)) (line_at bytes at) kinds.Sessions
session_many bytes ps at name spans d i h m l = sessions_first bytes ps (session_part bytes at name spans) l.0 l.1 l.2 (ap (λ b. not b && not (has_session (cut bytes name) ps)) (sym i.order_stands) ∙ h) refl refl (omega (arith, i.count))

session_plain : (bytes : List ℕ) (ps : List Part) (at : ℕ) (name : Span) (spans : List Span) (d : Draft) → IsDraft ps d → (not d.has_order && not (has_session (cut bytes name) ps)) ≡ true → length d.sessions < 64 → IsPlain ps (session_part bytes at name spans)
session_plain bytes ps at name spans d i h m = record { in_place = ap (λ b. not b && not (has_session (cut bytes name) ps)) (sym i.order_stands) ∙ h; no_turns = refl; few = λ s. (omega (arith, i.count)) }

pub session_fault : (bytes : List ℕ) (ps : List Part) (at : ℕ) (name : Span) (spans : List Span) (d : Draft) (fault : ScriptFault) → IsDraft ps d → (not d.has_order && not (has_session (cut bytes name) ps)) ≡ true → length d.sessions < 64
    → FaultOf (HasBadStatement bytes ps true (map (statement_at bytes) spans)) fault → FaultOf (IsWrong bytes ps (session_part bytes at name spans)) fault
session_fault bytes ps at name spans d fault i h m f = plain_first bytes ps (session_part bytes at name spans) fault (session_plain bytes ps at name spans d i h m) f

pub session_added : (bytes : List ℕ) (ps : List Part) (at : ℕ) (name : Span) (spans : List Span) (d : Draft) (items : List Item) (text : List ℕ) (made : List Section) → IsDraft ps d → (not d.has_order && not (has_session (cut bytes name) ps)) ≡ true → length d.sessions < 64
    → AllZip (IsGoodItem ps true) (map (statement_at bytes) spans) items → length spans ≤ 100000 → text ≡ cut bytes name → made ≡ d.sessions ++ record { name = text; items = items } ∷ []
    → IsAdded bytes ps (session_part bytes at name spans) (record { has_setup = d.has_setup; has_order = d.has_order; setup = d.setup; sessions = made; order = d.order })
session_added bytes ps at name spans d items text made i h f z n t e =
    let m : length (map (statement_at bytes) spans) ≤ 100000 = omega (arith, length-map spans (statement_at bytes)) in
    let few : length (sessions ps) < 64 = omega (arith, i.count) in
    record {
      drafted = draft_session ps (session_part bytes at name spans) d items text made (ap Session (sym t)) refl i z m few e;
      right = plain_right bytes ps (session_part bytes at name spans) items (session_plain bytes ps at name spans d i h f) z m;
    }

abbrev order_part : List ℕ → ℕ → List Span → Part
order_part bytes at words = part_with bytes at (contents.Order words)

pub order_misplaced : (bytes : List ℕ) (ps : List Part) (at : ℕ) (words : List Span) (d : Draft) → IsDraft ps d → d.has_order ≡ true → LiesSomewhere (order_part bytes at words) → FirstOf (IsWrong bytes ps (order_part bytes at words)) (line_at bytes at) kinds.Section
order_misplaced bytes ps at words d i h l = misplaced_first bytes ps (order_part bytes at words) l.0 l.1 l.2 (ap not (sym i.order_stands ∙ h))

order_wordy : (bytes : List ℕ) (ps : List Part) (at : ℕ) (words : List Span) (d : Draft) → IsDraft ps d → d.has_order ≡ false → IsWordy ps (order_part bytes at words)
order_wordy bytes ps at words d i h = record { in_place = ap not (sym i.order_stands ∙ h); no_statements = refl; other = refl }

pub order_fault : (bytes : List ℕ) (ps : List Part) (at : ℕ) (words : List Span) (d : Draft) (fault : ScriptFault) → IsDraft ps d → d.has_order ≡ false → FaultOf (HasUnknown bytes ps (map (turn_at bytes) words)) fault → FaultOf (IsWrong bytes ps (order_part bytes at words)) fault
order_fault bytes ps at words d fault i h f = wordy_first bytes ps (order_part bytes at words) fault (order_wordy bytes ps at words d i h) f

pub order_added : (bytes : List ℕ) (before : List PartSpan) (at : ℕ) (words : List Span) (d : Draft) (turns : List ℕ) → IsDraft (parts_of bytes before) d → d.has_order ≡ false → AllZip (IsTurn (parts_of bytes before)) (map (turn_at bytes) words) turns
    → IsAdded bytes (parts_of bytes before) (order_part bytes at words) (record { has_setup = d.has_setup; has_order = true; setup = d.setup; sessions = d.sessions; order = turns })
order_added bytes before at words d turns i h z = record {
  drafted = draft_order (parts_of bytes before) (order_part bytes at words) d turns refl refl (no_words bytes before (sym i.order_stands ∙ h)) i z;
  right = wordy_right bytes (parts_of bytes before) (order_part bytes at words) turns (order_wordy bytes (parts_of bytes before) at words d i h) z;
}

pub other_misplaced : (bytes : List ℕ) (ps : List Part) (at : ℕ) → LiesSomewhere (part_with bytes at contents.Other) → FirstOf (IsWrong bytes ps (part_with bytes at contents.Other)) (line_at bytes at) kinds.Section
other_misplaced bytes ps at l = misplaced_first bytes ps (part_with bytes at contents.Other) l.0 l.1 l.2 refl

-- the section at a place among the others
pub parts_at : (bytes : List ℕ) (spans : List PartSpan) (i : ℕ) (s : PartSpan) → i < length spans → s ≡ get_or spans i s → parts_of bytes spans ≡ parts_of bytes (take i spans) ++ part_of bytes s ∷ parts_of bytes (drop (i + 1) spans)
parts_at bytes spans i s w e =
    ap (parts_of bytes) (sym (take-append-drop i spans) ∙ ap (λ (l : List PartSpan). take i spans ++ l) (drop_more spans i s w ∙ ap (λ x. x ∷ drop (i + 1) spans) (sym e))) ∙ map-append (part_of bytes) (take i spans) (s ∷ drop (i + 1) spans)

pub parts_more : (bytes : List ℕ) (spans : List PartSpan) (i : ℕ) (s : PartSpan) → i < length spans → s ≡ get_or spans i s → parts_of bytes (take (i + 1) spans) ≡ parts_of bytes (take i spans) ++ part_of bytes s ∷ []
parts_more bytes spans i s w e = ap (parts_of bytes) (take_more spans i s w ∙ ap (λ x. take i spans ++ x ∷ []) (sym e)) ∙ map_push (part_of bytes) (take i spans) s

pub no_parts : (bytes : List ℕ) (spans : List PartSpan) → (length spans == 0) ≡ true → parts_of bytes spans ≡ []
no_parts bytes [] h = refl
no_parts bytes (s ∷ ss) h = absurd (let e : length (s ∷ ss) ≡ 0 = eqb-true (length (s ∷ ss)) 0 h in omega arith)

pub some_parts : (bytes : List ℕ) (spans : List PartSpan) → (length spans == 0) ≡ false → parts_of bytes spans ≡ [] → ⊥
some_parts bytes [] h e = cc
some_parts bytes (s ∷ ss) h e = cc
