-- From what is made of the sections to the script, and from their first fault to the input's.
use Rattle.std.proofs.Common.{◌≡◌, ◌≢◌, ℕ, ◌≤◌, List, [], ◌++◌, length, take, drop, refl, sym, ap, ◌∙◌, subst, arith}
use Rattle.std.specs.Prelude.{codes}
use Rattle.std.specs.List.{AllZip}
use Rattle.std.specs.Str.{IsUtf8, IsValidUpTo}
use Rattle.std.proofs.lemmas.List.{take-append-drop, length-take-le, length-drop, append-nil}
use Rattle.pg_lex.specs.Tokens.{Gap}
use Rattle.pg_lex.specs.Once.{gap_once}
use Rattle.pg_script.specs.declared.script.Script.{Script}
use Rattle.pg_script.specs.declared.draft.Draft.{Draft}
use Rattle.pg_script.specs.declared.fault.ScriptKind.{ScriptKind}
use Rattle.pg_script.specs.declared.fault.ScriptKind.TheVariants as kinds
use Rattle.pg_script.specs.declared.fault.ScriptFault.{ScriptFault}
use Rattle.pg_script.specs.declared.fault.ScriptFault.TheVariants as faults
use Rattle.pg_script.specs.Layout.{line_at}
use Rattle.pg_script.specs.Script.{Part, IsRead, HasFault, early, within, rank, IsLongestText, most_bytes, IsText, IsTurn, all_turns, IsScriptFault, IsScript, IsNoScript}
use Rattle.pg_script.specs.Passes.{AreSpread}
use Rattle.pg_script.specs.Passes.Drafts.{FirstOf, FaultOf, IsWithin, IsEarly, IsDrafted, IsSplit, SplitFault, IsMade}
use Rattle.pg_script.proofs.Passes.Lines.{line_rises}
use Rattle.pg_script.proofs.Passes.Drafts.{within_low, within_rank}
use Rattle.pg_script.proofs.Passes.Items.{not_after}

-- WHAT STANDS BEFORE THE FIRST SECTION

-- blanks in front of the same bytes are the same
same_gap : (head gap rest : List ℕ) (n : ℕ) → Gap (take n head) (drop n head) → head ≡ gap ++ rest → Gap gap rest → (take n head ≡ gap) × (drop n head ≡ rest)
same_gap head gap rest n g e h = gap_once (take n head) gap (drop n head) rest (take-append-drop n head ∙ e) g h

no_rest : (head gap rest : List ℕ) → Gap head [] → head ≡ gap ++ rest → Gap gap rest → rest ≢ [] → ⊥
no_rest head gap rest g e h n = n (sym (gap_once head gap [] rest (append-nil head ∙ e) g h).1)

fault_within : (bytes head : List ℕ) (parts : List Part) (l : ℕ) (k : ScriptKind) → Gap head [] → HasFault bytes head parts l k → IsWithin bytes parts l k
fault_within bytes head parts l k g (early gap rest e h n a b) = absurd (no_rest head gap rest g e h n)
fault_within bytes head parts l k g (within before after p e w) = record { before = before; after = after; p = p; stands = e; wrong = w }

within_fault : (bytes head : List ℕ) (parts : List Part) (l : ℕ) (k : ScriptKind) → IsWithin bytes parts l k → HasFault bytes head parts l k
within_fault bytes head parts l k w = within w.before w.after w.p w.stands w.wrong

fault_rank : (bytes head : List ℕ) (parts : List Part) (l : ℕ) (k : ScriptKind) → HasFault bytes head parts l k → 2 ≤ rank k
fault_rank bytes head parts l k (early gap rest e h n a b) = let r : rank k ≡ 2 = ap rank b in omega arith
fault_rank bytes head parts l k (within before after p e w) = within_rank bytes parts l k (record { before = before; after = after; p = p; stands = e; wrong = w })

pub early_first : (bytes front : List ℕ) (n place : ℕ) (parts : List Part) → front ≡ take n bytes → n ≤ length bytes → AreSpread bytes n parts → IsEarly front place → FirstOf (HasFault bytes (take n bytes) parts) (line_at bytes place) kinds.Section
early_first bytes front n place parts f w s e =
    let len : length (take place front) ≡ place = length-take-le place front (let k = e.within in omega arith) in
    let long : length front ≡ n = ap length f ∙ length-take-le n bytes w in
    let some : drop place front ≢ [] = λ z. (let m : length front ≤ place = omega (arith, ap length z, length-drop place front) in absurd (let k = e.within in omega arith)) in
    let is : HasFault bytes (take n bytes) parts (line_at bytes place) kinds.Section =
    early (take place front) (drop place front) (sym f ∙ sym (take-append-drop place front)) e.gap some (ap (line_at bytes) (sym len)) refl in
    record { is = is; first = λ l k h. not_after (line_at bytes place) l kinds.Section k (by len long l k h) (fault_rank bytes (take n bytes) parts l k h) }
  where
    by : length (take place front) ≡ place → length front ≡ n → (l : ℕ) (k : ScriptKind) → HasFault bytes (take n bytes) parts l k → line_at bytes place ≤ l
    by len long l k (early gap rest e' h m a b) =
        let same : length gap ≡ place = sym (ap length (same_gap front gap rest place e.gap (f ∙ e') h).0) ∙ len in
        let q : line_at bytes (length gap) ≡ line_at bytes place = ap (line_at bytes) same in
        omega (arith, a)
    by len long l k (within before after p e' x) =
        let low : line_at bytes n ≤ l = within_low bytes n parts l k s (record { before = before; after = after; p = p; stands = e'; wrong = x }) in
        let r : line_at bytes place ≤ line_at bytes n = line_rises bytes place n (let k = e.within in omega arith) in
        omega (arith, low, r)

pub split_fault : (bytes head front : List ℕ) (parts : List Part) (fault : ScriptFault) → front ≡ head → IsRead bytes head parts → Gap front [] → FaultOf (IsWithin bytes parts) fault → SplitFault bytes fault
split_fault bytes head front parts faults.Memory e r g f = tt
split_fault bytes head front parts (faults.Bad line kind) e r g f = (
  head,
  parts,
  r,
  record {
    is = within_fault bytes head parts line kind f.is;
    first = λ l k h. f.first l k (fault_within bytes head parts l k (subst (λ (x : List ℕ). Gap x []) e g) h);
  },
)

pub is_split : (bytes head front : List ℕ) (parts : List Part) (d : Draft) → front ≡ head → IsRead bytes head parts → Gap front [] → IsDrafted bytes parts d → IsSplit bytes d
is_split bytes head front parts d e r g h = record {
  head = head;
  parts = parts;
  read = r;
  right = λ l k f. h.right l k (fault_within bytes head parts l k (subst (λ (x : List ℕ). Gap x []) e g) f);
  drafted = h.drafted;
}

-- THE WHOLE

pub no_script : (bytes : List ℕ) (fault : ScriptFault) → IsText bytes → SplitFault bytes fault → IsNoScript bytes fault
no_script bytes faults.Memory t f = tt
no_script bytes (faults.Bad line kind) t (head, parts, r, f) = by kind f where
  by : (kind : ScriptKind) → FirstOf (HasFault bytes head parts) line kind → IsScriptFault bytes line kind
  by kinds.TooLong f = absurd (let q = fault_rank bytes head parts line kinds.TooLong f.is in omega arith)
  by kinds.NotText f = absurd (let q = fault_rank bytes head parts line kinds.NotText f.is in omega arith)
  by kinds.Section f = (t, (head, parts, r, record { is = f.is; first = f.first }))
  by kinds.Sessions f = (t, (head, parts, r, record { is = f.is; first = f.first }))
  by kinds.Statements f = (t, (head, parts, r, record { is = f.is; first = f.first }))
  by kinds.AfterName f = (t, (head, parts, r, record { is = f.is; first = f.first }))

pub is_text : (bytes text : List ℕ) → bytes ≡ text → length bytes ≤ most_bytes → IsUtf8 text → IsText bytes
is_text bytes text e w u = record { short = w; utf8 = subst IsUtf8 (sym e) u }

pub is_script : (bytes text : List ℕ) (d : Draft) (script : Script) → bytes ≡ text → IsText bytes → IsSplit bytes d → IsMade text d script → IsScript bytes script
is_script bytes text d script e t s m = record {
  is_text = t;
  head = s.head;
  parts = s.parts;
  read = s.read;
  right = s.right;
  text = m.text_is ∙ sym e;
  setup_stands = m.setup_stands ∙ s.drafted.setup_stands;
  setup = record { name = codes "setup"; items = d.setup };
  others = d.sessions;
  sections = m.sections;
  is_setup = record { named = refl; items = s.drafted.setup };
  are_sessions = s.drafted.made;
  order = subst (λ (o : List ℕ). AllZip (IsTurn s.parts) (all_turns s.parts) o) (sym m.order) s.drafted.order;
}

pub not_text : (bytes : List ℕ) (n place : ℕ) → length bytes ≤ most_bytes → place ≡ n → IsValidUpTo bytes n → IsNoScript bytes (faults.Bad (line_at bytes place) kinds.NotText)
not_text bytes n place w e v =
    let l : IsLongestText bytes n = record { within = v.short; text = v.front; longest = λ m a b u. v.longest m a u } in
    (w, (n, l, ap (line_at bytes) e))
