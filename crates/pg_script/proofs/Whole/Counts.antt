-- No section of a script has more than 100,000 items.
use Rattle.std.proofs.Common.{◌≡◌, ℕ, zero, suc, ◌<◌, ◌≤◌, Bool, true, false, cond, List, [], ◌∷◌, ◌++◌, length, refl, sym, ap, ◌∙◌, subst, arith, inl, inr, ◌⊎◌, append_assoc}
use Rattle.std.specs.Prelude.{get_or, slice_get}
use Rattle.std.specs.declared.option.Option.TheVariants.{Some}
use Rattle.std.specs.List.{AllZip}
use Rattle.std.proofs.lemmas.List.{length-append}
use Rattle.std.proofs.lemmas.Bool.{cases_lt}
use Rattle.pg_keyed.specs.Lists.{Each}
use Rattle.pg_script.specs.declared.fault.ScriptKind.{ScriptKind}
use Rattle.pg_script.specs.declared.fault.ScriptKind.TheVariants as kinds
use Rattle.pg_script.specs.declared.script.Section.{Section}
use Rattle.pg_script.specs.declared.script.Script.{Script}
use Rattle.pg_script.specs.Layout.{Header, Setup, Session, Order, Other, line_at}
use Rattle.pg_script.specs.Script.{Part, is_setup, is_in_place, IsWrong, misplaced, many_statements, within, setup_statements, IsItem, AreSessions, IsScript}
use Rattle.pg_script.specs.Legal.{no_section}
use Rattle.pg_script.specs.Whole.{most_items, FewItems}

there : {X : Type 0} (xs : List X) (i : ℕ) → i < length xs → (x : X) × (slice_get xs i ≡ Some x)
there [] i h = absurd (omega (arith, h))
there (x ∷ xs) zero h = (x, refl)
there (x ∷ xs) (suc i) h = there xs i (omega (arith, h))

as_long : {X Y : Type 0} (P : X → Y → Type 0) (xs : List X) (ys : List Y) → AllZip P xs ys → length ys ≡ length xs
as_long P [] [] h = refl
as_long P [] (y ∷ ys) h = absurd h
as_long P (x ∷ xs) [] h = absurd h
as_long P (x ∷ xs) (y ∷ ys) h = ap suc (as_long P xs ys h.1)

-- nothing is wrong with these sections behind those
abbrev AreRight : List ℕ → List Part → List Part → Type 0
AreRight bytes before parts = (front back : List Part) (p : Part) (line : ℕ) (kind : ScriptKind) → parts ≡ front ++ p ∷ back → IsWrong bytes (before ++ front) p line kind → ⊥

right_next : (bytes : List ℕ) (before : List Part) (p : Part) (parts : List Part) → AreRight bytes before (p ∷ parts) → AreRight bytes (before ++ p ∷ []) parts
right_next bytes before p parts r front back q line kind e w = r (p ∷ front) back q line kind (ap (λ l. p ∷ l) e) (subst (λ l. IsWrong bytes l q line kind) (append_assoc before (p ∷ []) front) w)

right_first : (bytes : List ℕ) (before : List Part) (p : Part) (parts : List Part) (line : ℕ) (kind : ScriptKind) → AreRight bytes before (p ∷ parts) → IsWrong bytes before p line kind → ⊥
right_first bytes before p parts line kind r w = r [] parts p line kind refl (subst (λ l. IsWrong bytes l p line kind) (sym (nothing_behind before)) w) where
  nothing_behind : (xs : List Part) → xs ++ [] ≡ xs
  nothing_behind [] = refl
  nothing_behind (x ∷ xs) = ap (λ l. x ∷ l) (nothing_behind xs)

few_statements : (bytes : List ℕ) (before : List Part) (p : Part) (parts : List Part) → AreRight bytes before (p ∷ parts) → length p.statements ≤ most_items
few_statements bytes before p parts r = elim (cases_lt most_items (length p.statements)) [
  | inl lt ↦ (let s = there p.statements most_items lt in absurd (right_first bytes before p parts (line_at bytes (s.0).from) kinds.Statements r (many_statements s.0 s.1 refl refl)))
  | inr le ↦ le
]

-- THE SETUP

setup_or_not : (h : Header) → (h ≡ Setup) ⊎ (is_setup h ≡ false)
setup_or_not Setup = inl refl
setup_or_not (Session name) = inr refl
setup_or_not Order = inr refl
setup_or_not Other = inr refl

-- behind another section there is none
no_setup : (bytes : List ℕ) (q : Part) (before parts : List Part) → AreRight bytes (q ∷ before) parts → setup_statements parts ≡ []
no_setup bytes q before [] r = refl
no_setup bytes q before (p ∷ parts) r = elim (setup_or_not p.header) [
  | inl is ↦ absurd (right_first bytes (q ∷ before) p parts (line_at bytes p.at) kinds.Section r (misplaced (ap (in_place before) is) refl refl))
  | inr not ↦ ap (λ b. cond b p.statements [] ++ setup_statements parts) not ∙ no_setup bytes q (before ++ p ∷ []) parts (right_next bytes (q ∷ before) p parts r)
] where
  in_place : List Part → Header → Bool
  in_place before h = is_in_place (q ∷ before) h

few_setup : (bytes : List ℕ) (parts : List Part) → AreRight bytes [] parts → length (setup_statements parts) ≤ most_items
few_setup bytes [] r = omega arith
few_setup bytes (p ∷ parts) r =
    let rest : setup_statements parts ≡ [] = no_setup bytes p [] parts (right_next bytes [] p parts r) in
    let own : length p.statements ≤ most_items = few_statements bytes [] p parts r in
    let first : length (cond (is_setup p.header) p.statements []) ≤ most_items = elim (is_setup p.header) as (λ b. length (cond b p.statements []) ≤ most_items) [ true ↦ own | false ↦ omega arith ] in
    omega (arith, first, ap length rest, length-append (cond (is_setup p.header) p.statements []) (setup_statements parts))

-- THE SESSIONS

abbrev IsFew : Section → Type 0
IsFew s = length s.items ≤ most_items

sessions_few : (bytes : List ℕ) (before parts : List Part) (sections : List Section) → AreRight bytes before parts → AreSessions before parts sections → Each IsFew sections
sessions_few bytes before [] sections r k = subst (Each IsFew) (sym k) tt
sessions_few bytes before (p ∷ parts) sections r (inl k) = sessions_few bytes (before ++ p ∷ []) parts sections (right_next bytes before p parts r) k.1
sessions_few bytes before (p ∷ parts) sections r (inr (section, more, e, s, k)) =
    let own : length p.statements ≤ most_items = few_statements bytes before p parts r in
    let here : IsFew section = omega (arith, own, as_long (IsItem before) p.statements section.items s.items) in
    subst (Each IsFew) (sym e) (here, sessions_few bytes (before ++ p ∷ []) parts more (right_next bytes before p parts r) k)

found : (sections : List Section) (n : ℕ) → Each IsFew sections → IsFew (get_or sections n no_section)
found [] n h = omega arith
found (s ∷ sections) zero h = h.0
found (s ∷ sections) (suc n) h = found sections n h.1

pub few_items : (bytes : List ℕ) (script : Script) → IsScript bytes script → FewItems script
few_items bytes script h n =
    let r : AreRight bytes [] h.parts = λ front back p line kind e w. h.right line kind (within front back p e w) in
    let first : IsFew h.setup = (let a = few_setup bytes h.parts r in omega (arith, a, as_long (IsItem []) (setup_statements h.parts) h.setup.items h.is_setup.items)) in
    found script.sections n (subst (Each IsFew) (sym h.sections) (first, sessions_few bytes [] h.parts h.others r h.are_sessions))
