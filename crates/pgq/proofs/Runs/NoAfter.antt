-- In a script of a setup and at most one session no item waits for another session's: each is a statement of its section.
use Rattle.std.proofs.Common.{◌≡◌, ℕ, ◌≤◌, false, cond, List, [], ◌∷◌, ◌++◌, length, inl, inr, refl, sym, subst, ap, ◌∙◌, arith}
use Rattle.std.proofs.lemmas.Option.{none-some}
use Rattle.std.specs.Prelude.{slice_get}
use Rattle.std.specs.List.{AllZip}
use Rattle.pg_keyed.specs.Lists.{Each}
use Rattle.pg_script.specs.declared.script.Item.{Item}
use Rattle.pg_script.specs.declared.script.Item.TheVariants.{Sql, After}
use Rattle.pg_script.specs.declared.script.Section.{Section}
use Rattle.pg_script.specs.declared.script.Script.{Script}
use Rattle.pg_script.specs.Statements.{Statement}
use Rattle.pg_script.specs.Script.{Part, is_session, sessions, IsAfterOf, IsItem, setup_statements, AreSessions, IsScript}

abbrev pub IsSql : Item → Type 0
IsSql item = (from to : ℕ) × (item ≡ Sql from to)

no_earlier : (before : List Part) (bytes : List ℕ) (section n : ℕ) → sessions before ≡ [] → IsAfterOf before bytes section n → ⊥
no_earlier before bytes section n none a = none-some a.earlier (ap (λ (ps : List Part). slice_get ps a.place) (sym none) ∙ a.stands)

items_are : (before : List Part) (ss : List Statement) (items : List Item) → sessions before ≡ [] → AllZip (IsItem before) ss items → Each IsSql items
items_are before [] [] none z = tt
items_are before [] (i ∷ items) none z = absurd z
items_are before (s ∷ ss) [] none z = absurd z
items_are before (s ∷ ss) (Sql from to ∷ items) none z = ((from, to, refl), items_are before ss items none z.1)
items_are before (s ∷ ss) (After section n ∷ items) none z = absurd (no_earlier before s.bytes section n none z.0.1)

sessions_behind : (before : List Part) (p : Part) → is_session p.header ≡ false → sessions (before ++ p ∷ []) ≡ sessions before
sessions_behind [] p h = ap (λ b. cond b (p ∷ []) []) h
sessions_behind (x ∷ before) p h = ap (λ l. cond (is_session x.header) (x ∷ l) l) (sessions_behind before p h)

sessions_are : (before parts : List Part) (sections : List Section) → sessions before ≡ [] → length sections ≤ 1 → AreSessions before parts sections → Each (λ (s : Section). Each IsSql s.items) sections
sessions_are before [] sections none few e = subst (Each (λ (s : Section). Each IsSql s.items)) (sym e) tt
sessions_are before (p ∷ parts) sections none few (inl other) = sessions_are (before ++ p ∷ []) parts sections (sessions_behind before p other.0 ∙ none) few other.1
sessions_are before (p ∷ parts) sections none few (inr (section, more, e, is, rest)) =
    let last : more ≡ [] = nothing more (omega (arith, few, ap length e)) in
    subst (Each (λ (s : Section). Each IsSql s.items)) (sym (e ∙ ap (λ l. section ∷ l) last)) (items_are before p.statements section.items none is.items, tt)
  where
    nothing : (sections : List Section) → length sections ≤ 0 → sections ≡ []
    nothing [] le = refl
    nothing (s ∷ sections) le = absurd (omega (arith, le))

pub no_after : (bytes : List ℕ) (script : Script) → IsScript bytes script → length script.sections ≤ 2 → Each (λ (s : Section). Each IsSql s.items) script.sections
no_after bytes script is few =
    subst (Each (λ (s : Section). Each IsSql s.items)) (sym is.sections) (
      items_are [] (setup_statements is.parts) is.setup.items refl is.is_setup.items,
      sessions_are [] is.parts is.others refl (omega (arith, few, ap length is.sections)) is.are_sessions,
    )
