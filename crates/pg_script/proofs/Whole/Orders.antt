-- The turns of an order are numbers of sessions.
use Rattle.std.proofs.Common.{◌≡◌, ℕ, suc, ◌+◌, ◌<◌, cond, List, [], ◌∷◌, ◌++◌, length, sym, ap, ◌∙◌, arith, inl, inr}
use Rattle.std.specs.List.{AllZip}
use Rattle.std.proofs.lemmas.Option.{slice_get_within}
use Rattle.pg_keyed.specs.Lists.{Each}
use Rattle.pg_script.specs.declared.script.Section.{Section}
use Rattle.pg_script.specs.declared.script.Script.{Script}
use Rattle.pg_script.specs.Layout.{Turn}
use Rattle.pg_script.specs.Script.{Part, is_session, sessions, AreSessions, IsTurn, all_turns, IsScript}
use Rattle.pg_script.specs.Whole.{OrderIsOfSessions}

-- as many sessions as sections that they are
pub sessions_long : (before parts : List Part) (sections : List Section) → AreSessions before parts sections → length sections ≡ length (sessions parts)
sessions_long before [] sections h = ap length h
sessions_long before (p ∷ ps) sections (inl h) =
    sessions_long (before ++ p ∷ []) ps sections h.1 ∙ ap (λ b. length (cond b (p ∷ sessions ps) (sessions ps))) (sym h.0)
sessions_long before (p ∷ ps) sections (inr (section, more, e, s, h)) =
    ap length e ∙ ap suc (sessions_long (before ++ p ∷ []) ps more h) ∙ ap (λ b. length (cond b (p ∷ sessions ps) (sessions ps))) (sym (ap is_session s.named))

abbrev IsNumber : ℕ → ℕ → Type 0
IsNumber many n = (0 < n) × (n < many)

turns_number : (parts : List Part) (many : ℕ) → many ≡ length (sessions parts) + 1 → (turns : List Turn) (order : List ℕ) → AllZip (IsTurn parts) turns order → Each (IsNumber many) order
turns_number parts many e [] [] h = tt
turns_number parts many e [] (n ∷ ns) h = absurd h
turns_number parts many e (t ∷ ts) [] h = absurd h
turns_number parts many e (t ∷ ts) (n ∷ ns) h =
    let k = h.0 in
    let w : k.place < length (sessions parts) = slice_get_within (sessions parts) k.place k.session k.stands in
    let m : n ≡ k.place + 1 = k.section_is in
    ((omega arith, omega arith), turns_number parts many e ts ns h.1)

pub order_of_sessions : (bytes : List ℕ) (script : Script) → IsScript bytes script → OrderIsOfSessions script
order_of_sessions bytes script h =
    let m : length script.sections ≡ length (sessions h.parts) + 1 = omega (arith, ap length h.sections, sessions_long [] h.parts h.others h.are_sessions) in
    turns_number h.parts (length script.sections) m (all_turns h.parts) script.order h.order
