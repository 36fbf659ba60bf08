-- Each AFTER of a script waits for an item of an earlier session.
use Rattle.std.proofs.Common.{◌≡◌, ℕ, zero, suc, ◌+◌, ◌<◌, ◌≤◌, true, false, cond, List, [], ◌∷◌, ◌++◌, length, get_or, refl, sym, ap, ◌∙◌, subst, arith, inl, inr, append_assoc, length-append}
use Rattle.std.specs.Prelude.{slice_get}
use Rattle.std.specs.declared.option.Option.TheVariants.{Some}
use Rattle.std.specs.List.{AllZip}
use Rattle.std.proofs.lemmas.Option.{none-some, slice_get_past, get_or_from_slice_get, slice_get_within}
use Rattle.pg_keyed.specs.Lists.{Each}
use Rattle.pg_script.specs.declared.script.Item.{Item}
use Rattle.pg_script.specs.declared.script.Item.TheVariants.{Sql, After}
use Rattle.pg_script.specs.declared.script.Section.{Section}
use Rattle.pg_script.specs.Statements.{Statement}
use Rattle.pg_script.specs.Script.{Part, is_session, sessions, setup_statements, IsItem, AreSessions}
use Rattle.pg_script.specs.Legal.{no_section, items_of}
use Rattle.pg_script.specs.Whole.{ScriptsWaitEarlier}

-- the section that a session is has an item for each statement
abbrev IsOf : Part → Section → Type 0
IsOf p s = length s.items ≡ length p.statements

-- an AFTER waits for an item of one of these sections
abbrev IsMetBy : List Section → Item → Type 0
IsMetBy made (Sql from to) = Unit {0}
IsMetBy made (After section m) = (place : ℕ) × (e : Section) × (slice_get made place ≡ Some e) × (section ≡ place + 1) × (1 ≤ m) × (m ≤ length e.items)

-- each section waits for those before it
abbrev AreEarlier : List Section → List Section → Type 0
AreEarlier made [] = Unit {0}
AreEarlier made (s ∷ rest) = Each (IsMetBy made) s.items × AreEarlier (made ++ s ∷ []) rest

as_long : {X Y : Type 0} (P : X → Y → Type 0) (xs : List X) (ys : List Y) → AllZip P xs ys → length ys ≡ length xs
as_long P [] [] h = refl
as_long P [] (y ∷ ys) h = absurd h
as_long P (x ∷ xs) [] h = absurd h
as_long P (x ∷ xs) (y ∷ ys) h = ap suc (as_long P xs ys h.1)

zip_more : {X Y : Type 0} (P : X → Y → Type 0) (xs : List X) (ys : List Y) (x : X) (y : Y) → AllZip P xs ys → P x y → AllZip P (xs ++ x ∷ []) (ys ++ y ∷ [])
zip_more P [] [] x y h p = (p, tt)
zip_more P [] (b ∷ ys) x y h p = absurd h
zip_more P (a ∷ xs) [] x y h p = absurd h
zip_more P (a ∷ xs) (b ∷ ys) x y h p = (h.0, zip_more P xs ys x y h.1 p)

zip_at : {X Y : Type 0} (P : X → Y → Type 0) (xs : List X) (ys : List Y) (k : ℕ) (x : X) → AllZip P xs ys → slice_get xs k ≡ Some x → (y : Y) × (slice_get ys k ≡ Some y) × P x y
zip_at P [] ys k x h at = absurd (none-some x (sym (slice_get_past [] k (omega arith)) ∙ at))
zip_at P (a ∷ xs) [] k x h at = absurd h
zip_at P (a ∷ xs) (b ∷ ys) zero x h at = let same : a ≡ x = cc in (b, refl, subst (λ z. P z b) same h.0)
zip_at P (a ∷ xs) (b ∷ ys) (suc k) x h at = zip_at P xs ys k x h.1 at

not_among : (before : List Part) (p : Part) → is_session p.header ≡ false → sessions (before ++ p ∷ []) ≡ sessions before
not_among [] p h = ap (λ b. cond b (p ∷ []) []) h
not_among (x ∷ before) p h = ap (λ l. cond (is_session x.header) (x ∷ l) l) (not_among before p h)

last_among : (before : List Part) (p : Part) → is_session p.header ≡ true → sessions (before ++ p ∷ []) ≡ sessions before ++ p ∷ []
last_among [] p h = ap (λ b. cond b (p ∷ []) []) h
last_among (x ∷ before) p h = elim (is_session x.header) as (λ b. cond b (x ∷ sessions (before ++ p ∷ [])) (sessions (before ++ p ∷ [])) ≡ cond b (x ∷ sessions before) (sessions before) ++ p ∷ []) [
  | true ↦ ap (λ l. x ∷ l) (last_among before p h)
  | false ↦ last_among before p h
]

item_met : (before : List Part) (made : List Section) (s : Statement) (item : Item) → AllZip IsOf (sessions before) made → IsItem before s item → IsMetBy made item
item_met before made s (Sql from to) z h = tt
item_met before made s (After section m) z h =
    let a = h.1 in
    let e = zip_at IsOf (sessions before) made a.place a.earlier z a.stands in
    (a.place, e.0, e.1, a.section_is, a.some, omega (arith, a.within, e.2))

items_met : (before : List Part) (made : List Section) (ss : List Statement) (items : List Item) → AllZip IsOf (sessions before) made → AllZip (IsItem before) ss items → Each (IsMetBy made) items
items_met before made [] [] z h = tt
items_met before made [] (i ∷ items) z h = absurd h
items_met before made (s ∷ ss) [] z h = absurd h
items_met before made (s ∷ ss) (i ∷ items) z h = (item_met before made s i z h.0, items_met before made ss items z h.1)

sessions_earlier : (before parts : List Part) (made rest : List Section) → AllZip IsOf (sessions before) made → AreSessions before parts rest → AreEarlier made rest
sessions_earlier before [] made rest z e = subst (AreEarlier made) (sym e) tt
sessions_earlier before (p ∷ parts) made rest z (inl other) = sessions_earlier (before ++ p ∷ []) parts made rest (subst (λ l. AllZip IsOf l made) (sym (not_among before p other.0)) z) other.1
sessions_earlier before (p ∷ parts) made rest z (inr (section, more, e, s, next)) =
    let is : is_session p.header ≡ true = ap is_session s.named in
    let own : IsOf p section = as_long (IsItem before) p.statements section.items s.items in
    let longer : AllZip IsOf (sessions (before ++ p ∷ [])) (made ++ section ∷ []) = subst (λ l. AllZip IsOf l (made ++ section ∷ [])) (sym (last_among before p is)) (zip_more IsOf (sessions before) made p section z own) in
    subst (AreEarlier made) (sym e) (items_met before made p.statements section.items z s.items, sessions_earlier (before ++ p ∷ []) parts (made ++ section ∷ []) more longer next)

each_at : (P : Item → Type 0) (items : List Item) (k : ℕ) (item : Item) → Each P items → slice_get items k ≡ Some item → P item
each_at P [] k item h at = absurd (none-some item (sym (slice_get_past [] k (omega arith)) ∙ at))
each_at P (x ∷ items) zero item h at = let same : x ≡ item = cc in subst P same h.0
each_at P (x ∷ items) (suc k) item h at = each_at P items k item h.1 at

front_at : (xs ys : List Section) (k : ℕ) (e : Section) → slice_get xs k ≡ Some e → (slice_get (xs ++ ys) k ≡ Some e) × (k < length xs)
front_at [] ys k e at = absurd (none-some e (sym (slice_get_past [] k (omega arith)) ∙ at))
front_at (x ∷ xs) ys zero e at = (at, omega arith)
front_at (x ∷ xs) ys (suc k) e at = let r = front_at xs ys k e at in (r.0, omega (arith, r.1))

-- an AFTER of the j-th of the others waits for one of those before it
waits_at : (made rest : List Section) (j k section m : ℕ) → AreEarlier made rest → slice_get (get_or rest j no_section).items k ≡ Some (After section m)
    → (place : ℕ) × (e : Section) × (slice_get (made ++ rest) place ≡ Some e) × (place < length made + j) × (section ≡ place + 1) × (1 ≤ m) × (m ≤ length e.items)
waits_at made [] j k section m h at = absurd (none-some _ (sym (slice_get_past [] k (omega arith)) ∙ at))
waits_at made (s ∷ rest) zero k section m h at =
    let w = each_at (IsMetBy made) s.items k (After section m) h.0 at in
    let f = front_at made (s ∷ rest) w.0 w.1 w.2 in
    (w.0, w.1, f.0, omega (arith, f.1), w.3, w.4, w.5)
waits_at made (s ∷ rest) (suc j) k section m h at =
    let w = waits_at (made ++ s ∷ []) rest j k section m h.1 at in
    (w.0, w.1, ap (λ l. slice_get l w.0) (sym (append_assoc made (s ∷ []) rest)) ∙ w.2, omega (arith, w.3, length-append made (s ∷ [])), w.4, w.5, w.6)

-- the setup waits for nothing
setup_waits : (k section m : ℕ) (items : List Item) (ss : List Statement) → AllZip (IsItem []) ss items → slice_get items k ≡ Some (After section m) → ⊥
setup_waits k section m items ss z at =
    let w = each_at (IsMetBy []) items k (After section m) (items_met [] [] ss items tt z) at in
    let b = slice_get_within [] w.0 w.1 w.2 in omega (arith, b)

pub waits_are_earlier : ScriptsWaitEarlier
waits_are_earlier bytes script h n k section m at = by n (ap (λ (l : List Section). slice_get (get_or l n no_section).items k) (sym h.sections) ∙ at) where
  by : (n : ℕ) → slice_get (get_or (h.setup ∷ h.others) n no_section).items k ≡ Some (After section m) → (0 < section) × (section < n) × (0 < m) × (m ≤ length (items_of script section))
  by zero at = absurd (setup_waits k section m h.setup.items (setup_statements h.parts) h.is_setup.items at)
  by (suc j) at =
      let w = waits_at [] h.others j k section m (sessions_earlier [] h.parts [] h.others tt h.are_sessions) at in
      let number : section ≡ suc w.0 = (let q = w.4 in omega (arith, q)) in
      let found : items_of script section ≡ w.1.items =
      ap (λ (l : List Section). (get_or l section no_section).items) h.sections ∙ ap (λ i. (get_or (h.setup ∷ h.others) i no_section).items) number ∙ ap (λ (s : Section). s.items) (get_or_from_slice_get h.others w.0 w.1 no_section w.2) in
      (omega (arith, w.4), omega (arith, w.3, w.4), omega (arith, w.5), omega (arith, w.6, ap length found))
