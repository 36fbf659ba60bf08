-- A script of a setup and at most one session is run.
use Rattle.std.proofs.Common.{◌≡◌, ℕ, zero, suc, ◌≤◌, List, [], ◌∷◌, length, get_or, refl, subst, ap, ◌∙◌, arith}
use Rattle.std.specs.Prelude.{slice_get}
use Rattle.std.specs.declared.option.Option.TheVariants.{Some}
use Rattle.std.proofs.lemmas.Option.{none-some, same_Some}
use Rattle.pg_keyed.specs.Lists.{Each}
use Rattle.pg_lex.specs.Parts.{IsPartAt}
use Rattle.pg_script.specs.declared.script.Item.{Item}
use Rattle.pg_script.specs.declared.script.Item.TheVariants.{Sql, After}
use Rattle.pg_script.specs.declared.script.Section.{Section}
use Rattle.pg_script.specs.declared.script.Script.{Script}
use Rattle.pg_script.specs.Legal.{no_section, items_of}
use Rattle.pg_script.specs.Script.{IsScript}
use Rattle.pg_script.specs.Whole.{ItemsArePlaced, ScriptsAreWhole}
use Rattle.pgq.specs.Sections.{IsStatementIn, IsRunnable, IsRun, IsStepped}
use Rattle.pgq.specs.Headline.{IsTextOfRun, IsTextOf}
use Rattle.pgq.proofs.Runs.NoAfter.{IsSql, no_after}

-- what holds of the item at each place holds of each item
each_at : {X : Type 0} (P : X → Type 0) (xs : List X) → ((k : ℕ) (x : X) → slice_get xs k ≡ Some x → P x) → Each P xs
each_at P [] f = tt
each_at P (x ∷ xs) f = (f 0 x refl, each_at P xs (λ k y e. f (suc k) y e))

section_at : (sections : List Section) (n : ℕ) (s : Section) → slice_get sections n ≡ Some s → get_or sections n no_section ≡ s
section_at [] n s e = absurd (none-some s e)
section_at (x ∷ sections) zero s e = same_Some x s e
section_at (x ∷ sections) (suc n) s e = section_at sections n s e

abbrev ItemIsPlaced : List ℕ → Item → Type 0
ItemIsPlaced text (Sql from to) = IsPartAt text from to
ItemIsPlaced text (After section n) = Unit {0}

item_placed : (script : Script) (n k : ℕ) (item : Item) → ItemsArePlaced script → slice_get (items_of script n) k ≡ Some item → ItemIsPlaced script.text item
item_placed script n k (Sql from to) placed e = placed n k from to e
item_placed script n k (After section m) placed e = tt

all_placed : (script : Script) → ItemsArePlaced script → Each (λ (s : Section). Each (ItemIsPlaced script.text) s.items) script.sections
all_placed script placed =
    each_at (λ (s : Section). Each (ItemIsPlaced script.text) s.items) script.sections
    (λ n s e. each_at (ItemIsPlaced script.text) s.items (λ k i f. item_placed script n k i placed (ap (λ (x : Section). slice_get x.items k) (section_at script.sections n s e) ∙ f)))

items_in : (text : List ℕ) (items : List Item) → Each IsSql items → Each (ItemIsPlaced text) items → Each (IsStatementIn text) items
items_in text [] h k = tt
items_in text (i ∷ items) h k = ((h.0.0, h.0.1, h.0.2, subst (ItemIsPlaced text) h.0.2 k.0), items_in text items h.1 k.1)

sections_in : (text : List ℕ) (sections : List Section) → Each (λ (s : Section). Each IsSql s.items) sections → Each (λ (s : Section). Each (ItemIsPlaced text) s.items) sections → Each (λ (s : Section). Each (IsStatementIn text) s.items) sections
sections_in text [] h k = tt
sections_in text (s ∷ sections) h k = (items_in text s.items h.0 k.0, sections_in text sections h.1 k.1)

pub is_runnable : (bytes : List ℕ) (script : Script) → ScriptsAreWhole → IsScript bytes script → length script.sections ≤ 2 → IsRunnable script
is_runnable bytes script law is few =
    let whole = law bytes script is in
    record {
      short = (let e = ap length is.text in let k = is.is_text.short in omega (arith, e, k));
      some = (let e = ap length is.sections in omega (arith, e));
      few = few;
      statements = sections_in script.text script.sections (no_after bytes script is few) (all_placed script whole.0);
      few_items = λ n. (let k = whole.2 n in omega (arith, k));
      order = whole.1;
    }

-- the text of its run is one of the bytes
pub is_text : (bytes text : List ℕ) (script : Script) → IsScript bytes script → length script.sections ≤ 2 → IsTextOfRun IsRun script text → IsTextOf IsStepped bytes text
is_text bytes text script is few t = (t.0, record { script = script; is_script = is; run = record { one_session = few; run = t.1 } }, t.2)
