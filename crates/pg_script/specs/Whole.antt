-- What is known of the items and the order of every script.
use Rattle.std.specs.Prelude.{ℕ, ◌≡◌, ◌<◌, ◌≤◌, List, length, slice_get}
use Rattle.std.specs.declared.option.Option.TheVariants.{Some}
use Rattle.pg_keyed.specs.Keyed.{Each}
use Rattle.pg_script.specs.declared.script.Item.TheVariants.{Sql, After}
use Rattle.pg_script.specs.declared.script.Script.{Script}
use Rattle.pg_script.specs.Legal.{items_of}
use Rattle.pg_script.specs.Script.{IsScript}
use Rattle.pg_lex.specs.Parts.{IsPartAt}

-- each statement is a part of the text
abbrev pub ItemsArePlaced : Script → Type 0
ItemsArePlaced script = (n k from to : ℕ) → slice_get (items_of script n) k ≡ Some (Sql from to) → IsPartAt script.text from to

-- each turn of the order is a session's
abbrev pub OrderIsOfSessions : Script → Type 0
OrderIsOfSessions script = Each (λ n. (0 < n) × (n < length script.sections)) script.order

abbrev pub most_items : ℕ
most_items = 100000

-- no section has more items
abbrev pub FewItems : Script → Type 0
FewItems script = (n : ℕ) → length (items_of script n) ≤ most_items

abbrev pub ScriptsAreWhole : Type 0
ScriptsAreWhole = (bytes : List ℕ) (script : Script) → IsScript bytes script → ItemsArePlaced script × OrderIsOfSessions script × FewItems script

-- each AFTER waits for an earlier session, and for one of its items, by its number from 1
abbrev pub WaitsAreEarlier : Script → Type 0
WaitsAreEarlier script = (n k section i : ℕ) → slice_get (items_of script n) k ≡ Some (After section i) → (0 < section) × (section < n) × (0 < i) × (i ≤ length (items_of script section))

abbrev pub ScriptsWaitEarlier : Type 0
ScriptsWaitEarlier = (bytes : List ℕ) (script : Script) → IsScript bytes script → WaitsAreEarlier script
