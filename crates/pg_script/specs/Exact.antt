-- Exact languages: each of their judgements says one thing, and so a run has no choice.
use Rattle.std.specs.Prelude.{ℕ, ◌≡◌, Bool, true, List, slice_get}
use Rattle.std.specs.declared.option.Option.TheVariants.{Some}
use Rattle.pg_value.specs.declared.write.Write.{Write}
use Rattle.pg_value.specs.Tables.{Tables}
use Rattle.pg_script.specs.declared.script.Item.{Item}
use Rattle.pg_script.specs.declared.script.Script.{Script}
use Rattle.pg_script.specs.Judged.{Reading, Asks, Ruling, Fine, Effect, Found, Judges}
use Rattle.pg_script.specs.Legal.{items_of}

-- each judgement is functional, and the answers of plain queries are equal as lists
pub record IsExact {K D C Q X Y : Type 0} (J : Judges K D C Q X Y) (plain : Y → Bool) : Type 0 where
  pub reads : (item : Item) (r r' : Reading D C Q) → J.reads item r → J.reads item r' → r ≡ r'
  pub defines : (k : K) (d : D) (r r' : Ruling (List ℕ × K)) → J.defines k d r → J.defines k d r' → r ≡ r'
  pub resolves : (k : K) (c : C) (r r' : Ruling X) → J.resolves k c r → J.resolves k c r' → r ≡ r'
  pub checks : (k : K) (q : Q) (r r' : Ruling Y) → J.checks k q r → J.checks k q r' → r ≡ r'
  pub affects : (k : K) (t : Tables) (ws : List Write) (x : X) (e e' : Effect) → J.affects k t ws x e → J.affects k t ws x e' → e ≡ e'
  pub answers : (k : K) (t : Tables) (y : Y) (f f' : Found) → plain y ≡ true → J.answers k t y f → J.answers k t y f' → f ≡ f'

-- the queries of a script are plain, over whichever catalog they are checked
abbrev pub AsksPlain : {K D C Q X Y : Type 0} → Judges K D C Q X Y → (Y → Bool) → Script → Type 0
AsksPlain {K} {D} {C} {Q} {X} {Y} J plain script = (n i : ℕ) (item : Item) (q : Q) (k : K) (y : Y) → slice_get (items_of script n) i ≡ Some item → J.reads item (Asks q) → J.checks k q (Fine y) → plain y ≡ true
