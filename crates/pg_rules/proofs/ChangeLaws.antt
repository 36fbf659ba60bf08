-- Of an INSERT the rules of all changes say what the rules of INSERT alone say.
use Rattle.std.proofs.Common.{◌≡◌, ◌+◌, ◌||◌, ℕ, true, nat_lt, is_some, cond, refl, ap, sym, ◌∙◌, List, [], ◌∷◌, ◌++◌, map, length, Some, None}
use Rattle.std.proofs.lemmas.List.{length-map, map-append}
use Rattle.pg_value.specs.declared.row.Row.{Row}
use Rattle.pg_value.specs.declared.shape.TableNo.{TableNo}
use Rattle.pg_value.specs.declared.shape.TableShape.{TableShape}
use Rattle.pg_value.specs.declared.write.Write.{Write}
use Rattle.pg_value.specs.Tables.{Tables, stored_at}
use Rattle.pg_value.specs.Writes.{named, write_at, merge}
use Rattle.pg_meaning.specs.declared.checked.CExpr.{CExpr}
use Rattle.pg_meaning.specs.declared.checked.CheckedChange.TheVariants.{Insert}
use Rattle.pg_rules.specs.declared.fault.RowFault.{RowFault}
use Rattle.pg_rules.specs.declared.fault.RowFault.TheVariants as faults
use Rattle.pg_rules.specs.Changes.InsertEffect as inserts
use Rattle.pg_rules.specs.Changes.InsertEffect.{row_of, write_of, column_fault, or_else}
use Rattle.pg_rules.specs.Changes as judgement
use Rattle.pg_rules.specs.Changes.ChangeEffect as effect
use Rattle.pg_rules.specs.Changes.ChangeEffect.{with_writes, row_fault, context}

-- THE JUDGEMENT

pub same_judgement : judgement.InsertsAgree
same_judgement = record { fault = λ tables i. refl; checked = λ tables i. refl }

-- THE WRITES

same_writes : (table : TableNo) (shape : TableShape) (writes : List Write) (rows : List Row) → with_writes writes (map (write_of table shape) rows) ≡ inserts.with_rows table shape writes rows
same_writes table shape writes [] = refl
same_writes table shape writes (r ∷ rows) = same_writes table shape (merge writes (write_of table shape r ∷ [])) rows

one_more : (table : TableNo) (shape : TableShape) (writes : List Write) (before : List Row) (row : Row)
    → with_writes writes (map (write_of table shape) before ++ write_of table shape row ∷ []) ≡ inserts.with_rows table shape writes (before ++ row ∷ [])
one_more table shape writes before row =
    ap (with_writes writes) (sym (map-append (write_of table shape) before (row ∷ []))) ∙ same_writes table shape writes (before ++ row ∷ [])

same_fault : (limit : ℕ) (table : TableNo) (shape : TableShape) (tables : Tables) (writes : List Write) (before : List Row) (row : Row)
    → row_fault limit true shape tables writes (map (write_of table shape) before) (write_of table shape row) ≡ inserts.row_fault limit table shape tables writes before row
same_fault limit table shape tables writes before row =
    let w = write_of table shape row in
    λ i. or_else (column_fault shape 0 shape.columns row.values)
    (or_else (cond (is_some (stored_at (named w) tables) || is_some (write_at (named w) (same_writes table shape [] before i))) (Some faults.Duplicate) None)
    (cond (nat_lt limit (length (one_more table shape writes before row i))) (Some faults.TooManyWrites) None))

-- THE FIRST FAULT

module _ {X Y : Type 0} (f : X → Y) where
  -- the part of a list behind which an item of its image stands
  record Split (xs : List X) (front : List Y) (y : Y) : Type 0 where
    before : List X
    item : X
    after : List X
    is : xs ≡ before ++ item ∷ after
    front_is : map f before ≡ front
    item_is : f item ≡ y

  nothing : (front : List Y) (y : Y) (back : List Y) → [] ≡ front ++ y ∷ back → ⊥
  nothing [] y back h = cc
  nothing (z ∷ front) y back h = cc

  split : (xs : List X) (front : List Y) (y : Y) (back : List Y) → map f xs ≡ front ++ y ∷ back → Split xs front y
  split [] front y back h = absurd (nothing front y back h)
  split (x ∷ xs) [] y back h = record { before = []; item = x; after = xs; is = refl; front_is = refl; item_is = cc }
  split (x ∷ xs) (z ∷ front) y back h =
      let s : Split xs front y = split xs front y back (cc) in
      let e : f x ≡ z = cc in
      record {
        before = x ∷ s.before;
        item = s.item;
        after = s.after;
        is = ap (λ ys. x ∷ ys) s.is;
        front_is = λ i. e i ∷ s.front_is i;
        item_is = s.item_is;
      }

proposed_is : (table : TableNo) (shape : TableShape) (columns : List ℕ) (tuples : List (List CExpr))
    → map (λ tuple. write_of table shape (row_of shape columns tuple)) tuples ≡ map (write_of table shape) (map (row_of shape columns) tuples)
proposed_is table shape columns [] = refl
proposed_is table shape columns (t ∷ ts) = ap (λ ws. write_of table shape (row_of shape columns t) ∷ ws) (proposed_is table shape columns ts)

-- where no row of a front has a fault, no write of its image has one
right_in : (limit : ℕ) (table : TableNo) (shape : TableShape) (tables : Tables) (writes : List Write) (rows : List Row)
    → ((front back : List Row) (r : Row) → rows ≡ front ++ r ∷ back → inserts.row_fault limit table shape tables writes front r ≡ None)
    → (front back : List Write) (w : Write) → map (write_of table shape) rows ≡ front ++ w ∷ back → row_fault limit true shape tables writes front w ≡ None
right_in limit table shape tables writes rows right front back w h =
    let s = split (write_of table shape) rows front w back h in
    (λ i. row_fault limit true shape tables writes (sym s.front_is i) (sym s.item_is i)) ∙ same_fault limit table shape tables writes s.before s.item ∙ right s.before s.after s.item s.is

same_first : (limit : ℕ) (table : TableNo) (shape : TableShape) (tables : Tables) (writes : List Write) (columns : List ℕ) (tuples : List (List CExpr)) (number : ℕ) (fault : RowFault)
    → inserts.IsFirstFault limit table shape tables writes (map (row_of shape columns) tuples) number fault
    → effect.IsFirstFault (context limit shape tables writes) (Insert table columns tuples) number fault
same_first limit table shape tables writes columns tuples number fault h = record {
  before = map (write_of table shape) h.0;
  row = write_of table shape h.2;
  after = map (write_of table shape) h.1;
  rows = proposed_is table shape columns tuples ∙ ap (map (write_of table shape)) h.3 ∙ map-append (write_of table shape) h.0 (h.2 ∷ h.1);
  counted = h.4 ∙ ap (λ n. n + 1) (sym (length-map h.0 (write_of table shape)));
  faulty = same_fault limit table shape tables writes h.0 h.2 ∙ h.5;
  right_before = right_in limit table shape tables writes h.0 h.6;
}

same_right : (limit : ℕ) (table : TableNo) (shape : TableShape) (tables : Tables) (writes : List Write) (columns : List ℕ) (tuples : List (List CExpr))
    → inserts.AreRight limit table shape tables writes (map (row_of shape columns) tuples)
    → effect.IsDone (context limit shape tables writes) (Insert table columns tuples) (inserts.with_rows table shape writes (map (row_of shape columns) tuples)) (length tuples)
same_right limit table shape tables writes columns tuples h = record {
  right = λ front back w e. right_in limit table shape tables writes (map (row_of shape columns) tuples) h front back w (sym (proposed_is table shape columns tuples) ∙ e);
  written = sym (same_writes table shape writes (map (row_of shape columns) tuples)) ∙ ap (with_writes writes) (sym (proposed_is table shape columns tuples));
  counted = sym (length-map tuples (λ tuple. write_of table shape (row_of shape columns tuple)));
}

pub same_effect : effect.InsertsAgree
same_effect = record { written = same_writes; fault = same_fault; first = same_first; right = same_right }
