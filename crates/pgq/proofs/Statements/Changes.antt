-- An INSERT, UPDATE or DELETE answers what the language says of it.
use Rattle.std.proofs.Common.{◌≡◌, ℕ, ◌<◌, true, List, [], ◌∷◌, ◌++◌, map, length, refl, ap, sym, subst, ◌∙◌, arith, inl, inr, IfOk, IfErr}
use Rattle.std.specs.Prelude.{◌==◌, is_some, slice_get, Result, Ok, Err, Option, Some, None}
use Rattle.std.specs.declared.alloc.AllocError.{AllocError}
use Rattle.std.proofs.lemmas.Bool.{eqb-true}
use Rattle.std.proofs.lemmas.List.{length-map}
use Rattle.std.proofs.lemmas.Option.{none-some, slice_get_within}
use Rattle.pg_keyed.specs.Keyed.{Each}
use Rattle.pg_keyed.specs.Lists.{each_map, each_filter, each_kept}
use Rattle.pg_keyed.specs.Puts.{merge_each}
use Rattle.pg_value.specs.declared.shape.TableNo.{TableNo}
use Rattle.pg_value.specs.declared.shape.TableShape.{TableShape}
use Rattle.pg_value.specs.declared.write.Write.{Write}
use Rattle.pg_value.specs.Order.{place_cmp}
use Rattle.pg_value.specs.Orders.{places}
use Rattle.pg_value.specs.Tables.{Stored, Tables, held_in, FitWrites}
use Rattle.pg_value.specs.TablesLaws.{after_fits}
use Rattle.pg_value.specs.Writes.{Limited, IsInOrder, named, merge}
use Rattle.pg_value.specs.Log.{after}
use Rattle.pg_meaning.specs.declared.checked.CheckedChange.{CheckedChange}
use Rattle.pg_meaning.specs.declared.checked.CheckedChange.TheVariants.{Insert, Update, Delete}
use Rattle.pg_meaning.specs.Sound.Changes.{IsSoundChange, table_of}
use Rattle.pg_rules.specs.declared.entry.TableEntry.{TableEntry}
use Rattle.pg_rules.specs.declared.fault.ResolveFault.{ResolveFault}
use Rattle.pg_rules.specs.declared.fault.ResolveFault.TheVariants as faults
use Rattle.pg_rules.specs.declared.fault.RowFault.{RowFault}
use Rattle.pg_rules.specs.Accepted.{AcceptedChangesAreSound}
use Rattle.pg_rules.specs.Catalog.Shapes.{shapes, table_shape}
use Rattle.pg_rules.specs.Changes.{Change, OfInsert, OfUpdate, OfDelete, change_of, change_fault, resolved_change}
use Rattle.pg_rules.specs.Changes.ChangeEffect.{proposed, taken, takes, update_of, delete_of, with_writes}
use Rattle.pg_rules.specs.Written.{IsWritten, IsWrittenChange, StatementsAreWritten}
use Rattle.pg_sql.specs.declared.parsed.Parsed.{Parsed}
use Rattle.pg_sql.specs.declared.parsed.Parsed.TheVariants as parsed
use Rattle.pg_sql.specs.Parsed.{IsParsedOf}
use Rattle.pgq.specs.Asking.{IsWrittenParsed}
use Rattle.pg_ast.specs.declared.statement.Statement.{Statement}
use Rattle.pg_ast.specs.declared.statement.Statement.TheVariants as statements
use Rattle.pg_script.specs.declared.outcome.FaultKind.{FaultKind}
use Rattle.pg_script.specs.declared.outcome.Outcome.{Outcome}
use Rattle.pg_script.specs.Judged.{Changes, Stopped, Done, refused}
use Rattle.pg_write.specs.ChangePasses.{IsFault}
use Rattle.pg_write.specs.ChangeEffects.{Does, Refuses, EffectsFit}
use Rattle.pg_write.specs.declared.refused.EffectRefused.{EffectRefused}
use Rattle.pg_write.specs.declared.refused.EffectRefused.TheVariants as refusals
use Rattle.pg_language.specs.Language.{resolve_refusal, affects, refusal_of, says}
use Rattle.pg_language.specs.Laws.{WritesStayInOrder}
use Rattle.pgq.specs.declared.engine.Engine.{Engine}
use Rattle.pgq.specs.Refusals.{IsTold}
use Rattle.pgq.specs.Changes.{nothing_written, IsAccepted, IsMade, IsRefused}
use Rattle.pgq.specs.Commits.{HasRow, IsGone, IsTo, AreAlike, HasEnded, nothing, full, committed}
use Rattle.pgq.specs.Engine.{IsReady, Answers, AnswersTo}
use Rattle.pgq.proofs.Statements.Outcomes.{change_fault_is, stopped_is, none_is, full_is, changed_is}

-- WHAT A CHANGE WRITES

-- what holds of writes and of those that are put on them
each_put : (P : Write → Type 0) (ws more : List Write) → Each P ws → Each P more → Each P (with_writes ws more)
each_put P ws [] h k = h
each_put P ws (w ∷ more) h k = each_put P (merge ws (w ∷ [])) more (merge_each named place_cmp places P ws (w ∷ []) h (k.0, tt)) k.1

-- a list with an item in it is not empty
not_empty : {X : Type 0} (front back : List X) (x : X) → front ++ x ∷ back ≡ [] → ⊥
not_empty [] back x e = cc
not_empty (y ∷ front) back x e = cc

still_some : (ws more : List Write) → (ws ≡ [] → ⊥) → with_writes ws more ≡ [] → ⊥
still_some ws [] h e = h e
still_some ws (w ∷ more) h e = still_some (merge ws (w ∷ [])) more (λ z. not_empty _ _ w z) e

some_written : (ws more : List Write) → 0 < length more → with_writes ws more ≡ [] → ⊥
some_written ws [] h e = absurd (omega arith)
some_written ws (w ∷ more) h e = still_some (merge ws (w ∷ [])) more (λ z. not_empty _ _ w z) e

-- all writes of a list of rows
each_of_rows : {X : Type 0} (P : Write → Type 0) (Q : X → Type 0) (f : X → Write) → ((x : X) → Q x → P (f x)) → (xs : List X) → Each Q xs → Each P (map f xs)
each_of_rows P Q f h [] k = tt
each_of_rows P Q f h (x ∷ xs) k = (h x k.0, each_of_rows P Q f h xs k.1)

abbrev Any : {X : Type 0} → X → Type 0
Any x = Unit {0}

every : {X : Type 0} (xs : List X) → Each Any xs
every [] = tt
every (x ∷ xs) = (tt, every xs)

taken_of : (table : TableNo) (condition : Option _) (tables : Tables) → Each (λ (s : Stored). s.table ≡ table) (taken table condition tables)
taken_of table condition tables = each_filter (λ (s : Stored). s.table ≡ table) (λ s. takes condition s.row) (held_in table tables)
    (each_map (λ (s : Stored). (s.table.0 == table.0) ≡ true) (λ s. s.table ≡ table) (λ s h i. record { 0 = eqb-true s.table.0 table.0 h i }) (held_in table tables) (each_kept (λ (s : Stored). s.table.0 == table.0) tables))

-- the rows that a change proposes are of its table, and all of them give rows, or none does
proposed_to : (shape : TableShape) (tables : Tables) (x : CheckedChange) → Each (IsTo (table_of x)) (proposed shape tables x)
proposed_to shape tables (Insert table columns tuples) = each_of_rows (IsTo table) Any _ (λ tuple h. refl) tuples (every tuples)
proposed_to shape tables (Update table sets condition) = each_of_rows (IsTo table) (λ s. s.table ≡ table) (update_of sets) (λ s h. h) (taken table condition tables) (taken_of table condition tables)
proposed_to shape tables (Delete table condition) = each_of_rows (IsTo table) (λ s. s.table ≡ table) delete_of (λ s h. h) (taken table condition tables) (taken_of table condition tables)

written_alike : (shape : TableShape) (tables : Tables) (x : CheckedChange) → AreAlike (with_writes [] (proposed shape tables x))
written_alike shape tables (Insert table columns tuples) = inl (each_put HasRow [] (proposed shape tables (Insert table columns tuples)) tt (each_of_rows HasRow Any _ (λ tuple h. refl) tuples (every tuples)))
written_alike shape tables (Update table sets condition) = inl (each_put HasRow [] (proposed shape tables (Update table sets condition)) tt (each_of_rows HasRow Any (update_of sets) (λ s h. refl) (taken table condition tables) (every (taken table condition tables))))
written_alike shape tables (Delete table condition) = inr (each_put IsGone [] (proposed shape tables (Delete table condition)) tt (each_of_rows IsGone Any delete_of (λ s h. refl) (taken table condition tables) (every (taken table condition tables))))

-- A CHANGE NO ROW OF WHICH HAS A FAULT

-- the tables after the whole log
abbrev tables : Engine → Tables
tables e = after e.log (length e.log)

module _ (e : Engine) (x : CheckedChange) (ready : IsReady e) where
  shaped : (shape : TableShape) → slice_get e.shapes.tables (table_of x).0 ≡ Some shape → slice_get (shapes e.catalog).tables (table_of x).0 ≡ Some shape
  shaped shape at = subst (λ s. slice_get s.tables (table_of x).0 ≡ Some shape) ready.shapes_are at

  -- its table stands among the lists of rows
  pub table_stands : IsSoundChange e.shapes x → (table_of x).0 < length e.tables.items
  table_stands sound =
      let within : (table_of x).0 < length e.shapes.tables = slice_get_within e.shapes.tables (table_of x).0 sound.table sound.stands in
      omega (arith, within, ap (λ s. length s.tables) ready.shapes_are, length-map e.catalog.0 (λ (t : List ℕ × TableEntry). table_shape t.1), ready.as_many)

  module _ (ws : Limited) (rows : ℕ) (made : IsMade e x ws rows) where
    pub written_to : Each (IsTo (table_of x)) ws.list
    written_to = subst (Each (IsTo (table_of x))) (sym made.done.written) (each_put (IsTo (table_of x)) [] (proposed made.shape (tables e) x) tt (proposed_to made.shape (tables e) x))

    pub alike : AreAlike ws.list
    alike = subst AreAlike (sym made.done.written) (written_alike made.shape (tables e) x)

    pub fits : EffectsFit → IsSoundChange e.shapes x → FitWrites e.shapes ws.list
    fits law sound = law e.shapes (tables e) nothing_written x ws rows ready.sound_shapes sound (after_fits e.shapes e.log (length e.log) ready.fit) tt made

    effect : affects e.catalog (tables e) [] x (Done ws.list rows)
    effect = (made.shape, shaped made.shape made.shape_at, made.done)

    some : 0 < rows → ws.list ≡ [] → ⊥
    some h z = some_written [] (proposed made.shape (tables e) x) (omega (arith, h, made.done.counted)) (sym made.done.written ∙ z)

    module _ (c : Change) (is : IsAccepted e.catalog c x) (order : WritesStayInOrder) (fit : FitWrites e.shapes ws.list) where
      in_order : IsInOrder ws.list
      in_order = order e.catalog (tables e) [] x ws.list rows tt effect

      fit_here : FitWrites (shapes e.catalog) ws.list
      fit_here = subst (λ s. FitWrites s ws.list) ready.shapes_are fit

      ended : (n : ℕ) (o : Outcome) (e' : Engine) → HasEnded n e ws.list rows o e' → AnswersTo (Changes c) n e o e'
      ended n o e' (nothing none is_o same) script item r =
          subst (λ y. Answers script n e item o y) (sym same) (subst (λ y. Answers script n e item y e) (sym is_o)
          (none_is script n e item c x ws.list r (is.right, is.is) (subst (λ k. affects e.catalog (tables e) [] x (Done ws.list k)) none effect)))
      ended n o e' (full more over is_o same) script item r =
          subst (λ y. Answers script n e item o y) (sym same) (subst (λ y. Answers script n e item y e) (sym is_o)
          (full_is script n e item c x ws.list rows r (is.right, is.is) effect more (some more) in_order fit_here over))
      ended n o e' (committed more room k is_o) script item r =
          subst (λ y. Answers script n e item y e') (sym is_o)
          (changed_is script n e item c x ws.list rows r (is.right, is.is) effect more (some more) in_order fit_here k.commit e' k.limit room k.is k.catalog k.log k.base k.peak)

      pub ended_ok : (n : ℕ) (e' : Engine) (r : Result Outcome AllocError) → IfOk r (λ o. HasEnded n e ws.list rows o e') → IfOk r (λ o. AnswersTo (Changes c) n e o e')
      ended_ok n e' (Ok o) h = ended n o e' h
      ended_ok n e' (Err f) h = tt

  -- A CHANGE WITH A FAULTY ROW

  module _ (row : ℕ) (fault : RowFault) (back : Limited) (refused_is : IsRefused e x (refusals.Row row fault back)) (c : Change) (is : IsAccepted e.catalog c x) where
    stopped : affects e.catalog (tables e) [] x (Stopped (refusal_of e.catalog (table_of x) row fault))
    stopped = (refused_is.shape, shaped refused_is.shape refused_is.shape_at, (row, fault, refused_is.first, refl))

    refused_row : (n : ℕ) (o : Outcome) → o ≡ refused (refusal_of e.catalog (table_of x) row fault) (length e.log) → AnswersTo (Changes c) n e o e
    refused_row n o is_o script item r = subst (λ y. Answers script n e item y e) (sym is_o) (stopped_is script n e item c x (refusal_of e.catalog (table_of x) row fault) r (is.right, is.is) stopped)

    pub refused_ok : (n : ℕ) (r : Result Outcome AllocError) → IfOk r (λ o. o ≡ refused (refusal_of e.catalog (table_of x) row fault) (length e.log)) → IfOk r (λ o. AnswersTo (Changes c) n e o e)
    refused_ok n (Ok o) h = refused_row n o h
    refused_ok n (Err f) h = tt

-- A STATEMENT

some_is : {A : Type 0} (x y : A) → Some x ≡ Some y → x ≡ y
some_is x y h = cc

-- a statement that is written is a change that is written
written_change : (s : Statement) (c : Change) → change_of s ≡ Some c → IsWritten s → IsWrittenChange c
written_change (statements.Insert i) c e h = subst IsWrittenChange (some_is (OfInsert i) c e) h
written_change (statements.Update u) c e h = subst IsWrittenChange (some_is (OfUpdate u) c e) h
written_change (statements.Delete x) c e h = subst IsWrittenChange (some_is (OfDelete x) c e) h
written_change (statements.Define d) c e h = absurd (none-some c e)
written_change statements.Begin c e h = absurd (none-some c e)
written_change statements.Commit c e h = absurd (none-some c e)
written_change statements.Rollback c e h = absurd (none-some c e)
written_change (statements.Query q) c e h = absurd (none-some c e)

-- what is made over some tables, and given some writes, which are the tables after the log and nothing
pub made_ok : (e : Engine) (x : CheckedChange) (seen : Tables) (given : Limited) (r : Result (Limited × ℕ) EffectRefused) → seen ≡ tables e → given ≡ nothing_written
    → IfOk r (λ m. Does e.shapes seen given x m.0 m.1) → IfOk r (λ m. IsMade e x m.0 m.1)
made_ok e x seen given (Ok m) t w h = subst (λ g. Does e.shapes (tables e) g x m.0 m.1) w (subst (λ s. Does e.shapes s given x m.0 m.1) t h)
made_ok e x seen given (Err f) t w h = tt

pub refuses_ok : (e : Engine) (x : CheckedChange) (seen : Tables) (given : Limited) (r : Result (Limited × ℕ) EffectRefused) → seen ≡ tables e → given ≡ nothing_written
    → IfErr r (Refuses e.shapes seen given x) → IfErr r (IsRefused e x)
refuses_ok e x seen given (Ok m) t w h = tt
refuses_ok e x seen given (Err f) t w h = subst (λ g. Refuses e.shapes (tables e) g x f) w (subst (λ s. Refuses e.shapes s given x f) t h)

-- a statement that was read is one that the grammar gives
pub written_parsed : StatementsAreWritten → (text : List ℕ) (from to : ℕ) (p : Parsed) → IsParsedOf text from to p → IsWrittenParsed p
written_parsed law text from to (parsed.Statement tree at) (tokens, are, (is, place)) = law tree tokens is
written_parsed law text from to (parsed.Fault at) h = tt

-- the change of a statement that is one
pub some_change : (s : Statement) → is_some (change_of s) ≡ true → (c : Change) × (change_of s ≡ Some c)
some_change s h = go (change_of s) h
  where
    go : (o : Option Change) → is_some o ≡ true → (c : Change) × (o ≡ Some c)
    go None h = absurd cc
    go (Some c) h = (c, refl)

said_so : (at : ℕ) (s : Statement) (c : Change) → change_of s ≡ Some c → says at s ≡ Changes c
said_so at (statements.Insert i) c e = ap Changes (some_is (OfInsert i) c e)
said_so at (statements.Update u) c e = ap Changes (some_is (OfUpdate u) c e)
said_so at (statements.Delete x) c e = ap Changes (some_is (OfDelete x) c e)
said_so at (statements.Define d) c e = absurd (none-some c e)
said_so at statements.Begin c e = absurd (none-some c e)
said_so at statements.Commit c e = absurd (none-some c e)
said_so at statements.Rollback c e = absurd (none-some c e)
said_so at (statements.Query q) c e = absurd (none-some c e)

-- what answers the change that a statement is answers what it says
pub carried : (at n : ℕ) (s : Statement) (e e' : Engine) (r : Result Outcome AllocError) → is_some (change_of s) ≡ true
    → ((c : Change) → change_of s ≡ Some c → IfOk r (λ o. AnswersTo (Changes c) n e o e')) → IfOk r (λ o. AnswersTo (says at s) n e o e')
carried at n s e e' r h answers =
    let c = some_change s h in
    subst (λ says_it. IfOk r (λ o. AnswersTo says_it n e o e')) (sym (said_so at s c.0 c.1)) (answers c.0 c.1)

-- its checked tree is sound where it is not refused
pub sound_here : AcceptedChangesAreSound → (e : Engine) (s : Statement) (c : Change) (x : CheckedChange) → IsReady e → change_of s ≡ Some c → IsWritten s → change_fault e.catalog.0 c ≡ None → x ≡ resolved_change e.catalog.0 c → IsSoundChange e.shapes x
sound_here law e s c x ready is written right checked =
    subst (IsSoundChange e.shapes) (sym checked) (subst (λ k. IsSoundChange k (resolved_change e.catalog.0 c)) (sym ready.shapes_are) (law e.catalog c (written_change s c is written) right))

-- a fault that is told was found
was_found : (o : Option ResolveFault) (f : ResolveFault) (kind : FaultKind) (at : ℕ) → IsFault o f → resolve_refusal f ≡ Some (kind, at) → o ≡ Some f
was_found o (faults.NoTable p) kind at h r = h
was_found o (faults.NoColumn p) kind at h r = h
was_found o (faults.ColumnTwice p) kind at h r = h
was_found o (faults.Count p) kind at h r = h
was_found o (faults.KeyUpdate p) kind at h r = h
was_found o (faults.Types p) kind at h r = h
was_found o (faults.Wide p) kind at h r = h
was_found o faults.Memory kind at h r = absurd (none-some (kind, at) r)

pub faulty_ok : (e : Engine) (c : Change) (n : ℕ) (fault : ResolveFault) (refusal : Option (FaultKind × ℕ)) (r : Result Outcome AllocError) → IsFault (change_fault e.catalog.0 c) fault
    → refusal ≡ resolve_refusal fault → IfOk r (IsTold refusal) → IfOk r (λ o. AnswersTo (Changes c) n e o e)
faulty_ok e c n fault refusal (Err x) f told is = tt
faulty_ok e c n fault refusal (Ok o) f told is = λ script item reads.
    let here : resolve_refusal fault ≡ Some (is.0, is.1) = sym told ∙ is.2 in
    subst (λ x. Answers script n e item x e) (sym is.3) (change_fault_is script n e item c is.0 is.1 reads (fault, was_found (change_fault e.catalog.0 c) fault is.0 is.1 f here, here))
