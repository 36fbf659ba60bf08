-- The answer of a query and its refusal are what the language says of it.
use Rattle.std.proofs.Common.{◌≡◌, ℕ, List, length, sym, subst, ◌∙◌, IfOk}
use Rattle.std.specs.Prelude.{Result, Ok, Err, Option, Some, None}
use Rattle.std.specs.declared.alloc.AllocError.{AllocError}
use Rattle.std.proofs.lemmas.Option.{none-some}
use Rattle.std.specs.List.Sorted.{IsSorted}
use Rattle.pg_value.specs.declared.row.Row.{Row}
use Rattle.pg_value.specs.Orders.{row_order}
use Rattle.pg_value.specs.TablesLaws.{after_in_order, after_fits}
use Rattle.pg_value.specs.Log.{after}
use Rattle.pg_ast.specs.declared.pattern.Query.{Query}
use Rattle.pg_meaning.specs.declared.checked.CheckedQuery.{CheckedQuery}
use Rattle.pg_meaning.specs.Answers.{Answer, column_names}
use Rattle.pg_meaning.specs.Sound.Queries.{IsSoundQuery}
use Rattle.pg_rules.specs.declared.fault.QueryFault.{QueryFault}
use Rattle.pg_rules.specs.declared.fault.QueryFault.TheVariants as faults
use Rattle.pg_rules.specs.Accepted.{AcceptedQueriesAreSound}
use Rattle.pg_rules.specs.Catalog.SoundDefinitions.{IsCatalog}
use Rattle.pg_rules.specs.Queries.{query_fault}
use Rattle.pg_rules.specs.Queries.CheckedQueries.{checked_query}
use Rattle.pg_rules.specs.Written.{IsWrittenQuery}
use Rattle.pg_script.specs.declared.outcome.FaultKind.{FaultKind}
use Rattle.pg_script.specs.declared.outcome.Outcome.{Outcome}
use Rattle.pg_script.specs.declared.outcome.Outcome.TheVariants.{Rows}
use Rattle.pg_script.specs.Judged.{Asks}
use Rattle.pg_check.specs.Resolved.{IsFault}
use Rattle.pg_view.specs.Lists.{joined, AreLists, ListsAreTables}
use Rattle.pg_language.specs.Language.{query_refusal}
use Rattle.pgq.specs.declared.engine.Engine.{Engine}
use Rattle.pgq.specs.Refusals.{IsTold}
use Rattle.pgq.specs.Engine.{IsReady, Answers, AnswersTo}
use Rattle.pgq.proofs.Statements.Outcomes.{query_fault_is, rows_are}

-- the lists make a view, and are the tables after the log
pub lists_view : (e : Engine) → IsReady e → ListsAreTables → AreLists e.shapes e.tables.items
lists_view e ready law = law.view e.shapes e.tables.items (after e.log (length e.log)) ready.sound_shapes (after_fits e.shapes e.log (length e.log) ready.fit) (λ t. ready.each t.0)

pub lists_joined : (e : Engine) → IsReady e → ListsAreTables → joined e.tables.items ≡ after e.log (length e.log)
lists_joined e ready law = law.tables e.tables.items (after e.log (length e.log)) (after_in_order e.log (length e.log)) (λ t. ready.each t.0)

-- ANSWERS

pub sound_query : AcceptedQueriesAreSound → (e : Engine) (q : Query) (y : CheckedQuery) → IsReady e → IsCatalog e.catalog → IsWrittenQuery q → query_fault e.catalog q ≡ None → y ≡ checked_query e.catalog q → IsSoundQuery e.shapes y
sound_query law e q y ready catalog written right is =
    subst (IsSoundQuery e.shapes) (sym is) (subst (λ s. IsSoundQuery s (checked_query e.catalog q)) (sym ready.shapes_are) (law e.catalog q catalog written right))

pub answered : (e : Engine) (q : Query) (y : CheckedQuery) (rows : List Row) (names : List (List ℕ)) (n : ℕ) → IsReady e → query_fault e.catalog q ≡ None → y ≡ checked_query e.catalog q
    → Answer e.shapes (after e.log (length e.log)) y rows → IsSorted row_order rows → names ≡ column_names y → AnswersTo (Asks q) n e (Rows (length e.log) e.base names rows) e
answered e q y rows names n ready right is a sorted named script item r =
    subst (λ ns. Answers script n e item (Rows (length e.log) e.base ns rows) e) (sym named)
    (rows_are script n e item q y rows r (right, is) (subst (λ s. Answer s (after e.log (length e.log)) y rows) ready.shapes_are a) sorted)

-- REFUSALS

-- a fault that is told was found
was_found : (o : Option QueryFault) (f : QueryFault) (kind : FaultKind) (at : ℕ) → IsFault o f → query_refusal f ≡ Some (kind, at) → o ≡ Some f
was_found o (faults.NoGraph p) kind at h r = h
was_found o (faults.NoLabel p) kind at h r = h
was_found o (faults.NoProperty p) kind at h r = h
was_found o (faults.Unbounded p) kind at h r = h
was_found o (faults.Bounds p) kind at h r = h
was_found o (faults.BadVariable p) kind at h r = h
was_found o (faults.GroupUse p) kind at h r = h
was_found o (faults.Types p) kind at h r = h
was_found o (faults.Wide p) kind at h r = h
was_found o (faults.Limit p) kind at h r = h
was_found o faults.Memory kind at h r = absurd (none-some (kind, at) r)

pub faulty_ok : (e : Engine) (q : Query) (n : ℕ) (fault : QueryFault) (refusal : Option (FaultKind × ℕ)) (r : Result Outcome AllocError) → IsFault (query_fault e.catalog q) fault
    → refusal ≡ query_refusal fault → IfOk r (IsTold refusal) → IfOk r (λ o. AnswersTo (Asks q) n e o e)
faulty_ok e q n fault refusal (Err x) f told is = tt
faulty_ok e q n fault refusal (Ok o) f told is = λ script item reads.
    let here : query_refusal fault ≡ Some (is.0, is.1) = sym told ∙ is.2 in
    subst (λ x. Answers script n e item x e) (sym is.3) (query_fault_is script n e item q is.0 is.1 reads (fault, was_found (query_fault e.catalog q) fault is.0 is.1 f here, here))
