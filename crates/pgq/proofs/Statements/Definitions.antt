-- A definition that the catalog has taken leaves the engine ready, and is answered by the table of outcomes.
use Rattle.std.proofs.Common.{◌≡◌, ℕ, zero, suc, ◌≤◌, List, [], ◌∷◌, ◌++◌, length, get_or, refl, ap, sym, subst, ◌∙◌, length-append, arith, IfOk, OnOk}
use Rattle.std.specs.Prelude.{Result, Ok, Err, slice_get}
use Rattle.std.specs.declared.alloc.AllocError.{AllocError}
use Rattle.std.specs.declared.option.Option.{Option}
use Rattle.std.specs.declared.option.Option.TheVariants.{Some, None}
use Rattle.std.proofs.lemmas.Option.{none-some}
use Rattle.pg_value.specs.declared.write.Commit.{Commit}
use Rattle.pg_value.specs.Tables.{Stored, held_in}
use Rattle.pg_value.specs.Log.{after, held}
use Rattle.pg_ast.specs.declared.define.Define.{Define}
use Rattle.pg_ast.specs.declared.define.Define.TheVariants as definitions
use Rattle.pg_rules.specs.declared.fault.DefineFault.{DefineFault}
use Rattle.pg_rules.specs.declared.fault.DefineFault.TheVariants as faults
use Rattle.pg_rules.specs.Catalog.{Defined as Entries}
use Rattle.pg_rules.specs.declared.entry.TableEntry.{TableEntry}
use Rattle.pg_rules.specs.Catalog.Shapes.{shapes, table_shape}
use Rattle.pg_rules.specs.Definitions.Tables.{IsFault, entry_of}
use Rattle.pg_rules.specs.Definitions.{define_fault, with_definition}
use Rattle.pg_script.specs.declared.outcome.FaultKind.{FaultKind}
use Rattle.pg_script.specs.declared.outcome.Outcome.{Outcome}
use Rattle.pg_script.specs.declared.outcome.Outcome.TheVariants.{Defined}
use Rattle.pg_script.specs.Judged.{Defines}
use Rattle.pgq.specs.declared.engine.Engine.{Engine}
use Rattle.pg_language.specs.Language.{name_of, define_refusal}
use Rattle.pgq.specs.Refusals.{IsTold}
use Rattle.pgq.specs.Definitions.{tables_then, IsDefinedBy}
use Rattle.std.proofs.lemmas.List.{map-append}
use Rattle.pg_keyed.specs.Lists.{each_map}
use Rattle.pg_value.specs.Tables.{FitWrites, FitsWrite}
use Rattle.pg_value.specs.TablesLaws.{FitLog}
use Rattle.pgq.specs.Engine.{most_log_writes, IsReady, Answers, AnswersTo}
use Rattle.pgq.proofs.Statements.Outcomes.{defined_is, define_fault_is}

beyond_is : (tables : List (List Stored)) (t : ℕ) → get_or (tables ++ [] ∷ []) t [] ≡ get_or tables t []
beyond_is [] zero = refl
beyond_is [] (suc t) = refl
beyond_is (x ∷ xs) zero = refl
beyond_is (x ∷ xs) (suc t) = beyond_is xs t

same_lists : (d : Define) (tables : List (List Stored)) (t : ℕ) → get_or (tables_then d tables) t [] ≡ get_or tables t []
same_lists (definitions.Table x) tables t = beyond_is tables t
same_lists (definitions.Graph x) tables t = refl

as_many_then : (d : Define) (entries : Entries) (tables : List (List Stored)) → length tables ≡ length entries.0 → length (tables_then d tables) ≡ length (with_definition entries d).0
as_many_then (definitions.Table x) entries tables h = omega (arith, h, length-append tables ([] ∷ []), length-append entries.0 ((x.name.text, entry_of x) ∷ []))
as_many_then (definitions.Graph x) entries tables h = h

further : {X : Type 0} (xs ys : List X) (n : ℕ) (x : X) → slice_get xs n ≡ Some x → slice_get (xs ++ ys) n ≡ Some x
further [] ys n x h = absurd (none-some x h)
further (y ∷ xs) ys zero x h = h
further (y ∷ xs) ys (suc n) x h = further xs ys n x h

-- what fits the tables that are defined fits when one more is
fits_then : (d : Define) (c : Entries) (log : List Commit) → FitLog (shapes c) log → FitLog (shapes (with_definition c d)) log
fits_then (definitions.Table x) c log f = each_map (λ (k : Commit). FitWrites (shapes c) k.writes.list) (λ (k : Commit). FitWrites (shapes (with_definition c (definitions.Table x))) k.writes.list)
    (λ k g. each_map (FitsWrite (shapes c)) (FitsWrite (shapes (with_definition c (definitions.Table x)))) (λ w h. (h.0, subst (λ ts. slice_get ts w.table.0 ≡ Some h.0) (sym (map-append (λ (t : List ℕ × TableEntry). table_shape t.1) c.0 ((x.name.text, entry_of x) ∷ []))) (further (shapes c).tables _ w.table.0 h.0 h.1), h.2, h.3)) k.writes.list g) log f
fits_then (definitions.Graph x) c log f = f

-- what the catalog alone has taken
pub record IsTaken (d : Define) (e m : Engine) : Type 0 where
  pub right : define_fault e.catalog d ≡ None
  pub catalog : m.catalog ≡ with_definition e.catalog d
  pub tables : m.tables.items ≡ e.tables.items
  pub log : m.log ≡ e.log
  pub held_all : m.held ≡ e.held
  pub peak : m.peak ≡ e.peak

module _ (d : Define) (e m e' : Engine) (taken : IsTaken d e m) (by : IsDefinedBy d m e') where
  abbrev log_is : e'.log ≡ e.log
  log_is = by.log ∙ taken.log

  pub catalog_is : e'.catalog ≡ with_definition e.catalog d
  catalog_is = by.catalog ∙ taken.catalog

  pub ready_then : IsReady e → IsReady e'
  ready_then ready = record {
    each = λ t. ap (λ (l : List Commit). held_in (record { 0 = t }) (after l (length l))) log_is ∙ ready.each t ∙ sym (ap (λ ls. get_or ls t []) (by.tables ∙ ap (tables_then d) taken.tables) ∙ same_lists d e.tables.items t);
    as_many = ap length (by.tables ∙ ap (tables_then d) taken.tables) ∙ as_many_then d e.catalog e.tables.items ready.as_many ∙ sym (ap (λ (k : Entries). length k.0) catalog_is);
    shapes_are = by.shapes_are ∙ sym (ap shapes by.catalog);
    sound_shapes = by.sound;
    fit = subst (λ s. FitLog s e'.log) (sym (by.shapes_are ∙ ap shapes taken.catalog)) (subst (FitLog (shapes (with_definition e.catalog d))) (sym log_is) (fits_then d e.catalog e.log (subst (λ s. FitLog s e.log) ready.shapes_are ready.fit)));
    held_all = by.held_all ∙ taken.held_all ∙ ready.held_all ∙ sym (ap held log_is);
    room = subst (λ l. held l ≤ most_log_writes) (sym log_is) ready.room;
    low = omega (arith, by.base, ap length by.log);
    high = omega (arith, by.base, ap length by.log);
    peak = subst (λ (p : ℕ × ℕ). 1 ≤ p.0) (sym (by.peak ∙ taken.peak)) ready.peak;
  }

  pub defined_answers : (at n : ℕ) → n ≡ 0 → AnswersTo (Defines d at) n e (Defined (name_of d) (length m.log)) e'
  defined_answers at n setup script item r =
      subst (λ k. Answers script n e item (Defined (name_of d) k) e') (ap length (sym taken.log))
      (defined_is script n e item d at e' r setup taken.right catalog_is log_is (by.base ∙ ap length taken.log) (by.peak ∙ taken.peak))

pub ready_ok : (d : Define) (e m e' : Engine) (r : Result Outcome AllocError) → IsTaken d e m → IsReady e → OnOk r (IsDefinedBy d m e') → OnOk r (IsReady e')
ready_ok d e m e' (Ok o) taken ready by = ready_then d e m e' taken by ready
ready_ok d e m e' (Err x) taken ready by = tt

pub answers_ok : (d : Define) (e m e' : Engine) (at n : ℕ) (r : Result Outcome AllocError) → IsTaken d e m → n ≡ 0 → OnOk r (IsDefinedBy d m e') → IfOk r (λ o. o ≡ Defined (name_of d) (length m.log))
    → IfOk r (λ o. AnswersTo (Defines d at) n e o e')
answers_ok d e m e' at n (Ok o) taken setup by is = subst (λ x. AnswersTo (Defines d at) n e x e') (sym is) (defined_answers d e m e' taken by at n setup)
answers_ok d e m e' at n (Err x) taken setup by is = tt

-- a fault that is told was found
was_found : (o : Option DefineFault) (f : DefineFault) (kind : FaultKind) (at : ℕ) → IsFault o f → define_refusal f ≡ Some (kind, at) → o ≡ Some f
was_found o (faults.NameTaken p) kind at h r = h
was_found o (faults.NoTable p) kind at h r = h
was_found o (faults.NoColumn p) kind at h r = h
was_found o (faults.KeyMismatch p) kind at h r = h
was_found o (faults.LabelMismatch p) kind at h r = h
was_found o (faults.TypeMismatch p) kind at h r = h
was_found o (faults.Limit p) kind at h r = h
was_found o faults.Memory kind at h r = absurd (none-some (kind, at) r)

pub faulty_ok : (d : Define) (e m : Engine) (at n : ℕ) (fault : DefineFault) (refusal : Option (FaultKind × ℕ)) (r : Result Outcome AllocError) → m ≡ e → n ≡ 0 → IsFault (define_fault e.catalog d) fault
    → refusal ≡ define_refusal fault → IfOk r (IsTold refusal) → IfOk r (λ o. AnswersTo (Defines d at) n e o m)
faulty_ok d e m at n fault refusal (Err x) same setup f told is = tt
faulty_ok d e m at n fault refusal (Ok o) same setup f told is = λ script item reads.
    let here : define_refusal fault ≡ Some (is.0, is.1) = sym told ∙ is.2 in
    subst (λ x. Answers script n e item o x) (sym same)
    (subst (λ x. Answers script n e item x e) (sym is.3)
    (define_fault_is script n e item d at is.0 is.1 reads setup (fault, was_found (define_fault e.catalog d) fault is.0 is.1 f here, here)))
