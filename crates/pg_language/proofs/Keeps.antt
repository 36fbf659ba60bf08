-- What definitions and changes keep: the tables that there are stand where they stood, and writes stay in order.
use Rattle.std.proofs.Common.{◌≡◌, ℕ, zero, suc, List, [], ◌∷◌, ◌++◌, slice_get, sym, ap, subst}
use Rattle.std.specs.declared.option.Option.TheVariants.{Some}
use Rattle.pg_keyed.specs.Puts.{merge_ascends}
use Rattle.pg_value.specs.declared.shape.TableShape.{TableShape}
use Rattle.pg_value.specs.declared.write.Write.{Write}
use Rattle.pg_value.specs.Order.{place_cmp}
use Rattle.pg_value.specs.Orders.{places}
use Rattle.pg_value.specs.Writes.{named, merge, IsInOrder}
use Rattle.pg_ast.specs.declared.define.Define.{Define}
use Rattle.pg_ast.specs.declared.define.Define.TheVariants as definitions
use Rattle.pg_rules.specs.declared.entry.TableEntry.{TableEntry}
use Rattle.pg_rules.specs.Catalog.{Defined}
use Rattle.pg_rules.specs.Catalog.Shapes.{shapes, table_shapes}
use Rattle.pg_rules.specs.Definitions.{with_definition}
use Rattle.pg_rules.specs.Changes.ChangeEffect.{with_writes, proposed}
use Rattle.pg_script.specs.Fitting.{Extends}
use Rattle.pg_language.specs.Laws.{DefinitionsExtend, WritesStayInOrder}

-- tables behind others leave them where they are
stand : (front back : List (List ℕ × TableEntry)) (t : ℕ) (shape : TableShape) → slice_get (table_shapes front) t ≡ Some shape → slice_get (table_shapes (front ++ back)) t ≡ Some shape
stand [] back t shape h = absurd (cc)
stand (e ∷ front) back zero shape h = h
stand (e ∷ front) back (suc t) shape h = stand front back t shape h

extended : (d : Defined) (definition : Define) → Extends (shapes d) (shapes (with_definition d definition))
extended d (definitions.Table t) n shape h = stand d.0 _ n shape h
extended d (definitions.Graph g) n shape h = h

pub definitions_extend : DefinitionsExtend
definitions_extend d definition name d' (fine, is) =
    subst (λ k. Extends (shapes d) (shapes k)) (sym (ap (λ (x : List ℕ × Defined). x.1) is)) (extended d definition)

-- writes that are put one after another on writes in order leave them in order
put_in_order : (ws more : List Write) → IsInOrder ws → IsInOrder (with_writes ws more)
put_in_order ws [] h = h
put_in_order ws (w ∷ more) h = put_in_order (merge ws (w ∷ [])) more (merge_ascends named place_cmp places ws (w ∷ []) h (tt, tt))

pub writes_stay_in_order : WritesStayInOrder
writes_stay_in_order d tables ws x ws' rows h (shape, at, done) = subst IsInOrder (sym done.written) (put_in_order ws (proposed shape tables x) h)
