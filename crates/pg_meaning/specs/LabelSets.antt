-- Which labels of a table meet a label expression, and the set of the tables whose labels do (ISO/IEC 9075-16:2023, label expression).
use Rattle.std.specs.Prelude.{ℕ, ◌≡◌, ◌↔◌, Bool, true, not, ◌&&◌, ◌||◌, List, Contains}
use Rattle.std.specs.Int.{bit_at}
use Rattle.pg_value.specs.declared.shape.TableNo.{TableNo}
use Rattle.pg_value.specs.declared.shape.TableSet.{TableSet}
use Rattle.std.specs.List.{list_any}
use Rattle.std.specs.Str.{bytes_eq}
use Rattle.pg_ast.specs.Trees.{LabelTree, Every, Named, NotL, AndL, OrL}

abbrev pub has_label : List (List ℕ) → List ℕ → Bool
has_label labels name = list_any (λ l. bytes_eq l name) labels

-- whether an element table with these labels meets the label expression
abbrev pub admits : List (List ℕ) → LabelTree → Bool
admits labels Every = true
admits labels (Named n) = has_label labels n.text
admits labels (NotL x) = not (admits labels x)
admits labels (AndL x y) = admits labels x && admits labels y
admits labels (OrL x y) = admits labels x || admits labels y

-- the set of those tables of one kind, vertex tables or edge tables of a graph, whose labels meet the label expression
abbrev pub IsLabelSet : List TableNo → (TableNo → List (List ℕ)) → LabelTree → TableSet → Type 0
IsLabelSet kind labels x set = (t : TableNo) → ((bit_at set.0 t.0 ≡ 1) ↔ (Contains kind t × (admits (labels t) x ≡ true)))
