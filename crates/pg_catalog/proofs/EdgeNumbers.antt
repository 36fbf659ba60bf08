-- Edge tables are numbered over all graphs, and look-ups in several lists are those in one.
use Rattle.std.proofs.Common.{◌≡◌, ◌+◌, ◌-◌, ℕ, refl, ap, sym, ◌∙◌, arith, Bool, true, false, cond, zero, suc, zero-add, add_assoc, List, [], ◌∷◌, ◌++◌, length, length-append, take, nat_lt, map, Option, Some, None}
use Rattle.std.specs.List.{flat_map, find}
use Rattle.std.specs.Option.{option_or, option_map}
use Rattle.std.specs.Str.{bytes_eq}
use borrow.Author.Tests.{lt-ltb}
use Rattle.pg_rules.specs.declared.entry.PropertyEntry.{PropertyEntry}
use Rattle.pg_rules.specs.declared.entry.LabelEntry.{LabelEntry}
use Rattle.pg_rules.specs.declared.entry.EdgeEntry.{EdgeEntry}
use Rattle.pg_rules.specs.declared.entry.GraphEntry.{GraphEntry}
use Rattle.pg_rules.specs.Catalog.{Graphs}
use Rattle.pg_rules.specs.Definitions.Graphs.{Row, rows_of, first_column}
use Rattle.pg_rules.specs.Catalog.GraphLookUps.{first_edge}
use Rattle.pg_catalog.specs.GraphLookUps.{counted, edges_before, column_in}

none_before : (gs : Graphs) → edges_before 0 gs ≡ 0
none_before [] = refl
none_before (g ∷ gs) = zero-add (edges_before 0 gs) ∙ none_before gs

pub before_is : (n : ℕ) (gs : Graphs) → edges_before n gs ≡ first_edge gs n
before_is zero [] = refl
before_is zero (g ∷ gs) = none_before (g ∷ gs)
before_is (suc n) [] = refl
before_is (suc n) (g ∷ gs) =
    let pos : nat_lt 0 (suc n) ≡ true = lt-ltb 0 (suc n) (omega arith) in
    let less : suc n - 1 ≡ n = omega arith in
    ap (λ b. cond b (length g.1.edges) 0 + edges_before (suc n - 1) gs) pos
    ∙ ap (λ k. length g.1.edges + edges_before k gs) less
    ∙ ap (λ k. length g.1.edges + k) (before_is n gs)
    ∙ sym (length-append g.1.edges (flat_map (λ e. e.1.edges) (take n gs)))

pub counted_on : (count r left next total : ℕ) (edges : List EdgeEntry) (gs rest : Graphs) (g : List ℕ × GraphEntry) → gs ≡ g ∷ rest → r ≡ counted left edges → edges ≡ g.1.edges → next ≡ left - 1 → count + edges_before left gs ≡ total → count + r + edges_before next rest ≡ total
counted_on count r left next total edges gs rest g is hr he hn so_far =
    ap (λ x. count + x + edges_before next rest) (hr ∙ ap (counted left) he)
    ∙ ap (λ n. count + counted left g.1.edges + edges_before n rest) hn
    ∙ add_assoc count (counted left g.1.edges) (edges_before (left - 1) rest)
    ∙ sym (ap (λ l. count + edges_before left l) is)
    ∙ so_far

one_more : (b : Bool) (l : LabelEntry) (p : PropertyEntry) (o : Option PropertyEntry) (q : Option Row) (rest : Option ℕ) → option_map (λ (r : Row). r.property.column) q ≡ option_or (option_map (λ (x : PropertyEntry). x.column) o) rest → option_map (λ (r : Row). r.property.column) (cond b (Some (record { label = l.name; property = p })) q) ≡ option_or (option_map (λ (x : PropertyEntry). x.column) (cond b (Some p) o)) rest
one_more true l p o q rest h = refl
one_more false l p o q rest h = h

under_label : (l : LabelEntry) (ps : List PropertyEntry) (rest : List Row) (name : List ℕ) → first_column (map (λ p. record { label = l.name; property = p }) ps ++ rest) name ≡ option_or (column_in ps name) (first_column rest name)
under_label l [] rest name = refl
under_label l (p ∷ ps) rest name =
    let named : Row → Bool = λ r. bytes_eq name r.property.name in
    let rows : List Row = map (λ (x : PropertyEntry). record { label = l.name; property = x }) ps in
    one_more (bytes_eq name p.name) l p (find (λ (x : PropertyEntry). bytes_eq name x.name) ps) (find named (rows ++ rest)) (first_column rest name) (under_label l ps rest name)

pub label_first : (l : LabelEntry) (rest : List Row) (name : List ℕ) → first_column (rows_of l ++ rest) name ≡ option_or (column_in l.properties name) (first_column rest name)
label_first l rest name = under_label l l.properties rest name

found_more : {X : Type 0} (b : Bool) (x : X) (o p q : Option X) → o ≡ option_or p q → cond b (Some x) o ≡ option_or (cond b (Some x) p) q
found_more true x o p q h = refl
found_more false x o p q h = h

pub find_append : {X : Type 0} (test : X → Bool) (xs ys : List X) → find test (xs ++ ys) ≡ option_or (find test xs) (find test ys)
find_append test [] ys = refl
find_append test (x ∷ xs) ys = found_more (test x) x (find test (xs ++ ys)) (find test xs) (find test ys) (find_append test xs ys)

pub in_first : {X : Type 0} (test : X → Bool) (xs ys : List X) (x : X) → Some x ≡ find test xs → Some x ≡ find test (xs ++ ys)
in_first test xs ys x h = ap (λ o. option_or o (find test ys)) h ∙ sym (find_append test xs ys)

pub in_second : {X : Type 0} (test : X → Bool) (xs ys : List X) (o : Option X) → None ≡ find test xs → o ≡ find test ys → o ≡ find test (xs ++ ys)
in_second test xs ys o h k = k ∙ ap (λ p. option_or p (find test ys)) h ∙ sym (find_append test xs ys)

pub here : (labels now rest : List LabelEntry) (l : LabelEntry) (name : List ℕ) (column : ℕ) → now ≡ l ∷ rest → Some column ≡ column_in l.properties name → first_column (flat_map rows_of labels) name ≡ first_column (flat_map rows_of now) name → Some column ≡ first_column (flat_map rows_of labels) name
here labels now rest l name column is h so_far =
    ap (λ o. option_or o (first_column (flat_map rows_of rest) name)) h ∙ sym (label_first l (flat_map rows_of rest) name)
    ∙ sym (ap (λ n. first_column (flat_map rows_of n) name) is) ∙ sym so_far

pub further : (labels now rest : List LabelEntry) (l : LabelEntry) (name : List ℕ) → now ≡ l ∷ rest → None ≡ column_in l.properties name → first_column (flat_map rows_of labels) name ≡ first_column (flat_map rows_of now) name → first_column (flat_map rows_of labels) name ≡ first_column (flat_map rows_of rest) name
further labels now rest l name is h so_far =
    so_far ∙ ap (λ n. first_column (flat_map rows_of n) name) is ∙ label_first l (flat_map rows_of rest) name
    ∙ sym (ap (λ o. option_or o (first_column (flat_map rows_of rest) name)) h)
