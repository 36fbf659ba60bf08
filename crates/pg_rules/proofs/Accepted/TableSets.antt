-- The set of some tables has these tables and no others.
use Rattle.std.proofs.Common.{◌≡◌, ◌+◌, ◌*◌, ◌/◌, ◌%◌, ◌^◌, ◌<◌, ◌≤◌, ◌||◌, ℕ, zero, suc, Bool, true, false, cond, refl, ap, sym, ◌∙◌, arith, List, [], ◌∷◌, ◌==◌, map, All, nat_lt, ltb-true, ltb-false, zero-add}
use Rattle.std.proofs.lemmas.Bool.{eqb-true}
use Rattle.std.proofs.Math.Nat.{pow-succ'}
use Rattle.std.proofs.lemmas.List.Elements.{All-nil, All-head, All-tail, All-map}
use Rattle.std.proofs.lemmas.Nat.Bits.{bit_at_lowest, bit_at-suc, bit_at-zero, same_from_bits}
use Rattle.std.specs.Int.{bit_at}
use Rattle.std.specs.Prelude.{slice_get}
use Rattle.std.specs.List.{range_with_len, filter}
use Rattle.pg_value.specs.declared.shape.GraphNo.{GraphNo}
use Rattle.pg_value.specs.declared.shape.TableSet.{TableSet}
use Rattle.pg_ast.specs.Trees.{LabelTree}
use Rattle.pg_meaning.specs.LabelSets.{admits}
use Rattle.pg_rules.specs.declared.entry.ElementEntry.{ElementEntry}
use Rattle.pg_rules.specs.declared.entry.EdgeEntry.{EdgeEntry}
use Rattle.pg_rules.specs.declared.entry.GraphEntry.{GraphEntry}
use Rattle.pg_rules.specs.Catalog.{Defined, Graphs, HasBit, IsSmallGraph, IsSmall}
use Rattle.pg_rules.specs.Catalog.GraphLookUps.{IsSetOf, bit, has_number, of_sort, admitted, tables_of, graph_in, graph_numbered}
use Rattle.pg_rules.specs.Definitions.Graphs.{labels_in}
use Rattle.pg_rules.specs.Queries.CheckedQueries.{bits_among, set_of}
use Rattle.pg_rules.specs.Queries.TableSets.{HaveBits}

-- BITS

-- the number whose bits, from the lowest on, say which of n numbers from a on are among the tables
abbrev bits_from : List ℕ → ℕ → ℕ → ℕ
bits_from ts a zero = 0
bits_from ts a (suc n) = bit (has_number a ts) + 2 * bits_from ts (a + 1) n

twice : (a : ℕ) → 2 ^ (a + 1) ≡ 2 * 2 ^ a
twice a = let next : a + 1 ≡ suc a = omega arith in ap (λ k. 2 ^ k) next ∙ pow-succ' 2 a

weighed : (p w : ℕ) (b : Bool) → cond b p 0 + (2 * p) * w ≡ p * (bit b + 2 * w)
weighed p w true = grind arith
weighed p w false = grind arith

one_times : (n : ℕ) → 2 ^ 0 * n ≡ n
one_times n = omega arith

sum_is : (ts : List ℕ) (a n : ℕ) → bits_among (range_with_len a n) ts ≡ 2 ^ a * bits_from ts a n
sum_is ts a zero = grind arith
sum_is ts a (suc n) =
    ap (λ s. cond (has_number a ts) (2 ^ a) 0 + s) (sum_is ts (a + 1) n ∙ ap (λ p. p * bits_from ts (a + 1) n) (twice a))
    ∙ weighed (2 ^ a) (bits_from ts (a + 1) n) (has_number a ts)

low : (b : Bool) (m : ℕ) → (bit b + 2 * m) % 2 ≡ bit b
low true m = grind arith
low false m = grind arith

high : (b : Bool) (m : ℕ) → (bit b + 2 * m) / 2 ≡ m
high true m = grind arith
high false m = grind arith

bit_is : (ts : List ℕ) (a n i : ℕ) → i < n → bit_at (bits_from ts a n) i ≡ bit (has_number (a + i) ts)
bit_is ts a zero i h = absurd (omega arith)
bit_is ts a (suc n) zero h =
    let same : a + 0 ≡ a = omega arith in
    bit_at_lowest (bits_from ts a (suc n)) ∙ low (has_number a ts) (bits_from ts (a + 1) n) ∙ ap (λ k. bit (has_number k ts)) (sym same)
bit_is ts a (suc n) (suc i) h =
    let same : (a + 1) + i ≡ a + suc i = omega arith in
    bit_at-suc (bits_from ts a (suc n)) i ∙ ap (λ m. bit_at m i) (high (has_number a ts) (bits_from ts (a + 1) n)) ∙ bit_is ts (a + 1) n i (omega arith)
    ∙ ap (λ k. bit (has_number k ts)) same

no_bit : (ts : List ℕ) (a n i : ℕ) → n ≤ i → bit_at (bits_from ts a n) i ≡ 0
no_bit ts a zero i h = bit_at-zero i
no_bit ts a (suc n) zero h = absurd (omega arith)
no_bit ts a (suc n) (suc i) h =
    bit_at-suc (bits_from ts a (suc n)) i ∙ ap (λ m. bit_at m i) (high (has_number a ts) (bits_from ts (a + 1) n)) ∙ no_bit ts (a + 1) n i (omega arith)

-- SETS

not_among : (ts : List ℕ) (t : ℕ) → HaveBits ts → 64 ≤ t → has_number t ts ≡ false
not_among [] t h k = refl
not_among (u ∷ ts) t h k = differs (u == t) refl (not_among ts t h.1 k)
  where
    differs : (b : Bool) → (u == t) ≡ b → has_number t ts ≡ false → (b || has_number t ts) ≡ false
    differs true e r = let same : u ≡ t = eqb-true u t e in let l = h.0 in absurd (omega (arith, same, l, k))
    differs false e r = r

pub set_made : (ts : List ℕ) → HaveBits ts → IsSetOf (set_of ts).0 ts
set_made ts h t = go (nat_lt t 64) refl
  where
    sum : bits_among (range_with_len 0 64) ts ≡ bits_from ts 0 64
    sum = sum_is ts 0 64 ∙ one_times (bits_from ts 0 64)

    go : (b : Bool) → nat_lt t 64 ≡ b → bit_at (set_of ts).0 t ≡ bit (has_number t ts)
    go true e = ap (λ s. bit_at s t) sum ∙ bit_is ts 0 64 t (ltb-true t 64 e) ∙ ap (λ k. bit (has_number k ts)) (zero-add t)
    go false e = let l = ltb-false t 64 e in ap (λ s. bit_at s t) sum ∙ no_bit ts 0 64 t l ∙ sym (ap bit (not_among ts t h l))

pub set_only : (set : TableSet) (ts : List ℕ) → HaveBits ts → IsSetOf set.0 ts → set ≡ set_of ts
set_only set ts h k = ap (λ (n : ℕ). record { 0 = n }) (same_from_bits set.0 (set_of ts).0 (λ t. k t ∙ sym (set_made ts h t)))

-- THE TABLES OF A GRAPH

numbers_of : List ElementEntry → List ℕ
numbers_of es = map (λ (e : ElementEntry). e.table.0) es

have_bits : (es : List ElementEntry) (x : LabelTree) → All HasBit es → HaveBits (admitted es x)
have_bits [] x h = tt
have_bits (e ∷ es) x h = go (admits (labels_in e) x) (All-head HasBit e es h) (have_bits es x (All-tail HasBit e es h))
  where
    kept : List ElementEntry
    kept = filter (λ (f : ElementEntry). admits (labels_in f) x) es

    go : (b : Bool) → e.table.0 < 64 → HaveBits (map (λ (f : ElementEntry). f.table.0) kept) → HaveBits (map (λ (f : ElementEntry). f.table.0) (cond b (e ∷ kept) kept))
    go true l r = (l, r)
    go false l r = r

edges_have : (es : List EdgeEntry) → All (λ (e : EdgeEntry). HasBit e.element) es → All HasBit (map (λ (e : EdgeEntry). e.element) es)
edges_have es h = All-map HasBit (λ (e : EdgeEntry). e.element) es h

sort_has : (g : GraphEntry) (edges : Bool) → IsSmallGraph g → All HasBit (of_sort g edges)
sort_has g true h = edges_have g.edges h.1.1
sort_has g false h = h.1.0

graph_small : (gs : Graphs) (n : ℕ) → All (λ (g : List ℕ × GraphEntry). IsSmallGraph g.1) gs → IsSmallGraph (graph_in (slice_get gs n))
graph_small [] n h = (omega arith, (All-nil HasBit, All-nil (λ (e : EdgeEntry). HasBit e.element)))
graph_small (g ∷ gs) zero h = All-head (λ (g : List ℕ × GraphEntry). IsSmallGraph g.1) g gs h
graph_small (g ∷ gs) (suc n) h = graph_small gs n (All-tail (λ (g : List ℕ × GraphEntry). IsSmallGraph g.1) g gs h)

pub small_have : (d : Defined) (g : GraphNo) (edges : Bool) (x : LabelTree) → IsSmall d → HaveBits (tables_of d g edges x)
small_have d g edges x h = have_bits (of_sort (graph_numbered d.1 g) edges) x (sort_has (graph_numbered d.1 g) edges (graph_small d.1 g.0 h.1.1))
