-- What is read of one list of rows for each table is what is read of the tables.
use Rattle.std.proofs.Common.{ℕ, zero, suc, ◌≡◌, ◌+◌, ◌*◌, ◌<◌, ◌≤◌, ◌==◌, Bool, true, false, cond, List, [], ◌∷◌, ◌++◌, map, length, take, get_or, refl, ap, sym, subst, ◌∙◌, arith, add-one, append_assoc}
use Rattle.std.proofs.Math.Seq.{take-suc}
use Rattle.std.specs.List.{filter, filter_map}
use Rattle.std.proofs.lemmas.List.{length-map}
use Rattle.pg_chunks.specs.Digits.{digits, digits_more}
use Rattle.pg_value.specs.declared.value.Dir.{Dir}
use Rattle.pg_value.specs.declared.shape.EdgeShape.{EdgeShape}
use Rattle.pg_adj.specs.declared.group.Group.{Group}
use Rattle.pg_adj.specs.Groups.{AreGroups, group_at, edges_of}
use Rattle.pg_adj.specs.Entries.{entries_at}
use Rattle.pg_view.specs.Neighbours.{other_table}
use Rattle.pg_view.specs.RowEnds.{ends_in, all_ends}
use Rattle.std.specs.Int.{bit_at}
use Rattle.std.proofs.lemmas.Bool.{eqb-true}
use Rattle.std.proofs.lemmas.List.Elements.{filter-append}
use Rattle.pg_keyed.specs.Keyed.{Ascends}
use Rattle.pg_keyed.specs.Lists.{Each, each_kept, each_map}
use Rattle.pg_value.specs.declared.value.Value.{Value}
use Rattle.pg_value.specs.declared.shape.TableNo.{TableNo}
use Rattle.pg_value.specs.declared.shape.TableSet.{TableSet}
use Rattle.pg_value.specs.declared.shape.ElemId.{ElemId}
use Rattle.pg_value.specs.Order.{key_cmp}
use Rattle.pg_value.specs.Tables.{Stored, Tables, IsInOrder, held_in, stored_at}
use Rattle.pg_value.specs.TablesLaws.{key_of, stored_in, held_ascends, stored_at_in}
use Rattle.pg_value.specs.Graph.{elem_of}
use Rattle.pg_meaning.specs.Reads.{elements_of}
use Rattle.std.specs.List.{cons_option}
use Rattle.std.specs.declared.option.Option.{Option}
use Rattle.std.specs.declared.option.Option.TheVariants.{Some, None}
use Rattle.std.proofs.Math.Nat.{mul-le-mul_right, suc-mul}
use Rattle.pg_value.specs.declared.row.Key.{Key}
use Rattle.pg_view.specs.declared.view.Neighbour.{Neighbour}
use Rattle.pg_view.specs.Lists.{joined, rows_in, Hold, Version, row_cost, group_cost}
use Rattle.pg_view.specs.Standing.{standing, all_standing, BeginsWith}

module _ (lists : List (List Stored)) (hold : Hold lists (joined lists)) where
  pub found : (t : TableNo) (k : List Value) → stored_in k (rows_in lists t) ≡ stored_at (t.0, k) (joined lists)
  found t k = ap (stored_in k) (sym (hold t)) ∙ stored_at_in t k (joined lists)

  of_table : (t : TableNo) → Each (λ s. s.table.0 ≡ t.0) (rows_in lists t)
  of_table t = subst (Each (λ s. s.table.0 ≡ t.0)) (hold t) (each_map (λ s. (s.table.0 == t.0) ≡ true) (λ s. s.table.0 ≡ t.0) (λ s h. eqb-true s.table.0 t.0 h) (held_in t (joined lists)) (each_kept (λ s. s.table.0 == t.0) (joined lists)))

-- ELEMENTS

has : TableSet → Stored → Bool
has set s = bit_at set.0 s.table.0 == 1

joined_append : (xs ys : List (List Stored)) → joined (xs ++ ys) ≡ joined xs ++ joined ys
joined_append [] ys = refl
joined_append (x ∷ xs) ys = ap (λ zs. x ++ zs) (joined_append xs ys) ∙ sym (append_assoc x (joined xs) (joined ys))

pub map_both : {X Y : Type 0} (f : X → Y) (xs ys : List X) → map f (xs ++ ys) ≡ map f xs ++ map f ys
map_both f [] ys = refl
map_both f (x ∷ xs) ys = ap (λ zs. f x ∷ zs) (map_both f xs ys)

pub nothing_behind : {X : Type 0} (xs : List X) → xs ++ [] ≡ xs
nothing_behind [] = refl
nothing_behind (x ∷ xs) = ap (λ ys. x ∷ ys) (nothing_behind xs)

-- the rows of one table are all kept, or none of them
one_table : (set : TableSet) (t : ℕ) (rows : List Stored) → Each (λ s. s.table.0 ≡ t) rows → map elem_of (filter (λ s. bit_at set.0 s.table.0 == 1) rows) ≡ cond (bit_at set.0 t == 1) (map elem_of rows) []
one_table set t [] h = elim (bit_at set.0 t == 1) as (λ b. map elem_of [] ≡ cond b (map elem_of []) []) [ true ↦ refl | false ↦ refl ]
one_table set t (s ∷ rows) h = go (bit_at set.0 t == 1) (ap (λ n. bit_at set.0 n == 1) h.0) (one_table set t rows h.1)
  where
    go : (b : Bool) → (bit_at set.0 s.table.0 == 1) ≡ b → map elem_of (filter (λ s. bit_at set.0 s.table.0 == 1) rows) ≡ cond b (map elem_of rows) []
        → map elem_of (cond (bit_at set.0 s.table.0 == 1) (s ∷ filter (λ s. bit_at set.0 s.table.0 == 1) rows) (filter (λ s. bit_at set.0 s.table.0 == 1) rows)) ≡ cond b (map elem_of (s ∷ rows)) []
    go true e r = rw e (ap (λ es. elem_of s ∷ es) r)
    go false e r = rw e r

pub one_more_table : (lists : List (List Stored)) (set : TableSet) (i : ℕ) (rows : List Stored) (old new : List ElemId) → Hold lists (joined lists) → i < length lists → rows ≡ get_or lists i rows
    → old ≡ elements_of (joined (take i lists)) set → new ≡ old ++ cond (bit_at set.0 i == 1) (map elem_of rows) [] → new ≡ elements_of (joined (take (i + 1) lists)) set
one_more_table lists set i rows old new hold l e h n =
    rw add-one (n ∙ (λ j. h j ++ sym own j) ∙ sym (map_both elem_of (filter test (joined (take i lists))) (filter test rows)) ∙ ap (map elem_of) (sym (filter-append test (joined (take i lists)) rows)) ∙ ap (λ t. map elem_of (filter test t)) (sym parts))
  where
    test : Stored → Bool
    test s = bit_at set.0 s.table.0 == 1

    same_default : (xs : List (List Stored)) (k : ℕ) (d f : List Stored) → k < length xs → get_or xs k d ≡ get_or xs k f
    same_default [] k d f m = absurd (omega arith)
    same_default (x ∷ xs) zero d f m = refl
    same_default (x ∷ xs) (suc k) d f m = same_default xs k d f (omega arith)

    all_own : Each (λ s. s.table.0 ≡ i) rows
    all_own = subst (Each (λ s. s.table.0 ≡ i)) (same_default lists i [] rows l ∙ sym e) (of_table lists hold (record { 0 = i }))

    own : map elem_of (filter test rows) ≡ cond (bit_at set.0 i == 1) (map elem_of rows) []
    own = one_table set i rows all_own

    parts : joined (take (suc i) lists) ≡ joined (take i lists) ++ rows
    parts = ap joined (take-suc lists i rows l) ∙ joined_append (take i lists) (get_or lists i rows ∷ []) ∙ (λ j. joined (take i lists) ++ nothing_behind (sym e j) j)

-- NEIGHBOURS

-- the list that was there before
pub begins : {X : Type 0} (front back : List X) → BeginsWith front (front ++ back)
begins [] back = refl
begins (x ∷ front) back = ap (λ ys. x ∷ ys) (begins front back)

pub one_more_standing : (tables : Tables) (t u : TableNo) (es os : List Key) (i : ℕ) (e o : Key) → i < length es → length es ≡ length os → e ≡ get_or es i e → o ≡ get_or os i o
    → all_standing tables t u (take (i + 1) es) (take (i + 1) os) ≡ all_standing tables t u (take i es) (take i os) ++ cons_option (standing tables t u e o) []
one_more_standing tables t u es os i e o l n p q = rw add-one (go es os i l n p q)
  where
    front : (r : Option Neighbour) (xs ys zs : List Neighbour) → xs ≡ ys ++ zs → cons_option r xs ≡ cons_option r ys ++ zs
    front None xs ys zs h = h
    front (Some x) xs ys zs h = ap (λ ws. x ∷ ws) h

    go : (es os : List Key) (i : ℕ) → i < length es → length es ≡ length os → e ≡ get_or es i e → o ≡ get_or os i o
        → all_standing tables t u (take (suc i) es) (take (suc i) os) ≡ all_standing tables t u (take i es) (take i os) ++ cons_option (standing tables t u e o) []
    go [] os i l n p q = absurd (omega arith)
    go (x ∷ es) [] i l n p q = absurd (omega arith)
    go (x ∷ es) (y ∷ os) zero l n p q = λ j. cons_option (standing tables t u (sym p j) (sym q j)) []
    go (x ∷ es) (y ∷ os) (suc i) l n p q = front (standing tables t u x y) _ _ _ (go es os i (omega arith) (omega arith) p q)

pub within_all : (i n c s0 s1 s2 : ℕ) → i < n → s1 ≤ s0 + i * c → s2 ≤ s1 + c → s2 ≤ s0 + n * c
within_all i n c s0 s1 s2 l a b = let m = mul-le-mul_right c l in let e : suc i * c ≡ i * c + c = suc-mul i c in omega (arith, m, e, a, b)

pub within_next : (i c s0 s1 s2 : ℕ) → s1 ≤ s0 + i * c → s2 ≤ s1 + c → s2 ≤ s0 + (i + 1) * c
within_next i c s0 s1 s2 a b = within_all i (i + 1) c s0 s1 s2 (omega arith) a b

given_few : {X Y : Type 0} (f : X → Option Y) (xs : List X) → length (filter_map f xs) ≤ length xs
given_few f [] = omega arith
given_few f (x ∷ xs) = let r = given_few f xs in elim (f x) as (λ o. length (cons_option o (filter_map f xs)) ≤ suc (length xs)) [ None ↦ omega arith | Some y ↦ omega arith ]

few_digits : (dir : Dir) (shape : EdgeShape) (rows : List Stored) (groups : List Group) → AreGroups dir (all_ends shape rows) groups → digits (length groups) ≤ digits (length rows)
few_digits dir shape rows groups a = let f = a.few in let g = given_few (ends_in shape) rows in digits_more (length groups) (length rows) (omega arith)

pub group_within : (v : Version) (dir : Dir) (key : Key) (shape : EdgeShape) (groups : List Group) (g : Group) (s0 s1 s2 : ℕ) → AreGroups dir (all_ends shape (held_in shape.table v.tables)) groups → Some g ≡ group_at key.values groups
    → s1 ≤ s0 + 3 + digits (length groups) → s2 ≤ s1 + length g.edges * (1 + row_cost v (other_table shape dir)) → s2 ≤ s0 + group_cost v dir key shape
group_within v dir key shape groups g s0 s1 s2 a e p q =
    let d = few_digits dir shape (held_in shape.table v.tables) groups a in
    let n : length g.edges ≡ length (entries_at dir key.values (all_ends shape (held_in shape.table v.tables))) = ap (λ o. length (edges_of o)) e ∙ ap length (a.edges key.values) ∙ length-map (entries_at dir key.values (all_ends shape (held_in shape.table v.tables))) (λ x. x.edge) in
    let m = ap (λ k. k * (1 + row_cost v (other_table shape dir))) n in
    omega (arith, d, m, p, q)

pub search_within : (v : Version) (dir : Dir) (key : Key) (shape : EdgeShape) (groups : List Group) (s0 s1 : ℕ) → AreGroups dir (all_ends shape (held_in shape.table v.tables)) groups
    → s1 ≤ s0 + 3 + digits (length groups) → s1 ≤ s0 + group_cost v dir key shape
search_within v dir key shape groups s0 s1 a p = let d = few_digits dir shape (held_in shape.table v.tables) groups a in omega (arith, d, p)
