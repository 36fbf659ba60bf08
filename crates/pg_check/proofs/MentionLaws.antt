-- The nodes, edges and mentions of path patterns, one after the other.
use Rattle.std.proofs.Common.{◌≡◌, ℕ, ◌+◌, ◌<◌, refl, ap, sym, ◌∙◌, List, [], ◌∷◌, ◌++◌, Bool, true, false, ◌||◌, map, Option, Some, None, length, drop, suc, zero, arith, add-one, ◌==◌, ◌-◌, length-drop}
use Rattle.std.specs.Prelude.{slice_get, option_to_list, filter_map}
use Rattle.std.proofs.lemmas.List.Elements.{filter_map-append}
use Rattle.std.proofs.Math.Seq.{drop-nil}
use Rattle.std.proofs.lemmas.List.{append-nil}
use Rattle.pg_ast.specs.declared.expr.Name.{Name}
use Rattle.pg_ast.specs.declared.pattern.Filler.{Filler}
use Rattle.pg_meaning.specs.Outlines.{Spot, spot, in_turn, as_end, first_as_end, last_as_end}
use Rattle.pg_meaning.specs.Mentions.{mention_at}
use Rattle.pg_check.specs.declared.mentions.PlacedSpot.{PlacedSpot}
use Rattle.pg_check.specs.Gathered.{chain, spots_of_nodes, spots_of_edges, marked, end_if, is_empty, spot_view, mention_of}

-- NODES AND EDGES IN TURN

pub only_nodes : {X : Type 0} (nodes : List X) → in_turn nodes [] ≡ nodes
only_nodes [] = refl
only_nodes (n ∷ ns) = refl

pair_step : (part : Option ℕ) (n : Filler) (ns es : List Filler) → chain part (n ∷ ns) es ≡ (spot false part n.var ∷ spots_of_edges part (option_to_list (slice_get es 0))) ++ chain part ns (drop 1 es)
pair_step part n ns [] = ap (λ l. spot false part n.var ∷ l) (sym (only_nodes (spots_of_nodes part ns)))
pair_step part n ns (e ∷ es) = refl

get_first : {X : Type 0} (es : List X) (i : ℕ) → slice_get (drop i es) 0 ≡ slice_get es i
get_first [] i = rw drop-nil refl
get_first (x ∷ xs) zero = refl
get_first (x ∷ xs) (suc i) = get_first xs i

drop_next : {X : Type 0} (es : List X) (i : ℕ) → drop 1 (drop i es) ≡ drop (suc i) es
drop_next [] i = ap (drop 1) (drop-nil i)
drop_next (x ∷ xs) zero = refl
drop_next (x ∷ xs) (suc i) = drop_next xs i

-- a node and the edge at its place
abbrev pub pair_at : Option ℕ → Filler → List Filler → ℕ → List (Spot Name)
pair_at part n es i = spot false part n.var ∷ spots_of_edges part (option_to_list (slice_get es i))

pub turn_step : (part : Option ℕ) (n : Filler) (ns es : List Filler) (i : ℕ) → chain part (n ∷ ns) (drop i es) ≡ pair_at part n es i ++ chain part ns (drop (i + 1) es)
turn_step part n ns es i =
    pair_step part n ns (drop i es)
    ∙ ap (λ o. (spot false part n.var ∷ spots_of_edges part (option_to_list o)) ++ chain part ns (drop 1 (drop i es))) (get_first es i)
    ∙ ap (λ l. pair_at part n es i ++ chain part ns l) (drop_next es i)
    ∙ ap (λ k. pair_at part n es i ++ chain part ns (drop k es)) (sym (add-one i))

-- FIRST AND LAST

last_marked : {V : Type 0} (s : Spot V) (ss : List (Spot V)) → last_as_end (s ∷ ss) ≡ marked false (s ∷ ss)
last_marked s [] = refl
last_marked s (t ∷ ss) = ap (λ l. s ∷ l) (last_marked t ss)

pub ends_marked : {V : Type 0} (ss : List (Spot V)) → last_as_end (first_as_end ss) ≡ marked true ss
ends_marked [] = refl
ends_marked (s ∷ []) = refl
ends_marked (s ∷ t ∷ ss) = ap (λ l. as_end s ∷ l) (last_marked t ss)

one_mention : {X Y : Type 0} (h : X → Option Y) (x : X) → filter_map h (x ∷ []) ≡ option_to_list (h x)
one_mention {X = X} {Y = Y} h x = go (h x) refl
  where
    go : (o : Option Y) → h x ≡ o → filter_map h (x ∷ []) ≡ option_to_list o
    go None e = rw e refl
    go (Some y) e = rw e refl

pub mention_step : (path i : ℕ) (first : Bool) (s : Spot Name) (ss : List (Spot Name)) → filter_map (mention_at path) (marked first (s ∷ ss)) ≡ option_to_list (mention_at path (end_if (first || is_empty ss) s)) ++ filter_map (mention_at path) (marked false ss)
mention_step path i first s ss =
    let x = end_if (first || is_empty ss) s in
    filter_map-append (mention_at path) (x ∷ []) (marked false ss)
    ∙ ap (λ l. l ++ filter_map (mention_at path) (marked false ss)) (one_mention (mention_at path) x)

pub empty_map : {X Y : Type 0} (f : X → Y) (xs : List X) → is_empty (map f xs) ≡ is_empty xs
empty_map f [] = refl
empty_map f (x ∷ xs) = refl

nothing_left : {X : Type 0} (xs : List X) (n : ℕ) → length xs ≡ n → is_empty xs ≡ (n == 0)
nothing_left [] n h = rw (sym h) refl
nothing_left (x ∷ xs) n h = grind arith

pub empty_drop : {X : Type 0} (xs : List X) (i : ℕ) → i < length xs → is_empty (drop (i + 1) xs) ≡ ((i + 1) == length xs)
empty_drop xs i inside = nothing_left (drop (i + 1) xs) (length xs - (i + 1)) (length-drop (i + 1) xs) ∙ grind arith

later_first : (i : ℕ) → ((i + 1) == 0) ≡ false
later_first i = grind arith

pub mark_step : (path i : ℕ) (outermost : Bool) (spots : List PlacedSpot) (s : PlacedSpot) → i < length spots → outermost ≡ ((i == 0) || ((i + 1) == length spots)) → filter_map (mention_at path) (marked (i == 0) (map spot_view (s ∷ drop (i + 1) spots))) ≡ mention_of path outermost s ++ filter_map (mention_at path) (marked ((i + 1) == 0) (map spot_view (drop (i + 1) spots)))
mark_step path i outermost spots s inside h =
    let rest = map spot_view (drop (i + 1) spots) in
    let after = filter_map (mention_at path) (marked false rest) in
    mention_step path i (i == 0) (spot_view s) rest
    ∙ ap (λ b. mention_of path ((i == 0) || b) s ++ after) (empty_map spot_view (drop (i + 1) spots) ∙ empty_drop spots i inside)
    ∙ ap (λ b. mention_of path b s ++ after) (sym h)
    ∙ ap (λ b. mention_of path outermost s ++ filter_map (mention_at path) (marked b rest)) (sym (later_first i))

pub none_behind : (xs : List (Spot Name)) (part : Option ℕ) (o : Option Filler) → o ≡ None → xs ≡ xs ++ spots_of_edges part (option_to_list o)
none_behind xs part o h = rw h (sym (append-nil xs))
