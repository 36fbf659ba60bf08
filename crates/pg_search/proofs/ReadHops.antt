-- Hops as a view gives them, table by table and filtered one by one, are those that are meant.
use Rattle.std.proofs.Common.{◌≡◌, ◌≤◌, ℕ, zero, suc, length, take, arith, Bool, true, false, cond, List, [], ◌∷◌, ◌++◌, map, filter, refl, ap, sym, ◌∙◌}
use Rattle.std.specs.Prelude.{flat_map, IfOk}
use Rattle.std.specs.declared.result.Result.{Result}
use Rattle.std.specs.declared.result.Result.TheVariants.{Ok, Err}
use Rattle.std.proofs.lemmas.List.{map-append}
use Rattle.pg_value.specs.declared.shape.ElemId.{ElemId}
use Rattle.pg_value.specs.declared.shape.EdgeNo.{EdgeNo}
use Rattle.pg_value.specs.declared.shape.TableSet.{TableSet}
use Rattle.pg_value.specs.declared.shape.Shapes.{Shapes}
use Rattle.pg_value.specs.Tables.{Tables}
use Rattle.pg_ast.specs.declared.pattern.Arrow.{Arrow}
use Rattle.pg_meaning.specs.Walks.{Hop}
use Rattle.pg_view.specs.declared.view.Neighbour.{Neighbour}
use Rattle.pg_view.specs.Neighbours.{neighbour}
use Rattle.pg_auto.specs.Successors.{led_to, is_read}
use Rattle.pg_search.specs.Hops.{read_at, neighbours_over, hop_view}

module _ (shapes : Shapes) (tables : Tables) (arrow : Arrow) (set : TableSet) (v : ElemId) where
  pub read_flat : (edges : List EdgeNo) → flat_map (neighbours_over shapes tables arrow set v) edges ≡ map neighbour (read_at shapes tables arrow set v edges)
  read_flat [] = refl
  read_flat (e ∷ es) = go (is_read shapes set e) (read_flat es)
    where
      go : (b : Bool) → flat_map (neighbours_over shapes tables arrow set v) es ≡ map neighbour (read_at shapes tables arrow set v es)
          → map neighbour (cond b (led_to shapes tables arrow v e) []) ++ flat_map (neighbours_over shapes tables arrow set v) es
          ≡ map neighbour (flat_map (led_to shapes tables arrow v) (cond b (e ∷ filter (is_read shapes set) es) (filter (is_read shapes set) es)))
      go true h = ap (λ ns. map neighbour (led_to shapes tables arrow v e) ++ ns) h ∙ sym (map-append neighbour (led_to shapes tables arrow v e) (read_at shapes tables arrow set v es))
      go false h = h

pub admitted_flat : (test : Hop → Bool) (hops : List Hop) → flat_map (λ (n : Neighbour). cond (test (hop_view n)) (n ∷ []) []) (map neighbour hops) ≡ map neighbour (filter test hops)
admitted_flat test [] = refl
admitted_flat test (h ∷ hs) = go (test h) (admitted_flat test hs)
  where
    go : (b : Bool) → flat_map (λ (n : Neighbour). cond (test (hop_view n)) (n ∷ []) []) (map neighbour hs) ≡ map neighbour (filter test hs)
        → cond b (neighbour h ∷ []) [] ++ flat_map (λ (n : Neighbour). cond (test (hop_view n)) (n ∷ []) []) (map neighbour hs) ≡ map neighbour (cond b (h ∷ filter test hs) (filter test hs))
    go true k = ap (λ ns. neighbour h ∷ ns) k
    go false k = k

-- a list whose front is as long is its front
pub take_whole : {X : Type 0} (xs : List X) (i : ℕ) → length xs ≤ i → take i xs ≡ xs
take_whole [] zero h = refl
take_whole [] (suc i) h = refl
take_whole (x ∷ xs) zero h = absurd (omega arith)
take_whole (x ∷ xs) (suc i) h = ap (λ ys. x ∷ ys) (take_whole xs i (omega arith))

pub if_ok : {T E : Type 0} (r : Result T E) (P Q : T → Type 0) → ((x : T) → P x → Q x) → IfOk r P → IfOk r Q
if_ok (Ok x) P Q f p = f x p
if_ok (Err e) P Q f p = p
