-- Ways to the end of the pattern are as long as the walks that fit.
use Rattle.std.proofs.Common.{◌≡◌, ℕ, ◌+◌, ◌≤◌, zero, suc, List, [], ◌∷◌, ◌++◌, length, drop, refl, arith, ap, sym, ◌∙◌, true, subst, append_assoc, length-append, length-drop}
use Rattle.std.specs.Prelude.{Some, flat_map, slice_get}
use Rattle.std.proofs.lemmas.List.{drop_all}
use Rattle.pg_value.specs.declared.shape.ElemId.{ElemId}
use Rattle.pg_meaning.specs.Walks.{Hop, last_vertex}
use Rattle.pg_meaning.specs.Fits.{RoundFits, join}
use Rattle.pg_auto.specs.Stages.{Stage}
use Rattle.pg_auto.specs.Counts.{may_enter, may_leave, next_of, Rest, RoundsLeft}
use Rattle.pg_auto.specs.States.{Task, Place, graph_in, stages_from}
use Rattle.pg_auto.specs.Ways.{first_place, end_place, place_left, place_entered, Way, stop, leave, enter, WaysAreWalks}
use Rattle.pg_auto.proofs.Steps.Fronts.{last_append}
use Rattle.pg_auto.proofs.Steps.{stage_here}

-- WALKS ARE WAYS

rounds_way : (t : Task) (q : Place) (stage : Stage) (n : ℕ) (rounds : List (List Hop)) (p : Place) → slice_get t.stages p.stage ≡ Some stage → RoundsLeft (graph_in t) stage p.done p.at rounds
    → Way t q (record { stage = p.stage + 1; done = 0; at = last_vertex p.at (join rounds) }) n → Way t q p (length (join rounds) + n)
rounds_way t q stage n [] p e l k = subst (λ m. Way t q p m) (omega arith) (leave p stage e l k)
rounds_way t q stage n (hops ∷ rounds) p e l k =
    subst (λ m. Way t q p m) (let a = length-append hops (join rounds) in omega arith)
    (enter p stage e l.0 hops l.1 (rounds_way t q stage n rounds (place_entered p stage hops) e l.2
    (subst (λ v. Way t q (record { stage = p.stage + 1; done = 0; at = v }) n) (last_append p.at hops (join rounds)) k)))

get_dropped : (xs : List Stage) (k : ℕ) (x : Stage) (ys : List Stage) → drop k xs ≡ x ∷ ys → slice_get xs k ≡ Some x
get_dropped [] zero x ys e = absurd (cc)
get_dropped [] (suc k) x ys e = absurd (cc)
get_dropped (z ∷ xs) zero x ys e = let same : z ≡ x = cc in ap Some same
get_dropped (z ∷ xs) (suc k) x ys e = get_dropped xs k x ys e

tail_is : (x y : Stage) (xs ys : List Stage) → x ∷ xs ≡ y ∷ ys → xs ≡ ys
tail_is x y xs ys e = cc

-- a walk through what is left is a way of its length
ways : (t : Task) (cuts : List (List (List Hop))) (ss : List Stage) (p : Place) → stages_from t p.stage ≡ ss → p.stage ≤ length t.stages → (ss ≡ [] → p.done ≡ 0) → Rest (graph_in t) ss p.done p.at cuts
    → Way t (end_place t (last_vertex p.at (flat_map join cuts))) p (length (flat_map join cuts))
ways t [] [] p e w z r =
    let a : p.stage ≡ length t.stages = (let k = ap length e in omega (arith, length-drop p.stage t.stages)) in
    subst (λ (x : Place). Way t (end_place t p.at) x 0) (λ i. record { stage = sym a i; done = sym (z refl) i; at = p.at }) stop
ways t (rounds ∷ cuts) [] p e w z r = absurd r
ways t [] (stage ∷ ss) p e w z r = absurd r
ways t (rounds ∷ cuts) (stage ∷ ss) p e w z r =
    let here = get_dropped t.stages p.stage stage ss e in
    let next : stages_from t (p.stage + 1) ≡ ss = sym (tail_is stage stage ss (stages_from t (p.stage + 1)) (sym e ∙ stage_here t.stages p.stage stage here)) in
    let l : p.stage + 1 ≤ length t.stages = (let k = ap length e in omega (arith, length-drop p.stage t.stages)) in
    let k = ways t cuts ss (record { stage = p.stage + 1; done = 0; at = last_vertex p.at (join rounds) }) next l (λ _. refl) r.1 in
    let way = rounds_way t (end_place t (last_vertex (last_vertex p.at (join rounds)) (flat_map join cuts))) stage (length (flat_map join cuts)) rounds p here r.0 k in
    subst (λ (m : ℕ). Way t (end_place t (last_vertex p.at (join rounds ++ flat_map join cuts))) p m) (sym (length-append (join rounds) (flat_map join cuts)))
    (subst (λ (v : ElemId). Way t (end_place t v) p (length (join rounds) + length (flat_map join cuts))) (sym (last_append p.at (join rounds) (flat_map join cuts))) way)

-- WAYS ARE WALKS

-- what a way makes
record Made (t : Task) (p q : Place) (n : ℕ) : Type 0 where
  cuts : List (List (List Hop))
  rest : Rest (graph_in t) (stages_from t p.stage) p.done p.at cuts
  long : length (flat_map join cuts) ≡ n
  ends : last_vertex p.at (flat_map join cuts) ≡ q.at

made_leave : (t : Task) (p q : Place) (n : ℕ) (stage : Stage) → slice_get t.stages p.stage ≡ Some stage → may_leave stage p.done ≡ true → Made t (place_left p) q n → Made t p q n
made_leave t p q n stage e l m = record {
  cuts = [] ∷ m.cuts;
  rest = subst (λ (ss : List Stage). Rest (graph_in t) ss p.done p.at ([] ∷ m.cuts)) (sym (stage_here t.stages p.stage stage e)) (l, m.rest);
  long = m.long;
  ends = m.ends;
}

made_enter : (t : Task) (p q : Place) (n : ℕ) (stage : Stage) → slice_get t.stages p.stage ≡ Some stage → may_enter stage p.done ≡ true → (hops : List Hop) → RoundFits (graph_in t) stage.round p.at hops
    → Made t (place_entered p stage hops) q n → Made t p q (length hops + n)
made_enter t p q n stage e may hops fits m =
    go m.cuts (subst (λ (ss : List Stage). Rest (graph_in t) ss (next_of stage p.done) (last_vertex p.at hops) m.cuts) (stage_here t.stages p.stage stage e) m.rest) m.long m.ends
  where
    go : (cuts : List (List (List Hop))) → Rest (graph_in t) (stage ∷ stages_from t (p.stage + 1)) (next_of stage p.done) (last_vertex p.at hops) cuts → length (flat_map join cuts) ≡ n
        → last_vertex (last_vertex p.at hops) (flat_map join cuts) ≡ q.at → Made t p q (length hops + n)
    go [] r l x = absurd r
    go (rounds ∷ cuts) r l x = record {
      cuts = (hops ∷ rounds) ∷ cuts;
      rest = subst (λ (ss : List Stage). Rest (graph_in t) ss p.done p.at ((hops ∷ rounds) ∷ cuts)) (sym (stage_here t.stages p.stage stage e))
          ((may, fits, r.0), subst (λ v. Rest (graph_in t) (stages_from t (p.stage + 1)) 0 v cuts) (sym (last_append p.at hops (join rounds))) r.1);
      long = ap length (append_assoc hops (join rounds) (flat_map join cuts)) ∙ length-append hops (join rounds ++ flat_map join cuts) ∙ ap (λ k. length hops + k) l;
      ends = ap (λ xs. last_vertex p.at xs) (append_assoc hops (join rounds) (flat_map join cuts)) ∙ last_append p.at hops (join rounds ++ flat_map join cuts) ∙ x;
    }

made : (t : Task) (q : Place) → q.stage ≡ length t.stages → (p : Place) (n : ℕ) → Way t q p n → Made t p q n
made t q s p n stop = record { cuts = []; rest = subst (λ (ss : List Stage). Rest (graph_in t) ss q.done q.at []) (sym (drop_all q.stage t.stages (omega arith))) tt; long = refl; ends = refl }
made t q s p n (leave {n = m} p' stage e l w) = made_leave t p q n stage e l (made t q s (place_left p) n w)
made t q s p n (enter {n = m} p' stage e may hops fits w) = made_enter t p q m stage e may hops fits (made t q s (place_entered p stage hops) m w)

none_here : (t : Task) → stages_from t 0 ≡ [] → (first_place t).done ≡ 0
none_here t e = refl

pub ways_are_walks : WaysAreWalks
ways_are_walks t v n = (
  λ w. let m = made t (end_place t v) refl (first_place t) n w in record { cuts = m.cuts; rest = m.rest; long = m.long; ends = m.ends },
  λ w. subst (λ (m : ℕ). Way t (end_place t v) (first_place t) m) w.long
      (subst (λ (u : ElemId). Way t (end_place t u) (first_place t) (length (flat_map join w.cuts))) w.ends (ways t w.cuts t.stages (first_place t) refl (omega arith) (none_here t) w.rest)),
)
