-- A fold of an edge table: the vertices whose edges a run changes, put on those that were.
use Rattle.std.proofs.Common.{ℕ, ◌≡◌, ◌≤◌, ◌<◌, ◌+◌, length, take, get_or, List, Bool, true, false, cond, is_some, refl, ap, sym, subst, ◌∙◌}
use Rattle.std.specs.declared.option.Option.{Option}
use Rattle.std.specs.declared.option.Option.TheVariants.{Some, None}
use Rattle.std.specs.List.{filter_map}
use Rattle.pg_keyed.specs.Lists.{Each, each_among, each_map}
use Rattle.pg_keyed.specs.Keyed.{Ascends, get, over, put}
use Rattle.pg_keyed.specs.Orders.{is_equal}
use Rattle.pg_keyed.specs.Reads.{alike, get_among, get_key}
use Rattle.pg_keyed.specs.Puts.{put_rises, put_reads}
use Rattle.pg_value.specs.declared.value.Value.{Value}
use Rattle.pg_value.specs.declared.value.Dir.{Dir}
use Rattle.pg_value.specs.declared.shape.EdgeShape.{EdgeShape}
use Rattle.pg_value.specs.declared.write.Write.{Write}
use Rattle.pg_value.specs.Order.{key_cmp}
use Rattle.pg_value.specs.Orders.{keys}
use Rattle.pg_value.specs.Tables.{Stored, IsInOrder, held_in}
use Rattle.pg_value.specs.TablesLaws.{key_of, key_named, key_fits, writes_to, stored_in, put_in, held_ascends, writes_ascend, held_put_in}
use Rattle.pg_value.specs.Writes as writes
use Rattle.pg_value.specs.Log.{row_given}
use Rattle.pg_value.specs.Log as log
use Rattle.pg_adj.specs.declared.ends.EdgeEnds.{EdgeEnds}
use Rattle.pg_adj.specs.Entries.{entry, is_at, entries_at}
use Rattle.pg_view.specs.Lists.{Hold, joined}
use Rattle.pg_run.specs.Cuts.{ends_if, write_ends}
use Rattle.pg_snap.specs.declared.vertex.Vertex.{Vertex}
use Rattle.pg_snap.specs.declared.fold.Fold.{Fold}
use Rattle.pg_snap.specs.Bases.{ends_held}
use Rattle.pg_snap.specs.Under.{sides_of, side_of, side_key, under_run}
use Rattle.pg_snap.specs.Sides.{vertex_key, with_edges, AreSides}
use Rattle.pg_snap.specs.Folds.{HasEnd, HasBoth, HasShape, IsNew, AreMore, old_ends}
use Rattle.pg_snap.proofs.GivenLaws.{through, given_ascends, given_reads}
use Rattle.pg_snap.proofs.SideLaws.{at_side, side_in, side_keyed, sides_are, under_is}
use Rattle.pg_snap.proofs.VertexLaws.{put_sides, end_kept, each_step, take_all}

false_true : false ≡ true → ⊥
false_true h = cc

-- an edge whose vertex is another
apart : (dir : Dir) (k : List Value) (cs : List Vertex) (r : Option EdgeEnds) → get vertex_key key_cmp k cs ≡ None → HasEnd dir r cs → at_side dir k r ≡ None
apart dir k cs None n h = refl
apart dir k cs (Some e) n h = go (is_at k (entry dir e)) refl
  where
    go : (b : Bool) → is_at k (entry dir e) ≡ b → cond b (Some (side_of (entry dir e))) None ≡ None
    go true q = absurd (false_true (sym (ap is_some (sym (ap (λ j. get vertex_key key_cmp j cs) (keys.exact k _ (is_equal _ q))) ∙ n)) ∙ h))
    go false q = refl

module _ (shape : EdgeShape) (dir : Dir) (k : List Value) (cs : List Vertex) (n : get vertex_key key_cmp k cs ≡ None) where
  abbrev HasEnds : List Stored → Write → Type 0
  HasEnds held w = HasEnd dir (ends_if shape (stored_in w.key.values held)) cs × HasEnd dir (write_ends shape w) cs

  through_ends : (r : Option Stored) → through (side_in shape dir k) r ≡ at_side dir k (ends_if shape r)
  through_ends None = refl
  through_ends (Some s) = refl

  -- the edges of a vertex that no write touches
  untouched : (held : List Stored) (ws : List Write) → Ascends key_of key_cmp held → Ascends key_named key_cmp ws → Each (HasEnds held) ws → filter_map (side_in shape dir k) (put_in held ws) ≡ filter_map (side_in shape dir k) held
  untouched held ws a b h =
      let f = side_in shape dir k in
      let rises = put_rises key_of key_named row_given key_cmp keys held ws a in
      alike side_key key_cmp keys _ _ (given_ascends key_of side_key key_cmp keys f (side_keyed shape dir k) _ rises) (given_ascends key_of side_key key_cmp keys f (side_keyed shape dir k) _ a)
      (λ j. given_reads key_of side_key key_cmp keys f (side_keyed shape dir k) j _ rises
      ∙ ap (through f) (put_reads key_of key_named row_given key_cmp keys j held ws (key_fits ws) a b)
      ∙ go j (get key_named key_cmp j ws) refl
      ∙ sym (given_reads key_of side_key key_cmp keys f (side_keyed shape dir k) j _ a))
    where
      go : (j : List Value) (m : Option Write) → get key_named key_cmp j ws ≡ m → through (side_in shape dir k) (over row_given m (get key_of key_cmp j held)) ≡ through (side_in shape dir k) (get key_of key_cmp j held)
      go j None e = refl
      go j (Some w) e =
          let p = each_among (HasEnds held) w ws h (get_among key_named key_cmp keys j ws w e) in
          through_ends (row_given w) ∙ apart dir k cs (write_ends shape w) n p.1
          ∙ sym (through_ends (get key_of key_cmp j held) ∙ ap (λ i. at_side dir k (ends_if shape (get key_of key_cmp i held))) (get_key key_named key_cmp keys j ws w e) ∙ apart dir k cs (ends_if shape (stored_in w.key.values held)) n p.0)

-- the edges by the vertices at an end, under a run
pub folded : (f : Fold) (touched : List Vertex) → HasShape f → Hold f.rows.now (joined f.rows.now) → IsInOrder (joined f.rows.now) → writes.IsInOrder f.run.now.writes
    → Ascends vertex_key key_cmp f.old.now → AreSides f.dir (ends_held (joined f.rows.now) f.shape.now) f.old.now
    → Ascends vertex_key key_cmp touched → Each (IsNew f) touched → Each (HasBoth f touched) (writes_to f.shape.now.table f.run.now.writes)
    → AreSides f.dir (ends_held (log.put (joined f.rows.now) f.run.now.writes) f.shape.now) (put vertex_key vertex_key with_edges key_cmp f.old.now touched)
folded f touched hs hold order worder a sides b new both =
    let tables = joined f.rows.now in
    let held = held_in f.shape.now.table tables in
    let ws = writes_to f.shape.now.table f.run.now.writes in
    let ends = ends_held tables f.shape.now in
    let ends' = ends_held (log.put tables f.run.now.writes) f.shape.now in
    put_sides f.dir ends ends' f.old.now touched sides a b
    (each_map (IsNew f) (λ v. v.sides ≡ sides_of (entries_at f.dir (vertex_key v) ends')) (λ v e. e ∙ ap (λ xs. under_run f.edge f.dir (vertex_key v) f.shape.now.table xs f.run.now) (sides.at (vertex_key v)) ∙ under_is f.shape.now f.edge f.dir (vertex_key v) tables f.run.now order worder hs) touched new)
    (λ k n. sides_are f.shape.now f.dir k (held_in f.shape.now.table (log.put tables f.run.now.writes))
    ∙ ap (filter_map (side_in f.shape.now f.dir k)) (held_put_in f.shape.now.table tables f.run.now.writes order worder)
    ∙ untouched f.shape.now f.dir k touched n held ws (held_ascends f.shape.now.table tables order) (writes_ascend f.shape.now.table f.run.now.writes worder)
    (each_map (HasBoth f touched) (HasEnds f.shape.now f.dir k touched n held) (λ w h. (subst (λ rows. HasEnd f.dir (ends_if f.shape.now (stored_in w.key.values rows)) touched) (sym (hold f.shape.now.table)) h.0, h.1)) ws both)
    ∙ sym (sides_are f.shape.now f.dir k held))

-- the vertices of some writes
pub record Touched (f : Fold) (ws : List Write) (touched : List Vertex) : Type 0 where
  pub new : Each (IsNew f) touched
  pub both : Each (HasBoth f touched) ws

pub touched_more : (f : Fold) (ws : List Write) (i : ℕ) (w : Write) (old new : List Vertex) → i < length ws → w ≡ get_or ws i w → Touched f (take i ws) old → AreMore (IsNew f) old new → HasBoth f new w → Touched f (take (i + 1) ws) new
touched_more f ws i w old new l e h m b = record {
  new = m.each h.new;
  both = each_step (HasBoth f new) ws i w l e (each_map (HasBoth f old) (HasBoth f new) (λ x p. (end_kept (IsNew f) f.dir (old_ends f x) old new m p.0, end_kept (IsNew f) f.dir (write_ends f.shape.now x) old new m p.1)) (take i ws) h.both) b;
}

pub touched_all : (f : Fold) (ws : List Write) (i : ℕ) (touched : List Vertex) → length ws ≤ i → Touched f (take i ws) touched → Each (HasBoth f touched) ws
touched_all f ws i touched l h = subst (Each (HasBoth f touched)) (take_all ws i l) h.both
