-- Vertices with their edges: one more of them, and some put on others.
use Rattle.std.proofs.Common.{ℕ, zero, suc, ◌≡◌, ◌≤◌, ◌<◌, ◌+◌, List, [], ◌∷◌, length, Bool, true, false, cond, is_some, refl, ap, sym, subst, ◌∙◌, arith, add-one}
use Rattle.std.specs.Prelude.{not, get_or, take, Result, Ok, Err, OnOk}
use Rattle.std.proofs.lemmas.Option.{none-some, same_Some}
use Rattle.std.proofs.lemmas.List.{length-map}
use Rattle.std.proofs.Math.Seq.{take-suc}
use Rattle.std.specs.declared.option.Option.{Option}
use Rattle.std.specs.declared.option.Option.TheVariants.{Some, None}
use Rattle.std.specs.declared.cmp.Ordering.TheVariants.{Less, Equal}
use Rattle.std.specs.List.{filter}
use Rattle.pg_keyed.specs.Lists.{Each, each_among, each_of, each_map, each_append}
use Rattle.pg_keyed.specs.Keyed.{Ascends, Fits, get, over, put, merge, Sought}
use Rattle.pg_keyed.specs.Orders.{is_equal}
use Rattle.pg_keyed.specs.Reads.{get_here, get_key, get_among, among_get}
use Rattle.pg_keyed.specs.Searches.{some_within}
use Rattle.pg_keyed.specs.Puts.{put_rises, put_reads, put_each, merge_reads, merge_each, newer}
use Rattle.pg_value.specs.declared.value.Value.{Value}
use Rattle.pg_value.specs.declared.value.Dir.{Dir}
use Rattle.pg_value.specs.Order.{key_cmp}
use Rattle.pg_value.specs.Orders.{keys}
use Rattle.pg_adj.specs.declared.ends.EdgeEnds.{EdgeEnds}
use Rattle.pg_adj.specs.declared.group.Group.{Group}
use Rattle.pg_adj.specs.Groups.{AreGroups}
use Rattle.pg_adj.specs.Entries.{Entry, entry, is_at, entries_at}
use Rattle.pg_snap.specs.declared.vertex.Side.{Side}
use Rattle.pg_snap.specs.declared.vertex.Vertex.{Vertex}
use Rattle.pg_snap.specs.Under.{sides_of, side_of, zipped}
use Rattle.pg_snap.proofs.SideLaws.{zipped_is}
use Rattle.pg_snap.specs.Sides.{vertex_key, sides_in, sides_at, if_any, with_edges, with_edges_fits, AreSides}
use Rattle.pg_snap.specs.Folds.{Has, HasEnd, AreMore, AreAsMany, Gathered, IsGrouped}

pub on_ok : {X E : Type 0} (r : Result X E) (P Q : Type 0) → (P → Q) → OnOk r P → OnOk r Q
on_ok (Ok x) P Q f h = f h
on_ok (Err e) P Q f h = tt

-- ONE MORE

abbrev pub with_one : List Vertex → Vertex → List Vertex
with_one vs v = merge vertex_key key_cmp vs (v ∷ [])

reads_one : (k : List Value) (vs : List Vertex) (v : Vertex) → Ascends vertex_key key_cmp vs → get vertex_key key_cmp k (with_one vs v) ≡ newer vertex_key key_cmp keys (get vertex_key key_cmp k (v ∷ [])) (get vertex_key key_cmp k vs)
reads_one k vs v a = merge_reads vertex_key key_cmp keys k vs (v ∷ []) a (tt, tt)

has_still : (vs : List Vertex) (v : Vertex) (k : List Value) → Ascends vertex_key key_cmp vs → Has k vs → Has k (with_one vs v)
has_still vs v k a h = ap is_some (reads_one k vs v a) ∙ go (get vertex_key key_cmp k (v ∷ [])) (get vertex_key key_cmp k vs) h
  where
    go : (m o : Option Vertex) → is_some o ≡ true → is_some (newer vertex_key key_cmp keys m o) ≡ true
    go None o e = e
    go (Some w) o e = refl

pub has_one : (vs : List Vertex) (v : Vertex) → Ascends vertex_key key_cmp vs → Has (vertex_key v) (with_one vs v)
has_one vs v a = ap is_some (reads_one (vertex_key v) vs v a) ∙ ap (λ m. is_some (newer vertex_key key_cmp keys m (get vertex_key key_cmp (vertex_key v) vs))) (get_here vertex_key key_cmp keys v [])

pub one_more : (P : Vertex → Type 0) (vs new : List Vertex) (v : Vertex) → Ascends vertex_key key_cmp vs → P v → new ≡ with_one vs v → AreMore P vs new
one_more P vs new v a p e = subst (AreMore P vs) (sym e) (record {
  each = λ h. merge_each vertex_key key_cmp keys P vs (v ∷ []) h (p, tt);
  kept = λ k h. has_still vs v k a h;
})

pub no_more : (P : Vertex → Type 0) (vs new : List Vertex) → new ≡ vs → AreMore P vs new
no_more P vs new e = subst (AreMore P vs) (sym e) (record { each = λ h. h; kept = λ k h. h })

pub more_more : (P : Vertex → Type 0) (xs ys zs : List Vertex) → AreMore P xs ys → AreMore P ys zs → AreMore P xs zs
more_more P xs ys zs f g = record { each = λ h. g.each (f.each h); kept = λ k h. g.kept k (f.kept k h) }

pub end_kept : (P : Vertex → Type 0) (dir : Dir) (r : Option EdgeEnds) (vs new : List Vertex) → AreMore P vs new → HasEnd dir r vs → HasEnd dir r new
end_kept P dir None vs new m h = tt
end_kept P dir (Some e) vs new m h = m.kept (entry dir e).vertex.values h

-- one that is sought and found is there
pub has_found : (k : List Value) (vs : List Vertex) (i : ℕ) → Sought vertex_key key_cmp k vs (Ok i) → Has k vs
has_found k vs i s = go (get vertex_key key_cmp k vs) refl
  where
    go : (m : Option Vertex) → get vertex_key key_cmp k vs ≡ m → is_some m ≡ true
    go None e = absurd (some_within vs i s.1 (sym s.2 ∙ e))
    go (Some v) e = refl

-- ONE BY ONE

pub each_step : {X : Type 0} (P : X → Type 0) (xs : List X) (i : ℕ) (x : X) → i < length xs → x ≡ get_or xs i x → Each P (take i xs) → P x → Each P (take (i + 1) xs)
each_step P xs i x l e h p = rw add-one (subst (Each P) (sym (take-suc xs i x l)) (each_append P (take i xs) _ h (subst P e p, tt)))

pub take_all : {X : Type 0} (xs : List X) (i : ℕ) → length xs ≤ i → take i xs ≡ xs
take_all [] zero l = refl
take_all [] (suc i) l = refl
take_all (x ∷ xs) zero l = absurd (omega (arith, l))
take_all (x ∷ xs) (suc i) l = ap (λ ys. x ∷ ys) (take_all xs i (omega (arith, l)))

-- HOW MANY

module _ (dir : Dir) where
  abbrev at : List Value → List EdgeEnds → List Entry
  at k ends = entries_at dir k ends

  abbrev others : List Value → List EdgeEnds → List EdgeEnds
  others k ends = filter (λ e. not (is_at k (entry dir e))) ends

  count : (k : List Value) (ends : List EdgeEnds) → length (at k ends) + length (others k ends) ≡ length ends
  count k [] = refl
  count k (e ∷ ends) = go (is_at k (entry dir e)) (count k ends)
    where
      go : (b : Bool) → length (at k ends) + length (others k ends) ≡ length ends → length (cond b (entry dir e ∷ at k ends) (at k ends)) + length (cond (not b) (e ∷ others k ends) (others k ends)) ≡ suc (length ends)
      go true h = omega (arith, h)
      go false h = omega (arith, h)

  -- edges of another vertex
  apart : (j k : List Value) (ends : List EdgeEnds) → key_cmp j k ≡ Less → at k (others j ends) ≡ at k ends
  apart j k [] l = refl
  apart j k (e ∷ ends) l = go (is_at j (entry dir e)) refl (is_at k (entry dir e)) refl (apart j k ends l)
    where
      less_equal : Less ≡ Equal → ⊥
      less_equal h = cc

      both : is_at j (entry dir e) ≡ true → is_at k (entry dir e) ≡ true → ⊥
      both a b = less_equal (sym l ∙ ap (key_cmp j) (keys.exact k _ (is_equal _ b)) ∙ is_equal _ a)

      go : (a : Bool) → is_at j (entry dir e) ≡ a → (b : Bool) → is_at k (entry dir e) ≡ b → at k (others j ends) ≡ at k ends
          → at k (cond (not a) (e ∷ others j ends) (others j ends)) ≡ cond b (entry dir e ∷ at k ends) (at k ends)
      go true p true q h = absurd (both p q)
      go true p false q h = h
      go false p b q h = ap (λ c. cond c (entry dir e ∷ at k (others j ends)) (at k (others j ends))) q ∙ ap (λ xs. cond b (entry dir e ∷ xs) xs) h

  still : (j : List Value) (ends : List EdgeEnds) (v : Vertex) → key_cmp j (vertex_key v) ≡ Less → 0 < length (at (vertex_key v) ends) → 0 < length (at (vertex_key v) (others j ends))
  still j ends v l h = subst (λ (xs : List Entry). 0 < length xs) (sym (apart j (vertex_key v) ends l)) h

  all_still : (j : List Value) (ends : List EdgeEnds) (vs : List Vertex) → Each (λ v. key_cmp j (vertex_key v) ≡ Less) vs → Each (λ v. 0 < length (at (vertex_key v) ends)) vs → Each (λ v. 0 < length (at (vertex_key v) (others j ends))) vs
  all_still j ends [] l h = tt
  all_still j ends (v ∷ vs) l h = (still j ends v l.0 h.0, all_still j ends vs l.1 h.1)

  few_are : (vs : List Vertex) (ends : List EdgeEnds) → Ascends vertex_key key_cmp vs → Each (λ v. 0 < length (at (vertex_key v) ends)) vs → length vs ≤ length ends
  few_are [] ends a h = omega arith
  few_are (v ∷ vs) ends a h =
      let c = count (vertex_key v) ends in
      let f = few_are vs (others (vertex_key v) ends) a.1 (all_still (vertex_key v) ends vs a.0 h.1) in
      let g = h.0 in
      omega (arith, c, f, g)

  -- PUTS

  abbrev AreOf : List EdgeEnds → List Vertex → Type 0
  AreOf ends vs = Each (λ v. v.sides ≡ sides_of (at (vertex_key v) ends)) vs

  own : (ends : List EdgeEnds) (vs : List Vertex) → Ascends vertex_key key_cmp vs → ((k : List Value) → sides_at k vs ≡ sides_of (at k ends)) → AreOf ends vs
  own ends vs a h = each_of (λ v. v.sides ≡ sides_of (at (vertex_key v) ends)) vs (λ v m. sym (ap sides_in (among_get vertex_key key_cmp keys v vs a m)) ∙ h (vertex_key v))

  filled : (ends : List EdgeEnds) (vs : List Vertex) → AreOf ends vs → Each (λ v. 0 < length v.sides) vs → Each (λ v. 0 < length (at (vertex_key v) ends)) vs
  filled ends [] h f = tt
  filled ends (v ∷ vs) h f = (let m = length-map (at (vertex_key v) ends) side_of in let e = ap length h.0 in let g = f.0 in omega (arith, m, e, g), filled ends vs h.1 f.1)

  fit : (cs : List Vertex) → Fits vertex_key vertex_key with_edges key_cmp cs
  fit [] = tt
  fit (c ∷ cs) = (with_edges_fits c, fit cs)

  given : (cs : List Vertex) → Each (λ c. (x : Vertex) → with_edges c ≡ Some x → 0 < length x.sides) cs
  given [] = tt
  given (c ∷ cs) = ((λ x h. go c.sides refl x h), given cs)
    where
      go : (sides : List Side) → c.sides ≡ sides → (x : Vertex) → if_any sides c ≡ Some x → 0 < length x.sides
      go [] e x h = absurd (none-some x h)
      go (s ∷ sides) e x h = let l : length x.sides ≡ suc (length sides) = ap (λ (y : Vertex). length y.sides) (sym (same_Some c x h)) ∙ ap length e in omega (arith, l)

  shown : (c : Vertex) → sides_in (with_edges c) ≡ c.sides
  shown c = go c.sides refl
    where
      go : (sides : List Side) → c.sides ≡ sides → sides_in (if_any sides c) ≡ c.sides
      go [] e = sym e
      go (s ∷ sides) e = refl

  abbrev put_on : List Vertex → List Vertex → List Vertex
  put_on vs cs = put vertex_key vertex_key with_edges key_cmp vs cs

  -- vertices under others that have their edges among new ones, where those of all the rest are as they were
  pub put_sides : (ends new : List EdgeEnds) (vs cs : List Vertex) → AreSides dir ends vs → Ascends vertex_key key_cmp vs → Ascends vertex_key key_cmp cs → AreOf new cs
      → ((k : List Value) → get vertex_key key_cmp k cs ≡ None → sides_of (at k new) ≡ sides_of (at k ends)) → AreSides dir new (put_on vs cs)
  put_sides ends new vs cs h a b own_new same = record {
    full = full;
    few = few_are (put_on vs cs) new rises (filled new (put_on vs cs) (own new (put_on vs cs) rises reads) full);
    at = reads;
  }
    where
      rises : Ascends vertex_key key_cmp (put_on vs cs)
      rises = put_rises vertex_key vertex_key with_edges key_cmp keys vs cs a

      full : Each (λ v. 0 < length v.sides) (put_on vs cs)
      full = put_each vertex_key vertex_key with_edges key_cmp keys (λ v. 0 < length v.sides) vs cs h.full (given cs)

      go : (k : List Value) (m : Option Vertex) → get vertex_key key_cmp k cs ≡ m → sides_in (over with_edges m (get vertex_key key_cmp k vs)) ≡ sides_of (at k new)
      go k None e = h.at k ∙ sym (same k e)
      go k (Some c) e =
          shown c ∙ each_among (λ v. v.sides ≡ sides_of (at (vertex_key v) new)) c cs own_new (get_among vertex_key key_cmp keys k cs c e)
          ∙ ap (λ j. sides_of (at j new)) (sym (get_key vertex_key key_cmp keys k cs c e))

      reads : (k : List Value) → sides_at k (put_on vs cs) ≡ sides_of (at k new)
      reads k = ap sides_in (put_reads vertex_key vertex_key with_edges key_cmp keys k vs cs (fit cs) a b) ∙ go k (get vertex_key key_cmp k cs) refl

  -- NO VERTEX

  pub none_at : (k : List Value) (cs : List Vertex) (ends : List EdgeEnds) → get vertex_key key_cmp k cs ≡ None → Each (λ e. Has (entry dir e).vertex.values cs) ends → at k ends ≡ []
  none_at k cs [] n h = refl
  none_at k cs (e ∷ ends) n h = go (is_at k (entry dir e)) refl (none_at k cs ends n h.1)
    where
      false_true : false ≡ true → ⊥
      false_true q = cc

      go : (b : Bool) → is_at k (entry dir e) ≡ b → at k ends ≡ [] → cond b (entry dir e ∷ at k ends) (at k ends) ≡ []
      go true q r = absurd (false_true (sym (ap is_some (sym (ap (λ j. get vertex_key key_cmp j cs) (keys.exact k _ (is_equal _ q))) ∙ n)) ∙ h.0))
      go false q r = r

  pub nothing_there : AreSides dir [] []
  nothing_there = record { full = tt; few = omega arith; at = λ k. refl }

-- GROUPS

pub gathered_more : (dir : Dir) (groups : List Group) (ends : List EdgeEnds) (i : ℕ) (e : EdgeEnds) (vs new : List Vertex) → i < length ends → e ≡ get_or ends i e → Gathered dir groups (take i ends) vs
    → AreMore (IsGrouped groups) vs new → Has (entry dir e).vertex.values new → Gathered dir groups (take (i + 1) ends) new
gathered_more dir groups ends i e vs new l q h m k = record {
  each = m.each h.each;
  there = each_step (λ (x : EdgeEnds). Has (entry dir x).vertex.values new) ends i e l q (each_map (λ x. Has (entry dir x).vertex.values vs) (λ x. Has (entry dir x).vertex.values new) (λ x. m.kept (entry dir x).vertex.values) (take i ends) h.there) k;
}

pub gathered_all : (dir : Dir) (groups : List Group) (ends : List EdgeEnds) (vs : List Vertex) → AreGroups dir ends groups → Gathered dir groups ends vs → Ascends vertex_key key_cmp vs
    → AreSides dir ends (put vertex_key vertex_key with_edges key_cmp [] vs)
gathered_all dir groups ends vs g h a =
    put_sides dir [] ends [] vs (nothing_there dir) tt a
    (each_map (IsGrouped groups) (λ v. v.sides ≡ sides_of (entries_at dir (vertex_key v) ends)) (λ v e. e ∙ (λ j. zipped (g.edges (vertex_key v) j) (g.others (vertex_key v) j)) ∙ zipped_is (entries_at dir (vertex_key v) ends)) vs h.each)
    (λ k n. ap sides_of (none_at dir k vs ends n h.there))

pub as_many : (dir : Dir) (groups : List Group) (ends : List EdgeEnds) → AreGroups dir ends groups → AreAsMany groups
as_many dir groups ends g k =
    ap length (g.edges k) ∙ length-map (entries_at dir k ends) (λ x. x.edge) ∙ sym (length-map (entries_at dir k ends) (λ x. x.other)) ∙ sym (ap length (g.others k))
