-- Runs as one run, a base under runs, and a snapshot of what the core hands out.
use Rattle.std.proofs.Common.{ℕ, zero, suc, ◌≡◌, ◌≤◌, ◌<◌, ◌+◌, ◌-◌, List, [], ◌∷◌, ◌++◌, length, map, get_or, take, drop, refl, ap, sym, subst, ◌∙◌, arith}
use Rattle.std.specs.Prelude.{slice_get, Result, Ok, Err, IfOk}
use Rattle.std.proofs.lemmas.Option.{same_Some}
use Rattle.std.proofs.lemmas.List.{append-nil, length-append}
use Rattle.std.specs.declared.option.Option.TheVariants.{Some, None}
use Rattle.pg_keyed.specs.Lists.{Each, each_map, each_append}
use Rattle.pg_value.specs.declared.shape.Shapes.{Shapes}
use Rattle.pg_value.specs.declared.write.Commit.{Commit}
use Rattle.pg_value.specs.Tables.{Tables, IsInOrder, FitTables, FitsStored}
use Rattle.pg_value.specs.TablesLaws.{put_in_order, put_after_put}
use Rattle.pg_value.specs.Writes as writes
use Rattle.pg_value.specs.Log.{put}
use Rattle.pg_core.specs.declared.parts.Parts.{Parts}
use Rattle.pg_core.specs.Versions as core
use Rattle.pg_core.specs.Versions.{CanFold, Chain, Extends, Follows, StandsFor, put_runs}
use Rattle.pg_run.specs.Runs.{RunOf}
use Rattle.pg_run.specs.Kept.{kept_run}
use Rattle.pg_snap.specs.Bases.{BaseOf}
use Rattle.pg_snap.specs.Snapshots.{SnapOf, Cover, laid, tables_of}
use Rattle.pg_snap.specs.Kept.{IsJoined, IsOfParts, IsVersionAt, begins_after, kept_base, oldest_first}

pub if_ok : {A E : Type 0} (r : Result A E) (P Q : A → Type 0) → ((a : A) → P a → Q a) → IfOk r P → IfOk r Q
if_ok (Ok a) P Q f h = f a h
if_ok (Err e) P Q f h = tt

pub no_item : {A : Type 0} {x : A} {xs : List A} → x ∷ xs ≡ [] → ⊥
no_item {A} {x} {xs} e = let l = ap length e in omega (arith, l)

pub none_left : {A : Type 0} (xs : List A) → length xs < 1 → xs ≡ []
none_left [] l = refl
none_left (x ∷ xs) l = absurd (omega (arith, l))

take_all : {A : Type 0} (xs : List A) (n : ℕ) → length xs ≤ n → take n xs ≡ xs
take_all [] zero l = refl
take_all [] (suc n) l = refl
take_all (x ∷ xs) zero l = absurd (omega (arith, l))
take_all (x ∷ xs) (suc n) l = ap (λ ys. x ∷ ys) (take_all xs n (omega (arith, l)))

-- all but the first
abbrev pub behind : {A : Type 0} → List A → List A
behind xs = take (length xs - 1) (drop 1 xs)

pub split_first : {A : Type 0} (xs : List A) (x : A) → 1 ≤ length xs → x ≡ get_or xs 0 x → xs ≡ x ∷ behind xs
split_first [] x l e = absurd (omega (arith, l))
split_first (y ∷ ys) x l e = ap (λ z. z ∷ ys) (sym e) ∙ ap (λ zs. x ∷ zs) (sym (take_all ys (length (y ∷ ys) - 1) (omega arith)))

-- SHAPES

same_lists : {A : Type 0} (xs ys : List A) → length xs ≡ length ys → ((n : ℕ) (x : A) → slice_get xs n ≡ Some x → slice_get ys n ≡ Some x) → xs ≡ ys
same_lists [] [] l h = refl
same_lists [] (y ∷ ys) l h = absurd (let e : zero ≡ suc (length ys) = l in omega (arith, e))
same_lists (x ∷ xs) [] l h = absurd (let e : suc (length xs) ≡ zero = l in omega (arith, e))
same_lists (x ∷ xs) (y ∷ ys) l h =
    let r = same_lists xs ys (let e : suc (length xs) ≡ suc (length ys) = l in omega (arith, e)) (λ n z e. h (suc n) z e) in
    let e = same_Some y x (h zero x refl) in
    λ i. sym e i ∷ r i

pub same_shapes : (old new : Shapes) → Extends old new → length old.tables ≡ length new.tables → length old.edges ≡ length new.edges → old ≡ new
same_shapes old new x t e =
    let ts = same_lists old.tables new.tables t x.tables in
    let es = same_lists old.edges new.edges e x.edges in
    λ i. record { tables = ts i; edges = es i }

pub fits_more : (old new : Shapes) (tables : Tables) → Extends old new → FitTables old tables → FitTables new tables
fits_more old new tables x f = record {
  in_order = f.in_order;
  each = each_map (FitsStored old) (FitsStored new) (λ s h. (h.0, x.tables s.table.0 h.0 h.1, h.2, h.3)) tables f.each;
}

-- RUNS

runs_in_order : (tables : Tables) (runs : List core.RunOf) → IsInOrder tables → IsInOrder (put_runs tables runs)
runs_in_order tables [] o = o
runs_in_order tables (r ∷ runs) o = put_in_order (put_runs tables runs) r.writes (runs_in_order tables runs o)

-- the newest two as one make what they make one after another
two_as_one : (r o : RunOf) (older : List core.RunOf) (tables : Tables) → IsInOrder tables → writes.IsInOrder r.writes → writes.IsInOrder o.writes
    → put_runs tables (kept_run r ∷ kept_run o ∷ older) ≡ put (put_runs tables older) (writes.merge o.writes r.writes)
two_as_one r o older tables h a b = put_after_put (put_runs tables older) o.writes r.writes (runs_in_order tables older h) b a

pub joined_two : (r o run : RunOf) → Follows (kept_run r) (kept_run o ∷ []) → writes.IsInOrder r.writes → writes.IsInOrder o.writes
    → run ≡ record { shapes = o.shapes; after = o.after; last = r.last; writes = writes.merge o.writes r.writes } → IsJoined (kept_run r) (kept_run o ∷ []) run
joined_two r o run f a b e = subst (λ x. IsJoined (kept_run r) (kept_run o ∷ []) x) (sym e) (record {
  made = f.0;
  from = refl;
  until = refl;
  says = λ tables h. sym (two_as_one r o [] tables h a b);
})

pub joined_more : (r o both run : RunOf) (older : List core.RunOf) → Follows (kept_run r) (kept_run o ∷ older) → writes.IsInOrder r.writes → writes.IsInOrder o.writes
    → both ≡ record { shapes = o.shapes; after = o.after; last = r.last; writes = writes.merge o.writes r.writes } → (older ≡ [] → ⊥) → IsJoined (kept_run both) older run → IsJoined (kept_run r) (kept_run o ∷ older) run
joined_more r o both run [] f a b e s j = absurd (s refl)
joined_more r o both run (x ∷ older) f a b e s j = record {
  made = j.made ∙ (ap (λ (y : RunOf). y.shapes) e ∙ f.0);
  from = j.from;
  until = j.until ∙ ap (λ (y : RunOf). y.last) e;
  says = λ tables h. j.says tables h ∙ (ap (λ (y : RunOf). put (put_runs tables (x ∷ older)) y.writes) e ∙ sym (two_as_one r o (x ∷ older) tables h a b));
}

-- where the others are one run already
pub joined_all : {E : Type 0} (r o both x y : RunOf) (older rest : List RunOf) → older ≡ x ∷ rest → Follows (kept_run r) (kept_run o ∷ map kept_run older) → writes.IsInOrder r.writes → writes.IsInOrder o.writes
    → both ≡ record { shapes = o.shapes; after = o.after; last = r.last; writes = writes.merge o.writes r.writes } → y ≡ x → (all : Result RunOf E)
    → IfOk all (IsJoined (kept_run both) (kept_run y ∷ map kept_run rest)) → IfOk all (IsJoined (kept_run r) (kept_run o ∷ map kept_run older))
joined_all r o both x y older rest s f a b e q all h =
    subst (λ (rs : List RunOf). IfOk all (IsJoined (kept_run r) (kept_run o ∷ map kept_run rs))) (sym s)
    (if_ok all (IsJoined (kept_run both) (kept_run y ∷ map kept_run rest)) (IsJoined (kept_run r) (kept_run o ∷ kept_run x ∷ map kept_run rest))
    (λ run j. joined_more r o both run (kept_run x ∷ map kept_run rest) (subst (λ (rs : List RunOf). Follows (kept_run r) (kept_run o ∷ map kept_run rs)) s f) a b e (λ n. no_item n)
    (subst (λ (z : RunOf). IsJoined (kept_run both) (kept_run z ∷ map kept_run rest) run) q j)) h)

pub both_follow : (r o both : RunOf) (older : List core.RunOf) → Follows (kept_run r) (kept_run o ∷ older)
    → both ≡ record { shapes = o.shapes; after = o.after; last = r.last; writes = writes.merge o.writes r.writes } → Follows (kept_run both) older
both_follow r o both [] f e = tt
both_follow r o both (x ∷ older) f e = (f.2.0 ∙ sym (ap (λ (y : RunOf). y.shapes) e), f.2.1 ∙ sym (ap (λ (y : RunOf). y.after) e), f.2.2)

-- A BASE UNDER RUNS

pub chain_follows : (shapes : Shapes) (from until : ℕ) (r : core.RunOf) (older : List core.RunOf) → Chain shapes from until (r ∷ older) → Follows r older
chain_follows shapes from until r [] c = tt
chain_follows shapes from until r (o ∷ older) c = (c.2.0 ∙ sym c.0, c.2.1, chain_follows shapes from r.after o older c.2)

pub chain_begins : (shapes : Shapes) (from until : ℕ) (r : core.RunOf) (older : List core.RunOf) → Chain shapes from until (r ∷ older) → begins_after r older ≡ from
chain_begins shapes from until r [] c = sym c.2
chain_begins shapes from until r (o ∷ older) c = chain_begins shapes from r.after o older c.2

-- under one run of them all
pub under_joined : {E : Type 0} (old : BaseOf) (run newest : RunOf) (older : List core.RunOf) → CanFold newest.last (kept_base old) (kept_run newest ∷ older) → IsJoined (kept_run newest) older run → (r : Result BaseOf E)
    → IfOk r (λ (base : BaseOf). base ≡ record { shapes = old.shapes; no = run.last; tables = put old.tables run.writes })
    → IfOk r (λ (base : BaseOf). base ≡ record { shapes = old.shapes; no = newest.last; tables = put_runs old.tables (kept_run newest ∷ older) })
under_joined old run newest older c j r h = if_ok r _ _ (λ base e. e ∙ (λ i. record {
  shapes = old.shapes;
  no = j.until i;
  tables = j.says old.tables c.fit.in_order i;
})) h

-- the newest first
pub fold_first : (at : ℕ) (b : core.BaseOf) (runs older : List RunOf) (newest : RunOf) → runs ≡ newest ∷ older → CanFold at b (map kept_run runs) → CanFold newest.last b (kept_run newest ∷ map kept_run older)
fold_first at b runs older newest e h =
    let k = subst (λ (rs : List RunOf). CanFold at b (map kept_run rs)) e h in
    subst (λ (n : ℕ). CanFold n b (kept_run newest ∷ map kept_run older)) (sym k.chain.1) k

pub fold_last : (at : ℕ) (b : core.BaseOf) (runs older : List RunOf) (newest : RunOf) → runs ≡ newest ∷ older → CanFold at b (map kept_run runs) → newest.last ≡ at
fold_last at b runs older newest e h = (subst (λ (rs : List RunOf). CanFold at b (map kept_run rs)) e h).chain.1

pub fold_none : (at : ℕ) (b : core.BaseOf) (runs : List RunOf) → runs ≡ [] → CanFold at b (map kept_run runs) → b.version ≡ at
fold_none at b runs e h = (subst (λ (rs : List RunOf). CanFold at b (map kept_run rs)) e h).chain

-- what is asked where the runs are to be one, the newest first
pub asks_joined : (at : ℕ) (b : core.BaseOf) (newest x y : RunOf) (older : List RunOf) → 1 ≤ length older → x ≡ get_or older 0 x → y ≡ x → CanFold at b (kept_run newest ∷ map kept_run older)
    → Follows (kept_run newest) (kept_run y ∷ map kept_run (behind older))
asks_joined at b newest x y older l e q h =
    let f = chain_follows b.shapes b.version at (kept_run newest) (map kept_run older) h.chain in
    subst (λ (z : RunOf). Follows (kept_run newest) (kept_run z ∷ map kept_run (behind older))) (sym q)
    (subst (λ (rs : List RunOf). Follows (kept_run newest) (map kept_run rs)) (split_first older x l e) f)

-- the run begins at the base
pub joined_follows : (at : ℕ) (b : core.BaseOf) (newest x y run : RunOf) (older : List RunOf) → 1 ≤ length older → x ≡ get_or older 0 x → y ≡ x → CanFold at b (kept_run newest ∷ map kept_run older)
    → IsJoined (kept_run newest) (kept_run y ∷ map kept_run (behind older)) run → run.after ≡ b.version
joined_follows at b newest x y run older l e q h j =
    j.from
    ∙ (ap (λ (z : RunOf). begins_after (kept_run newest) (kept_run z ∷ map kept_run (behind older))) q
    ∙ (sym (ap (λ (rs : List RunOf). begins_after (kept_run newest) (map kept_run rs)) (split_first older x l e))
    ∙ chain_begins b.shapes b.version at (kept_run newest) (map kept_run older) h.chain))

-- the base under that run
pub under_all : {E : Type 0} (old : BaseOf) (newest x y run : RunOf) (older : List RunOf) → 1 ≤ length older → x ≡ get_or older 0 x → y ≡ x → CanFold newest.last (kept_base old) (kept_run newest ∷ map kept_run older)
    → IsJoined (kept_run newest) (kept_run y ∷ map kept_run (behind older)) run → (r : Result BaseOf E)
    → IfOk r (λ (base : BaseOf). base ≡ record { shapes = old.shapes; no = run.last; tables = put old.tables run.writes })
    → IfOk r (λ (base : BaseOf). base ≡ record { shapes = old.shapes; no = newest.last; tables = put_runs old.tables (kept_run newest ∷ map kept_run older) })
under_all old newest x y run older l e q h j r k =
    under_joined old run newest (map kept_run older) h
    (subst (λ (rs : List RunOf). IsJoined (kept_run newest) (map kept_run rs) run) (sym (split_first older x l e)) (subst (λ (z : RunOf). IsJoined (kept_run newest) (kept_run z ∷ map kept_run (behind older)) run) q j)) r k

-- SNAPSHOTS

cover_append : (from mid to : ℕ) (a b : List RunOf) → Cover from a mid → Cover mid b to → Cover from (a ++ b) to
cover_append from mid to [] b c d = subst (λ n. Cover n b to) (sym c) d
cover_append from mid to (x ∷ a) b c d = (c.0, cover_append x.last mid to a b c.1 d)

laid_append : (tables : Tables) (a b : List RunOf) → laid tables (a ++ b) ≡ laid (laid tables a) b
laid_append tables [] b = refl
laid_append tables (x ∷ a) b = laid_append (put tables x.writes) a b

pub covered : (shapes : Shapes) (from until : ℕ) (runs : List RunOf) → Chain shapes from until (map kept_run runs) → Cover from (oldest_first runs) until
covered shapes from until [] c = c
covered shapes from until (r ∷ runs) c = cover_append from r.after until (oldest_first runs) (r ∷ []) (covered shapes from r.after runs c.2) (refl, c.1)

pub laid_runs : (tables : Tables) (runs : List RunOf) → laid tables (oldest_first runs) ≡ put_runs tables (map kept_run runs)
laid_runs tables [] = refl
laid_runs tables (r ∷ runs) = laid_append tables (oldest_first runs) (r ∷ []) ∙ ap (λ ts. put ts r.writes) (laid_runs tables runs)

pub for_shapes : (shapes : Shapes) (from until : ℕ) (runs : List RunOf) → Chain shapes from until (map kept_run runs) → Each (λ (run : RunOf). run.shapes ≡ shapes) (oldest_first runs)
for_shapes shapes from until [] c = tt
for_shapes shapes from until (r ∷ runs) c = each_append (λ (run : RunOf). run.shapes ≡ shapes) (oldest_first runs) (r ∷ []) (for_shapes shapes from r.after runs c.2) (c.0, tt)

module _ (p : Parts BaseOf RunOf) (none buf : List RunOf) (base : BaseOf) where
  made_for_all : none ≡ [] → buf ≡ none ++ oldest_first p.runs → buf ≡ oldest_first p.runs
  made_for_all n e = e ∙ ap (λ (rs : List RunOf). rs ++ oldest_first p.runs) n

  pub made_for : CanFold p.at (kept_base p.base) (map kept_run p.runs) → none ≡ [] → buf ≡ none ++ oldest_first p.runs → base ≡ p.base → Each (λ (run : RunOf). run.shapes ≡ base.shapes) buf
  made_for h n e b =
      subst (λ (x : BaseOf). Each (λ (run : RunOf). run.shapes ≡ x.shapes) buf) (sym b)
      (subst (λ (rs : List RunOf). Each (λ (run : RunOf). run.shapes ≡ p.base.shapes) rs) (sym (made_for_all n e)) (for_shapes p.base.shapes p.base.no p.at p.runs h.chain))

  pub covers : CanFold p.at (kept_base p.base) (map kept_run p.runs) → none ≡ [] → buf ≡ none ++ oldest_first p.runs → base ≡ p.base → Cover base.no buf p.at
  covers h n e b =
      subst (λ (x : BaseOf). Cover x.no buf p.at) (sym b)
      (subst (λ (rs : List RunOf). Cover p.base.no rs p.at) (sym (made_for_all n e)) (covered p.base.shapes p.base.no p.at p.runs h.chain))

  pub is_of_parts : (s : SnapOf) → none ≡ [] → buf ≡ none ++ oldest_first p.runs → base ≡ p.base → s ≡ record { base = base; runs = buf; own = None; at = p.at } → IsOfParts p s
  is_of_parts s n e b q =
      let all : s ≡ record { base = p.base; runs = oldest_first p.runs; own = None; at = p.at } = q ∙ (λ i. record { base = b i; runs = made_for_all n e i; own = None; at = p.at }) in
      record {
        base = ap (λ (x : SnapOf). x.base) all;
        version = ap (λ (x : SnapOf). x.at) all;
        own = ap (λ (x : SnapOf). x.own) all;
        tables = ap tables_of all ∙ (ap (laid p.base.tables) (append-nil (oldest_first p.runs)) ∙ laid_runs p.base.tables p.runs);
      }

pub version_of : (p : Parts BaseOf RunOf) (s : SnapOf) → IsOfParts p s → (shapes : Shapes) (log : List Commit) (at : ℕ) → StandsFor kept_base kept_run shapes log at p → IsVersionAt shapes log at s
version_of p s o shapes log at h = record {
  made = ap (λ (b : BaseOf). b.shapes) o.base ∙ h.same;
  version = o.version ∙ h.until;
  own = o.own;
  tables = o.tables ∙ h.tables;
}

length_oldest : (runs : List RunOf) → length (oldest_first runs) ≡ length runs
length_oldest [] = refl
length_oldest (r ∷ runs) = length-append (oldest_first runs) (r ∷ []) ∙ (let l = length_oldest runs in omega (arith, l))

pub room_left : (old buf runs : List RunOf) → 1 ≤ length runs → length old + length runs ≤ 9 → buf ≡ old ++ oldest_first (take (length runs - 1) (drop 1 runs)) → length buf < 9
room_left old buf [] l r e = absurd (omega (arith, l))
room_left old buf (x ∷ runs) l r e =
    let n = ap length e ∙ (length-append old (oldest_first (take (length (x ∷ runs) - 1) runs)) ∙ ap (λ m. length old + m) (length_oldest (take (length (x ∷ runs) - 1) runs) ∙ ap length (take_all runs (length (x ∷ runs) - 1) (omega arith)))) in
    omega (arith, n, r)
