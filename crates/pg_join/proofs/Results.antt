-- The rows of the joined tuples that the final condition keeps are the answer.
use Rattle.std.proofs.Common.{◌≡◌, ℕ, suc, Bool, true, false, cond, List, [], ◌∷◌, ◌++◌, map, length, Contains, ◌⊎◌, inl, inr, refl, ap, sym, ◌∙◌, subst}
use Rattle.std.specs.Prelude.{Option, Some, None, filter, flat_map, IsPermutation}
use Rattle.std.specs.List.{AllZip}
use Rattle.pg_keyed.specs.Lists.{Each}
use Rattle.pg_value.specs.declared.value.Truth.{Truth}
use Rattle.pg_value.specs.declared.value.Truth.TheVariants.{True, False, Unknown}
use Rattle.pg_value.specs.declared.row.Row.{Row}
use Rattle.pg_value.specs.declared.shape.GraphShape.{GraphShape}
use Rattle.pg_value.specs.declared.shape.Shapes.{Shapes}
use Rattle.pg_value.specs.Tables.{Tables}
use Rattle.pg_meaning.specs.declared.checked.CExpr.{CExpr}
use Rattle.pg_meaning.specs.declared.checked.CheckedPath.{CheckedPath}
use Rattle.pg_meaning.specs.declared.checked.CheckedQuery.{CheckedQuery}
use Rattle.pg_meaning.specs.declared.checked.PathBinding.{PathBinding}
use Rattle.pg_meaning.specs.CExprs.{ctree_of}
use Rattle.pg_meaning.specs.Meaning.{Assignment, Scope, OfVars, Meets, truth_of, value_of}
use Rattle.pg_meaning.specs.Walks.{graph_of}
use Rattle.pg_meaning.specs.Fits.{lists_of as lists_by}
use Rattle.pg_meaning.specs.Bindings.{Binding, Distinct, IsBinding, Selected, path_binding}
use Rattle.pg_meaning.specs.Answers.{Answer, Joins, ListsAgree, VarList, lists_with, lists_in, assigned, row_of as answer_row}
use Rattle.pg_meaning.specs.Members.{in_nil, in_here, in_there, in_cons, in_map, from_map, in_filter, distinct_under, distinct_map}
use Rattle.pg_meaning.specs.Sound.Patterns.{IsSoundPath}
use Rattle.pg_meaning.specs.Sound.Queries.{IsSoundQuery}
use Rattle.pg_join.specs.Joining.{IsOf, AreOf, AreJoined}
use Rattle.pg_join.specs.Rows.{IsTuple, scope_of, is_true, meets, row_of, rows_of}
use Rattle.pg_join.specs.Selecting.{IsKept}
use Rattle.pg_join.proofs.Preimages.{image_of}
use Rattle.pg_join.proofs.Variables.{lists_are}

true_false : true ≡ false → ⊥
true_false h = cc

abbrev Injective : Type 0
Injective = (a b : Binding) → path_binding a ≡ path_binding b → a ≡ b

-- WHAT IS KEPT

-- equal variables of a binding have equal lists
with_lists : (f : Assignment) (vars : List ℕ) (a : VarList) → Contains (lists_with vars (map f vars)) a → a.elems ≡ f a.var
with_lists f [] a c = absurd (in_nil a c)
with_lists f (x ∷ vars) a c = elim (in_cons (record { var = x; elems = f x }) (lists_with vars (map f vars)) a c) [
  | inl e ↦ subst (λ (z : VarList). z.elems ≡ f z.var) e refl
  | inr r ↦ with_lists f vars a r
]

length_map : {X Y : Type 0} (f : X → Y) (xs : List X) → length (map f xs) ≡ length xs
length_map f [] = refl
length_map f (x ∷ xs) = ap suc (length_map f xs)

of_binding : (p : CheckedPath) (b : PathBinding) (f : Assignment) → b.vars ≡ map f p.vars → IsOf p b
of_binding p b f e = record {
  long = ap length e ∙ length_map f p.vars;
  agree = λ a c i j s.
      let k = with_lists f p.vars a (subst (λ ls. Contains (lists_with p.vars ls) a) e i) in
      let l = with_lists f p.vars c (subst (λ ls. Contains (lists_with p.vars ls) c) e j) in
      k ∙ ap f s ∙ sym l;
}

module _ (shapes : Shapes) (tables : Tables) (inj : Injective) where
  are_of : (p : CheckedPath) (ks : List PathBinding) → IsKept shapes tables p ks → AreOf p ks
  are_of p ks k = record {
    distinct = subst Distinct (sym k.given) (distinct_map path_binding inj k.bindings k.selected.distinct);
    each = λ b c.
        let m = from_map path_binding k.bindings b (subst (λ bs. Contains bs b) k.given c) in
        let s = (k.selected.allowed m.0 m.1).binding in
        subst (IsOf p) m.2 (of_binding p (path_binding m.0) (lists_by p.parts m.0.start s.cuts) s.vars);
  }

  pub all_of_each : (paths : List CheckedPath) (kept : List (List PathBinding)) → AllZip (IsKept shapes tables) paths kept → AllZip AreOf paths kept
  all_of_each [] [] z = tt
  all_of_each [] (k ∷ kept) z = absurd z
  all_of_each (p ∷ paths) [] z = absurd z
  all_of_each (p ∷ paths) (k ∷ kept) z = (are_of p k z.0, all_of_each paths kept z.1)

  -- the bindings that are kept
  record Kept (g : GraphShape) (paths : List CheckedPath) (kept : List (List PathBinding)) (lists : List (List Binding)) : Type 0 where
    given : kept ≡ map (map path_binding) lists
    selected : AllZip (λ p bindings. Selected (graph_of shapes g tables) p bindings) paths lists

  bindings_of : (g : GraphShape) (paths : List CheckedPath) (kept : List (List PathBinding)) → Each (λ p. (p.graph ≡ g) × IsSoundPath shapes p) paths → AllZip (IsKept shapes tables) paths kept
      → (lists : List (List Binding)) × Kept g paths kept lists
  bindings_of g [] [] s z = ([], record { given = refl; selected = tt })
  bindings_of g [] (k ∷ kept) s z = absurd z
  bindings_of g (p ∷ paths) [] s z = absurd z
  bindings_of g (p ∷ paths) (k ∷ kept) s z =
      let r = bindings_of g paths kept s.1 z.1 in (
        z.0.bindings ∷ r.0,
        record {
          given = λ i. z.0.given i ∷ r.1.given i;
          selected = (subst (λ h. Selected (graph_of shapes h tables) p z.0.bindings) s.0.0 z.0.selected, r.1.selected);
        },
      )

-- TUPLES

abbrev paths_of : List Binding → List PathBinding
paths_of u = map path_binding u

map_injective : {X Y : Type 0} (f : X → Y) → ((a b : X) → f a ≡ f b → a ≡ b) → (xs ys : List X) → map f xs ≡ map f ys → xs ≡ ys
map_injective f inj [] [] e = refl
map_injective f inj [] (y ∷ ys) e = absurd (no_nil e)
  where
    no_nil : [] ≡ f y ∷ map f ys → ⊥
    no_nil h = cc
map_injective f inj (x ∷ xs) [] e = absurd (no_cons e)
  where
    no_cons : f x ∷ map f xs ≡ [] → ⊥
    no_cons h = cc
map_injective f inj (x ∷ xs) (y ∷ ys) e =
    let h : f x ≡ f y = cc in
    let t : map f xs ≡ map f ys = cc in
    λ i. inj x y h i ∷ map_injective f inj xs ys t i

-- a tuple of what is kept
member_of : (lists : List (List Binding)) (t : List PathBinding) → AllZip (λ bindings b. Contains bindings b) (map (map path_binding) lists) t
    → (u : List Binding) × (t ≡ paths_of u) × AllZip (λ bindings b. Contains bindings b) lists u
member_of [] [] z = ([], refl, tt)
member_of [] (b ∷ t) z = absurd z
member_of (bs ∷ lists) [] z = absurd z
member_of (bs ∷ lists) (b ∷ t) z =
    let m = from_map path_binding bs b z.0 in
    let r = member_of lists t z.1 in
    (m.0 ∷ r.0, λ i. sym m.2 i ∷ r.1 i, (m.1, r.2))

to_members : (lists : List (List Binding)) (u : List Binding) → AllZip (λ bindings b. Contains bindings b) lists u → AllZip (λ bindings b. Contains bindings b) (map (map path_binding) lists) (paths_of u)
to_members [] [] z = tt
to_members [] (b ∷ u) z = absurd z
to_members (bs ∷ lists) [] z = absurd z
to_members (bs ∷ lists) (b ∷ u) z = (in_map path_binding bs b z.0, to_members lists u z.1)

from_members : Injective → (lists : List (List Binding)) (u : List Binding) → AllZip (λ bindings b. Contains bindings b) (map (map path_binding) lists) (paths_of u) → AllZip (λ bindings b. Contains bindings b) lists u
from_members inj [] [] z = tt
from_members inj [] (b ∷ u) z = absurd z
from_members inj (bs ∷ lists) [] z = absurd z
from_members inj (bs ∷ lists) (b ∷ u) z = (image_of path_binding inj bs b z.0, from_members inj lists u z.1)

fitting : (shapes : Shapes) (tables : Tables) (g : GraphShape) (paths : List CheckedPath) (lists : List (List Binding)) (u : List Binding) → AllZip (λ p bindings. Selected (graph_of shapes g tables) p bindings) paths lists
    → AllZip (λ bindings b. Contains bindings b) lists u → AllZip (λ p b. IsBinding (graph_of shapes g tables) p b) paths u
fitting shapes tables g [] [] [] s z = tt
fitting shapes tables g [] [] (b ∷ u) s z = absurd z
fitting shapes tables g [] (l ∷ lists) u s z = absurd s
fitting shapes tables g (p ∷ paths) [] u s z = absurd s
fitting shapes tables g (p ∷ paths) (l ∷ lists) [] s z = absurd z
fitting shapes tables g (p ∷ paths) (l ∷ lists) (b ∷ u) s z = ((s.0.allowed b z.0).binding, fitting shapes tables g paths lists u s.1 z.1)

-- THE FINAL CONDITION

meets_so : (c : Option CExpr) (scope : Scope) → meets c scope ≡ true → Meets c scope
meets_so None scope h = tt
meets_so (Some c) scope h = go (truth_of (ctree_of c) scope) h
  where
    go : (t : Truth) → is_true t ≡ true → t ≡ True
    go True e = refl
    go False e = absurd (true_false (sym e))
    go Unknown e = absurd (true_false (sym e))

so_meets : (c : Option CExpr) (scope : Scope) → Meets c scope → meets c scope ≡ true
so_meets None scope h = refl
so_meets (Some c) scope h = ap is_true h

kept_in : {X : Type 0} (test : X → Bool) (xs : List X) (x : X) → Contains xs x → test x ≡ true → Contains (filter test xs) x
kept_in test [] x c t = absurd (in_nil x c)
kept_in test (y ∷ ys) x c t = go (test y) refl (in_cons y ys x c) (λ r. kept_in test ys x r t)
  where
    go : (b : Bool) → test y ≡ b → (y ≡ x) ⊎ Contains ys x → (Contains ys x → Contains (filter test ys) x) → Contains (cond b (y ∷ filter test ys) (filter test ys)) x
    go true e (inl s) again = in_here y (filter test ys) x s
    go true e (inr r) again = in_there y (filter test ys) x (again r)
    go false e (inl s) again = absurd (true_false (sym t ∙ ap test (sym s) ∙ e))
    go false e (inr r) again = again r

distinct_kept : {X : Type 0} (test : X → Bool) (xs : List X) → Distinct xs → Distinct (filter test xs)
distinct_kept test [] d = tt
distinct_kept test (y ∷ ys) d = go (test y) (distinct_kept test ys d.1)
  where
    go : (b : Bool) → Distinct (filter test ys) → Distinct (cond b (y ∷ filter test ys) (filter test ys))
    go true r = (λ c. d.0 (in_filter test ys y c).0, r)
    go false r = r

-- THE ANSWER

module _ (shapes : Shapes) (tables : Tables) (q : CheckedQuery) where
  abbrev keeps : List PathBinding → Bool
  keeps t = meets q.cond (scope_of tables q t)

  rows_kept : (ts : List (List PathBinding)) → flat_map (rows_of tables q) ts ≡ map (row_of tables q) (filter keeps ts)
  rows_kept [] = refl
  rows_kept (t ∷ ts) = go (keeps t) (rows_kept ts)
    where
      go : (b : Bool) → flat_map (rows_of tables q) ts ≡ map (row_of tables q) (filter keeps ts)
          → cond b (row_of tables q t ∷ []) [] ++ flat_map (rows_of tables q) ts ≡ map (row_of tables q) (cond b (t ∷ filter keeps ts) (filter keeps ts))
      go true r = ap (λ rs. row_of tables q t ∷ rs) r
      go false r = r

  same_scope : (u : List Binding) → scope_of tables q (paths_of u) ≡ OfVars tables (assigned (lists_in q.paths u))
  same_scope u = ap (λ ls. OfVars tables (assigned ls)) (lists_are q.paths u)

  same_row : (u : List Binding) → row_of tables q (paths_of u) ≡ answer_row tables q u
  same_row u = λ i. record { values = map (λ c. value_of (ctree_of c.expr) (OfVars tables (assigned (lists_are q.paths u i)))) q.columns }

  same_rows : (us : List (List Binding)) → map (row_of tables q) (map paths_of us) ≡ map (answer_row tables q) us
  same_rows [] = refl
  same_rows (u ∷ us) = λ i. same_row u i ∷ same_rows us i

  module _ (inj : Injective) (kept : List (List PathBinding)) (lists : List (List Binding)) (given : kept ≡ map (map path_binding) lists) (tuples : List (List PathBinding)) (joined : AreJoined q.paths kept tuples) where
    zips : (t : List PathBinding) → Contains tuples t → AllZip (λ bindings b. Contains bindings b) (map (map path_binding) lists) t
    zips t c = subst (λ ks. AllZip (λ bindings b. Contains bindings b) ks t) given ((joined.exactly t).0 c).0

    -- the joined tuples, by their bindings
    members : (ts : List (List PathBinding)) → ((t : List PathBinding) → Contains ts t → Contains tuples t) → (us : List (List Binding)) × (ts ≡ map paths_of us)
    members [] h = ([], refl)
    members (t ∷ ts) h =
        let m = member_of lists t (zips t (h t (in_here t ts t refl))) in
        let r = members ts (λ x c. h x (in_there t ts x c)) in
        (m.0 ∷ r.0, λ i. m.1 i ∷ r.1 i)

    tuples_injective : (u w : List Binding) → paths_of u ≡ paths_of w → u ≡ w
    tuples_injective u w e = map_injective path_binding inj u w e

    pub answered : (rows : List Row) → AllZip (λ p bindings. Selected (graph_of shapes q.graph tables) p bindings) q.paths lists → IsPermutation (flat_map (rows_of tables q) tuples) rows → Answer shapes tables q rows
    answered rows selected listed =
        let m = members (filter keeps tuples) (λ t c. (in_filter keeps tuples t c).0) in
        record {
          kept = lists;
          selected = selected;
          joined = m.0;
          distinct = distinct_under paths_of m.0 (subst Distinct m.1 (distinct_kept keeps tuples joined.distinct));
          exactly = λ u. (
            λ c. into u (subst (λ ts. Contains ts (paths_of u)) (sym m.1) (in_map paths_of m.0 u c)),
            λ j. image_of paths_of tuples_injective m.0 u (subst (λ ts. Contains ts (paths_of u)) m.1 (out u j)),
          );
          listed = subst (λ rs. IsPermutation rs rows) (rows_kept tuples ∙ ap (map (row_of tables q)) m.1 ∙ same_rows m.0) listed;
        }
      where
        into : (u : List Binding) → Contains (filter keeps tuples) (paths_of u) → Joins tables q lists u
        into u c =
            let f = in_filter keeps tuples (paths_of u) c in
            record {
              members = from_members inj lists u (zips (paths_of u) f.0);
              agree = subst ListsAgree (lists_are q.paths u) ((joined.exactly (paths_of u)).0 f.0).1;
              where_true = subst (Meets q.cond) (same_scope u) (meets_so q.cond (scope_of tables q (paths_of u)) f.1);
            }

        out : (u : List Binding) → Joins tables q lists u → Contains (filter keeps tuples) (paths_of u)
        out u j =
            let z = subst (λ ks. AllZip (λ bindings b. Contains bindings b) ks (paths_of u)) (sym given) (to_members lists u j.members) in
            let c = (joined.exactly (paths_of u)).1 (z, subst ListsAgree (sym (lists_are q.paths u)) j.agree) in
            kept_in keeps tuples (paths_of u) c (so_meets q.cond (scope_of tables q (paths_of u)) (subst (Meets q.cond) (sym (same_scope u)) j.where_true))

    pub is_tuple : AllZip (λ p bindings. Selected (graph_of shapes q.graph tables) p bindings) q.paths lists → (t : List PathBinding) → Contains tuples t → IsTuple shapes tables q t
    is_tuple selected t c =
        let m = member_of lists t (zips t c) in
        record { bindings = m.0; given = m.1; fits = fitting shapes tables q.graph q.paths lists m.0 selected m.2 }

-- each joined tuple has one binding of each path pattern
pub are_tuples : (shapes : Shapes) (tables : Tables) (q : CheckedQuery) (inj : Injective) (kept : List (List PathBinding)) (tuples : List (List PathBinding)) → IsSoundQuery shapes q
    → AllZip (IsKept shapes tables) q.paths kept → AreJoined q.paths kept tuples → (t : List PathBinding) → Contains tuples t → IsTuple shapes tables q t
are_tuples shapes tables q inj kept tuples sound z j =
    let k = bindings_of shapes tables inj q.graph q.paths kept sound.paths z in
    is_tuple shapes tables q inj kept k.0 k.1.given tuples j k.1.selected

pub is_answer : (shapes : Shapes) (tables : Tables) (q : CheckedQuery) (inj : Injective) (kept : List (List PathBinding)) (tuples : List (List PathBinding)) (rows : List Row) → IsSoundQuery shapes q
    → AllZip (IsKept shapes tables) q.paths kept → AreJoined q.paths kept tuples → IsPermutation (flat_map (rows_of tables q) tuples) rows → Answer shapes tables q rows
is_answer shapes tables q inj kept tuples rows sound z j listed =
    let k = bindings_of shapes tables inj q.graph q.paths kept sound.paths z in
    answered shapes tables q inj kept k.0 k.1.given tuples j rows k.1.selected listed

-- THE SAME BEHIND REFERENCES

module _ (shapes : Shapes) (tables : Tables) (q : CheckedQuery) (inj : Injective) (kept : List (List PathBinding)) (sound : IsSoundQuery shapes q) (of : AllZip (IsKept shapes tables) q.paths kept)
    (paths : List CheckedPath) (same : paths ≡ q.paths) where
  pub tuples_of : (tuples : List (List PathBinding)) → AreJoined paths kept tuples → (t : List PathBinding) → Contains tuples t → IsTuple shapes tables q t
  tuples_of tuples j = are_tuples shapes tables q inj kept tuples sound of (subst (λ ps. AreJoined ps kept tuples) same j)

  module _ {R : Type 0} (view : R → List PathBinding) where
    flat_view : (ts : List R) → flat_map (λ t. rows_of tables q (view t)) ts ≡ flat_map (rows_of tables q) (map view ts)
    flat_view [] = refl
    flat_view (t ∷ ts) = ap (λ rs. rows_of tables q (view t) ++ rs) (flat_view ts)

    pub answer_of : (ts ss : List R) (found sorted rows : List Row) → AreJoined paths kept (map view ts) → ss ≡ ts → found ≡ flat_map (λ t. rows_of tables q (view t)) ss → IsPermutation found sorted → rows ≡ sorted → Answer shapes tables q rows
    answer_of ts ss found sorted rows j e f s r =
        is_answer shapes tables q inj kept (map view ts) rows sound of (subst (λ ps. AreJoined ps kept (map view ts)) same j)
        (subst (λ rs. IsPermutation rs rows) (f ∙ ap (flat_map (λ t. rows_of tables q (view t))) e ∙ flat_view ts) (subst (λ rs. IsPermutation found rs) (sym r) s))
