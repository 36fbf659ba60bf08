-- A walk through a pattern whose variables are known and apart is known by its binding.
pub mod Elements
pub mod Named
pub mod Known
pub mod Ends
use Rattle.std.proofs.Common.{◌≡◌, ℕ, ◌≤◌, true, List, [], ◌∷◌, ◌++◌, map, length, Contains, ◌⊎◌, inl, inr, refl, arith, ap, sym, ◌∙◌, subst, append-nil}
use Rattle.std.specs.Prelude.{Option, Some, None, is_some, slice_get}
use Rattle.pg_value.specs.declared.shape.ElemId.{ElemId}
use Rattle.pg_value.specs.declared.shape.Shapes.{Shapes}
use Rattle.pg_value.specs.Tables.{Tables}
use Rattle.pg_ast.specs.declared.pattern.Quant.{Quant}
use Rattle.pg_meaning.specs.declared.checked.CPart.{CPart}
use Rattle.pg_meaning.specs.declared.checked.CheckedPath.{CheckedPath}
use Rattle.pg_meaning.specs.Walks.{Graph, Hop, last_vertex}
use Rattle.pg_meaning.specs.Rounds.{Round, round_of, quant_of}
use Rattle.pg_meaning.specs.Fits.{Mention, Agree, Fits, RoundsFit, InRange, join, elements, firsts, seen_in, seen_in_rounds, singles, groups}
use Rattle.pg_meaning.specs.Bindings.{Binding}
use Rattle.pg_meaning.specs.Members.{in_nil, in_here, in_there, in_cons, in_append, in_map}
use Rattle.pg_auto.specs.States.{Task, Walked, Completes, first_state, graph_in, binding_of, lists_in}
use Rattle.pg_auto.specs.Allowed.{task_of}
use Rattle.pg_auto.proofs.Once.Elements.{Begins, elements_append, elements_none, firsts_begin, same_mentions, same_rest}
use Rattle.pg_auto.proofs.Once.Named.{round_vars, round_names, any_rounds_alike, rounds_name_only}
use Rattle.pg_auto.proofs.Stands.{rest_fits, same_singles, same_groups}

-- WHAT PARTS THAT STAND ONCE NAME

abbrev part_single_vars : Option Quant → Round → List ℕ
part_single_vars quant round = elim quant [ None ↦ round_vars round | Some q ↦ [] ]

abbrev single_vars : List CPart → List ℕ
single_vars [] = []
single_vars (part ∷ parts) = part_single_vars (quant_of part) (round_of part) ++ single_vars parts

abbrev part_singles : Option Quant → Round → ElemId → List (List Hop) → List Mention
part_singles quant round v rounds = elim quant [ None ↦ seen_in round v (join rounds) | Some q ↦ [] ]

map_append : (xs ys : List Mention) → map (λ m. m.var) (xs ++ ys) ≡ map (λ m. m.var) xs ++ map (λ m. m.var) ys
map_append [] ys = refl
map_append (x ∷ xs) ys = ap (λ zs. x.var ∷ zs) (map_append xs ys)

one_names : (g : Graph) (round : Round) (v : ElemId) (rounds : List (List Hop)) → length rounds ≡ 1 → RoundsFit g round v rounds → map (λ m. m.var) (seen_in round v (join rounds)) ≡ round_vars round
one_names g round v [] n f = absurd (omega arith)
one_names g round v (hops ∷ []) n f = ap (λ hs. map (λ (m : Mention). m.var) (seen_in round v hs)) (append-nil hops) ∙ round_names g round v hops f.0
one_names g round v (hops ∷ more ∷ rounds) n f = absurd (omega arith)

part_names : (g : Graph) (quant : Option Quant) (round : Round) (v : ElemId) (rounds : List (List Hop)) → InRange quant (length rounds) → RoundsFit g round v rounds
    → map (λ m. m.var) (part_singles quant round v rounds) ≡ part_single_vars quant round
part_names g None round v rounds n f = one_names g round v rounds n f
part_names g (Some q) round v rounds n f = refl

singles_name : (g : Graph) (parts : List CPart) (v : ElemId) (cuts : List (List (List Hop))) → Fits g parts v cuts → map (λ m. m.var) (singles parts v cuts) ≡ single_vars parts
singles_name g [] v cuts f = refl
singles_name g (part ∷ parts) v [] f = absurd f
singles_name g (part ∷ parts) v (rounds ∷ cuts) f =
    map_append (part_singles (quant_of part) (round_of part) v rounds) (singles parts (last_vertex v (join rounds)) cuts)
    ∙ (λ i. part_names g (quant_of part) (round_of part) v rounds f.0 f.1 i ++ singles_name g parts (last_vertex v (join rounds)) cuts f.2 i)

head_is : (a b : ElemId) (xs ys : List ElemId) → a ∷ xs ≡ b ∷ ys → a ≡ b
head_is a b xs ys h = cc

-- singletons with the same elements are the same mentions
singles_alike : (s r p q : List Mention) → map (λ m. m.var) s ≡ map (λ m. m.var) r → Agree s → Agree r
    → ((m : Mention) → Contains s m → elements (firsts s ++ p) m.var ≡ elements (firsts r ++ q) m.var) → s ≡ r
singles_alike s r p q vars a b same = same_mentions s r vars (λ m n c d e.
    let j = firsts_begin s m a c in
    let k = firsts_begin r n b d in
    head_is m.elem n.elem (j.rest ++ elements p m.var) (k.rest ++ elements q m.var)
    (sym (ap (λ es. es ++ elements p m.var) j.begins) ∙ sym (elements_append (firsts s) p m.var) ∙ same m c
    ∙ elements_append (firsts r) q m.var ∙ ap (λ es. es ++ elements q m.var) (ap (elements (firsts r)) e ∙ k.begins)))

-- WHAT QUANTIFIED PARTS NAME

-- a quantified part names the variable
abbrev pub IsGroupVar : List CPart → ℕ → Type 0
IsGroupVar [] x = ⊥
IsGroupVar (part ∷ parts) x = ((is_some (quant_of part) ≡ true) × Contains (round_vars (round_of part)) x) ⊎ IsGroupVar parts x

-- no two quantified parts name one variable
abbrev pub AreApart : List CPart → Type 0
AreApart [] = Unit {0}
AreApart (part ∷ parts) = ((x : ℕ) → is_some (quant_of part) ≡ true → Contains (round_vars (round_of part)) x → IsGroupVar parts x → ⊥) × AreApart parts

abbrev part_groups : Option Quant → Round → ElemId → List (List Hop) → List Mention
part_groups quant round v rounds = elim quant [ None ↦ [] | Some q ↦ seen_in_rounds round v rounds ]

part_groups_name : (g : Graph) (quant : Option Quant) (round : Round) (v : ElemId) (rounds : List (List Hop)) (m : Mention) → RoundsFit g round v rounds → Contains (part_groups quant round v rounds) m
    → (is_some quant ≡ true) × Contains (round_vars round) m.var
part_groups_name g None round v rounds m f c = absurd (in_nil m c)
part_groups_name g (Some q) round v rounds m f c = (refl, rounds_name_only g round v rounds m f c)

groups_name : (g : Graph) (parts : List CPart) (v : ElemId) (cuts : List (List (List Hop))) (m : Mention) → Fits g parts v cuts → Contains (groups parts v cuts) m → IsGroupVar parts m.var
groups_name g [] v cuts m f c = absurd (in_nil m c)
groups_name g (part ∷ parts) v [] m f c = absurd f
groups_name g (part ∷ parts) v (rounds ∷ cuts) m f c =
    elim (in_append (part_groups (quant_of part) (round_of part) v rounds) (groups parts (last_vertex v (join rounds)) cuts) m c) [
      | inl a ↦ inl (part_groups_name g (quant_of part) (round_of part) v rounds m f.1 a)
      | inr b ↦ inr (groups_name g parts (last_vertex v (join rounds)) cuts m f.2 b)
    ]

-- a part's mentions are alike where others name none of its variables
part_alike : (g : Graph) (quant : Option Quant) (round : Round) (v u : ElemId) (rs ts : List (List Hop)) (p q : List Mention) → RoundsFit g round v rs → RoundsFit g round u ts
    → ((x : ℕ) → is_some quant ≡ true → Contains (round_vars round) x → (elements p x ≡ []) × (elements q x ≡ []) × (elements (part_groups quant round v rs ++ p) x ≡ elements (part_groups quant round u ts ++ q) x))
    → part_groups quant round v rs ≡ part_groups quant round u ts
part_alike g None round v u rs ts p q f h same = refl
part_alike g (Some n) round v u rs ts p q f h same = any_rounds_alike g round v u rs ts f h (λ y c.
    let k = same y refl c in
    sym (append-nil (elements (seen_in_rounds round v rs) y)) ∙ ap (λ es. elements (seen_in_rounds round v rs) y ++ es) (sym k.0) ∙ sym (elements_append (seen_in_rounds round v rs) p y) ∙ k.2
    ∙ elements_append (seen_in_rounds round u ts) q y ∙ ap (λ es. elements (seen_in_rounds round u ts) y ++ es) k.1 ∙ append-nil (elements (seen_in_rounds round u ts) y))

groups_alike : (g : Graph) (parts : List CPart) (v u : ElemId) (cuts more : List (List (List Hop))) → AreApart parts → Fits g parts v cuts → Fits g parts u more
    → ((x : ℕ) → IsGroupVar parts x → elements (groups parts v cuts) x ≡ elements (groups parts u more) x) → groups parts v cuts ≡ groups parts u more
groups_alike g [] v u cuts more apart f h same = refl
groups_alike g (part ∷ parts) v u [] more apart f h same = absurd f
groups_alike g (part ∷ parts) v u (rs ∷ cuts) [] apart f h same = absurd h
groups_alike g (part ∷ parts) v u (rs ∷ cuts) (ts ∷ more) apart f h same =
    let a = part_groups (quant_of part) (round_of part) v rs in
    let b = part_groups (quant_of part) (round_of part) u ts in
    let p = groups parts (last_vertex v (join rs)) cuts in
    let q = groups parts (last_vertex u (join ts)) more in
    let one : a ≡ b = part_alike g (quant_of part) (round_of part) v u rs ts p q f.1 h.1 (λ x is c. (
      elements_none p x (λ m d e. apart.0 x is c (subst (IsGroupVar parts) e (groups_name g parts (last_vertex v (join rs)) cuts m f.2 d))),
      elements_none q x (λ m d e. apart.0 x is c (subst (IsGroupVar parts) e (groups_name g parts (last_vertex u (join ts)) more m h.2 d))),
      same x (inl (is, c)),
    )) in
    let rest : p ≡ q = groups_alike g parts (last_vertex v (join rs)) (last_vertex u (join ts)) cuts more apart.1 f.2 h.2
    (λ x c. same_rest (elements a x) (elements b x) (elements p x) (elements q x) (ap (λ ms. elements ms x) one) (sym (elements_append a p x) ∙ same x (inr c) ∙ elements_append b q x)) in
    λ i. one i ++ rest i

-- WALKS BY THEIR BINDINGS

-- the variables of the parts are those of the pattern, and no two quantified parts have one
pub record AreKnown (path : CheckedPath) : Type 0 where
  pub known : (part : CPart) (x : ℕ) → Contains path.parts part → Contains (round_vars (round_of part)) x → Contains path.vars x
  pub apart : AreApart path.parts

single_known : (path : CheckedPath) (parts : List CPart) → ((part : CPart) → Contains parts part → Contains path.parts part) → AreKnown path → (x : ℕ) → Contains (single_vars parts) x → Contains path.vars x
single_known path [] of_path k x c = absurd (in_nil x c)
single_known path (part ∷ parts) of_path k x c = elim (in_append (part_single_vars (quant_of part) (round_of part)) (single_vars parts) x c) [
  | inl a ↦ k.known part x (of_path part (in_here part parts part refl)) (go (quant_of part) a)
  | inr b ↦ single_known path parts (λ p d. of_path p (in_there part parts p d)) k x b
]
  where
    go : (quant : Option Quant) → Contains (part_single_vars quant (round_of part)) x → Contains (round_vars (round_of part)) x
    go None d = d
    go (Some q) d = absurd (in_nil x d)

group_known : (path : CheckedPath) (parts : List CPart) → ((part : CPart) → Contains parts part → Contains path.parts part) → AreKnown path → (x : ℕ) → IsGroupVar parts x → Contains path.vars x
group_known path [] of_path k x c = absurd c
group_known path (part ∷ parts) of_path k x (inl a) = k.known part x (of_path part (in_here part parts part refl)) a.1
group_known path (part ∷ parts) of_path k x (inr b) = group_known path parts (λ p d. of_path p (in_there part parts p d)) k x b

map_same : {X Y : Type 0} (f h : X → Y) (xs : List X) (x : X) → map f xs ≡ map h xs → Contains xs x → f x ≡ h x
map_same f h [] x e c = absurd (in_nil x c)
map_same f h (y ∷ ys) x e c = elim (in_cons y ys x c) [
  | inl s ↦ ap f (sym s) ∙ first ∙ ap h s
  | inr r ↦ map_same f h ys x rest r
]
  where
    first : f y ≡ h y
    first = cc

    rest : map f ys ≡ map h ys
    rest = cc

pub known_by_binding : (shapes : Shapes) (tables : Tables) (path : CheckedPath) (start : ElemId) → AreKnown path → (w u : Walked)
    → Completes (task_of shapes tables path start) (first_state start) w → Completes (task_of shapes tables path start) (first_state start) u
    → binding_of start path.vars w ≡ binding_of start path.vars u → w ≡ u
known_by_binding shapes tables path start known w u j k e = λ i. record { hops = hops i; singles = single i; groups = group i }
  where
    g : Graph
    g = graph_in (task_of shapes tables path start)

    fits_w : Fits g path.parts start j.cuts
    fits_w = rest_fits g path.parts start j.cuts j.left

    fits_u : Fits g path.parts start k.cuts
    fits_u = rest_fits g path.parts start k.cuts k.left

    hops : w.hops ≡ u.hops
    hops = ap (λ (b : Binding). b.hops) e

    lists : (x : ℕ) → Contains path.vars x → lists_in w x ≡ lists_in u x
    lists x c = map_same (lists_in w) (lists_in u) path.vars x (ap (λ (b : Binding). b.vars) e) c

    singles_w : w.singles ≡ singles path.parts start j.cuts
    singles_w = j.singles ∙ same_singles g path.parts start j.cuts fits_w

    singles_u : u.singles ≡ singles path.parts start k.cuts
    singles_u = k.singles ∙ same_singles g path.parts start k.cuts fits_u

    groups_w : w.groups ≡ groups path.parts start j.cuts
    groups_w = j.groups ∙ same_groups path.parts start j.cuts

    groups_u : u.groups ≡ groups path.parts start k.cuts
    groups_u = k.groups ∙ same_groups path.parts start k.cuts

    vars_w : map (λ m. m.var) w.singles ≡ single_vars path.parts
    vars_w = ap (λ ms. map (λ (m : Mention). m.var) ms) singles_w ∙ singles_name g path.parts start j.cuts fits_w

    vars_u : map (λ m. m.var) u.singles ≡ single_vars path.parts
    vars_u = ap (λ ms. map (λ (m : Mention). m.var) ms) singles_u ∙ singles_name g path.parts start k.cuts fits_u

    single : w.singles ≡ u.singles
    single = singles_alike w.singles u.singles w.groups u.groups (vars_w ∙ sym vars_u) j.agree k.agree
        (λ m c. lists m.var (single_known path path.parts (λ p d. d) known m.var (subst (λ xs. Contains xs m.var) vars_w (in_map (λ (n : Mention). n.var) w.singles m c))))

    group : w.groups ≡ u.groups
    group = groups_w ∙ groups_alike g path.parts start start j.cuts k.cuts known.apart fits_w fits_u (λ x c. same_rest (elements (firsts w.singles) x) (elements (firsts u.singles) x)
        (elements (groups path.parts start j.cuts) x) (elements (groups path.parts start k.cuts) x) (ap (λ ms. elements (firsts ms) x) single)
        (ap (λ ms. elements (firsts w.singles) x ++ elements ms x) (sym groups_w) ∙ sym (elements_append (firsts w.singles) w.groups x) ∙ lists x (group_known path path.parts (λ p d. d) known x c)
        ∙ elements_append (firsts u.singles) u.groups x ∙ ap (λ ms. elements (firsts u.singles) x ++ elements ms x) groups_u)) ∙ sym groups_u
