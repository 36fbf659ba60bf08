-- What is kept of the bindings from one start is what the selector keeps, and what is kept from all starts is together what is kept.
use Rattle.std.proofs.Common.{◌≡◌, ◌-◌, suc, Bool, true, false, List, [], ◌∷◌, ◌++◌, map, length, Contains, ◌↔◌, inl, inr, refl, ap, sym, ◌∙◌, subst, arith}
use Rattle.std.specs.Prelude.{◌&&◌, Some, slice_get, flat_map}
use Rattle.std.specs.List.{AllZip}
use Rattle.pg_value.specs.declared.shape.ElemId.{ElemId}
use Rattle.pg_value.specs.declared.shape.Shapes.{Shapes}
use Rattle.pg_value.specs.Tables.{Tables}
use Rattle.pg_ast.specs.declared.pattern.Selector.{Selector}
use Rattle.pg_ast.specs.declared.pattern.Selector.TheVariants.{Every, Any, AnyShortest, AllShortest}
use Rattle.pg_meaning.specs.declared.checked.CheckedPath.{CheckedPath}
use Rattle.pg_meaning.specs.declared.checked.PathBinding.{PathBinding}
use Rattle.pg_meaning.specs.Walks.{Graph, Hop, graph_of, last_vertex}
use Rattle.pg_meaning.specs.Bindings.{Binding, Distinct, IsAllowed, IsSelected, IsComplete, OnePerPair, SamePair, IsShortest, Selected, SelectedFrom, path_binding}
use Rattle.pg_meaning.specs.Members.{in_nil, in_here, in_there, in_cons, in_left, in_right, in_append, in_map, from_map, distinct_append, distinct_under, distinct_map, same_item}
use Rattle.pg_keyed.specs.Lists.{Each}
use Rattle.pg_meaning.specs.Outlines.{is_walk, is_every, walks_on}
use Rattle.pg_meaning.specs.Sound.Patterns.{IsSoundPath, outlines}
use Rattle.pg_short.specs.Selections.{AreSelected, IsAllowedFrom}
use Rattle.pg_join.specs.Selecting.{end_of, HasEnd, IsLeastIn, AreLeast, AreFirsts, AreKept, AreKeptFrom, AreStarts, IsKept}
use Rattle.pg_join.proofs.Preimages.{preimage, image_of}

-- LAST VERTICES

at_end : (v : ElemId) (hops : List Hop) → slice_get (v ∷ map (λ h. h.to) hops) (length (map (λ (h : Hop). h.to) hops)) ≡ Some (last_vertex v hops)
at_end v [] = refl
at_end v (h ∷ hops) = at_end h.to hops

pub end_is : (b : Binding) → end_of (path_binding b) ≡ Some (last_vertex b.start b.hops)
end_is b =
    let vs = map (λ (h : Hop). h.to) b.hops in
    let e : length (b.start ∷ vs) - 1 ≡ length vs = omega arith in
    ap (slice_get (b.start ∷ vs)) e ∙ at_end b.start b.hops

some_is : {X : Type 0} (x y : X) → Some x ≡ Some y → x ≡ y
some_is x y h = cc

long : (hops : List Hop) → length (map (λ (h : Hop). h.edge) hops) ≡ length hops
long [] = refl
long (h ∷ hops) = ap suc (long hops)

pub have_ends : (bs : List Binding) → Each HasEnd (map path_binding bs)
have_ends [] = tt
have_ends (b ∷ bs) = (rw (end_is b) refl, have_ends bs)

pub least_have_ends : (all kept : List PathBinding) → ((b : PathBinding) → Contains kept b → Contains all b) → Each HasEnd all → Each HasEnd kept
least_have_ends all [] h e = tt
least_have_ends all (b ∷ kept) h e = (one all (h b (in_here b kept b refl)) e, least_have_ends all kept (λ c i. h c (in_there b kept c i)) e)
  where
    one : (xs : List PathBinding) → Contains xs b → Each HasEnd xs → HasEnd b
    one [] c f = absurd (in_nil b c)
    one (x ∷ xs) c f = elim (in_cons x xs b c) [ inl s ↦ subst HasEnd s f.0 | inr r ↦ one xs r f.1 ]

-- WALKS OF EVERY LENGTH

-- where not every binding is kept, nor one of any length, nor one of the shortest, it is each of the shortest
pub only_all_shortest : (s : Selector) → (s ≡ Any → ⊥) → (s ≡ AnyShortest → ⊥) → is_every s ≡ false → s ≡ AllShortest
only_all_shortest Every any one every = absurd (cc)
only_all_shortest Any any one every = absurd (any refl)
only_all_shortest AnyShortest any one every = absurd (one refl)
only_all_shortest AllShortest any one every = refl

left_true : (a b : Bool) → (a && b) ≡ true → a ≡ true
left_true true b h = refl
left_true false b h = absurd (cc)

left_false : (a b : Bool) → b ≡ true → (a && b) ≡ false → a ≡ false
left_false true true e h = absurd (cc)
left_false true false e h = absurd (cc)
left_false false b e h = refl

pub endless_walk : (p : CheckedPath) → walks_on p.mode (outlines p) ≡ true → is_walk p.mode ≡ true
endless_walk p h = left_true (is_walk p.mode) _ h

pub kept_all : (shapes : Shapes) (p : CheckedPath) → IsSoundPath shapes p → walks_on p.mode (outlines p) ≡ true → (p.selector ≡ Any → ⊥) → (p.selector ≡ AnyShortest → ⊥) → p.selector ≡ AllShortest
kept_all shapes p sound endless any one = only_all_shortest p.selector any one (left_false (is_every p.selector) (walks_on p.mode (outlines p)) endless sound.bounded)

-- what a shortest search keeps is what is kept from its start
pub kept_selected : (s : Selector) (shapes : Shapes) (tables : Tables) (p : CheckedPath) (start : ElemId) → p.selector ≡ s → (kept : List PathBinding) → AreSelected s shapes tables p start kept → AreKeptFrom shapes tables p start kept
kept_selected s shapes tables p start is kept k = record { bindings = k.kept; given = k.given; selected = subst (λ t. IsSelected t (IsAllowedFrom shapes tables p start) k.kept) (sym is) k.selected }

-- FROM ONE START

module _ (inj : (a b : Binding) → path_binding a ≡ path_binding b → a ≡ b) (Allowed : Binding → Type 0) (start : ElemId) (from : (b : Binding) → Allowed b → b.start ≡ start) where
  pair : (a b : Binding) → Allowed a → Allowed b → end_of (path_binding a) ≡ end_of (path_binding b) → SamePair a b
  pair a b p q e = (from a p ∙ sym (from b q), some_is (last_vertex a.start a.hops) (last_vertex b.start b.hops) (sym (end_is a) ∙ e ∙ end_is b))

  ends : (a b : Binding) → SamePair a b → end_of (path_binding a) ≡ end_of (path_binding b)
  ends a b s = end_is a ∙ ap Some s.1 ∙ sym (end_is b)

  -- one for each last vertex
  record Firsts (ws zs : List Binding) (kept : List PathBinding) : Type 0 where
    given : kept ≡ map path_binding zs
    distinct : Distinct zs
    among : (z : Binding) → Contains zs z → Contains ws z
    some : (w : Binding) → Contains ws w → (c : Binding) × Contains zs c × SamePair w c
    once : (b c : Binding) → Contains zs b → Contains zs c → SamePair b c → b ≡ c

  firsts : (ws : List Binding) → ((w : Binding) → Contains ws w → Allowed w) → (kept : List PathBinding) → AreFirsts (map path_binding ws) kept → (zs : List Binding) × Firsts ws zs kept
  firsts ws ok kept f =
      let p = preimage path_binding ws kept f.among in
      let zs = p.0 in
      let apart : Distinct (map end_of (map path_binding zs)) = subst (λ ks. Distinct (map end_of ks)) p.1 f.apart in (
        zs,
        record {
          given = p.1;
          distinct = distinct_under path_binding zs (distinct_under end_of (map path_binding zs) apart);
          among = p.2;
          some = λ w c.
              let m = from_map end_of kept (end_of (path_binding w)) (f.whole (path_binding w) (in_map path_binding ws w c)) in
              let n = from_map path_binding zs m.0 (subst (λ ks. Contains ks m.0) p.1 m.1) in
              (n.0, n.1, pair w n.0 (ok w c) (ok n.0 (p.2 n.0 n.1)) (sym m.2 ∙ ap end_of (sym n.2)));
          once = λ b c i j s.
              inj b c (same_item end_of (map path_binding zs) (path_binding b) (path_binding c) apart (in_map path_binding zs b i) (in_map path_binding zs c j) (ends b c s));
        },
      )

  module _ (bs : List Binding) (exact : (b : Binding) → Contains bs b ↔ Allowed b) (once : Distinct bs) where
    one_per_pair : (zs : List Binding) (kept : List PathBinding) → Firsts bs zs kept → OnePerPair Allowed zs
    one_per_pair zs kept f = record { some = λ b a. f.some b ((exact b).1 a); once = f.once }

    -- those of least length are shortest
    shortest : (b : Binding) → Allowed b → IsLeastIn (map path_binding bs) (path_binding b) → IsShortest Allowed b
    shortest b a least = λ c d s.
        let l = least (path_binding c) (in_map path_binding bs c ((exact c).1 d)) (sym (ends b c s)) in
        let e = long b.hops in
        let f = long c.hops in
        omega arith

    least_of : (b : Binding) → Allowed b → IsShortest Allowed b → IsLeastIn (map path_binding bs) (path_binding b)
    least_of b a short = λ c i e.
        let m = from_map path_binding bs c i in
        let d = (exact m.0).0 m.1 in
        let l = short m.0 d (pair b m.0 a d (sym e ∙ ap end_of (sym m.2))) in
        let p = long b.hops in
        let q = long m.0.hops in
        let r : length (path_binding m.0).edges ≡ length c.edges = ap (λ (z : PathBinding). length z.edges) m.2 in
        omega arith

    record Least (zs : List Binding) (kept : List PathBinding) : Type 0 where
      given : kept ≡ map path_binding zs
      distinct : Distinct zs
      allowed : (z : Binding) → Contains zs z → Allowed z
      short : (z : Binding) → Contains zs z → IsShortest Allowed z
      all : (z : Binding) → Allowed z → IsShortest Allowed z → Contains zs z
      some : (b : Binding) → Allowed b → (c : Binding) × Contains zs c × SamePair b c

    leasts : (kept : List PathBinding) → AreLeast (map path_binding bs) kept → (zs : List Binding) × Least zs kept
    leasts kept f =
        let p = preimage path_binding bs kept (λ b c. ((f.exactly b).0 c).0) in
        let zs = p.0 in
        let allowed : (z : Binding) → Contains zs z → Allowed z = λ z c. (exact z).0 (p.2 z c) in
        let into : (z : Binding) → Contains zs z → Contains kept (path_binding z) = λ z c. subst (λ ks. Contains ks (path_binding z)) (sym p.1) (in_map path_binding zs z c) in
        let out : (z : Binding) → Contains kept (path_binding z) → Contains zs z = λ z c. image_of path_binding inj zs z (subst (λ ks. Contains ks (path_binding z)) p.1 c) in (
          zs,
          record {
            given = p.1;
            distinct = distinct_under path_binding zs (subst Distinct p.1 (f.distinct (distinct_map path_binding inj bs once)));
            allowed = allowed;
            short = λ z c. shortest z (allowed z c) ((f.exactly (path_binding z)).0 (into z c)).1;
            all = λ z a s. out z ((f.exactly (path_binding z)).1 (in_map path_binding bs z ((exact z).1 a), least_of z a s));
            some = λ b a.
                let m = f.some (path_binding b) (in_map path_binding bs b ((exact b).1 a)) in
                let n = from_map path_binding zs m.0 (subst (λ ks. Contains ks m.0) p.1 m.1) in
                (n.0, n.1, pair b n.0 a (allowed n.0 n.1) (sym m.2 ∙ ap end_of (sym n.2)));
          },
        )

    shortest_first : (ws : List Binding) (least : List PathBinding) → Least ws least → (zs : List Binding) (kept : List PathBinding) → Firsts ws zs kept → IsSelected AnyShortest Allowed zs
    shortest_first ws least l zs kept f = record {
      distinct = f.distinct;
      allowed = λ z c. l.allowed z (f.among z c);
      complete = (
        record {
          some = λ b a.
              let w = l.some b a in
              let c = f.some w.0 w.1 in
              (c.0, c.1, (w.2.0 ∙ c.2.0, w.2.1 ∙ c.2.1));
          once = f.once;
        },
        λ b c. l.short b (f.among b c),
      );
    }

    chosen : (selector : Selector) (kept : List PathBinding) → AreKept selector (map path_binding bs) kept → (zs : List Binding) × (kept ≡ map path_binding zs) × IsSelected selector Allowed zs
    chosen Every kept k = (bs, k, record { distinct = once; allowed = λ b c. (exact b).0 c; complete = λ b a. (exact b).1 a })
    chosen Any kept k =
        let f = firsts bs (λ b c. (exact b).0 c) kept k in
        (f.0, f.1.given, record { distinct = f.1.distinct; allowed = λ b c. (exact b).0 (f.1.among b c); complete = one_per_pair f.0 kept f.1 })
    chosen AnyShortest kept k =
        let l = leasts k.0 k.1 in
        let g = subst (λ ls. AreFirsts ls kept) l.1.given k.2 in
        let f = firsts l.0 l.1.allowed kept g in
        (f.0, f.1.given, shortest_first l.0 k.0 l.1 f.0 kept f.1)
    chosen AllShortest kept k =
        let l = leasts kept k in
        (l.0, l.1.given, record { distinct = l.1.distinct; allowed = l.1.allowed; complete = λ b a. (λ c. l.1.short b c, λ s. l.1.all b a s) })

-- what is kept of the paths from a start is what the selector keeps
pub kept_from_start : (shapes : Shapes) (tables : Tables) (path : CheckedPath) (start : ElemId) (found kept : List PathBinding) (bs : List Binding)
    → ((a b : Binding) → path_binding a ≡ path_binding b → a ≡ b) → found ≡ map path_binding bs
    → ((b : Binding) → Contains bs b ↔ (IsAllowed (graph_of shapes path.graph tables) path b × (b.start ≡ start))) → Distinct bs
    → AreKept path.selector found kept → AreKeptFrom shapes tables path start kept
kept_from_start shapes tables path start found kept bs inj e exact once k =
    let c = chosen inj (λ b. IsAllowed (graph_of shapes path.graph tables) path b × (b.start ≡ start)) start (λ b a. a.1) bs exact once path.selector kept (subst (λ fs. AreKept path.selector fs kept) e k) in
    record { bindings = c.0; given = c.1; selected = c.2 }

-- FROM ALL STARTS

module _ (g : Graph) (p : CheckedPath) where
  -- what is kept from each of some starts
  pub record Parts (starts : List ElemId) (zs : List Binding) : Type 0 where
    pub distinct : Distinct zs
    pub allowed : (b : Binding) → Contains zs b → IsAllowed g p b
    pub begins : (b : Binding) → Contains zs b → Contains starts b.start
    pub from : (start : ElemId) → Contains starts start → (ks : List Binding) × SelectedFrom g p start ks × ((b : Binding) → Contains ks b → Contains zs b)
        × ((b : Binding) → Contains zs b → b.start ≡ start → Contains ks b)

  no_parts : Parts [] []
  no_parts = record { distinct = tt; allowed = λ b c. absurd (in_nil b c); begins = λ b c. absurd (in_nil b c); from = λ s c. absurd (in_nil s c) }

  more_parts : (start : ElemId) (starts : List ElemId) (ks zs : List Binding) → (Contains starts start → ⊥) → SelectedFrom g p start ks → Parts starts zs → Parts (start ∷ starts) (ks ++ zs)
  more_parts start starts ks zs out k r = record {
    distinct = distinct_append ks zs k.distinct r.distinct (λ b c d. out (subst (λ z. Contains starts z) (k.allowed b c).1 (r.begins b d)));
    allowed = λ b c. elim (in_append ks zs b c) [ inl l ↦ (k.allowed b l).0 | inr m ↦ r.allowed b m ];
    begins = λ b c. elim (in_append ks zs b c) [ inl l ↦ in_here start starts b.start (sym (k.allowed b l).1) | inr m ↦ in_there start starts b.start (r.begins b m) ];
    from = λ s c. elim (in_cons start starts s c) [
      | inl e ↦ (
        ks,
        subst (λ z. SelectedFrom g p z ks) e k,
        λ b i. in_left ks zs b i,
        λ b i f. elim (in_append ks zs b i) [ inl l ↦ l | inr m ↦ absurd (out (subst (λ z. Contains starts z) (f ∙ sym e) (r.begins b m))) ],
      )
      | inr t ↦ (let q = r.from s t in (
        q.0,
        q.1,
        λ b i. in_right ks zs b (q.2 b i),
        λ b i f. elim (in_append ks zs b i) [ inl l ↦ absurd (out (subst (λ z. Contains starts z) (sym f ∙ (k.allowed b l).1) t)) | inr m ↦ q.3 b m f ],
      ))
    ];
  }

  module _ (starts : List ElemId) (zs : List Binding) (ps : Parts starts zs) (whole : (b : Binding) → IsAllowed g p b → Contains starts b.start) where
    pairs : ((start : ElemId) (ks : List Binding) → SelectedFrom g p start ks → OnePerPair (λ b. IsAllowed g p b × (b.start ≡ start)) ks) → OnePerPair (IsAllowed g p) zs
    pairs one = record {
      some = λ b a.
          let q = ps.from b.start (whole b a) in
          let c = (one b.start q.0 q.1).some b (a, refl) in
          (c.0, q.2 c.0 c.1, c.2);
      once = λ b c i j s.
          let q = ps.from b.start (ps.begins b i) in
          (one b.start q.0 q.1).once b c (q.3 b i refl) (q.3 c j (sym s.0)) s;
    }

    complete_in : (selector : Selector) → ((start : ElemId) (ks : List Binding) → SelectedFrom g p start ks → IsComplete selector (λ b. IsAllowed g p b × (b.start ≡ start)) ks) → IsComplete selector (IsAllowed g p) zs
    complete_in Every one = λ b a. let q = ps.from b.start (whole b a) in q.2 b (one b.start q.0 q.1 b (a, refl))
    complete_in Any one = pairs one
    complete_in AnyShortest one = (
      pairs (λ s ks k. (one s ks k).0),
      λ b i c a s. let q = ps.from b.start (ps.begins b i) in (one b.start q.0 q.1).1 b (q.3 b i refl) c (a, sym s.0) s,
    )
    complete_in AllShortest one = λ b a.
        let q = ps.from b.start (whole b a) in
        let o = one b.start q.0 q.1 b (a, refl) in
        (λ i c d s. o.0 (q.3 b i refl) c (d, sym s.0) s, λ short. q.2 b (o.1 (λ c d s. short c d.0 s)))

    pub selected_in_parts : Selected g p zs
    selected_in_parts = record { distinct = ps.distinct; allowed = ps.allowed; complete = complete_in p.selector (λ start ks k. k.complete) }

module _ (shapes : Shapes) (tables : Tables) (path : CheckedPath) where
  abbrev graph : Graph
  graph = graph_of shapes path.graph tables

  parts_of : (starts : List ElemId) (results : List (List PathBinding)) → Distinct starts → AllZip (AreKeptFrom shapes tables path) starts results
      → (zs : List Binding) × (flat_map (λ ks. ks) results ≡ map path_binding zs) × Parts graph path starts zs
  parts_of [] [] d z = ([], refl, no_parts graph path)
  parts_of [] (ks ∷ results) d z = absurd z
  parts_of (s ∷ starts) [] d z = absurd z
  parts_of (s ∷ starts) (ks ∷ results) d z =
      let r = parts_of starts results d.1 z.1 in
      let k = z.0 in
      (k.bindings ++ r.0, (λ i. k.given i ++ r.1 i) ∙ sym (map_append k.bindings r.0), more_parts graph path s starts k.bindings r.0 d.0 k.selected r.2)
    where
      map_append : (xs ys : List Binding) → map path_binding (xs ++ ys) ≡ map path_binding xs ++ map path_binding ys
      map_append [] ys = refl
      map_append (x ∷ xs) ys = ap (λ bs. path_binding x ∷ bs) (map_append xs ys)

  -- what is kept from each start is together what is kept
  pub kept_together : (starts : List ElemId) (results : List (List PathBinding)) → AreStarts shapes tables path starts → AllZip (AreKeptFrom shapes tables path) starts results
      → IsKept shapes tables path (flat_map (λ ks. ks) results)
  kept_together starts results s z =
      let p = parts_of starts results s.distinct z in
      record { bindings = p.0; given = p.1; selected = selected_in_parts graph path starts p.0 p.2 s.whole }
