-- What is good stays good: a pin, a release, a build and its end, a commit.
use Rattle.std.proofs.Common.{ℕ, zero, suc, ◌≡◌, ◌+◌, ◌<◌, ◌≤◌, List, [], ◌∷◌, ◌++◌, Bool, true, false, cond, ◌==◌, refl, ap, sym, ◌∙◌, subst, arith, length, map}
use Rattle.std.proofs.lemmas.List.{append_assoc, length-append, get_or-set_same, get_or-set_other}
use Rattle.std.proofs.lemmas.Option.{same_Some, none-some}
use Rattle.std.specs.Prelude.{◌-◌, slice_set, get_or, is_some, replicate}
use Rattle.std.specs.Option.{option_map}
use Rattle.std.specs.List.{find, count_by}
use Rattle.std.proofs.lemmas.List.Sums.{sum_by-cons}
use Rattle.std.proofs.lemmas.Bool.{eqb-true, eq-eqb, ne_eqb}
use Rattle.std.specs.declared.option.Option.{Option}
use Rattle.std.specs.declared.option.Option.TheVariants.{Some, None}
use Rattle.pg_keyed.specs.Lists.{Each, each_map, each_append, each_filter}
use Rattle.pg_value.specs.declared.shape.Shapes.{Shapes}
use Rattle.pg_value.specs.declared.write.Write.{Write}
use Rattle.pg_value.specs.declared.write.Commit.{Commit}
use Rattle.pg_value.specs.Tables.{FitWrites, FitsWrite}
use Rattle.pg_value.specs.Writes as writes
use Rattle.pg_value.specs.Log.{held, conflict, IsLawfulFrom, IsLawful}
use Rattle.pg_pins.specs.Held.{Held, pinned_numbers, pin_of, base_at, is_needed, needed, after_pin, Released, after_install, after_build}
use Rattle.pg_core.specs.Core.{Build, Core, IsTaken, most_over_base, base_after}
use Rattle.pg_core.specs.Versions.{BaseOf, RunOf, Parts, StandsFor, CanFold, Extends, Follows, put_runs, IsRunOf, AreRunsOver, IsBaseOf, Versioned, IsBuilding, IsGood, IsGrown, held_after}
use Rattle.pg_core.specs.State.{Moves, standing_of}
use Rattle.pg_core.proofs.Runs.{over_more, over_none, over_follows, base_stays, can_fold, tables_are, folded_is}

-- THE LOG

held_append : (log : List Commit) (c : Commit) → held (log ++ c ∷ []) ≡ held log + length c.writes.list
held_append [] c = omega arith
held_append (x ∷ log) c = let h = held_append log c in omega (arith, h)

lawful_more : (before log : List Commit) (c : Commit) → IsLawfulFrom before log → c.from ≤ length (before ++ log) → (c.writes.list ≡ [] → ⊥) → conflict (before ++ log) c.from c.writes.list ≡ None → IsLawfulFrom before (log ++ c ∷ [])
lawful_more before [] c l f s n = (
  subst (λ b. c.from ≤ length b) (nothing before) f,
  s,
  subst (λ b. conflict b c.from c.writes.list ≡ None) (nothing before) n,
  tt,
)
  where
    nothing : (b : List Commit) → b ++ [] ≡ b
    nothing [] = refl
    nothing (x ∷ b) = ap (λ l. x ∷ l) (nothing b)
lawful_more before (x ∷ log) c l f s n = (
  l.0,
  l.1,
  l.2,
  lawful_more (before ++ x ∷ []) log c l.3
      (subst (λ b. c.from ≤ length b) (sym (append_assoc before (x ∷ []) log)) f) s
      (subst (λ b. conflict b c.from c.writes.list ≡ None) (sym (append_assoc before (x ∷ []) log)) n),
)

pub log_more : (limit : ℕ) (log : List Commit) (c : Commit) → IsLawful limit log → IsTaken limit log c → IsLawful limit (log ++ c ∷ [])
log_more limit log c l t = record {
  each = lawful_more [] log c l.each t.before t.some t.free;
  within = (let h = held_append log c in let r = t.room in omega (arith, h, r));
}

not_empty : (ws : List Write) → (ws ≡ [] → ⊥) → 1 ≤ length ws
not_empty [] h = absurd (h refl)
not_empty (w ∷ ws) h = omega arith

few_commits : (before log : List Commit) → IsLawfulFrom before log → length log ≤ held log
few_commits before [] l = omega arith
few_commits before (c ∷ log) l = let r = few_commits (before ++ c ∷ []) log l.3 in let w = not_empty c.writes.list l.1 in omega (arith, r, w)

-- with one commit more there are no more commits than the limit
pub commits_within : (limit : ℕ) (log : List Commit) (c : Commit) → IsLawful limit log → IsTaken limit log c → length log + 1 ≤ limit
commits_within limit log c l t = let f = few_commits [] log l.each in let w = not_empty c.writes.list t.some in let r = t.room in omega (arith, f, w, r)

-- how many pins there are
pub pins_counted : (pins : List (Option ℕ)) → count_by is_some pins ≡ length (pinned_numbers pins)
pins_counted [] = refl
pins_counted (None ∷ pins) = sum_by-cons (λ (x : Option ℕ). cond (is_some x) 1 0) None pins ∙ (let r = pins_counted pins in omega (arith, r))
pins_counted (Some n ∷ pins) = sum_by-cons (λ (x : Option ℕ). cond (is_some x) 1 0) (Some n) pins ∙ (let r = pins_counted pins in omega (arith, r))

module _ {B R : Type 0} (base : B → BaseOf) (run : R → RunOf) where
  abbrev Good : Versioned B R → Type 0
  Good v = IsGood base run v

  -- PINS

  building_kept : (v : Versioned B R) (h : Held B) (o : Option Build) → IsBuilding base run v o → h.current ≡ v.held.current → h.build ≡ v.held.build
      → ((s n : ℕ) → v.held.build ≡ Some s → pin_of v.held s ≡ Some n → pin_of h s ≡ Some n) → IsBuilding base run (record v { held = h }) o
  building_kept v h None i c b p = b ∙ i
  building_kept v h (Some x) i c b p = (b ∙ i.0, p x.seat x.base i.0 i.1, i.2, i.3, λ q. i.4 (q ∙ c))

  good_held : (v : Versioned B R) (h : Held B) → Good v → h.current ≡ v.held.current → h.build ≡ v.held.build
      → (Each (λ (b : ℕ × B). IsBaseOf v.shapes v.log b.0 (base b.1)) v.held.bases → Each (λ (b : ℕ × B). IsBaseOf v.shapes v.log b.0 (base b.1)) h.bases)
      → ((s n : ℕ) → v.held.build ≡ Some s → pin_of v.held s ≡ Some n → pin_of h s ≡ Some n) → Good (record v { held = h })
  good_held v h g c b f p = record {
    lawful = g.lawful;
    in_order = g.in_order;
    fit = g.fit;
    behind = subst (λ n. n ≤ length v.log) (sym c) g.behind;
    near = subst (λ n. length v.log ≤ n + most_over_base) (sym c) g.near;
    bases = f g.bases;
    runs = subst (λ n. AreRunsOver v.shapes v.log n (map run v.runs)) (sym c) g.runs;
    build = building_kept v h v.building g.build c b p;
  }

  pub good_pin : (v : Versioned B R) (seat : ℕ) → Good v → pin_of v.held seat ≡ None → Good (record v { held = after_pin v.held seat })
  good_pin v seat g free = good_held v (after_pin v.held seat) g refl refl (λ e. e)
      (λ s n b p. get_or-set_other v.held.pins seat s (Some v.held.current) None (λ e. none-some n (sym free ∙ (ap (λ x. pin_of v.held x) (sym e) ∙ p))) ∙ p)

  pub good_release : (v : Versioned B R) (h : Held B) (seat : ℕ) (result : Bool) → Good v → (v.held.build ≡ Some seat → ⊥) → Released v.held h seat result → Good (record v { held = h })
  good_release v h seat false g other r = subst (λ (x : Held B). Good (record v { held = x })) (sym r.1) g
  good_release v h seat true g other r = good_held v h g (ap (λ (x : Held B). x.current) r.1) (ap (λ (x : Held B). x.build) r.1)
      (λ e. subst (λ (x : Held B). Each (λ (b : ℕ × B). IsBaseOf v.shapes v.log b.0 (base b.1)) x.bases) (sym r.1)
      (each_filter (λ (b : ℕ × B). IsBaseOf v.shapes v.log b.0 (base b.1)) (is_needed v.held.current (slice_set v.held.pins seat None)) v.held.bases e))
      (λ s n b p. ap (λ (x : Held B). pin_of x s) r.1 ∙ (get_or-set_other v.held.pins seat s None None (λ e. other (b ∙ ap (λ x. Some x) e)) ∙ p))

  -- BUILDS

  -- the versions with a build that has begun
  abbrev pub begun : Versioned B R → ℕ → Versioned B R
  begun v seat = record v { held = record v.held { pins = slice_set v.held.pins seat (Some v.held.current); build = Some seat }; building = Some (record { seat = seat; base = v.held.current; at = length v.log }); readied = [] }

  -- a seat with no open build
  pub other_seat : (v : Versioned B R) (seat : ℕ) → Good v → ((b : Build) → v.building ≡ Some b → b.seat ≡ seat → ⊥) → v.held.build ≡ Some seat → ⊥
  other_seat v seat g other = go v.building refl g.build
    where
      go : (o : Option Build) → v.building ≡ o → IsBuilding base run v o → v.held.build ≡ Some seat → ⊥
      go None e i h = none-some seat (sym i ∙ h)
      go (Some b) e i h = other b e (same_Some b.seat seat (sym i.0 ∙ h))

  -- where no build is open, the pins know of none
  pub not_building : (v : Versioned B R) → Good v → v.building ≡ None → v.held.build ≡ None
  not_building v g e = subst (λ o. IsBuilding base run v o) e g.build

  pub build_is : (v : Versioned B R) (b : Build) → Good v → v.building ≡ Some b → IsBuilding base run v (Some b)
  build_is v b g e = subst (λ o. IsBuilding base run v o) e g.build

  pub is_building : (v : Versioned B R) → Good v → is_some v.held.build ≡ is_some v.building
  is_building v g = go v.building g.build
    where
      go : (o : Option Build) → IsBuilding base run v o → is_some v.held.build ≡ is_some o
      go None i = ap is_some i
      go (Some b) i = ap is_some i.0

  pub good_begin : (v : Versioned B R) (seat : ℕ) → Good v → seat < length v.held.pins → (length v.log ≡ v.held.current → ⊥) → Good (begun v seat)
  good_begin v seat g seated apart = record {
    lawful = g.lawful;
    in_order = g.in_order;
    fit = g.fit;
    behind = g.behind;
    near = g.near;
    bases = g.bases;
    runs = g.runs;
    build = (refl, get_or-set_same v.held.pins seat (Some v.held.current) None seated, below g.behind, omega arith, λ q. over_none v.shapes v.log);
  }
    where
      below : v.held.current ≤ length v.log → v.held.current < length v.log
      below le = omega (arith, le, apart)

  -- the versions after a build's end
  abbrev pub ended : Versioned B R → ℕ → Versioned B R
  ended v seat = record v { held = after_build v.held seat; building = None; readied = [] }

  pub good_end : (v : Versioned B R) (seat : ℕ) → Good v → Good (ended v seat)
  good_end v seat g = record {
    lawful = g.lawful;
    in_order = g.in_order;
    fit = g.fit;
    behind = g.behind;
    near = g.near;
    bases = each_filter (λ (b : ℕ × B). IsBaseOf v.shapes v.log b.0 (base b.1)) (is_needed v.held.current (slice_set v.held.pins seat None)) v.held.bases g.bases;
    runs = g.runs;
    build = refl;
  }

  -- the versions after what was built has come to be the current base
  abbrev pub installed : Versioned B R → ℕ → ℕ → B → Versioned B R
  installed v seat at new = record v { held = after_install (after_build v.held seat) at new; runs = v.readied; building = None; readied = [] }

  pub good_install : (v : Versioned B R) (b : Build) (new : B) → Good v → v.building ≡ Some b → b.base ≡ v.held.current → IsBaseOf v.shapes v.log b.at (base new) → Good (installed v b.seat b.at new)
  good_install v b new g o same is = record {
    lawful = g.lawful;
    in_order = g.in_order;
    fit = g.fit;
    behind = i.3;
    near = (let n = g.near in let l = i.2 in omega (arith, n, l, same));
    bases = each_append P (needed b.at pins (after_build v.held b.seat).bases) ((b.at, new) ∷ [])
        (each_filter P (is_needed b.at pins) (after_build v.held b.seat).bases (each_filter P (is_needed v.held.current pins) v.held.bases g.bases)) (is, tt);
    runs = i.4 same;
    build = refl;
  }
    where
      P : (ℕ × B) → Type 0
      P x = IsBaseOf v.shapes v.log x.0 (base x.1)

      pins : List (Option ℕ)
      pins = slice_set v.held.pins b.seat None

      i : IsBuilding base run v (Some b)
      i = subst (λ o. IsBuilding base run v o) o g.build

  -- COMMITS

  -- the versions with one commit more
  abbrev pub grown : Versioned B R → Commit → Option B → List R → List R → Versioned B R
  grown v c new runs readied = record v { log = v.log ++ c ∷ []; held = held_after v.held (length v.log) new; runs = runs; readied = readied }

  pub good_grown : (v : Versioned B R) (c : Commit) (r : RunOf) (new : Option B) (runs readied : List R) → Good v → IsTaken v.limit v.log c → FitWrites v.shapes c.writes.list → writes.IsInOrder c.writes.list
      → IsRunOf v.shapes (length v.log) (c ∷ []) r → IsGrown base run v r new runs readied → Good (grown v c new runs readied)
  good_grown v c r None runs readied g t f o i w = record {
    lawful = log_more v.limit v.log c g.lawful t;
    in_order = each_append (λ (d : Commit). writes.IsInOrder d.writes.list) v.log (c ∷ []) g.in_order (o, tt);
    fit = each_append (λ (d : Commit). FitWrites v.shapes d.writes.list) v.log (c ∷ []) g.fit (f, tt);
    behind = (let l = length-append v.log (c ∷ []) in let h = g.behind in omega (arith, l, h));
    near = (let l = length-append v.log (c ∷ []) in let h = w.0 in omega (arith, l, h));
    bases = each_map (λ (b : ℕ × B). IsBaseOf v.shapes v.log b.0 (base b.1)) (λ (b : ℕ × B). IsBaseOf v.shapes (v.log ++ c ∷ []) b.0 (base b.1)) (λ b h. base_stays v.shapes v.log c b.0 (base b.1) h) v.held.bases g.bases;
    runs = subst (λ rs. AreRunsOver v.shapes (v.log ++ c ∷ []) v.held.current rs) (sym w.1) (over_more v.shapes v.log v.held.current c r (map run v.runs) g.behind g.runs i);
    build = open_ v.building refl g.build;
  }
    where
      open_ : (b : Option Build) → v.building ≡ b → IsBuilding base run v b → IsBuilding base run (grown v c None runs readied) b
      open_ None e h = h
      open_ (Some b) e h = (
        h.0,
        h.1,
        h.2,
        (let l = length-append v.log (c ∷ []) in let q = h.3 in omega (arith, l, q)),
        λ q. subst (λ rs. AreRunsOver v.shapes (v.log ++ c ∷ []) b.at rs) (sym (w.2 b e q)) (over_more v.shapes v.log b.at c r (map run v.readied) h.3 (h.4 q) i),
      )
  good_grown v c r (Some new) runs readied g t f o i w = record {
    lawful = log_more v.limit v.log c g.lawful t;
    in_order = each_append (λ (d : Commit). writes.IsInOrder d.writes.list) v.log (c ∷ []) g.in_order (o, tt);
    fit = each_append (λ (d : Commit). FitWrites v.shapes d.writes.list) v.log (c ∷ []) g.fit (f, tt);
    behind = (let l = length-append v.log (c ∷ []) in omega (arith, l));
    near = (let l = length-append v.log (c ∷ []) in omega (arith, l));
    bases = each_append P (needed (length v.log) v.held.pins v.held.bases) ((length v.log, new) ∷ [])
        (each_filter P (is_needed (length v.log) v.held.pins) v.held.bases
        (each_map (λ (b : ℕ × B). IsBaseOf v.shapes v.log b.0 (base b.1)) P (λ b h. base_stays v.shapes v.log c b.0 (base b.1) h) v.held.bases g.bases))
        (base_stays v.shapes v.log c (length v.log) (base new) w.1, tt);
    runs = subst (λ rs. AreRunsOver v.shapes (v.log ++ c ∷ []) (length v.log) rs) (sym w.2) (over_more v.shapes v.log (length v.log) c r [] (omega arith) (over_none v.shapes v.log) i);
    build = open_ v.building refl g.build;
  }
    where
      P : (ℕ × B) → Type 0
      P x = IsBaseOf v.shapes (v.log ++ c ∷ []) x.0 (base x.1)

      -- the base of an open build is no longer the current one
      open_ : (b : Option Build) → v.building ≡ b → IsBuilding base run v b → IsBuilding base run (grown v c (Some new) runs readied) b
      open_ None e h = h
      open_ (Some b) e h = (
        h.0,
        h.1,
        h.2,
        (let l = length-append v.log (c ∷ []) in let q = h.3 in omega (arith, l, q)),
        λ q. let a = h.2 in let d = h.3 in absurd (omega (arith, a, d, q)),
      )

  -- the same, by what the log and the bases come to be
  pub good_as : (v : Versioned B R) (c : Commit) (r : RunOf) (new : Option B) (runs readied : List R) (log : List Commit) (h : Held B) (at : ℕ) → Good v → IsTaken v.limit v.log c → FitWrites v.shapes c.writes.list → writes.IsInOrder c.writes.list
      → IsRunOf v.shapes (length v.log) (c ∷ []) r → IsGrown base run v r new runs readied → log ≡ v.log ++ c ∷ [] → at ≡ length v.log → h ≡ held_after v.held at new → Good (record v { log = log; held = h; runs = runs; readied = readied })
  good_as v c r new runs readied log h at g t f o i w el ea eh =
      subst (λ (l : List Commit). Good (record v { log = l; held = h; runs = runs; readied = readied })) (sym el)
      (subst (λ (x : Held B). Good (record v { log = v.log ++ c ∷ []; held = x; runs = runs; readied = readied })) (sym (eh ∙ ap (λ (n : ℕ). held_after v.held n new) ea)) (good_grown v c r new runs readied g t f o i w))

  -- a new base has a higher number
  pub above_current : (v : Versioned B R) (r : RunOf) (new : Option B) (b : B) (runs readied : List R) (at : ℕ) → IsGrown base run v r new runs readied → at ≡ length v.log → new ≡ Some b → v.held.current < at
  above_current v r None b runs readied at w e h = absurd (none-some b h)
  above_current v r (Some x) b runs readied at w e h = let q = w.0 in omega (arith, q, e)

  pub grown_moves : (v : Versioned B R) (c : Commit) (r : RunOf) (new : Option B) (runs readied : List R) (log : List Commit) (h : Held B) (at : ℕ) → IsGrown base run v r new runs readied → log ≡ v.log ++ c ∷ [] → at ≡ length v.log → h ≡ held_after v.held at new → v.held.current ≤ length v.log
      → Moves v (record v { log = log; held = h; runs = runs; readied = readied }) (λ (k : Core). record k { log = k.log ++ c ∷ []; base = base_after k.base (length k.log) })
  grown_moves v c r None runs readied log h at w el ea eh le counts over stopped peak =
      ap (λ (l : List Commit). standing_of (record v { log = l; held = h; runs = runs; readied = readied }) counts over stopped peak) el
      ∙ (ap (λ (x : Held B). standing_of (record v { log = v.log ++ c ∷ []; held = x; runs = runs; readied = readied }) counts over stopped peak) eh
      ∙ ap (λ (b : Bool). standing_of (record v { log = v.log ++ c ∷ []; held = record v.held { current = cond b (length v.log) v.held.current }; runs = runs; readied = readied }) counts over stopped peak) (sym (ne_eqb (length v.log - v.held.current) most_over_base (λ q. (let a = w.0 in absurd (omega (arith, a, le, q)))))))
  grown_moves v c r (Some b) runs readied log h at w el ea eh le counts over stopped peak =
      ap (λ (l : List Commit). standing_of (record v { log = l; held = h; runs = runs; readied = readied }) counts over stopped peak) el
      ∙ (ap (λ (x : Held B). standing_of (record v { log = v.log ++ c ∷ []; held = x; runs = runs; readied = readied }) counts over stopped peak) (eh ∙ ap (λ (n : ℕ). after_install v.held n b) ea)
      ∙ ap (λ (q : Bool). standing_of (record v { log = v.log ++ c ∷ []; held = record v.held { current = cond q (length v.log) v.held.current }; runs = runs; readied = readied }) counts over stopped peak) (sym (eq-eqb (length v.log - v.held.current) most_over_base (let a = w.0 in omega (arith, a)))))

  pub good_first : (shapes : Shapes) (limit : ℕ) (h : Held B) (b : B) → h.current ≡ 0 → h.bases ≡ (0, b) ∷ [] → h.build ≡ None → base b ≡ record { shapes = shapes; version = 0; tables = [] }
      → Good (record { shapes = shapes; log = []; limit = limit; held = h; runs = []; building = None; readied = [] })
  good_first shapes limit h b c bs n is = record {
    lawful = record { each = tt; within = omega arith };
    in_order = tt;
    fit = tt;
    behind = omega (arith, c);
    near = omega arith;
    bases = subst (λ (xs : List (ℕ × B)). Each (λ (x : ℕ × B). IsBaseOf shapes [] x.0 (base x.1)) xs) (sym bs) ((omega arith, is), tt);
    runs = subst (λ (m : ℕ). AreRunsOver shapes [] m []) (sym c) (over_none shapes []);
    build = n;
  }

  -- THE CURRENT BASE

  pub current_is : (P : ℕ → B → Type 0) (n : ℕ) (bases : List (ℕ × B)) (b : B) → Each (λ x. P x.0 x.1) bases → base_at n bases ≡ Some b → P n b
  current_is P n [] b e h = absurd (none-some b h)
  current_is P n (x ∷ bases) b e h = go (x.0 == n) refl h (λ k. current_is P n bases b e.1 k)
    where
      go : (t : Bool) → (x.0 == n) ≡ t → option_map (λ (y : ℕ × B). y.1) (cond t (Some x) (find (λ (y : ℕ × B). y.0 == n) bases)) ≡ Some b → (base_at n bases ≡ Some b → P n b) → P n b
      go true q k again = subst (λ m. P m b) (eqb-true x.0 n q) (subst (λ c. P x.0 c) (same_Some x.1 b k) e.0)
      go false q k again = again k

  -- what a snapshot of the head stands for
  pub stands : (v : Versioned B R) (b : B) (p : Parts B R) → Good v → base_at v.held.current v.held.bases ≡ Some b → p ≡ record { shapes = v.shapes; base = b; runs = v.runs; at = length v.log } → StandsFor base run v.shapes v.log (length v.log) p
  stands v b p g e is = subst (λ (x : Parts B R). StandsFor base run v.shapes v.log (length v.log) x) (sym is) (record {
    made = refl;
    until = refl;
    same = ap (λ (x : BaseOf). x.shapes) i.1;
    parts = can_fold v.shapes v.log v.held.current (base b) (map run v.runs) g.fit g.near i g.runs;
    tables = tables_are v.shapes v.log v.held.current (base b) (map run v.runs) i g.runs;
  })
    where
      i : IsBaseOf v.shapes v.log v.held.current (base b)
      i = current_is (λ n c. IsBaseOf v.shapes v.log n (base c)) v.held.current v.held.bases b g.bases e

  -- THE SAME, AS THE CALLS NEED IT

  -- what the run of the next commit asks of the runs
  abbrev pub IsNext : Versioned B R → R → Type 0
  IsNext v r = (c : Commit) × IsRunOf v.shapes (length v.log) (c ∷ []) (run r)

  pub follow_runs : (v w : Versioned B R) (r x : R) (rs : List R) → v ≡ w → Good v → IsNext w r → x ≡ r → rs ≡ v.runs → Follows (run x) (map run rs)
  follow_runs v w r x rs e g n ex er =
      let k = subst (λ u. IsNext u r) (sym e) n in
      subst (λ (y : R). Follows (run y) (map run rs)) (sym ex)
      (subst (λ (ys : List R). Follows (run r) (map run ys)) (sym er) (over_follows v.shapes v.log v.held.current k.0 (run r) (map run v.runs) g.behind g.runs k.1))

  pub follow_readied : (v w : Versioned B R) (r : R) → v ≡ w → Good v → IsNext w r → (b : Build) → w.building ≡ Some b → b.base ≡ w.held.current → Follows (run r) (map run w.readied)
  follow_readied v w r e g n b o q =
      let k = subst (λ u. Good u) e g in
      let i = build_is w b k o in
      over_follows w.shapes w.log b.at n.0 (run r) (map run w.readied) i.3 (i.4 q) n.1

  current_base : (v : Versioned B R) (d : B) → Good v → base_at v.held.current v.held.bases ≡ Some d → IsBaseOf v.shapes v.log v.held.current (base d)
  current_base v d g e = current_is (λ n c. IsBaseOf v.shapes v.log n (base c)) v.held.current v.held.bases d g.bases e

  pub fold_ready : (v : Versioned B R) (at : ℕ) (b d : B) (rs : List R) → Good v → at ≡ length v.log → base_at v.held.current v.held.bases ≡ Some d → b ≡ d → rs ≡ v.runs → CanFold at (base b) (map run rs)
  fold_ready v at b d rs g ea e eb er =
      subst (λ (n : ℕ). CanFold n (base b) (map run rs)) (sym ea)
      (subst (λ (x : B). CanFold (length v.log) (base x) (map run rs)) (sym eb)
      (subst (λ (xs : List R). CanFold (length v.log) (base d) (map run xs)) (sym er)
      (can_fold v.shapes v.log v.held.current (base d) (map run v.runs) g.fit g.near (current_base v d g e) g.runs)))

  -- the current base was made for the current shapes
  pub fold_extends : (v : Versioned B R) (shapes : Shapes) (b d : B) → Good v → base_at v.held.current v.held.bases ≡ Some d → b ≡ d → Extends v.shapes shapes → Extends (base b).shapes shapes
  fold_extends v shapes b d g e eb x = subst (λ (s : Shapes). Extends s shapes) (sym (ap (λ (y : B). (base y).shapes) eb ∙ ap (λ (y : BaseOf). y.shapes) (current_base v d g e).1)) x

  pub fold_same : (v : Versioned B R) (b d : B) → Good v → base_at v.held.current v.held.bases ≡ Some d → b ≡ d → Extends (base b).shapes v.shapes
  fold_same v b d g e eb = fold_extends v v.shapes b d g e eb (record { tables = λ t shape h. h; edges = λ t shape h. h })

  -- what bases are made for holds of the current shapes
  pub shapes_sound : (sound : Shapes → Type 0) (v : Versioned B R) (b d : B) → Good v → base_at v.held.current v.held.bases ≡ Some d → b ≡ d → sound (base b).shapes → sound v.shapes
  shapes_sound sound v b d g e eb h = subst sound (ap (λ (y : B). (base y).shapes) eb ∙ ap (λ (y : BaseOf). y.shapes) (current_base v d g e).1) h

  fits_more : (old new : Shapes) → Extends old new → (ws : List Write) → FitWrites old ws → FitWrites new ws
  fits_more old new x ws f = each_map (FitsWrite old) (FitsWrite new) (λ w h. (h.0, x.tables w.table.0 h.0 h.1, h.2, h.3)) ws f

  -- all is folded to one base at the head, under other shapes, and no seat has a pin
  pub redefined_good : (v w : Versioned B R) (shapes : Shapes) (b d new folded : B) (h : Held B) (rs qs none : List R) (at seats : ℕ) → v ≡ w → Good v → Extends w.shapes shapes → at ≡ length v.log → base_at v.held.current v.held.bases ≡ Some d → b ≡ d → rs ≡ v.runs
      → new ≡ folded → base folded ≡ record { shapes = shapes; version = at; tables = put_runs (base b).tables (map run rs) } → none ≡ [] → h ≡ record { current = at; bases = (at, new) ∷ []; pins = replicate seats None; build = None }
      → w.building ≡ None → Good (record { shapes = shapes; log = v.log; limit = v.limit; held = h; runs = none; building = v.building; readied = qs })
  redefined_good v w shapes b d new folded h rs qs none at seats e g x ea at_d eb er en ef nothing eh closed =
      let i : IsBaseOf shapes v.log (length v.log) (base new) = folded_is v.shapes shapes v.log v.held.current at (base d) (base new) (map run v.runs) ea (current_base v d g at_d) g.runs
      (ap base en ∙ (ef
      ∙ (ap (λ (y : B). record { shapes = shapes; version = at; tables = put_runs (base y).tables (map run rs) }) eb
      ∙ ap (λ (xs : List R). record { shapes = shapes; version = at; tables = put_runs (base d).tables (map run xs) }) er))) in
      subst (λ (o : Option Build). Good (record { shapes = shapes; log = v.log; limit = v.limit; held = h; runs = none; building = o; readied = qs })) (sym (ap (λ (u : Versioned B R). u.building) e ∙ closed)) (
      subst (λ (y : Held B). Good (record { shapes = shapes; log = v.log; limit = v.limit; held = y; runs = none; building = None; readied = qs })) (sym eh)
      (subst (λ (ys : List R). Good (record { shapes = shapes; log = v.log; limit = v.limit; held = record { current = at; bases = (at, new) ∷ []; pins = replicate seats None; build = None }; runs = ys; building = None; readied = qs })) (sym nothing) (record {
        lawful = g.lawful;
        in_order = g.in_order;
        fit = each_map (λ (c : Commit). FitWrites v.shapes c.writes.list) (λ (c : Commit). FitWrites shapes c.writes.list) (λ c f. fits_more v.shapes shapes (subst (λ (u : Versioned B R). Extends u.shapes shapes) (sym e) x) c.writes.list f) v.log g.fit;
        behind = omega (arith, ea);
        near = omega (arith, ea);
        bases = (subst (λ (n : ℕ). IsBaseOf shapes v.log n (base new)) (sym ea) i, tt);
        runs = subst (λ (n : ℕ). AreRunsOver shapes v.log n []) (sym ea) (over_none shapes v.log);
        build = refl;
      })))

  pub fold_grows : (v w : Versioned B R) (r : R) (at : ℕ) (b d new folded : B) (rs all : List R) → v ≡ w → Good v → at ≡ length v.log → v.held.current + most_over_base ≤ at → base_at v.held.current v.held.bases ≡ Some d → b ≡ d → rs ≡ v.runs
      → new ≡ folded → base folded ≡ record { shapes = v.shapes; version = at; tables = put_runs (base b).tables (map run rs) } → all ≡ r ∷ [] → IsGrown base run w (run r) (Some new) all []
  fold_grows v w r at b d new folded rs all e g ea far at_d eb er en ef el = subst (λ (u : Versioned B R). IsGrown base run u (run r) (Some new) all []) e (
    (let n = g.near in omega (arith, n, far, ea)),
    folded_is v.shapes v.shapes v.log v.held.current at (base d) (base new) (map run v.runs) ea
        (current_is (λ n c. IsBaseOf v.shapes v.log n (base c)) v.held.current v.held.bases d g.bases at_d) g.runs
        (ap base en ∙ (ef
        ∙ (ap (λ (x : B). record { shapes = v.shapes; version = at; tables = put_runs (base x).tables (map run rs) }) eb
        ∙ ap (λ (xs : List R). record { shapes = v.shapes; version = at; tables = put_runs (base d).tables (map run xs) }) er))),
    ap (λ (xs : List R). map run xs) el,
  )

  pub commit_good : (v w : Versioned B R) (c : Commit) (r : R) (new : Option B) (runs readied : List R) (log : List Commit) (h : Held B) (at : ℕ) → v ≡ w → Good v → IsTaken w.limit w.log c → FitWrites w.shapes c.writes.list → writes.IsInOrder c.writes.list
      → IsRunOf w.shapes (length w.log) (c ∷ []) (run r) → IsGrown base run w (run r) new runs readied → log ≡ v.log ++ c ∷ [] → at ≡ length v.log → h ≡ held_after v.held at new → Good (record v { log = log; held = h; runs = runs; readied = readied })
  commit_good v w c r new runs readied log h at e g t f o i k el ea eh = good_as v c (run r) new runs readied log h at g
      (subst (λ (u : Versioned B R). IsTaken u.limit u.log c) (sym e) t)
      (subst (λ (u : Versioned B R). FitWrites u.shapes c.writes.list) (sym e) f) o
      (subst (λ (u : Versioned B R). IsRunOf u.shapes (length u.log) (c ∷ []) (run r)) (sym e) i)
      (subst (λ (u : Versioned B R). IsGrown base run u (run r) new runs readied) (sym e) k) el ea eh

  pub commit_above : (v w : Versioned B R) (r : R) (new : Option B) (runs readied : List R) (at : ℕ) → v ≡ w → IsGrown base run w (run r) new runs readied → at ≡ length v.log → (b : B) → new ≡ Some b → v.held.current < at
  commit_above v w r new runs readied at e k ea b eb = above_current v (run r) new b runs readied at (subst (λ (u : Versioned B R). IsGrown base run u (run r) new runs readied) (sym e) k) ea eb

  pub commit_moves : (v w : Versioned B R) (c : Commit) (r : R) (new : Option B) (runs readied : List R) (log : List Commit) (h : Held B) (at : ℕ) → v ≡ w → Good v → IsGrown base run w (run r) new runs readied → log ≡ v.log ++ c ∷ [] → at ≡ length v.log → h ≡ held_after v.held at new
      → Moves w (record v { log = log; held = h; runs = runs; readied = readied }) (λ (k : Core). record k { log = k.log ++ c ∷ []; base = base_after k.base (length k.log) })
  commit_moves v w c r new runs readied log h at e g k el ea eh = subst (λ (u : Versioned B R). Moves u (record v { log = log; held = h; runs = runs; readied = readied }) (λ (k : Core). record k { log = k.log ++ c ∷ []; base = base_after k.base (length k.log) })) e
      (grown_moves v c (run r) new runs readied log h at (subst (λ (u : Versioned B R). IsGrown base run u (run r) new runs readied) (sym e) k) el ea eh g.behind)

  pub parts_stand : (v w : Versioned B R) (d b : B) (shapes : Shapes) (rs : List R) (at : ℕ) → v ≡ w → Good v → base_at v.held.current v.held.bases ≡ Some d → shapes ≡ v.shapes → b ≡ d → rs ≡ v.runs → at ≡ length v.log
      → StandsFor base run w.shapes w.log (length w.log) (record { shapes = shapes; base = b; runs = rs; at = at })
  parts_stand v w d b shapes rs at e g at_d es eb er ea = subst (λ (u : Versioned B R). StandsFor base run u.shapes u.log (length u.log) (record { shapes = shapes; base = b; runs = rs; at = at })) e
      (stands v d (record { shapes = shapes; base = b; runs = rs; at = at }) g at_d
      (ap (λ (s : Shapes). record { shapes = s; base = b; runs = rs; at = at }) es
      ∙ (ap (λ (x : B). record { shapes = v.shapes; base = x; runs = rs; at = at }) eb
      ∙ (ap (λ (xs : List R). record { shapes = v.shapes; base = d; runs = xs; at = at }) er
      ∙ ap (λ (n : ℕ). record { shapes = v.shapes; base = d; runs = v.runs; at = n }) ea))))

  pub end_good : (v : Versioned B R) (h : Held B) (rs : List R) (seat : ℕ) → Good v → h ≡ after_build v.held seat → Good (record v { held = h; building = None; readied = rs })
  end_good v h rs seat g e = subst (λ (x : Held B). Good (record v { held = x; building = None; readied = rs })) (sym e) (let k = good_end v seat g in record {
    lawful = k.lawful;
    in_order = k.in_order;
    fit = k.fit;
    behind = k.behind;
    near = k.near;
    bases = k.bases;
    runs = k.runs;
    build = refl;
  })

  pub install_good : (v w : Versioned B R) (b : Build) (new : B) (h i : Held B) (rs qs : List R) → v ≡ w → Good v → w.building ≡ Some b → b.base ≡ w.held.current → IsBaseOf w.shapes w.log b.at (base new)
      → i ≡ after_build v.held b.seat → h ≡ after_install i b.at new → rs ≡ v.readied → Good (record v { held = h; runs = rs; building = None; readied = qs })
  install_good v w b new h i rs qs e g o same is ei eh er =
      subst (λ (x : Held B). Good (record v { held = x; runs = rs; building = None; readied = qs })) (sym (eh ∙ ap (λ (y : Held B). after_install y b.at new) ei))
      (subst (λ (xs : List R). Good (record v { held = after_install (after_build v.held b.seat) b.at new; runs = xs; building = None; readied = qs })) (sym er)
      (let k = good_install v b new g (subst (λ (u : Versioned B R). u.building ≡ Some b) (sym e) o) (subst (λ (u : Versioned B R). b.base ≡ u.held.current) (sym e) same) (subst (λ (u : Versioned B R). IsBaseOf u.shapes u.log b.at (base new)) (sym e) is) in record {
        lawful = k.lawful;
        in_order = k.in_order;
        fit = k.fit;
        behind = k.behind;
        near = k.near;
        bases = k.bases;
        runs = k.runs;
        build = refl;
      }))

  -- WHAT THE CORE BECOMES

  pub released_moves : (v : Versioned B R) (h : Held B) (seat : ℕ) (result : Bool) → Released v.held h seat result → Moves v (record v { held = h }) (λ (c : Core). record c { pins = slice_set c.pins seat None })
  released_moves v h seat false r counts over stopped peak = ap (λ (x : Held B). standing_of (record v { held = x }) counts over stopped peak) r.1
      ∙ ap (λ (ps : List (Option ℕ)). standing_of (record v { held = record v.held { pins = ps } }) counts over stopped peak) (same v.held.pins seat r.0)
    where
      same : (ps : List (Option ℕ)) (s : ℕ) → get_or ps s None ≡ None → ps ≡ slice_set ps s None
      same [] s e = refl
      same (p ∷ ps) zero e = ap (λ q. q ∷ ps) e
      same (p ∷ ps) (suc s) e = ap (λ qs. p ∷ qs) (same ps s e)
  released_moves v h seat true r counts over stopped peak = ap (λ (x : Held B). standing_of (record v { held = x }) counts over stopped peak) r.1
