-- Installing keeps the list within its room: bases with different numbers, each pinned, are no more than the seats.
use Rattle.std.proofs.Common.{◌≡◌, ℕ, zero, suc, ◌+◌, ◌<◌, ◌≤◌, List, [], ◌∷◌, ◌++◌, length, Bool, true, false, cond, not, ◌||◌, ◌==◌, le_trans, refl, ap, sym, subst, ◌∙◌, ◌⊎◌, inl, inr, arith, length-append, get_or, ◌-◌}
use Rattle.std.proofs.lemmas.List.Sums.{count_by-le-length, sum_by-cons}
use Rattle.std.proofs.lemmas.List.{length-replicate, length-set}
use Rattle.std.proofs.lemmas.Bool.{eqb-true, eq-eqb}
use Rattle.std.specs.List.{filter, find, list_any, count_by}
use Rattle.std.specs.Option.{option_map}
use Rattle.std.specs.Prelude.{Option, Some, None, slice_set, replicate, is_some}
use Rattle.pg_keyed.specs.Lists.{Each, each_map, each_append, each_filter, each_kept}
use Rattle.pg_pins.specs.Held.{Held, is_pin, pinned, is_needed, needed, Rises, pin_of, after_pin, after_install, with_pins, Listed, IsKept, base_at}

pub false_true : false ≡ true → ⊥
false_true h = cc

pub or_right : (p q : Bool) → q ≡ true → (p || q) ≡ true
or_right true q h = refl
or_right false q h = h

pub or_left : (p q : Bool) → p ≡ true → (p || q) ≡ true
or_left true q h = refl
or_left false q h = cc

none_some : (s : ℕ) → None ≡ Some s → ⊥
none_some s e = cc

some_same : (s t : ℕ) → Some s ≡ Some t → s ≡ t
some_same s t e = cc

-- which seats have a pin after one is set, or taken away
pub held_seat : (ps : List (Option ℕ)) (s : ℕ) → is_some (get_or ps s None) ≡ true → s < length ps
held_seat [] s h = absurd (false_true h)
held_seat (p ∷ ps) zero h = omega arith
held_seat (p ∷ ps) (suc s) h = let r = held_seat ps s h in omega arith

pub still_held : (ps : List (Option ℕ)) (seat s m : ℕ) → is_some (get_or ps s None) ≡ true → is_some (get_or (slice_set ps seat (Some m)) s None) ≡ true
still_held [] seat s m h = h
still_held (p ∷ ps) zero zero m h = refl
still_held (p ∷ ps) zero (suc s) m h = h
still_held (p ∷ ps) (suc seat) zero m h = h
still_held (p ∷ ps) (suc seat) (suc s) m h = still_held ps seat s m h

pub others_held : (ps : List (Option ℕ)) (seat s : ℕ) → (s ≡ seat → ⊥) → is_some (get_or ps s None) ≡ true → is_some (get_or (slice_set ps seat None) s None) ≡ true
others_held [] seat s n h = h
others_held (p ∷ ps) zero zero n h = absurd (n refl)
others_held (p ∷ ps) zero (suc s) n h = h
others_held (p ∷ ps) (suc seat) zero n h = h
others_held (p ∷ ps) (suc seat) (suc s) n h = others_held ps seat s (λ e. n (ap suc e)) h

pub set_held : (ps : List (Option ℕ)) (seat m : ℕ) → seat < length ps → is_some (get_or (slice_set ps seat (Some m)) seat None) ≡ true
set_held [] seat m l = absurd (omega arith)
set_held (p ∷ ps) zero m l = refl
set_held (p ∷ ps) (suc seat) m l = let k : seat < length ps = omega arith in set_held ps seat m k

-- a pin that is set, or taken away
pub pinned_set : (n m : ℕ) (ps : List (Option ℕ)) (seat : ℕ) → pinned n (slice_set ps seat (Some m)) ≡ true → (m ≡ n) ⊎ (pinned n ps ≡ true)
pinned_set n m [] seat h = absurd (false_true h)
pinned_set n m (p ∷ ps) zero h = go (m == n) refl h
  where
    go : (c : Bool) → (m == n) ≡ c → (c || pinned n ps) ≡ true → (m ≡ n) ⊎ (pinned n (p ∷ ps) ≡ true)
    go true e k = inl (eqb-true m n e)
    go false e k = inr (or_right (is_pin n p) (pinned n ps) k)
pinned_set n m (p ∷ ps) (suc seat) h = go (is_pin n p) h (λ k. pinned_set n m ps seat k)
  where
    go : (c : Bool) → (c || pinned n (slice_set ps seat (Some m))) ≡ true → (pinned n (slice_set ps seat (Some m)) ≡ true → (m ≡ n) ⊎ (pinned n ps ≡ true)) → (m ≡ n) ⊎ ((c || pinned n ps) ≡ true)
    go true k again = inr refl
    go false k again = again k

pub pinned_none : (n : ℕ) (ps : List (Option ℕ)) (seat : ℕ) → pinned n (slice_set ps seat None) ≡ true → pinned n ps ≡ true
pinned_none n [] seat h = h
pinned_none n (p ∷ ps) zero h = or_right (is_pin n p) (pinned n ps) h
pinned_none n (p ∷ ps) (suc seat) h = go (is_pin n p) h (λ k. pinned_none n ps seat k)
  where
    go : (c : Bool) → (c || pinned n (slice_set ps seat None)) ≡ true → (pinned n (slice_set ps seat None) ≡ true → pinned n ps ≡ true) → (c || pinned n ps) ≡ true
    go true k again = refl
    go false k again = again k

-- a free seat's pin adds to the pinned
pub still_pinned : (n m : ℕ) (ps : List (Option ℕ)) (seat : ℕ) → get_or ps seat None ≡ None → pinned n ps ≡ true → pinned n (slice_set ps seat (Some m)) ≡ true
still_pinned n m [] seat f h = absurd (false_true h)
still_pinned n m (p ∷ ps) zero f h = or_right (m == n) (pinned n ps) (subst (λ q. (is_pin n q || pinned n ps) ≡ true) f h)
still_pinned n m (p ∷ ps) (suc seat) f h = go (is_pin n p) h (λ k. still_pinned n m ps seat f k)
  where
    go : (c : Bool) → (c || pinned n ps) ≡ true → (pinned n ps ≡ true → pinned n (slice_set ps seat (Some m)) ≡ true) → (c || pinned n (slice_set ps seat (Some m))) ≡ true
    go true k again = refl
    go false k again = again k

pub no_pins : (n seats : ℕ) → pinned n (replicate seats None) ≡ false
no_pins n zero = refl
no_pins n (suc seats) = no_pins n seats

module _ {B : Type 0} where
  abbrev pub without : ℕ → List (ℕ × B) → List (ℕ × B)
  without n bs = filter (λ b. not (n == b.0)) bs

  pub rises_filter : (t : (ℕ × B) → Bool) (bs : List (ℕ × B)) → Rises bs → Rises (filter t bs)
  rises_filter t [] h = tt
  rises_filter t (b ∷ bs) h = elim (t b) as (λ c. Rises (cond c (b ∷ filter t bs) (filter t bs))) [ true ↦ (each_filter (λ d. b.0 < d.0) t bs h.0, rises_filter t bs h.1) | false ↦ rises_filter t bs h.1 ]

  pub rises_append : (bs : List (ℕ × B)) (b : ℕ × B) → Rises bs → Each (λ d. d.0 < b.0) bs → Rises (bs ++ b ∷ [])
  rises_append [] b h l = (tt, tt)
  rises_append (c ∷ bs) b h l = (each_append (λ d. c.0 < d.0) bs (b ∷ []) h.0 (l.0, tt), rises_append bs b h.1 l.1)

  -- those with other numbers, where all are above n, are all
  above_stay : (n : ℕ) (bs : List (ℕ × B)) → Each (λ d. n < d.0) bs → length (without n bs) ≡ length bs
  above_stay n [] h = refl
  above_stay n (b ∷ bs) h = go (n == b.0) refl (above_stay n bs h.1)
    where
      go : (c : Bool) → (n == b.0) ≡ c → length (without n bs) ≡ length bs → length (cond (not c) (b ∷ without n bs) (without n bs)) ≡ suc (length bs)
      go true e r = let q : n ≡ b.0 = eqb-true n b.0 e in let l : n < b.0 = h.0 in absurd (omega arith)
      go false e r = ap suc r

  pub one_less : (n : ℕ) (bs : List (ℕ × B)) → Rises bs → length bs ≤ length (without n bs) + 1
  one_less n [] h = omega arith
  one_less n (b ∷ bs) h = go (n == b.0) refl (one_less n bs h.1)
    where
      go : (c : Bool) → (n == b.0) ≡ c → length bs ≤ length (without n bs) + 1 → suc (length bs) ≤ length (cond (not c) (b ∷ without n bs) (without n bs)) + 1
      go true e r = let q : n ≡ b.0 = eqb-true n b.0 e in let s = above_stay n bs (subst (λ m. Each (λ d. m < d.0) bs) (sym q) h.0) in omega arith
      go false e r = omega arith

  others_pinned : (m : ℕ) (ps : List (Option ℕ)) (bs : List (ℕ × B)) → Each (λ b. pinned b.0 (Some m ∷ ps) ≡ true) bs → Each (λ b. pinned b.0 ps ≡ true) (without m bs)
  others_pinned m ps [] h = tt
  others_pinned m ps (b ∷ bs) h = go (m == b.0) (others_pinned m ps bs h.1) h.0
    where
      go : (c : Bool) → Each (λ b. pinned b.0 ps ≡ true) (without m bs) → (c || pinned b.0 ps) ≡ true → Each (λ b. pinned b.0 ps ≡ true) (cond (not c) (b ∷ without m bs) (without m bs))
      go true r e = r
      go false r e = (e, r)

  -- the pigeonhole
  pub no_more : (ps : List (Option ℕ)) (bs : List (ℕ × B)) → Rises bs → Each (λ b. pinned b.0 ps ≡ true) bs → length bs ≤ count_by is_some ps
  no_more [] [] r h = omega arith
  no_more [] (b ∷ bs) r h = absurd (false_true h.0)
  no_more (None ∷ ps) bs r h = no_more ps bs r h
  no_more (Some m ∷ ps) bs r h = let w = no_more ps (without m bs) (rises_filter (λ b. not (m == b.0)) bs r) (others_pinned m ps bs h) in let o = one_less m bs r in let c : count_by is_some (Some m ∷ ps) ≡ 1 + count_by is_some ps = sum_by-cons (λ (x : Option ℕ). cond (is_some x) 1 0) (Some m) ps in omega (arith, c)

  -- the last stays where its test says so
  pub last_stays : (t : (ℕ × B) → Bool) (front : List (ℕ × B)) (b : ℕ × B) → t b ≡ true → filter t (front ++ b ∷ []) ≡ filter t front ++ b ∷ []
  last_stays t [] b h = ap (λ c. cond c (b ∷ []) []) h
  last_stays t (x ∷ xs) b h = elim (t x) as (λ c. cond c (x ∷ filter t (xs ++ b ∷ [])) (filter t (xs ++ b ∷ [])) ≡ cond c (x ∷ filter t xs) (filter t xs) ++ b ∷ []) [ true ↦ ap (λ ys. x ∷ ys) (last_stays t xs b h) | false ↦ last_stays t xs b h ]

  -- all numbers are at most the last
  below_last : (front : List (ℕ × B)) (b : ℕ × B) (n : ℕ) → Rises (front ++ b ∷ []) → b.0 < n → Each (λ d. d.0 < n) (front ++ b ∷ [])
  below_last [] b n r l = (l, tt)
  below_last (x ∷ xs) b n r l = (go xs r.0, below_last xs b n r.1 l)
    where
      go : (xs : List (ℕ × B)) → Each (λ d. x.0 < d.0) (xs ++ b ∷ []) → x.0 < n
      go [] h = let a : x.0 < b.0 = h.0 in omega arith
      go (y ∷ ys) h = go ys h.1

  -- a base that the test keeps is listed still
  listed_filter : (t : (ℕ × B) → Bool) (n : ℕ) (bs : List (ℕ × B)) → ((b : ℕ × B) → (b.0 == n) ≡ true → t b ≡ true) → Listed n bs → Listed n (filter t bs)
  listed_filter t n [] f h = h
  listed_filter t n (b ∷ bs) f h = go (b.0 == n) refl (t b) refl (λ k. listed_filter t n bs f k) h
    where
      go : (c : Bool) → (b.0 == n) ≡ c → (d : Bool) → t b ≡ d → (Listed n bs → Listed n (filter t bs)) → (c || list_any (λ (b : ℕ × B). b.0 == n) bs) ≡ true → Listed n (cond d (b ∷ filter t bs) (filter t bs))
      go true e true u again k = ap (λ c. c || list_any (λ (b : ℕ × B). b.0 == n) (filter t bs)) e
      go true e false u again k = absurd (false_true (sym u ∙ f b e))
      go false e true u again k = ap (λ c. c || list_any (λ (b : ℕ × B). b.0 == n) (filter t bs)) e ∙ again k
      go false e false u again k = again k

  listed_append : (n : ℕ) (bs : List (ℕ × B)) (b : ℕ × B) → Listed n bs → Listed n (bs ++ b ∷ [])
  listed_append n [] b h = absurd (false_true h)
  listed_append n (x ∷ xs) b h = go (x.0 == n) h (λ k. listed_append n xs b k)
    where
      go : (c : Bool) → (c || list_any (λ (b : ℕ × B). b.0 == n) xs) ≡ true → (Listed n xs → Listed n (xs ++ b ∷ [])) → (c || list_any (λ (b : ℕ × B). b.0 == n) (xs ++ b ∷ [])) ≡ true
      go true k again = refl
      go false k again = again k

  -- where pins are dropped, and none is added
  pub kept_less : (h : Held B) (ps : List (Option ℕ)) (u : Option ℕ) → IsKept h → ((n : ℕ) → pinned n ps ≡ true → pinned n h.pins ≡ true) → ((s : ℕ) → u ≡ Some s → is_some (get_or ps s None) ≡ true) → IsKept (with_pins h ps u)
  kept_less h ps u k less open_seat = record {
    rises = rises_filter (is_needed h.current ps) h.bases k.rises;
    latest = (filter (is_needed h.current ps) k.latest.0, k.latest.1, ap (filter (is_needed h.current ps)) k.latest.2 ∙ last_stays (is_needed h.current ps) k.latest.0 (h.current, k.latest.1) (or_left (h.current == h.current) (pinned h.current ps) (eq-eqb h.current h.current refl)));
    listed = λ n p. listed_filter (is_needed h.current ps) n h.bases (λ b e. or_right (b.0 == h.current) (pinned b.0 ps) (ap (λ m. pinned m ps) (eqb-true b.0 n e) ∙ p)) (k.listed n (less n p));
    only = each_kept (is_needed h.current ps) h.bases;
    building = open_seat;
  }

  -- a new base behind those that are pinned
  pub kept_more : (h : Held B) (n : ℕ) (base : B) → IsKept h → h.current < n → IsKept (after_install h n base)
  kept_more h n base k l =
      let t = is_needed n h.pins in
      let below : Each (λ d. d.0 < n) h.bases = subst (λ bs. Each (λ d. d.0 < n) bs) (sym k.latest.2) (below_last k.latest.0 (h.current, k.latest.1) n (subst (λ bs. Rises bs) k.latest.2 k.rises) l) in
      record {
        rises = rises_append (filter t h.bases) (n, base) (rises_filter t h.bases k.rises) (each_filter (λ d. d.0 < n) t h.bases below);
        latest = (filter t h.bases, base, refl);
        listed = λ m p. listed_append m (filter t h.bases) (n, base) (listed_filter t m h.bases (λ b e. or_right (b.0 == n) (pinned b.0 h.pins) (ap (λ j. pinned j h.pins) (eqb-true b.0 m e) ∙ p)) (k.listed m p));
        only = each_append (λ b. t b ≡ true) (filter t h.bases) ((n, base) ∷ []) (each_kept t h.bases) (or_left (n == n) (pinned n h.pins) (eq-eqb n n refl), tt);
        building = k.building;
      }

  -- what stays before it is pinned, and so no more than the seats
  pub few : (h : Held B) (n : ℕ) → IsKept h → h.current < n → length (needed n h.pins h.bases) ≤ length h.pins
  few h n k l =
      let t = is_needed n h.pins in
      let below : Each (λ d. d.0 < n) h.bases = subst (λ bs. Each (λ d. d.0 < n) bs) (sym k.latest.2) (below_last k.latest.0 (h.current, k.latest.1) n (subst (λ bs. Rises bs) k.latest.2 k.rises) l) in
      le_trans (no_more h.pins (filter t h.bases) (rises_filter t h.bases k.rises) (both (filter t h.bases) (each_filter (λ d. d.0 < n) t h.bases below) (each_kept t h.bases))) (count_by-le-length is_some h.pins)
    where
      one : (m : ℕ) → m < n → (c : Bool) → (m == n) ≡ c → (c || pinned m h.pins) ≡ true → pinned m h.pins ≡ true
      one m l true e k = let q : m ≡ n = eqb-true m n e in absurd (omega arith)
      one m l false e k = k

      both : (bs : List (ℕ × B)) → Each (λ d. d.0 < n) bs → Each (λ b. is_needed n h.pins b ≡ true) bs → Each (λ b. pinned b.0 h.pins ≡ true) bs
      both [] a b = tt
      both (x ∷ xs) a b = (one x.0 a.0 (x.0 == n) refl b.0, both xs a.1 b.1)

  pub kept_new : (n seats : ℕ) (base : B) → IsKept (record { current = n; bases = (n, base) ∷ []; pins = replicate seats None; build = None })
  kept_new n seats base = record {
    rises = (tt, tt);
    latest = ([], base, refl);
    listed = λ m p. absurd (false_true (sym (no_pins m seats) ∙ p));
    only = (or_left (n == n) (pinned n (replicate seats None)) (eq-eqb n n refl), tt);
    building = λ s e. absurd (none_some s e);
  }

  listed_last : (front : List (ℕ × B)) (b : ℕ × B) → Listed b.0 (front ++ b ∷ [])
  listed_last [] b = or_left (b.0 == b.0) false (eq-eqb b.0 b.0 refl)
  listed_last (x ∷ xs) b = or_right (x.0 == b.0) (list_any (λ (d : ℕ × B). d.0 == b.0) (xs ++ b ∷ [])) (listed_last xs b)

  pub last_listed : (h : Held B) → IsKept h → Listed h.current h.bases
  last_listed h k = subst (λ bs. Listed h.current bs) (sym k.latest.2) (listed_last k.latest.0 (h.current, k.latest.1))

  pub kept_pin : (h : Held B) (seat : ℕ) → IsKept h → pin_of h seat ≡ None → IsKept (after_pin h seat)
  kept_pin h seat k free = record {
    rises = k.rises;
    latest = k.latest;
    listed = λ n p. elim (pinned_set n h.current h.pins seat p) [
      | inl e ↦ subst (λ m. Listed m h.bases) e (last_listed h k)
      | inr q ↦ k.listed n q
    ];
    only = each_map (λ b. is_needed h.current h.pins b ≡ true) (λ b. is_needed h.current (slice_set h.pins seat (Some h.current)) b ≡ true)
        (λ b. go b.0 (b.0 == h.current)) h.bases k.only;
    building = λ s e. still_held h.pins seat s h.current (k.building s e);
  }
    where
      go : (m : ℕ) (c : Bool) → (c || pinned m h.pins) ≡ true → (c || pinned m (slice_set h.pins seat (Some h.current))) ≡ true
      go m true e = refl
      go m false e = still_pinned m h.current h.pins seat free e

  -- the same for the fields of a `Kept`, and the capacity k of its list
  abbrev pub Whole : ℕ → List (ℕ × B) → List (Option ℕ) → Option ℕ → ℕ → Type 0
  Whole c bs ps u k = IsKept (record { current = c; bases = bs; pins = ps; build = u }) × (length ps + 1 ≤ k)

  pub whole_new : (n seats k : ℕ) (base : B) (bs : List (ℕ × B)) (ps : List (Option ℕ)) → bs ≡ (n, base) ∷ [] → ps ≡ replicate seats None → seats + 1 ≤ k → Whole n bs ps None k
  whole_new n seats k base bs ps e f l = subst (λ (x : List (ℕ × B)). Whole n x ps None k) (sym e) (subst (λ (x : List (Option ℕ)). Whole n ((n, base) ∷ []) x None k) (sym f) (kept_new n seats base, (let z : Option ℕ = None in let w = length-replicate seats z in omega arith)))

  pub whole_pin : (c : ℕ) (bs : List (ℕ × B)) (ps : List (Option ℕ)) (u : Option ℕ) (k seat : ℕ) → Whole c bs ps u k → get_or ps seat None ≡ None → Whole c bs (slice_set ps seat (Some c)) u k
  whole_pin c bs ps u k seat w f = (kept_pin (record { current = c; bases = bs; pins = ps; build = u }) seat w.0 f, (let z : Option ℕ = Some c in let l = length-set ps seat z in let r = w.1 in omega arith))

  -- a pin goes, and another build is open or none
  whole_less : (c : ℕ) (bs bs' : List (ℕ × B)) (ps qs : List (Option ℕ)) (u v : Option ℕ) (k k' seat : ℕ) → Whole c bs ps u k → ((s : ℕ) → v ≡ Some s → is_some (get_or (slice_set ps seat None) s None) ≡ true) → qs ≡ slice_set ps seat None → bs' ≡ needed c qs bs → k' ≡ k → Whole c bs' (slice_set ps seat None) v k'
  whole_less c bs bs' ps qs u v k k' seat w b q e f =
      let z : Option ℕ = None in
      let l = length-set ps seat z in
      let r = w.1 in
      subst (λ (x : List (ℕ × B)). Whole c x (slice_set ps seat None) v k') (sym (e ∙ ap (λ x. needed c x bs) q))
      (kept_less (record { current = c; bases = bs; pins = ps; build = u }) (slice_set ps seat None) v w.0 (λ n h. pinned_none n ps seat h) b, omega arith)

  pub whole_release : (c : ℕ) (bs bs' : List (ℕ × B)) (ps qs : List (Option ℕ)) (u : Option ℕ) (k k' seat : ℕ) → Whole c bs ps u k → (u ≡ Some seat → ⊥) → qs ≡ slice_set ps seat None → bs' ≡ needed c qs bs → k' ≡ k → Whole c bs' (slice_set ps seat None) u k'
  whole_release c bs bs' ps qs u k k' seat w n q e f =
      whole_less c bs bs' ps qs u u k k' seat w (λ s b. others_held ps seat s (λ i. n (b ∙ ap (λ j. Some j) i)) (w.0.building s b)) q e f

  pub whole_end : (c : ℕ) (bs bs' : List (ℕ × B)) (ps qs : List (Option ℕ)) (u : Option ℕ) (k k' seat : ℕ) → Whole c bs ps u k → qs ≡ slice_set ps seat None → bs' ≡ needed c qs bs → k' ≡ k → Whole c bs' (slice_set ps seat None) None k'
  whole_end c bs bs' ps qs u k k' seat w q e f = whole_less c bs bs' ps qs u None k k' seat w (λ s b. absurd (none_some s b)) q e f

  pub whole_begin : (c : ℕ) (bs : List (ℕ × B)) (ps : List (Option ℕ)) (u : Option ℕ) (k seat : ℕ) → Whole c bs ps u k → seat < length ps → get_or ps seat None ≡ None → Whole c bs (slice_set ps seat (Some c)) (Some seat) k
  whole_begin c bs ps u k seat w l f =
      let p = whole_pin c bs ps u k seat w f in
      (record { rises = p.0.rises; latest = p.0.latest; listed = p.0.listed; only = p.0.only; building = λ s e. subst (λ t. is_some (get_or (slice_set ps seat (Some c)) t None) ≡ true) (some_same seat s e) (set_held ps seat c l) }, p.1)

  pub whole_install : (c n : ℕ) (base : B) (bs cs bs' : List (ℕ × B)) (ps qs : List (Option ℕ)) (u : Option ℕ) (k k' k'' : ℕ) → Whole c bs ps u k → c < n → qs ≡ ps → cs ≡ needed n qs bs → bs' ≡ cs ++ (n, base) ∷ [] → k' ≡ k → k'' ≡ k' → Whole n bs' ps u k''
  whole_install c n base bs cs bs' ps qs u k k' k'' w l q e f a b =
      let r = w.1 in
      subst (λ (x : List (ℕ × B)). Whole n x ps u k'') (sym (f ∙ ap (λ x. x ++ (n, base) ∷ []) (e ∙ ap (λ x. needed n x bs) q)))
      (kept_more (record { current = c; bases = bs; pins = ps; build = u }) n base w.0 l, omega arith)

  pub room_for : (c n : ℕ) (bs cs : List (ℕ × B)) (ps qs : List (Option ℕ)) (u : Option ℕ) (k k' : ℕ) → Whole c bs ps u k → c < n → qs ≡ ps → cs ≡ needed n qs bs → k' ≡ k → length cs < k'
  room_for c n bs cs ps qs u k k' w l q e a =
      let m = few (record { current = c; bases = bs; pins = ps; build = u }) n w.0 l in
      let g = ap length (e ∙ ap (λ x. needed n x bs) q) in
      let r = w.1 in omega arith

  -- each base but the current one is pinned
  pub few_bases : (h : Held B) → IsKept h → length h.bases ≤ count_by is_some h.pins + 1
  few_bases h k =
      let r : Rises (k.latest.0 ++ (h.current, k.latest.1) ∷ []) = subst (λ bs. Rises bs) k.latest.2 k.rises in
      let o : Each (λ b. is_needed h.current h.pins b ≡ true) (k.latest.0 ++ (h.current, k.latest.1) ∷ []) = subst (λ bs. Each (λ b. is_needed h.current h.pins b ≡ true) bs) k.latest.2 k.only in
      let m = no_more h.pins k.latest.0 (front_rises k.latest.0 (h.current, k.latest.1) r) (front_pinned k.latest.0 k.latest.1 r o) in
      let l = ap length k.latest.2 in
      let a = length-append k.latest.0 ((h.current, k.latest.1) ∷ []) in
      omega arith
    where
      front_each : (P : (ℕ × B) → Type 0) (bs : List (ℕ × B)) (b : ℕ × B) → Each P (bs ++ b ∷ []) → Each P bs
      front_each P [] b e = tt
      front_each P (x ∷ xs) b e = (e.0, front_each P xs b e.1)

      front_rises : (bs : List (ℕ × B)) (b : ℕ × B) → Rises (bs ++ b ∷ []) → Rises bs
      front_rises [] b e = tt
      front_rises (x ∷ xs) b e = (front_each (λ d. x.0 < d.0) xs b e.0, front_rises xs b e.1)

      last_of : (P : (ℕ × B) → Type 0) (bs : List (ℕ × B)) (b : ℕ × B) → Each P (bs ++ b ∷ []) → P b
      last_of P [] b e = e.0
      last_of P (x ∷ xs) b e = last_of P xs b e.1

      pick : (m : ℕ) (c : Bool) → m < h.current → (m == h.current) ≡ c → (c || pinned m h.pins) ≡ true → pinned m h.pins ≡ true
      pick m true l e n = let q : m ≡ h.current = eqb-true m h.current e in absurd (omega arith)
      pick m false l e n = n

      front_pinned : (bs : List (ℕ × B)) (b : B) → Rises (bs ++ (h.current, b) ∷ []) → Each (λ b. is_needed h.current h.pins b ≡ true) (bs ++ (h.current, b) ∷ []) → Each (λ b. pinned b.0 h.pins ≡ true) bs
      front_pinned [] b r o = tt
      front_pinned (x ∷ xs) b r o = (pick x.0 (x.0 == h.current) (last_of (λ d. x.0 < d.0) xs (h.current, b) r.0) refl o.0, front_pinned xs b r.1 o.1)

  pub few_counted : (c : ℕ) (bs : List (ℕ × B)) (ps : List (Option ℕ)) (u : Option ℕ) (k : ℕ) → Whole c bs ps u k → length bs ≤ count_by is_some ps + 1
  few_counted c bs ps u k w = few_bases (record { current = c; bases = bs; pins = ps; build = u }) w.0

  -- the current base is the last
  last_is : (c : ℕ) (front : List (ℕ × B)) (b : B) → Rises (front ++ (c, b) ∷ []) → base_at c (front ++ (c, b) ∷ []) ≡ Some b
  last_is c [] b r = ap (λ (t : Bool). option_map (λ (x : ℕ × B). x.1) (cond t (Some (c, b)) None)) (eq-eqb c c refl)
  last_is c (x ∷ xs) b r = go (x.0 == c) refl (last_is c xs b r.1)
    where
      below : (ys : List (ℕ × B)) → Each (λ d. x.0 < d.0) (ys ++ (c, b) ∷ []) → x.0 < c
      below [] h = h.0
      below (y ∷ ys) h = below ys h.1

      go : (t : Bool) → (x.0 == c) ≡ t → base_at c (xs ++ (c, b) ∷ []) ≡ Some b → option_map (λ (x : ℕ × B). x.1) (cond t (Some x) (find (λ (d : ℕ × B). d.0 == c) (xs ++ (c, b) ∷ []))) ≡ Some b
      go true e k = let q : x.0 ≡ c = eqb-true x.0 c e in let l = below xs r.0 in absurd (omega arith)
      go false e k = k

  last_item : (front : List (ℕ × B)) (x d : ℕ × B) → get_or (front ++ x ∷ []) (length (front ++ x ∷ []) - 1) d ≡ x
  last_item front x d = let l = length-append front (x ∷ []) in let e : length (front ++ x ∷ []) - 1 ≡ length front = omega arith in ap (λ i. get_or (front ++ x ∷ []) i d) e ∙ at_end front
    where
      at_end : (ys : List (ℕ × B)) → get_or (ys ++ x ∷ []) (length ys) d ≡ x
      at_end [] = refl
      at_end (y ∷ ys) = at_end ys

  pub some_base : (c : ℕ) (bs : List (ℕ × B)) (ps : List (Option ℕ)) (u : Option ℕ) (k : ℕ) → Whole c bs ps u k → 0 < length bs
  some_base c bs ps u k w = let l = ap length w.0.latest.2 in let a = length-append w.0.latest.0 ((c, w.0.latest.1) ∷ []) in omega arith

  pub current_base : (c : ℕ) (bs : List (ℕ × B)) (ps : List (Option ℕ)) (u : Option ℕ) (k : ℕ) (d : ℕ × B) → Whole c bs ps u k → base_at c bs ≡ Some ((get_or bs (length bs - 1) d).1)
  current_base c bs ps u k d w =
      let front = w.0.latest.0 in
      let b = w.0.latest.1 in
      let r : Rises (front ++ (c, b) ∷ []) = subst (λ ys. Rises ys) w.0.latest.2 w.0.rises in
      let e : base_at c (front ++ (c, b) ∷ []) ≡ Some ((get_or (front ++ (c, b) ∷ []) (length (front ++ (c, b) ∷ []) - 1) d).1) = last_is c front b r ∙ ap (λ (x : ℕ × B). Some (x.1)) (sym (last_item front (c, b) d)) in
      subst (λ (ys : List (ℕ × B)). base_at c ys ≡ Some ((get_or ys (length ys - 1) d).1)) (sym w.0.latest.2) e

  pub current_item : (c n : ℕ) (bs : List (ℕ × B)) (ps : List (Option ℕ)) (u : Option ℕ) (k : ℕ) (x : ℕ × B) → Whole c bs ps u k → n ≡ length bs → x ≡ get_or bs (n - 1) x → base_at c bs ≡ Some (x.1)
  current_item c n bs ps u k x w e f = current_base c bs ps u k x w ∙ ap (λ (y : ℕ × B). Some (y.1)) (sym (f ∙ ap (λ i. get_or bs (i - 1) x) e))
