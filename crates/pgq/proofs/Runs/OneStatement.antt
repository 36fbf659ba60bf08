-- What one statement outside a transaction does to a core, while nothing is pinned and nothing is built: the events that come, and the core that they
-- leave. A commit comes to the log, an accepted definition and a commit that folds move the base, and a commit that folds has its own statement's pin
-- on the base before.
use Rattle.std.proofs.Common.{◌≡◌, ℕ, zero, suc, ◌+◌, ◌-◌, ◌<◌, ◌≤◌, ◌==◌, ◌||◌, Bool, true, false, cond, nat_lt, List, [], ◌∷◌, ◌++◌, length, get_or, refl, sym, subst, ap, ◌∙◌, arith}
use Rattle.std.proofs.lemmas.Bool.{eq-eqb, eqb-true, ne_eqb, le-ltb}
use Rattle.std.proofs.lemmas.List.{length-set}
use Rattle.std.proofs.lemmas.Option.{none-some}
use Rattle.std.specs.Prelude.{slice_set, is_some, replicate}
use Rattle.std.specs.declared.option.Option.{Option}
use Rattle.std.specs.declared.option.Option.TheVariants.{Some, None}
use Rattle.pg_value.specs.declared.shape.Shapes.{Shapes}
use Rattle.pg_value.specs.declared.write.Commit.{Commit}
use Rattle.pg_value.specs.Writes.{Limited}
use Rattle.pg_value.specs.Log.{held, conflict, IsFull}
use Rattle.pg_core.specs.declared.event.Event.{Event}
use Rattle.pg_core.specs.declared.event.Build.{Build}
use Rattle.pg_core.specs.declared.event.Event.TheVariants as events
use Rattle.pg_core.specs.declared.event.Reply.TheVariants as replies
use Rattle.pg_pins.specs.Held.{pinned_numbers as pinned, distinct}
use Rattle.pg_core.specs.Core.{Core, pin_count, kept, seen_peak, pin_of, base_after, after_pin, after_release, after_commit, after_mark, after_redefine, IsTaken, fills, takes, CanCommit, CanCome, IsNotBuilding, pins, releases, commits, marks, Steps}
use Rattle.pg_session.specs.Stepped.{marking}
use Rattle.pgq.specs.Engine.{peak_after}

-- no pin is held, no build is open, and the peak has counted the current base
pub record IsAtRest (c : Core) : Type 0 where
  pub no_pin : pinned c.pins ≡ []
  pub no_build : c.build ≡ None
  pub peak : 1 ≤ c.peak.0

-- the session has finished one more item; the setup's are not counted
abbrev pub counted : Core → ℕ → Core
counted c n = cond (n == 0) c (record c { counts = slice_set c.counts n (get_or c.counts n 0 + 1) })

-- PINS, WHERE THERE ARE NONE

pub none_pinned : (k : ℕ) → pinned (replicate k None) ≡ []
none_pinned zero = refl
none_pinned (suc k) = none_pinned k

no_pin_at : (n : ℕ) (seats : List (Option ℕ)) → pinned seats ≡ [] → get_or seats n None ≡ None
no_pin_at n [] h = refl
no_pin_at zero (None ∷ seats) h = refl
no_pin_at (suc n) (None ∷ seats) h = no_pin_at n seats h
no_pin_at n (Some b ∷ seats) h = absurd (omega (arith, ap length h))

one_pinned : (base n : ℕ) (seats : List (Option ℕ)) → pinned seats ≡ [] → n < length seats → pinned (slice_set seats n (Some base)) ≡ base ∷ []
one_pinned base n [] h lt = absurd (omega (arith, lt))
one_pinned base zero (None ∷ seats) h lt = ap (λ l. base ∷ l) h
one_pinned base (suc n) (None ∷ seats) h lt = one_pinned base n seats h (omega (arith, lt))
one_pinned base n (Some b ∷ seats) h lt = absurd (omega (arith, ap length h))

pinned_released : (base n : ℕ) (seats : List (Option ℕ)) → pinned seats ≡ [] → slice_set (slice_set seats n (Some base)) n None ≡ seats
pinned_released base n [] h = refl
pinned_released base zero (None ∷ seats) h = refl
pinned_released base (suc n) (None ∷ seats) h = ap (λ l. None ∷ l) (pinned_released base n seats h)
pinned_released base n (Some b ∷ seats) h = absurd (omega (arith, ap length h))

-- THE PEAK, WHERE IT HAS SEEN AS MUCH

seen_same : (c : Core) → kept c ≤ c.peak.0 → seen_peak c ≡ c
seen_same c h = ap (λ b. record c { peak = cond b (kept c, pin_count c.pins) c.peak }) (le-ltb c.peak.0 (kept c) h)

kept_with : (c : Core) (bases : List ℕ) (k : ℕ) → pinned c.pins ≡ bases → length (distinct (c.base ∷ bases)) ≡ k → c.build ≡ None → kept c ≡ k
kept_with c bases k h q b =
    let e : length (distinct (c.base ∷ pinned c.pins)) ≡ k = ap (λ l. length (distinct (c.base ∷ l))) h ∙ q in
    let f : cond {A = ℕ} (is_some c.build) 1 0 ≡ 0 = ap (λ (x : Option Build). cond {A = ℕ} (is_some x) 1 0) b in
    omega (arith, e, f)

-- one pin on the base is no other base, and one on a base before is
same_base : (b : ℕ) → length (distinct (b ∷ b ∷ [])) ≡ 1
same_base b = ap (λ x. length (cond (x || false) (distinct (b ∷ [])) (b ∷ distinct (b ∷ [])))) (eq-eqb b b refl)

other_base : (base before : ℕ) → (before ≡ base → ⊥) → length (distinct (base ∷ before ∷ [])) ≡ 2
other_base base before d = ap (λ x. length (cond (x || false) (distinct (before ∷ [])) (base ∷ distinct (before ∷ [])))) (ne_eqb before base d)

seen_rest : (c : Core) → IsAtRest c → seen_peak c ≡ c
seen_rest c r = seen_same c (let k : kept c ≡ 1 = kept_with c [] 1 r.no_pin refl r.no_build in omega (arith, k, r.peak))

-- EVENTS AT REST

pin_seen : (c : Core) (n : ℕ) → IsAtRest c → n < length c.pins → after_pin c n ≡ record c { pins = slice_set c.pins n (Some c.base) }
pin_seen c n r lt =
    let p : Core = record c { pins = slice_set c.pins n (Some c.base) } in
    seen_same p (let k : kept p ≡ 1 = kept_with p (c.base ∷ []) 1 (one_pinned c.base n c.pins r.no_pin lt) (same_base c.base) r.no_build in omega (arith, k, r.peak))

-- a pin on any base goes
release_pin : (c : Core) (base n : ℕ) → IsAtRest c → after_release (record c { pins = slice_set c.pins n (Some base) }) n ≡ c
release_pin c base n r = ap (λ p. seen_peak (record c { pins = p })) (pinned_released base n c.pins r.no_pin) ∙ seen_rest c r

mark_is : (c : Core) (n : ℕ) → IsAtRest c → after_mark c n ≡ record c { counts = slice_set c.counts n (get_or c.counts n 0 + 1) }
mark_is c n r = seen_rest (record c { counts = slice_set c.counts n (get_or c.counts n 0 + 1) }) (record { no_pin = r.no_pin; no_build = r.no_build; peak = r.peak })

pub redefine_is : (c : Core) → IsAtRest c → after_redefine c ≡ record c { base = length c.log }
redefine_is c r = seen_rest (record c { base = length c.log }) (record { no_pin = r.no_pin; no_build = r.no_build; peak = r.peak })

-- the core after a commit under the pin of its own statement, which folds or not
commit_seen : (c : Core) (n : ℕ) (log : List Commit) (folds : Bool) → IsAtRest c → n < length c.pins → (folds ≡ true → c.base ≡ length c.log → ⊥)
    → seen_peak (record c { log = log; base = cond folds (length c.log) c.base; pins = slice_set c.pins n (Some c.base) })
    ≡ record c { log = log; base = cond folds (length c.log) c.base; pins = slice_set c.pins n (Some c.base); peak = cond folds (cond (nat_lt c.peak.0 2) (2, 1) c.peak) c.peak }
commit_seen c n log false r lt d =
    let p : Core = record c { log = log; pins = slice_set c.pins n (Some c.base) } in
    seen_same p (let k : kept p ≡ 1 = kept_with p (c.base ∷ []) 1 (one_pinned c.base n c.pins r.no_pin lt) (same_base c.base) r.no_build in omega (arith, k, r.peak))
commit_seen c n log true r lt d =
    let p : Core = record c { log = log; base = length c.log; pins = slice_set c.pins n (Some c.base) } in
    let one : pinned p.pins ≡ c.base ∷ [] = one_pinned c.base n c.pins r.no_pin lt in
    let k : kept p ≡ 2 = kept_with p (c.base ∷ []) 2 one (other_base (length c.log) c.base (d refl)) r.no_build in
    let q : pin_count p.pins ≡ 1 = ap length one in
    λ i. record p { peak = cond (nat_lt c.peak.0 (k i)) (k i, q i) c.peak }

-- the peak has counted the base after a commit, where it had before
pub peak_after_some : (base found : ℕ) (peak : ℕ × ℕ) → 1 ≤ peak.0 → 1 ≤ (peak_after base found peak).0
peak_after_some base found peak h = raised (found - base == 256) (nat_lt peak.0 2) where
  raised : (a b : Bool) → 1 ≤ (cond a (cond b (2, 1) peak) peak).0
  raised false b = h
  raised true false = h
  raised true true = omega arith

-- STATEMENTS

module _ (shapes : Shapes) (limit : ℕ) (c : Core) (n : ℕ) (r : IsAtRest c) (seat : n < length c.pins) where
  -- a mark
  mark_steps : (d : Core) → IsAtRest d → CanCome shapes d (events.Mark n) → Steps shapes limit d (marking n) (counted d n)
  mark_steps d s can = by_number (n == 0) where
    by_number : (b : Bool) → Steps shapes limit d (cond b [] (events.Mark n ∷ [])) (cond b d (record d { counts = slice_set d.counts n (get_or d.counts n 0 + 1) }))
    by_number true = refl
    by_number false = (replies.Done, after_mark d n, can, marks n refl can refl refl, sym (mark_is d n s))

  pub still_steps : CanCome shapes c (events.Mark n) → Steps shapes limit c (marking n) (counted c n)
  still_steps can = mark_steps c r can

  abbrev Pinned : Core
  Pinned = record c { pins = slice_set c.pins n (Some c.base) }

  can_pin : CanCome shapes c (events.Pin n)
  can_pin = (seat, no_pin_at n c.pins r.no_pin)

  -- the release and the mark, from a core that is at rest but for the pin
  end_steps : (d : Core) (base : ℕ) → IsAtRest d → n < length d.pins → CanCome shapes d (events.Mark n)
      → Steps shapes limit (record d { pins = slice_set d.pins n (Some base) }) (events.Release n ∷ marking n) (counted d n)
  end_steps d base s lt can =
      let p : Core = record d { pins = slice_set d.pins n (Some base) } in
      let free : IsNotBuilding p n = λ b e f. none-some b (sym s.no_build ∙ e) in
      let can_end : CanCome shapes p (events.Release n) = (omega (arith, lt, length-set d.pins n (Some base)), free) in (
        replies.Released (is_some (pin_of p n)),
        after_release p n,
        can_end,
        releases n refl can_end refl refl,
        subst (λ x. Steps shapes limit x (marking n) (counted d n)) (sym (release_pin d base n s)) (mark_steps d s can),
      )

  -- a start, and what comes behind it
  pin_steps : (es : List Event) (d : Core) → Steps shapes limit Pinned es d → Steps shapes limit c (events.Pin n ∷ es) d
  pin_steps es d s = (replies.Pinned (length c.log) c.base, after_pin c n, can_pin, pins n refl can_pin refl refl, subst (λ x. Steps shapes limit x es d) (sym (pin_seen c n r seat)) s)

  -- a statement that reads
  pub read_steps : CanCome shapes c (events.Mark n) → Steps shapes limit c (events.Pin n ∷ events.Release n ∷ marking n) (counted c n)
  read_steps can = pin_steps (events.Release n ∷ marking n) (counted c n) (end_steps c c.base r seat can)

  module _ (writes : Limited) (can : CanCome shapes c (events.Mark n)) (may : CanCommit shapes c n (length c.log) writes.list) where
    abbrev Own : Commit
    Own = record { session = n; from = length c.log; writes = writes }

    can_commit : CanCome shapes Pinned (events.Commit n (length c.log) writes)
    can_commit = record { seated = omega (arith, may.seated, length-set c.pins n (Some c.base)); before = may.before; some = may.some; in_order = may.in_order; fit = may.fit }

    -- a commit that finds the log full
    pub full_steps : conflict c.log (length c.log) writes.list ≡ None → IsFull limit c.log writes.list
        → Steps shapes limit c (events.Pin n ∷ events.Commit n (length c.log) writes ∷ events.Release n ∷ marking n) (counted c n)
    full_steps free full = pin_steps (events.Commit n (length c.log) writes ∷ events.Release n ∷ marking n) (counted c n)
        (replies.LogFull (held c.log), Pinned, can_commit, commits n (length c.log) writes refl can_commit (fills free full refl refl), end_steps c c.base r seat can)

    -- a commit that is taken
    pub commit_steps : IsTaken limit c.log Own
        → Steps shapes limit c (events.Pin n ∷ events.Commit n (length c.log) writes ∷ events.Release n ∷ marking n)
        (counted (record c { log = c.log ++ Own ∷ []; base = base_after c.base (length c.log); peak = peak_after c.base (length c.log) c.peak }) n)
    commit_steps taken =
        let d : Core = record c { log = c.log ++ Own ∷ []; base = base_after c.base (length c.log); peak = peak_after c.base (length c.log) c.peak } in
        let s : IsAtRest d = record { no_pin = r.no_pin; no_build = r.no_build; peak = peak_after_some c.base (length c.log) c.peak r.peak } in
        let folds : Bool = length c.log - c.base == 256 in
        let over : folds ≡ true → c.base ≡ length c.log → ⊥ = λ f e. (let x = eqb-true (length c.log - c.base) 256 f in omega (arith, x, e)) in
        pin_steps (events.Commit n (length c.log) writes ∷ events.Release n ∷ marking n) (counted d n) (
          replies.Committed (length c.log + 1),
          after_commit Pinned Own,
          can_commit,
          commits n (length c.log) writes refl can_commit (takes taken refl refl),
          subst (λ x. Steps shapes limit x (events.Release n ∷ marking n) (counted d n)) (sym (commit_seen c n (c.log ++ Own ∷ []) folds r seat over)) (end_steps d c.base s seat can),
        )
