-- What one item's events do to the core: to its log, its base, its pins and its peak.
use Rattle.std.proofs.Common.{◌≡◌, ℕ, ◌+◌, ◌-◌, ◌<◌, ◌≤◌, ◌==◌, Bool, true, false, cond, List, [], ◌∷◌, ◌++◌, length, ◌⊎◌, inl, inr, refl, sym, subst, ap, ◌∙◌, arith, length-append, append-nil}
use Rattle.std.proofs.lemmas.List.{get_or-set_same, get_or-set_other, length-set}
use Rattle.std.proofs.lemmas.Bool.{cases_eq, eq-eqb, ne_eqb}
use Rattle.std.proofs.lemmas.Option.{none-some}
use Rattle.std.specs.Prelude.{nat_lt, slice_set, is_some}
use Rattle.std.specs.declared.option.Option.{Option}
use Rattle.std.specs.declared.option.Option.TheVariants.{Some, None}
use Rattle.pg_keyed.specs.Lists.{Each, each_append}
use Rattle.pg_value.specs.declared.shape.Shapes.{Shapes}
use Rattle.pg_value.specs.declared.write.Write.{Write}
use Rattle.pg_value.specs.declared.write.Commit.{Commit}
use Rattle.pg_value.specs.Writes.{Limited}
use Rattle.pg_value.specs.Log.{conflict, IsFull}
use Rattle.pg_script.specs.declared.outcome.Outcome.{Outcome}
use Rattle.pg_script.specs.declared.outcome.Outcome.TheVariants.{Defined, Began, Changed, ChangedAlone, Committed, CommitEmpty, RolledBack, Rows, After, AtByte, AlreadyOpen, NotOpen, Duplicate, TooManyWrites, AtColumn, Conflict, LogFull}
use Rattle.pg_script.specs.Judged.{Open}
use Rattle.pg_core.specs.declared.event.Event.{Event}
use Rattle.pg_core.specs.declared.event.Event.TheVariants as events
use Rattle.pg_core.specs.declared.event.Reply.{Reply}
use Rattle.pg_pins.specs.Held.{is_among as is_listed, pinned_numbers as pinned, distinct}
use Rattle.pg_core.specs.Core.{Core, pin_count, listed, kept, seen_peak, pin_of, most_over_base, base_after, after_pin, after_release, after_commit, after_mark, after_redefine, IsTaken, CommitAnswers, conflicts, fills, takes, CanCome, Step, refuses, pins, releases, commits, fold_stopped, fold_not_yet, fold_begins, install_stale, installs, abandons, marks, ends, stops, Steps}
use Rattle.pg_session.specs.Stepped.{alone, refused_commit, events_of, leaving, marking, AfterItem}
use Rattle.pg_session.proofs.Within.{adds}

pub record IsNear (c : Core) : Type 0 where
  pub low : c.base ≤ length c.log
  pub high : length c.log ≤ c.base + most_over_base

abbrev pub IsPeakFit : Core → Type 0
IsPeakFit c = c.peak.0 ≤ c.peak.1 + 2

-- KEPT AND PINS

distinct_few : (bases : List ℕ) → length (distinct bases) ≤ length bases
distinct_few [] = omega arith
distinct_few (b ∷ bases) = let h = distinct_few bases in elim (is_listed b bases) as (λ x. length (cond x (distinct bases) (b ∷ distinct bases)) ≤ length (b ∷ bases)) [
  | true ↦ omega (arith, h)
  | false ↦ omega (arith, h)
]

-- kept never outnumber the pins by more than two
pub kept_few : (c : Core) → kept c ≤ pin_count c.pins + 2
kept_few c = let f = distinct_few (c.base ∷ pinned c.pins) in elim (is_some c.build) as (λ x. length (listed c) + cond x 1 0 ≤ pin_count c.pins + 2) [ true ↦ omega (arith, f) | false ↦ omega (arith, f) ]

peak_seen : (c : Core) → IsPeakFit c → IsPeakFit (seen_peak c)
peak_seen c h = elim (nat_lt c.peak.0 (kept c)) as (λ x. (cond x (kept c, pin_count c.pins) c.peak).0 ≤ (cond x (kept c, pin_count c.pins) c.peak).1 + 2) [
  | true ↦ kept_few c
  | false ↦ h
]

near_commit : (c : Core) (w : Commit) → IsNear c → IsNear (after_commit c w)
near_commit c w h = elim (cases_eq (length c.log - c.base) 256) [
  | inl e ↦ (let b : (after_commit c w).base ≡ length c.log = ap (λ x. cond x (length c.log) c.base) (eq-eqb _ _ e) in
      record { low = omega (arith, b, length-append c.log (w ∷ [])); high = omega (arith, b, length-append c.log (w ∷ [])) })
  | inr d ↦ (let b : (after_commit c w).base ≡ c.base = ap (λ x. cond x (length c.log) c.base) (ne_eqb _ _ d) in
      record { low = omega (arith, b, h.low, length-append c.log (w ∷ [])); high = omega (arith, b, d, h.low, h.high, length-append c.log (w ∷ [])) })
]

-- WHAT SECTION N'S EVENTS KEEP

pub record Keeps (n : ℕ) (c m : Core) : Type 0 where
  pub near : IsNear c → IsNear m
  pub peak : IsPeakFit c → IsPeakFit m
  pub others : (k : ℕ) → (k ≡ n → ⊥) → pin_of m k ≡ pin_of c k
  pub seats : length m.pins ≡ length c.pins

keeps_same : (n : ℕ) (c m : Core) → m ≡ c → Keeps n c m
keeps_same n c m e = subst (Keeps n c) (sym e) (record { near = λ h. h; peak = λ h. h; others = λ k d. refl; seats = refl })

keeps_pin : (n : ℕ) (c m : Core) → m ≡ after_pin c n → Keeps n c m
keeps_pin n c m e = subst (Keeps n c) (sym e) (record {
  near = λ h. record { low = h.low; high = h.high };
  peak = λ h. peak_seen (record c { pins = slice_set c.pins n (Some c.base) }) h;
  others = λ k d. get_or-set_other c.pins n k (Some c.base) None d;
  seats = length-set c.pins n (Some c.base);
})

keeps_release : (n : ℕ) (c m : Core) → m ≡ after_release c n → Keeps n c m
keeps_release n c m e = subst (Keeps n c) (sym e) (record {
  near = λ h. record { low = h.low; high = h.high };
  peak = λ h. peak_seen (record c { pins = slice_set c.pins n None }) h;
  others = λ k d. get_or-set_other c.pins n k None None d;
  seats = length-set c.pins n None;
})

keeps_commit : (n : ℕ) (c m : Core) (w : Commit) → m ≡ after_commit c w → Keeps n c m
keeps_commit n c m w e = subst (Keeps n c) (sym e) (record {
  near = near_commit c w;
  peak = λ h. peak_seen (record c { log = c.log ++ w ∷ []; base = base_after c.base (length c.log) }) h;
  others = λ k d. refl;
  seats = refl;
})

keeps_mark : (n k : ℕ) (c m : Core) → m ≡ after_mark c k → Keeps n c m
keeps_mark n k c m e = subst (Keeps n c) (sym e) (record {
  near = λ h. record { low = h.low; high = h.high };
  peak = λ h. peak_seen (record c { counts = (after_mark c k).counts }) h;
  others = λ j d. refl;
  seats = refl;
})

keeps_redefine : (n : ℕ) (c m : Core) → m ≡ after_redefine c → Keeps n c m
keeps_redefine n c m e = subst (Keeps n c) (sym e) (record {
  near = λ h. record { low = omega arith; high = omega arith };
  peak = λ h. peak_seen (record c { base = length c.log }) h;
  others = λ k d. refl;
  seats = refl;
})

keeps_join : (n : ℕ) (c m d : Core) → Keeps n c m → Keeps n m d → Keeps n c d
keeps_join n c m d f g = record {
  near = λ h. g.near (f.near h);
  peak = λ h. g.peak (f.peak h);
  others = λ k x. g.others k x ∙ f.others k x;
  seats = g.seats ∙ f.seats;
}

-- EVENTS

-- what an event of an item makes of the core
abbrev pub Makes : ℕ → Core → Event → Core → Type 0
Makes limit c (events.Pin n) m = m ≡ after_pin c n
Makes limit c (events.Release n) m = m ≡ after_release c n
Makes limit c (events.Commit n from writes) m = (reply : Reply) × CommitAnswers limit c (record { session = n; from = from; writes = writes }) reply m
Makes limit c (events.BeginFold n) m = Unit {0}
Makes limit c events.Install m = Unit {0}
Makes limit c events.Abandon m = Unit {0}
Makes limit c (events.Mark n) m = m ≡ after_mark c n
Makes limit c (events.EndSession n) m = Unit {0}
Makes limit c events.Stop m = Unit {0}

-- the event is one of section n's items
abbrev pub IsOwn : ℕ → Event → Type 0
IsOwn n (events.Pin s) = s ≡ n
IsOwn n (events.Release s) = s ≡ n
IsOwn n (events.Commit s from writes) = s ≡ n
IsOwn n (events.BeginFold s) = ⊥
IsOwn n events.Install = ⊥
IsOwn n events.Abandon = ⊥
IsOwn n (events.Mark s) = Unit {0}
IsOwn n (events.EndSession s) = ⊥
IsOwn n events.Stop = ⊥

-- the event commits nothing
abbrev IsQuiet : Event → Type 0
IsQuiet (events.Pin s) = Unit {0}
IsQuiet (events.Release s) = Unit {0}
IsQuiet (events.Commit s from writes) = ⊥
IsQuiet (events.BeginFold s) = ⊥
IsQuiet events.Install = ⊥
IsQuiet events.Abandon = ⊥
IsQuiet (events.Mark s) = Unit {0}
IsQuiet (events.EndSession s) = ⊥
IsQuiet events.Stop = ⊥

-- what is known of the commit that an outcome tells of
abbrev pub Tried : ℕ → List Commit → ℕ → Limited → Outcome → Type 0
Tried limit log n writes (Defined name at) = Unit {0}
Tried limit log n writes (Began at) = Unit {0}
Tried limit log n writes (Changed rows at) = Unit {0}
Tried limit log n writes (ChangedAlone rows from at) = IsTaken limit log (record { session = n; from = from; writes = writes })
Tried limit log n writes (Committed from at) = IsTaken limit log (record { session = n; from = from; writes = writes })
Tried limit log n writes (CommitEmpty at) = Unit {0}
Tried limit log n writes (RolledBack at) = Unit {0}
Tried limit log n writes (Rows at base names rows) = Unit {0}
Tried limit log n writes (After name i at) = Unit {0}
Tried limit log n writes (AtByte kind byte) = Unit {0}
Tried limit log n writes AlreadyOpen = Unit {0}
Tried limit log n writes NotOpen = Unit {0}
Tried limit log n writes (Duplicate row at) = Unit {0}
Tried limit log n writes (TooManyWrites row at) = Unit {0}
Tried limit log n writes (AtColumn kind row column at) = Unit {0}
Tried limit log n writes (Conflict table key from at) = (w : Write) × (conflict log from writes.list ≡ Some (w, at))
Tried limit log n writes (LogFull from room) = (conflict log from writes.list ≡ None) × IsFull limit log writes.list

module _ (shapes : Shapes) (limit : ℕ) where
  pub step_makes : (c m : Core) (e : Event) (reply : Reply) → CanCome shapes c e → Step shapes limit c e reply m → Makes limit c e m
  step_makes c m e reply can (refuses not r x) = absurd (not can)
  step_makes c m e reply can (pins n is _ r x) = subst (λ v. Makes limit c v m) (sym is) x
  step_makes c m e reply can (releases n is _ r x) = subst (λ v. Makes limit c v m) (sym is) x
  step_makes c m e reply can (commits n from writes is _ answers) = subst (λ v. Makes limit c v m) (sym is) (reply, answers)
  step_makes c m e reply can (fold_stopped n is _ s r x) = subst (λ v. Makes limit c v m) (sym is) tt
  step_makes c m e reply can (fold_not_yet n is _ s b r x) = subst (λ v. Makes limit c v m) (sym is) tt
  step_makes c m e reply can (fold_begins n is _ s b d r x) = subst (λ v. Makes limit c v m) (sym is) tt
  step_makes c m e reply can (install_stale b is o d r x) = subst (λ v. Makes limit c v m) (sym is) tt
  step_makes c m e reply can (installs b is o d r x) = subst (λ v. Makes limit c v m) (sym is) tt
  step_makes c m e reply can (abandons b is o r x) = subst (λ v. Makes limit c v m) (sym is) tt
  step_makes c m e reply can (marks n is _ r x) = subst (λ v. Makes limit c v m) (sym is) x
  step_makes c m e reply can (ends n is _ r x) = subst (λ v. Makes limit c v m) (sym is) tt
  step_makes c m e reply can (stops is r x) = subst (λ v. Makes limit c v m) (sym is) tt

  answers_keep : (n : ℕ) (c m : Core) (w : Commit) (reply : Reply) → CommitAnswers limit c w reply m → Keeps n c m
  answers_keep n c m w reply (conflicts x at f r e) = keeps_same n c m e
  answers_keep n c m w reply (fills f u r e) = keeps_same n c m e
  answers_keep n c m w reply (takes t r e) = keeps_commit n c m w e

  event_keeps : (n : ℕ) (c m : Core) (e : Event) → IsOwn n e → Makes limit c e m → Keeps n c m
  event_keeps n c m (events.Pin s) own x = keeps_pin n c m (subst (λ k. m ≡ after_pin c k) own x)
  event_keeps n c m (events.Release s) own x = keeps_release n c m (subst (λ k. m ≡ after_release c k) own x)
  event_keeps n c m (events.Commit s from writes) own x = answers_keep n c m (record { session = s; from = from; writes = writes }) x.0 x.1
  event_keeps n c m (events.BeginFold s) own x = absurd own
  event_keeps n c m events.Install own x = absurd own
  event_keeps n c m events.Abandon own x = absurd own
  event_keeps n c m (events.Mark s) own x = keeps_mark n s c m x
  event_keeps n c m (events.EndSession s) own x = absurd own
  event_keeps n c m events.Stop own x = absurd own

  steps_keep : (n : ℕ) (es : List Event) (c d : Core) → Each (IsOwn n) es → Steps shapes limit c es d → Keeps n c d
  steps_keep n [] c d own s = keeps_same n c d s
  steps_keep n (e ∷ es) c d own s = keeps_join n c s.1 d (event_keeps n c s.1 e own.0 (step_makes c s.1 e s.0 s.2 s.3)) (steps_keep n es s.1 d own.1 s.4)

  steps_split : (es fs : List Event) (c d : Core) → Steps shapes limit c (es ++ fs) d → (m : Core) × Steps shapes limit c es m × Steps shapes limit m fs d
  steps_split [] fs c d s = (c, refl, s)
  steps_split (e ∷ es) fs c d s = let h = steps_split es fs s.1 d s.4 in (h.0, (s.0, s.1, s.2, s.3, h.1), h.2)

  -- THE LOG

  event_quiet : (c m : Core) (e : Event) → IsQuiet e → Makes limit c e m → m.log ≡ c.log
  event_quiet c m (events.Pin s) q x = ap (λ k. k.log) x
  event_quiet c m (events.Release s) q x = ap (λ k. k.log) x
  event_quiet c m (events.Commit s from writes) q x = absurd q
  event_quiet c m (events.BeginFold s) q x = absurd q
  event_quiet c m events.Install q x = absurd q
  event_quiet c m events.Abandon q x = absurd q
  event_quiet c m (events.Mark s) q x = ap (λ k. k.log) x
  event_quiet c m (events.EndSession s) q x = absurd q
  event_quiet c m events.Stop q x = absurd q

  quiet_log : (es : List Event) (c d : Core) → Each IsQuiet es → Steps shapes limit c es d → d.log ≡ c.log
  quiet_log [] c d q s = ap (λ k. k.log) s
  quiet_log (e ∷ es) c d q s = quiet_log es s.1 d q.1 s.4 ∙ event_quiet c s.1 e q.0 (step_makes c s.1 e s.0 s.2 s.3)

  taken_log : (c m : Core) (w : Commit) (reply : Reply) → IsTaken limit c.log w → CommitAnswers limit c w reply m → m.log ≡ c.log ++ w ∷ []
  taken_log c m w reply t (conflicts x at f r e) = absurd (none-some (x, at) (sym t.free ∙ f))
  taken_log c m w reply t (fills f u r e) = absurd (omega (arith, t.room, u))
  taken_log c m w reply t (takes t' r e) = ap (λ k. k.log) e

  conflict_log : (c m : Core) (w : Commit) (reply : Reply) (x : Write) (at : ℕ) → conflict c.log w.from w.writes.list ≡ Some (x, at) → CommitAnswers limit c w reply m → m.log ≡ c.log
  conflict_log c m w reply x at h (conflicts y j f r e) = ap (λ k. k.log) e
  conflict_log c m w reply x at h (fills f u r e) = ap (λ k. k.log) e
  conflict_log c m w reply x at h (takes t r e) = absurd (none-some (x, at) (sym t.free ∙ h))

  full_log : (c m : Core) (w : Commit) (reply : Reply) → IsFull limit c.log w.writes.list → CommitAnswers limit c w reply m → m.log ≡ c.log
  full_log c m w reply h (conflicts y j f r e) = ap (λ k. k.log) e
  full_log c m w reply h (fills f u r e) = ap (λ k. k.log) e
  full_log c m w reply h (takes t r e) = absurd (omega (arith, t.room, h))

  commits_log : (c d : Core) (n from : ℕ) (writes : Limited) (es : List Event) → Each IsQuiet es → IsTaken limit c.log (record { session = n; from = from; writes = writes })
      → Steps shapes limit c (events.Commit n from writes ∷ es) d → d.log ≡ c.log ++ record { session = n; from = from; writes = writes } ∷ []
  commits_log c d n from writes es q t s = let a = step_makes c s.1 (events.Commit n from writes) s.0 s.2 s.3 in quiet_log es s.1 d q s.4 ∙ taken_log c s.1 (record { session = n; from = from; writes = writes }) a.0 t a.1

  conflicts_log : (c d : Core) (n from at : ℕ) (writes : Limited) (es : List Event) (x : Write) → Each IsQuiet es → conflict c.log from writes.list ≡ Some (x, at)
      → Steps shapes limit c (events.Commit n from writes ∷ es) d → d.log ≡ c.log
  conflicts_log c d n from at writes es x q t s = let a = step_makes c s.1 (events.Commit n from writes) s.0 s.2 s.3 in quiet_log es s.1 d q s.4 ∙ conflict_log c s.1 (record { session = n; from = from; writes = writes }) a.0 x at t a.1

  fills_log : (c d : Core) (n from : ℕ) (writes : Limited) (es : List Event) → Each IsQuiet es → IsFull limit c.log writes.list
      → Steps shapes limit c (events.Commit n from writes ∷ es) d → d.log ≡ c.log
  fills_log c d n from writes es q t s = let a = step_makes c s.1 (events.Commit n from writes) s.0 s.2 s.3 in quiet_log es s.1 d q s.4 ∙ full_log c s.1 (record { session = n; from = from; writes = writes }) a.0 t a.1

  -- behind a pin the log is as before
  pin_log : (c d : Core) (n : ℕ) (es : List Event) → Steps shapes limit c (events.Pin n ∷ es) d → (m : Core) × (m.log ≡ c.log) × Steps shapes limit m es d
  pin_log c d n es s = (s.1, ap (λ k. k.log) (step_makes c s.1 (events.Pin n) s.0 s.2 s.3), s.4)

  -- behind the outcome's own events come quiet ones
  module _ (c d : Core) (n : ℕ) (writes : Limited) (rest : List Event) (quiet : Each IsQuiet rest) where
    alone_log : (t : Option Open) → Steps shapes limit c (alone n t [] ++ rest) d → d.log ≡ c.log
    alone_log None s = quiet_log (events.Pin n ∷ events.Release n ∷ rest) c d (tt, (tt, quiet)) s
    alone_log (Some t) s = quiet_log rest c d quiet s

    -- a pin, a commit and an end
    alone_commit : (from : ℕ) → IsTaken limit c.log (record { session = n; from = from; writes = writes }) → Steps shapes limit c (events.Pin n ∷ events.Commit n from writes ∷ events.Release n ∷ rest) d
        → d.log ≡ c.log ++ record { session = n; from = from; writes = writes } ∷ []
    alone_commit from t s =
        let p = pin_log c d n (events.Commit n from writes ∷ events.Release n ∷ rest) s in
        commits_log p.0 d n from writes (events.Release n ∷ rest) (tt, quiet) (subst (λ l. IsTaken limit l (record { session = n; from = from; writes = writes })) (sym p.1) t) p.2
        ∙ ap (λ l. l ++ record { session = n; from = from; writes = writes } ∷ []) p.1

    conflict_commit : (t : Option Open) (from at : ℕ) (x : Write) → conflict c.log from writes.list ≡ Some (x, at) → Steps shapes limit c (refused_commit n t (events.Commit n from writes ∷ []) ++ rest) d → d.log ≡ c.log
    conflict_commit None from at x h s =
        let p = pin_log c d n (events.Commit n from writes ∷ events.Release n ∷ rest) s in
        conflicts_log p.0 d n from at writes (events.Release n ∷ rest) x (tt, quiet) (ap (λ l. conflict l from writes.list) p.1 ∙ h) p.2 ∙ p.1
    conflict_commit (Some t) from at x h s = conflicts_log c d n from at writes (events.Release n ∷ rest) x (tt, quiet) h s

    full_commit : (t : Option Open) (from : ℕ) → IsFull limit c.log writes.list → Steps shapes limit c (refused_commit n t (events.Commit n from writes ∷ []) ++ rest) d → d.log ≡ c.log
    full_commit None from h s =
        let p = pin_log c d n (events.Commit n from writes ∷ events.Release n ∷ rest) s in
        fills_log p.0 d n from writes (events.Release n ∷ rest) (tt, quiet) (subst (λ l. IsFull limit l writes.list) (sym p.1) h) p.2 ∙ p.1
    full_commit (Some t) from h s = fills_log c d n from writes (events.Release n ∷ rest) (tt, quiet) h s

    -- the log is longer by what the outcome adds
    pub outcome_log : (t : Option Open) (o : Outcome) → Tried limit c.log n writes o → AfterItem shapes limit c (events_of n t writes o ++ rest) o d → d.log ≡ c.log ++ adds n writes o
    outcome_log t (Defined name at) h s = ap (λ k. k.log) s ∙ sym (append-nil c.log)
    outcome_log t (Began at) h s = quiet_log (events.Pin n ∷ rest) c d (tt, quiet) s ∙ sym (append-nil c.log)
    outcome_log t (Changed rows at) h s = alone_log t s ∙ sym (append-nil c.log)
    outcome_log t (ChangedAlone rows from at) h s = alone_commit from h s
    outcome_log t (Committed from at) h s = commits_log c d n from writes (events.Release n ∷ rest) (tt, quiet) h s
    outcome_log t (CommitEmpty at) h s = quiet_log (events.Release n ∷ rest) c d (tt, quiet) s ∙ sym (append-nil c.log)
    outcome_log t (RolledBack at) h s = quiet_log (events.Release n ∷ rest) c d (tt, quiet) s ∙ sym (append-nil c.log)
    outcome_log t (Rows at base names rows) h s = alone_log t s ∙ sym (append-nil c.log)
    outcome_log t (After name i at) h s = quiet_log rest c d quiet s ∙ sym (append-nil c.log)
    outcome_log t (AtByte kind byte) h s = quiet_log rest c d quiet s ∙ sym (append-nil c.log)
    outcome_log t AlreadyOpen h s = quiet_log rest c d quiet s ∙ sym (append-nil c.log)
    outcome_log t NotOpen h s = quiet_log rest c d quiet s ∙ sym (append-nil c.log)
    outcome_log t (Duplicate row at) h s = alone_log t s ∙ sym (append-nil c.log)
    outcome_log t (TooManyWrites row at) h s = alone_log t s ∙ sym (append-nil c.log)
    outcome_log t (AtColumn kind row column at) h s = alone_log t s ∙ sym (append-nil c.log)
    outcome_log t (Conflict table key from at) h s = conflict_commit t from at h.0 h.1 s ∙ sym (append-nil c.log)
    outcome_log t (LogFull from room) h s = full_commit t from h.1 s ∙ sym (append-nil c.log)

  -- THE LAST EVENTS OF AN ITEM

  marking_quiet : (n : ℕ) → Each IsQuiet (marking n)
  marking_quiet n = elim (n == 0) as (λ b. Each IsQuiet (cond b [] (events.Mark n ∷ []))) [ true ↦ tt | false ↦ (tt, tt) ]

  marking_own : (n k : ℕ) → Each (IsOwn n) (marking k)
  marking_own n k = elim (k == 0) as (λ b. Each (IsOwn n) (cond b [] (events.Mark k ∷ []))) [ true ↦ tt | false ↦ (tt, tt) ]

  pub rest_quiet : (n : ℕ) (left : Option Open) (last : Bool) → Each IsQuiet (leaving n left last ++ marking n)
  rest_quiet n None last = marking_quiet n
  rest_quiet n (Some t) true = (tt, marking_quiet n)
  rest_quiet n (Some t) false = marking_quiet n

  pub rest_own : (n : ℕ) (left : Option Open) (last : Bool) → Each (IsOwn n) (leaving n left last ++ marking n)
  rest_own n None last = marking_own n n
  rest_own n (Some t) true = (refl, marking_own n n)
  rest_own n (Some t) false = marking_own n n

  alone_own : (n : ℕ) (t : Option Open) → Each (IsOwn n) (alone n t [])
  alone_own n None = (refl, (refl, tt))
  alone_own n (Some t) = tt

  refused_own : (n from : ℕ) (writes : Limited) (t : Option Open) → Each (IsOwn n) (refused_commit n t (events.Commit n from writes ∷ []))
  refused_own n from writes None = (refl, (refl, (refl, tt)))
  refused_own n from writes (Some t) = (refl, (refl, tt))

  pub events_own : (n : ℕ) (t : Option Open) (writes : Limited) (o : Outcome) → Each (IsOwn n) (events_of n t writes o)
  events_own n t writes (Defined name at) = tt
  events_own n t writes (Began at) = (refl, tt)
  events_own n t writes (Changed rows at) = alone_own n t
  events_own n t writes (ChangedAlone rows from at) = (refl, (refl, (refl, tt)))
  events_own n t writes (Committed from at) = (refl, (refl, tt))
  events_own n t writes (CommitEmpty at) = (refl, tt)
  events_own n t writes (RolledBack at) = (refl, tt)
  events_own n t writes (Rows at base names rows) = alone_own n t
  events_own n t writes (After name i at) = tt
  events_own n t writes (AtByte kind byte) = tt
  events_own n t writes AlreadyOpen = tt
  events_own n t writes NotOpen = tt
  events_own n t writes (Duplicate row at) = alone_own n t
  events_own n t writes (TooManyWrites row at) = alone_own n t
  events_own n t writes (AtColumn kind row column at) = alone_own n t
  events_own n t writes (Conflict table key from at) = refused_own n from writes t
  events_own n t writes (LogFull from room) = refused_own n from writes t

  -- an item's events, or an accepted definition's fold, which has none
  pub after_cases : (c d : Core) (es : List Event) (o : Outcome) → AfterItem shapes limit c es o d
      → Steps shapes limit c es d ⊎ ((d ≡ after_redefine c) × ((n : ℕ) (t : Option Open) (writes : Limited) → events_of n t writes o ≡ []))
  after_cases c d es (Defined name at) s = inr (s, λ n t writes. refl)
  after_cases c d es (Began at) s = inl s
  after_cases c d es (Changed rows at) s = inl s
  after_cases c d es (ChangedAlone rows from at) s = inl s
  after_cases c d es (Committed from at) s = inl s
  after_cases c d es (CommitEmpty at) s = inl s
  after_cases c d es (RolledBack at) s = inl s
  after_cases c d es (Rows at base names rows) s = inl s
  after_cases c d es (After name i at) s = inl s
  after_cases c d es (AtByte kind byte) s = inl s
  after_cases c d es AlreadyOpen s = inl s
  after_cases c d es NotOpen s = inl s
  after_cases c d es (Duplicate row at) s = inl s
  after_cases c d es (TooManyWrites row at) s = inl s
  after_cases c d es (AtColumn kind row column at) s = inl s
  after_cases c d es (Conflict table key from at) s = inl s
  after_cases c d es (LogFull from room) s = inl s

  pub item_keeps : (c d : Core) (n : ℕ) (t : Option Open) (writes : Limited) (o : Outcome) (left : Option Open) (last : Bool)
      → AfterItem shapes limit c (events_of n t writes o ++ (leaving n left last ++ marking n)) o d → Keeps n c d
  item_keeps c d n t writes o left last s = elim (after_cases c d (events_of n t writes o ++ (leaving n left last ++ marking n)) o s) [
    | inl x ↦ steps_keep n (events_of n t writes o ++ (leaving n left last ++ marking n)) c d (each_append (IsOwn n) (events_of n t writes o) (leaving n left last ++ marking n) (events_own n t writes o) (rest_own n left last)) x
    | inr x ↦ keeps_redefine n c d x.0
  ]

  -- THE SECTION'S OWN PIN

  marking_pin : (c d : Core) (n k : ℕ) → Steps shapes limit c (marking n) d → pin_of d k ≡ pin_of c k
  marking_pin c d n k s = marked (n == 0) s where
    marked : (b : Bool) → Steps shapes limit c (cond b [] (events.Mark n ∷ [])) d → pin_of d k ≡ pin_of c k
    marked true s = ap (λ x. pin_of x k) s
    marked false s = ap (λ x. pin_of x k) (s.4 ∙ step_makes c s.1 (events.Mark n) s.0 s.2 s.3)

  release_pin : (c m : Core) (n : ℕ) (reply : Reply) → n < length c.pins → CanCome shapes c (events.Release n) → Step shapes limit c (events.Release n) reply m → pin_of m n ≡ None
  release_pin c m n reply seat can s = ap (λ x. pin_of x n) (step_makes c m (events.Release n) reply can s) ∙ get_or-set_same c.pins n None None seat

  -- what ends with a release leaves no pin
  pub ends_pin : (c d : Core) (n : ℕ) (front : List Event) → Each (IsOwn n) front → n < length c.pins → Steps shapes limit c ((front ++ events.Release n ∷ []) ++ marking n) d → pin_of d n ≡ None
  ends_pin c d n front own seat s =
      let a = steps_split (front ++ events.Release n ∷ []) (marking n) c d s in
      let b = steps_split front (events.Release n ∷ []) c a.0 a.1 in
      let k = steps_keep n front c b.0 own b.1 in
      marking_pin a.0 d n n a.2 ∙ ap (λ x. pin_of x n) b.2.4 ∙ release_pin b.0 b.2.1 n b.2.0 (omega (arith, seat, k.seats)) b.2.2 b.2.3

  -- a start pins the base
  pub start_pin : (c d : Core) (n : ℕ) → n < length c.pins → Steps shapes limit c (events.Pin n ∷ marking n) d → pin_of d n ≡ Some c.base
  start_pin c d n seat s = marking_pin s.1 d n n s.4 ∙ ap (λ x. pin_of x n) (step_makes c s.1 (events.Pin n) s.0 s.2 s.3) ∙ get_or-set_same c.pins n (Some c.base) None seat

  -- a mark alone, or an accepted definition, leaves the pins
  pub still_pin : (c d : Core) (n : ℕ) → Steps shapes limit c (marking n) d ⊎ (d ≡ after_redefine c) → pin_of d n ≡ pin_of c n
  still_pin c d n (inl s) = marking_pin c d n n s
  still_pin c d n (inr x) = ap (λ k. pin_of k n) x
