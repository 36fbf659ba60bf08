-- A turn that answers an item keeps a stepped run legal.
use Rattle.std.proofs.Common.{◌≡◌, ◌≢◌, ◌==◌, ℕ, ◌+◌, ◌<◌, ◌≤◌, Bool, true, false, cond, List, [], ◌∷◌, ◌++◌, length, take, get_or, ◌⊎◌, inl, inr, refl, sym, subst, ap, ◌∙◌, arith, length-append, max, append-nil}
use Rattle.std.proofs.lemmas.List.{take_more, get_or-set_same, get_or-set_other, length-set, get_or_past, get_or_append_left, get_or-append-add}
use Rattle.std.proofs.lemmas.Option.{none-some, same_Some, slice_get-get_or, slice_get_within, get_or_from_slice_get, slice_get_past}
use Rattle.std.proofs.lemmas.Bool.{cases_eq, cases_lt, eq-eqb, ne_eqb}
use Rattle.std.specs.Prelude.{slice_get}
use Rattle.std.specs.Option.{unwrap_or}
use Rattle.std.specs.declared.option.Option.TheVariants.{Some, None}
use Rattle.pg_value.specs.declared.write.Commit.{Commit}
use Rattle.pg_value.specs.declared.shape.Shapes.{Shapes}
use Rattle.pg_value.specs.Writes.{Limited}
use Rattle.pg_value.specs.Log.{held, IsLawful}
use Rattle.pg_keyed.specs.Lists.{Each}
use Rattle.pg_script.specs.declared.script.Item.{Item}
use Rattle.pg_script.specs.declared.script.Section.{Section}
use Rattle.pg_script.specs.declared.script.Script.{Script}
use Rattle.pg_script.specs.declared.outcome.Outcome.{Outcome}
use Rattle.pg_script.specs.Judged.{Judges, Session, Open, Judged}
use Rattle.pg_script.specs.Session.{number, printed, all_printed, raised, NumbersWithin, IsMet, whole, Runs}
use Rattle.pg_script.specs.Legal.{no_section, items_of, places, setup_of}
use Rattle.pg_core.specs.declared.event.Event.{Event}
use Rattle.pg_core.specs.declared.event.Event.TheVariants as events
use Rattle.pg_core.specs.Core.{Core, pin_of, after_redefine, Steps}
use Rattle.pg_session.specs.Stepped.{World, Run, no_run, now, outs_of, session_at, first_seen, seen_at, next_item, base_of, events_of, leaving, marking, AfterItem, is_last, item_events}
use Rattle.pg_session.proofs.LogLaws.{lawful_more, held_append}
use Rattle.pg_session.proofs.Numbers.{raised_within, numbers_up, numbers_more, number_within, raised_more, printed_more}
use Rattle.pg_session.proofs.Grows.{GoOn, whole_grows, runs_within, runs_more}
use Rattle.pg_session.proofs.Within.{adds, judged_within}
use Rattle.pg_session.proofs.ItemCore.{Keeps, IsOwn, outcome_log, rest_quiet, after_cases, item_keeps, ends_pin, start_pin, still_pin}
use Rattle.pg_session.proofs.OneItem.{Added, nothing, one, Says, judged_says, Opens, rests, shut, goes_on, opens, judged_opens, judged_catalog, printed_number}
use Rattle.pg_session.proofs.LongerLogs.{Ready, now_whole}
use Rattle.pg_session.proofs.BetweenTurns.{first_session, moved, IsPinned, SoFar, InSetup}

pub take_none : {A : Type 0} (xs : List A) → take 0 xs ≡ []
take_none [] = refl
take_none (x ∷ xs) = refl

-- an item that there is stands in a section that there is
pub has_section : (script : Script) (n k : ℕ) (x : Item) → slice_get (items_of script n) k ≡ Some x → n < length script.sections
has_section script n k x h = elim (cases_lt n (length script.sections)) [
  | inl lt ↦ lt
  | inr le ↦ absurd (none-some x (sym (slice_get_past [] k (omega arith)) ∙ ap (λ (s : Section). slice_get s.items k) (sym (get_or_past script.sections n no_section le)) ∙ h))
]

lawful_added : (limit n : ℕ) (log added : List Commit) (o : Outcome) → IsLawful limit log → Added limit n log added o → IsLawful limit (log ++ added)
lawful_added limit n log added o g (nothing e f) = subst (IsLawful limit) (sym (ap (λ l. log ++ l) e ∙ append-nil log)) g
lawful_added limit n log added o g (one c e f p t) = subst (λ l. IsLawful limit (log ++ l)) (sym e) record {
  each = lawful_more [] log c g.each t.before t.some t.free;
  within = let h : held (log ++ c ∷ []) ≡ held log + held (c ∷ []) = held_append log (c ∷ []) in omega (arith, h, t.room);
}

places_append : (m at : ℕ) (xs ys : List Commit) → places m at (xs ++ ys) ≡ places m at xs ++ places m (at + length xs) ys
places_append m at [] ys = ap (λ x. places m x ys) (omega arith)
places_append m at (c ∷ cs) ys =
    let r : places m (at + 1) (cs ++ ys) ≡ places m (at + 1) cs ++ places m (at + length (c ∷ cs)) ys = places_append m (at + 1) cs ys ∙ ap (λ x. places m (at + 1) cs ++ places m x ys) (omega arith) in
    elim (c.session == m) as (λ b. cond b (at ∷ places m (at + 1) (cs ++ ys)) (places m (at + 1) (cs ++ ys)) ≡ cond b (at ∷ places m (at + 1) cs) (places m (at + 1) cs) ++ places m (at + length (c ∷ cs)) ys) [
      | true ↦ ap (λ l. at ∷ l) r
      | false ↦ r
    ]

places_self : (limit n : ℕ) (log added : List Commit) (o : Outcome) → Added limit n log added o → places n (1 + length log) added ≡ printed o
places_self limit n log added o (nothing e f) = ap (places n (1 + length log)) e ∙ sym f
places_self limit n log added o (one c e f p t) = ap (places n (1 + length log)) e ∙ ap (λ b. cond b ((1 + length log) ∷ []) []) (eq-eqb c.session n f) ∙ ap (λ x. x ∷ []) (omega arith) ∙ sym p

places_other : (limit n m : ℕ) (log added : List Commit) (o : Outcome) → (m ≡ n → ⊥) → Added limit n log added o → places m (1 + length log) added ≡ []
places_other limit n m log added o d (nothing e f) = ap (places m (1 + length log)) e
places_other limit n m log added o d (one c e f p t) = ap (places m (1 + length log)) e ∙ ap (λ b. cond b ((1 + length log) ∷ []) []) (ne_eqb c.session m (λ x. d (sym x ∙ f)))

first_low : {K D C Q X Y : Type 0} (J : Judges K D C Q X Y) (empty : K) (limit : ℕ) (script : Script) (w : World K) (m : ℕ) → SoFar J empty limit script w → first_seen w.core.log m ≤ length w.core.log
first_low J empty limit script w m g = elim (m == 0) as (λ b. cond b 0 (setup_of w.core.log) ≤ length w.core.log) [ true ↦ omega arith | false ↦ g.setup_low ]

module _ {K D C Q X Y : Type 0} (J : Judges K D C Q X Y) (empty : K) (limit : ℕ) (script : Script) (w : World K) (n : ℕ) (item : Item) (o : Outcome) (writes : Limited) (s' : Session K) (core' : Core)
    (g : SoFar J empty limit script w) (next : next_item script w n ≡ Some item) (judged : Judged J (now limit w.core (outs_of w.runs) writes n) n (seen_at w n) (session_at w n) item o s')
    (after : AfterItem (J.shapes s'.catalog) limit w.core (item_events script w n writes o s'.open_) o core')
    (exact : n ≡ 0 → length w.core.log ≡ seen_at w n) where
  abbrev w' : World K
  w' = moved w n o core' s'

  abbrev added : List Commit
  added = adds n writes o

  abbrev L : List Commit
  L = w.core.log ++ added

  abbrev Shaped : Shapes
  Shaped = J.shapes s'.catalog

  abbrev last : Bool
  last = is_last script w n

  abbrev own_events : List Event
  own_events = events_of n (session_at w n).open_ writes o

  says : Says limit n w.core.log writes o
  says = judged_says J limit w writes n (seen_at w n) (session_at w n) item o s' judged

  log_is : w'.core.log ≡ L
  log_is = outcome_log Shaped limit w.core core' n writes (leaving n s'.open_ last ++ marking n) (rest_quiet Shaped limit n s'.open_ last) (session_at w n).open_ o says.1 after

  keeps : Keeps n w.core core'
  keeps = item_keeps Shaped limit w.core core' n (session_at w n).open_ writes o s'.open_ last after

  section : n < length script.sections
  section = has_section script n (length (outs_of w.runs n)) item next

  place : n < length w.runs
  place = omega (arith, section, g.as_many)

  seat : n < length w.core.pins
  seat = omega (arith, section, g.seats)

  unfinished : length (outs_of w.runs n) < length (items_of script n)
  unfinished = slice_get_within (items_of script n) (length (outs_of w.runs n)) item next

  run_self : (m : ℕ) → m ≡ n → get_or w'.runs m no_run ≡ record { outs = outs_of w.runs n ++ o ∷ []; open_ = s'.open_ }
  run_self m e = subst (λ k. get_or w'.runs k no_run ≡ record { outs = outs_of w.runs n ++ o ∷ []; open_ = s'.open_ }) (sym e) (get_or-set_same w.runs n (record { outs = outs_of w.runs n ++ o ∷ []; open_ = s'.open_ }) no_run place)

  run_other : (m : ℕ) → (m ≡ n → ⊥) → get_or w'.runs m no_run ≡ get_or w.runs m no_run
  run_other m d = get_or-set_other w.runs n m (record { outs = outs_of w.runs n ++ o ∷ []; open_ = s'.open_ }) no_run d

  go : GoOn (outs_of w.runs) (outs_of w'.runs)
  go m = elim (cases_eq m n) [
    | inl e ↦ (o ∷ [], ap (λ r. r.outs) (run_self m e) ∙ ap (λ k. outs_of w.runs k ++ o ∷ []) (sym e))
    | inr d ↦ ([], ap (λ r. r.outs) (run_other m d) ∙ sym (append-nil (outs_of w.runs m)))
  ]

  ready : Ready w n (seen_at w n) (session_at w n)
  ready = record {
    low = raised_within (length w.core.log) 0 (first_seen w.core.log n) (outs_of w.runs n) (g.heard n) (first_low J empty limit script w n g);
    exact = exact;
    from = from_low;
    near = λ k f. elim f [
      | inl p ↦ (let b = (g.pins n).near p.0 p.1 unfinished in let e : base_of w.core n ≡ b.0 = ap (λ x. unwrap_or x w.core.base) b.1 in (omega (arith, e, b.2, p.2), omega (arith, e, b.3, p.2)))
      | inr p ↦ (let e : base_of w.core n ≡ w.core.base = ap (λ x. unwrap_or x w.core.base) ((g.pins n).free p.0) in (omega (arith, e, g.near.low, p.1), omega (arith, e, g.near.high, p.1)))
    ];
    heard = g.heard;
  } where
    from_low : (k : ℕ) → ((t : Open) × ((session_at w n).open_ ≡ Some t) × (t.from ≡ k)) ⊎ (((session_at w n).open_ ≡ None) × (k ≡ length w.core.log)) → k ≤ length w.core.log
    from_low k (inl p) = let h = (g.pins n).old p.0 p.1 in omega (arith, h, p.2)
    from_low k (inr p) = omega (arith, p.1)

  added_is : Added limit n w.core.log added o
  added_is = says.0

  -- the table's case, over the longer log
  whole_judged : Judged J (whole limit L (IsMet (outs_of w'.runs)) n) n (seen_at w n) (session_at w n) item o s'
  whole_judged = judged_within (now_whole limit w writes (outs_of w'.runs) n (seen_at w n) (session_at w n) o go ready) J item s' judged

  log_longer : length w.core.log ≤ length L
  log_longer = omega (arith, length-append w.core.log added)

  number_low : number (seen_at w n) o ≤ length L
  number_low = number_within J limit L (IsMet (outs_of w'.runs)) n (seen_at w n) (session_at w n) (omega (arith, ready.low, log_longer)) (λ t e. let h = (g.pins n).old t e in omega (arith, h, log_longer)) item o s' whole_judged

  heard' : (m : ℕ) → NumbersWithin (length L) 0 (outs_of w'.runs m)
  heard' m = let up = numbers_up (length w.core.log) (length L) 0 (outs_of w.runs m) log_longer (g.heard m) in elim (cases_eq m n) [
    | inl e ↦ subst (NumbersWithin (length L) 0) (sym (ap (λ r. r.outs) (run_self m e) ∙ ap (λ k. outs_of w.runs k ++ o ∷ []) (sym e)))
        (numbers_more (length L) 0 (seen_at w n) (outs_of w.runs m) o up (omega arith) number_low)
    | inr d ↦ subst (NumbersWithin (length L) 0) (sym (ap (λ r. r.outs) (run_other m d))) up
  ]

  fits' : (m : ℕ) → length (outs_of w'.runs m) ≤ length (items_of script m)
  fits' m = elim (cases_eq m n) [
    | inl e ↦ (let h : length (outs_of w'.runs m) ≡ length (outs_of w.runs n ++ o ∷ []) = ap (λ r. length r.outs) (run_self m e) in
        let i : length (items_of script m) ≡ length (items_of script n) = ap (λ k. length (items_of script k)) e in
        omega (arith, h, i, length-append (outs_of w.runs n) (o ∷ []), unfinished))
    | inr d ↦ (let h : length (outs_of w'.runs m) ≡ length (outs_of w.runs m) = ap (λ r. length r.outs) (run_other m d) in omega (arith, h, g.fits m))
  ]

  entries' : (m : ℕ) → places m 1 L ≡ all_printed (outs_of w'.runs m)
  entries' m = places_append m 1 w.core.log added ∙ elim (cases_eq m n) [
    | inl e ↦ ap (λ l. l ++ places m (1 + length w.core.log) added) (g.entries m) ∙ ap (λ k. all_printed (outs_of w.runs m) ++ places k (1 + length w.core.log) added) e
        ∙ ap (λ l. all_printed (outs_of w.runs m) ++ l) (places_self limit n w.core.log added o added_is) ∙ sym (printed_more (outs_of w.runs m) o)
        ∙ ap all_printed (sym (ap (λ r. r.outs) (run_self m e) ∙ ap (λ k. outs_of w.runs k ++ o ∷ []) (sym e)))
    | inr d ↦ ap (λ l. places m 1 w.core.log ++ l) (places_other limit n m w.core.log added o d added_is) ∙ append-nil (places m 1 w.core.log) ∙ g.entries m
        ∙ ap all_printed (sym (ap (λ r. r.outs) (run_other m d)))
  ]

  abbrev Left : ℕ → Type 0
  Left k = k < length (items_of script n)

  not_last : length (outs_of w.runs n) + 1 < length (items_of script n) → last ≡ false
  not_last h = ne_eqb _ _ (λ e. omega (arith, h, e))

  -- the events, where those of the outcome and those behind it are known
  events_are : (es rest : List Event) → own_events ≡ es → leaving n s'.open_ last ≡ rest
      → Steps Shaped limit w.core (es ++ (rest ++ marking n)) core' ⊎ ((core' ≡ after_redefine w.core) × (es ≡ []))
  events_are es rest e f = elim (after_cases Shaped limit w.core core' (own_events ++ (leaving n s'.open_ last ++ marking n)) o after) [
    | inl x ↦ inl (subst (λ y. Steps Shaped limit w.core (y ++ (rest ++ marking n)) core') e (subst (λ y. Steps Shaped limit w.core (own_events ++ (y ++ marking n)) core') f x))
    | inr x ↦ inr (x.0, sym e ∙ x.1 n (session_at w n).open_ writes)
  ]

  left_shut : s'.open_ ≡ None → leaving n s'.open_ last ≡ []
  left_shut q = ap (λ z. leaving n z last) q

  left_open : (t : Open) → s'.open_ ≡ Some t → last ≡ false → leaving n s'.open_ last ≡ []
  left_open t q f = ap (λ z. leaving n z last) q ∙ ap (λ b. cond b (events.Release n ∷ []) []) f

  -- where the outcome has no event the pin stays
  pin_still : own_events ≡ [] → leaving n s'.open_ last ≡ [] → pin_of w'.core n ≡ pin_of w.core n
  pin_still e f = elim (events_are [] [] e f) [
    | inl x ↦ still_pin Shaped limit w.core core' n (inl x)
    | inr x ↦ still_pin Shaped limit w.core core' n (inr x.0)
  ]

  not_nil : (front : List Event) → front ++ events.Release n ∷ [] ≡ [] → ⊥
  not_nil [] h = omega (arith, ap length h)
  not_nil (x ∷ front) h = omega (arith, ap length h)

  pin_goes : (front : List Event) → Each (IsOwn n) front → own_events ≡ front ++ events.Release n ∷ [] → leaving n s'.open_ last ≡ [] → pin_of w'.core n ≡ None
  pin_goes front own e f = elim (events_are (front ++ events.Release n ∷ []) [] e f) [
    | inl x ↦ ends_pin Shaped limit w.core core' n front own seat x
    | inr x ↦ absurd (not_nil front x.1)
  ]

  pin_starts : own_events ≡ events.Pin n ∷ [] → leaving n s'.open_ last ≡ [] → pin_of w'.core n ≡ Some w.core.base
  pin_starts e f = elim (events_are (events.Pin n ∷ []) [] e f) [
    | inl x ↦ start_pin Shaped limit w.core core' n seat x
    | inr x ↦ absurd (omega (arith, ap length x.1))
  ]

  pins_shut : s'.open_ ≡ None → pin_of w'.core n ≡ None → IsPinned L (pin_of w'.core n) s'.open_ (Left (length (outs_of w.runs n) + 1))
  pins_shut e p = record {
    old = λ t x. absurd (none-some t (sym e ∙ x));
    free = λ x. p;
    near = λ t x q. absurd (none-some t (sym e ∙ x));
  }

  pins_self : Opens J limit w writes n (seen_at w n) (session_at w n) s' o → IsPinned L (pin_of w'.core n) s'.open_ (Left (length (outs_of w.runs n) + 1))
  pins_self (rests p q ev) = pins_shut q (pin_still ev (left_shut q) ∙ (g.pins n).free p)
  pins_self (shut front q own ev) = pins_shut q (pin_goes front own ev (left_shut q))
  pins_self (goes_on t t' p q f ev) = record {
    old = λ x e. let h = (g.pins n).old t p in let v : t'.from ≡ x.from = ap (λ z. z.from) (same_Some t' x (sym q ∙ e)) in omega (arith, h, f, v, log_longer);
    free = λ e. absurd (none-some t' (sym e ∙ q));
    near = λ x e left. let b = (g.pins n).near t p unfinished in
        let v : t'.from ≡ x.from = ap (λ z. z.from) (same_Some t' x (sym q ∙ e)) in
        (b.0, pin_still ev (left_open t' q (not_last left)) ∙ b.1, omega (arith, b.2, f, v), omega (arith, b.3, f, v));
  }
  pins_self (opens t' p q f ev) = record {
    old = λ x e. let v : t'.from ≡ x.from = ap (λ z. z.from) (same_Some t' x (sym q ∙ e)) in omega (arith, f, v, log_longer);
    free = λ e. absurd (none-some t' (sym e ∙ q));
    near = λ x e left.
        let v : t'.from ≡ x.from = ap (λ z. z.from) (same_Some t' x (sym q ∙ e)) in
        (w.core.base, pin_starts ev (left_open t' q (not_last left)), omega (arith, f, v, g.near.low), omega (arith, f, v, g.near.high));
  }

  pins_are : (m : ℕ) → IsPinned L (pin_of w'.core m) (get_or w'.runs m no_run).open_ (length (outs_of w'.runs m) < length (items_of script m))
  pins_are m = elim (cases_eq m n) [
    | inl e ↦ subst (λ (r : Run). IsPinned L (pin_of w'.core m) r.open_ (length r.outs < length (items_of script m))) (sym (run_self m e))
        (subst (λ k. IsPinned L (pin_of w'.core k) s'.open_ (length (outs_of w.runs n ++ o ∷ []) < length (items_of script k))) (sym e)
        (subst (λ k. IsPinned L (pin_of w'.core n) s'.open_ (k < length (items_of script n))) (sym (length-append (outs_of w.runs n) (o ∷ [])))
        (pins_self (judged_opens J limit w writes n (seen_at w n) (session_at w n) item o s' judged))))
    | inr d ↦ subst (λ (r : Run). IsPinned L (pin_of w'.core m) r.open_ (length r.outs < length (items_of script m))) (sym (run_other m d))
        (subst (λ p. IsPinned L p (session_at w m).open_ (length (outs_of w.runs m) < length (items_of script m))) (sym (keeps.others m d)) (longer_pin m (g.pins m)))
  ] where
    longer_pin : (m : ℕ) → IsPinned w.core.log (pin_of w.core m) (session_at w m).open_ (length (outs_of w.runs m) < length (items_of script m)) → IsPinned L (pin_of w.core m) (session_at w m).open_ (length (outs_of w.runs m) < length (items_of script m))
    longer_pin m p = record { old = λ t e. let h = p.old t e in omega (arith, h, log_longer); free = p.free; near = p.near }

  -- the runs of a section, as they are now seen
  abbrev RunsAt : List Commit → (ℕ → List Outcome) → ℕ → ℕ → Session K → List Item → List Outcome → Session K → Type 0
  RunsAt log outs m seen s is os t = Runs J (whole limit log (IsMet outs) m) m seen s is os t

  items_more : take (length (outs_of w.runs n ++ o ∷ [])) (items_of script n) ≡ take (length (outs_of w.runs n)) (items_of script n) ++ item ∷ []
  items_more = ap (λ k. take k (items_of script n)) (length-append (outs_of w.runs n) (o ∷ []))
      ∙ take_more (items_of script n) (length (outs_of w.runs n)) item unfinished
      ∙ ap (λ x. take (length (outs_of w.runs n)) (items_of script n) ++ x ∷ []) (get_or_from_slice_get (items_of script n) (length (outs_of w.runs n)) item item next)

  runs_grown : (m : ℕ) → RunsAt L (outs_of w'.runs) m (first_seen w.core.log m) (first_session empty w m) (take (length (outs_of w.runs m)) (items_of script m)) (outs_of w.runs m) (session_at w m)
  runs_grown m = runs_within J m (whole limit w.core.log (IsMet (outs_of w.runs)) m) (whole limit L (IsMet (outs_of w'.runs)) m) (λ seen s o. whole_grows limit w.core.log added (outs_of w.runs) (outs_of w'.runs) m seen s o go)
      (first_seen w.core.log m) (first_session empty w m) (take (length (outs_of w.runs m)) (items_of script m)) (outs_of w.runs m) (session_at w m) (g.runs m)

  -- section n with its new outcome
  runs_self : RunsAt L (outs_of w'.runs) n (first_seen w.core.log n) (first_session empty w n) (take (length (outs_of w'.runs n)) (items_of script n)) (outs_of w'.runs n) (session_at w' n)
  runs_self =
      subst (λ (r : Run). RunsAt L (outs_of w'.runs) n (first_seen w.core.log n) (first_session empty w n) (take (length r.outs) (items_of script n)) r.outs (record { open_ = r.open_; catalog = s'.catalog })) (sym (run_self n refl))
      (subst (λ is. RunsAt L (outs_of w'.runs) n (first_seen w.core.log n) (first_session empty w n) is (outs_of w.runs n ++ o ∷ []) s') (sym items_more)
      (runs_more J n (whole limit L (IsMet (outs_of w'.runs)) n) (first_seen w.core.log n) (first_session empty w n) (take (length (outs_of w.runs n)) (items_of script n)) (outs_of w.runs n) (session_at w n) item o s' (runs_grown n) whole_judged))

  -- all but the runs and the setup's part
  pub kept_so : ((m : ℕ) → RunsAt L (outs_of w'.runs) m (first_seen L m) (first_session empty w' m) (take (length (outs_of w'.runs m)) (items_of script m)) (outs_of w'.runs m) (session_at w' m))
      → setup_of L ≤ length L → ((c : ℕ) (commit : Commit) → slice_get L c ≡ Some commit → setup_of L ≤ c → commit.session ≢ 0) → SoFar J empty limit script w'
  kept_so runs low first = record {
    lawful = subst (IsLawful limit) (sym log_is) (lawful_added limit n w.core.log added o g.lawful added_is);
    near = keeps.near g.near;
    peak = keeps.peak g.peak;
    as_many = length-set w.runs n _ ∙ g.as_many;
    seats = omega (arith, g.seats, keeps.seats);
    heard = λ m. subst (λ l. NumbersWithin (length l) 0 (outs_of w'.runs m)) (sym log_is) (heard' m);
    fits = fits';
    runs = λ m. subst (λ l. RunsAt l (outs_of w'.runs) m (first_seen l m) (first_session empty w' m) (take (length (outs_of w'.runs m)) (items_of script m)) (outs_of w'.runs m) (session_at w' m)) (sym log_is) (runs m);
    pins = λ m. subst (λ l. IsPinned l (pin_of w'.core m) (get_or w'.runs m no_run).open_ (length (outs_of w'.runs m) < length (items_of script m))) (sym log_is) (pins_are m);
    entries = λ m. ap (places m 1) log_is ∙ entries' m;
    setup_low = subst (λ l. setup_of l ≤ length l) (sym log_is) low;
    setup_first = subst (λ l. (c : ℕ) (commit : Commit) → slice_get l c ≡ Some commit → setup_of l ≤ c → commit.session ≢ 0) (sym log_is) first;
  }

  -- A SESSION'S TURN
  setup_same : (n ≡ 0 → ⊥) → setup_of L ≡ setup_of w.core.log
  setup_same z = ap length (places_append 0 1 w.core.log added ∙ ap (λ l. places 0 1 w.core.log ++ l) (places_other limit n 0 w.core.log added o (λ e. z (sym e)) added_is) ∙ append-nil (places 0 1 w.core.log))

  slice_front : (xs ys : List Commit) (c : ℕ) (d : Commit) → c < length xs → slice_get xs c ≡ slice_get (xs ++ ys) c
  slice_front xs ys c d lt = slice_get-get_or xs c d lt ∙ ap Some (sym (get_or_append_left xs ys d c lt)) ∙ sym (slice_get-get_or (xs ++ ys) c d (omega (arith, lt, length-append xs ys)))

  new_one : (c : ℕ) (commit : Commit) → slice_get L c ≡ Some commit → length w.core.log ≤ c → Added limit n w.core.log added o → commit.session ≡ n
  new_one c commit h le (nothing e f) =
      let b = slice_get_within L c commit h in
      let q : length L ≡ length w.core.log = ap length (ap (λ l. w.core.log ++ l) e ∙ append-nil w.core.log) in
      absurd (omega (arith, b, q, le))
  new_one c commit h le (one x e f p t) =
      let b = slice_get_within L c commit h in
      let q : length L ≡ length w.core.log + 1 = ap (λ l. length (w.core.log ++ l)) e ∙ length-append w.core.log (x ∷ []) in
      let at : c ≡ length w.core.log + 0 = omega (arith, b, q, le) in
      let y : get_or L c commit ≡ x = ap (λ l. get_or (w.core.log ++ l) c commit) e ∙ ap (λ k. get_or (w.core.log ++ x ∷ []) k commit) at ∙ get_or-append-add w.core.log (x ∷ []) 0 commit in
      ap (λ z. z.session) (sym (get_or_from_slice_get L c commit commit h) ∙ y) ∙ f

  first_kept : (n ≡ 0 → ⊥) → (c : ℕ) (commit : Commit) → slice_get L c ≡ Some commit → setup_of L ≤ c → commit.session ≢ 0
  first_kept z c commit h le = elim (cases_lt c (length w.core.log)) [
    | inl lt ↦ g.setup_first c commit (slice_front w.core.log added c commit lt ∙ h) (omega (arith, le, setup_same z))
    | inr ge ↦ λ e. z (sym (new_one c commit h ge added_is) ∙ e)
  ]

  catalog_same : (n ≡ 0 → ⊥) → w.catalog ≡ s'.catalog
  catalog_same z = sym (judged_catalog J limit w writes n (seen_at w n) (session_at w n) item o s' z judged)

  session_runs : (n ≡ 0 → ⊥) → (m : ℕ) → RunsAt L (outs_of w'.runs) m (first_seen L m) (first_session empty w' m) (take (length (outs_of w'.runs m)) (items_of script m)) (outs_of w'.runs m) (session_at w' m)
  session_runs z m =
      subst (λ k. RunsAt L (outs_of w'.runs) m (cond (m == 0) 0 k) (first_session empty w' m) (take (length (outs_of w'.runs m)) (items_of script m)) (outs_of w'.runs m) (session_at w' m)) (sym (setup_same z))
      (subst (λ k. RunsAt L (outs_of w'.runs) m (first_seen w.core.log m) (record { open_ = None; catalog = cond (m == 0) empty k }) (take (length (outs_of w'.runs m)) (items_of script m)) (outs_of w'.runs m) (session_at w' m)) (catalog_same z)
      (elim (cases_eq m n) [
        | inl e ↦ subst (λ k. RunsAt L (outs_of w'.runs) k (first_seen w.core.log k) (first_session empty w k) (take (length (outs_of w'.runs k)) (items_of script k)) (outs_of w'.runs k) (session_at w' k)) (sym e) runs_self
        | inr d ↦ subst (λ (r : Run). RunsAt L (outs_of w'.runs) m (first_seen w.core.log m) (first_session empty w m) (take (length r.outs) (items_of script m)) r.outs (record { open_ = r.open_; catalog = s'.catalog })) (sym (run_other m d))
            (subst (λ k. RunsAt L (outs_of w'.runs) m (first_seen w.core.log m) (first_session empty w m) (take (length (outs_of w.runs m)) (items_of script m)) (outs_of w.runs m) (record { open_ = (get_or w.runs m no_run).open_; catalog = k })) (catalog_same z) (runs_grown m))
      ]))

  pub session_kept : (n ≡ 0 → ⊥) → SoFar J empty limit script w'
  session_kept z = kept_so (session_runs z) (omega (arith, g.setup_low, setup_same z, log_longer)) (first_kept z)

  as_printed : length added ≡ length (printed o)
  as_printed = printed_long added_is where
    printed_long : Added limit n w.core.log added o → length added ≡ length (printed o)
    printed_long (nothing e f) = ap length e ∙ sym (ap length f)
    printed_long (one c e f p t) = ap length e ∙ sym (ap length p)

  -- A TURN OF THE SETUP
  all_added : n ≡ 0 → setup_of w.core.log ≡ length w.core.log → setup_of L ≡ length L
  all_added z a =
      let p : setup_of L ≡ length (places 0 1 w.core.log ++ places 0 (1 + length w.core.log) added) = ap length (places_append 0 1 w.core.log added) in
      let q : length (places 0 (1 + length w.core.log) added) ≡ length (printed o) = ap (λ k. length (places k (1 + length w.core.log) added)) (sym z) ∙ ap length (places_self limit n w.core.log added o added_is) in
      omega (arith, p, q, a, as_printed, length-append (places 0 1 w.core.log) (places 0 (1 + length w.core.log) added), length-append w.core.log added)

  seen_zero : n ≡ 0 → seen_at w n ≡ raised 0 (outs_of w.runs n)
  seen_zero z = ap (λ b. raised (cond b 0 (setup_of w.core.log)) (outs_of w.runs n)) (eq-eqb n 0 z)

  number_exact : length w.core.log ≡ seen_at w n → Added limit n w.core.log added o → length L ≡ max (seen_at w n) (number (seen_at w n) o)
  number_exact x (nothing e f) = let q : length L ≡ length w.core.log = ap length (ap (λ l. w.core.log ++ l) e ∙ append-nil w.core.log) in omega (arith, q, x, number_low)
  number_exact x (one c e f p t) =
      let q : length L ≡ length w.core.log + 1 = ap (λ l. length (w.core.log ++ l)) e ∙ length-append w.core.log (c ∷ []) in
      let m : number (seen_at w n) o ≡ length w.core.log + 1 = printed_number (seen_at w n) (length w.core.log + 1) o p in
      omega (arith, q, x, m)

  exact_kept : n ≡ 0 → length w.core.log ≡ seen_at w n → length L ≡ raised 0 (outs_of w'.runs 0)
  exact_kept z x = number_exact x added_is
      ∙ ap (λ k. max k (number k o)) (seen_zero z)
      ∙ sym (raised_more 0 (outs_of w.runs n) o)
      ∙ ap (raised 0) (sym (ap (λ r. r.outs) (run_self 0 (sym z))))

  setup_runs : n ≡ 0 → InSetup w → (m : ℕ) → RunsAt L (outs_of w'.runs) m (first_seen L m) (first_session empty w' m) (take (length (outs_of w'.runs m)) (items_of script m)) (outs_of w'.runs m) (session_at w' m)
  setup_runs z i m = elim (cases_eq m n) [
    | inl e ↦ subst (λ k. RunsAt L (outs_of w'.runs) k (first_seen L k) (first_session empty w' k) (take (length (outs_of w'.runs k)) (items_of script k)) (outs_of w'.runs k) (session_at w' k)) (sym e)
        (subst (λ b. RunsAt L (outs_of w'.runs) n (cond b 0 (setup_of L)) (record { open_ = None; catalog = cond b empty s'.catalog }) (take (length (outs_of w'.runs n)) (items_of script n)) (outs_of w'.runs n) (session_at w' n)) (sym (eq-eqb n 0 z))
        (subst (λ b. RunsAt L (outs_of w'.runs) n (cond b 0 (setup_of w.core.log)) (record { open_ = None; catalog = cond b empty w.catalog }) (take (length (outs_of w'.runs n)) (items_of script n)) (outs_of w'.runs n) (session_at w' n)) (eq-eqb n 0 z) runs_self))
    | inr d ↦
        let y : (m == 0) ≡ false = ne_eqb m 0 (λ e. d (e ∙ sym z)) in
        subst (λ (r : Run). RunsAt L (outs_of w'.runs) m (first_seen L m) (first_session empty w' m) (take (length r.outs) (items_of script m)) r.outs (record { open_ = r.open_; catalog = s'.catalog })) (sym (run_other m d ∙ i.alone m (λ e. d (e ∙ sym z))))
        (subst (λ is. RunsAt L (outs_of w'.runs) m (first_seen L m) (first_session empty w' m) is [] (record { open_ = None; catalog = s'.catalog })) (sym (take_none (items_of script m)))
        (ap (λ b. record { open_ = None; catalog = cond b empty s'.catalog }) (sym y)))
  ]

  pub setup_kept : n ≡ 0 → InSetup w → SoFar J empty limit script w' × InSetup w'
  setup_kept z i =
      let a : setup_of L ≡ length L = all_added z i.all in (
        kept_so (setup_runs z i) (omega (arith, a)) (λ c commit h le. absurd (let b = slice_get_within L c commit h in omega (arith, b, le, a))),
        record {
          alone = λ m d. run_other m (λ e. d (e ∙ z)) ∙ i.alone m d;
          all = ap setup_of log_is ∙ a ∙ sym (ap length log_is);
          exact = ap length log_is ∙ exact_kept z (exact z);
        },
      )
