-- The transcript of every stepped run is legal.
use Rattle.std.proofs.Common.{◌≡◌, ◌==◌, ℕ, zero, suc, ◌+◌, ◌<◌, ◌≤◌, Bool, true, false, cond, List, [], ◌∷◌, ◌++◌, length, map, take, drop, get_or, ◌⊎◌, inl, inr, refl, sym, subst, ap, ◌∙◌, arith, length-append}
use Rattle.std.proofs.lemmas.List.{take_all, drop-drop, get_or-drop, length-drop, get_or-replicate, length-replicate, get_or-set_same, get_or-set_other, get_or_past}
use Rattle.std.proofs.lemmas.Option.{none-some, slice_get_within, slice_get-get_or}
use Rattle.std.proofs.lemmas.Bool.{cases_eq, cases_lt, ne_eqb}
use Rattle.std.specs.Prelude.{slice_get, replicate, is_some}
use Rattle.std.specs.declared.option.Option.{Option}
use Rattle.std.specs.declared.option.Option.TheVariants.{None}
use Rattle.pg_script.specs.declared.script.Section.{Section}
use Rattle.pg_script.specs.declared.script.Script.{Script}
use Rattle.pg_script.specs.declared.outcome.Outcome.{Outcome}
use Rattle.pg_script.specs.declared.transcript.SectionOut.{SectionOut}
use Rattle.pg_script.specs.declared.transcript.Transcript.{Transcript}
use Rattle.pg_script.specs.Judged.{Judges, Session}
use Rattle.pg_script.specs.Session.{IsMet, whole, Runs, raised, NumbersWithin, all_printed}
use Rattle.pg_script.specs.Legal.{no_section, items_of, no_answers, outcomes_of, setup_of, section_out, IsLegalSection, Legal}
use Rattle.pg_core.specs.Core.{pin_of}
use Rattle.pg_session.specs.Stepped.{World, Run, no_run, outs_of, session_at, first_seen, Did, IsIdle, Turn, Turns, run_out, setup_turns, last_turns, first_world, seats_of, section_outs, transcript_of, Stepped, AreSessionTurns, Earlier}
use Rattle.pg_session.specs.TurnsJoin.{turns_split}
use Rattle.pg_session.specs.Legality.{SteppedRunsAreLegal}
use Rattle.pg_session.proofs.BetweenTurns.{first_session, moved, IsPinned, SoFar, InSetup}
use Rattle.pg_session.proofs.KeepsLegal.{session_kept, setup_kept, has_section, take_none}

get_none : {A : Type 0} (xs : List A) (k : ℕ) → k < length xs → slice_get xs k ≡ None → ⊥
get_none [] k lt h = omega (arith, lt)
get_none (x ∷ xs) k lt h = none-some (get_or (x ∷ xs) k x) (sym h ∙ slice_get-get_or (x ∷ xs) k x lt)

-- what the sections print is what they answered
outcomes_are : (sections : List Section) (runs : List Run) → length runs ≡ length sections → (n : ℕ) → outcomes_of (section_outs sections runs) n ≡ outs_of runs n
outcomes_are [] [] e n = refl
outcomes_are [] (r ∷ runs) e n = absurd (omega (arith, e))
outcomes_are (s ∷ sections) [] e n = absurd (omega (arith, e))
outcomes_are (s ∷ sections) (r ∷ runs) e zero = refl
outcomes_are (s ∷ sections) (r ∷ runs) e (suc n) = outcomes_are sections runs (omega (arith, e)) n

rolled_back_is : (sections : List Section) (runs : List Run) → length runs ≡ length sections → (n : ℕ) → (get_or (section_outs sections runs) n no_answers).rolled_back ≡ is_some (get_or runs n no_run).open_
rolled_back_is [] [] e n = refl
rolled_back_is [] (r ∷ runs) e n = absurd (omega (arith, e))
rolled_back_is (s ∷ sections) [] e n = absurd (omega (arith, e))
rolled_back_is (s ∷ sections) (r ∷ runs) e zero = refl
rolled_back_is (s ∷ sections) (r ∷ runs) e (suc n) = rolled_back_is sections runs (omega (arith, e)) n

names_are : (sections : List Section) (runs : List Run) → length runs ≡ length sections → map (λ (o : SectionOut). o.name) (section_outs sections runs) ≡ map (λ (s : Section). s.name) sections
names_are [] [] e = refl
names_are [] (r ∷ runs) e = absurd (omega (arith, e))
names_are (s ∷ sections) [] e = absurd (omega (arith, e))
names_are (s ∷ sections) (r ∷ runs) e = ap (λ l. s.name ∷ l) (names_are sections runs (omega (arith, e)))

module _ {K D C Q X Y : Type 0} (J : Judges K D C Q X Y) (empty : K) (limit : ℕ) (script : Script) where
  abbrev Good : World K → Type 0
  Good w = SoFar J empty limit script w

  abbrev T : World K → ℕ → World K → Type 0
  T w n w' = Turn J limit script w n w'

  -- the world after an item
  becomes : (w w' : World K) (n : ℕ) (d : Did J limit script w n w') → w' ≡ moved w n d.outcome w'.core d.session
  becomes w w' n d = λ i. record { core = w'.core; catalog = d.catalog i; runs = d.runs i }

  -- a session's turn, and the setup's, keep what is legal so far
  pub session_turn : (w w' : World K) (n : ℕ) → (n ≡ 0 → ⊥) → Good w → T w n w' → Good w'
  session_turn w w' n z g (inl i) = subst Good (sym i.1) g
  session_turn w w' n z g (inr d) = subst Good (sym (becomes w w' n d)) (session_kept J empty limit script w n d.item d.outcome d.writes d.session w'.core g d.next d.judged d.core (λ e. absurd (z e)) z)

  pub setup_turn : (w w' : World K) → Good w → InSetup w → T w 0 w' → Good w' × InSetup w'
  setup_turn w w' g i (inl h) = (subst Good (sym h.1) g, subst InSetup (sym h.1) i)
  setup_turn w w' g i (inr d) =
      let k = setup_kept J empty limit script w 0 d.item d.outcome d.writes d.session w'.core g d.next d.judged d.core (λ e. i.exact) refl i in
      (subst Good (sym (becomes w w' 0 d)) k.0, subst InSetup (sym (becomes w w' 0 d)) k.1)

  session_turns : (w w' : World K) (ns : List ℕ) → AreSessionTurns ns → Good w → Turns J limit script w ns w' → Good w'
  session_turns w w' [] z g t = subst Good (sym t) g
  session_turns w w' (n ∷ ns) z g t = session_turns t.0 w' ns z.1 (session_turn w t.0 n z.0 g t.1) t.2

  setup_all : (w w' : World K) (k : ℕ) → Good w → InSetup w → Turns J limit script w (replicate k 0) w' → Good w' × InSetup w'
  setup_all w w' zero g i t = (subst Good (sym t) g, subst InSetup (sym t) i)
  setup_all w w' (suc k) g i t = let h = setup_turn w t.0 g i t.1 in setup_all t.0 w' k h.0 h.1 t.2

  -- FINISHING
  abbrev Finished : World K → ℕ → Type 0
  Finished w m = length (items_of script m) ≤ length (outs_of w.runs m)

  grown : (w w' : World K) (n m : ℕ) → Good w → T w n w' → length (outs_of w.runs m) ≤ length (outs_of w'.runs m)
  grown w w' n m g (inl i) = omega (arith, ap (λ (x : World K). length (outs_of x.runs m)) i.1)
  grown w w' n m g (inr d) =
      let place : n < length w.runs = let s = has_section script n (length (outs_of w.runs n)) d.item d.next in omega (arith, s, g.as_many) in
      let e : length (outs_of w'.runs m) ≡ length (outs_of (moved w n d.outcome w'.core d.session).runs m) = ap (λ (x : World K). length (outs_of x.runs m)) (becomes w w' n d) in
      elim (cases_eq m n) [
        | inl q ↦ (let f : length (outs_of (moved w n d.outcome w'.core d.session).runs m) ≡ length (outs_of w.runs n ++ d.outcome ∷ []) =
            ap (λ k. length (outs_of (moved w n d.outcome w'.core d.session).runs k)) q ∙ ap (λ (r : Run). length r.outs) (get_or-set_same w.runs n _ no_run place) in
            let y : length (outs_of w.runs m) ≡ length (outs_of w.runs n) = ap (λ k. length (outs_of w.runs k)) q in
            omega (arith, e, f, y, length-append (outs_of w.runs n) (d.outcome ∷ [])))
        | inr q ↦ (let f : length (outs_of (moved w n d.outcome w'.core d.session).runs m) ≡ length (outs_of w.runs m) = ap (λ (r : Run). length r.outs) (get_or-set_other w.runs n m _ no_run q) in omega (arith, e, f))
      ]

  -- an unfinished section whose earlier ones are finished goes on
  goes_on : (w w' : World K) (n : ℕ) → Earlier J script → Good w → ((m : ℕ) → m < n → Finished w m) → T w n w' → Finished w n ⊎ (length (outs_of w'.runs n) ≡ length (outs_of w.runs n) + 1)
  goes_on w w' n early g before (inr d) =
      let place : n < length w.runs = let s = has_section script n (length (outs_of w.runs n)) d.item d.next in omega (arith, s, g.as_many) in
      inr (ap (λ (x : World K). length (outs_of x.runs n)) (becomes w w' n d) ∙ ap (λ (r : Run). length r.outs) (get_or-set_same w.runs n _ no_run place) ∙ length-append (outs_of w.runs n) (d.outcome ∷ []))
  goes_on w w' n early g before (inl i) = elim (cases_lt (length (outs_of w.runs n)) (length (items_of script n))) [
    | inl lt ↦ absurd (never i.0 lt)
    | inr le ↦ inl le
  ] where
    never : IsIdle J script w n → length (outs_of w.runs n) < length (items_of script n) → ⊥
    never (inl h) lt = get_none (items_of script n) (length (outs_of w.runs n)) lt h
    never (inr h) lt = let e = early n (length (outs_of w.runs n)) h.1 h.2 h.3 h.0 h.4 h.5 in let f = before h.2 e.0 in omega (arith, e.1, f, h.6)

  -- so many turns of one section finish it
  finish_one : (P : World K → Type 0) (n : ℕ) → ((x y : World K) → P x → T x n y → P y) → ((x : World K) → P x → Good x) → Earlier J script
      → (k : ℕ) (w w' : World K) → P w → ((m : ℕ) → m < n → Finished w m) → length (items_of script n) ≤ length (outs_of w.runs n) + k → Turns J limit script w (replicate k n) w'
      → P w' × ((m : ℕ) → m < n + 1 → Finished w' m)
  finish_one P n step good early zero w w' p before enough t = (
    subst P (sym t) p,
    λ m lt. subst (λ (x : World K). Finished x m) (sym t) (elim (cases_lt m n) [
      | inl l ↦ before m l
      | inr ge ↦ (let e : m ≡ n = omega (arith, lt, ge) in subst (Finished w) (sym e) (omega (arith, enough)))
    ]),
  )
  finish_one P n step good early (suc k) w w' p before enough t =
      let p' : P t.0 = step w t.0 p t.1 in
      let before' : (m : ℕ) → m < n → Finished t.0 m = λ m lt. (let a = before m lt in let b = grown w t.0 n m (good w p) t.1 in omega (arith, a, b)) in
      let enough' : length (items_of script n) ≤ length (outs_of (t.0).runs n) + k = elim (goes_on w t.0 n early (good w p) before t.1) [
        | inl f ↦ (let b = grown w t.0 n n (good w p) t.1 in omega (arith, f, b))
        | inr e ↦ omega (arith, e, enough)
      ] in
      finish_one P n step good early k t.0 w' p' before' enough' t.2

  run_all : Earlier J script → (xs : List Section) (n : ℕ) (w w' : World K) → (n ≡ 0 → ⊥) → xs ≡ drop n script.sections → Good w → ((m : ℕ) → m < n → Finished w m) → Turns J limit script w (run_out n xs) w'
      → Good w' × ((m : ℕ) → m < n + length xs → Finished w' m)
  run_all early [] n w w' z e g before t = (subst Good (sym t) g, λ m lt. subst (λ (x : World K). Finished x m) (sym t) (before m (omega (arith, lt))))
  run_all early (s ∷ xs) n w w' z e g before t =
      let h = turns_split J limit script w w' (replicate (length s.items) n) (run_out (n + 1) xs) t in
      let same : s ≡ get_or script.sections n no_section = ap (λ (l : List Section). get_or l 0 no_section) e ∙ get_or-drop n script.sections 0 no_section ∙ ap (λ k. get_or script.sections k no_section) (omega arith) in
      let f = finish_one Good n (λ x y. session_turn x y n z) (λ x p. p) early (length s.items) w h.0 g before (omega (arith, ap (λ (x : Section). length x.items) same)) h.1 in
      let rest : xs ≡ drop (n + 1) script.sections = ap (drop 1) e ∙ drop-drop 1 n script.sections in
      let r = run_all early xs (n + 1) h.0 w' (λ q. omega (arith, q)) rest f.0 f.1 h.2 in
      (r.0, λ m lt. r.1 m (omega (arith, lt)))

  -- THE FIRST STATE
  abbrev begins_with : K → Session K
  begins_with k = record { open_ = None; catalog = k }

  all_alike : {A : Type 0} (n m : ℕ) (a : A) → get_or (replicate n a) m a ≡ a
  all_alike n m a = elim (cases_lt m n) [
    | inl lt ↦ get_or-replicate n m a a lt
    | inr ge ↦ get_or_past (replicate n a) m a (omega (arith, ge, length-replicate n a))
  ]

  abbrev First : World K
  First = first_world script empty (seats_of script)

  alone : (m : ℕ) → get_or First.runs m no_run ≡ no_run
  alone m = all_alike (length script.sections) m no_run

  -- nothing has been answered, and that is legal
  pub first_good : Good First × InSetup First
  first_good = (
    record {
      lawful = record { each = tt; within = omega arith };
      near = record { low = omega arith; high = omega arith };
      peak = omega arith;
      as_many = length-replicate (length script.sections) no_run;
      seats = omega (arith, length-replicate {A = Option ℕ} (length script.sections + 1) None);
      heard = λ m. subst (λ (r : Run). NumbersWithin 0 0 r.outs) (sym (alone m)) tt;
      fits = λ m. subst (λ (r : Run). length r.outs ≤ length (items_of script m)) (sym (alone m)) (omega arith);
      runs = λ m. subst (λ (r : Run). Runs J (whole limit [] (IsMet (outs_of First.runs)) m) m (first_seen [] m) (first_session empty First m) (take (length r.outs) (items_of script m)) r.outs (record { open_ = r.open_; catalog = empty })) (sym (alone m))
          (subst (λ is. Runs J (whole limit [] (IsMet (outs_of First.runs)) m) m (first_seen [] m) (first_session empty First m) is [] (record { open_ = None; catalog = empty })) (sym (take_none (items_of script m)))
          (same_either (m == 0)));
      pins = λ m. subst (λ (r : Run). IsPinned [] (pin_of First.core m) r.open_ (length r.outs < length (items_of script m))) (sym (alone m))
          (record { old = λ t e. absurd (none-some t e); free = λ e. all_alike (length script.sections + 1) m None; near = λ t e l. absurd (none-some t e) });
      entries = λ m. ap (λ (r : Run). all_printed r.outs) (sym (alone m));
      setup_low = omega arith;
      setup_first = λ c commit h le. absurd (let b = slice_get_within [] c commit h in omega (arith, b));
    },
    record {
      alone = λ m d. alone m;
      all = refl;
      exact = ap (λ (r : Run). raised 0 r.outs) (sym (alone 0));
    },
  ) where
    same_either : (b : Bool) → begins_with empty ≡ begins_with (cond b empty empty)
    same_either true = refl
    same_either false = refl

  -- THE THEOREM
  legal_section : (w : World K) (n seen : ℕ) (catalog : K) → Good w → Finished w n
      → Runs J (whole limit w.core.log (IsMet (outs_of w.runs)) n) n seen (begins_with catalog) (take (length (outs_of w.runs n)) (items_of script n)) (outs_of w.runs n) (session_at w n)
      → IsLegalSection J limit w.core.log (IsMet (outcomes_of (section_outs script.sections w.runs))) n seen (items_of script n) (section_out (transcript_of J script w) n) catalog w.catalog
  legal_section w n seen catalog g f r = record {
    last = session_at w n;
    runs = subst (λ (outs : ℕ → List Outcome). Runs J (whole limit w.core.log (IsMet outs) n) n seen (begins_with catalog) (items_of script n) (outs n) (session_at w n)) (λ i m. sym (outcomes_are script.sections w.runs g.as_many m) i)
        (subst (λ is. Runs J (whole limit w.core.log (IsMet (outs_of w.runs)) n) n seen (begins_with catalog) is (outs_of w.runs n) (session_at w n)) (take_all _ (items_of script n) f) r);
    leaves = refl;
    rolled_back = rolled_back_is script.sections w.runs g.as_many n;
  }

  finished_legal : (w : World K) → Good w → ((m : ℕ) → m < 1 + length (drop 1 script.sections) → Finished w m) → Legal J empty limit script (transcript_of J script w)
  finished_legal w g f = record {
    catalog = w.catalog;
    lawful = g.lawful;
    as_setup = refl;
    as_named = names_are script.sections w.runs g.as_many;
    setup = legal_section w 0 0 empty g (f 0 (omega arith)) (g.runs 0);
    each = λ m pos lt.
        let y : (m == 0) ≡ false = ne_eqb m 0 (λ e. omega (arith, e, pos)) in
        legal_section w m (setup_of w.core.log) w.catalog g (f m (omega (arith, lt, length-drop 1 script.sections)))
        (subst (λ b. Runs J (whole limit w.core.log (IsMet (outs_of w.runs)) m) m (cond b 0 (setup_of w.core.log)) (record { open_ = None; catalog = cond b empty w.catalog }) (take (length (outs_of w.runs m)) (items_of script m)) (outs_of w.runs m) (session_at w m)) y (g.runs m));
    entries = λ n. g.entries n ∙ ap all_printed (sym (outcomes_are script.sections w.runs g.as_many n));
    setup_first = g.setup_first;
    tables_named = refl;
    peak = g.peak;
  }

  -- In every script that is accepted a wait names an earlier section and one of its items, and the order names sessions.
  -- A number in the order that is no section's does nothing, so nothing is asked of it.
  pub stepped_legal : Earlier J script → AreSessionTurns script.order → (t : Transcript) → Stepped J empty limit script t → Legal J empty limit script t
  stepped_legal early order t s =
      let a = turns_split J limit script First s.last (setup_turns script) (script.order ++ last_turns script) s.turns in
      let b = turns_split J limit script a.0 s.last script.order (last_turns script) a.2 in
      let one = setup_all First a.0 (length (items_of script 0)) first_good.0 first_good.1 a.1 in
      let zero_done = finish_one (λ w. Good w × InSetup w) 0 (λ x y p q. setup_turn x y p.0 p.1 q) (λ x p. p.0) early (length (items_of script 0)) First a.0 first_good (λ m lt. absurd (omega (arith, lt))) (omega arith) a.1 in
      let two = session_turns a.0 b.0 script.order order one.0 b.1 in
      let still : (m : ℕ) → m < 1 → Finished b.0 m = λ m lt. (let x = zero_done.1 m (omega (arith, lt)) in let y = grown_all a.0 b.0 script.order m order one.0 b.1 in omega (arith, x, y)) in
      let r = run_all early (drop 1 script.sections) 1 b.0 s.last (λ e. omega (arith, e)) refl two still b.2 in
      subst (Legal J empty limit script) (sym s.is_transcript) (finished_legal s.last r.0 r.1) where
        grown_all : (w w' : World K) (ns : List ℕ) (m : ℕ) → AreSessionTurns ns → Good w → Turns J limit script w ns w' → length (outs_of w.runs m) ≤ length (outs_of w'.runs m)
        grown_all w w' [] m z g t = omega (arith, ap (λ (x : World K). length (outs_of x.runs m)) t)
        grown_all w w' (n ∷ ns) m z g t =
            let x = grown w t.0 n m g t.1 in
            let y = grown_all t.0 w' ns m z.1 (session_turn w t.0 n z.0 g t.1) t.2 in omega (arith, x, y)

-- the law, in any language
pub stepped_runs_are_legal : {K D C Q X Y : Type 0} (J : Script → Judges K D C Q X Y) → SteppedRunsAreLegal J
stepped_runs_are_legal J empty limit script t early order stepped = stepped_legal (J script) empty limit script early order t stepped
