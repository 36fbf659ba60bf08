-- The commits of a legal transcript are fit, under a language whose changes write what fits.
use Rattle.std.proofs.Common.{◌≡◌, ℕ, zero, suc, ◌+◌, ◌<◌, ◌≤◌, ◌==◌, true, false, cond, List, [], ◌∷◌, ◌++◌, length, take, get_or, ◌⊎◌, inl, inr, refl, sym, subst, ap, ◌∙◌, arith, max, length-append}
use Rattle.std.proofs.lemmas.List.{take_more, take_all, get_or_past, length-map}
use Rattle.std.proofs.lemmas.Bool.{cases_lt, eq-eqb}
use Rattle.std.proofs.lemmas.Option.{none-some, same_Some, slice_get_within, slice_get-get_or}
use Rattle.std.specs.Prelude.{slice_get}
use Rattle.std.specs.declared.option.Option.{Option}
use Rattle.std.specs.declared.option.Option.TheVariants.{Some, None}
use Rattle.pg_keyed.specs.Lists.{each_append, each_take, each_map, Among}
use Rattle.pg_value.specs.declared.shape.Shapes.{Shapes}
use Rattle.pg_value.specs.declared.write.Write.{Write}
use Rattle.pg_value.specs.declared.write.Commit.{Commit}
use Rattle.pg_value.specs.Tables.{FitTables, FitWrites}
use Rattle.pg_value.specs.TablesLaws.{put_fits, puts_fit}
use Rattle.pg_value.specs.Log.{after, view, IsLawfulFrom}
use Rattle.pg_script.specs.declared.script.Item.{Item}
use Rattle.pg_script.specs.declared.script.Script.{Script}
use Rattle.pg_script.specs.declared.script.Section.{Section}
use Rattle.pg_script.specs.declared.outcome.Outcome.{Outcome}
use Rattle.pg_script.specs.declared.outcome.Outcome.TheVariants.{ChangedAlone, Committed}
use Rattle.pg_script.specs.declared.transcript.SectionOut.{SectionOut}
use Rattle.pg_script.specs.declared.transcript.Transcript.{Transcript}
use Rattle.pg_script.specs.Judged.{Judges, Fine, Refusal, IsDuplicate, IsTooMany, IsAtColumn, refused, Session, Open, View, AtStart, Judged, Ends, logged, conflicted, filled, unread, already_open, begun, commit_not_open, rollback_not_open, rolled_back, commit_empty, committed, defines_in_session, defines_in_transaction, define_fault, defined, change_fault, change_stopped, changed, changed_none, changed_alone, query_fault, answered, waited}
use Rattle.pg_script.specs.Session.{number, printed, all_printed, Logs, whole, IsMet, Runs}
use Rattle.pg_script.specs.Legal.{no_answers, outcomes_of, items_of, places, Legal}
use Rattle.pg_script.specs.Fitting.{Extends, AreFit, Reached, begins, defines, IsFitting, LogFits}
use Rattle.pg_session.specs.Legality.{LegalLogsFit}

fit_none : (shapes : Shapes) → AreFit shapes []
fit_none shapes = record { in_order = tt; fit = tt }

-- the first commits are fit
abbrev Prefix : Shapes → List Commit → ℕ → Type 0
Prefix shapes log k = LogFits shapes (take k log)

after_fit : (shapes : Shapes) (log : List Commit) (k : ℕ) → Prefix shapes log k → FitTables shapes (after log k)
after_fit shapes log k p = puts_fit shapes [] (take k log) (record { in_order = tt; each = tt }) (each_map (λ c. AreFit shapes c.writes.list) (λ c. FitWrites shapes c.writes.list) (λ c a. a.fit) (take k log) p)

view_fit : (shapes : Shapes) (log : List Commit) (k : ℕ) (ws : List Write) → Prefix shapes log k → AreFit shapes ws → FitTables shapes (view log k ws)
view_fit shapes log k ws p a = put_fits shapes (after log k) ws (after_fit shapes log k p) a.fit

-- A SECTION

module _ {K D C Q X Y : Type 0} (J : Judges K D C Q X Y) (empty : K) (fitting : IsFitting J empty) (limit : ℕ) (log : List Commit) (met : ℕ → ℕ → ℕ → Type 0) (n : ℕ) (shapes : Shapes) where
  -- where the commits that it had read are fit, its writes are
  abbrev OpenFits : Option Open → Type 0
  OpenFits x = (t : Open) → x ≡ Some t → Prefix shapes log t.from → AreFit shapes t.writes

  -- the commit of a number that is told of is fit, where those that it had read are
  abbrev Told : List ℕ → Type 0
  Told cs = (c : ℕ) → Among c cs → (commit : Commit) × Logs log c commit × (Prefix shapes log commit.from → AreFit shapes commit.writes.list)

  record Holds (s : Session K) : Type 0 where
    reached : Reached J empty s.catalog
    extends : Extends (J.shapes s.catalog) shapes
    open_fits : OpenFits s.open_

  -- the catalog stays, or a definition leads on
  judged_catalog : (seen : ℕ) (s : Session K) (item : Item) (o : Outcome) (s' : Session K) → Judged J (whole limit log met n) n seen s item o s' → (s'.catalog ≡ s.catalog) ⊎ ((d : D) × (name : List ℕ) × J.defines s.catalog d (Fine (name, s'.catalog)))
  judged_catalog seen s item o s' (unread k b r e f) = inl (ap (λ z. z.catalog) f)
  judged_catalog seen s item o s' (already_open t r p e f) = inl (ap (λ z. z.catalog) f)
  judged_catalog seen s item o s' (begun k r p q e f) = inl (ap (λ z. z.catalog) f)
  judged_catalog seen s item o s' (commit_not_open r p e f) = inl (ap (λ z. z.catalog) f)
  judged_catalog seen s item o s' (rollback_not_open r p e f) = inl (ap (λ z. z.catalog) f)
  judged_catalog seen s item o s' (rolled_back t r p e f) = inl (ap (λ z. z.catalog) f)
  judged_catalog seen s item o s' (commit_empty k r p e f) = inl (ap (λ z. z.catalog) f)
  judged_catalog seen s item o s' (committed t r p q e f) = inl (ap (λ z. z.catalog) f)
  judged_catalog seen s item o s' (defines_in_session d b r p e f) = inl (ap (λ z. z.catalog) f)
  judged_catalog seen s item o s' (defines_in_transaction d b t r p q e f) = inl (ap (λ z. z.catalog) f)
  judged_catalog seen s item o s' (define_fault d b k at r p q u e f) = inl (ap (λ z. z.catalog) f)
  judged_catalog seen s item o s' (defined d b name at c r p q u v e f) = inr (d, name, subst (λ (z : Session K). J.defines s.catalog d (Fine (name, z.catalog))) (sym f) u)
  judged_catalog seen s item o s' (change_fault c k at r p e f) = inl (ap (λ z. z.catalog) f)
  judged_catalog seen s item o s' (change_stopped c x v row r p u a e f) = inl (ap (λ z. z.catalog) f)
  judged_catalog seen s item o s' (changed c x v rows ws r p u a e f) = inl (ap (λ z. z.catalog) f)
  judged_catalog seen s item o s' (changed_none c x v ws r p u a e f) = inl (ap (λ z. z.catalog) f)
  judged_catalog seen s item o s' (changed_alone c x v rows ws r p u a z e f) = inl (ap (λ z. z.catalog) f)
  judged_catalog seen s item o s' (query_fault q k at r p e f) = inl (ap (λ z. z.catalog) f)
  judged_catalog seen s item o s' (answered q y v base rows r p u a b e f) = inl (ap (λ z. z.catalog) f)
  judged_catalog seen s item o s' (waited x m i at r p e f) = inl (ap (λ z. z.catalog) f)

  stays_open : (s s' : Session K) → s' ≡ s → OpenFits s.open_ → OpenFits s'.open_
  stays_open s s' f h = subst (λ (z : Session K). OpenFits z.open_) (sym f) h

  shut_open : (s' : Session K) → s'.open_ ≡ None → OpenFits s'.open_
  shut_open s' f t e = absurd (none-some t (sym f ∙ e))

  judged_open : (seen : ℕ) (s : Session K) (item : Item) (o : Outcome) (s' : Session K) → Holds s → Judged J (whole limit log met n) n seen s item o s' → OpenFits s'.open_
  judged_open seen s item o s' h (unread k b r e f) = stays_open s s' f h.open_fits
  judged_open seen s item o s' h (already_open t r p e f) = stays_open s s' f h.open_fits
  judged_open seen s item o s' h (begun k r p q e f) = λ t x p'. subst (λ (z : Open). AreFit shapes z.writes) (same_Some (record { from = k; writes = [] }) t (sym (ap (λ z. z.open_) f) ∙ x)) (fit_none shapes)
  judged_open seen s item o s' h (commit_not_open r p e f) = stays_open s s' f h.open_fits
  judged_open seen s item o s' h (rollback_not_open r p e f) = stays_open s s' f h.open_fits
  judged_open seen s item o s' h (rolled_back t r p e f) = shut_open s' (ap (λ z. z.open_) f)
  judged_open seen s item o s' h (commit_empty k r p e f) = shut_open s' (ap (λ z. z.open_) f)
  judged_open seen s item o s' h (committed t r p q e f) = shut_open s' (ap (λ z. z.open_) f)
  judged_open seen s item o s' h (defines_in_session d b r p e f) = stays_open s s' f h.open_fits
  judged_open seen s item o s' h (defines_in_transaction d b t r p q e f) = stays_open s s' f h.open_fits
  judged_open seen s item o s' h (define_fault d b k at r p q u e f) = stays_open s s' f h.open_fits
  judged_open seen s item o s' h (defined d b name at c r p q u v e f) = shut_open s' (ap (λ z. z.open_) f ∙ q)
  judged_open seen s item o s' h (change_fault c k at r p e f) = stays_open s s' f h.open_fits
  judged_open seen s item o s' h (change_stopped c x v row r p u a e f) = stays_open s s' f h.open_fits
  judged_open seen s item o s' h (changed c x v rows ws r p u a e f) = λ t y p'. (let is : record { from = v.from; writes = ws } ≡ t = same_Some (record { from = v.from; writes = ws }) t (sym (ap (λ z. z.open_) f) ∙ y) in let before : Prefix shapes log v.from = subst (λ (z : Open). Prefix shapes log z.from) (sym is) p' in let own : AreFit shapes v.writes = h.open_fits (record { from = v.from; writes = v.writes }) u.under before in subst (λ (z : Open). AreFit shapes z.writes) is (fitting.writes s.catalog c x shapes v.tables v.writes ws rows h.reached h.extends (subst (FitTables shapes) (sym u.sees.1) (view_fit shapes log v.from v.writes before own)) own p a))
  judged_open seen s item o s' h (changed_none c x v ws r p u a e f) = stays_open s s' f h.open_fits
  judged_open seen s item o s' h (changed_alone c x v rows ws r p u a z e f) = stays_open s s' f h.open_fits
  judged_open seen s item o s' h (query_fault q k at r p e f) = stays_open s s' f h.open_fits
  judged_open seen s item o s' h (answered q y v base rows r p u a b e f) = stays_open s s' f h.open_fits
  judged_open seen s item o s' h (waited x m i at r p e f) = stays_open s s' f h.open_fits

  none_told : (o p : Outcome) → o ≡ p → printed p ≡ [] → Told (printed o)
  none_told o p e h c a = absurd (subst (Among c) (ap printed e ∙ h) a)

  refused_printed : (k : ℕ) (r : Refusal) → printed (refused r k) ≡ []
  refused_printed k (IsDuplicate row) = refl
  refused_printed k (IsTooMany row) = refl
  refused_printed k (IsAtColumn kind row column) = refl

  ends_told : (tables : List (List ℕ)) (seen k : ℕ) (ws : List Write) (accepted : ℕ → Outcome) (o : Outcome) → ((c : ℕ) → printed (accepted c) ≡ c ∷ []) → (Prefix shapes log k → AreFit shapes ws)
      → Ends (whole limit log met n) tables n seen k ws accepted o → Told (printed o)
  ends_told tables seen k ws accepted o a fit (logged m commit l i e) = λ c x. elim (subst (Among c) (ap printed e ∙ a m) x) [
    | inl same ↦ (commit, subst (λ z. Logs log z commit) (sym same) l, λ p. subst (AreFit shapes) (sym i.writes) (fit (subst (Prefix shapes log) i.from p)))
    | inr never ↦ absurd never
  ]
  ends_told tables seen k ws accepted o a fit (conflicted w j l e) = none_told o _ e refl
  ends_told tables seen k ws accepted o a fit (filled room l e) = none_told o _ e refl

  start_fit : (seen : ℕ) (s : Session K) (v : View) → AtStart (whole limit log met n) seen s v → Prefix shapes log v.from → FitTables shapes v.tables × AreFit shapes v.writes
  start_fit seen s v u p = let own : AreFit shapes v.writes = subst (AreFit shapes) (sym u.unwritten) (fit_none shapes) in (subst (FitTables shapes) (sym u.sees.1) (view_fit shapes log v.from v.writes p own), own)

  judged_told : (seen : ℕ) (s : Session K) (item : Item) (o : Outcome) (s' : Session K) → Holds s → Judged J (whole limit log met n) n seen s item o s' → Told (printed o)
  judged_told seen s item o s' h (unread k b r e f) = none_told o _ e refl
  judged_told seen s item o s' h (already_open t r p e f) = none_told o _ e refl
  judged_told seen s item o s' h (begun k r p q e f) = none_told o _ e refl
  judged_told seen s item o s' h (commit_not_open r p e f) = none_told o _ e refl
  judged_told seen s item o s' h (rollback_not_open r p e f) = none_told o _ e refl
  judged_told seen s item o s' h (rolled_back t r p e f) = none_told o _ e refl
  judged_told seen s item o s' h (commit_empty k r p e f) = none_told o _ e refl
  judged_told seen s item o s' h (committed t r p q e f) = ends_told (J.tables s.catalog) seen t.from t.writes (Committed t.from) o (λ c. refl) (h.open_fits t p) e
  judged_told seen s item o s' h (defines_in_session d b r p e f) = none_told o _ e refl
  judged_told seen s item o s' h (defines_in_transaction d b t r p q e f) = none_told o _ e refl
  judged_told seen s item o s' h (define_fault d b k at r p q u e f) = none_told o _ e refl
  judged_told seen s item o s' h (defined d b name at c r p q u v e f) = none_told o _ e refl
  judged_told seen s item o s' h (change_fault c k at r p e f) = none_told o _ e refl
  judged_told seen s item o s' h (change_stopped c x v row r p u a e f) = none_told o _ e (refused_printed v.from row)
  judged_told seen s item o s' h (changed c x v rows ws r p u a e f) = none_told o _ e refl
  judged_told seen s item o s' h (changed_none c x v ws r p u a e f) = none_told o _ e refl
  judged_told seen s item o s' h (changed_alone c x v rows ws r p u a z e f) = ends_told (J.tables s.catalog) seen v.from ws (ChangedAlone rows v.from) o (λ c. refl) (λ b. (let k = start_fit seen s v u b in fitting.writes s.catalog c x shapes v.tables v.writes ws rows h.reached h.extends k.0 k.1 p a)) e
  judged_told seen s item o s' h (query_fault q k at r p e f) = none_told o _ e refl
  judged_told seen s item o s' h (answered q y v base rows r p u a b e f) = none_told o _ e refl
  judged_told seen s item o s' h (waited x m i at r p e f) = none_told o _ e refl

  runs_extend : (seen : ℕ) (s : Session K) (is : List Item) (os : List Outcome) (s' : Session K) → Runs J (whole limit log met n) n seen s is os s' → Extends (J.shapes s'.catalog) shapes → Extends (J.shapes s.catalog) shapes
  runs_extend seen s [] [] s' r e = subst (λ (z : Session K). Extends (J.shapes z.catalog) shapes) r e
  runs_extend seen s [] (o ∷ os) s' r e = absurd r
  runs_extend seen s (i ∷ is) [] s' r e = absurd r
  runs_extend seen s (i ∷ is) (o ∷ os) s' r e =
      let next : Extends (J.shapes (r.0).catalog) shapes = runs_extend (max seen (number seen o)) r.0 is os s' r.2 e in
      elim (judged_catalog seen s i o r.0 r.1) [
        | inl same ↦ subst (λ k. Extends (J.shapes k) shapes) same next
        | inr d ↦ λ t shape at. next t shape (fitting.extends s.catalog d.0 d.1 (r.0).catalog d.2 t shape at)
      ]

  runs_told : (seen : ℕ) (s : Session K) (is : List Item) (os : List Outcome) (s' : Session K) → Reached J empty s.catalog → OpenFits s.open_ → Extends (J.shapes s'.catalog) shapes → Runs J (whole limit log met n) n seen s is os s'
      → Told (all_printed os) × Reached J empty s'.catalog
  runs_told seen s [] [] s' k f e r = ((λ c a. absurd a), subst (λ (z : Session K). Reached J empty z.catalog) (sym r) k)
  runs_told seen s [] (o ∷ os) s' k f e r = absurd r
  runs_told seen s (i ∷ is) [] s' k f e r = absurd r
  runs_told seen s (i ∷ is) (o ∷ os) s' k f e r =
      let holds : Holds s = record { reached = k; extends = runs_extend seen s (i ∷ is) (o ∷ os) s' r e; open_fits = f } in
      let next : Reached J empty (r.0).catalog = elim (judged_catalog seen s i o r.0 r.1) [
        | inl same ↦ subst (Reached J empty) (sym same) k
        | inr d ↦ defines s.catalog (r.0).catalog d.0 d.1 k d.2
      ] in
      let rest = runs_told (max seen (number seen o)) r.0 is os s' next (judged_open seen s i o r.0 holds r.1) e r.2 in
      let here = judged_told seen s i o r.0 holds r.1 in
      ((λ c a. elim (among_parts c (printed o) (all_printed os) a) [ inl x ↦ here c x | inr x ↦ rest.0 c x ]), rest.1) where
        among_parts : (c : ℕ) (xs ys : List ℕ) → Among c (xs ++ ys) → Among c xs ⊎ Among c ys
        among_parts c [] ys a = inr a
        among_parts c (x ∷ xs) ys (inl e) = inl (inl e)
        among_parts c (x ∷ xs) ys (inr a) = elim (among_parts c xs ys a) [ inl b ↦ inl (inr b) | inr b ↦ inr b ]

-- THE LOG

-- a commit's number is among its session's
own_place : (at i : ℕ) (log : List Commit) (commit : Commit) → slice_get log i ≡ Some commit → Among (at + i) (places commit.session at log)
own_place at i [] commit h = absurd (let b = slice_get_within [] i commit h in omega (arith, b))
own_place at zero (c ∷ log) commit h =
    let same : c ≡ commit = same_Some c commit h in
    subst (λ b. Among (at + 0) (cond b (at ∷ places commit.session (at + 1) log) (places commit.session (at + 1) log))) (sym (eq-eqb c.session commit.session (ap (λ (x : Commit). x.session) same))) (inl (omega arith))
own_place at (suc i) (c ∷ log) commit h =
    let more : Among (at + suc i) (places commit.session (at + 1) log) = subst (λ k. Among k (places commit.session (at + 1) log)) (omega arith) (own_place (at + 1) i log commit h) in
    elim (c.session == commit.session) as (λ b. Among (at + suc i) (cond b (at ∷ places commit.session (at + 1) log) (places commit.session (at + 1) log))) [ true ↦ inr more | false ↦ more ]

-- the commit that stands at a place of the log
stands_at : (front back : List Commit) (commit : Commit) → slice_get (front ++ commit ∷ back) (length front) ≡ Some commit
stands_at [] back commit = refl
stands_at (c ∷ front) back commit = stands_at front back commit

-- in a lawful log a commit had read an earlier version
lawful_before : (before log : List Commit) (i : ℕ) (commit : Commit) → IsLawfulFrom before log → slice_get log i ≡ Some commit → commit.from ≤ length before + i
lawful_before before [] i commit l h = absurd (let b = slice_get_within [] i commit h in omega (arith, b))
lawful_before before (c ∷ log) zero commit l h = let same : c ≡ commit = same_Some c commit h in omega (arith, l.0, ap (λ (x : Commit). x.from) same)
lawful_before before (c ∷ log) (suc i) commit l h = let r = lawful_before (before ++ c ∷ []) log i commit l.3 h in omega (arith, r, length-append before (c ∷ []))

module _ {K D C Q X Y : Type 0} (J : Judges K D C Q X Y) (empty : K) (limit : ℕ) (script : Script) (t : Transcript) (fitting : IsFitting J empty) (legal : Legal J empty limit script t) where
  abbrev F : Shapes
  F = J.shapes legal.catalog

  abbrev Met : ℕ → ℕ → ℕ → Type 0
  Met = IsMet (outcomes_of t.sections)

  extends_self : Extends F F
  extends_self n shape at = at

  not_open : (x : Option Open) → x ≡ None → (s : Open) → x ≡ Some s → Prefix F t.log s.from → AreFit F s.writes
  not_open x none s e = absurd (none-some s (sym none ∙ e))

  setup_told : Told J empty fitting limit t.log Met 0 F (all_printed (outcomes_of t.sections 0)) × Reached J empty legal.catalog
  setup_told =
      let s = legal.setup in
      let e : Extends (J.shapes (s.last).catalog) F = subst (λ k. Extends (J.shapes k) F) (sym s.leaves) extends_self in
      let r = runs_told J empty fitting limit t.log Met 0 F 0 (record { open_ = None; catalog = empty }) (items_of script 0) (outcomes_of t.sections 0) s.last begins (not_open None refl) e s.runs in
      (r.0, subst (Reached J empty) s.leaves r.1)

  session_told : (n : ℕ) → 0 < n → n < length script.sections → Told J empty fitting limit t.log Met n F (all_printed (outcomes_of t.sections n))
  session_told n pos lt =
      let s = legal.each n pos lt in
      let e : Extends (J.shapes (s.last).catalog) F = subst (λ k. Extends (J.shapes k) F) (sym s.leaves) extends_self in
      (runs_told J empty fitting limit t.log Met n F _ (record { open_ = None; catalog = legal.catalog }) (items_of script n) (outcomes_of t.sections n) s.last setup_told.1 (not_open None refl) e s.runs).0

  as_many : length t.sections ≡ length script.sections
  as_many = sym (length-map t.sections (λ (s : SectionOut). s.name)) ∙ ap length legal.as_named ∙ length-map script.sections (λ (s : Section). s.name)

  abbrev CommitFits : Commit → Type 0
  CommitFits commit = Prefix F t.log commit.from → AreFit F commit.writes.list

  told_fits : (n i : ℕ) (commit : Commit) → Told J empty fitting limit t.log Met n F (all_printed (outcomes_of t.sections n)) → slice_get t.log i ≡ Some commit → Among (1 + i) (all_printed (outcomes_of t.sections n)) → CommitFits commit
  told_fits n i commit told at a =
      let x = told (1 + i) a in
      let place : length x.1.0 ≡ i = omega (arith, x.1.3) in
      let is : x.0 ≡ commit = same_Some x.0 commit (sym (stands_at x.1.0 x.1.1 x.0) ∙ ap (λ l. slice_get l (length x.1.0)) (sym x.1.2) ∙ ap (slice_get t.log) place ∙ at) in
      subst CommitFits is x.2

  commit_fits : (i : ℕ) (commit : Commit) → slice_get t.log i ≡ Some commit → CommitFits commit
  commit_fits i commit at =
      let a : Among (1 + i) (all_printed (outcomes_of t.sections commit.session)) = subst (Among (1 + i)) (legal.entries commit.session) (own_place 1 i t.log commit at) in
      elim (cases_lt commit.session (length script.sections)) [
        | inl lt ↦ elim (cases_lt 0 commit.session) [
          | inl pos ↦ told_fits commit.session i commit (session_told commit.session pos lt) at a
          | inr none ↦ (let z : commit.session ≡ 0 = omega (arith, none) in told_fits 0 i commit setup_told.0 at (subst (λ n. Among (1 + i) (all_printed (outcomes_of t.sections n))) z a))
        ]
        | inr le ↦ absurd (subst (λ (o : SectionOut). Among (1 + i) (all_printed o.outcomes)) (get_or_past t.sections commit.session no_answers (omega (arith, le, as_many))) a)
      ]

  prefix_fits : (k : ℕ) → Prefix F t.log k
  prefix_fits zero = none_taken t.log where
    none_taken : (log : List Commit) → LogFits F (take 0 log)
    none_taken [] = tt
    none_taken (c ∷ log) = tt
  prefix_fits (suc k) = elim (cases_lt k (length t.log)) [
    | inl lt ↦ (let d : Commit = get_or t.log k no_commit in
        let at : slice_get t.log k ≡ Some d = slice_get-get_or t.log k no_commit lt in
        let before : d.from ≤ k = (let l = lawful_before [] t.log k d legal.lawful.each at in omega (arith, l)) in
        let read : Prefix F t.log d.from = earlier k d.from before (prefix_fits k) in
        subst (λ l. LogFits F l) (sym (take_is k d lt)) (each_append (λ c. AreFit F c.writes.list) (take k t.log) (d ∷ []) (prefix_fits k) (commit_fits k d at read, tt)))
    | inr le ↦ subst (λ l. LogFits F l) (take_all k t.log le ∙ sym (take_all (suc k) t.log (omega (arith, le)))) (prefix_fits k)
  ] where
    no_commit : Commit
    no_commit = record { session = 0; from = 0; writes = record { list = []; limit = 0 } }

    take_is : (k : ℕ) (d : Commit) → k < length t.log → take (suc k) t.log ≡ take k t.log ++ get_or t.log k no_commit ∷ []
    take_is k d lt = let next : suc k ≡ k + 1 = omega arith in ap (λ j. take j t.log) next ∙ take_more t.log k no_commit lt

    earlier : (k j : ℕ) → j ≤ k → Prefix F t.log k → Prefix F t.log j
    earlier k j le p = subst (λ l. LogFits F l) (taken k j t.log le) (each_take (λ c. AreFit F c.writes.list) j (take k t.log) p) where
      taken : (k j : ℕ) (log : List Commit) → j ≤ k → take j (take k log) ≡ take j log
      taken k zero [] le = refl
      taken zero zero (c ∷ log) le = refl
      taken (suc k) zero (c ∷ log) le = refl
      taken zero (suc j) log le = absurd (omega (arith, le))
      taken (suc k) (suc j) [] le = refl
      taken (suc k) (suc j) (c ∷ log) le = ap (λ l. c ∷ l) (taken k j log (omega (arith, le)))

  pub log_fits : LogFits F t.log
  log_fits = subst (λ l. LogFits F l) (take_all (length t.log) t.log (omega arith)) (prefix_fits (length t.log))

-- the law, in any language
pub legal_logs_fit : {K D C Q X Y : Type 0} (J : Script → Judges K D C Q X Y) → LegalLogsFit J
legal_logs_fit J empty limit script t fitting legal = log_fits (J script) empty limit script t fitting legal
