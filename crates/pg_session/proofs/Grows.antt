-- What is legal of a log stays legal as the log and the other sections' outcomes grow.
use Rattle.std.proofs.Common.{◌≡◌, ℕ, ◌≤◌, List, [], ◌∷◌, ◌++◌, length, take, refl, sym, subst, ap, ◌∙◌, arith, length-append, max, append_assoc}
use Rattle.std.proofs.lemmas.List.{take-append-le}
use Rattle.pg_value.specs.declared.write.Commit.{Commit}
use Rattle.pg_value.specs.Log.{put, puts, held, conflict}
use Rattle.pg_script.specs.declared.script.Item.{Item}
use Rattle.pg_script.specs.declared.outcome.Outcome.{Outcome}
use Rattle.pg_script.specs.Judged.{Judges, History, Session, Judged}
use Rattle.pg_script.specs.Session.{number, raised, NumbersWithin, IsMet, whole, Runs}
use Rattle.pg_session.proofs.Within.{Within, judged_within}

take_grown : {A : Type 0} (k : ℕ) (xs ys : List A) → k ≤ length xs → take k xs ≡ take k (xs ++ ys)
take_grown k xs ys le = sym (take-append-le k xs ys le)

longer : {A : Type 0} (k : ℕ) (xs ys : List A) → k ≤ length xs → k ≤ length (xs ++ ys)
longer k xs ys le = omega (arith, length-append xs ys, le)

-- the outcomes of each section go on
abbrev pub GoOn : (ℕ → List Outcome) → (ℕ → List Outcome) → Type 0
GoOn outs outs' = (m : ℕ) → (rest : List Outcome) × (outs' m ≡ outs m ++ rest)

-- what was met of an AFTER stays met
met_on : (outs outs' : ℕ → List Outcome) → GoOn outs outs' → (m i at : ℕ) → IsMet outs m i at → IsMet outs' m i at
met_on outs outs' go m i at p = let g = go m in (
  subst (λ l. i ≤ length l) (sym g.1) (longer i (outs m) g.0 p.0),
  subst (NumbersWithin at 0) (take_grown i (outs m) g.0 p.0 ∙ ap (take i) (sym g.1)) p.1,
)

pub whole_grows : {K : Type 0} (limit : ℕ) (log more : List Commit) (outs outs' : ℕ → List Outcome) (n seen : ℕ) (s : Session K) (o : Outcome) → GoOn outs outs'
    → Within n seen s o (whole limit log (IsMet outs) n) (whole limit (log ++ more) (IsMet outs') n)
whole_grows limit log more outs outs' n seen s o go = record {
  starts = λ k u p. (p.0, longer k log more p.1, p.2);
  defines = λ at z p. p;
  sees = λ k ws t f p. (longer k log more p.0, p.1 ∙ ap (λ l. put (puts [] l) ws) (take_grown k log more p.0));
  logs = λ c k commit f e p. (p.0, p.1 ++ more, ap (λ l. l ++ more) p.2 ∙ append_assoc p.0 (commit ∷ p.1) more, p.3);
  conflicts = λ k ws w j f p. (longer j log more p.0, ap (λ l. conflict l k ws) (sym (take_grown j log more p.0)) ∙ p.1);
  fills = λ k ws room f p. let e = take_grown p.0 log more p.3 in
      (p.0, p.1, p.2, longer p.0 log more p.3, ap (λ l. conflict l k ws) (sym e) ∙ p.4, p.5 ∙ ap held e, p.6);
  meets = λ m i at p. (p.0, longer at log more p.1, met_on outs outs' go m i at p.2);
  bases = λ k base f p. p;
}

module _ {K D C Q X Y : Type 0} (J : Judges K D C Q X Y) where
  pub runs_within : (n : ℕ) (h h' : History) → ((seen : ℕ) (s : Session K) (o : Outcome) → Within n seen s o h h')
      → (seen : ℕ) (s : Session K) (is : List Item) (os : List Outcome) (s' : Session K) → Runs J h n seen s is os s' → Runs J h' n seen s is os s'
  runs_within n h h' g seen s [] [] s' r = r
  runs_within n h h' g seen s [] (o ∷ os) s' r = absurd r
  runs_within n h h' g seen s (i ∷ is) [] s' r = absurd r
  runs_within n h h' g seen s (i ∷ is) (o ∷ os) s' r = (r.0, judged_within (g seen s o) J i r.0 r.1, runs_within n h h' g (max seen (number seen o)) r.0 is os s' r.2)

  pub runs_more : (n : ℕ) (h : History) (seen : ℕ) (s : Session K) (is : List Item) (os : List Outcome) (m : Session K) (i : Item) (o : Outcome) (s' : Session K)
      → Runs J h n seen s is os m → Judged J h n (raised seen os) m i o s' → Runs J h n seen s (is ++ i ∷ []) (os ++ o ∷ []) s'
  runs_more n h seen s [] [] m i o s' r j = (s', subst (λ z. Judged J h n seen z i o s') r j, refl)
  runs_more n h seen s [] (p ∷ os) m i o s' r j = absurd r
  runs_more n h seen s (x ∷ is) [] m i o s' r j = absurd r
  runs_more n h seen s (x ∷ is) (p ∷ os) m i o s' r j = (r.0, r.1, runs_more n h (max seen (number seen p)) r.0 is os m i o s' r.2 j)
