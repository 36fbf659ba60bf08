-- What the log so far lets an outcome say, every longer log lets it say too.
use Rattle.std.proofs.Common.{◌≡◌, ℕ, ◌+◌, ◌≤◌, List, [], ◌++◌, length, take, ◌⊎◌, sym, subst, ap, ◌∙◌, arith, length-append}
use Rattle.std.proofs.lemmas.List.{take-append-le, take_all, length-drop}
use Rattle.std.specs.declared.option.Option.TheVariants.{Some, None}
use Rattle.pg_value.specs.declared.write.Commit.{Commit}
use Rattle.pg_value.specs.Log.{put, puts, held, conflict}
use Rattle.pg_value.specs.Writes.{Limited}
use Rattle.pg_script.specs.declared.outcome.Outcome.{Outcome}
use Rattle.pg_script.specs.Judged.{Session, Open}
use Rattle.pg_script.specs.Session.{NumbersWithin, IsMet, whole}
use Rattle.pg_core.specs.Core.{most_over_base}
use Rattle.pg_session.specs.Stepped.{World, now, outs_of, base_of}
use Rattle.pg_session.proofs.LogLaws.{conflict_take, conflict_bounds}
use Rattle.pg_session.proofs.Numbers.{numbers_take}
use Rattle.pg_session.proofs.Grows.{GoOn}
use Rattle.pg_session.proofs.Within.{Within, adds}

-- what the run knows of the section whose turn it is
pub record Ready {K : Type 0} (w : World K) (n seen : ℕ) (s : Session K) : Type 0 where
  pub low : seen ≤ length w.core.log
  pub exact : n ≡ 0 → length w.core.log ≡ seen
  pub from : (k : ℕ) → ((t : Open) × (s.open_ ≡ Some t) × (t.from ≡ k)) ⊎ ((s.open_ ≡ None) × (k ≡ length w.core.log)) → k ≤ length w.core.log
  pub near : (k : ℕ) → ((t : Open) × (s.open_ ≡ Some t) × (t.from ≡ k)) ⊎ ((s.open_ ≡ None) × (k ≡ length w.core.log)) → (base_of w.core n ≤ k) × (k ≤ base_of w.core n + most_over_base)
  pub heard : (m : ℕ) → NumbersWithin (length w.core.log) 0 (outs_of w.runs m)

take_whole : (log added : List Commit) → take (length log) (log ++ added) ≡ log
take_whole log added = take-append-le (length log) log added (omega arith) ∙ take_all (length log) log (omega arith)

pub now_whole : {K : Type 0} (limit : ℕ) (w : World K) (writes : Limited) (outs' : ℕ → List Outcome) (n seen : ℕ) (s : Session K) (o : Outcome) → GoOn (outs_of w.runs) outs' → Ready w n seen s
    → Within n seen s o (now limit w.core (outs_of w.runs) writes n) (whole limit (w.core.log ++ adds n writes o) (IsMet outs') n)
now_whole limit w writes outs' n seen s o go r = let log : List Commit = w.core.log in let added : List Commit = adds n writes o in record {
  starts = λ k u p. (omega (arith, p, r.low), omega (arith, p, length-append log added), λ z. p ∙ r.exact z);
  defines = λ at z p. p ∙ r.exact z;
  sees = λ k ws t f p. let le = r.from k f in (omega (arith, le, length-append log added), p ∙ ap (λ l. put (puts [] l) ws) (sym (take-append-le k log added le)));
  logs = λ c k commit f e p. (log, [], ap (λ l. log ++ l) (ap (λ ws. adds n ws o) (sym p.1) ∙ e), p.2);
  conflicts = λ k ws x j f p.
      let b = conflict_bounds log k ws x j p.1 in
      let le = r.from k f in
      let low : j ≤ length log = omega (arith, b.1, length-drop k log, le) in
      (omega (arith, low, length-append log added), ap (λ l. conflict l k ws) (take-append-le j log added low) ∙ conflict_take log k ws x j p.1);
  fills = λ k ws room f p. let e = take_whole log added in
      (length log, r.from k f, r.low, omega (arith, length-append log added), ap (λ l. conflict l k ws) e ∙ p.1, p.2 ∙ ap held (sym e), (let e : room ≡ held log = p.2 in omega (arith, p.3, e)));
  meets = λ m i at p. let g = go m in (
    omega (arith, p.1, r.low),
    omega (arith, p.1, length-append log added),
    (
      subst (λ l. i ≤ length l) (sym g.1) (omega (arith, p.0, length-append (outs_of w.runs m) g.0)),
      subst (λ l. NumbersWithin at 0 l) (sym (take-append-le i (outs_of w.runs m) g.0 p.0) ∙ ap (take i) (sym g.1))
          (subst (λ x. NumbersWithin x 0 (take i (outs_of w.runs m))) (sym p.1) (numbers_take (length log) 0 i (outs_of w.runs m) (r.heard m))),
    ),
  );
  bases = λ k base f p. let b = r.near k f in (omega (arith, p, b.0), omega (arith, p, b.1));
}
