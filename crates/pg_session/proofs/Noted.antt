-- A section that was judged alone, by the AFTERs that it noted, is judged so in the whole run.
use Rattle.std.proofs.Common.{ℕ, List}
use Rattle.std.specs.Prelude.{Contains}
use Rattle.std.specs.declared.option.Option.TheVariants.{None}
use Rattle.pg_value.specs.declared.write.Commit.{Commit}
use Rattle.pg_script.specs.declared.script.Script.{Script}
use Rattle.pg_script.specs.declared.outcome.Outcome.{Outcome}
use Rattle.pg_script.specs.Judged.{Judges, Session}
use Rattle.pg_script.specs.Session.{Meeting, IsMet, IsNoted, whole}
use Rattle.pg_session.specs.Legality.{NotedSectionsAreLegal}
use Rattle.pg_session.proofs.Within.{Within}
use Rattle.pg_session.proofs.Grows.{runs_within}

noted_within : {K : Type 0} (limit : ℕ) (log : List Commit) (meetings : List Meeting) (outs : ℕ → List Outcome) (n seen : ℕ) (s : Session K) (o : Outcome) → ((m : Meeting) → Contains meetings m → IsMet outs m.session m.items m.at)
    → Within n seen s o (whole limit log (IsNoted meetings) n) (whole limit log (IsMet outs) n)
noted_within limit log meetings outs n seen s o h = record {
  starts = λ k u p. p;
  defines = λ at z p. p;
  sees = λ k ws t f p. p;
  logs = λ c k commit f e p. p;
  conflicts = λ k ws w j f p. p;
  fills = λ k ws room f p. p;
  meets = λ m i at p. (p.0, p.1, h (record { session = m; items = i; at = at }) p.2);
  bases = λ k base f p. p;
}

pub noted_sections_are_legal : {K D C Q X Y : Type 0} (J : Script → Judges K D C Q X Y) → NotedSectionsAreLegal J
noted_sections_are_legal J limit script log meetings outs n seen items out catalog catalog' h s = record {
  last = s.last;
  runs = runs_within (J script) n (whole limit log (IsNoted meetings) n) (whole limit log (IsMet outs) n) (λ seen s o. noted_within limit log meetings outs n seen s o h) seen (record { open_ = None; catalog = catalog }) items out.outcomes s.last s.runs;
  leaves = s.leaves;
  rolled_back = s.rolled_back;
}
