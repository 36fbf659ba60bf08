use Rattle.std.proofs.Common.{◌∙◌, ◌≤◌, List, ℕ, sym, subst, ap, map, length, arith, get_or, Result}
use Rattle.std.specs.Prelude.{IfErr}
use Rattle.std.proofs.lemmas.List.{length-map}
use Rattle.std.proofs.lemmas.Result.{IfErr-weaker}
use Rattle.pg_script.specs.declared.fault.ScriptFault.{ScriptFault}
use Rattle.pg_script.specs.declared.fault.ScriptKind.TheVariants as kinds
use Rattle.pg_script.specs.declared.script.Item.{Item}
use Rattle.pg_script.specs.declared.statements.Span.{Span}
use Rattle.pg_script.specs.Script.{Part}
use Rattle.pg_script.specs.Passes.{parts_of, statement_at}
use Rattle.pg_script.specs.Statements.{Statement}
use Rattle.pg_script.specs.Passes.Drafts.{FirstOf, FaultOf, HasBadStatement, earlier}
use Rattle.pg_script.proofs.Passes.Items.{few_first, good_many, earlier_first, get_at}
use Rattle.pg_script.proofs.items.items.Goals as goal
use Rattle.pg_script.proofs.items.items.Goals.{in-Ok, in-Err}

pub returns-then-spans-le-MOST_STATEMENTS-clause-err : goal.returns-then-spans-le-MOST_STATEMENTS-clause-err
returns-then-spans-le-MOST_STATEMENTS-clause-err c =
    let ss : List Statement = map (statement_at c.args.bytes.now) c.args.spans.now in
    let n : length ss ≤ 100000 = omega (arith, length-map c.args.spans.now (statement_at c.args.bytes.now), c.if-spans-le-MOST_STATEMENTS.true) in
    IfErr-weaker c.each_item-made.result _ _ (λ fault f. few_first c.args.bytes.now (parts_of c.args.bytes.now c.args.before.now) c.args.in_session ss fault n f) c.each_item-made.ensures.err

pub returns-clause-err : goal.returns-clause-err
returns-clause-err c =
    let bytes : List ℕ = c.args.bytes.now in
    let before : List Part = parts_of bytes c.args.before.now in
    let ss : List Statement = map (statement_at bytes) c.args.spans.now in
    let d : Span = record { from = 0; to = 0 } in
    let s : Statement = statement_at bytes (get_or c.args.spans.now 100000 d) in
    let there = get_at bytes c.args.spans.now 100000 d (omega (arith, c.if-spans-le-MOST_STATEMENTS.false)) in
    elim c.match-made.branch [
      | in-Ok w ↦ subst (λ (r : Result (List Item) ScriptFault). IfErr r (FaultOf (HasBadStatement bytes before c.args.in_session ss))) (sym w.result-is)
          (subst (λ n. FirstOf (HasBadStatement bytes before c.args.in_session ss) n kinds.Statements) (sym c.line_at-limit.ensures) (good_many bytes before c.args.in_session ss w.in-Ok.field-0 s w.in-Ok.ensures.ok there))
      | in-Err w ↦ subst (λ (r : Result (List Item) ScriptFault). IfErr r (FaultOf (HasBadStatement bytes before c.args.in_session ss))) (sym w.result-is)
          (subst (FaultOf (HasBadStatement bytes before c.args.in_session ss)) (sym (w.earlier.ensures ∙ ap (earlier w.in-Err.fault) c.line_at-limit.ensures)) (earlier_first bytes before c.args.in_session ss w.in-Err.fault s there w.in-Err.ensures.err))
    ]
