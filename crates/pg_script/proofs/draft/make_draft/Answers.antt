use Rattle.std.proofs.Common.{◌≡◌, ◌+◌, List, [], ◌∷◌, ◌++◌, ℕ, sym, subst, ap, take, drop, arith}
use Rattle.std.proofs.lemmas.List.{take_all}
use Rattle.pg_script.specs.declared.parts.PartSpan.{PartSpan}
use Rattle.pg_script.specs.Script.{Part, IsWrong}
use Rattle.pg_script.specs.Passes.{part_of, parts_of, AreSpread}
use Rattle.pg_script.specs.Passes.Drafts.{FaultOf, NoneOf, IsDraft, AreRight}
use Rattle.pg_script.proofs.Passes.Drafts.{parts_at, parts_more, right_push, right_none, spread_at, within_first}
use Rattle.pg_script.proofs.draft.make_draft.Goals as goal

pub add-requires-clause-lies : goal.add-requires-clause-lies
add-requires-clause-lies c =
    let bytes : List ℕ = c.args.bytes.now in
    let spans : List PartSpan = c.args.parts.now in
    spread_at bytes c.requires.spread.0 (parts_of bytes (take c.parts.i spans)) (parts_of bytes (drop (c.parts.i + 1) spans)) (part_of bytes c.index-parts-i.result)
    (subst (AreSpread bytes c.requires.spread.0) (parts_at bytes spans c.parts.i c.index-parts-i.result c.parts-test.true c.index-parts-i.is) c.requires.spread.1)

pub returns-in-Err : goal.returns-in-Err
returns-in-Err c =
    let bytes : List ℕ = c.args.bytes.now in
    let spans : List PartSpan = c.args.parts.now in
    let p : Part = part_of bytes c.index-parts-i.result in
    within_first bytes c.requires.spread.0 (parts_of bytes spans) (parts_of bytes (take c.parts.i spans)) (parts_of bytes (drop (c.parts.i + 1) spans)) p c.in-Err.fault
    (parts_at bytes spans c.parts.i c.index-parts-i.result c.parts-test.true c.index-parts-i.is) c.parts.invariant.right c.requires.spread.1
    (subst (λ (l : List PartSpan). FaultOf (IsWrong bytes (parts_of bytes l) p) c.in-Err.fault) c.split_at.ensures.front c.in-Err.ensures)

pub parts-preserved : goal.parts-preserved
parts-preserved c =
    let bytes : List ℕ = c.args.bytes.now in
    let spans : List PartSpan = c.args.parts.now in
    let p : Part = part_of bytes c.index-parts-i.result in
    let ps : List Part = parts_of bytes (take c.parts.i spans) in
    let more : parts_of bytes (take (c.parts.i + 1) spans) ≡ ps ++ p ∷ [] = parts_more bytes spans c.parts.i c.index-parts-i.result c.parts-test.true c.index-parts-i.is in
    let here : parts_of bytes c.split_at.result.0.now ≡ ps = ap (parts_of bytes) c.split_at.ensures.front in
    let right : NoneOf (IsWrong bytes ps p) = subst (λ (l : List Part). NoneOf (IsWrong bytes l p)) here c.in-Ok.ensures.right in
    let drafted : IsDraft (ps ++ p ∷ []) c.add.new.self = subst (λ (l : List Part). IsDraft (l ++ p ∷ []) c.add.new.self) here c.in-Ok.ensures.drafted in
    record {
      drafted = subst (λ (l : List Part). IsDraft l c.add.new.self) (sym more) drafted;
      right = subst (AreRight bytes []) (sym more) (right_push bytes [] ps p c.parts.invariant.right right);
    }

pub returns : goal.returns
returns c =
    let bytes : List ℕ = c.args.bytes.now in
    let spans : List PartSpan = c.args.parts.now in
    let all : take c.parts.i spans ≡ spans = take_all c.parts.i spans (omega (arith, c.parts-test.false)) in
    record {
      drafted = subst (λ (l : List PartSpan). IsDraft (parts_of bytes l) c.parts.draft) all c.parts.invariant.drafted;
      right = right_none bytes (parts_of bytes spans) (subst (λ (l : List PartSpan). AreRight bytes [] (parts_of bytes l)) all c.parts.invariant.right);
    }
