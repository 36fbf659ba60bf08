use Rattle.std.proofs.Common.{[], take}
use Rattle.pg_script.specs.Passes.{parts_of}
use Rattle.pg_script.specs.Passes.Drafts.{IsDraft, AreRight}
use Rattle.pg_script.proofs.draft.make_draft.Given as goal

abbrev pub invariant-parts : goal.invariant-parts
invariant-parts l = record {
  drafted : IsDraft (parts_of l.bytes (take l.i l.parts)) l.draft;
  right : AreRight l.bytes [] (parts_of l.bytes (take l.i l.parts));
}
