use Rattle.std.proofs.Common.{◌≡◌, length}
use Rattle.pgq.specs.Engine.{IsReady}
use Rattle.pgq.specs.Sections.{HasAnswered}
use Rattle.pgq.proofs.run.answer_items.Given as goal

abbrev pub invariant-items : goal.invariant-items
invariant-items l = IsReady l.engine × HasAnswered l.script l.section l.items l.fn.engine l.outcomes l.engine × (length l.outcomes ≡ l.item-index)
