use Rattle.std.proofs.Common.{map, []}
use Rattle.pg_rules.specs.Places.{least}
use Rattle.pg_check.specs.Clashes.{is_strict_in, late_after}
use Rattle.pg_check.specs.Gathered.{mention_view}
use Rattle.pg_check.proofs.ClashLaws.{late_next, late_end}
use Rattle.pg_check.proofs.clashes.late.Goals as goal

pub loop-mention-preserved : goal.loop-mention-preserved
loop-mention-preserved c =
    let strict = is_strict_in c.args.walks.now in
    late_next strict c.loop-mention.mets c.note_both.new.mets c.loop-mention.inners c.note_both.new.inners c.loop-mention.found c.in_ok-place.place c.sooner-found.result (least (late_after strict [] [] (map mention_view c.args.mentions.now))) c.args.mentions.now c.loop-mention.mention-index c.mention-item.result c.loop-mention-test.true c.mention-item.is
    (c.in_ok-place.ensures.late strict c.is_strict-strict.ensures) c.in_ok-place.ensures.mets c.in_ok-place.ensures.inners c.sooner-found.ensures c.loop-mention.invariant

pub returns : goal.returns
returns c =
    let strict = is_strict_in c.args.walks.now in
    late_end strict c.loop-mention.mets c.loop-mention.inners c.loop-mention.found (least (late_after strict [] [] (map mention_view c.args.mentions.now))) c.args.mentions.now c.loop-mention.mention-index c.loop-mention-test.false c.loop-mention.invariant
