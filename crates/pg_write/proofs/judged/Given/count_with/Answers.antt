use Rattle.std.proofs.Common.{◌+◌, arith}
use Rattle.pg_write.proofs.JudgedLaws.{count_new_is, count_old_is, within, beyond}
use Rattle.pg_write.proofs.judged.Given.count_with.Goals as goal

pub returns-then-so_far-self : goal.returns-then-so_far-self
returns-then-so_far-self g c = within c.args.self.now.limit _ (c.args.so_far.now.total + 1)
    (count_new_is c.args.so_far.now.total c.args.self.now.writes.now.list c.args.so_far.now.made.list c.args.write.now c.is_new.result c.is_new.ensures.new c.if-is_new.true c.is_new.ensures.given c.is_new.ensures.made c.requires.counted.counted)
    (omega (arith, c.if-so_far-self.true))

pub returns-else-so_far-self : goal.returns-else-so_far-self
returns-else-so_far-self g c = beyond c.args.self.now.limit _ (c.args.so_far.now.total + 1)
    (count_new_is c.args.so_far.now.total c.args.self.now.writes.now.list c.args.so_far.now.made.list c.args.write.now c.is_new.result c.is_new.ensures.new c.if-is_new.true c.is_new.ensures.given c.is_new.ensures.made c.requires.counted.counted)
    (omega (arith, c.if-so_far-self.false))

pub returns-then-so_far-self-2 : goal.returns-then-so_far-self-2
returns-then-so_far-self-2 g c = within c.args.self.now.limit _ c.args.so_far.now.total
    (count_old_is c.args.so_far.now.total c.args.self.now.writes.now.list c.args.so_far.now.made.list c.args.write.now c.is_new.result c.is_new.ensures.new c.if-is_new.false c.is_new.ensures.given c.is_new.ensures.made c.requires.counted.counted)
    (omega (arith, c.if-so_far-self-2.true))

pub returns-else-so_far-self-2 : goal.returns-else-so_far-self-2
returns-else-so_far-self-2 g c = beyond c.args.self.now.limit _ c.args.so_far.now.total
    (count_old_is c.args.so_far.now.total c.args.self.now.writes.now.list c.args.so_far.now.made.list c.args.write.now c.is_new.result c.is_new.ensures.new c.if-is_new.false c.is_new.ensures.given c.is_new.ensures.made c.requires.counted.counted)
    (omega (arith, c.if-so_far-self-2.false))
