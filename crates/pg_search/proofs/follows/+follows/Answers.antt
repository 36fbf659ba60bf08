use Rattle.std.proofs.Common.{◌&&◌, ap, sym, ◌∙◌}
use Rattle.pg_search.specs.Chains.{list_at}
use Rattle.pg_search.specs.Seen.{may_follow_no}
use Rattle.pg_search.proofs.Following.{follow_on}
use Rattle.pg_search.proofs.follows.+follows.Goals as goal

pub returns-then-follows : goal.returns-then-follows
returns-then-follows t c = λ base hops stands long fine.
    let link = c.in-Some.link.now in
    c.may_follow.ensures
    ∙ ap (λ r. r && may_follow_no c.args.mode (list_at c.args.numbers.now.walks link.before) (link.first, link.second)) (sym c.if-follows.true)
    ∙ follow_on c.args.numbers.now c.are_numbers.ensures c.tests_tell.ensures c.args.mode c.args.walk c.args.count link c.in-Some.ensures.some.1 c.if-count-eq0.false c.follows.result c.follows.ensures base hops stands long fine

pub returns-else-follows : goal.returns-else-follows
returns-else-follows t c = λ base hops stands long fine.
    let link = c.in-Some.link.now in
    c.if-follows.false
    ∙ sym (ap (λ r. r && may_follow_no c.args.mode (list_at c.args.numbers.now.walks link.before) (link.first, link.second)) c.if-follows.false)
    ∙ follow_on c.args.numbers.now c.are_numbers.ensures c.tests_tell.ensures c.args.mode c.args.walk c.args.count link c.in-Some.ensures.some.1 c.if-count-eq0.false c.follows.result c.follows.ensures base hops stands long fine
