use Rattle.std.proofs.Common.{◌<◌, length, subst, sym, List, ℕ}
use Rattle.pg_keyed.specs.Lists.{Each}
use Rattle.pg_auto.specs.Autos.{stage_view}
use Rattle.pg_search.specs.Steps.{IsNamed}
use Rattle.pg_search.proofs.OneRound.{enter_again, firsts_within}
use Rattle.pg_search.proofs.entering.entered_again.Goals as goal

pub name_all-requires-clause-seen : goal.name_all-requires-clause-seen
name_all-requires-clause-seen c = subst (λ (ms : List (ℕ × ℕ)). Each (λ (m : ℕ × ℕ). m.1 < length c.args.numbers.now.elems) ms) (sym c.in_ok-each_once.ensures) (firsts_within c.args.numbers.now c.args.seen.items c.requires.seen)

pub returns : goal.returns
returns c = λ hops r s.
    enter_again c.args.numbers.now c.name_all.new.numbers c.args.state.now (stage_view c.args.stage.now) c.args.walk c.next_of.result c.in_ok-groups.groups hops c.args.seen.items c.requires.grouped c.requires.walk c.requires.within r c.next_of.ensures s
    (subst (λ (ms : List (ℕ × ℕ)). IsNamed c.args.numbers.now c.args.state.now.groups ms c.in_ok-groups.groups c.name_all.new.numbers) c.in_ok-each_once.ensures c.in_ok-groups.ensures)
