use Rattle.std.proofs.Common.{rules}
use Rattle.std.proofs.lemmas.Fn.{always_returns_same}
use Rattle.pg_keyed.specs.Searches.{sought, at_end}
use Rattle.pg_value.specs.Order.{key_cmp}
use Rattle.pg_value.specs.Orders.{keys}
use Rattle.pg_value.specs.TablesLaws.{key_of}
use Rattle.pg_value.proofs.seek.seek_row.Goals as goal

pub returns-then-are_before_key : goal.returns-then-are_before_key
returns-then-are_before_key c = at_end key_of key_cmp keys c.args.key.now.values c.args.rows.now c.requires (c.are_before_key.ensures c.if-are_before_key.true)

pub returns : goal.returns
returns c =
    let facts = c.binary_search_by.ensures in
    sought key_of key_cmp keys c.args.key.now.values c.args.rows.now _ c.requires facts.bound
    (facts.position (λ s. key_cmp (key_of s) c.args.key.now.values) (always_returns_same _ _ _ (λ a r f called. search rules)))
