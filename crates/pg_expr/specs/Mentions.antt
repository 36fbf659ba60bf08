-- Elements that stand for variables, borrowed where they are held.
use Rattle.std.specs.Prelude.{List, map}
use Rattle.pg_meaning.specs.Meaning.{Assignment}
use Rattle.pg_meaning.specs.Fits.{Mention, elements, firsts}
use Rattle.pg_expr.specs.declared.mentions.Mention.{Mention as HeldMention}

abbrev pub mention_view : HeldMention → Mention
mention_view m = record { var = m.var; elem = m.elem.now }

-- each variable stands for the first element that is held for it
abbrev pub stood_for : List HeldMention → Assignment
stood_for held = elements (firsts (map mention_view held))
