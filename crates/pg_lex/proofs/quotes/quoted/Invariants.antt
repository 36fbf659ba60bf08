use Rattle.std.proofs.Common.{◌≡◌, ◌++◌, length}
use Rattle.std.specs.Str.{IsUtf8}
use Rattle.pg_lex.specs.Tokens.{doubled}
use Rattle.pg_lex.proofs.quotes.quoted.Given as goal

abbrev pub invariant-pieces : goal.invariant-pieces
invariant-pieces l = record {
  read : l.text ≡ doubled l.quote l.out ++ l.left;
  utf8 : IsUtf8 l.left;
}

abbrev pub decreases-pieces : goal.decreases-pieces
decreases-pieces l = length l.left
