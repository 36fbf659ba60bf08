use Rattle.std.proofs.Common.{◌≡◌, ◌≢◌, List, [], ℕ, Some, length, ap, sym, ◌∙◌, subst}
use Rattle.std.proofs.lemmas.List.{nil_from_length}
use Rattle.pg_lex.specs.Front.{IsBody}
use Rattle.pg_lex.proofs.QuoteLaws.{name_found, name_open, name_empty}
use Rattle.pg_lex.proofs.front.delimited.Goals as goal

pub returns-then-len-eq0 : goal.returns-then-len-eq0
returns-then-len-eq0 c =
    let body : IsBody 34 c.args.text.now (Some (c.in-Some.name, c.in-Some.len)) = subst (IsBody 34 c.args.text.now) c.in-Some.is c.in_ok-name.ensures in
    let none : c.in-Some.name ≡ [] = nil_from_length c.in-Some.name (sym c.len.ensures ∙ c.if-len-eq0.true) in
    name_empty c.args.text.now c.in-Some.len (subst (λ (l : List ℕ). IsBody 34 c.args.text.now (Some (l, c.in-Some.len))) none body)

pub returns-else-len-eq0 : goal.returns-else-len-eq0
returns-else-len-eq0 c =
    let some : c.in-Some.name ≢ [] = λ e. c.if-len-eq0.false (c.len.ensures ∙ ap (λ (l : List ℕ). length l) e) in
    name_found c.args.text.now c.in-Some.name c.in-Some.len (subst (IsBody 34 c.args.text.now) c.in-Some.is c.in_ok-name.ensures) some

pub returns-in-None : goal.returns-in-None
returns-in-None c = name_open c.args.text.now (subst (IsBody 34 c.args.text.now) c.in-None.is c.in_ok-name.ensures)
