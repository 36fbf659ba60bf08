use Rattle.std.proofs.Common.{◌∙◌, ap, sym, ℕ, List, Bor, Bool}
use Rattle.std.specs.Map.{lookup}
use Rattle.pg_check.specs.Clashes.{Place, place_eq}
use Rattle.pg_check.proofs.Maps.{lookup_seen, option_same}
use Rattle.pg_check.proofs.clashes.Inners.get.Goals as goal

pub returns-in-Some : goal.returns-in-Some
returns-in-Some c =
    let entries = c.self.inside.inner.entries in
    let key : Bor (List ℕ) × ℕ → Place = λ k. (k.0.now, k.1) in
    c.in-Some.ensures.value
    ∙ ap (λ t. lookup (λ (k : Bor (List ℕ) × ℕ). place_eq (t, c.args.path) (key k)) entries) c.as_str.ensures.bytes
    ∙ sym (option_same (lookup (λ (k : Bor (List ℕ) × ℕ). place_eq (c.args.name.now.text, c.args.path) (key k)) entries))
    ∙ sym (lookup_seen key (λ (b : Bool). b) (place_eq (c.args.name.now.text, c.args.path)) entries)
    ∙ ap (lookup (place_eq (c.args.name.now.text, c.args.path))) c.self.view_is

pub returns-in-None : goal.returns-in-None
returns-in-None c =
    let entries = c.self.inside.inner.entries in
    let key : Bor (List ℕ) × ℕ → Place = λ k. (k.0.now, k.1) in
    c.in-None.ensures.value
    ∙ ap (λ t. lookup (λ (k : Bor (List ℕ) × ℕ). place_eq (t, c.args.path) (key k)) entries) c.as_str.ensures.bytes
    ∙ sym (option_same (lookup (λ (k : Bor (List ℕ) × ℕ). place_eq (c.args.name.now.text, c.args.path) (key k)) entries))
    ∙ sym (lookup_seen key (λ (b : Bool). b) (place_eq (c.args.name.now.text, c.args.path)) entries)
    ∙ ap (lookup (place_eq (c.args.name.now.text, c.args.path))) c.self.view_is
