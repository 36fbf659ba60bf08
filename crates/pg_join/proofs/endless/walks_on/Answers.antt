use Rattle.std.proofs.Common.{◌≡◌, ◌||◌, Bool, List, [], ◌∷◌, map, refl, ap, sym, ◌∙◌}
use Rattle.std.specs.List.{list_any}
use Rattle.pg_meaning.specs.Outlines.{has_no_upper, walks_on}
use Rattle.pg_meaning.specs.Sound.Patterns.{outline_of}
use Rattle.pg_join.proofs.endless.walks_on.Goals as goal

any_map : {X Y : Type 0} (f : Y → Bool) (g : X → Y) (xs : List X) → list_any f (map g xs) ≡ list_any (λ x. f (g x)) xs
any_map f g [] = refl
any_map f g (x ∷ xs) = ap (λ b. f (g x) || b) (any_map f g xs)

pub returns-in-Walk : goal.returns-in-Walk
returns-in-Walk c = c.may_any_go_on.ensures ∙ ap (list_any (λ p. has_no_upper (outline_of p).quant)) c.as_slice.ensures ∙ sym (any_map (λ o. has_no_upper o.quant) outline_of c.args.path.now.parts) ∙ ap (λ m. walks_on m (map outline_of c.args.path.now.parts)) (sym c.in-Walk.is)
