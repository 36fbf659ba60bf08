-- A sound path pattern that does not walk on without end has bounded stages.
use Rattle.std.proofs.Common.{◌≡◌, ◌<◌, ◌≤◌, ◌+◌, ℕ, Bool, true, false, ◌&&◌, ◌||◌, List, [], ◌∷◌, length, Contains, inl, inr, refl, arith, ap, sym, ◌∙◌, subst}
use Rattle.std.specs.Prelude.{Option, Some, None, IfNone, is_none}
use Rattle.std.specs.List.{list_any}
use Rattle.pg_keyed.specs.Lists.{Each}
use Rattle.pg_value.specs.declared.shape.Shapes.{Shapes}
use Rattle.pg_value.specs.declared.shape.GraphShape.{GraphShape}
use Rattle.pg_ast.specs.declared.pattern.Arrow.{Arrow}
use Rattle.pg_ast.specs.declared.pattern.Quant.{Quant}
use Rattle.pg_ast.specs.declared.pattern.Mode.{Mode}
use Rattle.pg_meaning.specs.declared.checked.CExpr.{CExpr}
use Rattle.pg_meaning.specs.declared.checked.CFiller.{CFiller}
use Rattle.pg_meaning.specs.declared.checked.CPart.{CPart}
use Rattle.pg_meaning.specs.declared.checked.CPart.TheVariants.{Node, Edge, Group}
use Rattle.pg_meaning.specs.Rounds.{group_of, round_of, quant_of}
use Rattle.pg_meaning.specs.Members.{in_nil, in_cons, in_map, from_map}
use Rattle.pg_meaning.specs.Outlines.{Outline, is_walk, has_no_upper, walks_on}
use Rattle.pg_meaning.specs.Sound.Patterns.{IsSoundPart, outline_of, outlines}
use Rattle.pg_auto.specs.Stages.{high_of, stage_of}
use Rattle.pg_auto.specs.Ranks.{IsBounded, SoundAreBounded}

pub each_in : {X : Type 0} (P : X → Type 0) (xs : List X) (x : X) → Each P xs → Contains xs x → P x
each_in P [] x h c = absurd (in_nil x c)
each_in P (y ∷ ys) x h c = elim (in_cons y ys x c) [ inl e ↦ subst P e h.0 | inr r ↦ each_in P ys x h.1 r ]

-- A QUANTIFIED PART HAS A LEG

group_has_leg : (nodes : List CFiller) (arrows : List Arrow) (edges : List CFiller) (condition : Option CExpr) → length nodes ≡ length edges + 1 → length arrows ≡ length edges → 1 ≤ length edges
    → 0 < length (group_of nodes arrows edges condition).legs
group_has_leg [] arrows edges condition n a e = absurd (omega arith)
group_has_leg (node ∷ nodes) arrows [] condition n a e = absurd (omega arith)
group_has_leg (node ∷ nodes) [] (edge ∷ edges) condition n a e = absurd (omega arith)
group_has_leg (node ∷ []) (arrow ∷ arrows) (edge ∷ edges) condition n a e = absurd (omega arith)
group_has_leg (node ∷ next ∷ nodes) (arrow ∷ arrows) (edge ∷ edges) condition n a e = omega arith

has_leg : (shapes : Shapes) (g : GraphShape) (part : CPart) (q : Quant) → IsSoundPart shapes g part → quant_of part ≡ Some q → 0 < length (round_of part).legs
has_leg shapes g (Node filler) q sound h = absurd (cc)
has_leg shapes g (Edge arrow filler quant) q sound h = omega arith
has_leg shapes g (Group nodes arrows edges condition quant) q sound h = group_has_leg nodes arrows edges condition sound.2 sound.3 sound.4

-- A MODE UNDER WHICH NO PART IS REPEATED WITHOUT END

pub same_quant : (part : CPart) → (outline_of part).quant ≡ quant_of part
same_quant (Node filler) = refl
same_quant (Edge arrow filler quant) = refl
same_quant (Group nodes arrows edges condition quant) = refl

any_of : {X : Type 0} (test : X → Bool) (xs : List X) (x : X) → Contains xs x → test x ≡ true → list_any test xs ≡ true
any_of test [] x c h = absurd (in_nil x c)
any_of test (y ∷ ys) x c h = elim (in_cons y ys x c) [ inl e ↦ here (test y) (ap test e ∙ h) | inr r ↦ there (test y) (any_of test ys x r h) ]
  where
    here : (b : Bool) → b ≡ true → (b || list_any test ys) ≡ true
    here true k = refl
    here false k = absurd (cc)

    there : (b : Bool) → list_any test ys ≡ true → (b || list_any test ys) ≡ true
    there true k = refl
    there false k = k

no_walk : (mode : Mode) (os : List (Outline ℕ)) (o : Outline ℕ) → walks_on mode os ≡ false → Contains os o → has_no_upper o.quant ≡ true → is_walk mode ≡ false
no_walk mode os o ends c h = go (is_walk mode) (list_any (λ (x : Outline ℕ). has_no_upper x.quant) os) (any_of (λ (x : Outline ℕ). has_no_upper x.quant) os o c h) ends
  where
    go : (a b : Bool) → b ≡ true → (a && b) ≡ false → a ≡ false
    go true b k e = sym k ∙ e
    go false b k e = refl

bounded : (quant : Option Quant) (P : Type 0) → ((q : Quant) → quant ≡ Some q → q.high ≡ None → P) → IfNone (high_of quant) P
bounded None P f = tt
bounded (Some q) P f = go q.high refl
  where
    go : (high : Option ℕ) → q.high ≡ high → IfNone high P
    go None e = f q refl e
    go (Some most) e = tt

pub sound_are_bounded : SoundAreBounded
sound_are_bounded shapes path sound ends stage c =
    let m = from_map stage_of path.parts stage c in
    subst (IsBounded path.mode) m.2
    (bounded (quant_of m.0) _ (λ q is none. (
      has_leg shapes path.graph m.0 q (each_in (IsSoundPart shapes path.graph) path.parts m.0 sound.parts m.1) is,
      no_walk path.mode (outlines path) (outline_of m.0) ends (in_map outline_of path.parts m.0 m.1) (ap has_no_upper (same_quant m.0 ∙ is) ∙ ap is_none none),
    )))
