-- The places of properties that were looked up are those of the catalog.
use Rattle.std.proofs.Common.{◌≡◌, ℕ, refl, ap, sym, ◌∙◌, Bool, true, false, cond, List, [], ◌∷◌, ◌++◌, Option, Some, None}
use Rattle.std.specs.Map.{lookup}
use Rattle.std.specs.Str.{bytes_eq}
use Rattle.std.specs.Cmp.Lexicographic.{bytes_decides}
use Rattle.pg_value.specs.declared.shape.GraphNo.{GraphNo}
use Rattle.pg_rules.specs.Catalog.{Defined}
use Rattle.pg_rules.specs.Queries.CheckedQueries.{columns_of}
use Rattle.pg_check.specs.ColumnPlaces.{Places, AreColumns}

pub none_yet : (d : Defined) (g : GraphNo) → AreColumns d g []
none_yet d g = tt

pub one_more : (d : Defined) (g : GraphNo) (places : Places) (name : List ℕ) (cs : List (Option ℕ)) → AreColumns d g places → cs ≡ columns_of d g name → AreColumns d g (places ++ (name, cs) ∷ [])
one_more d g [] name cs h e = (e, tt)
one_more d g (p ∷ places) name cs h e = (h.0, one_more d g places name cs h.1 e)

some_same : (a b : List (Option ℕ)) → Some a ≡ Some b → a ≡ b
some_same a b h = cc

pub looked_up : (d : Defined) (g : GraphNo) (places : Places) (name : List ℕ) (cs : List (Option ℕ)) → AreColumns d g places → Some cs ≡ lookup (bytes_eq name) places → cs ≡ columns_of d g name
looked_up d g [] name cs h e = cc
looked_up d g (p ∷ places) name cs h e = go (bytes_eq name p.0) refl e (looked_up d g places name cs h.1)
  where
    go : (b : Bool) → bytes_eq name p.0 ≡ b → Some cs ≡ cond b (Some p.1) (lookup (bytes_eq name) places) → (Some cs ≡ lookup (bytes_eq name) places → cs ≡ columns_of d g name) → cs ≡ columns_of d g name
    go true same is rest = some_same cs p.1 is ∙ h.0 ∙ ap (columns_of d g) (sym ((bytes_decides name p.0).0 same))
    go false other is rest = rest is
