-- Numbers of walks are appended one after another.
use Rattle.std.proofs.Common.{◌≡◌, ◌<◌, ℕ, arith, List, [], ◌∷◌, ◌++◌, map, length, refl, ap, sym, ◌∙◌, subst, append_assoc, append-nil}
use Rattle.std.proofs.lemmas.List.{map-append}
use Rattle.pg_keyed.specs.Lists.{Each, each_map, each_append}
use Rattle.pg_meaning.specs.Walks.{Hop}
use Rattle.pg_search.specs.Numbers.{Numbers, Grow, hops_at}
use Rattle.pg_search.specs.Steps.{IsLonger, AreAdded}
use Rattle.pg_search.specs.Rounds.{AreAlong, with_hop}
use Rattle.std.specs.Prelude.{flat_map}
use Rattle.std.proofs.lemmas.Grind.{flat_map-append}
use Rattle.pg_view.specs.declared.view.Neighbour.{Neighbour}
use Rattle.pg_view.specs.Neighbours.{neighbour}
use Rattle.pg_search.specs.Hops.{hop_view}
use Rattle.pg_search.proofs.Numbers.{grow_none, grow_on}

pub within_on : (n m : Numbers) → Grow n m → (ks : List ℕ) → Each (λ k. k < length n.walks) ks → Each (λ k. k < length m.walks) ks
within_on n m grow ks = each_map (λ k. k < length n.walks) (λ k. k < length m.walks) (λ k l. let g = grow.more_walks in omega arith) ks

pub stand_on : (n m : Numbers) → Grow n m → (ks : List ℕ) → Each (λ k. k < length n.walks) ks → map (hops_at m) ks ≡ map (hops_at n) ks
stand_on n m grow [] w = refl
stand_on n m grow (k ∷ ks) w = let a = grow.hops k w.0 in let b = stand_on n m grow ks w.1 in λ i. a i ∷ b i

pub add_none : (n : Numbers) (old : List ℕ) → AreAdded n n old old []
add_none n old = record { grow = grow_none n; added = []; whole = sym (append-nil old); within = tt; stand = refl }

pub add_one : (n m : Numbers) (walk k : ℕ) (hop : Hop) (old new : List ℕ) → IsLonger n walk hop k m → new ≡ old ++ k ∷ [] → AreAdded n m old new ((hops_at n walk ++ hop ∷ []) ∷ [])
add_one n m walk k hop old new h e = record { grow = h.grow; added = k ∷ []; whole = e; within = (h.within, tt); stand = ap (λ ws. ws ∷ []) h.stands }

pub add_on : (n m l : Numbers) (a b c : List ℕ) (xs ys : List (List Hop)) → AreAdded n m a b xs → AreAdded m l b c ys → AreAdded n l a c (xs ++ ys)
add_on n m l a b c xs ys f s = record {
  grow = grow_on n m l f.grow s.grow;
  added = f.added ++ s.added;
  whole = s.whole ∙ ap (λ zs. zs ++ s.added) f.whole ∙ append_assoc a f.added s.added;
  within = each_append (λ k. k < length l.walks) f.added s.added (within_on m l s.grow f.added f.within) s.within;
  stand = map-append (hops_at l) f.added s.added ∙ ap (λ zs. zs ++ map (hops_at l) s.added) (stand_on m l s.grow f.added f.within ∙ f.stand) ∙ ap (λ zs. xs ++ zs) s.stand;
}

map_push : {X Y : Type 0} (f : X → Y) (xs : List X) (x : X) → map f (xs ++ x ∷ []) ≡ map f xs ++ f x ∷ []
map_push f [] x = refl
map_push f (y ∷ ys) x = ap (λ zs. f y ∷ zs) (map_push f ys x)

-- one hop more behind a walk
pub add_hop : (n m l : Numbers) (walk k : ℕ) (hop : Neighbour) (a b c : List ℕ) (ys : List Neighbour) → walk < length n.walks → AreAdded n m a b (map (with_hop (hops_at n walk)) ys)
    → IsLonger m walk (hop_view hop) k l → c ≡ b ++ k ∷ [] → AreAdded n l a c (map (with_hop (hops_at n walk)) (ys ++ hop ∷ []))
add_hop n m l walk k hop a b c ys w f s e =
    subst (λ ws. AreAdded n l a c ws)
    (ap (λ hops. map (with_hop (hops_at n walk)) ys ++ (hops ++ hop_view hop ∷ []) ∷ []) (f.grow.hops walk w) ∙ sym (map_push (with_hop (hops_at n walk)) ys hop))
    (add_on n m l a b c (map (with_hop (hops_at n walk)) ys) ((hops_at m walk ++ hop_view hop ∷ []) ∷ []) f (add_one m l walk k (hop_view hop) b c s e))

-- hops as a view gives them, each behind a walk
pub hops_behind : (walk : List Hop) (hops : List Hop) → map (with_hop walk) (map neighbour hops) ≡ map (λ hop. with_hop walk (neighbour hop)) hops
hops_behind walk [] = refl
hops_behind walk (h ∷ hs) = ap (λ ws. with_hop walk (neighbour h) ∷ ws) (hops_behind walk hs)

-- one walk more, with each of some hops behind it
pub add_longer : (f : List Hop → List (List Hop)) (n m l : Numbers) (walk : ℕ) (a b c : List ℕ) (ys : List ℕ) → walk < length n.walks → AreAdded n m a b (flat_map f (map (hops_at n) ys))
    → AreAdded m l b c (f (hops_at m walk)) → AreAdded n l a c (flat_map f (map (hops_at n) (ys ++ walk ∷ [])))
add_longer f n m l walk a b c ys w x y =
    subst (λ ws. AreAdded n l a c ws)
    (ap (λ hops. flat_map f (map (hops_at n) ys) ++ f hops) (x.grow.hops walk w)
    ∙ ap (λ ws. flat_map f (map (hops_at n) ys) ++ ws) (sym (append-nil (f (hops_at n walk))))
    ∙ sym (flat_map-append f (map (hops_at n) ys) (hops_at n walk ∷ []))
    ∙ ap (flat_map f) (sym (map_push (hops_at n) ys walk)))
    (add_on n m l a b c (flat_map f (map (hops_at n) ys)) (f (hops_at m walk)) x y)

-- what is appended to nothing
pub along_one : (n m : Numbers) (new : List ℕ) (ws : List (List Hop)) → AreAdded n m [] new ws → AreAlong n m new ws
along_one n m new ws a = record { grow = a.grow; within = subst (λ ks. Each (λ k. k < length m.walks) ks) (sym a.whole) a.within; stand = ap (map (hops_at m)) a.whole ∙ a.stand }
