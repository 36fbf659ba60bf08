-- The rounds that fit from a state, as the walks that go on from its own.
use Rattle.std.proofs.Common.{◌≡◌, ◌<◌, ◌+◌, ◌&&◌, ℕ, suc, Bool, true, false, cond, arith, List, [], ◌∷◌, ◌++◌, map, filter, length, refl, ap, sym, ◌∙◌, subst, append_assoc, append-nil}
use Rattle.std.specs.Prelude.{flat_map}
use Rattle.std.proofs.lemmas.List.{map-append}
use Rattle.pg_keyed.specs.Lists.{Each, each_append}
use Rattle.pg_value.specs.declared.shape.ElemId.{ElemId}
use Rattle.pg_meaning.specs.Walks.{Hop, last_vertex}
use Rattle.pg_meaning.specs.Rounds.{Leg}
use Rattle.pg_auto.specs.Stages.{Stage}
use Rattle.pg_auto.specs.States.{Task, State, graph_in}
use Rattle.pg_auto.specs.Tests.{node_admits}
use Rattle.pg_auto.specs.Successors as successors
use Rattle.pg_search.specs.declared.states.Kept.{Kept}
use Rattle.pg_search.specs.Numbers.{Numbers, IsWithin, hops_at}
use Rattle.pg_search.specs.Rounds.{longer, along, AreAlong}
use Rattle.pg_search.specs.Searches.{IsSomeRound, AreRounds, entered_if}
use Rattle.pg_search.proofs.OneRound.{last_append}

abbrev pub behind : List Hop → List Hop → List Hop
behind base hops = base ++ hops

map_alike : {X Y : Type 0} (f h : X → Y) (xs : List X) → ((x : X) → f x ≡ h x) → map f xs ≡ map h xs
map_alike f h [] e = refl
map_alike f h (x ∷ xs) e = let a = e x in let b = map_alike f h xs e in λ i. a i ∷ b i

map_map : {X Y Z : Type 0} (f : Y → Z) (h : X → Y) (xs : List X) → map f (map h xs) ≡ map (λ x. f (h x)) xs
map_map f h [] = refl
map_map f h (x ∷ xs) = ap (λ zs. f (h x) ∷ zs) (map_map f h xs)

module _ (t : Task) (base : List Hop) where
  longer_behind : (leg : Leg) (hops : List Hop) → longer t.shapes t.graph t.tables t.start leg (base ++ hops) ≡ map (behind base) (successors.longer t leg (last_vertex t.start base) hops)
  longer_behind leg hops =
      ap (λ v. map (λ hop. (base ++ hops) ++ hop ∷ []) (successors.hops_over t leg v)) (last_append t.start base hops)
      ∙ map_alike (λ hop. (base ++ hops) ++ hop ∷ []) (λ hop. behind base (hops ++ hop ∷ [])) (successors.hops_over t leg (last_vertex (last_vertex t.start base) hops)) (λ hop. append_assoc base hops (hop ∷ []))
      ∙ sym (map_map (behind base) (λ hop. hops ++ hop ∷ []) (successors.hops_over t leg (last_vertex (last_vertex t.start base) hops)))

  all_behind : (leg : Leg) (found : List (List Hop)) → flat_map (longer t.shapes t.graph t.tables t.start leg) (map (behind base) found) ≡ map (behind base) (flat_map (successors.longer t leg (last_vertex t.start base)) found)
  all_behind leg [] = refl
  all_behind leg (hops ∷ found) =
      (λ i. longer_behind leg hops i ++ all_behind leg found i)
      ∙ sym (map-append (behind base) (successors.longer t leg (last_vertex t.start base) hops) (flat_map (successors.longer t leg (last_vertex t.start base)) found))

  along_behind : (legs : List Leg) (found : List (List Hop)) → along t.shapes t.graph t.tables t.start legs (map (behind base) found) ≡ map (behind base) (successors.along t legs (last_vertex t.start base) found)
  along_behind [] found = refl
  along_behind (leg ∷ legs) found =
      ap (along t.shapes t.graph t.tables t.start legs) (all_behind leg found)
      ∙ along_behind legs (flat_map (successors.longer t leg (last_vertex t.start base)) found)

  pub from_own : (legs : List Leg) → along t.shapes t.graph t.tables t.start legs (base ∷ []) ≡ map (behind base) (successors.along t legs (last_vertex t.start base) ([] ∷ []))
  from_own legs = ap (λ b. along t.shapes t.graph t.tables t.start legs (b ∷ [])) (sym (append-nil base)) ∙ along_behind legs ([] ∷ [])

-- how long the rounds are
length_push : (hops : List Hop) (hop : Hop) → length (hops ++ hop ∷ []) ≡ length hops + 1
length_push [] hop = refl
length_push (h ∷ hs) hop = let e = length_push hs hop in omega arith

module _ (t : Task) (v : ElemId) where
  each_longer : (k : ℕ) (hops : List Hop) (next : List Hop) → length hops ≡ k → Each (λ hs. length hs ≡ k + 1) (map (λ hop. hops ++ hop ∷ []) next)
  each_longer k hops [] e = tt
  each_longer k hops (hop ∷ next) e = ((let l = length_push hops hop in omega arith), each_longer k hops next e)

  all_longer : (k : ℕ) (leg : Leg) (found : List (List Hop)) → Each (λ hs. length hs ≡ k) found → Each (λ hs. length hs ≡ k + 1) (flat_map (successors.longer t leg v) found)
  all_longer k leg [] w = tt
  all_longer k leg (hops ∷ found) w = each_append (λ hs. length hs ≡ k + 1) (successors.longer t leg v hops) (flat_map (successors.longer t leg v) found) (each_longer k hops (successors.hops_over t leg (last_vertex v hops)) w.0) (all_longer k leg found w.1)

  along_long : (k : ℕ) (legs : List Leg) (found : List (List Hop)) → Each (λ hs. length hs ≡ k) found → Each (λ hs. length hs ≡ k + length legs) (successors.along t legs v found)
  along_long k [] found w = subst (λ n. Each (λ hs. length hs ≡ n) found) (let e : k ≡ k + 0 = omega arith in e) w
  along_long k (leg ∷ legs) found w =
      subst (λ n. Each (λ hs. length hs ≡ n) (successors.along t legs v (flat_map (successors.longer t leg v) found))) (let e : (k + 1) + length legs ≡ k + suc (length legs) = omega arith in e)
      (along_long (k + 1) legs (flat_map (successors.longer t leg v) found) (all_longer k leg found w))

  pub rounds_long : (legs : List Leg) → Each (λ hs. length hs ≡ length legs) (successors.along t legs v ([] ∷ []))
  rounds_long legs = subst (λ n. Each (λ hs. length hs ≡ n) (successors.along t legs v ([] ∷ []))) (let e : 0 + length legs ≡ length legs = omega arith in e) (along_long 0 legs ([] ∷ []) (refl, tt))

-- walks that go on over the legs of a round
pub are_rounds : (n m : Numbers) (a : Kept) → IsWithin n a → (stage : Stage) (walks : List ℕ) (rounds : List (List Hop)) → AreAlong n m walks (map (λ hops. hops_at n a.walk ++ hops) rounds) → Each (λ hs. length hs ≡ length stage.round.legs) rounds
    → AreRounds m a stage walks rounds
are_rounds n m a w stage walks rounds al long = record {
  stand = al.stand ∙ ap (λ b. map (λ hops. b ++ hops) rounds) (sym (al.grow.hops a.walk w.walk));
  long = long;
}

pub some_rounds : (m : Numbers) (a : Kept) (stage : Stage) (walks : List ℕ) (rounds : List (List Hop)) → Each (λ k. k < length m.walks) walks → map (hops_at m) walks ≡ map (λ hops. hops_at m a.walk ++ hops) rounds → Each (λ hs. length hs ≡ length stage.round.legs) rounds
    → Each (IsSomeRound m a stage) walks
some_rounds m a stage [] rounds w e long = tt
some_rounds m a stage (k ∷ ks) [] w e long = absurd (cc)
some_rounds m a stage (k ∷ ks) (r ∷ rs) w e long = (
  record { within = w.0; hops = r; round = record { stands = (let h : hops_at m k ≡ hops_at m a.walk ++ r = cc in h); long = long.0 } },
  some_rounds m a stage ks rs w.1 (let h : map (hops_at m) ks ≡ map (λ hops. hops_at m a.walk ++ hops) rs = cc in h) long.1,
)

-- the states of the rounds that fit
both_tests : {X Y : Type 0} (p q : X → Bool) (f : X → Y) (xs : List X) → flat_map (λ x. cond (p x && q x) (f x ∷ []) []) xs ≡ map f (filter q (filter p xs))
both_tests p q f [] = refl
both_tests p q f (x ∷ xs) = go (p x) (both_tests p q f xs)
  where
    go : (b : Bool) → flat_map (λ x. cond (p x && q x) (f x ∷ []) []) xs ≡ map f (filter q (filter p xs))
        → cond (b && q x) (f x ∷ []) [] ++ flat_map (λ x. cond (p x && q x) (f x ∷ []) []) xs ≡ map f (filter q (cond b (x ∷ filter p xs) (filter p xs)))
    go false h = h
    go true h = inner (q x) h
      where
        inner : (b : Bool) → flat_map (λ x. cond (p x && q x) (f x ∷ []) []) xs ≡ map f (filter q (filter p xs))
            → cond b (f x ∷ []) [] ++ flat_map (λ x. cond (p x && q x) (f x ∷ []) []) xs ≡ map f (cond b (x ∷ filter q (filter p xs)) (filter q (filter p xs)))
        inner true h = ap (λ ys. f x ∷ ys) h
        inner false h = h

pub entered_are : (t : Task) (s : State) (stage : Stage) (b : Bool) → node_admits (graph_in t) stage.round.node s.at ≡ b
    → cond b (flat_map (entered_if t s stage) (successors.along t stage.round.legs s.at ([] ∷ []))) [] ≡ successors.entered t s stage
entered_are t s stage b e = go b ∙ ap (λ c. map (successors.enter s stage) (filter (successors.goes_on t s stage) (filter (successors.is_round t stage s.at) (cond c (successors.along t stage.round.legs s.at ([] ∷ [])) [])))) (sym e)
  where
    go : (b : Bool) → cond b (flat_map (entered_if t s stage) (successors.along t stage.round.legs s.at ([] ∷ []))) []
        ≡ map (successors.enter s stage) (filter (successors.goes_on t s stage) (filter (successors.is_round t stage s.at) (cond b (successors.along t stage.round.legs s.at ([] ∷ [])) [])))
    go true = both_tests (successors.is_round t stage s.at) (successors.goes_on t s stage) (successors.enter s stage) (successors.along t stage.round.legs s.at ([] ∷ []))
    go false = refl
