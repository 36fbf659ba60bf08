-- One round more.
use Rattle.std.proofs.Common.{◌≡◌, ◌<◌, ◌==◌, ◌||◌, ◌&&◌, ℕ, Bool, true, false, not, cond, filter, arith, List, [], ◌∷◌, ◌++◌, map, length, Contains, refl, ap, sym, ◌∙◌, append-nil}
use Rattle.std.proofs.lemmas.List.{map-append}
use Rattle.pg_keyed.specs.Lists.{Each, each_append, each_filter}
use Rattle.pg_value.specs.declared.shape.ElemId.{ElemId}
use Rattle.pg_meaning.specs.Walks.{Hop, last_vertex}
use Rattle.pg_meaning.specs.Fits.{Mention, firsts, seen_in}
use Rattle.pg_meaning.specs.Members.{in_here, in_there}
use Rattle.pg_auto.specs.Stages.{Stage}
use Rattle.pg_auto.specs.Counts.{next_of}
use Rattle.pg_auto.specs.States.{singles_in, groups_in}
use Rattle.pg_auto.specs.Successors.{enter}
use Rattle.pg_auto.specs.Tests.{agrees}
use Rattle.pg_search.specs.declared.states.Kept.{Kept}
use Rattle.pg_search.specs.Chains.{list_at}
use Rattle.pg_search.specs.Numbers.{Numbers, AreNumbers, Grow, IsWithin, mention_of, hops_at, mentions_at, state_of}
use Rattle.pg_search.specs.Seen.{agree, fit_all, firsts_no}
use Rattle.pg_search.specs.Searches.{IsRoundWalk, IsEntered}
use Rattle.pg_search.specs.Steps.{AreSeen, IsNamed}
use Rattle.pg_search.proofs.Following.{agree_no, agree_append}

each_of : {X : Type 0} (P : X → Type 0) (xs : List X) → ((x : X) → Contains xs x → P x) → Each P xs
each_of P [] h = tt
each_of P (x ∷ xs) h = (h x (in_here x xs x refl), each_of P xs (λ y c. h y (in_there x xs y c)))

-- THE TESTS

pub go_on : (n : Numbers) → AreNumbers n → (seen : List (ℕ × ℕ)) (mentions : List Mention) → AreSeen n seen mentions → (k : ℕ) → agrees (mentions_at n k) ≡ true → (stage : Stage) (g p : Bool) → stage.grouped ≡ g
    → (agree seen && (p && (g || fit_all (list_at n.names k) seen))) ≡ (agrees mentions && (p && agrees (mentions_at n k ++ cond g [] mentions)))
go_on n are seen mentions s k fine stage true p e =
    ap (λ b. b && (p && true)) (agree_no n are seen s.within ∙ ap agrees s.stand)
    ∙ ap (λ b. agrees mentions && (p && b)) (sym (ap agrees (append-nil (mentions_at n k)) ∙ fine))
go_on n are seen mentions s k fine stage false p e =
    (λ i. same i && (p && fit_all (list_at n.names k) seen))
    ∙ twice (agrees mentions) p (fit_all (list_at n.names k) seen)
    ∙ ap (λ b. agrees mentions && (p && b)) (sym whole)
  where
    same : agree seen ≡ agrees mentions
    same = agree_no n are seen s.within ∙ ap agrees s.stand

    names : Each (λ m. m.1 < length n.elems) (list_at n.names k)
    names = each_of (λ m. m.1 < length n.elems) (list_at n.names k) (are.of_names k)

    twice : (a p f : Bool) → (a && (p && f)) ≡ (a && (p && (f && a)))
    twice true true true = refl
    twice true true false = refl
    twice true false f = refl
    twice false p f = refl

    whole : agrees (mentions_at n k ++ mentions) ≡ (fit_all (list_at n.names k) seen && agrees mentions)
    whole =
        ap (λ ms. agrees (mentions_at n k ++ ms)) (sym s.stand)
        ∙ ap agrees (sym (map-append (mention_of n) (list_at n.names k) seen))
        ∙ sym (agree_no n are (list_at n.names k ++ seen) (each_append (λ m. m.1 < length n.elems) (list_at n.names k) seen names s.within))
        ∙ agree_append n are (list_at n.names k) seen
        ∙ (λ i. (agree_no n are (list_at n.names k) names ∙ fine) i && (fit_all (list_at n.names k) seen && same i))

pub passed : (a b m : Bool) → true ≡ (a && b) → m ≡ ((a && m) && b)
passed true true true e = refl
passed true true false e = refl
passed true false m e = absurd (cc)
passed false b m e = absurd (cc)

pub refused : (a b m : Bool) → false ≡ (a && b) → false ≡ ((a && m) && b)
refused true false true e = refl
refused true false false e = refl
refused true true m e = absurd (cc)
refused false b m e = refl

-- THE STATE

pub last_append : (v : ElemId) (xs ys : List Hop) → last_vertex v (xs ++ ys) ≡ last_vertex (last_vertex v xs) ys
last_append v [] ys = refl
last_append v (x ∷ xs) ys = last_append x.to xs ys

enter_state : (n m : Numbers) (a : Kept) (stage : Stage) (walk done singles groups : ℕ) (hops : List Hop) → Grow n m → walk < length n.walks → IsRoundWalk n a stage walk hops → done ≡ next_of stage a.done
    → mentions_at m singles ≡ mentions_at n a.singles ++ singles_in stage (state_of n a).at hops → mentions_at m groups ≡ mentions_at n a.groups ++ groups_in stage (state_of n a).at hops
    → singles < length m.names → groups < length m.names
    → IsEntered n m (record { stage = a.stage; done = done; walk = walk; singles = singles; groups = groups }) (enter (state_of n a) stage hops)
enter_state n m a stage walk done singles groups hops grow w r d s g sw gw =
    let same = grow.hops walk w ∙ r.stands in
    record {
      grow = grow;
      within = record { walk = let l = grow.more_walks in omega arith; singles = sw; groups = gw };
      stands = λ i. record {
        stage = a.stage;
        done = d i;
        at = ((λ j. last_vertex (grow.start j) (same j)) ∙ last_append n.start (hops_at n a.walk) hops) i;
        hops = same i;
        singles = s i;
        groups = g i;
      };
    }

pub enter_once : (n m : Numbers) (a : Kept) (stage : Stage) (walk done singles : ℕ) (hops : List Hop) (seen : List (ℕ × ℕ)) → stage.grouped ≡ false → walk < length n.walks → IsWithin n a → IsRoundWalk n a stage walk hops → done ≡ next_of stage a.done
    → AreSeen n seen (seen_in stage.round (state_of n a).at hops) → IsNamed n a.singles seen singles m
    → IsEntered n m (record { stage = a.stage; done = done; walk = walk; singles = singles; groups = a.groups }) (enter (state_of n a) stage hops)
enter_once n m a stage walk done singles hops seen single w within r d s named =
    enter_state n m a stage walk done singles a.groups hops named.grow w r d
    (named.stands ∙ ap (λ ms. mentions_at n a.singles ++ ms) (s.stand ∙ ap (λ b. cond b [] (seen_in stage.round (state_of n a).at hops)) (sym single)))
    (named.grow.mentions a.groups within.groups ∙ sym (append-nil (mentions_at n a.groups)) ∙ ap (λ b. mentions_at n a.groups ++ cond b (firsts (seen_in stage.round (state_of n a).at hops)) []) (sym single))
    named.within (let l = named.grow.more_names in let g = within.groups in omega arith)

-- each variable once, by numbers
first_filter : (n : Numbers) (x : ℕ) (ms : List (ℕ × ℕ)) → map (mention_of n) (filter (λ m. not (m.0 == x)) ms) ≡ filter (λ m. not (m.var == x)) (map (mention_of n) ms)
first_filter n x [] = refl
first_filter n x (m ∷ ms) = go (not (m.0 == x)) (first_filter n x ms)
  where
    go : (b : Bool) → map (mention_of n) (filter (λ m. not (m.0 == x)) ms) ≡ filter (λ m. not (m.var == x)) (map (mention_of n) ms)
        → map (mention_of n) (cond b (m ∷ filter (λ m. not (m.0 == x)) ms) (filter (λ m. not (m.0 == x)) ms)) ≡ cond b (mention_of n m ∷ filter (λ m. not (m.var == x)) (map (mention_of n) ms)) (filter (λ m. not (m.var == x)) (map (mention_of n) ms))
    go true h = ap (λ zs. mention_of n m ∷ zs) h
    go false h = h

firsts_are : (n : Numbers) (seen : List (ℕ × ℕ)) → map (mention_of n) (firsts_no seen) ≡ firsts (map (mention_of n) seen)
firsts_are n [] = refl
firsts_are n (m ∷ ms) = ap (λ zs. mention_of n m ∷ zs) (first_filter n m.0 (firsts_no ms) ∙ ap (filter (λ k. not (k.var == m.0))) (firsts_are n ms))

pub firsts_within : (n : Numbers) (seen : List (ℕ × ℕ)) → Each (λ m. m.1 < length n.elems) seen → Each (λ m. m.1 < length n.elems) (firsts_no seen)
firsts_within n [] w = tt
firsts_within n (m ∷ ms) w = (w.0, each_filter (λ k. k.1 < length n.elems) (λ k. not (k.0 == m.0)) (firsts_no ms) (firsts_within n ms w.1))

pub enter_again : (n m : Numbers) (a : Kept) (stage : Stage) (walk done groups : ℕ) (hops : List Hop) (seen : List (ℕ × ℕ)) → stage.grouped ≡ true → walk < length n.walks → IsWithin n a → IsRoundWalk n a stage walk hops → done ≡ next_of stage a.done
    → AreSeen n seen (seen_in stage.round (state_of n a).at hops) → IsNamed n a.groups (firsts_no seen) groups m
    → IsEntered n m (record { stage = a.stage; done = done; walk = walk; singles = a.singles; groups = groups }) (enter (state_of n a) stage hops)
enter_again n m a stage walk done groups hops seen many w within r d s named =
    enter_state n m a stage walk done a.singles groups hops named.grow w r d
    (named.grow.mentions a.singles within.singles ∙ sym (append-nil (mentions_at n a.singles)) ∙ ap (λ b. mentions_at n a.singles ++ cond b [] (seen_in stage.round (state_of n a).at hops)) (sym many))
    (named.stands ∙ ap (λ ms. mentions_at n a.groups ++ ms) (firsts_are n seen ∙ ap firsts s.stand ∙ ap (λ b. cond b (firsts (seen_in stage.round (state_of n a).at hops)) []) (sym many)))
    (let l = named.grow.more_names in let g = within.singles in omega arith) named.within
