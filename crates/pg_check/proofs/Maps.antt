-- Maps by names, seen through what their entries stand for.
use Rattle.std.proofs.Common.{◌≡◌, refl, ap, sym, ◌∙◌, Bool, true, false, cond, List, [], ◌∷◌, ◌++◌, map, Option, Some, None}
use Rattle.std.specs.Prelude.{if◌then◌else◌, is_some, option_map}
use Rattle.std.specs.Map.{lookup}
use Rattle.indexmap.specs.IndexMap.{insert_entry}

pub none_of : {X : Type 0} (o : Option X) → is_some o ≡ false → o ≡ None
none_of None h = refl
none_of (Some x) h = cc

behind_if : {K V : Type 0} (b : Bool) (e : K × V) (v : V) (o : Option V) (es xs ys : List (K × V)) → cond b (Some e.1) o ≡ None → (o ≡ None → xs ≡ ys) → (if b then (e.0, v) ∷ es else e ∷ xs) ≡ e ∷ ys
behind_if true e v o es xs ys h f = cc
behind_if false e v o es xs ys h f = ap (λ l. e ∷ l) (f h)

-- a key that is not there goes behind the others
pub absent_behind : {K V : Type 0} (eq : K → K → Bool) (k : K) (v : V) (es : List (K × V)) → lookup (eq k) es ≡ None → insert_entry eq es k v ≡ es ++ (k, v) ∷ []
absent_behind eq k v [] h = refl
absent_behind eq k v (e ∷ es) h = behind_if (eq k e.0) e v (lookup (eq k) es) es (insert_entry eq es k v) (es ++ (k, v) ∷ []) h (absent_behind eq k v es)

cond_map : {V W : Type 0} (g : V → W) (b : Bool) (v : V) (o : Option V) (p : Option W) → p ≡ option_map g o → cond b (Some (g v)) p ≡ option_map g (cond b (Some v) o)
cond_map g true v o p h = refl
cond_map g false v o p h = h

-- a look-up among what the entries stand for
pub lookup_seen : {K V L W : Type 0} (f : K → L) (g : V → W) (test : L → Bool) (es : List (K × V)) → lookup test (map (λ e. (f e.0, g e.1)) es) ≡ option_map g (lookup (λ k. test (f k)) es)
lookup_seen f g test [] = refl
lookup_seen f g test (e ∷ es) = cond_map g (test (f e.0)) e.1 (lookup (λ k. test (f k)) es) _ (lookup_seen f g test es)

mapped_none : {V W : Type 0} (g : V → W) (o : Option V) → option_map g o ≡ None → o ≡ None
mapped_none g None h = refl
mapped_none g (Some v) h = cc

-- what is not there among what the entries stand for is not there
pub absent_seen : {K V L W : Type 0} (f : K → L) (g : V → W) (test : L → Bool) (es : List (K × V)) → is_some (lookup test (map (λ e. (f e.0, g e.1)) es)) ≡ false → lookup (λ k. test (f k)) es ≡ None
absent_seen f g test es h = mapped_none g (lookup (λ k. test (f k)) es) (sym (lookup_seen f g test es) ∙ none_of (lookup test (map (λ e. (f e.0, g e.1)) es)) h)

if_map : {X Y : Type 0} (f : X → Y) (b : Bool) (x : X) (xs : List X) (ys : List X) (y : Y) (zs : List Y) → f x ≡ y → map f ys ≡ zs → map f (if b then x ∷ xs else ys) ≡ (if b then y ∷ map f xs else zs)
if_map f true x xs ys y zs h g = ap (λ z. z ∷ map f xs) h
if_map f false x xs ys y zs h g = g

-- what is put under a key is put under what the key stands for
pub insert_seen : {K V L W : Type 0} (f : K → L) (g : V → W) (eq : L → L → Bool) (k : K) (v : V) (es : List (K × V)) → map (λ e. (f e.0, g e.1)) (insert_entry (λ a b. eq (f a) (f b)) es k v) ≡ insert_entry eq (map (λ e. (f e.0, g e.1)) es) (f k) (g v)
insert_seen f g eq k v [] = refl
insert_seen f g eq k v (e ∷ es) = if_map (λ e. (f e.0, g e.1)) (eq (f k) (f e.0)) (e.0, v) es (e ∷ insert_entry (λ a b. eq (f a) (f b)) es k v) (f e.0, g v) ((f e.0, g e.1) ∷ insert_entry eq (map (λ e. (f e.0, g e.1)) es) (f k) (g v)) refl (ap (λ l. (f e.0, g e.1) ∷ l) (insert_seen f g eq k v es))

pub option_same : {V : Type 0} (o : Option V) → option_map (λ v. v) o ≡ o
option_same None = refl
option_same (Some v) = refl
