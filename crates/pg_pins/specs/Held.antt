-- Numbered bases of which one is current, and what each seat has pinned.
use Rattle.std.specs.Prelude.{◌≡◌, ◌==◌, ◌||◌, ℕ, ◌+◌, ◌<◌, Bool, true, false, List, [], ◌∷◌, ◌++◌, length, get_or, slice_set, is_some, cond}
use Rattle.std.specs.declared.option.Option.{Option}
use Rattle.std.specs.declared.option.Option.TheVariants.{Some, None}
use Rattle.std.specs.Option.{option_map}
use Rattle.std.specs.List.{filter, find, list_any, count_by}
use Rattle.pg_keyed.specs.Lists.{Each}

-- The number of the current base; the listed bases, each beside its number; for each seat the number of the base that it
-- has pinned; and the seat whose build is open.
pub record Held (B : Type 0) : Type 0 where
  pub current : ℕ
  pub bases : List (ℕ × B)
  pub pins : List (Option ℕ)
  pub build : Option ℕ

-- a seat's pin is that of base n
abbrev pub is_pin : ℕ → Option ℕ → Bool
is_pin n None = false
is_pin n (Some m) = m == n

-- some seat has pinned base n
abbrev pub pinned : ℕ → List (Option ℕ) → Bool
pinned n pins = list_any (is_pin n) pins

abbrev pub is_needed : {B : Type 0} → ℕ → List (Option ℕ) → (ℕ × B) → Bool
is_needed current pins b = (b.0 == current) || pinned b.0 pins

-- the bases that are current or pinned
abbrev pub needed : {B : Type 0} → ℕ → List (Option ℕ) → List (ℕ × B) → List (ℕ × B)
needed current pins bases = filter (is_needed current pins) bases

-- the numbers rise
abbrev pub Rises : {B : Type 0} → List (ℕ × B) → Type 0
Rises [] = Unit {0}
Rises (b ∷ bs) = Each (λ d. b.0 < d.0) bs × Rises bs

-- a base of this number is listed
abbrev pub Listed : {B : Type 0} → ℕ → List (ℕ × B) → Type 0
Listed n bases = list_any (λ b. b.0 == n) bases ≡ true

-- the base of a number
abbrev pub base_at : {B : Type 0} → ℕ → List (ℕ × B) → Option B
base_at n bases = option_map (λ b. b.1) (find (λ b. b.0 == n) bases)

module _ {B : Type 0} where
  abbrev pub pin_of : Held B → ℕ → Option ℕ
  pin_of h seat = get_or h.pins seat None

  -- The current base is listed last, each pinned base is listed, and no other; the seat of an open build has a pin.
  pub record IsKept (h : Held B) : Type 0 where
    pub rises : Rises h.bases
    pub latest : (front : List (ℕ × B)) × (b : B) × (h.bases ≡ front ++ (h.current, b) ∷ [])
    pub listed : (n : ℕ) → pinned n h.pins ≡ true → Listed n h.bases
    pub only : Each (λ b. is_needed h.current h.pins b ≡ true) h.bases
    pub building : (seat : ℕ) → h.build ≡ Some seat → is_some (pin_of h seat) ≡ true

  -- a seat pins the current base
  abbrev pub after_pin : Held B → ℕ → Held B
  after_pin h seat = record h { pins = slice_set h.pins seat (Some h.current) }

  -- other pins and another open build, and the bases that are then current or pinned
  abbrev pub with_pins : Held B → List (Option ℕ) → Option ℕ → Held B
  with_pins h pins build = record { current = h.current; bases = needed h.current pins h.bases; pins = pins; build = build }

  -- a seat without a pin releases nothing; else its pin goes, and its base where nothing else needs it
  abbrev pub Released : Held B → Held B → ℕ → Bool → Type 0
  Released old new seat false = (pin_of old seat ≡ None) × (new ≡ old)
  Released old new seat true = (is_some (pin_of old seat) ≡ true) × (new ≡ with_pins old (slice_set old.pins seat None) old.build)

  -- a new base is current, and of the others those that are pinned stay
  abbrev pub after_install : Held B → ℕ → B → Held B
  after_install h n base = record h { current = n; bases = needed n h.pins h.bases ++ (n, base) ∷ [] }

  -- one build at most is open, and it pins the current base
  abbrev pub BuildBegan : Held B → Held B → ℕ → Option ℕ → Type 0
  BuildBegan old new seat None = (is_some old.build ≡ true) × (new ≡ old)
  BuildBegan old new seat (Some n) = (old.build ≡ None) × (n ≡ old.current) × (new ≡ record old { pins = slice_set old.pins seat (Some old.current); build = Some seat })

  -- the build is closed, and its seat's pin goes as in a release
  abbrev pub after_build : Held B → ℕ → Held B
  after_build h seat = with_pins h (slice_set h.pins seat None) None

  -- how many bases are kept: those that are listed, and one more while a build is open
  abbrev pub kept_count : Held B → ℕ
  kept_count h = length h.bases + cond (is_some h.build) 1 0

  abbrev pub pin_count : Held B → ℕ
  pin_count h = count_by is_some h.pins

-- THE SAME OVER THE NUMBERS ALONE

abbrev pub is_among : ℕ → List ℕ → Bool
is_among n numbers = list_any (λ m. m == n) numbers

-- the distinct ones of these
abbrev pub distinct : List ℕ → List ℕ
distinct [] = []
distinct (n ∷ numbers) = cond (is_among n numbers) (distinct numbers) (n ∷ distinct numbers)

-- the numbers that are pinned
abbrev pub pinned_numbers : List (Option ℕ) → List ℕ
pinned_numbers [] = []
pinned_numbers (None ∷ pins) = pinned_numbers pins
pinned_numbers (Some n ∷ pins) = n ∷ pinned_numbers pins

-- the numbers of the listed bases: the distinct ones of the current base and the pinned ones
abbrev pub listed_numbers : {B : Type 0} → Held B → List ℕ
listed_numbers h = distinct (h.current ∷ pinned_numbers h.pins)
