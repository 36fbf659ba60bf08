-- The parts of AFTER, each of which is cut in one way.
use Rattle.std.proofs.Common.{◌≡◌, ◌≢◌, ℕ, ◌+◌, ◌*◌, ◌-◌, ◌^◌, ◌<◌, ◌≤◌, Bool, true, false, List, [], ◌∷◌, ◌++◌, length, map, take, drop, get_or, refl, sym, ap, ◌∙◌, subst, arith, inl, inr}
use Rattle.std.specs.Prelude.{not, min, codes}
use Rattle.std.specs.List.{prefix_len}
use Rattle.std.specs.Bool.{IsTrue, Decides}
use Rattle.std.specs.Str.{bytes_eq}
use Rattle.std.specs.Char.{to_ascii_lowercase}
use Rattle.std.proofs.lemmas.List.{take-append-drop, length-take-le, length-take, length-map, take_at, drop_at, take_more}
use Rattle.std.proofs.lemmas.Bool.{and_parts, both_ways, false_from_ne_true}
use Rattle.std.proofs.lemmas.Bool.Decides.{nat_tests}
use Rattle.std.proofs.lemmas.Slice.Eq.{bytes_eq-Decides}
use Rattle.pg_lex.specs.Bytes.{is_letter, is_word_byte, is_digit, starts, upper}
use Rattle.pg_lex.specs.Tokens.{Gap}
use Rattle.pg_lex.specs.Once.{gap_once}
use Rattle.pg_script.specs.After.{begins_after, number_from, IsAfter}
use Rattle.pg_script.specs.Passes.Awaited.{HasAwaited, IsLongestFront, HasGap, HasEnd, HasNumber, HasName}
use Rattle.pg_script.proofs.Texts.Blanks.{IsDark, digit_dark, word_dark, gap_stops}
use Rattle.pg_script.proofs.Texts.Front.{front_passes, front_stops, front_once}

-- WHITE SPACE AND COMMENTS

pub gap_at : (bytes : List ℕ) (n : ℕ) → Gap (take n bytes) (drop n bytes) → n ≤ length bytes → n ≢ 0 → HasGap bytes (drop n bytes)
gap_at bytes n g w some = record { gap = take n bytes; parts = sym (take-append-drop n bytes); blank = g; some = λ e. some (sym (length-take-le n bytes w) ∙ ap length e) }

pub no_gap : (bytes : List ℕ) (n : ℕ) → Gap (take n bytes) (drop n bytes) → n ≡ 0 → (rest : List ℕ) → HasGap bytes rest → ⊥
no_gap bytes n g z rest h =
    let e : take n bytes ++ drop n bytes ≡ h.gap ++ rest = take-append-drop n bytes ∙ h.parts in
    let k = gap_once (take n bytes) h.gap (drop n bytes) rest e g h.blank in
    h.some (sym k.0 ∙ ap (λ m. take m bytes) z)

-- what is behind them is one
pub gap_same : (bytes a b : List ℕ) → HasGap bytes a → HasGap bytes b → a ≡ b
gap_same bytes a b g h = (gap_once g.gap h.gap a b (sym g.parts ∙ h.parts) g.blank h.blank).1

pub end_stops : (test : ℕ → Bool) → IsDark test → test 59 ≡ false → (bytes : List ℕ) → HasEnd bytes → starts test bytes ≡ false
end_stops test d e bytes h = rw h.parts (gap_stops test d h.gap (59 ∷ []) h.blank (inr e))

pub behind_stops : (test : ℕ → Bool) → IsDark test → (bytes rest : List ℕ) → HasGap bytes rest → starts test bytes ≡ false
behind_stops test d bytes rest h = rw h.parts (gap_stops test d h.gap rest h.blank (inl h.some))

-- THE END

pub end_at : (bytes left : List ℕ) (n : ℕ) → Gap (take n bytes) (drop n bytes) → left ≡ drop n bytes → HasEnd bytes → left ≡ 59 ∷ []
end_at bytes left n g l h = l ∙ (gap_once (take n bytes) h.gap (drop n bytes) (59 ∷ []) (take-append-drop n bytes ∙ h.parts) g h.blank).1

pub ends_is : (bytes left : List ℕ) (n : ℕ) (r : Bool) → Gap (take n bytes) (drop n bytes) → left ≡ drop n bytes → Decides r (left ≡ 59 ∷ []) → (IsTrue r → HasEnd bytes) × (HasEnd bytes → IsTrue r)
ends_is bytes left n true g l d =
    let e : drop n bytes ≡ 59 ∷ [] = sym l ∙ d.0 refl in
    let h : HasEnd bytes = record { gap = take n bytes; parts = sym (take-append-drop n bytes) ∙ ap (λ (x : List ℕ). take n bytes ++ x) e; blank = subst (Gap (take n bytes)) e g } in
    (λ _. h, λ _. refl)
ends_is bytes left n false g l d = (λ e. let k : ⊥ = cc in absurd k, λ h. d.1 (end_at bytes left n g l h))

-- FRONTS

pub longest_front : (test : ℕ → Bool) (bytes front rest : List ℕ) (n : ℕ) → n ≡ prefix_len test bytes → front ≡ take n bytes → rest ≡ drop n bytes → IsLongestFront test bytes front rest
longest_front test bytes front rest n e f r = record {
  parts = sym (take-append-drop n bytes) ∙ ap (λ (l : List ℕ). l ++ drop n bytes) (sym f) ∙ ap (λ (l : List ℕ). front ++ l) (sym r);
  passes = rw (f, e) (front_passes test bytes);
  stops = rw (r, e) (front_stops test bytes);
}

-- the digits are those that stand in front behind the gap
pub number_forced : (bytes rest digits tail d : List ℕ) → HasGap bytes rest → IsLongestFront is_digit rest digits tail → (h : HasNumber bytes d) → (digits ≡ d) × (tail ≡ h.tail)
number_forced bytes rest digits tail d g r h =
    front_once is_digit digits d tail h.tail (sym r.parts ∙ gap_same bytes rest (d ++ h.tail) g h.behind) r.passes r.stops h.is_number (end_stops is_digit digit_dark refl h.tail h.end)

pub no_digits : (bytes rest digits tail : List ℕ) → HasGap bytes rest → IsLongestFront is_digit rest digits tail → digits ≡ [] → (d : List ℕ) → HasNumber bytes d → ⊥
no_digits bytes rest digits tail g r z d h =
    let e : d ≡ [] = sym (number_forced bytes rest digits tail d g r h).0 ∙ z in
    let f : false ≡ true = sym (ap (starts is_digit) e) ∙ h.begins in
    cc

pub no_tail : (bytes rest digits tail : List ℕ) → HasGap bytes rest → IsLongestFront is_digit rest digits tail → (HasEnd tail → ⊥) → (d : List ℕ) → HasNumber bytes d → ⊥
no_tail bytes rest digits tail g r n d h = n (subst HasEnd (sym (number_forced bytes rest digits tail d g r h).1) h.end)

-- the name is what stands in front behind the gap
pub name_forced : (bytes rest name tail m d : List ℕ) → HasGap bytes rest → IsLongestFront is_word_byte rest name tail → (h : HasName bytes m d) → (name ≡ m) × (tail ≡ h.tail)
name_forced bytes rest name tail m d g r h =
    front_once is_word_byte name m tail h.tail (sym r.parts ∙ gap_same bytes rest (m ++ h.tail) g h.behind) r.passes r.stops h.is_name
    (behind_stops is_word_byte word_dark h.tail (d ++ h.number.tail) h.number.behind)

pub no_name : (bytes rest name tail : List ℕ) → HasGap bytes rest → IsLongestFront is_word_byte rest name tail → starts is_letter name ≡ false → (m d : List ℕ) → HasName bytes m d → ⊥
no_name bytes rest name tail g r z m d h =
    let e = (name_forced bytes rest name tail m d g r h).0 in
    both_ways (starts is_letter name) z (ap (starts is_letter) e ∙ h.begins)

pub no_number : (bytes rest name tail : List ℕ) → HasGap bytes rest → IsLongestFront is_word_byte rest name tail → ((d : List ℕ) → HasNumber tail d → ⊥) → (m d : List ℕ) → HasName bytes m d → ⊥
no_number bytes rest name tail g r n m d h = n d (subst (λ (l : List ℕ). HasNumber l d) (sym (name_forced bytes rest name tail m d g r h).1) h.number)

-- THE WORD

word_long : (bytes : List ℕ) → map upper (take 5 bytes) ≡ codes "AFTER" → 5 ≤ length bytes
word_long bytes e =
    let n : length (take 5 bytes) ≡ 5 = sym (length-map (take 5 bytes) upper) ∙ ap length e in
    omega (arith, n, length-take 5 bytes)

pub begins_word : (bytes : List ℕ) → begins_after bytes ≡ true → map upper (take 5 bytes) ≡ codes "AFTER"
begins_word bytes h = (bytes_eq-Decides (map upper (take 5 bytes)) (codes "AFTER")).0 (and_parts (bytes_eq (map upper (take 5 bytes)) (codes "AFTER")) (not (starts is_word_byte (drop 5 bytes))) h).0

pub begins_long : (bytes : List ℕ) → begins_after bytes ≡ true → 5 ≤ length bytes
begins_long bytes h = word_long bytes (begins_word bytes h)

-- capitals alone
abbrev Capitals : List ℕ → Type 0
Capitals [] = Unit {0}
Capitals (c ∷ cs) = (65 ≤ c) × (c ≤ 90) × Capitals cs

lowered : (c : ℕ) → 65 ≤ c → c ≤ 90 → to_ascii_lowercase c ≡ c + 32
lowered c low high = grind (arith, nat_tests)

folded : (b c : ℕ) → 65 ≤ c → c ≤ 90 → to_ascii_lowercase b ≡ c + 32 → upper b ≡ c
folded b c low high e = grind (arith, nat_tests)

unfolded : (b c : ℕ) → 65 ≤ c → c ≤ 90 → upper b ≡ c → to_ascii_lowercase b ≡ c + 32
unfolded b c low high e = grind (arith, nat_tests)

all_folded : (bs cs : List ℕ) → Capitals cs → map to_ascii_lowercase bs ≡ map to_ascii_lowercase cs → map upper bs ≡ cs
all_folded [] [] h e = refl
all_folded [] (c ∷ cs) h e = absurd cc
all_folded (b ∷ bs) [] h e = absurd cc
all_folded (b ∷ bs) (c ∷ cs) h e =
    let p : to_ascii_lowercase b ≡ to_ascii_lowercase c = cc in
    let q : map to_ascii_lowercase bs ≡ map to_ascii_lowercase cs = cc in
    let u : upper b ≡ c = folded b c h.0 h.1 (p ∙ lowered c h.0 h.1) in
    let r : map upper bs ≡ cs = all_folded bs cs h.2 q in
    rw (u, r) refl

all_unfolded : (bs cs : List ℕ) → Capitals cs → map upper bs ≡ cs → map to_ascii_lowercase bs ≡ map to_ascii_lowercase cs
all_unfolded [] [] h e = refl
all_unfolded [] (c ∷ cs) h e = absurd cc
all_unfolded (b ∷ bs) [] h e = absurd cc
all_unfolded (b ∷ bs) (c ∷ cs) h e =
    let p : upper b ≡ c = cc in
    let q : map upper bs ≡ cs = cc in
    let u : to_ascii_lowercase b ≡ to_ascii_lowercase c = unfolded b c h.0 h.1 p ∙ sym (lowered c h.0 h.1) in
    let r : map to_ascii_lowercase bs ≡ map to_ascii_lowercase cs = all_unfolded bs cs h.2 q in
    rw (u, r) refl

capitals : Capitals (codes "AFTER")
capitals = (omega arith, omega arith, (omega arith, omega arith, (omega arith, omega arith, (omega arith, omega arith, (omega arith, omega arith, tt)))))

pub spells : (word : List ℕ) (r : Bool) → (IsTrue r → map to_ascii_lowercase word ≡ map to_ascii_lowercase (codes "AFTER")) × (map to_ascii_lowercase word ≡ map to_ascii_lowercase (codes "AFTER") → IsTrue r)
    → r ≡ bytes_eq (map upper word) (codes "AFTER")
spells word true h = sym ((bytes_eq-Decides (map upper word) (codes "AFTER")).1 (all_folded word (codes "AFTER") capitals (h.0 refl)))
spells word false h = sym (false_from_ne_true (bytes_eq (map upper word) (codes "AFTER"))
    (λ t. let k : IsTrue false = h.1 (all_unfolded word (codes "AFTER") capitals ((bytes_eq-Decides (map upper word) (codes "AFTER")).0 t)) in cc))

-- fewer bytes do not begin with it
pub too_short : (bytes : List ℕ) → length bytes < 5 → false ≡ begins_after bytes
too_short bytes w = sym (false_from_ne_true (begins_after bytes) (λ t. absurd (omega (arith, begins_long bytes t))))

all_parts : (word gap name between digits last : List ℕ) (bytes behind tail end : List ℕ) → bytes ≡ word ++ behind → behind ≡ gap ++ (name ++ tail) → tail ≡ between ++ (digits ++ end) → end ≡ last ++ 59 ∷ []
    → bytes ≡ word ++ (gap ++ (name ++ (between ++ (digits ++ (last ++ 59 ∷ [])))))
all_parts word gap name between digits last bytes behind tail end e f g h = rw (e, f, g, h) refl

pub is_after : (bytes name digits : List ℕ) → begins_after bytes ≡ true → HasName (drop 5 bytes) name digits → IsAfter bytes name digits
is_after bytes name digits b h =
    let n = h.number in
    let end : n.tail ≡ n.end.gap ++ 59 ∷ [] = n.end.parts in
    let tail : h.tail ≡ n.behind.gap ++ (digits ++ (n.end.gap ++ 59 ∷ [])) = n.behind.parts ∙ ap (λ (l : List ℕ). n.behind.gap ++ (digits ++ l)) end in
    record {
      word = take 5 bytes;
      gap = h.behind.gap;
      gap_of_number = n.behind.gap;
      gap_of_end = n.end.gap;
      parts = all_parts (take 5 bytes) h.behind.gap name n.behind.gap digits n.end.gap bytes (drop 5 bytes) h.tail n.tail (sym (take-append-drop 5 bytes)) h.behind.parts n.behind.parts end;
      is_word = begins_word bytes b;
      blank = subst (λ (l : List ℕ). Gap h.behind.gap (name ++ l)) tail h.behind.blank;
      some = h.behind.some;
      begins = h.begins;
      is_name = h.is_name;
      blank_of_number = subst (λ (l : List ℕ). Gap n.behind.gap (digits ++ l)) end n.behind.blank;
      some_of_number = n.behind.some;
      begins_number = n.begins;
      is_number = n.is_number;
      blank_of_end = n.end.blank;
    }

word_length : (word : List ℕ) → map upper word ≡ codes "AFTER" → length word ≡ 5
word_length word e = sym (length-map word upper) ∙ ap length e

-- what stands behind the word
behind_word : (bytes name digits : List ℕ) → (h : IsAfter bytes name digits) → drop 5 bytes ≡ h.gap ++ (name ++ (h.gap_of_number ++ (digits ++ (h.gap_of_end ++ 59 ∷ []))))
behind_word bytes name digits h = ap (drop 5) h.parts ∙ drop_at h.word _ 5 (word_length h.word h.is_word)

pub has_name : (bytes name digits : List ℕ) → IsAfter bytes name digits → HasName (drop 5 bytes) name digits
has_name bytes name digits h = record {
  tail = h.gap_of_number ++ (digits ++ (h.gap_of_end ++ 59 ∷ []));
  behind = record { gap = h.gap; parts = behind_word bytes name digits h; blank = h.blank; some = h.some };
  begins = h.begins;
  is_name = h.is_name;
  number = record {
    tail = h.gap_of_end ++ 59 ∷ [];
    behind = record { gap = h.gap_of_number; parts = refl; blank = h.blank_of_number; some = h.some_of_number };
    begins = h.begins_number;
    is_number = h.is_number;
    end = record { gap = h.gap_of_end; parts = refl; blank = h.blank_of_end };
  };
}

pub after_begins : (bytes name digits : List ℕ) → IsAfter bytes name digits → begins_after bytes ≡ true
after_begins bytes name digits h =
    let n = has_name bytes name digits h in
    let front : take 5 bytes ≡ h.word = ap (take 5) h.parts ∙ take_at h.word _ 5 (word_length h.word h.is_word) in
    let is : bytes_eq (map upper (take 5 bytes)) (codes "AFTER") ≡ true = (bytes_eq-Decides (map upper (take 5 bytes)) (codes "AFTER")).1 (ap (map upper) front ∙ h.is_word) in
    let stops : starts is_word_byte (drop 5 bytes) ≡ false = behind_stops is_word_byte word_dark (drop 5 bytes) (name ++ n.tail) n.behind in
    rw (is, stops) refl

pub no_after : (bytes : List ℕ) → begins_after bytes ≡ false → (name digits : List ℕ) → IsAfter bytes name digits → ⊥
no_after bytes b name digits h = both_ways (begins_after bytes) b (after_begins bytes name digits h)

pub no_behind : (bytes rest : List ℕ) → rest ≡ drop 5 bytes → ((m d : List ℕ) → HasName rest m d → ⊥) → (name digits : List ℕ) → IsAfter bytes name digits → ⊥
no_behind bytes rest e n name digits h = n name digits (subst (λ (l : List ℕ). HasName l name digits) (sym e) (has_name bytes name digits h))

pub awaits : (bytes rest name digits : List ℕ) (number : ℕ) → begins_after bytes ≡ true → rest ≡ drop 5 bytes → HasName rest name digits → number ≡ min (2 ^ 32 - 1) (number_from 0 digits) → HasAwaited bytes name number
awaits bytes rest name digits number b e h n = record { digits = digits; is = is_after bytes name digits b (subst (λ (l : List ℕ). HasName l name digits) e h); number_is = n }

-- THE SAME BYTES ARE ONE AFTER

number_once : (bytes d e : List ℕ) → HasNumber bytes d → HasNumber bytes e → d ≡ e
number_once bytes d e g h =
    (number_forced bytes (d ++ g.tail) d g.tail e g.behind (record { parts = refl; passes = g.is_number; stops = end_stops is_digit digit_dark refl g.tail g.end }) h).0

name_once : (bytes n m d e : List ℕ) → HasName bytes n d → HasName bytes m e → (n ≡ m) × (d ≡ e)
name_once bytes n m d e g h =
    let stops : starts is_word_byte g.tail ≡ false = behind_stops is_word_byte word_dark g.tail (d ++ g.number.tail) g.number.behind in
    let k = name_forced bytes (n ++ g.tail) n g.tail m e g.behind (record { parts = refl; passes = g.is_name; stops = stops }) h in
    (k.0, number_once g.tail d e g.number (subst (λ (l : List ℕ). HasNumber l e) (sym k.1) h.number))

-- AFTER of the same bytes has one name and one list of digits.
pub after_once : (bytes n m d e : List ℕ) → IsAfter bytes n d → IsAfter bytes m e → (n ≡ m) × (d ≡ e)
after_once bytes n m d e g h = name_once (drop 5 bytes) n m d e (has_name bytes n d g) (has_name bytes m e h)

-- THE NUMBER

number_push : (n d : ℕ) (ds : List ℕ) → number_from n (ds ++ d ∷ []) ≡ 10 * number_from n ds + (d - 48)
number_push n d [] = refl
number_push n d (e ∷ ds) = number_push (10 * n + (e - 48)) d ds

pub number_more : (number next d i : ℕ) (digits : List ℕ) → number ≡ min (2 ^ 32 - 1) (number_from 0 (take i digits)) → i < length digits → d ≡ get_or digits i 0
    → next ≡ min (min (number * 10) (2 ^ 32 - 1) + (d - 48)) (2 ^ 32 - 1) → next ≡ min (2 ^ 32 - 1) (number_from 0 (take (i + 1) digits))
number_more number next d i digits e w b n =
    let more : take (i + 1) digits ≡ take i digits ++ d ∷ [] = take_more digits i 0 w ∙ ap (λ x. take i digits ++ x ∷ []) (sym b) in
    let value : number_from 0 (take (i + 1) digits) ≡ 10 * number_from 0 (take i digits) + (d - 48) = ap (number_from 0) more ∙ number_push 0 d (take i digits) in
    rw value (limited (number_from 0 (take i digits)) (d - 48) number next e n) where
      limited : (v c number next : ℕ) → number ≡ min (2 ^ 32 - 1) v → next ≡ min (min (number * 10) (2 ^ 32 - 1) + c) (2 ^ 32 - 1) → next ≡ min (2 ^ 32 - 1) (10 * v + c)
      limited v c number next e n = omega arith
