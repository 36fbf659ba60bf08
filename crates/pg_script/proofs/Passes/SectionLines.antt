-- Which form a section line has.
use Rattle.std.proofs.Common.{◌≡◌, ℕ, ◌+◌, Bool, true, false, cond, List, [], ◌∷◌, ◌++◌, length, take, drop, refl, sym, ap, ◌∙◌, arith, append_assoc}
use Rattle.std.specs.Prelude.{not, ◌&&◌, nat_le, codes}
use Rattle.std.specs.List.{list_all, prefix_len}
use Rattle.std.specs.Str.{bytes_eq}
use Rattle.std.specs.Cmp.Lexicographic.{bytes_decides}
use Rattle.std.proofs.lemmas.List.{take-append-drop, take_at, drop_at}
use Rattle.std.proofs.lemmas.Bool.{and_parts, and_from, both_ways, not-true, not_from_false, false_from_ne_true}
use Rattle.std.proofs.lemmas.Bool.Decides.{nat_tests}
use Rattle.pg_lex.specs.Bytes.{is_white, is_lower, starts}
use Rattle.pg_script.specs.Layout.{is_name_byte, has_name_form, IsSessionName, Says, SaysSession}
use Rattle.pg_script.specs.Passes.{says, is_name, name_len, says_name, says_session}

pub says_is : (words line : List ℕ) → says words line ≡ true → Says words line
says_is words line h =
    let p = and_parts (bytes_eq (take (length words) line) words) (list_all is_white (drop (length words) line)) h in
    (drop (length words) line, sym (take-append-drop (length words) line) ∙ ap (λ (l : List ℕ). l ++ drop (length words) line) ((bytes_decides (take (length words) line) words).0 p.0), p.1)

pub says_from : (words line : List ℕ) → Says words line → says words line ≡ true
says_from words line s =
    let front : take (length words) line ≡ words = ap (take (length words)) s.1 ∙ take_at words s.0 (length words) refl in
    let back : drop (length words) line ≡ s.0 = ap (drop (length words)) s.1 ∙ drop_at words s.0 (length words) refl in
    and_from (bytes_eq (take (length words) line) words) (list_all is_white (drop (length words) line)) ((bytes_decides (take (length words) line) words).1 front) (ap (list_all is_white) back ∙ s.2)

pub says_not : (words line : List ℕ) → says words line ≡ false → Says words line → ⊥
says_not words line n s = both_ways (says words line) n (says_from words line s)

-- NAMES

-- a front that passes a test, where it ends, is the longest
pub prefix_run : (p : ℕ → Bool) (xs ys : List ℕ) → list_all p xs ≡ true → starts p ys ≡ false → prefix_len p (xs ++ ys) ≡ length xs
prefix_run p [] [] h n = refl
prefix_run p [] (y ∷ ys) h n = ap (λ t. cond t (1 + prefix_len p ys) 0) n
prefix_run p (x ∷ xs) ys h n =
    let k = and_parts (p x) (list_all p xs) h in
    let r : prefix_len p (xs ++ ys) ≡ length xs = prefix_run p xs ys k.1 n in
    ap (λ t. cond t (1 + prefix_len p (xs ++ ys)) 0) k.0 ∙ omega arith

white_no_name : (b : ℕ) → is_white b ≡ true → is_name_byte b ≡ false
white_no_name b h = grind (arith, nat_tests)

-- no byte of a name stands in front of white space
pub blank_stops : (bs : List ℕ) → list_all is_white bs ≡ true → starts is_name_byte bs ≡ false
blank_stops [] h = refl
blank_stops (b ∷ bs) h = white_no_name b (and_parts (is_white b) (list_all is_white bs) h).0

name_is : (name : List ℕ) → is_name name ≡ true → IsSessionName name
name_is name h =
    let p = and_parts (has_name_form name) (not (bytes_eq name (codes "setup"))) h in
    record { form = p.0; other = λ e. both_ways (bytes_eq name (codes "setup")) (not-true (bytes_eq name (codes "setup")) p.1) ((bytes_decides name (codes "setup")).1 e) }

name_from : (name : List ℕ) → IsSessionName name → is_name name ≡ true
name_from name s =
    and_from (has_name_form name) (not (bytes_eq name (codes "setup"))) s.form (not_from_false (bytes_eq name (codes "setup")) (false_from_ne_true (bytes_eq name (codes "setup")) (λ e. s.other ((bytes_decides name (codes "setup")).0 e))))

pub name_bytes : (name : List ℕ) → IsSessionName name → list_all is_name_byte name ≡ true
name_bytes name s = (and_parts (starts is_lower name) (list_all is_name_byte name) (and_parts (starts is_lower name && list_all is_name_byte name) (nat_le (length name) 32) s.form).0).1

pub session_is : (line : List ℕ) → says_session line ≡ true → SaysSession (take (name_len (drop 9 line)) (drop 9 line)) line
session_is line h =
    let back : List ℕ = drop 9 line in
    let n : ℕ = name_len back in
    let p = and_parts (bytes_eq (take 9 line) (codes "@session ")) (says_name back) h in
    let q = and_parts (is_name (take n back)) (list_all is_white (drop n back)) p.1 in
    let front : take 9 line ≡ codes "@session " = (bytes_decides (take 9 line) (codes "@session ")).0 p.0 in
    let parts : line ≡ codes "@session " ++ (take n back ++ drop n back) =
    sym (take-append-drop 9 line) ∙ ap (λ (l : List ℕ). l ++ back) front ∙ ap (λ (l : List ℕ). codes "@session " ++ l) (sym (take-append-drop n back)) in
    (name_is (take n back) q.0, (drop n back, parts ∙ sym (append_assoc (codes "@session ") (take n back) (drop n back)), q.1))

pub session_from : (name line : List ℕ) → SaysSession name line → says_session line ≡ true
session_from name line s =
    let blanks : List ℕ = s.1.0 in
    let parts : line ≡ codes "@session " ++ (name ++ blanks) = s.1.1 ∙ append_assoc (codes "@session ") name blanks in
    let front : take 9 line ≡ codes "@session " = ap (take 9) parts in
    let back : drop 9 line ≡ name ++ blanks = ap (drop 9) parts in
    let all : list_all is_name_byte name ≡ true = name_bytes name s.0 in
    let len : name_len (drop 9 line) ≡ length name = ap name_len back ∙ prefix_run is_name_byte name blanks all (blank_stops blanks s.1.2) in
    let mine : take (name_len (drop 9 line)) (drop 9 line) ≡ name = (rw (len, back) (take_at name blanks (length name) refl)) in
    let rest : drop (name_len (drop 9 line)) (drop 9 line) ≡ blanks = (rw (len, back) (drop_at name blanks (length name) refl)) in
    and_from (bytes_eq (take 9 line) (codes "@session ")) (says_name (drop 9 line)) ((bytes_decides (take 9 line) (codes "@session ")).1 front)
    (and_from (is_name (take (name_len (drop 9 line)) (drop 9 line))) (list_all is_white (drop (name_len (drop 9 line)) (drop 9 line))) (ap is_name mine ∙ name_from name s.0) (ap (list_all is_white) rest ∙ s.1.2))

pub session_not : (line : List ℕ) → says_session line ≡ false → (name : List ℕ) → SaysSession name line → ⊥
session_not line n name s = both_ways (says_session line) n (session_from name line s)
