-- An input that is a script has no fault, and any other at most one.
use Rattle.std.proofs.Common.{◌≡◌, ℕ, ◌<◌, ◌≤◌, List, length, refl, sym, ap, ◌∙◌, subst, arith, inl, inr, ◌⊎◌}
use Rattle.std.specs.Str.{IsUtf8}
use Rattle.std.proofs.lemmas.List.{take_all}
use Rattle.pg_script.specs.declared.script.Script.{Script}
use Rattle.pg_script.specs.declared.fault.ScriptKind.{ScriptKind}
use Rattle.pg_script.specs.declared.fault.ScriptKind.TheVariants.{TooLong, NotText, Section, Sessions, Statements, AfterName}
use Rattle.pg_script.specs.Layout.{line_at}
use Rattle.pg_script.specs.Script.{Part, IsRead, HasFault, rank, IsFirstFault, IsLongestText, most_bytes, IsText, IsScriptFault, IsScript}
use Rattle.pg_script.proofs.One.Read.{read_once}

-- BYTES THAT ARE NO TEXT

-- a text has no longest front that is text
no_longest : (bytes : List ℕ) (place : ℕ) → IsUtf8 bytes → IsLongestText bytes place → ⊥
no_longest bytes place u h = h.longest (length bytes) h.within (omega arith) (subst IsUtf8 (sym (take_all (length bytes) bytes (omega arith))) u)

-- no longer front is text
no_longer : (bytes : List ℕ) (p q : ℕ) → IsLongestText bytes p → IsLongestText bytes q → p < q → ⊥
no_longer bytes p q g h l = let w = h.within in g.longest q l (omega arith) h.text

equal_from : (p q : ℕ) → (p < q → ⊥) → (q < p → ⊥) → p ≡ q
equal_from p q a b = omega arith

longest_once : (bytes : List ℕ) (p q : ℕ) → IsLongestText bytes p → IsLongestText bytes q → p ≡ q
longest_once bytes p q g h = equal_from p q (no_longer bytes p q g h) (no_longer bytes q p h g)

-- FAULTS OF A TEXT

-- a text that is read, and what is its fault
record HasFirst (bytes : List ℕ) (line : ℕ) (kind : ScriptKind) : Type 0 where
  is_text : IsText bytes
  head : List ℕ
  parts : List Part
  read : IsRead bytes head parts
  first : IsFirstFault bytes head parts line kind

rank_once : (j k : ScriptKind) → rank j ≡ rank k → j ≡ k
rank_once TooLong TooLong e = refl
rank_once TooLong _ e = absurd (omega arith)
rank_once NotText NotText e = refl
rank_once NotText _ e = absurd (omega arith)
rank_once Section Section e = refl
rank_once Section _ e = absurd (omega arith)
rank_once Sessions Sessions e = refl
rank_once Sessions _ e = absurd (omega arith)
rank_once Statements Statements e = refl
rank_once Statements _ e = absurd (omega arith)
rank_once AfterName AfterName e = refl
rank_once AfterName _ e = absurd (omega arith)

both_first : (l m : ℕ) (j k : ScriptKind) → (l < m) ⊎ ((l ≡ m) × (rank j ≤ rank k)) → (m < l) ⊎ ((m ≡ l) × (rank k ≤ rank j)) → (l ≡ m) × (j ≡ k)
both_first l m j k (inl a) (inl b) = absurd (omega arith)
both_first l m j k (inl a) (inr b) = let e = b.0 in absurd (omega arith)
both_first l m j k (inr a) (inl b) = let e = a.0 in absurd (omega arith)
both_first l m j k (inr a) (inr b) = let p = a.1 in let q = b.1 in (a.0, rank_once j k (omega arith))

first_once : (bytes : List ℕ) (l m : ℕ) (j k : ScriptKind) → HasFirst bytes l j → HasFirst bytes m k → (l ≡ m) × (j ≡ k)
first_once bytes l m j k g h =
    let r = read_once bytes g.head h.head g.parts h.parts g.read h.read in
    let f : IsFirstFault bytes g.head g.parts m k = subst (λ (z : List Part). IsFirstFault bytes g.head z m k) (sym r.1) (subst (λ (z : List ℕ). IsFirstFault bytes z h.parts m k) (sym r.0) h.first) in
    both_first l m j k (g.first.first m k f.is) (f.first l j g.first.is)

-- THE KINDS

-- a fault by what must be known of its input
data Cause (bytes : List ℕ) (line : ℕ) (kind : ScriptKind) : Type 0 where
  long : most_bytes < length bytes → line ≡ 0 → kind ≡ TooLong → Cause bytes line kind
  no_text : length bytes ≤ most_bytes → (place : ℕ) → IsLongestText bytes place → line ≡ line_at bytes place → kind ≡ NotText → Cause bytes line kind
  of_text : HasFirst bytes line kind → Cause bytes line kind

cause : (bytes : List ℕ) (line : ℕ) (kind : ScriptKind) → IsScriptFault bytes line kind → Cause bytes line kind
cause bytes line TooLong h = long h.0 h.1 refl
cause bytes line NotText h = let p = h.1 in no_text h.0 p.0 p.1 p.2 refl
cause bytes line _ h = let p = h.1 in of_text (record { is_text = h.0; head = p.0; parts = p.1; read = p.2; first = p.3 })

-- An input that is a script has no fault.
pub script_right : (bytes : List ℕ) (s : Script) (line : ℕ) (kind : ScriptKind) → IsScript bytes s → IsScriptFault bytes line kind → ⊥
script_right bytes s line kind g h = by (cause bytes line kind h) where
  by : Cause bytes line kind → ⊥
  by (long a b c) = let w = g.is_text.short in omega arith
  by (no_text a place p b c) = no_longest bytes place g.is_text.utf8 p
  by (of_text f) =
      let r = read_once bytes g.head f.head g.parts f.parts g.read f.read in
      let i : HasFault bytes g.head g.parts line kind = subst (λ (z : List Part). HasFault bytes g.head z line kind) (sym r.1) (subst (λ (z : List ℕ). HasFault bytes z f.parts line kind) (sym r.0) f.first.is) in
      g.right line kind i

causes_once : (bytes : List ℕ) (l m : ℕ) (j k : ScriptKind) → Cause bytes l j → Cause bytes m k → (l ≡ m) × (j ≡ k)
causes_once bytes l m j k (long a b c) (long d e f) = (b ∙ sym e, c ∙ sym f)
causes_once bytes l m j k (long a b c) (no_text d p e f g) = absurd (omega arith)
causes_once bytes l m j k (long a b c) (of_text f) = let w = f.is_text.short in absurd (omega arith)
causes_once bytes l m j k (no_text a p b c d) (long e f g) = absurd (omega arith)
causes_once bytes l m j k (no_text a p b c d) (no_text e q f g h) = (c ∙ ap (line_at bytes) (longest_once bytes p q b f) ∙ sym g, d ∙ sym h)
causes_once bytes l m j k (no_text a p b c d) (of_text f) = absurd (no_longest bytes p f.is_text.utf8 b)
causes_once bytes l m j k (of_text f) (long a b c) = let w = f.is_text.short in absurd (omega arith)
causes_once bytes l m j k (of_text f) (no_text a p b c d) = absurd (no_longest bytes p f.is_text.utf8 b)
causes_once bytes l m j k (of_text f) (of_text g) = first_once bytes l m j k f g

-- Two faults of the same bytes are one.
pub fault_once : (bytes : List ℕ) (l m : ℕ) (j k : ScriptKind) → IsScriptFault bytes l j → IsScriptFault bytes m k → (l ≡ m) × (j ≡ k)
fault_once bytes l m j k g h = causes_once bytes l m j k (cause bytes l j g) (cause bytes m k h)
