-- A chunk more, and items more.
use Rattle.std.proofs.Common.{ℕ, ◌≡◌, ◌+◌, ◌^◌, ◌<◌, ◌≤◌, List, [], ◌∷◌, ◌++◌, length, Ok, Err, ap, sym, subst, ◌∙◌, arith, append_assoc, append-nil, length-append}
use Rattle.std.specs.Prelude.{OnOk, Result, IfOk, min}
use Rattle.pg_keyed.specs.Lists.{Each, each_append}
use Rattle.pg_shared.specs.declared.part.Part.{Part}
use Rattle.pg_shared.specs.declared.maker.Maker.{Maker}
use Rattle.pg_shared.specs.Parts.{joined, Starts, Leads, IsLong, IsShort, IsKept}
use Rattle.pg_shared.specs.Made.{IsMade, items_of}

pub on_then : {A E : Type 0} (P Q : Type 0) (r : Result A E) → (P → Q) → OnOk r P → OnOk r Q
on_then P Q (Ok a) f h = f h
on_then P Q (Err e) f h = tt

pub if_then : {A E : Type 0} (P Q : A → Type 0) (r : Result A E) → ((a : A) → P a → Q a) → IfOk r P → IfOk r Q
if_then P Q (Ok a) f h = f a h
if_then P Q (Err e) f h = tt

module _ {X : Type 0} where
  pub joined_push : (ps : List (Part X)) (p : Part X) → joined (ps ++ p ∷ []) ≡ joined ps ++ p.items
  joined_push [] p = append-nil p.items
  joined_push (q ∷ ps) p = ap (λ l. q.items ++ l) (joined_push ps p) ∙ sym (append_assoc q.items (joined ps) p.items)

  pub starts_push : (n : ℕ) (ps : List (Part X)) (p : Part X) → Starts n ps → p.before ≡ n + length (joined ps) → Starts n (ps ++ p ∷ [])
  starts_push n [] p s e = (omega arith, tt)
  starts_push n (q ∷ ps) p s e = (s.0, starts_push (n + length q.items) ps p s.1 (let l = length-append q.items (joined ps) in omega arith))

  -- the chunks but the last
  pub starts_pop : (n : ℕ) (ps : List (Part X)) (p : Part X) → Starts n (ps ++ p ∷ []) → Starts n ps × (p.before ≡ n + length (joined ps))
  starts_pop n [] p s = (tt, omega arith)
  starts_pop n (q ∷ ps) p s = let r = starts_pop (n + length q.items) ps p s.1 in ((s.0, r.0), (let l = length-append q.items (joined ps) in let e = r.1 in omega arith))

  pub each_pop : (P : Part X → Type 0) (ps : List (Part X)) (p : Part X) → Each P (ps ++ p ∷ []) → Each P ps × P p
  each_pop P [] p h = (tt, h.0)
  each_pop P (q ∷ ps) p h = let r = each_pop P ps p h.1 in ((h.0, r.0), r.1)

  -- a chunk more, and other items in none
  pub grown : (m w : Maker X) (p : Part X) → IsMade m → Leads p → IsLong p → IsShort p → p.before ≡ m.before → m.before + 127 ≤ 2 ^ 62 → w.parts.items ≡ m.parts.items ++ p ∷ [] → w.before ≡ m.before + length p.items → length w.pending.items < 128 → IsMade w
  grown m w p made leads long short at room parts before rest =
      let j = ap length (joined_push m.parts.items p) in
      let l = length-append (joined m.parts.items) p.items in
      let e = ap (λ ps. length (joined ps)) parts in
      record {
        starts = subst (Starts 0) (sym parts) (starts_push 0 m.parts.items p made.starts (let c = made.counts in omega arith));
        leads = subst (Each Leads) (sym parts) (each_append Leads m.parts.items (p ∷ []) made.leads (leads, tt));
        long = subst (Each IsLong) (sym parts) (each_append IsLong m.parts.items (p ∷ []) made.long (long, tt));
        short = subst (Each IsShort) (sym parts) (each_append IsShort m.parts.items (p ∷ []) made.short (short, tt));
        counts = let c = made.counts in omega arith;
        bound = omega arith;
        rest = rest;
      }

  pub closed_items : (m w : Maker X) (p : Part X) → w.parts.items ≡ m.parts.items ++ p ∷ [] → p.items ≡ m.pending.items → items_of w ≡ items_of m ++ w.pending.items
  closed_items m w p parts items = ap (λ ps. joined ps ++ w.pending.items) parts ∙ ap (λ l. l ++ w.pending.items) (joined_push m.parts.items p ∙ ap (λ l. joined m.parts.items ++ l) items)

  pub shared_items : (m w : Maker X) (p : Part X) (xs : List X) → w.parts.items ≡ m.parts.items ++ p ∷ [] → p.items ≡ xs → m.pending.items ≡ [] → w.pending.items ≡ [] → items_of w ≡ items_of m ++ xs
  shared_items m w p xs parts items none still =
      ap (λ ps. joined ps ++ w.pending.items) parts ∙ ap (λ l. joined (m.parts.items ++ p ∷ []) ++ l) still ∙ append-nil (joined (m.parts.items ++ p ∷ [])) ∙ joined_push m.parts.items p ∙ ap (λ l. joined m.parts.items ++ l) items
      ∙ ap (λ l. l ++ xs) (sym (append-nil (joined m.parts.items)) ∙ ap (λ l. joined m.parts.items ++ l) (sym none))

  -- the last chunk, of all items that are left
  pub ended : (m : Maker X) (p : Part X) → IsMade m → Leads p → p.before ≡ m.before → p.items ≡ m.pending.items → (0 < length m.parts.items → 64 ≤ length m.pending.items) → IsKept (m.parts.items ++ p ∷ [])
  ended m p made leads at items long =
      let j = ap length (joined_push m.parts.items p) in
      let l = length-append (joined m.parts.items) p.items in
      let n = length-append m.parts.items (p ∷ []) in
      let e = ap length items in
      let r = made.rest in
      record {
        starts = starts_push 0 m.parts.items p made.starts (let c = made.counts in omega arith);
        leads = each_append Leads m.parts.items (p ∷ []) made.leads (leads, tt);
        short = each_append IsShort m.parts.items (p ∷ []) made.short ((omega arith), tt);
        long = λ more. each_append IsLong m.parts.items (p ∷ []) made.long ((let f = long (omega arith) in omega arith), tt);
        bound = let c = made.counts in let b = made.bound in omega arith;
      }

  pub whole : (m : Maker X) → IsMade m → m.pending.items ≡ [] → IsKept m.parts.items
  whole m made none = record {
    starts = made.starts;
    leads = made.leads;
    short = made.short;
    long = λ more. made.long;
    bound = let c = made.counts in let b = made.bound in omega arith;
  }

  -- some of the items in none become a chunk, and one more follows
  pub split_items : (js ps us vs rs : List X) (x : X) → us ++ vs ≡ ps → rs ≡ vs ++ x ∷ [] → (js ++ us) ++ rs ≡ (js ++ ps) ++ x ∷ []
  split_items js ps us vs rs x e f =
      ap (λ l. (js ++ us) ++ l) f ∙ append_assoc js us (vs ++ x ∷ []) ∙ ap (λ l. js ++ l) (sym (append_assoc us vs (x ∷ []))) ∙ ap (λ l. js ++ (l ++ x ∷ [])) e ∙ sym (append_assoc js ps (x ∷ []))

  -- the last chunk is none any more
  pub popped : (m w : Maker X) (p : Part X) → IsMade m → m.parts.items ≡ w.parts.items ++ p ∷ [] → w.before ≡ p.before → w.pending.items ≡ [] → IsMade w
  popped m w p made parts before none =
      let s = starts_pop 0 w.parts.items p (subst (Starts 0) parts made.starts) in
      let j = ap length (ap joined parts ∙ joined_push w.parts.items p) in
      let l = length-append (joined w.parts.items) p.items in
      let n = ap length none in
      let t = s.1 in
      record {
        starts = s.0;
        leads = (each_pop Leads w.parts.items p (subst (Each Leads) parts made.leads)).0;
        long = (each_pop IsLong w.parts.items p (subst (Each IsLong) parts made.long)).0;
        short = (each_pop IsShort w.parts.items p (subst (Each IsShort) parts made.short)).0;
        counts = omega arith;
        bound = let c = made.counts in let b = made.bound in omega arith;
        rest = omega arith;
      }

  pub popped_long : (m : Maker X) (ps : List (Part X)) (p : Part X) → IsMade m → m.parts.items ≡ ps ++ p ∷ [] → 64 ≤ length p.items
  popped_long m ps p made parts = (each_pop IsLong ps p (subst (Each IsLong) parts made.long)).1

pub least : (n k : ℕ) → min 64 n ≤ k → 64 ≤ n → 64 ≤ k
least n k h l = omega arith
