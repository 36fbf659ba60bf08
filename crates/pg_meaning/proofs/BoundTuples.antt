-- The slots of a joined tuple fit its variables, and an expression has the same value over them and over the tuple.
use Rattle.std.proofs.Common.{◌≡◌, ◌+◌, ◌≤◌, ◌<◌, ◌^◌, ℕ, refl, ap, sym, ◌∙◌, arith, List, length, Contains, inl, inr, Option, Some, None}
use Rattle.std.specs.Prelude.{slice_get, IfSome}
use Rattle.pg_value.specs.declared.shape.ElemId.{ElemId}
use Rattle.pg_value.specs.Tables.{Tables}
use Rattle.pg_meaning.specs.declared.checked.Slot.{Slot}
use Rattle.pg_meaning.specs.declared.checked.Slot.TheVariants.{One as OneSlot, Many}
use Rattle.pg_meaning.specs.CExprs.{CTree, Literal, ColumnAt, PropertyOf, One, Two, Group, Counted}
use Rattle.pg_meaning.specs.Typing.{count_width}
use Rattle.pg_meaning.specs.Meaning.{Assignment, vars_of}
use Rattle.pg_meaning.specs.Answers.{slot_elems, lists_in, assigned, bound_to}
use Rattle.pg_meaning.specs.Mentions.{Degree, Singleton, Grouped}
use Rattle.pg_meaning.specs.Members.{in_nil, in_one, in_append}
use Rattle.pg_meaning.specs.Sound.{Degrees, IsOf, Binds}
use Rattle.pg_meaning.specs.Sound.Queries.{FitsSlot, degrees_of}
use Rattle.pg_meaning.specs.Sound.Bindings.{FitsDegree, slot_for, BoundTuplesFit}
use Rattle.pg_meaning.proofs.MeaningLaws.{same_value}
use Rattle.pg_meaning.proofs.FittingTuples.{tuples_fit}

-- SLOTS

fits_slot : (tables : Tables) (hops : ℕ) → hops + 1 < 2 ^ count_width → (d : Degree) (es : List ElemId) → FitsDegree tables hops d es → (s : Slot) × (slot_for d es ≡ Some s) × FitsSlot tables d s
fits_slot tables hops l Singleton es h = (OneSlot h.0, ap (slot_for Singleton) h.1, h.2)
fits_slot tables hops l Grouped es h = let s = h.short in (Many es, refl, (h.rows, below (length es) (hops + 1) (2 ^ count_width) s l))
  where
    below : (a b c : ℕ) → a ≤ b → b < c → a < c
    below a b c x y = omega (arith, x, y)

slot_has : (tables : Tables) (hops : ℕ) (d : Degree) (es : List ElemId) → FitsDegree tables hops d es → slot_elems (slot_for d es) ≡ es
slot_has tables hops Singleton es h = ap (λ xs. slot_elems (slot_for Singleton xs)) h.1 ∙ sym h.1
slot_has tables hops Grouped es h = refl

one_slot : (tables : Tables) (hops : ℕ) → hops + 1 < 2 ^ count_width → (o : Option Degree) (found : Option Slot) (es : List ElemId) → IfSome o (λ d. FitsDegree tables hops d es) → IfSome o (λ d. found ≡ slot_for d es)
    → IfSome o (λ d. (s : Slot) × (found ≡ Some s) × FitsSlot tables d s)
one_slot tables hops l None found es h k = tt
one_slot tables hops l (Some d) found es h k = let s = fits_slot tables hops l d es h in (s.0, k ∙ s.1, s.2)

-- VARIABLES

only_var : (v : ℕ) (x : CTree) → IsOf v x → (y : ℕ) → Contains (vars_of x) y → y ≡ v
only_var v (Literal u) h y c = absurd (in_nil y c)
only_var v (ColumnAt k) h y c = absurd (in_nil y c)
only_var v (PropertyOf z places) h y c = sym (in_one z y c) ∙ h
only_var v (One op x) h y c = only_var v x h y c
only_var v (Two op x z) h y c = elim (in_append (vars_of x) (vars_of z) y c) [ inl a ↦ only_var v x h.0 y a | inr b ↦ only_var v z h.1 y b ]
only_var v (Group agg x) h y c = absurd h
only_var v (Counted x) h y c = absurd h

-- each variable of a sound expression has a degree
var_degree : (degrees : Degrees) (x : CTree) → Binds degrees x → (y : ℕ) → Contains (vars_of x) y → (d : Degree) × (degrees y ≡ Some d)
var_degree degrees (Literal u) h y c = absurd (in_nil y c)
var_degree degrees (ColumnAt k) h y c = absurd (in_nil y c)
var_degree degrees (PropertyOf z places) h y c = (Singleton, ap degrees (sym (in_one z y c)) ∙ h)
var_degree degrees (One op x) h y c = var_degree degrees x h y c
var_degree degrees (Two op x z) h y c = elim (in_append (vars_of x) (vars_of z) y c) [ inl a ↦ var_degree degrees x h.0 y a | inr b ↦ var_degree degrees z h.1 y b ]
var_degree degrees (Group agg x) h y c = (Grouped, ap degrees (only_var h.variable x h.alone y c) ∙ h.grouped)
var_degree degrees (Counted z) h y c = (Grouped, ap degrees (sym (in_one z y c)) ∙ h)

same_elems : (tables : Tables) (hops : ℕ) (o : Option Degree) (d : Degree) → o ≡ Some d → (found : Option Slot) (es : List ElemId) → IfSome o (λ d. FitsDegree tables hops d es) → IfSome o (λ d. found ≡ slot_for d es)
    → slot_elems found ≡ es
same_elems tables hops None d e found es h k = absurd (none_is d e)
  where
    none_is : {X : Type 0} (x : X) → None ≡ Some x → ⊥
    none_is x h = cc
same_elems tables hops (Some c) d e found es h k = ap slot_elems k ∙ slot_has tables hops c es h

pub bound_tuples_fit : BoundTuplesFit
bound_tuples_fit shapes tables q tuple hops bound sound order z short l is =
    let said : Assignment = assigned (lists_in q.paths tuple) in
    let fit = tuples_fit shapes tables q tuple hops sound order z short in
    record {
      slots = λ x. one_slot tables hops l (degrees_of q x) (slice_get bound.vars x) (said x) (fit x) (is x);
      value = λ x s. same_value x tables (bound_to bound) said (λ y c.
          let d = var_degree (degrees_of q) x s.binds y c in
          same_elems tables hops (degrees_of q y) d.0 d.1 (slice_get bound.vars y) (said y) (fit y) (is y));
    }
