-- What judging the rows of a change gives is its effect.
use Rattle.std.proofs.Common.{ℕ, Bool, ◌≡◌, refl, ap, sym, subst, ◌∙◌, List, []}
use Rattle.std.specs.Prelude.{slice_get, slice_index_or}
use Rattle.std.specs.declared.option.Option.{Option}
use Rattle.std.specs.declared.option.Option.TheVariants.{Some}
use Rattle.std.proofs.lemmas.Option.{get_or_from_slice_get}
use Rattle.pg_value.specs.declared.shape.Shapes.{Shapes}
use Rattle.pg_value.specs.declared.shape.TableShape.{TableShape}
use Rattle.pg_value.specs.declared.write.Write.{Write}
use Rattle.pg_value.specs.Tables.{Tables}
use Rattle.pg_value.specs.Writes.{Limited, IsInOrder, merge}
use Rattle.pg_meaning.specs.declared.checked.CheckedChange.{CheckedChange}
use Rattle.pg_meaning.specs.Sound.Changes.{table_of}
use Rattle.pg_rules.specs.declared.fault.RowFault.{RowFault}
use Rattle.pg_rules.specs.Changes.ChangeEffect.{context, is_insert, proposed, IsDone, IsFirstFault}
use Rattle.pg_write.specs.declared.fault.EffectFault.{EffectFault}
use Rattle.pg_write.specs.declared.fault.EffectFault.TheVariants as effect
use Rattle.pg_write.specs.ChangeEffects.{Does, Refuses, IsJudged, IsJudgedFaulty, refused_by, IsOfRow}
use Rattle.pg_write.specs.JudgedRows.{SoFar, Fine, Faulty, told, judged}
use Rattle.pg_write.proofs.JudgedLaws.{all_right, first_faulty}

pub at_is : {X : Type 0} (xs : List X) (i : ℕ) (x y : X) → slice_get xs i ≡ Some x → y ≡ slice_index_or xs i y → y ≡ x
at_is xs i x y h e = e ∙ get_or_from_slice_get xs i x y h

module _ (shapes : Shapes) (tables : Tables) (given : Limited) (change : CheckedChange) (limit : ℕ) (a : IsInOrder given.list) (l : given.limit ≡ limit) where
  pub does : (s : SoFar) (writes : Limited) → IsJudged limit shapes tables given.list change (Fine s) → writes.list ≡ merge given.list s.made → writes.limit ≡ given.limit → Does shapes tables given change writes s.rows
  does s writes j e n =
      let d : IsDone (context limit j.shape tables given.list) change (merge given.list s.made) s.rows = all_right (context limit j.shape tables given.list) change a s j.judged_is in
      record {
        shape = j.shape;
        shape_at = j.shape_at;
        done = subst (λ k. IsDone (context k j.shape tables given.list) change writes.list s.rows) (sym l) (subst (λ ws. IsDone (context limit j.shape tables given.list) change ws s.rows) (sym e) d);
        limit = n;
      }

  pub refuses : (f : EffectFault) → IsJudgedFaulty limit shapes tables given.list change f → Refuses shapes tables given change (refused_by f given)
  refuses effect.Memory j = tt
  refuses (effect.Row row fault) j = record {
    shape = j.shape;
    shape_at = j.shape_at;
    first = subst (λ k. IsFirstFault (context k j.shape tables given.list) change row fault) (sym l) (first_faulty (context limit j.shape tables given.list) change a row fault j.judged_is);
    same = refl;
  }

-- what is judged from no rows on
pub from_none : (limit : ℕ) (shapes : Shapes) (tables : Tables) (given : List Write) (change : CheckedChange) (shape at : TableShape) (insert : Bool) (made : List Write) (f : Option RowFault) (o : Option RowFault) (s : SoFar)
    → slice_get shapes.tables (table_of change).0 ≡ Some shape → at ≡ shape → insert ≡ is_insert change → made ≡ [] → o ≡ f
    → judged (context limit at tables given) insert (record { made = made; rows = 0 }) (proposed at tables change) ≡ told o s → IsJudged limit shapes tables given change (told f s)
from_none limit shapes tables given change shape at insert made f o s stands same i m e h = record {
  shape = at;
  shape_at = stands ∙ ap Some (sym same);
  judged_is = (λ j. judged (context limit at tables given) (sym i j) (record { made = sym m j; rows = 0 }) (proposed at tables change)) ∙ h ∙ ap (λ x. told x s) e;
}

-- a fault behind so many rows
pub judged_faulty : (limit : ℕ) (shapes : Shapes) (tables : Tables) (given : List Write) (change : CheckedChange) (number : ℕ) (fault : RowFault) (f : EffectFault)
    → IsJudged limit shapes tables given change (Faulty number fault) → IsOfRow number fault f → IsJudgedFaulty limit shapes tables given change f
judged_faulty limit shapes tables given change number fault effect.Memory j h = tt
judged_faulty limit shapes tables given change number fault (effect.Row row found) j h = subst (λ n. IsJudged limit shapes tables given change (Faulty n found)) (sym h.0) (subst (λ x. IsJudged limit shapes tables given change (Faulty number x)) (sym h.1) j)
