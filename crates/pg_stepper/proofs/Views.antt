-- A snapshot under own writes.
use Rattle.std.proofs.Common.{ℕ, ◌≡◌, List, [], ◌∷◌, ◌++◌, length, refl, ap, sym, ◌∙◌, arith}
use Rattle.std.specs.Prelude.{Result, Ok, Err, IfOk}
use Rattle.std.specs.declared.option.Option.TheVariants.{Some, None}
use Rattle.std.specs.List.{cons_option}
use Rattle.std.proofs.lemmas.List.{append-nil}
use Rattle.pg_keyed.specs.Puts.{put_nothing}
use Rattle.pg_value.specs.declared.shape.Shapes.{Shapes}
use Rattle.pg_value.specs.declared.write.Write.{Write}
use Rattle.pg_value.specs.declared.write.Commit.{Commit}
use Rattle.pg_value.specs.Order.{place_cmp}
use Rattle.pg_value.specs.Orders.{places}
use Rattle.pg_value.specs.Tables.{Tables, place_of}
use Rattle.pg_value.specs.Writes.{named}
use Rattle.pg_value.specs.Log.{put, row_given}
use Rattle.pg_core.specs.declared.parts.Parts.{Parts}
use Rattle.pg_core.specs.Versions.{StandsFor}
use Rattle.pg_run.specs.Runs.{RunOf}
use Rattle.pg_run.specs.Kept.{kept_run}
use Rattle.pg_snap.specs.Bases.{BaseOf}
use Rattle.pg_snap.specs.Kept.{IsOfParts, kept_base}
use Rattle.pg_snap.specs.Snapshots.{SnapOf, laid, tables_of}
use Rattle.pg_stepper.specs.Seen.{IsSeen, IsUnder, IsViewAt}

put_none : (tables : Tables) → put tables [] ≡ tables
put_none tables = put_nothing place_of named row_given place_cmp places tables

no_writes : (ws : List Write) → length ws ≡ 0 → ws ≡ []
no_writes [] l = refl
no_writes (w ∷ ws) l = absurd (omega (arith, l))

laid_append : (tables : Tables) (a b : List RunOf) → laid tables (a ++ b) ≡ laid (laid tables a) b
laid_append tables [] b = refl
laid_append tables (x ∷ a) b = laid_append (put tables x.writes) a b

-- no writes change nothing
pub under_none : (bare : SnapOf) (ws : List Write) → length ws ≡ 0 → IsUnder bare ws bare
under_none bare ws l = record { base = refl; version = refl; tables = sym (ap (put (tables_of bare)) (no_writes ws l) ∙ put_none (tables_of bare)) }

pub under_own : (bare s : SnapOf) (own : RunOf) (ws : List Write) → bare.own ≡ None → own.writes ≡ ws → s ≡ record { base = bare.base; runs = bare.runs; own = Some own; at = bare.at } → IsUnder bare ws s
under_own bare s own ws n w e = record {
  base = ap (λ (x : SnapOf). x.base) e;
  version = ap (λ (x : SnapOf). x.at) e;
  tables = ap tables_of e
      ∙ (laid_append bare.base.tables bare.runs (own ∷ [])
      ∙ (ap (put (laid bare.base.tables bare.runs)) w
      ∙ ap (λ ts. put ts ws) (sym (ap (λ o. laid bare.base.tables (bare.runs ++ cons_option o [])) n ∙ ap (laid bare.base.tables) (append-nil bare.runs)))));
}

pub if_ok : {A E : Type 0} (r : Result A E) (P Q : A → Type 0) → ((a : A) → P a → Q a) → IfOk r P → IfOk r Q
if_ok (Ok a) P Q f h = f a h
if_ok (Err e) P Q f h = tt

seen_is : (p : Parts BaseOf RunOf) (bare s : SnapOf) (ws : List Write) → IsOfParts p bare → IsUnder bare ws s → IsSeen p ws s
seen_is p bare s ws o u = record { base = u.base ∙ o.base; version = u.version ∙ o.version; tables = u.tables ∙ ap (λ ts. put ts ws) o.tables }

pub seen_ok : {E : Type 0} (p : Parts BaseOf RunOf) (bare : SnapOf) (ws : List Write) (r : Result SnapOf E) → IsOfParts p bare → IfOk r (IsUnder bare ws) → IfOk r (IsSeen p ws)
seen_ok p bare ws r o h = if_ok r (IsUnder bare ws) (IsSeen p ws) (λ s u. seen_is p bare s ws o u) h

view_is : (p : Parts BaseOf RunOf) (ws : List Write) (s : SnapOf) → IsSeen p ws s → (shapes : Shapes) (log : List Commit) (at : ℕ) → StandsFor kept_base kept_run shapes log at p → IsViewAt shapes log at ws s
view_is p ws s i shapes log at h = record {
  made = ap (λ (b : BaseOf). b.shapes) i.base ∙ h.same;
  version = i.version ∙ h.until;
  tables = i.tables ∙ ap (λ ts. put ts ws) h.tables;
}

pub view_ok : {E : Type 0} (p : Parts BaseOf RunOf) (ws : List Write) (r : Result SnapOf E) → IfOk r (IsSeen p ws)
    → IfOk r (λ s. (shapes : Shapes) (log : List Commit) (at : ℕ) → StandsFor kept_base kept_run shapes log at p → IsViewAt shapes log at ws s)
view_ok p ws r h = if_ok r (IsSeen p ws) _ (λ s i. view_is p ws s i) h
