-- The language of scripts is fitting: its definitions extend the shapes, and its changes write what fits.
use Rattle.std.proofs.Common.{ℕ, List, sym, ap, subst}
use Rattle.pg_value.specs.declared.shape.Shapes.{Shapes}
use Rattle.pg_value.specs.declared.write.Write.{Write}
use Rattle.pg_value.specs.Tables.{Tables, FitTables}
use Rattle.pg_meaning.specs.declared.checked.CheckedChange.{CheckedChange}
use Rattle.pg_rules.specs.Catalog.{Defined}
use Rattle.pg_rules.specs.Catalog.LookUps.{nothing}
use Rattle.pg_rules.specs.Catalog.Shapes.{shapes}
use Rattle.pg_rules.specs.Catalog.Sound.{IsSound}
use Rattle.pg_rules.specs.Catalog.SoundDefinitions.{NothingIsSound, DefinitionsKeepSound}
use Rattle.pg_rules.specs.Changes.{Change, resolved_change}
use Rattle.pg_rules.specs.Changes.ChangeEffect.{context}
use Rattle.pg_rules.specs.Resolving.{ResolvingKeeps}
use Rattle.pg_script.specs.declared.script.Script.{Script}
use Rattle.pg_script.specs.Judged.{Fine, Done}
use Rattle.pg_script.specs.Fitting.{Extends, AreFit, Reached, begins, defines as accepts, IsFitting}
use Rattle.pg_language.specs.Language.{most_transaction_writes, affects, resolves, language}
use Rattle.pg_language.proofs.Keeps.{definitions_extend, writes_stay_in_order}
use Rattle.pg_language.proofs.FitChanges.{changed_fit}

module _ (script : Script) (none_sound : NothingIsSound) (kept : DefinitionsKeepSound) (law : ResolvingKeeps) where
  reached_sound : (k : Defined) → Reached (language script) nothing k → IsSound k
  reached_sound k begins = none_sound
  reached_sound k (accepts old _ d name r h) = subst IsSound (sym (ap (λ (x : List ℕ × Defined). x.1) h.1)) (kept old d (reached_sound old r) h.0)

  changes_fit : (k : Defined) (c : Change) (x : CheckedChange) (all : Shapes) (tables : Tables) (ws ws' : List Write) (rows : ℕ) → IsSound k → Extends (shapes k) all
      → FitTables all tables → AreFit all ws → resolves k c (Fine x) → affects k tables ws x (Done ws' rows) → AreFit all ws'
  changes_fit k c x all tables ws ws' rows sound more held fit (fine, is) a = go (subst (λ y. affects k tables ws y (Done ws' rows)) is a)
    where
      go : affects k tables ws (resolved_change k.0 c) (Done ws' rows) → AreFit all ws'
      go (shape, at, done) = record {
        in_order = writes_stay_in_order k tables ws (resolved_change k.0 c) ws' rows fit.in_order (shape, at, done);
        fit = changed_fit k law c all (context most_transaction_writes shape tables ws) ws' rows sound fine at (more _ shape at) held fit.fit done;
      }

  pub language_is_fitting : IsFitting (language script) nothing
  language_is_fitting = record {
    extends = definitions_extend;
    writes = λ k c x all tables ws ws' rows reached more held fit r a. changes_fit k c x all tables ws ws' rows (reached_sound k reached) more held fit r a;
  }
