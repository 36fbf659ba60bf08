-- Turns follow one another: those of a joined list are those of its parts, one after the other.
use Rattle.std.proofs.Common.{ℕ, zero, suc, ◌+◌, List, [], ◌∷◌, ◌++◌, refl, subst}
use Rattle.std.proofs.lemmas.List.{replicate-append-replicate}
use Rattle.std.specs.Prelude.{replicate}
use Rattle.pg_script.specs.declared.script.Script.{Script}
use Rattle.pg_script.specs.Judged.{Judges}
use Rattle.pg_session.specs.Stepped.{World, Turn, Turns}

module _ {K D C Q X Y : Type 0} (J : Judges K D C Q X Y) (limit : ℕ) (script : Script) where
  pub turns_join : (w m w' : World K) (ns ms : List ℕ) → Turns J limit script w ns m → Turns J limit script m ms w' → Turns J limit script w (ns ++ ms) w'
  turns_join w m w' [] ms t u = subst (λ (x : World K). Turns J limit script x ms w') t u
  turns_join w m w' (n ∷ ns) ms t u = (t.0, t.1, turns_join t.0 m w' ns ms t.2 u)

  pub turns_split : (w w' : World K) (ns ms : List ℕ) → Turns J limit script w (ns ++ ms) w' → (m : World K) × Turns J limit script w ns m × Turns J limit script m ms w'
  turns_split w w' [] ms t = (w, refl, t)
  turns_split w w' (n ∷ ns) ms t = let h = turns_split t.0 w' ns ms t.2 in (h.0, (t.0, t.1, h.1), h.2)

  -- one turn more of a section, after the others
  pub turns_more : (w m w' : World K) (n k : ℕ) → Turns J limit script w (replicate k n) m → Turn J limit script m n w' → Turns J limit script w (replicate (suc k) n) w'
  turns_more w m w' n zero t u = (w', subst (λ (x : World K). Turn J limit script x n w') t u, refl)
  turns_more w m w' n (suc k) t u = (t.0, t.1, turns_more t.0 m w' n k t.2 u)

  -- so many turns of a section and then so many
  pub turns_both : (w m w' : World K) (n j k : ℕ) → Turns J limit script w (replicate j n) m → Turns J limit script m (replicate k n) w' → Turns J limit script w (replicate (j + k) n) w'
  turns_both w m w' n j k t u = subst (λ ns. Turns J limit script w ns w') (replicate-append-replicate j k n) (turns_join w m w' (replicate j n) (replicate k n) t u)
