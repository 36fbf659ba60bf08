-- The catalog of persons who know each other is sound, and so is the empty one.
use Rattle.std.proofs.Common.{◌≡◌, ℕ, cond, List, [], ◌∷◌, Contains, inl, inr, refl, ap, sym, ◌∙◌, subst, lit<, lit≤, arith}
use Rattle.std.specs.Prelude.{codes}
use Rattle.std.specs.Str.{bytes_eq}
use Rattle.pg_keyed.specs.Lists.{Each}
use Rattle.pg_value.specs.declared.value.Kind.{Kind}
use Rattle.pg_value.specs.declared.value.Kind.TheVariants as kinds
use Rattle.pg_value.specs.declared.shape.TableNo.{TableNo}
use Rattle.pg_meaning.specs.Members.{in_nil, in_cons, not_in_cons}
use Rattle.pg_rules.specs.declared.entry.PropertyEntry.{PropertyEntry}
use Rattle.pg_rules.specs.Catalog.LookUps.{nothing}
use Rattle.pg_rules.specs.Catalog.Sound.{IsSoundElement, IsSound, properties_in, all_properties}
use Rattle.pg_rules.proofs.QueryTrials.{tables, catalog, column, key, persons, acquaintances, graph}

empty_is_sound : IsSound nothing
empty_is_sound = record { tables = tt; graphs = tt }

of_each : {X : Type 0} (P : X → Type 0) (xs : List X) (x : X) → Each P xs → Contains xs x → P x
of_each P [] x h c = absurd (in_nil x c)
of_each P (y ∷ ys) x h c = elim (in_cons y ys x c) [ inl e ↦ subst P e h.0 | inr r ↦ of_each P ys x h.1 r ]

-- what is told by the name of each of some properties is the same for two of one name
by_name : {X : Type 0} (f : List ℕ → X) (value : PropertyEntry → X) (ps : List PropertyEntry) → Each (λ p. value p ≡ f p.name) ps
    → (p q : PropertyEntry) → Contains ps p → Contains ps q → p.name ≡ q.name → value p ≡ value q
by_name f value ps each p q c e h = of_each (λ p. value p ≡ f p.name) ps p each c ∙ ap f h ∙ sym (of_each (λ p. value p ≡ f p.name) ps q each e)

abbrev kind_named : List ℕ → Kind
kind_named name = cond (bytes_eq name (codes "NAME")) kinds.Text kinds.Int

abbrev person_column : List ℕ → ℕ
person_column name = cond (bytes_eq name (codes "NAME")) 1 0

abbrev knows_column : List ℕ → ℕ
knows_column name = cond (bytes_eq name (codes "ID")) 0 (cond (bytes_eq name (codes "A")) 1 (cond (bytes_eq name (codes "B")) 2 3))

abbrev persons_sound : IsSoundElement tables persons
persons_sound = record {
  table = (codes "PERSON", record { columns = key (codes "ID") ∷ column (codes "NAME") kinds.Text ∷ []; key = 0 ∷ [] });
  stands = refl;
  properties = (
    record { column = key (codes "ID"); stands = refl; kind = refl },
    (record { column = column (codes "NAME") kinds.Text; stands = refl; kind = refl }, tt),
  );
  one_column = by_name person_column (λ p. p.column) (properties_in persons) (refl, (refl, tt));
}

abbrev knows_sound : IsSoundElement tables acquaintances.element
knows_sound = record {
  table = (codes "KNOWS", record { columns = key (codes "ID") ∷ column (codes "A") kinds.Int ∷ column (codes "B") kinds.Int ∷ column (codes "W") kinds.Int ∷ []; key = 0 ∷ [] });
  stands = refl;
  properties = (
    record { column = key (codes "ID"); stands = refl; kind = refl },
    (
      record { column = column (codes "A") kinds.Int; stands = refl; kind = refl },
      (record { column = column (codes "B") kinds.Int; stands = refl; kind = refl }, (record { column = column (codes "W") kinds.Int; stands = refl; kind = refl }, tt)),
    ),
  );
  one_column = by_name knows_column (λ p. p.column) (properties_in acquaintances.element) (refl, (refl, (refl, (refl, tt))));
}

one_zero : ◌≡◌ {A = ℕ} 1 0 → ⊥
one_zero h = omega arith

zero_is_not_one : ◌≡◌ {A = TableNo} (record { 0 = 1 }) (record { 0 = 0 }) → ⊥
zero_is_not_one e = one_zero (ap (λ (t : TableNo). t.0) e)

pub catalog_is_sound : IsSound catalog
catalog_is_sound = record {
  tables = (
    record { short = lit≤ tt; differ = (in_nil 0, tt); key = (record { column = key (codes "ID"); stands = refl; not_null = refl }, tt) },
    (record { short = lit≤ tt; differ = (in_nil 0, tt); key = (record { column = key (codes "ID"); stands = refl; not_null = refl }, tt) }, tt),
  );
  graphs = (
    record {
      vertices = (persons_sound, tt);
      edges = (
        record {
          element = knows_sound;
          source = record {
            vertex = (0, lit< tt, refl);
            table = persons_sound.table;
            stands = refl;
            names_key = (record { column = column (codes "A") kinds.Int; key_column = key (codes "ID"); stands = refl; key_stands = refl; same_kind = refl }, tt);
          };
          dest = record {
            vertex = (0, lit< tt, refl);
            table = persons_sound.table;
            stands = refl;
            names_key = (record { column = column (codes "B") kinds.Int; key_column = key (codes "ID"); stands = refl; key_stands = refl; same_kind = refl }, tt);
          };
        },
        tt,
      );
      differ = (not_in_cons (record { 0 = 1 }) [] (record { 0 = 0 }) zero_is_not_one (in_nil (record { 0 = 0 })), (in_nil (record { 0 = 1 }), tt));
      one_kind = by_name kind_named (λ p. p.kind) (all_properties graph) (refl, (refl, (refl, (refl, (refl, (refl, tt))))));
    },
    tt,
  );
}
