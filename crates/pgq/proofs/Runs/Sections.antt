-- Running the items of a section, and the sections of a script.
use Rattle.std.proofs.Common.{◌≡◌, ℕ, zero, suc, ◌+◌, ◌<◌, false, List, [], ◌∷◌, ◌++◌, map, length, take, get_or, refl, ap, sym, subst, ◌∙◌, length-append, arith}
use Rattle.std.specs.Prelude.{slice_get}
use Rattle.std.specs.List.{AllZip}
use Rattle.std.specs.declared.option.Option.TheVariants.{Some}
use Rattle.std.proofs.lemmas.List.{map-append, take_more, length-map}
use Rattle.std.proofs.lemmas.Option.{none-some, slice_get-get_or, get_or_from_slice_get}
use Rattle.std.specs.Option.{option_map}
use Rattle.pg_keyed.specs.Keyed.{Each}
use Rattle.pg_rules.specs.declared.entry.TableEntry.{TableEntry}
use Rattle.pg_rules.specs.Catalog.{Tables}
use Rattle.pg_script.specs.declared.script.Item.{Item}
use Rattle.pg_script.specs.declared.script.Section.{Section}
use Rattle.pg_script.specs.declared.script.Script.{Script}
use Rattle.pg_script.specs.declared.outcome.Outcome.{Outcome}
use Rattle.pg_script.specs.declared.transcript.SectionOut.{SectionOut}
use Rattle.pg_script.specs.Legal.{no_section, items_of}
use Rattle.pgq.specs.declared.engine.Engine.{Engine}
use Rattle.pg_session.specs.Stepped.{section_outs}
use Rattle.pg_session.specs.Legality.{SteppedRunsAreLegal}
use Rattle.pg_language.specs.Language.{language}
use Rattle.pgq.specs.Engine.{IsFirst, IsReady, Answers}
use Rattle.pgq.specs.Sections.{HasAnswered, IsWhole, HaveAnswered, IsStatementIn, IsRunnable, closed, IsRun, IsOutOf, answers_of, HasRunSection, HaveRun}
use Rattle.pgq.proofs.Runs.Turns.{one_more, sections_more}
use Rattle.pgq.proofs.Runs.SteppedRuns.{run_is}

some_is : {A : Type 0} (x y : A) → Some x ≡ Some y → x ≡ y
some_is x y h = cc

pub each_at : {X : Type 0} (P : X → Type 0) (xs : List X) (k : ℕ) (d : X) → Each P xs → k < length xs → P (get_or xs k d)
each_at P [] k d h lt = absurd (omega (arith, lt))
each_at P (x ∷ xs) zero d h lt = h.0
each_at P (x ∷ xs) (suc k) d h lt = each_at P xs k d h.1 (omega (arith, lt))

each_got : {X : Type 0} (P : X → Type 0) (xs : List X) (k : ℕ) (x : X) → Each P xs → slice_get xs k ≡ Some x → P x
each_got P [] k x h got = absurd (none-some x got)
each_got P (y ∷ xs) zero x h got = subst P (some_is y x got) h.0
each_got P (y ∷ xs) (suc k) x h got = each_got P xs k x h.1 got

-- one item more
pub item_more : (script : Script) (n : ℕ) (items : List Item) (e e' e'' : Engine) (outs outs' : List Outcome) (d : Item) (k : ℕ) (o : Outcome) → HasAnswered script n items e outs e' → length outs ≡ k → k < length items → IsReady e'
    → Answers script n e' (get_or items k d) o e'' → outs' ≡ outs ++ o ∷ [] → HasAnswered script n items e outs' e''
item_more script n items e e' e'' outs outs' d k o h count lt ready a is =
    subst (λ os. HasAnswered script n items e os e'') (sym is)
    (one_more script n items e e' e'' outs (get_or items k d) o h (subst (λ i. slice_get items i ≡ Some (get_or items k d)) (sym count) (slice_get-get_or items k d lt)) ready.peak a)

pub counted_more : {A : Type 0} (outs outs' : List A) (k : ℕ) (o : A) → length outs ≡ k → outs' ≡ outs ++ o ∷ [] → length outs' ≡ k + 1
counted_more outs outs' k o count is = omega (arith, ap length is, length-append outs (o ∷ []), count)

-- A SECTION

pub statements_of : (script : Script) (n : ℕ) (section : Section) → IsRunnable script → slice_get script.sections n ≡ Some section → Each (IsStatementIn script.text) section.items
statements_of script n section r got = each_got (λ (s : Section). Each (IsStatementIn script.text) s.items) script.sections n section r.statements got

items_are : (script : Script) (n : ℕ) (section : Section) → slice_get script.sections n ≡ Some section → items_of script n ≡ section.items
items_are script n section got = ap (λ (s : Section). s.items) (get_or_from_slice_get script.sections n section no_section got)

pub section_is : (script : Script) (n : ℕ) (section : Section) (e e' : Engine) (name : List ℕ) (outs : List Outcome) → slice_get script.sections n ≡ Some section → HasAnswered script n section.items e outs e'
    → length outs ≡ length section.items → name ≡ section.name → HasRunSection script n section e (record { name = name; outcomes = outs; rolled_back = false }) e'
section_is script n section e e' name outs got h all named = record {
  whole = record {
    answered = subst (λ is. HasAnswered script n is e outs e') (sym (items_are script n section got)) h;
    all = all ∙ sym (ap length (items_are script n section got));
  };
  out_of = (named, refl);
}

-- ALL SECTIONS

zip_more : {X Y : Type 0} (P : X → Y → Type 0) (xs : List X) (ys : List Y) (x : X) (y : Y) → AllZip P xs ys → P x y → AllZip P (xs ++ x ∷ []) (ys ++ y ∷ [])
zip_more P [] [] x y h p = (p, tt)
zip_more P [] (b ∷ ys) x y h p = absurd h
zip_more P (a ∷ xs) [] x y h p = absurd h
zip_more P (a ∷ xs) (b ∷ ys) x y h p = (h.0, zip_more P xs ys x y h.1 p)

zip_long : {X Y : Type 0} (P : X → Y → Type 0) (xs : List X) (ys : List Y) → AllZip P xs ys → length ys ≡ length xs
zip_long P [] [] h = refl
zip_long P [] (b ∷ ys) h = absurd h
zip_long P (a ∷ xs) [] h = absurd h
zip_long P (a ∷ xs) (b ∷ ys) h = ap suc (zip_long P xs ys h.1)

pub none_run : (script : Script) (e : Engine) (outs : List SectionOut) → outs ≡ [] → HaveRun script [] e outs e
none_run script e outs is = subst (λ os. HaveRun script [] e os e) (sym is) (record { answered = refl; outs_of = tt })

pub section_more : (script : Script) (e e' e'' : Engine) (outs outs' : List SectionOut) (out : SectionOut) (listed : List Section) (section : Section) (k : ℕ) → HaveRun script (take k script.sections) e outs e' → length outs ≡ k
    → listed ≡ script.sections → k < length listed → section ≡ get_or listed k section → HasRunSection script k section e' out e'' → outs' ≡ outs ++ out ∷ [] → HaveRun script (take (k + 1) script.sections) e outs' e''
section_more script e e' e'' outs outs' out listed section k h count same lt at s is =
    subst (λ os. HaveRun script (take (k + 1) script.sections) e os e'') (sym is) (record {
      answered = subst (λ answers. HaveAnswered script 0 e answers e'') (sym (map-append (λ (o : SectionOut). o.outcomes) outs (out ∷ [])))
          (sections_more script 0 e e' e'' (answers_of outs) out.outcomes h.answered (subst (λ n. IsWhole script n e' out.outcomes e'') (omega (arith, count, length-map outs (λ (o : SectionOut). o.outcomes))) s.whole));
      outs_of = subst (λ ss. AllZip IsOutOf ss (outs ++ out ∷ [])) (sym (taken ∙ ap (λ x. take k script.sections ++ x ∷ []) (sym (at ∙ ap (λ (l : List Section). get_or l k section) same))))
          (zip_more IsOutOf (take k script.sections) outs section out h.outs_of s.out_of);
    })
  where
    taken : take (k + 1) script.sections ≡ take k script.sections ++ get_or script.sections k section ∷ []
    taken = take_more script.sections k section (subst (λ (l : List Section). k < length l) same lt)

printed_are : (sections : List Section) (outs : List SectionOut) → AllZip IsOutOf sections outs → outs ≡ section_outs sections (map closed (answers_of outs))
printed_are [] [] h = refl
printed_are [] (o ∷ outs) h = absurd h
printed_are (s ∷ sections) [] h = absurd h
printed_are (s ∷ sections) (o ∷ outs) h = λ i. record { name = h.0.0 i; outcomes = o.outcomes; rolled_back = h.0.1 i } ∷ printed_are sections outs h.1 i

-- NAMES OF TABLES

pub name_more : (tables : Tables) (k : ℕ) (names names' : List (List ℕ)) (name : List ℕ) → k < length tables → option_map (λ (t : List ℕ × TableEntry). t.0) (slice_get tables k) ≡ Some name
    → names ≡ map (λ (t : List ℕ × TableEntry). t.0) (take k tables) → names' ≡ names ++ name ∷ [] → names' ≡ map (λ (t : List ℕ × TableEntry). t.0) (take (k + 1) tables)
name_more tables k names names' name lt at so_far is =
    let here : (get_or tables k none_such).0 ≡ name = some_is (get_or tables k none_such).0 name (sym (ap (option_map (λ (t : List ℕ × TableEntry). t.0)) (slice_get-get_or tables k none_such lt)) ∙ at) in
    is ∙ ap (λ ns. ns ++ name ∷ []) so_far
    ∙ sym (ap (map (λ (t : List ℕ × TableEntry). t.0)) (take_more tables k none_such lt) ∙ map-append (λ (t : List ℕ × TableEntry). t.0) (take k tables) (get_or tables k none_such ∷ [])
    ∙ ap (λ n. map (λ (t : List ℕ × TableEntry). t.0) (take k tables) ++ n ∷ []) here)
  where
    none_such : List ℕ × TableEntry
    none_such = ([], record { columns = []; key = [] })

-- THE RUN

pub whole_run : (script : Script) (e e' : Engine) (outs : List SectionOut) (names : List (List ℕ)) → IsRunnable script → IsFirst e → HaveRun script script.sections e outs e' → names ≡ map (λ t. t.0) e'.catalog.0
    → SteppedRunsAreLegal language → IsRun script (record { has_setup = script.has_setup; sections = outs; tables = names; log = e'.log; peak = e'.peak })
whole_run script e e' outs names r first h named law =
    subst (IsRun script) (λ i. record { has_setup = script.has_setup; sections = sym (printed_are script.sections outs h.outs_of) i; tables = sym named i; log = e'.log; peak = e'.peak })
    (run_is law script (answers_of outs) e e' r first h.answered (length-map outs (λ (o : SectionOut). o.outcomes) ∙ zip_long IsOutOf script.sections outs h.outs_of))
