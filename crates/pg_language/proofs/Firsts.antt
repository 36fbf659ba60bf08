-- What is first of its kind in a list is one.
use Rattle.std.proofs.Common.{◌≡◌, ◌+◌, ℕ, List, [], ◌∷◌, ◌++◌, length, refl, sym, ap, ap₂, ◌∙◌, subst, append_assoc}
use Rattle.std.specs.declared.option.Option.TheVariants.{Some, None}
use Rattle.std.proofs.lemmas.Option.{same_Some}
use Rattle.pg_lex.specs.declared.token.Token.{Token}
use Rattle.pg_value.specs.declared.write.Write.{Write}
use Rattle.pg_ast.specs.declared.statement.Statement.{Statement}
use Rattle.pg_ast.specs.Words.Terminals.{Tokens}
use Rattle.pg_ast.specs.Grammar.{IsStatement, BeginsStatement, FirstFault}
use Rattle.pg_meaning.specs.declared.checked.CheckedChange.{CheckedChange}
use Rattle.pg_rules.specs.declared.fault.RowFault.{RowFault}
use Rattle.pg_rules.specs.Changes.ChangeEffect.{Context, fault_behind, IsFirstFault, IsDone}

pub none_some : {X : Type 0} (x : X) → None ≡ Some x → ⊥
none_some x h = cc

-- of two places in a list they are the same, or one stands before the other
pub data Places {X : Type 0} (a : List X) (x : X) (b : List X) (y : X) : Type 0 where
  same : a ≡ b → x ≡ y → Places a x b y
  sooner : (m : List X) → b ≡ a ++ x ∷ m → Places a x b y
  later : (m : List X) → a ≡ b ++ y ∷ m → Places a x b y

module _ {X : Type 0} where
  behind : (z w : X) (a : List X) (x : X) (b : List X) (y : X) → z ≡ w → Places a x b y → Places (z ∷ a) x (w ∷ b) y
  behind z w a x b y e (same p q) = same (ap₂ ◌∷◌ e p) q
  behind z w a x b y e (sooner m p) = sooner m (ap₂ ◌∷◌ (sym e) p)
  behind z w a x b y e (later m p) = later m (ap₂ ◌∷◌ e p)

  pub places : (a : List X) (x : X) (r b : List X) (y : X) (s : List X) → a ++ x ∷ r ≡ b ++ y ∷ s → Places a x b y
  places [] x r [] y s e = same refl (let h : x ≡ y = cc in h)
  places [] x r (w ∷ b) y s e = sooner b (let h : w ≡ x = cc in ap (λ v. v ∷ b) h)
  places (z ∷ a) x r [] y s e = later a (let h : z ≡ y = cc in ap (λ v. v ∷ a) h)
  places (z ∷ a) x r (w ∷ b) y s e =
      let first : z ≡ w = cc in
      let rest : a ++ x ∷ r ≡ b ++ y ∷ s = cc in
      behind z w a x b y first (places a x r b y s rest)

-- THE FIRST TOKEN THAT NO STATEMENT CONTINUES

-- what stands in front of tokens with which a statement begins begins one
begins_in : (front m : Tokens) (token : Token) (b : Tokens) → b ≡ front ++ token ∷ m → BeginsStatement b → BeginsStatement (front ++ token ∷ [])
begins_in front m token b e s = record {
  more = m ++ s.more;
  tree = s.tree;
  is = subst (IsStatement s.tree) (ap (λ l. l ++ s.more) e ∙ append_assoc front (token ∷ m) s.more ∙ sym (append_assoc front (token ∷ []) (m ++ s.more))) s.is;
}

pub no_fault_in : (tree : Statement) (tokens : Tokens) (at : ℕ) → IsStatement tree tokens → FirstFault tokens at → ⊥
no_fault_in tree tokens at s f = f.with_it (record {
  more = f.back;
  tree = tree;
  is = subst (IsStatement tree) (f.parts ∙ sym (append_assoc f.front (f.token ∷ []) f.back)) s;
})

pub one_fault : (tokens : Tokens) (at at' : ℕ) → FirstFault tokens at → FirstFault tokens at' → at ≡ at'
one_fault tokens at at' f g = go (places f.front f.token f.back g.front g.token g.back (sym f.parts ∙ g.parts))
  where
    go : Places f.front f.token g.front g.token → at ≡ at'
    go (same p q) = f.place ∙ ap (λ (t : Token). t.from) q ∙ sym g.place
    go (sooner m p) = absurd (f.with_it (begins_in f.front m f.token g.front p g.before))
    go (later m p) = absurd (g.with_it (begins_in g.front m g.token f.front p f.before))

-- THE FIRST FAULTY ROW

module _ (c : Context) (x : CheckedChange) where
  pub not_done : (n : ℕ) (fault : RowFault) (ws : List Write) (rows : ℕ) → IsFirstFault c x n fault → IsDone c x ws rows → ⊥
  not_done n fault ws rows f d = none_some fault (sym (d.right f.before f.after f.row f.rows) ∙ f.faulty)

  pub one_faulty_row : (n n' : ℕ) (fault fault' : RowFault) → IsFirstFault c x n fault → IsFirstFault c x n' fault' → (n ≡ n') × (fault ≡ fault')
  one_faulty_row n n' fault fault' f g = go (places f.before f.row f.after g.before g.row g.after (sym f.rows ∙ g.rows))
    where
      go : Places f.before f.row g.before g.row → (n ≡ n') × (fault ≡ fault')
      go (same p q) = (
        f.counted ∙ ap (λ (l : List Write). length l + 1) p ∙ sym g.counted,
        same_Some fault fault' (sym f.faulty ∙ (λ i. fault_behind c x (p i) (q i)) ∙ g.faulty),
      )
      go (sooner m p) = absurd (none_some fault (sym (g.right_before f.before m f.row p) ∙ f.faulty))
      go (later m p) = absurd (none_some fault' (sym (f.right_before g.before m g.row p) ∙ g.faulty))
