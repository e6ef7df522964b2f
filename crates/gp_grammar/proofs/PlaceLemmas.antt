-- A line has one place of a fault at most, and none where the grammar derives it.
use Rattle.gp_grammar.proofs.Prelude.{◌≡◌, [], ◌∷◌, ◌++◌, refl, sym, subst, ◌∙◌, append_assoc, append-nil, Lexeme, Lexemes, NoneGoesOn, Stops}

-- two ways to cut one list
data Cut (a b r q : Lexemes) : Type 0 where
  equal : r ≡ q → Cut a b r q
  shorter : (t : Lexeme) (u : Lexemes) → b ≡ a ++ (t ∷ u) → r ≡ t ∷ (u ++ q) → Cut a b r q
  longer : (t : Lexeme) (u : Lexemes) → a ≡ b ++ (t ∷ u) → q ≡ t ∷ (u ++ r) → Cut a b r q

cut-behind : (t s : Lexeme) (a b r q : Lexemes) → t ≡ s → Cut a b r q → Cut (t ∷ a) (s ∷ b) r q
cut-behind t s a b r q e (equal d) = equal d
cut-behind t s a b r q e (shorter x u d f) = shorter x u (cc) f
cut-behind t s a b r q e (longer x u d f) = longer x u (cc) f

cut : (a b r q : Lexemes) → a ++ r ≡ b ++ q → Cut a b r q
cut [] [] r q e = equal e
cut [] (t ∷ b) r q e = shorter t b refl e
cut (t ∷ a) [] r q e = longer t a refl (sym e)
cut (t ∷ a) (s ∷ b) r q e = let h : t ≡ s = cc in let k : a ++ r ≡ b ++ q = cc in cut-behind t s a b r q h (cut a b r q k)

module _ {A : Type 0} (Is : Lexemes → A → Type 0) where
  -- where one place is before another, the other prefix begins no sentence
  none-longer : (a b r q more : Lexemes) (x : A) (t : Lexeme) (u : Lexemes) → b ≡ a ++ (t ∷ u) → r ≡ t ∷ (u ++ q) → NoneGoesOn Is a r → Is (b ++ more) x → ⊥
  none-longer a b r q more x t u e d n i =
      let F : Lexemes → Type 0 = λ z. Is (z ++ more) x in
      let j : Is ((a ++ (t ∷ u)) ++ more) x = subst F e i in
      let G : Lexemes → Type 0 = λ z. NoneGoesOn Is a z in
      let m : NoneGoesOn Is a (t ∷ (u ++ q)) = subst G d n in
      let P : Lexemes → Type 0 = λ z. Is z x in
      m (u ++ more) x (subst P (append_assoc a (t ∷ u) more) j)

  pub stops-unique : (ts r q : Lexemes) → Stops Is ts r → Stops Is ts q → r ≡ q
  stops-unique ts r q v w = by (cut v.prefix w.prefix r q (sym v.split ∙ w.split))
    where
      by : Cut v.prefix w.prefix r q → r ≡ q
      by (equal e) = e
      by (shorter t u e d) = absurd (none-longer v.prefix w.prefix r q w.more w.tree t u e d v.none w.begins)
      by (longer t u e d) = absurd (none-longer w.prefix v.prefix q r v.more v.tree t u e d w.none v.begins)

  none-whole : (prefix r : Lexemes) (x : A) → NoneGoesOn Is prefix r → Is (prefix ++ r) x → ⊥
  none-whole prefix [] x n i = let P : Lexemes → Type 0 = λ z. Is z x in n x (subst P (append-nil prefix) i)
  none-whole prefix (t ∷ r) x n i = n r x i

  pub stops-not : (ts r : Lexemes) (x : A) → Stops Is ts r → Is ts x → ⊥
  stops-not ts r x v i = let P : Lexemes → Type 0 = λ z. Is z x in none-whole v.prefix r x v.none (subst P v.split i)
