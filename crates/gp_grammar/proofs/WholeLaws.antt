-- A sound, complete and local parser reads what the grammar derives, and stops at the place of the fault.
use Rattle.gp_grammar.proofs.Prelude.{◌≡◌, ℕ, suc, [], ◌∷◌, ◌++◌, length, Ok, Err, ◌↔◌, ◌⊎◌, inl, inr, refl, sym, ap, subst, arith, ◌∙◌, append-nil, Lexeme, Lexemes, Outcome, Parser, ◌>>=◌, whole, NoneGoesOn, Stops}
use Rattle.gp_grammar.specs.Parsing.{ended}
use Rattle.gp_grammar.proofs.Soundness.{Sound}
use Rattle.gp_grammar.proofs.Locality.{Local, Same, SameUpTo, Past}

no-end : (prefix : Lexemes) (t : Lexeme) (m : Lexemes) → [] ≡ prefix ++ (t ∷ m) → ⊥
no-end [] t m e = cc
no-end (x ∷ prefix) t m e = cc

module _ {A : Type 0} where
  ended-ok : (r : A × Lexemes) (x : A) → ended r ≡ Ok x → (r.0 ≡ x) × (r.1 ≡ [])
  ended-ok (y, []) x h = (cc, refl)
  ended-ok (y, t ∷ ts) x h = cc

  IsOkOutcome : Outcome (A × Lexemes) → Type 0
  IsOkOutcome (Ok x) = Unit {0}
  IsOkOutcome (Err a) = ⊥

  ok-err : (x : A × Lexemes) (a : Lexemes) (o : Outcome (A × Lexemes)) → o ≡ Ok x → o ≡ Err a → ⊥
  unfolding IsOkOutcome
  ok-err x a o h k = let s : IsOkOutcome o = subst IsOkOutcome (sym h) tt in subst IsOkOutcome k s

  err-conflict : (t : Lexeme) (m m' used : Lexemes) (y : A) (o : Outcome (A × Lexemes)) → o ≡ Ok (y, []) → Same t m m' (Err (t ∷ m)) o ⊎ Past t m m' {A = A} (Err (t ∷ m)) → ⊥
  err-conflict t m m' used y o e (inl s) = let P : Outcome (A × Lexemes) → Type 0 = λ z. Same t m m' (Err (t ∷ m)) z in let f : ⊥ = subst P e s in f
  err-conflict t m m' used y o e (inr p) = omega arith

  ok-conflict : (t : Lexeme) (m m' : Lexemes) (x y : A) (o : Outcome (A × Lexemes)) → o ≡ Ok (y, []) → Same t m m' (Ok (x, t ∷ m)) o ⊎ Past t m m' {A = A} (Ok (x, t ∷ m)) → ⊥
  ok-conflict t m m' x y o e (inl s) =
      let P : Outcome (A × Lexemes) → Type 0 = λ z. Same t m m' (Ok (x, t ∷ m)) z in
      let f : (x ≡ y) × SameUpTo t m m' (t ∷ m) [] = subst P e s in no-end f.1.prefix t m' f.1.second
  ok-conflict t m m' x y o e (inr p) = omega arith

  module _ (Is : Lexemes → A → Type 0) (p : Parser A) (sound : (ts : Lexemes) → Sound Is ts (p ts))
      (complete : (ts : Lexemes) (x : A) → Is ts x → p ts ≡ Ok (x, [])) (local : (t : Lexeme) (m m' : Lexemes) (n : ℕ) → Local t m m' n p) where
    read-ok : (ts : Lexemes) (x : A) (o : Outcome (A × Lexemes)) → Sound Is ts o → o >>= ended ≡ Ok x → Is ts x
    read-ok ts x (Ok r) h e =
        let w : (r.0 ≡ x) × (r.1 ≡ []) = ended-ok r x e in
        let s : ts ≡ h.used = h.split ∙ ap (λ z. h.used ++ z) w.1 ∙ append-nil h.used in
        let P : A → Type 0 = λ y. Is ts y in let Q : Lexemes → Type 0 = λ z. Is z r.0 in subst P w.0 (subst Q (sym s) h.is)
    read-ok ts x (Err rest) h e = cc

    pub reads : (ts : Lexemes) (x : A) → (whole p ts ≡ Ok x) ↔ Is ts x
    reads ts x = (λ e. read-ok ts x (p ts) (sound ts) e, λ i. ap (λ o. o >>= ended) (complete ts x i))

    along : (t : Lexeme) (m m' used : Lexemes) (ts : Lexemes) (o : Outcome (A × Lexemes)) → ts ≡ used ++ (t ∷ m) → p ts ≡ o
        → Same t m m' o (p (used ++ (t ∷ m'))) ⊎ Past t m m' o
    along t m m' used ts o e h =
        let P : Outcome (A × Lexemes) → Type 0 = λ z. Same t m m' z (p (used ++ (t ∷ m'))) ⊎ Past t m m' z in
        subst P h ((local t m m' (suc (length ts))).along ts (used ++ (t ∷ m')) (omega arith) (record { prefix = used; first = e; second = refl }))

    stops-err : (ts used rest : Lexemes) → ts ≡ used ++ rest → p ts ≡ Err rest → NoneGoesOn Is used rest
    stops-err ts used [] e h = λ x i. let k : p used ≡ Err [] = ap (λ z. p z) (sym (append-nil used) ∙ sym e) ∙ h in
        ok-err (x, []) [] (p used) (complete used x i) k
    stops-err ts used (t ∷ m) e h = λ m' x i. err-conflict t m m' used x (p (used ++ (t ∷ m'))) (complete (used ++ (t ∷ m')) x i) (along t m m' used ts (Err (t ∷ m)) e h)

    stops-by : (ts rest : Lexemes) (o : Outcome (A × Lexemes)) → p ts ≡ o → Sound Is ts o → o >>= ended ≡ Err rest → Stops Is ts rest
    stops-by ts rest (Err at) h w e =
        let f : at ≡ rest = cc in
        let s : Stops Is ts at = record { prefix = w.used; split = w.split; more = w.more; tree = w.tree; begins = w.is; none = stops-err ts w.used at w.split h } in
        let P : Lexemes → Type 0 = λ z. Stops Is ts z in subst P f s
    stops-by ts rest (Ok (x, [])) h w e = cc
    stops-by ts rest (Ok (x, t ∷ m)) h w e =
        let f : (t ∷ m) ≡ rest = cc in
        let s : Stops Is ts (t ∷ m) = record {
          prefix = w.used;
          split = w.split;
          more = [];
          tree = x;
          begins = rw append-nil w.is;
          none = λ m' y i. ok-conflict t m m' x y (p (w.used ++ (t ∷ m'))) (complete (w.used ++ (t ∷ m')) y i) (along t m m' w.used ts (Ok (x, t ∷ m)) w.split h);
        } in
        let P : Lexemes → Type 0 = λ z. Stops Is ts z in subst P f s

    pub stops : (ts rest : Lexemes) → whole p ts ≡ Err rest → Stops Is ts rest
    stops ts rest e = stops-by ts rest (p ts) refl (sound ts) e
