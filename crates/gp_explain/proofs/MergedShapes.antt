-- Merged programs are shaped, if the programs are.
use Rattle.gp_explain.proofs.Prelude.{◌≡◌, ℕ, Bool, true, false, cond, List, [], ◌∷◌, refl, ◌∙◌, map, ◌&&◌, ◌==◌, list_all, and_parts, and_from, Table, Expr, Cond, substituted_each, Plain, scan, step, select, project, product, union, given, publish, PlainStep, PlainProgram, inlined, stays, settled, is_small, selected, projected, rebuilt, merged, program_inlined, has_item, table_is_spellable, expr_is_shaped, cond_is_shaped, query_is_shaped, step_is_shaped, is_shaped, both_follow}
use Rattle.gp_explain.proofs.PlainShapes.{each_stays, same_items}
use Rattle.gp_merge.proofs.ExpressionLemmas.{both}

module _ (tables : List Table) where
  abbrev query_stays : Plain → Plain → Type 0
  query_stays query new = query_is_shaped tables query ≡ true → query_is_shaped tables new ≡ true

  selected_stays : (c : Cond) (query : Plain) → query_stays (select query c) (selected c query)
  selected_stays c (select query first) so =
      let p = and_parts (query_is_shaped tables (select query first)) (cond_is_shaped c) so in
      let q = and_parts (query_is_shaped tables query) (cond_is_shaped first) p.0 in
      both q.0 (both q.1 p.1)
  selected_stays c (scan table version) so = so
  selected_stays c (step j) so = so
  selected_stays c (project query exprs) so = so
  selected_stays c (product l r) so = so
  selected_stays c (union l r) so = so
  selected_stays c (given rows) so = so
  selected_stays c (publish at b m l) so = so

  projected_stays : (exprs : List Expr) (query : Plain) → query_stays (project query exprs) (projected exprs query)
  projected_stays exprs (project query inner) so =
      let p = and_parts (query_is_shaped tables (project query inner)) (has_item exprs && list_all expr_is_shaped exprs) so in
      let q = and_parts (query_is_shaped tables query) (has_item inner && list_all expr_is_shaped inner) p.0 in
      let own = and_parts (has_item exprs) (list_all expr_is_shaped exprs) p.1 in
      let all = (and_parts (has_item inner) (list_all expr_is_shaped inner) q.1).1 in
      go (is_small (substituted_each exprs inner))
      (projected_stays (substituted_each exprs inner) query (both q.0 (both (same_items inner all exprs ∙ own.0) (each_stays inner all exprs own.1))))
    where
      go : (b : Bool) → query_is_shaped tables (projected (substituted_each exprs inner) query) ≡ true
          → query_is_shaped tables (cond b (projected (substituted_each exprs inner) query) (project (project query inner) exprs)) ≡ true
      go true rest = rest
      go false rest = so
  projected_stays exprs (scan table version) so = so
  projected_stays exprs (step j) so = so
  projected_stays exprs (select query c) so = so
  projected_stays exprs (product l r) so = so
  projected_stays exprs (union l r) so = so
  projected_stays exprs (given rows) so = so
  projected_stays exprs (publish at b m l) so = so

  rebuilt_stays : (query : Plain) → query_stays query (rebuilt query)
  rebuilt_stays (scan table version) so = so
  rebuilt_stays (step j) so = so
  rebuilt_stays (select query c) so = selected_stays c (rebuilt query) (both_follow _ _ _ _ (rebuilt_stays query) (λ e. e) so)
  rebuilt_stays (project query exprs) so = projected_stays exprs (rebuilt query) (both_follow _ _ _ _ (rebuilt_stays query) (λ e. e) so)
  rebuilt_stays (product l r) so = both_follow _ _ _ _ (rebuilt_stays l) (rebuilt_stays r) so
  rebuilt_stays (union l r) so = both_follow _ _ _ _ (rebuilt_stays l) (rebuilt_stays r) so
  rebuilt_stays (given rows) so = so
  rebuilt_stays (publish at b m l) so = both_follow _ _ _ _ (rebuilt_stays b) (both_follow _ _ _ _ (rebuilt_stays m) (rebuilt_stays l)) so

  inlined_stays : (j : ℕ) (own : Plain) → query_is_shaped tables own ≡ true → (query : Plain) → query_stays query (inlined j own query)
  inlined_stays j own is (scan table version) so = so
  inlined_stays j own is (step i) so = go (i == j)
    where
      go : (b : Bool) → query_is_shaped tables (cond b own (step i)) ≡ true
      go true = is
      go false = so
  inlined_stays j own is (select query c) so = both_follow _ _ _ _ (inlined_stays j own is query) (λ e. e) so
  inlined_stays j own is (project query exprs) so = both_follow _ _ _ _ (inlined_stays j own is query) (λ e. e) so
  inlined_stays j own is (product l r) so = both_follow _ _ _ _ (inlined_stays j own is l) (inlined_stays j own is r) so
  inlined_stays j own is (union l r) so = both_follow _ _ _ _ (inlined_stays j own is l) (inlined_stays j own is r) so
  inlined_stays j own is (given rows) so = so
  inlined_stays j own is (publish at b m l) so =
      both_follow _ _ _ _ (inlined_stays j own is b) (both_follow _ _ _ _ (inlined_stays j own is m) (inlined_stays j own is l)) so

  -- ---- programs

  steps_stay : (put : Plain → Plain) → ((query : Plain) → query_stays query (put query)) → (steps : List PlainStep)
      → list_all (step_is_shaped tables) steps ≡ true → list_all (step_is_shaped tables) (map (λ (s : PlainStep). record s { query = put s.query }) steps) ≡ true
  steps_stay put stay [] so = refl
  steps_stay put stay (s ∷ steps) so =
      both_follow _ _ _ _ (both_follow _ _ _ _ (λ e. e) (stay s.query)) (steps_stay put stay steps) so

  settled_stays : (steps : List PlainStep) (last : Plain) → list_all (step_is_shaped tables) steps ≡ true → query_is_shaped tables last ≡ true
      → is_shaped tables (settled steps last) ≡ true
  settled_stays [] last so is = is
  settled_stays (s ∷ steps) last so is =
      let p = and_parts (step_is_shaped tables s) (list_all (step_is_shaped tables) steps) so in
      go p.0 (settled_stays steps last p.1 is) (stays s (settled steps last))
    where
      go : step_is_shaped tables s ≡ true → is_shaped tables (settled steps last) ≡ true → (b : Bool)
          → is_shaped tables (cond b (record (settled steps last) { steps = s ∷ (settled steps last).steps }) (program_inlined s.j s.query (settled steps last))) ≡ true
      go own rest true =
          let r = and_parts (list_all (step_is_shaped tables) (settled steps last).steps) (query_is_shaped tables (settled steps last).last) rest in both (both own r.0) r.1
      go own rest false =
          let query = (and_parts (table_is_spellable tables s.table) (query_is_shaped tables s.query) own).1 in
          both_follow _ _ _ _ (steps_stay (inlined s.j s.query) (inlined_stays s.j s.query query) (settled steps last).steps) (inlined_stays s.j s.query query (settled steps last).last) rest

  pub merged_shaped : (program : PlainProgram) → is_shaped tables program ≡ true → is_shaped tables (merged program) ≡ true
  merged_shaped program so =
      let p = and_parts (list_all (step_is_shaped tables) program.steps) (query_is_shaped tables program.last) so in
      both_follow _ _ _ _ (steps_stay rebuilt rebuilt_stays (settled program.steps program.last).steps) (rebuilt_stays (settled program.steps program.last).last)
      (settled_stays program.steps program.last p.0 p.1)
