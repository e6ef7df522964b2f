-- Answers to DIFF and to CAUSES are the same where those of the questions are that they stand for.
use Rattle.std.proofs.Common.{◌≡◌, Bool, true, cond, List, [], ◌∷◌, Option, None, sym, ap, ◌∙◌}
use Rattle.std.specs.Option.{option_or}
use Rattle.gp_base.proofs.SmallLemmas.{none_parts}
use Rattle.gp_base.specs.declared.refusal.Refusal.{Refusal}
use Rattle.gp_grammar.specs.Syntax as y
use Rattle.gp_machine.specs.Entries.{Entry}
use Rattle.gp_ask.specs.declared.answered.Answered.{Answered}
use Rattle.gp_ask.specs.DifferenceForms.{causes_of, committed_writes, diff_of, without_in}
use Rattle.gp_ask.specs.Differences.{are_mixed, causes_answer, diff_answer, mixed_refusal, rows_in, side_answer, side_refusal}
use Rattle.gp_ask.specs.Hypothetical.{asking_refusal}
use Rattle.gp_ask.specs.Values.{unless_refused}

module _ (asks others : y.Subject → y.Query → Answered) (changes others_changed : List y.LogChange → y.Subject → y.Query → Answered)
    (same : (subject : y.Subject) (query : y.Query) → asks subject query ≡ others subject query)
    (same_changed : (own : List y.LogChange) (subject : y.Subject) (query : y.Query) → changes own subject query ≡ others_changed own subject query)
    (unmade other_unmade : Option Refusal) (same_unmade : unmade ≡ other_unmade) (entries : List Entry) where
  side-same : (side : y.Side) (query : y.Query) → side_answer asks changes side query ≡ side_answer others others_changed side query
  side-same (y.as_is subject) query = same subject query
  side-same (y.changed own subject) query = same_changed own subject query

  pub diff-same : (first second : y.Side) (query : y.Query)
      → diff_answer asks changes unmade entries first second query ≡ diff_answer others others_changed other_unmade entries first second query
  diff-same first second query =
      λ i. unless_refused (mixed_refusal (same_unmade i) entries first second query) (diff_of (rows_in (side-same first query i)) (rows_in (side-same second query i)))

  without-same : (subject : y.Subject) (query : y.Query) → without_in changes subject query ≡ without_in others_changed subject query
  without-same subject query = λ i own. same_changed (y.drop own.0 own.1 ∷ []) subject query i

  pub causes-same : (subject : y.Subject) (query : y.Query) → causes_answer asks changes unmade entries subject query ≡ causes_answer others others_changed other_unmade entries subject query
  causes-same subject query =
      λ i. unless_refused (option_or (asking_refusal entries subject query) (same_unmade i)) (causes_of (without-same subject query i) (committed_writes entries) (rows_in (same subject query i)))

-- where nothing refuses to compare the history with a changed one, its rows are made
pub mixed-made : (unmade : Option Refusal) (entries : List Entry) (first second : y.Side) (query : y.Query) → mixed_refusal unmade entries first second query ≡ None
    → are_mixed first second ≡ true → unmade ≡ None
mixed-made unmade entries first second query none mixed =
    let refusals = option_or (side_refusal entries second query) unmade in
    let all : option_or (side_refusal entries first query) refusals ≡ None =
    ap (λ (b : Bool). cond b (option_or (side_refusal entries first query) refusals) None) (sym mixed) ∙ none in
    (none_parts (side_refusal entries second query) unmade (none_parts (side_refusal entries first query) refusals all).1).1
