-- Where the rows of a dump are those that its log makes, what compares histories is answered as from the dump that the log makes.
use Rattle.std.proofs.Common.{◌≡◌, ◌⊎◌, inl, inr, true, Option, Some, None, List, refl, sym, ap, ◌∙◌}
use Rattle.std.specs.List.Sorted.{IsPermutation}
use Rattle.std.specs.Option.{option_map, option_or}
use Rattle.std.proofs.lemmas.Bool.{false≢true}
use Rattle.gp_base.proofs.SmallLemmas.{none_parts}
use Rattle.gp_base.specs.Annotated.{Annotated, unannotated}
use Rattle.gp_base.specs.declared.refusal.Refusal.{Refusal}
use Rattle.gp_grammar.specs.Syntax as y
use Rattle.gp_history.specs.Agreement.{agree}
use Rattle.gp_log.specs.LogFacts.{tables_in}
use Rattle.gp_machine.specs.Entries.{versions_in}
use Rattle.gp_machine.specs.HistorySpans.{as_of}
use Rattle.gp_machine.specs.QuestionForms.{identified}
use Rattle.gp_machine.specs.Replayed.{replayed_state}
use Rattle.gp_dump.specs.Dumps.{Dump}
use Rattle.gp_ask.specs.declared.answered.Answered.{Answered}
use Rattle.gp_ask.specs.declared.answered.Answered.TheVariants.{Refused}
use Rattle.gp_ask.specs.Asking.{Programs, table_spans}
use Rattle.gp_ask.specs.Compared.{AnswersAsMade, compares_histories}
use Rattle.gp_ask.specs.DifferenceForms.{causes_of, committed_writes, diff_of, without_in}
use Rattle.gp_ask.specs.Differences.{rows_in, side_refusal}
use Rattle.gp_ask.specs.Hypothetical.{asking_refusal, remaking_refusal, replayed_dump, what_if_held}
use Rattle.gp_ask.specs.Made.{differing_refusal, unmade_refusal}
use Rattle.gp_ask.specs.Subjects.{query_to}
use Rattle.gp_ask.specs.Values.{unless_refused}
use Rattle.gp_ask.proofs.MadeLemmas.{none-unmade}

-- what a dump answers, and what the one that its log makes, whose rows are made: each may be refused before, and then since its rows are not made
module _ (unmade other : Option Refusal) (found : Answered) (same : unmade ≡ None → other ≡ None) where
  unrefused : (own : Option Refusal) → unmade ≡ own → (unless_refused own found ≡ unless_refused other found) ⊎ (option_map Refused unmade ≡ Some (unless_refused own found))
  unrefused None is = inl (ap (λ (refusal : Option Refusal). unless_refused refusal found) (sym (same is)))
  unrefused (Some refusal) is = inr (ap (option_map Refused) is)

  as-made : (first : Option Refusal)
      → (unless_refused (option_or first unmade) found ≡ unless_refused (option_or first other) found) ⊎ (option_map Refused unmade ≡ Some (unless_refused (option_or first unmade) found))
  as-made (Some refusal) = inl refl
  as-made None = unrefused unmade refl

  -- two refusals come before
  as-made-twice : (first second : Option Refusal)
      → (unless_refused (option_or first (option_or second unmade)) found ≡ unless_refused (option_or first (option_or second other)) found)
      ⊎ (option_map Refused unmade ≡ Some (unless_refused (option_or first (option_or second unmade)) found))
  as-made-twice (Some refusal) second = inl refl
  as-made-twice None second = as-made second

module _ (programs : Programs) (dump : Dump) (unmade : unmade_refusal dump ≡ None → unmade_refusal (replayed_dump dump.entries) ≡ None) where
  abbrev made : Dump
  made = replayed_dump dump.entries

  abbrev asks : y.Subject → y.Query → Answered
  asks = query_to programs made

  abbrev changed : List y.LogChange → y.Subject → y.Query → Answered
  changed = what_if_held programs dump.entries

  pub answers-as-made : (question : y.Question) → compares_histories question ≡ true → AnswersAsMade programs dump question
  answers-as-made (y.bare question) is = absurd (false≢true is)
  answers-as-made (y.history name cond) is = absurd (false≢true is)
  answers-as-made (y.when query) is = absurd (false≢true is)
  answers-as-made (y.diff (y.as_is subject) (y.as_is other) query) is = absurd (false≢true is)
  answers-as-made (y.diff (y.as_is subject) (y.changed changes other) query) is =
      as-made-twice (unmade_refusal dump) (unmade_refusal made) (diff_of (rows_in (asks subject query)) (rows_in (changed changes other query))) unmade
      (side_refusal dump.entries (y.as_is subject) query) (side_refusal dump.entries (y.changed changes other) query)
  answers-as-made (y.diff (y.changed changes other) (y.as_is subject) query) is =
      as-made-twice (unmade_refusal dump) (unmade_refusal made) (diff_of (rows_in (changed changes other query)) (rows_in (asks subject query))) unmade
      (side_refusal dump.entries (y.changed changes other) query) (side_refusal dump.entries (y.as_is subject) query)
  answers-as-made (y.diff (y.changed changes subject) (y.changed others other) query) is = inl refl
  answers-as-made (y.causes subject query) is =
      as-made (unmade_refusal dump) (unmade_refusal made) (causes_of (without_in changed subject query) (committed_writes dump.entries) (rows_in (asks subject query))) unmade
      (asking_refusal dump.entries subject query)
  answers-as-made (y.ask subject query) is = absurd (false≢true is)
  answers-as-made (y.what_if changes subject query) is = absurd (false≢true is)
  answers-as-made (y.explain_saw t k query) is = absurd (false≢true is)

-- the rows of the dump that the log makes are those that its log makes
pub made-unmade : ((rows others : List (Annotated (Unit {0}))) → IsPermutation (identified rows) (identified others) → agree rows others ≡ true)
    → (dump : Dump) → unmade_refusal dump ≡ None → unmade_refusal (replayed_dump dump.entries) ≡ None
made-unmade agrees dump none =
    let parts = none_parts (remaking_refusal dump.entries)
    (differing_refusal (tables_in dump.entries) (versions_in dump.entries) (as_of unannotated (table_spans dump.tables)) (as_of unannotated (table_spans (replayed_dump dump.entries).tables))) none in
    none-unmade agrees (replayed_state unannotated (tables_in dump.entries) dump.entries) (parts.0, refl)
