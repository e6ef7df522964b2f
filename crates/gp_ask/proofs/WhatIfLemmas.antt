-- What the parts of an answer to a question about a change come to, by what was found.
use Rattle.std.proofs.Common.{◌≡◌, ℕ, Bool, List, [], ◌∷◌, length, map, Option, Some, None, Result, Ok, IfOk, refl, sym, ap, ◌∙◌, subst, arith}
use Rattle.std.specs.List.Sorted.{IsPermutation}
use Rattle.std.proofs.lemmas.List.Sorted.{IsPermutation-refl}
use Rattle.std.specs.Option.{option_map, option_or}
use Rattle.std.specs.Result.{result_err, result_unwrap_or}
use Rattle.gp_base.specs.declared.refusal.Refusal.{Refusal}
use Rattle.gp_algebra.specs.Statements.{Select}
use Rattle.gp_base.specs.Annotated.{unannotated}
use Rattle.gp_base.specs.Identities.{Identity}
use Rattle.gp_algebra.specs.Effects.{Written}
use Rattle.gp_machine.specs.Bases.{Based}
use Rattle.gp_machine.specs.Conflicts.{Conflict, least_conflict}
use Rattle.gp_machine.specs.ConflictForms.{IsLeastConflict}
use Rattle.gp_machine.specs.Entries.{Began, Committed, Created, Ended, Entry, Ran, log_of, versions_in}
use Rattle.gp_machine.specs.Questions.{log_refusal}
use Rattle.gp_machine.specs.Replaying.{Loses, ReplayStop}
use Rattle.gp_machine.specs.ReplayForms.{replayed_spans}
use Rattle.gp_grammar.specs.Syntax as y
use Rattle.gp_syntax.specs.declared.question.Point.{Point}
use Rattle.gp_syntax.specs.declared.question.Subject.{Subject}
use Rattle.gp_syntax.specs.declared.question.Subject.TheVariants as asked_of
use Rattle.gp_syntax.specs.declared.question.How.{How}
use Rattle.gp_syntax.specs.declared.question.How.TheVariants as how_is
use Rattle.gp_syntax.specs.Views.{subject_view}
use Rattle.gp_log.specs.Parameters.{parameters}
use Rattle.gp_log.specs.LogFacts.{tables_in}
use Rattle.gp_versions.specs.declared.span.Span.{Span}
use Rattle.gp_versions.specs.Spans.{Versions}
use Rattle.gp_whatif.specs.Changed.{changed_log, spread}
use Rattle.gp_whatif.specs.Replays.{IsMade, IsReplayable, stop_upto}
use Rattle.gp_dump.specs.Views.{tables_view}
use Rattle.gp_ask.specs.declared.answered.Answered.{Answered}
use Rattle.gp_ask.specs.Computed.{computed_answer, what_if_answer}
use Rattle.gp_ask.specs.Asking.{asked, table_spans}
use Rattle.gp_ask.specs.Printed.{changed_answer, query_to, remade_answer}
use Rattle.gp_ask.specs.ExplainedTexts.{ExplainsAsk, ExplainsQuestion}
use Rattle.gp_ask.specs.Hypothetical.{asking_refusal, remaking_refusal, replay_refusal, replayed_dump}
use Rattle.gp_ask.specs.Values.{unless_refused}
use Rattle.gp_ask.specs.Replays.{dump_in}
use Rattle.gp_ask.proofs.FittingReplays.{replay_spans}
use Rattle.gp_ask.proofs.StopLemmas.{IsLost, lost_is}

-- the refusal of a query that was checked, after that of its state
pub asked_refusal : (first : Option Refusal) (checked : Result Select Refusal) (own : Option Refusal) (expected : Result Select Refusal) → asked first checked ≡ expected
    → option_or first (option_or (result_err checked) own) ≡ option_or (result_err expected) own
asked_refusal (Some refusal) checked own expected is = ap (λ found. option_or (result_err found) own) is
asked_refusal None checked own expected is = ap (λ found. option_or (result_err found) own) is

module _ (entries : List Entry) (is : IsReplayable entries) (version other table : ℕ) (id : Identity)
    (stops : stop_upto entries (versions_in entries) ≡ Some (Loses version (record { pair = record { table = table; identity = id }; version = other })))
    (least : (written : ℕ → List Written) (versions : ℕ) (all : List Based) (conflict : Conflict) → least_conflict written versions all ≡ Some conflict → IsLeastConflict written versions all conflict) where
  pub lost_at : IsLost entries (versions_in entries) version (record { pair = record { table = table; identity = id }; version = other })
  lost_at = lost_is entries is.fits least (versions_in entries) version _ stops

-- the refusal of the first commit that stops, and none where no commit does
pub remaking_is : (entries : List Entry) (stop : Option ReplayStop) → stop_upto entries (versions_in entries) ≡ stop → remaking_refusal entries ≡ option_map (replay_refusal entries) stop
remaking_is entries stop is = ap (option_map (replay_refusal entries)) is

pub none_refused : (refusal : Option Refusal) (answered : Answered) → refusal ≡ None → unless_refused refusal answered ≡ answered
none_refused refusal answered is = ap (λ (r : Option Refusal). unless_refused r answered) is

-- what is answered over the commits made again, where none stops
module _ (entries : List Entry) (is : IsReplayable entries) (versions : List Versions) (made : IsMade entries (versions_in entries) versions)
    (any : (own : List Entry) → IsReplayable own → stop_upto own (versions_in own) ≡ None → (tables : List (List Span))
    → ((place : ℕ) → IsPermutation (table_spans tables place) (replayed_spans unannotated (log_of own) (length (tables_in own)) (versions_in own) place))
    → (subject : y.Subject) (query : y.Query) → computed_answer (dump_in own tables) (y.ask subject query) ≡ computed_answer (replayed_dump own) (y.ask subject query)) where
  pub replayed_is : (subject : y.Subject) (query : y.Query)
      → query_to (dump_in entries (tables_view versions)) subject query ≡ unless_refused (remaking_refusal entries) (query_to (replayed_dump entries) subject query)
  replayed_is subject query =
      any entries is made.unstopped (tables_view versions)
      (λ place. subst (λ (spans : List Span). IsPermutation (table_spans (tables_view versions) place) spans) (replay_spans entries versions made place) (IsPermutation-refl (table_spans (tables_view versions) place)))
      subject query
      ∙ sym (none_refused (remaking_refusal entries) (query_to (replayed_dump entries) subject query) (remaking_is entries None made.unstopped))

-- a question that is not explained is answered over the commits that are made again
module _ (entries : List Entry) (query : y.Query) where
  pub remade_over : (subject : Subject) → ((prov : Bool) (state : Point) → subject ≡ asked_of.State (how_is.Explain prov) state → ⊥)
      → remade_answer (query_to (replayed_dump entries)) entries (subject_view subject) query
      ≡ unless_refused (asking_refusal entries (subject_view subject) query) (unless_refused (remaking_refusal entries) (query_to (replayed_dump entries) (subject_view subject) query))
  remade_over (asked_of.State how_is.Rows state) other = refl
  remade_over (asked_of.State how_is.Provenance state) other = refl
  remade_over (asked_of.State (how_is.Explain prov) state) other = absurd (other prov state refl)
  remade_over (asked_of.State (how_is.Value semiring rules own) state) other = refl
  remade_over (asked_of.State (how_is.Without rules) state) other = refl
  remade_over (asked_of.Saw t k) other = refl

  pub explains_over : (subject : Subject) → ((prov : Bool) (state : Point) → subject ≡ asked_of.State (how_is.Explain prov) state → ⊥) → ExplainsQuestion entries (y.ask (subject_view subject) query)
  explains_over (asked_of.State how_is.Rows state) other = tt
  explains_over (asked_of.State how_is.Provenance state) other = tt
  explains_over (asked_of.State (how_is.Explain prov) state) other = absurd (other prov state refl)
  explains_over (asked_of.State (how_is.Value semiring rules own) state) other = tt
  explains_over (asked_of.State (how_is.Without rules) state) other = tt
  explains_over (asked_of.Saw t k) other = tt

abbrev how-in : Subject → How → How
how-in (asked_of.State how state) other = how
how-in (asked_of.Saw t k) other = other

-- a state that is not explained, and what a transaction saw
pub not-explained : (subject : Subject) (how : How) (state : Point) → subject ≡ asked_of.State how state → ((prov : Bool) → how ≡ how_is.Explain prov → ⊥)
    → (prov : Bool) (own : Point) → subject ≡ asked_of.State (how_is.Explain prov) own → ⊥
not-explained subject how state is other prov own same = other prov (ap (λ (s : Subject). how-in s how) (sym is ∙ same))

pub seen-not-explained : (subject : Subject) (t k : ℕ) → subject ≡ asked_of.Saw t k → (prov : Bool) (own : Point) → subject ≡ asked_of.State (how_is.Explain prov) own → ⊥
seen-not-explained subject t k is prov own same = let both : asked_of.Saw t k ≡ asked_of.State (how_is.Explain prov) own = sym is ∙ same in absurd cc

-- ---- by the changed log

pub changed_is : (entries : List Entry) (changes : List y.LogChange) (subject : y.Subject) (query : y.Query) (found : Result (List Entry) Refusal) → changed_log parameters entries changes ≡ found
    → what_if_answer entries changes subject query ≡ changed_answer (λ own. query_to (replayed_dump own)) found subject query
changed_is entries changes subject query found is = ap (λ (log : Result (List Entry) Refusal). changed_answer (λ own. query_to (replayed_dump own)) log subject query) is

-- what is said of an explained query is said over the changed log
pub explains_changed : (entries : List Entry) (changes : List y.LogChange) (subject : y.Subject) (query : y.Query) (new : List Entry) → changed_log parameters entries changes ≡ Ok new
    → ExplainsQuestion new (y.ask subject query) → ExplainsQuestion entries (y.what_if changes subject query)
explains_changed entries changes (y.of_state (y.explain prov) point) query new is says =
    subst (λ (log : Result (List Entry) Refusal). IfOk log (λ (own : List Entry). ExplainsAsk own (log_refusal own point) prov point query)) (sym is) says
explains_changed entries changes (y.of_state y.rows point) query new is says = tt
explains_changed entries changes (y.of_state y.provenance point) query new is says = tt
explains_changed entries changes (y.of_state (y.value name rules other) point) query new is says = tt
explains_changed entries changes (y.of_state (y.without patterns) point) query new is says = tt
explains_changed entries changes (y.saw t k) query new is says = tt

-- ---- no change

spread-once : (entry : Entry) → spread 1 entry ≡ entry
spread-once (Created line session table) = ap (λ (n : ℕ). Created n session table) (omega arith)
spread-once (Began line session t level) = ap (λ (n : ℕ). Began n session t level) (omega arith)
spread-once (Ran line session command t statement) = ap (λ (n : ℕ). Ran n session command t statement) (omega arith)
spread-once (Committed line session t) = ap (λ (n : ℕ). Committed n session t) (omega arith)
spread-once (Ended line session end t) = ap (λ (n : ℕ). Ended n session end t) (omega arith)

all-once : (entries : List Entry) → map (spread 1) entries ≡ entries
all-once [] = refl
all-once (entry ∷ entries) = λ i. spread-once entry i ∷ all-once entries i

-- a log without a change is the log
pub unchanged : (entries own : List Entry) → changed_log parameters entries [] ≡ Ok own → own ≡ entries
unchanged entries own is = ap (λ (found : Result (List Entry) Refusal). result_unwrap_or found own) (sym is) ∙ all-once entries
