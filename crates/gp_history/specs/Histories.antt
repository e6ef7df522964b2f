-- Machinery: what contracts say of a log and its row versions, in the values that the code has.
use Rattle.std.specs.Prelude.{ℕ, List, Option, Result, length}
use Rattle.std.specs.BTreeMap.{BTreeMap}
use Rattle.gp_base.specs.declared.cell.Cell.{Cell}
use Rattle.gp_base.specs.declared.refusal.Refusal.{Refusal}
use Rattle.gp_base.specs.declared.token.Token.{Token}
use Rattle.gp_base.specs.Annotated.{Annotated, Annotations, Environment, monomials}
use Rattle.gp_base.specs.Identities.{Identity}
use Rattle.gp_base.specs.Tokens.{Monomial}
use Rattle.gp_grammar.specs.Syntax as y
use Rattle.gp_algebra.specs.AnnotatedQueries.{Program}
use Rattle.gp_algebra.specs.Answers.{Element}
use Rattle.gp_algebra.specs.Statements.{Select}
use Rattle.gp_exec.specs.declared.error.ExecStop.{ExecStop}
use Rattle.gp_log.specs.Contents.{entries, tables}
use Rattle.gp_log.specs.Logs.{Logged}
use Rattle.gp_log.specs.Parameters.{parameters}
use Rattle.gp_machine.specs.Entries.{log_of}
use Rattle.gp_machine.specs.Questions as q
use Rattle.gp_reenact.specs.Reenacting.{spans_of}
use Rattle.gp_versions.specs.declared.span.Span.{Span}
use Rattle.gp_versions.specs.Spans.{Versions}
use Rattle.gp_history.specs.Agreement.{agree}
use Rattle.gp_history.specs.Changes as c
use Rattle.gp_history.specs.Keeping as k
use Rattle.gp_history.specs.Narrowing as n
use Rattle.gp_history.specs.Sound as s
use Rattle.gp_history.specs.SpanAnnotations as a
use Rattle.gp_history.specs.ValueForms as v
use Rattle.gp_history.specs.declared.error.HistoryStop.{HistoryStop}
use Rattle.gp_history.specs.declared.kept.Kept.{Kept}
use Rattle.gp_history.specs.declared.narrowed.Narrowed.{Narrowed}
use Rattle.gp_history.specs.declared.narrowed.Reach.{Reach}

-- ---- a log

-- the transaction that makes the version after this one, and the program of a table that it publishes
abbrev pub maker : Logged → ℕ → ℕ
maker log before = c.maker (log_of (entries log)) before

abbrev pub maker_program : Logged → ℕ → ℕ → Program
maker_program log before table = c.maker_program (entries log) before table

-- the versions that it reads and makes
abbrev pub Covers : Logged → ℕ → ℕ → Reach → Type 0
Covers log t before reach = n.Covers (log_of (entries log)) t before reach

-- the last version whose annotations a question needs
abbrev pub needed_version : Logged → y.Point → ℕ
needed_version log point = q.needed_version (entries log) point

-- ---- a log with its row versions

abbrev pub IsSound : Logged → List Versions → Type 0
IsSound log versions = s.IsSound (entries log) versions

-- the answer to a question for provenance
abbrev pub provenance_answer : Logged → List Versions → y.Point → Select → Result (List (Element Monomial)) Refusal
provenance_answer log versions point query = q.annotated_answer monomials parameters agree (tables log) (entries log) (spans_of versions) point query

-- and to one for values, by the sums, products and tokens of their semiring
abbrev pub value_answer : {K : Type 0} → (K → K → K) → K → K → (K → K → K) → (Token → K) → Logged → List Versions → y.Point → Select → Result (List (List Cell × K)) Refusal
value_answer plus zero one times value log versions point query =
    v.value_answer parameters plus zero one times value agree (tables log) (entries log) (spans_of versions) point query

-- the row versions that matter to a commit
abbrev pub IsNarrow : {M : Type 0} → Logged → List Versions → ℕ → ℕ → List (List M) → Narrowed M → Type 0
IsNarrow log versions t before known narrowed = n.IsNarrow (log_of (entries log)) t before (spans_of versions) known narrowed

module _ {M : Type 0} (domain : Annotations M) (log : Logged) (versions : List Versions) where
  -- the annotations of the versions up to one, and why there are none
  abbrev pub AreAnnotated : ℕ → List (List M) → Type 0
  AreAnnotated version known = a.AreAnnotated domain (log_of (entries log)) (spans_of versions) version known

  abbrev pub annotation_stop : ℕ → Option Refusal
  annotation_stop version = q.annotation_stop domain parameters agree (tables log) (log_of (entries log)) (spans_of versions) version

  -- those that are kept from one question to the next
  abbrev pub IsKept : Kept M → Type 0
  IsKept kept = k.IsKept domain (entries log) (spans_of versions) kept

  abbrev pub MayBeKept : Option (Kept M) → Type 0
  MayBeKept kept = k.MayBeKept domain (entries log) (spans_of versions) kept

  abbrev pub Reaches : ℕ → Kept M → Type 0
  Reaches version kept = k.Reaches domain (entries log) (spans_of versions) version kept

  abbrev pub GoesOn : ℕ → Kept M → Type 0
  GoesOn before kept = k.GoesOn domain (entries log) (spans_of versions) before kept

  module _ (before : ℕ) where
    -- the commit that makes the version after this one: what it reads and publishes, what it changes, and why it stops
    abbrev pub past_of : (ℕ → List Span) → Environment M
    past_of few = c.past_of domain (log_of (entries log)) (spans_of versions) before few

    abbrev pub Publishes : {X : Type 0} → (ℕ → List Span) → ℕ → (X → List (Annotated M)) → ℕ → Result X ExecStop → Type 0
    Publishes few most view table result = c.Publishes domain (log_of (entries log)) (spans_of versions) before few most view table result

    abbrev pub ChangesTable : ℕ → Result (Option (BTreeMap Identity M)) HistoryStop → Type 0
    ChangesTable table result = c.ChangesTable domain (log_of (entries log)) (spans_of versions) before table result

    abbrev pub AreChanges : List (Option (BTreeMap Identity M)) → Type 0
    AreChanges changes = c.AreChanges domain (log_of (entries log)) (spans_of versions) before (length (tables log)) changes

    abbrev pub commit_stop : Option Refusal
    commit_stop = c.commit_stop domain (log_of (entries log)) (spans_of versions) before (tables log)
