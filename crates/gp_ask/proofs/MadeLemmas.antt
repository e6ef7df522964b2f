-- The rows of the dump of a history are those that its log makes: its commits, made again, do not stop, and lead to this dump.
use Rattle.std.proofs.Common.{◌≡◌, ℕ, zero, suc, true, cond, List, [], ◌∷◌, ◌++◌, length, Some, None, refl, ap, ◌∙◌}
use Rattle.std.specs.List.Sorted.{IsPermutation}
use Rattle.std.proofs.lemmas.List.Sorted.{IsPermutation-refl}
use Rattle.std.specs.Option.{option_map, option_or}
use Rattle.gp_base.specs.declared.refusal.Refusal.TheVariants.{E24}
use Rattle.gp_base.specs.declared.table.Table.{Table}
use Rattle.gp_base.specs.Annotated.{Annotated, Database, Environment, unannotated}
use Rattle.gp_versions.specs.declared.span.Span.{Span}
use Rattle.gp_machine.specs.Entries.{log_of, versions_in}
use Rattle.gp_machine.specs.Event.{name_at}
use Rattle.gp_machine.specs.HistorySpans.{as_of, state_spans}
use Rattle.gp_machine.specs.QuestionForms.{identified}
use Rattle.gp_machine.specs.Questions.{difference_refusal}
use Rattle.gp_machine.specs.Replayed.{replayed_state}
use Rattle.gp_machine.specs.ReplayForms.{replayed_spans}
use Rattle.gp_machine.specs.State.{State}
use Rattle.gp_log.specs.LogFacts.{tables_in}
use Rattle.gp_log.specs.Parameters.{parameters}
use Rattle.gp_dump.specs.Dumps.{Dump, dump_of, spans_in_order}
use Rattle.gp_dump.specs.WholeDumps.{dump_with}
use Rattle.gp_history.specs.Agreement.{agree}
use Rattle.gp_whatif.specs.Replays.{stop_upto}
use Rattle.gp_ask.specs.Asking.{table_spans}
use Rattle.gp_ask.specs.Hypothetical.{remaking_refusal, replay_refusal, replayed_dump}
use Rattle.gp_ask.specs.Made.{differing_refusal, unmade_refusal, version_refusal}

abbrev pub IsRemade : State (Unit {0}) → Type 0
IsRemade state = (remaking_refusal state.entries ≡ None) × (replayed_dump state.entries ≡ dump_of state)

module _ (one other : State (Unit {0})) (same : (place : ℕ) → state_spans one place ≡ state_spans other place) where
  spans-same : (count : ℕ) → spans_in_order one count ≡ spans_in_order other count
  spans-same zero = refl
  spans-same (suc count) =
      ap (λ (before : List (List Span)). before ++ state_spans one count ∷ []) (spans-same count)
      ∙ ap (λ (own : List Span). spans_in_order other count ++ own ∷ []) (same count)

pub is-remade : (state : State (Unit {0})) → tables_in state.entries ≡ state.catalogue → stop_upto state.entries (versions_in state.entries) ≡ None
    → ((place : ℕ) → replayed_spans unannotated (log_of state.entries) (length (tables_in state.entries)) (versions_in state.entries) place ≡ state_spans state place) → IsRemade state
is-remade state tables none spans = (
  ap (option_map (replay_refusal state.entries)) none,
  ap (λ (own : List Table). dump_with state.entries (spans_in_order (replayed_state unannotated (tables_in state.entries) state.entries) (length own))) tables
      ∙ ap (dump_with state.entries) (spans-same (replayed_state unannotated (tables_in state.entries) state.entries) state spans (length state.catalogue)),
)

-- what is the same is not refused
module _ (agrees : (rows others : List (Annotated (Unit {0}))) → IsPermutation (identified rows) (identified others) → agree rows others ≡ true) (tables : List Table) where
  tables-same : (version count : ℕ) (db : Database (Unit {0})) → difference_refusal unannotated parameters agree tables version count db db ≡ None
  tables-same version zero db = refl
  tables-same version (suc table) db =
      ap (λ found. option_or found (cond (agree (db table) (db table)) None (Some (E24 version (name_at table tables))))) (tables-same version table db)
      ∙ ap (λ b. cond b None (Some (E24 version (name_at table tables)))) (agrees (db table) (db table) (IsPermutation-refl (identified (db table))))

  versions-same : (versions : ℕ) (env : Environment (Unit {0})) → differing_refusal tables versions env env ≡ None
  versions-same zero env = refl
  versions-same (suc version) env =
      ap (λ found. option_or found (version_refusal tables (suc version) (env (suc version)) (env (suc version)))) (versions-same version env)
      ∙ tables-same (suc version) (length tables) (env (suc version))

pub none-unmade : ((rows others : List (Annotated (Unit {0}))) → IsPermutation (identified rows) (identified others) → agree rows others ≡ true)
    → (state : State (Unit {0})) → IsRemade state → unmade_refusal (dump_of state) ≡ None
none-unmade agrees state is =
    let dump : Dump = dump_of state in
    let tables : List Table = tables_in state.entries in
    let own : Environment (Unit {0}) = as_of unannotated (table_spans dump.tables) in
    ap (λ found. option_or found (differing_refusal tables (versions_in state.entries) own (as_of unannotated (table_spans (replayed_dump state.entries).tables)))) is.0
    ∙ ap (λ (other : Dump). differing_refusal tables (versions_in state.entries) own (as_of unannotated (table_spans other.tables))) is.1
    ∙ versions-same agrees tables (versions_in state.entries) own
