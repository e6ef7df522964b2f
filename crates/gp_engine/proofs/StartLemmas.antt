-- The engine before the first line.
use Rattle.std.proofs.Common.{◌≡◌, ℕ, zero, suc, List, [], length, Option, None, get_or, refl, ap, sym, subst, arith}
use Rattle.std.specs.Option.{option_map}
use Rattle.gp_grammar.specs.declared.limits.TheConstants.{MAX_SESSION}
use Rattle.gp_versions.specs.Spans.{Versions}
use Rattle.gp_txn.specs.Counts.{count_spans}
use Rattle.gp_machine.specs.Entries.{Entry, statements_in, transactions_in, versions_in}
use Rattle.gp_machine.specs.Represents.{RepresentsSession}
use Rattle.gp_machine.specs.State.{start}
use Rattle.gp_log.specs.LogFacts.{tables_in}
use Rattle.gp_log.specs.Logs.{log_view}
use Rattle.gp_engine.specs.Engine.{Engine, IsEngine, IsEngineOf, IsSound, overlay_of, session_at, spans_of}
use Rattle.gp_engine.specs.declared.running.Running.{Running}
use Rattle.gp_engine.proofs.SessionLemmas.{count-none}

no-session : (sessions : List (Option Running)) → ((place : ℕ) → get_or sessions place None ≡ None) → (session : ℕ) → session_at session sessions ≡ None
no-session sessions none zero = refl
no-session sessions none (suc place) = none place

pub new_engine : (engine : Engine) → engine.log.entries ≡ [] → engine.versions ≡ [] → ((place : ℕ) → get_or engine.sessions place None ≡ None) → IsEngineOf engine (start {M = Unit {0}})
new_engine engine entries versions sessions = record {
  lines = [];
  reached = refl;
  kept = record {
    catalogue = λ i. tables_in (log_view (entries i));
    entries = λ i. log_view (entries i);
    versions = λ i. versions_in (log_view (entries i));
    transactions = λ i. transactions_in (log_view (entries i));
    statements = λ i. statements_in (log_view (entries i));
    rows = λ i. count_spans (versions i) (length (tables_in (log_view (entries i))));
    spans = λ place. ap (λ vs. spans_of vs place) versions;
    sessions = λ session. subst (λ (r : Option Running). RepresentsSession (spans_of engine.versions) [] (option_map (overlay_of (spans_of engine.versions)) r) None) (sym (no-session engine.sessions sessions session)) tt;
  };
}

-- ---- the invariant

nothing-sound : (sessions : List (Option Running)) → ((place : ℕ) → get_or sessions place None ≡ None) → length sessions ≡ MAX_SESSION → IsSound [] [] sessions
nothing-sound sessions none places = record {
  valid = refl;
  tables = refl;
  few = omega arith;
  places = places;
  transactions = omega arith;
  statements = omega arith;
  numbers = λ t above. refl;
  unended = omega (arith, count-none sessions none);
  below = λ place. tt;
  makers = λ place. tt;
  each = λ session running at. let nothing = no-session sessions none session in absurd cc;
  apart = λ session other a b first second. let nothing = no-session sessions none session in absurd cc;
}

pub new_sound : (engine : Engine) → engine.log.entries ≡ [] → engine.versions ≡ [] → ((place : ℕ) → get_or engine.sessions place None ≡ None) → length engine.sessions ≡ MAX_SESSION
    → IsEngine engine
new_sound engine entries versions none places =
    subst (λ (x : List Entry × List Versions). IsSound x.0 x.1 engine.sessions) (λ i. (log_view (sym entries i), sym versions i)) (nothing-sound engine.sessions none places)
