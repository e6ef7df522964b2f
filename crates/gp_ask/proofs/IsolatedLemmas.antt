-- The history that the commits of a log, made again, lead to is isolated: a transaction read what its statements leave of the versions that they read.
use Rattle.std.proofs.Common.{◌≡◌, suc, List, Option, Some, None, refl, arith}
use Rattle.std.specs.Option.{option_map}
use Rattle.gp_base.proofs.SmallLemmas.{some_none}
use Rattle.gp_base.specs.Annotated.{monomials}
use Rattle.gp_base.specs.Tokens.{Monomial}
use Rattle.gp_log.proofs.KeptSessions.{maker_version, rising}
use Rattle.gp_log.specs.LogFacts.{tables_in}
use Rattle.gp_log.specs.Sessions.{KeepsSessions}
use Rattle.gp_machine.specs.Entries.{Entry, log_of, version_of, versions_in}
use Rattle.gp_machine.specs.Histories.{IsHistory}
use Rattle.gp_machine.specs.Replayed.{replayed_state}
use Rattle.gp_machine.specs.Replaying.{ReplayStop}
use Rattle.gp_machine.specs.State.{State}
use Rattle.gp_whatif.specs.Replays.{stop_upto}
use Rattle.gp_ask.specs.Hypothetical.{remaking_refusal, replay_refusal}
use Rattle.gp_ask.specs.Isolated.{IsIsolated}
use Rattle.gp_ask.proofs.TransactionRuns.{own-runs, reads-within}

-- where no commit is refused, none stops
pub unstopped-by : (entries : List Entry) → remaking_refusal entries ≡ None → stop_upto entries (versions_in entries) ≡ None
unstopped-by entries = by (stop_upto entries (versions_in entries)) refl
  where
    by : (stop : Option ReplayStop) → stop_upto entries (versions_in entries) ≡ stop → option_map (replay_refusal entries) stop ≡ None → stop_upto entries (versions_in entries) ≡ None
    by None is none = is
    by (Some stop) is none = absurd (some_none (replay_refusal entries stop) none)

module _ (entries : List Entry) (sessions : KeepsSessions entries) where
  abbrev remade : State Monomial
  remade = replayed_state monomials (tables_in entries) entries

  pub remade-isolated : IsHistory monomials (log_of entries) remade.committed remade.written → IsIsolated remade
  remade-isolated history = record {
    history = history;
    reads = λ t k some known within.
        let bound = reads-within monomials remade history (maker_version entries sessions) t (version_of t entries) refl in
        own-runs monomials remade history t bound.0 (λ j below. rising entries sessions t j (suc j) (omega arith) (omega (arith, below))) bound.1 k within;
  }
