-- Machinery: how Rattle stores what the engine keeps. Identities hold themselves, so the codes of their rows are named here.
use Rattle.std.specs.Prelude.{List, Option, refl}
use Rattle.std.specs.Coded.{Coded, code_by, coded×, coded_list, coded_option}
use Rattle.gp_log.specs.LogCode.{logged_code}
use Rattle.gp_log.specs.Logs.{Logged}
use Rattle.gp_versions.specs.SpanCodes.{versions_code}
use Rattle.gp_versions.specs.Spans.{Versions}
use Rattle.gp_engine.specs.Engine.{Engine}
use Rattle.gp_engine.specs.contracts.running.Running as running
use Rattle.gp_engine.specs.declared.running.Running.{Running}

abbrev pub engine_code : Coded Engine
engine_code =
    code_by (Logged × (List Versions × List (Option Running)))
    (coded× logged_code (coded× (coded_list versions_code) (coded_list (coded_option running.the_row.coded))))
    (λ e. (e.log, (e.versions, e.sessions)))
    (λ p. record { log = p.0; versions = p.1.0; sessions = p.1.1 })
    (λ _. refl)
