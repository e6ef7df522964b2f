-- Machinery: what questions about a dump leave for later ones: annotations of its row versions, with monomials, and with the elements of semirings by rules.
use Rattle.std.specs.Prelude.{◌≡◌, ℕ, Bool, true, false, List, Option, Some, None, Result, Ok, Err}
use Rattle.gp_base.specs.Annotated.{Annotations, monomials}
use Rattle.gp_base.specs.declared.refusal.Refusal.{Refusal}
use Rattle.gp_dump.specs.Views.{dump_view}
use Rattle.gp_dump.specs.declared.dump.Dump.{Dump}
use Rattle.gp_history.specs.Keeping.{MayBeKept}
use Rattle.gp_history.specs.declared.kept.Kept.{Kept}
use Rattle.gp_kexec.specs.Valuing.{values_by}
use Rattle.gp_grammar.specs.Syntax as y
use Rattle.gp_log.specs.Logs.{log_view}
use Rattle.gp_log.specs.Parameters.{parameters}
use Rattle.gp_machine.specs.Entries.{Entry, versions_in}
use Rattle.gp_reenact.specs.Reenacting.{spans_of}
use Rattle.gp_semiring.specs.declared.rules.Rule.{Rule}
use Rattle.gp_syntax.specs.Views.{changes_view}
use Rattle.gp_whatif.specs.Changed.{changed_log}
use Rattle.gp_whatif.specs.Replays.{IsMade}
use Rattle.gp_ask.specs.declared.keeping.DumpAnnotations.{DumpAnnotations}
use Rattle.gp_ask.specs.declared.keeping.KeptAnnotations.{KeptAnnotations}
use Rattle.gp_ask.specs.declared.keeping.KeptHistory.{KeptHistory}
use Rattle.gp_ask.specs.declared.keeping.KeptValues.{KeptValues}
use Rattle.gp_ask.specs.Hypothetical.{remaking_refusal}
use Rattle.gp_ask.specs.Made.{unmade_refusal}
use Rattle.gp_ask.specs.MadeForms.{HasMadeVersions}
use Rattle.gp_ask.specs.Operations as v
use Rattle.gp_ask.specs.Operations.{Operations}

-- what the elements of a semiring are by rules
abbrev pub elements_by : (semiring : Operations) → List Rule × Option ℕ → Annotations semiring.Element
elements_by semiring rules = values_by semiring.one_of semiring.times_of semiring.number_of semiring.itself_of rules

-- annotations of the row versions of this dump, if there are any
abbrev pub MayBeKeptOf : {M : Type 0} → Annotations M → Dump → Option (Kept M) → Type 0
MayBeKeptOf domain dump kept = MayBeKept domain (log_view dump.log.entries) (spans_of dump.versions) kept

-- values by their own rules, if there are any
abbrev pub MayBeKeptBy : {K : Type 0} → (List Rule × Option ℕ → Annotations K) → Dump → Option (KeptValues K) → Type 0
MayBeKeptBy domain dump None = Unit {0}
MayBeKeptBy domain dump (Some values) = MayBeKeptOf (domain (values.rules.rules, values.rules.other)) dump (Some values.kept)

-- whether the row versions are those that the log makes, in whatever order, once nothing was found to tell the rows apart
abbrev pub IsFound : Dump → Option Bool → Type 0
IsFound dump None = Unit {0}
IsFound dump (Some is_made) = (unmade_refusal (dump_view dump) ≡ None) × (is_made ≡ true → HasMadeVersions (dump_view dump))

pub record AreAnnotations (dump : Dump) (kept : DumpAnnotations) : Type 0 where
  pub monomials : MayBeKeptOf monomials dump kept.monomials
  pub count : MayBeKeptBy (elements_by v.count) dump kept.count
  pub truth : MayBeKeptBy (elements_by v.truth) dump kept.bool
  pub cost : MayBeKeptBy (elements_by v.cost) dump kept.cost
  pub level : MayBeKeptBy (elements_by v.level) dump kept.level
  pub polynomial : MayBeKeptBy (elements_by v.polynomial) dump kept.poly
  pub witness : MayBeKeptBy (elements_by v.witness) dump kept.witness
  pub without : MayBeKeptBy (elements_by v.count) dump kept.without

-- the dump that the log of a dump makes with changes, without a stop, and its annotations
pub record HasChanges (dump : Dump) (changes : List y.LogChange) (own : KeptHistory) : Type 0 where
  pub same : changes_view own.changes ≡ changes
  pub log : changed_log parameters (dump_view dump).entries changes ≡ Ok (dump_view own.dump).entries
  pub made : IsMade (dump_view own.dump).entries (versions_in (dump_view own.dump).entries) own.dump.versions
  pub annotations : AreAnnotations own.dump own.annotations

-- the history with these changes, if there is one
abbrev pub MayHaveChanges : Dump → List y.LogChange → Option KeptHistory → Type 0
MayHaveChanges dump changes None = Unit {0}
MayHaveChanges dump changes (Some own) = HasChanges dump changes own

-- a history with its own changes, if there is one
abbrev pub MayBeChanged : Dump → Option KeptHistory → Type 0
MayBeChanged dump None = Unit {0}
MayBeChanged dump (Some own) = HasChanges dump (changes_view own.changes) own

-- the dump that a log makes, or the refusal of its first commit that cannot be made again
abbrev pub Remakes : List Entry → Result Dump Refusal → Type 0
Remakes entries (Ok dump) = ((dump_view dump).entries ≡ entries) × IsMade (dump_view dump).entries (versions_in (dump_view dump).entries) dump.versions
Remakes entries (Err refusal) = remaking_refusal entries ≡ Some refusal

-- a question that needs no rows
abbrev pub is_explained : y.Subject → Bool
is_explained (y.of_state (y.explain prov) point) = true
is_explained subject = false

pub record AreKept (dump : Dump) (kept : KeptAnnotations) : Type 0 where
  pub own : AreAnnotations dump kept.own
  pub is_made : IsFound dump kept.is_made
  pub changed : MayBeChanged dump kept.changed
