-- Machinery: annotations that are kept from one question to the next: those of a log and its row versions, up to a version before which nothing stops.
use Rattle.std.specs.Prelude.{◌≡◌, ◌≤◌, ℕ, suc, List, Option, Some, None}
use Rattle.gp_base.specs.Annotated.{Annotations}
use Rattle.gp_log.specs.LogFacts.{tables_in}
use Rattle.gp_log.specs.Parameters.{parameters}
use Rattle.gp_machine.specs.Entries.{Entry, log_of, versions_in}
use Rattle.gp_machine.specs.Questions.{annotation_stop}
use Rattle.gp_versions.specs.declared.span.Span.{Span}
use Rattle.gp_history.specs.Agreement.{agree}
use Rattle.gp_history.specs.Seeking.{AreFinders}
use Rattle.gp_history.specs.SpanAnnotations.{AreAnnotated}
use Rattle.gp_history.specs.declared.kept.Kept.{Kept}

module _ {M : Type 0} (domain : Annotations M) (entries : List Entry) (spans : ℕ → List Span) where
  pub record IsKept (kept : Kept M) : Type 0 where
    pub within : kept.version ≤ versions_in entries
    pub annotated : AreAnnotated domain (log_of entries) spans kept.version kept.annotated
    pub unstopped : annotation_stop domain parameters agree (tables_in entries) (log_of entries) spans kept.version ≡ None
    pub finders : AreFinders spans kept.finders.items

  abbrev pub MayBeKept : Option (Kept M) → Type 0
  MayBeKept None = Unit {0}
  MayBeKept (Some kept) = IsKept kept

  -- and they go up to this version at least
  abbrev pub Reaches : ℕ → Kept M → Type 0
  Reaches v kept = IsKept kept × (v ≤ kept.version)

  -- and up to the one after this
  abbrev pub GoesOn : ℕ → Kept M → Type 0
  GoesOn before kept = IsKept kept × (kept.version ≡ suc before)
