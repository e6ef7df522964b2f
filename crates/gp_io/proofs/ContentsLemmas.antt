-- Calls one after another over files in memory.
use Rattle.std.proofs.Common.{◌≡◌, ℕ, Bool, true, false, cond, List, [], ◌∷◌, ◌++◌, take, Option, Some, None, refl, sym, ap, ◌∙◌, bytes_eq}
use Rattle.std.specs.Option.{option_map}
use Rattle.std.proofs.lemmas.Slice.Eq.{bytes_eq-Decides}
use Rattle.gp_io.specs.Contents.{Contents, HaveSame, Leads, contents_of, events_of, no_files, replaced_by}
use Rattle.gp_io.specs.Events.{Event, Read, Missing, Unreadable, Stopped, Replaced, NotReplaced}
use Rattle.gp_io.specs.Files.{Files, Replaces, content, prefix_of}

-- calls that begin with files that have the same
pub Leads-from : (old other : Contents) (events : List Event) (new : Contents) → HaveSame old other → Leads old events new → Leads other events new
Leads-from old other [] new same leads = λ name. leads name ∙ sym (same name)
Leads-from old other (Read name most bytes ∷ events) new same leads = (ap (option_map (take most)) (same name) ∙ leads.0, Leads-from old other events new same leads.1)
Leads-from old other (Missing name ∷ events) new same leads = (same name ∙ leads.0, Leads-from old other events new same leads.1)
Leads-from old other (Unreadable name ∷ events) new same leads = Leads-from old other events new same leads
Leads-from old other (Stopped name ∷ events) new same leads = Leads-from old other events new same leads
Leads-from old other (Replaced name bytes ∷ events) new same leads =
    Leads-from (replaced_by name bytes old) (replaced_by name bytes other) events new
    (λ also. ap (λ (held : Option (List ℕ)). cond (bytes_eq name also) (Some bytes) held) (same also)) leads
Leads-from old other (NotReplaced name bytes ∷ events) new same leads = Leads-from old other events new same leads

-- calls after calls
pub Leads-then : (old middle new : Contents) (first second : List Event) → Leads old first middle → Leads middle second new → Leads old (first ++ second) new
Leads-then old middle new [] second leads later = Leads-from middle old second new (λ name. sym (leads name)) later
Leads-then old middle new (Read name most bytes ∷ first) second leads later = (leads.0, Leads-then old middle new first second leads.1 later)
Leads-then old middle new (Missing name ∷ first) second leads later = (leads.0, Leads-then old middle new first second leads.1 later)
Leads-then old middle new (Unreadable name ∷ first) second leads later = Leads-then old middle new first second leads later
Leads-then old middle new (Stopped name ∷ first) second leads later = Leads-then old middle new first second leads later
Leads-then old middle new (Replaced name bytes ∷ first) second leads later = Leads-then (replaced_by name bytes old) middle new first second leads later
Leads-then old middle new (NotReplaced name bytes ∷ first) second leads later = Leads-then old middle new first second leads later

-- the last of calls, where the first ones led here
pub Leads-after : (start old new : Contents) (before events : List Event) → Leads start before old → Leads start (before ++ events) new → Leads old events new
Leads-after start old new [] events leads all = Leads-from start old events new leads all
Leads-after start old new (Read name most bytes ∷ before) events leads all = Leads-after start old new before events leads.1 all.1
Leads-after start old new (Missing name ∷ before) events leads all = Leads-after start old new before events leads.1 all.1
Leads-after start old new (Unreadable name ∷ before) events leads all = Leads-after start old new before events leads all
Leads-after start old new (Stopped name ∷ before) events leads all = Leads-after start old new before events leads all
Leads-after start old new (Replaced name bytes ∷ before) events leads all = Leads-after (replaced_by name bytes start) old new before events leads all
Leads-after start old new (NotReplaced name bytes ∷ before) events leads all = Leads-after start old new before events leads all

-- what a file of any name has after one was replaced, by whether it is that one
replaced-has : (name bytes other : List ℕ) (old new : Files) → Replaces name bytes old new → (same : Bool) → bytes_eq name other ≡ same → content other new ≡ cond same (Some bytes) (content other old)
replaced-has name bytes other old new done true is = ap (λ (n : List ℕ). content n new) (sym ((bytes_eq-Decides name other).0 is)) ∙ done.this
replaced-has name bytes other old new done false is =
    done.others other (λ same. let no : true ≡ false = sym ((bytes_eq-Decides name other).1 (sym same)) ∙ is in cc)

-- a file of which no prefix is there is not there
no-content : (most : ℕ) (held : Option (List ℕ)) → option_map (take most) held ≡ None → held ≡ None
no-content most None is = refl
no-content most (Some bytes) is = absurd (let no : Some (take most bytes) ≡ None = is in cc)

pub nothing-there : (name : List ℕ) (most : ℕ) (files : Files) → prefix_of name most files ≡ None → content name files ≡ None
nothing-there name most files is = no-content most (content name files) is

-- ---- one call more, of a shelf that began with no files

-- the files with which it begins
pub Leads-made : (files : Files) → Leads no_files (events_of files) (contents_of files)
Leads-made [] = λ name. refl
Leads-made (file ∷ files) =
    Leads-then no_files (contents_of files) (contents_of (file ∷ files)) (events_of files) (Replaced file.0 file.1 ∷ []) (Leads-made files) (λ name. refl)

module _ (events : List Event) (files : Files) (leads : Leads no_files events (contents_of files)) where
  pub Leads-read : (name : List ℕ) (most : ℕ) (bytes : List ℕ) → prefix_of name most files ≡ Some bytes → Leads no_files (events ++ Read name most bytes ∷ []) (contents_of files)
  Leads-read name most bytes is = Leads-then no_files (contents_of files) (contents_of files) events (Read name most bytes ∷ []) leads (is, λ other. refl)

  pub Leads-missing : (name : List ℕ) → content name files ≡ None → Leads no_files (events ++ Missing name ∷ []) (contents_of files)
  Leads-missing name is = Leads-then no_files (contents_of files) (contents_of files) events (Missing name ∷ []) leads (is, λ other. refl)

  pub Leads-unreadable : (name : List ℕ) → Leads no_files (events ++ Unreadable name ∷ []) (contents_of files)
  Leads-unreadable name = Leads-then no_files (contents_of files) (contents_of files) events (Unreadable name ∷ []) leads (λ other. refl)

  pub Leads-stopped : (name : List ℕ) → Leads no_files (events ++ Stopped name ∷ []) (contents_of files)
  Leads-stopped name = Leads-then no_files (contents_of files) (contents_of files) events (Stopped name ∷ []) leads (λ other. refl)

  pub Leads-not_replaced : (name bytes : List ℕ) → Leads no_files (events ++ NotReplaced name bytes ∷ []) (contents_of files)
  Leads-not_replaced name bytes = Leads-then no_files (contents_of files) (contents_of files) events (NotReplaced name bytes ∷ []) leads (λ other. refl)

  pub Leads-replaced : (name bytes : List ℕ) (new : Files) → Replaces name bytes files new → Leads no_files (events ++ Replaced name bytes ∷ []) (contents_of new)
  Leads-replaced name bytes new done =
      Leads-then no_files (contents_of files) (contents_of new) events (Replaced name bytes ∷ []) leads
      (λ other. replaced-has name bytes other files new done (bytes_eq name other) refl)
