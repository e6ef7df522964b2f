-- What a change comes to: the refusal of the log, that of the check, or the changed log.
use Rattle.gp_whatif.proofs.Prelude.{◌≡◌, ℕ, List, [], ◌∷◌, map, Option, None, sym, ap, ◌∙◌, subst, Result, Ok, Err, option_or, Refusal, Command, LogChange, Statement, checked, Entry, statement_refusal, transaction_refusal, parameters, Logged, Stop}
use Rattle.gp_grammar.specs.Syntax as y
use Rattle.gp_whatif.specs.Changed.{all_changed, changed, changed_log, lines_for, rewritten, spread, steps_refusal, tables_at_end, tables_before, with_added, with_other}
use Rattle.gp_whatif.specs.Changing.{Changes}
use Rattle.gp_base.specs.declared.stop.Stop.TheVariants.{NoMemory, Refused}

abbrev IsSame : Result (List Entry) Refusal → Result (List Entry) Refusal → Type 0
IsSame one other = one ≡ other

abbrev IsPassed : {A : Type 0} → Result A Refusal → Result A Refusal → Type 0
IsPassed one other = one ≡ other

module _ {A : Type 0} (entries : List Entry) (checks : Result A Refusal) (put : A → List Entry) where
  puts : (one other : Option Refusal) (given : A) → one ≡ None → other ≡ None → IsPassed checks (Ok given) → IsSame (rewritten parameters entries (option_or one other) checks put) (Ok (put given))
  puts one other given none without e =
      ap (λ (o : Option Refusal). rewritten parameters entries (option_or o other) checks put) none
      ∙ (ap (λ (o : Option Refusal). rewritten parameters entries o checks put) without ∙ ap (λ (r : Result A Refusal). rewritten parameters entries None r put) e)

-- a change that neither the log nor the check refuses
module _ (entries : List Entry) (t : ℕ) (known : transaction_refusal t entries ≡ None) where
  pub replaces : (k : ℕ) (command : Command) (statement : Statement) (new : List Entry) → statement_refusal t k entries ≡ None → IsPassed (checked (tables_before t k entries) command) (Ok statement)
      → new ≡ with_other t k (λ own. command) (λ own. statement) entries → IsSame (changed parameters entries (y.replace t k command)) (Ok new)
  replaces k command statement new there passes e =
      puts entries (checked (tables_before t k entries) command) (λ now. with_other t k (λ own. command) (λ own. now) entries)
      (transaction_refusal t entries) (statement_refusal t k entries) statement known there passes ∙ ap Ok (sym e)

  pub adds : (command : Command) (statement : Statement) (new : List Entry) → steps_refusal parameters entries t ≡ None → IsPassed (checked (tables_at_end t entries) command) (Ok statement)
      → new ≡ with_added t command statement entries → IsSame (changed parameters entries (y.add t command)) (Ok new)
  adds command statement new room passes e =
      puts entries (checked (tables_at_end t entries) command) (λ now. with_added t command now entries) (transaction_refusal t entries) (steps_refusal parameters entries t) statement known room passes
      ∙ ap Ok (sym e)

-- ---- one change after another

-- a change that is refused refuses all
pub step-refused : (whole : Result (List Entry) Refusal) (stop : Stop) (entries : List Entry) (change : LogChange) (changes : List LogChange)
    → whole ≡ all_changed parameters (Ok entries) (change ∷ changes) → Changes (Err stop) (changed parameters entries change) → Changes (Err stop) whole
step-refused whole (Refused refusal) entries change changes is refused = is ∙ ap (λ made. all_changed parameters made changes) refused
step-refused whole NoMemory entries change changes is refused = tt

-- the others are made of the log that it leaves
pub step-changed : (whole : Result (List Entry) Refusal) (entries next : List Entry) (change : LogChange) (changes : List LogChange)
    → whole ≡ all_changed parameters (Ok entries) (change ∷ changes) → changed parameters entries change ≡ Ok next → whole ≡ all_changed parameters (Ok next) changes
step-changed whole entries next change changes is made = is ∙ ap (λ made. all_changed parameters made changes) made

-- no change leaves the log as it is
pub none-changed : (entries new : List Entry) (whole : List LogChange) → whole ≡ [] → new ≡ map (spread 1) entries → IsSame (changed_log parameters entries whole) (Ok new)
none-changed entries new whole none e = ap (λ changes. changed_log parameters entries changes) none ∙ ap Ok (sym e)

-- the first change, and then the others
module _ (entries : List Entry) (times : ℕ) (whole : List LogChange) (change : LogChange) (changes : List LogChange) (count : times ≡ lines_for whole) (is : whole ≡ change ∷ changes) where
  split : IsSame (changed_log parameters entries whole) (all_changed parameters (Ok (map (spread times) entries)) (change ∷ changes))
  split = λ i. all_changed parameters (Ok (map (spread (sym count i)) entries)) (is i)

  pub first-refused : (stop : Stop) → Changes (Err stop) (changed parameters (map (spread times) entries) change) → Changes (Err stop) (changed_log parameters entries whole)
  first-refused stop refused = step-refused (changed_log parameters entries whole) stop (map (spread times) entries) change changes split refused

  pub others-changed : (next : List Entry) (result : Result Logged Stop) → IsSame (changed parameters (map (spread times) entries) change) (Ok next)
      → Changes result (all_changed parameters (Ok next) changes) → Changes result (changed_log parameters entries whole)
  others-changed next result made others =
      subst (λ (expected : Result (List Entry) Refusal). Changes result expected) (sym (step-changed (changed_log parameters entries whole) (map (spread times) entries) next change changes split made)) others
