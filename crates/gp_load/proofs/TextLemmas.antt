-- The lines of a script's text are those of its commands, numbered from 1.
use Rattle.std.proofs.Common.{◌≡◌, ℕ, ◌+◌, ◌-◌, true, false, not, ◌||◌, List, [], ◌∷◌, ◌++◌, filter, refl, sym, ap, subst, ◌∙◌, append_assoc}
use Rattle.std.specs.List.{AllByRecursion, enumerate_from}
use Rattle.std.specs.Str.Lines.{lines}
use Rattle.gp_base.specs.Annotated.{unannotated}
use Rattle.gp_grammar.specs.Syntax.{Command}
use Rattle.gp_syntax.specs.Lines.{is_answered, script_lines}
use Rattle.gp_syntax.proofs.LinesLemmas.{first-line}
use Rattle.gp_machine.specs.Event.{event}
use Rattle.gp_machine.specs.declared.reply.Reply.{Reply}
use Rattle.gp_machine.specs.Replies.{is_refusal}
use Rattle.gp_log.specs.Parameters.{parameters}
use Rattle.gp_script.specs.History.{has_refusal, outcome_of}
use Rattle.gp_script.specs.Scripts.{line_outcome, replies_from, state_after}
use Rattle.gp_csv.specs.Scripts.{session_line, script_text}
use Rattle.gp_load.proofs.ReadLemmas.{IsReadable, line-plain, line-read}
use Rattle.gp_load.proofs.StateLemmas.{Accepts, Plain}
use Rattle.std.proofs.lemmas.Bool.{or_from}
use Rattle.gp_base.proofs.SmallLemmas.{and_none}

-- ---- the lines of a script

-- the lines of commands, the first of which has this number
abbrev pub numbered : ℕ → List Command → List (ℕ × List ℕ)
numbered number [] = []
numbered number (c ∷ cs) = (number, session_line c) ∷ numbered (number + 1) cs

line-answered : (c : Command) → is_answered (session_line c) ≡ true
line-answered c = ap not (and_none _)

text-cons : (c : Command) (cs : List Command) → script_text (c ∷ cs) ≡ session_line c ++ (10 ∷ script_text cs)
text-cons c cs = append_assoc (session_line c) (10 ∷ []) (script_text cs)

answered : (number : ℕ) (cs : List Command) → AllByRecursion IsReadable cs → filter (λ (line : ℕ × List ℕ). is_answered line.1) (enumerate_from number (lines (script_text cs))) ≡ numbered number cs
answered number [] all = refl
answered number (c ∷ cs) all =
    ap (λ (text : List ℕ). filter (λ (line : ℕ × List ℕ). is_answered line.1) (enumerate_from number (lines text))) (text-cons c cs)
    ∙ ap (λ (x : List (List ℕ)). filter (λ (line : ℕ × List ℕ). is_answered line.1) (enumerate_from number x)) (first-line (session_line c) (script_text cs) (line-plain c all.0))
    ∙ rw (line-answered c) (ap (λ (x : List (ℕ × List ℕ)). (number, session_line c) ∷ x) (answered (number + 1) cs all.1))

pub lines-are : (cs : List Command) → AllByRecursion IsReadable cs → script_lines (script_text cs) ≡ numbered 1 cs
lines-are cs all = answered 1 cs all

-- ---- their history

pub record Leads (state : Plain) (lines : List (ℕ × List ℕ)) (P : Plain → Type 0) : Type 0 where
  pub accepted : has_refusal (replies_from unannotated state lines) ≡ false
  pub final : P (state_after unannotated state lines)

pub lines-lead : (state : Plain) (number : ℕ) (cs : List Command) (P : Plain → Type 0) → AllByRecursion IsReadable cs → Accepts state number cs P → Leads state (numbered number cs) P
lines-lead state number [] P all accepts = record { accepted = refl; final = accepts }
lines-lead state number (c ∷ cs) P all accepts =
    let others : List (ℕ × List ℕ) = numbered (number + 1) cs in
    let out : Plain × Reply = event unannotated parameters state number 1 c in
    let rest = lines-lead out.0 (number + 1) cs P all.1 accepts.1 in
    let same : line_outcome unannotated state (number, session_line c) ≡ out = ap (outcome_of unannotated state number) (line-read c all.0) in
    let both = subst (λ (o : Plain × Reply). ((is_refusal o.1 || has_refusal (replies_from unannotated o.0 others)) ≡ false) × P (state_after unannotated o.0 others)) (sym same)
    (or_from (is_refusal out.1) (has_refusal (replies_from unannotated out.0 others)) accepts.0 rest.accepted, rest.final) in
    record { accepted = both.0; final = both.1 }
