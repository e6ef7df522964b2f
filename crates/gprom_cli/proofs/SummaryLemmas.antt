-- The numbers of a summary: transactions, row lines, questions, and the dump that was read back.
use Rattle.std.proofs.Common.{◌≡◌, ℕ, zero, suc, ◌+◌, ◌*◌, ◌<◌, ◌≤◌, Bool, true, false, cond, List, [], ◌∷◌, ◌++◌, length, map, refl, sym, ap, ◌∙◌, arith}
use Rattle.std.proofs.lemmas.List.{append-nil, length-append, map-append}
use Rattle.std.proofs.lemmas.List.Concat.{flat_map-append}
use Rattle.gp_base.specs.Annotated.{monomials, unannotated}
use Rattle.gp_syntax.specs.Lines.{script_lines}
use Rattle.gp_versions.specs.Spans.{Versions}
use Rattle.gp_machine.proofs.EntryCounts.{count-most}
use Rattle.gp_machine.specs.Entries.{Entry, fate_of, is_begin, is_commit, transactions_in, versions_in}
use Rattle.gp_log.specs.declared.limit.TheConstants.{MAX_ENTRIES}
use Rattle.gp_script.specs.declared.script.TheConstants.{MAX_SCRIPT_LENGTH}
use Rattle.gp_script.specs.Scripts.{final_state}
use Rattle.gp_dump.specs.Dumps.{Dump, dump_of, spans_in}
use Rattle.gp_dump.specs.WholeDumps.{IsDump}
use Rattle.gp_dump.specs.Verdicts.{Holds, Fails, verdict_on}
use Rattle.gp_dump.proofs.FaultLemmas.{kept-is}
use Rattle.gp_dump.proofs.LawLemmas.{written-well-formed}
use Rattle.gp_ask.specs.Printed.{held_to}
use Rattle.gp_ask.specs.Computed.{computed_answer}
use Rattle.gprom_cli.specs.declared.summary.Summary.{Summary}
use Rattle.gprom_cli.specs.Steps.{script_dump}
use Rattle.gprom_cli.specs.Generated.{Pieces, closing_lines, generated_questions, generated_script, pieces_line, pieces_lines, replay_line}
use Rattle.gprom_cli.specs.Summary.{committed_in, has_committed, is_lost, lost_in, questions_about, with_fate}
use Rattle.gprom_cli.specs.Summaries.{committed_up_to, lost_up_to, rows_in, summary_by, summary_of, summary_with}
use Rattle.gprom_cli.proofs.GeneratedLemmas.{lines-length, wide}

-- ---- those that were lost are as many as are counted

one-longer : (b : Bool) (ts : List ℕ) (t : ℕ) → length (ts ++ cond b (t ∷ []) []) ≡ length ts + cond b 1 0
one-longer true ts t = length-append ts (t ∷ [])
one-longer false ts t = let same = ap (λ (all : List ℕ). length all) (append-nil ts) in omega (arith, same)

lost-counted : (entries : List Entry) (t : ℕ) → lost_up_to entries t ≡ length (with_fate entries is_lost t)
lost-counted entries zero = refl
lost-counted entries (suc t) =
    ap (λ (n : ℕ). n + cond (is_lost (fate_of (suc t) entries)) 1 0) (lost-counted entries t)
    ∙ sym (one-longer (is_lost (fate_of (suc t) entries)) (with_fate entries is_lost t) (suc t))

-- ---- one transaction more

module _ (entries : List Entry) (t : ℕ) where
  next : suc t ≡ t + 1
  next = omega arith

-- no more than there are
lost-one : (lost : Bool) (before t : ℕ) → before ≤ t → before + cond lost 1 0 ≤ suc t
lost-one true before t few = omega (arith, few)
lost-one false before t few = omega (arith, few)

pub lost-few : (entries : List Entry) (t : ℕ) → lost_up_to entries t ≤ t
lost-few entries zero = omega arith
lost-few entries (suc t) = lost-one (is_lost (fate_of (suc t) entries)) (lost_up_to entries t) t (lost-few entries t)

-- ---- row lines

abbrev pub span_count : Versions → ℕ
span_count table = length table.spans

-- ---- questions

transactions-few : (entries : List Entry) → transactions_in entries ≤ length entries
transactions-few = count-most is_begin

versions-few : (entries : List Entry) → versions_in entries ≤ length entries
versions-few = count-most is_commit

replay-length : (t : ℕ) → t < 10000 → length (pieces_lines (replay_line t ∷ [])) ≤ 60
replay-length t below = let digits = wide t below in omega (arith, lines-length (replay_line t ∷ []), digits)

closing-length : (last : ℕ) → last < 10000 → length (pieces_lines (closing_lines last)) ≤ 200
closing-length last below = let digits = wide last below in omega (arith, lines-length (closing_lines last), digits)

-- one question more, or none
replays-one : (committed : Bool) (so_far : List ℕ) (t : ℕ) → suc t < 10000 → length (pieces_lines (map replay_line so_far)) ≤ 60 * t → length (pieces_lines (map replay_line (so_far ++ cond committed (suc t ∷ []) []))) ≤ 60 * suc t
replays-one true so_far t below before =
    let last = replay-length (suc t) below in
    let parts =
    ap (λ (lines : List Pieces). length (pieces_lines lines)) (map-append replay_line so_far (suc t ∷ []))
    ∙ ap (λ (text : List ℕ). length text) (flat_map-append pieces_line (map replay_line so_far) (replay_line (suc t) ∷ []))
    ∙ length-append (pieces_lines (map replay_line so_far)) (pieces_lines (replay_line (suc t) ∷ [])) in
    omega (arith, before, last, parts)
replays-one false so_far t below before =
    let same = ap (λ (ts : List ℕ). length (pieces_lines (map replay_line ts))) (append-nil so_far) in
    omega (arith, before, same)

replays-length : (entries : List Entry) (t : ℕ) → t < 10000 → length (pieces_lines (map replay_line (committed_up_to entries t))) ≤ 60 * t
replays-length entries zero below = omega arith
replays-length entries (suc t) below = replays-one (has_committed (fate_of (suc t) entries)) (committed_up_to entries t) t below (replays-length entries t (omega (arith, below)))

-- the questions about the log of a dump are short enough to be asked
pub short-questions : (entries : List Entry) → length entries ≤ MAX_ENTRIES → length (questions_about entries) ≤ MAX_SCRIPT_LENGTH
short-questions entries few =
    let transactions = transactions-few entries in
    let versions = versions-few entries in
    let replays = replays-length entries (transactions_in entries) (omega (arith, transactions, few)) in
    let closing = closing-length (versions_in entries) (omega (arith, versions, few)) in
    let parts = ap (λ (text : List ℕ). length text) (flat_map-append pieces_line (map replay_line (committed_in entries)) (closing_lines (versions_in entries)))
    ∙ length-append (pieces_lines (map replay_line (committed_in entries))) (pieces_lines (closing_lines (versions_in entries))) in
    omega (arith, transactions, few, replays, closing, parts)

-- ---- the dump that was read back

-- a dump that was read is the one that was written
pub same-dump : (script bytes : List ℕ) (dump : Dump) → IsDump (dump_of (final_state unannotated script)) → bytes ≡ script_dump script → verdict_on bytes ≡ Holds dump → dump ≡ dump_of (final_state unannotated script)
same-dump script bytes dump rules same holds =
    let written = kept-is (script_dump script) (dump_of (final_state unannotated script)) (written-well-formed (dump_of (final_state unannotated script)) rules) in
    let both : Holds dump ≡ Holds (dump_of (final_state unannotated script)) = sym holds ∙ ap verdict_on same ∙ written in
    cc

-- and it is read
pub no-fault-there : (script bytes : List ℕ) (f line : ℕ) → IsDump (dump_of (final_state unannotated script)) → bytes ≡ script_dump script → verdict_on bytes ≡ Fails f line → ⊥
no-fault-there script bytes f line rules same fails =
    let written = kept-is (script_dump script) (dump_of (final_state unannotated script)) (written-well-formed (dump_of (final_state unannotated script)) rules) in
    let both : Fails f line ≡ Holds (dump_of (final_state unannotated script)) = sym fails ∙ ap verdict_on same ∙ written in
    cc

-- ---- the summary

-- its numbers, one by one
pub same-summary : (rounds : ℕ) (script : List ℕ) (dump : Dump) (questions : List ℕ) (lines committed lost spans asked rows : ℕ)
    → lines ≡ length (script_lines script) → committed ≡ length (committed_in dump.entries) → lost ≡ lost_up_to dump.entries (transactions_in dump.entries) → spans ≡ spans_in dump.tables
    → asked ≡ length (script_lines questions) → rows ≡ rows_in (computed_answer dump) questions
    → record { rounds = rounds; lines = lines; committed = committed; lost = lost; spans = spans; questions = asked; rows = rows } ≡ summary_by rounds script dump (computed_answer dump) questions
same-summary rounds script dump questions lines committed lost spans asked rows a b c d e f =
    let counted : lost ≡ lost_in dump.entries = c ∙ lost-counted dump.entries (transactions_in dump.entries) in
    rw (a, b, counted, d, e, f) refl

module _ (rounds : ℕ) (script : List ℕ) (dump : Dump) (committed questions : List ℕ) (is_script : script ≡ generated_script rounds) (is_dump : dump ≡ dump_of (final_state unannotated script))
    (is_committed : committed ≡ committed_in dump.entries) (is_questions : questions ≡ generated_questions committed (versions_in dump.entries)) where
  pub questions-are : questions ≡ questions_about dump.entries
  questions-are = is_questions ∙ ap (λ (ts : List ℕ). generated_questions ts (versions_in dump.entries)) is_committed

  -- a summary whose answers are those of the dump
  abbrev pub told : Summary
  told = summary_by rounds script dump (computed_answer dump) questions

  module _ (rows : (asked : List ℕ) → rows_in (computed_answer (dump_of (final_state unannotated script))) asked ≡ rows_in (held_to (final_state monomials script)) asked) where
    pub summary-is : told ≡ summary_of rounds
    summary-is =
        let state = final_state unannotated script in
        let there : told ≡ summary_by rounds script (dump_of state) (computed_answer (dump_of state)) (questions_about (dump_of state).entries) =
        ap (λ (asked : List ℕ). summary_by rounds script dump (computed_answer dump) asked) questions-are
        ∙ ap (λ (d : Dump). summary_by rounds script d (computed_answer d) (questions_about d.entries)) is_dump in
        let asked = questions_about (dump_of state).entries in
        let held : summary_by rounds script (dump_of state) (computed_answer (dump_of state)) asked ≡ summary_by rounds script (dump_of state) (held_to (final_state monomials script)) asked =
        ap (λ (n : ℕ). record (summary_by rounds script (dump_of state) (computed_answer (dump_of state)) asked) { rows = n }) (rows asked) in
        there ∙ held ∙ ap (λ (s : List ℕ). summary_with rounds s) is_script
