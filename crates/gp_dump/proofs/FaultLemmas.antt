-- The verdict holds a dump where all lines keep the rules, and fails where the rules say so, and as the first rule that fails; and only there.
use Rattle.gp_dump.proofs.Prelude.{◌≡◌, ℕ, zero, suc, ◌+◌, ◌<◌, ◌≤◌, Bool, true, false, cond, ltb, leb, List, [], ◌∷◌, length, reverse, Option, Some, None, Result, Ok, Err, inl, inr, refl, sym, ap, subst, ◌∙◌, arith, bytes_eq, is_utf8, cases_Bool, false≢true, leb-true, lt-ltb, ltb-false, ltb-true, bytes_eq-Decides, Cell, Table, Span, MAX_SPANS, Entry, versions_in, MAX_ENTRIES, Flaw, Said, last_line, next_entry, said_by, tables_in, parameters, LogLine, count_of, header_of, log_line_of, said_of, section_of, span_of, is_said_in, count_text, end_text, entry_text, header, said_text, section_text, span_text, header-takes, count-again, count-takes, log_line-again, log_line-takes, is-said, said-is, said-takes}
use Rattle.std.specs.Prelude.{◌==◌, slice_get}
use Rattle.std.proofs.lemmas.Bool.{leb-false, le-ltb}
use Rattle.gp_dumpline.specs.Rows.{IsRowLine}
use Rattle.gp_dumpline.specs.Said.{IsSaid}
use Rattle.gp_dumpline.proofs.HeaderLaws.{header-again}
use Rattle.gp_dumpline.proofs.LogLineLaws.{section-again, section-takes}
use Rattle.gp_dumpline.proofs.SpanLaws.{line-span, span-line}
use Rattle.gp_dump.specs.Dumps.{Dump, IsRow, fits_columns, is_in_place, spans_in}
use Rattle.gp_dump.specs.WholeDumps.{AreReadable}
use Rattle.gp_dump.specs.Lines.{DumpLine, Whole, Cut, Missing, lines_of, onto}
use Rattle.gp_dump.specs.Rules as r
use Rattle.gp_dump.specs.Rules.{Due, Header, Count, Logs, Sections, Rows, Nothing, Breaks, FaultIn, FirstFault, IsBetween, IsLogLine, IsNextTable, KeepRules, Leads, LineBreaks, WellFormed, ended, flaw_rule, followed, here, later}
use Rattle.gp_dump.specs.Verdicts.{◌>>=◌, Verdict, Holds, Fails, after_text, end_verdict, fault_in, first_fault, header_line, log_rule, next_section, nothing_line, row_line, row_rule, rule, rule_holds, rule_next, section_line, section_rule, text_of, then_verdict, verdict, verdict_on}
use Rattle.gp_dump.proofs.LineLemmas.{line-laws, log-lawful}
use Rattle.gp_dump.proofs.RoundTrip.{AreLawful, IsEntry, TableLaws}

-- ---- what holds of what is due

-- the log can be read, and is not too long
record IsKept (log : List Entry) : Type 0 where
  readable : AreReadable log
  few : length log ≤ MAX_ENTRIES

abbrev IsSound : Due → Type 0
IsSound Header = Unit {0}
IsSound (Count second) = Unit {0}
IsSound (Logs second left log) = AreReadable log × (left + length log ≤ MAX_ENTRIES)
IsSound (Sections log tables) = IsKept log
IsSound (Rows left log tables rows) = IsKept log × ((table : Table) × IsNextTable log tables table)
IsSound (Nothing dump) = Unit {0}

kept-between : (due : Due) (log : List Entry) (tables : List (List Span)) → IsBetween due log tables → IsSound due → IsKept log
kept-between _ _ _ (r.logged second log) sound = record { readable = sound.0; few = omega (arith, sound.1) }
kept-between _ _ _ (r.between log tables) sound = sound
kept-between _ _ _ (r.filled log tables rows) sound = sound.0

lawful-at : (tables : List Table) (versions place : ℕ) (table : Table) → AreLawful tables versions → slice_get tables place ≡ Some table → TableLaws table versions
lawful-at [] versions place table laws is = absurd cc
lawful-at (first ∷ tables) versions zero table laws is = let same : first ≡ table = cc in subst (λ (t : Table). TableLaws t versions) same laws.0
lawful-at (first ∷ tables) versions (suc place) table laws is = lawful-at tables versions place table laws.1 is

table-lawful : (log : List Entry) (tables : List (List Span)) (table : Table) → IsKept log → IsNextTable log tables table → TableLaws table (versions_in log)
table-lawful log tables table kept is = lawful-at (tables_in log) (versions_in log) (length tables) table (log-lawful log kept.readable kept.few) is

-- ---- what a text comes to

abbrev IsAnswer : Due → List ℕ → Result Due ℕ → Type 0
IsAnswer due text (Ok next) = Leads due text next × IsSound next
IsAnswer due text (Err f) = Breaks due text f

none-some : {T : Type 0} (o : Option T) (x : T) → o ≡ None → o ≡ Some x → ⊥
none-some o x a b = let impossible : None ≡ Some x = sym a ∙ b in cc

some-same : {T : Type 0} (o : Option T) (x y : T) → o ≡ Some x → o ≡ Some y → x ≡ y
some-same o x y a b = let same : Some x ≡ Some y = sym a ∙ b in cc

err-ok : {T : Type 0} (o : Result T ℕ) (f : ℕ) (x : T) → o ≡ Err f → o ≡ Ok x → ⊥
err-ok o f x a b = let impossible : Err f ≡ Ok x = sym a ∙ b in cc

count-answer : (second : Bool) (text : List ℕ) (o : Option ℕ) → count_of text ≡ o → IsAnswer (Count second) text (rule 4 o >>= (λ n. Ok (Logs second n [])))
count-answer second text None e = r.no_count second text (λ n few is. none-some (count_of text) n e (ap count_of is ∙ count-again n few))
count-answer second text (Some n) e = let t = count-takes text n e in (r.counts second n text t.1 t.0, (tt, omega (arith, t.1)))

-- ---- log lines

module _ (second : Bool) (left : ℕ) (log : List Entry) (text : List ℕ) (sound : AreReadable log × (suc left + length log ≤ MAX_ENTRIES)) where
  abbrev log_due : Due
  log_due = Logs second (suc left) log

  abbrev log_next : Entry → Result Due ℕ
  log_next entry = Ok (Logs second left (entry ∷ log))

  module _ (l : LogLine) (is : log_line_of text ≡ Some l) where
    log-line : IsLogLine text l.line l.session l.said
    log-line = let t = log_line-takes text l is in record { is = t.is; lines = t.line; sessions = t.session }

    module _ (above : ltb (last_line log) l.line ≡ true) where
      rises : last_line log < l.line
      rises = ltb-true (last_line log) l.line above

      -- what no entry says
      unsaid : ((said : Said) → said_of l.said ≡ Some said → is_said_in second said ≡ true → ⊥) → Breaks log_due text 7
      unsaid never = r.says_nothing second left log text l.line l.session l.said log-line rises (λ said may known same. never said (ap said_of same ∙ is-said said may) known)

      entry-answer : (said : Said) (o : Result Entry Flaw) → said_of l.said ≡ Some said → is_said_in second said ≡ true → next_entry parameters log l.line l.session said ≡ o → IsAnswer log_due text (rule_next o >>= log_next)
      unfolding log_rule
      entry-answer said (Err flaw) s known e =
          let words : l.said ≡ said_text said = said-takes l.said said s in
          let line : IsLogLine text l.line l.session (said_text said) = subst (IsLogLine text l.line l.session) words log-line in
          r.is_flawed second left log text l.line l.session said flaw line rises (said-is said (ap said_of (sym words) ∙ s)) known e
      entry-answer said (Ok entry) s known e =
          let taken = line-laws.entry_taken second log text entry (rw (is, above, s, known, e) refl) in
          let readable = said-is (said_by entry) taken.1.said in
          (r.logs second left log entry text taken.1.next readable taken.1.format taken.0, ((readable, sound.0), omega (arith, sound.1)))

      known-answer : (said : Said) (b : Bool) → said_of l.said ≡ Some said → is_said_in second said ≡ b
          → IsAnswer log_due text ((rule_holds 7 b >>= (λ known. rule_next (next_entry parameters log l.line l.session said))) >>= log_next)
      known-answer said true s known = entry-answer said (next_entry parameters log l.line l.session said) s known refl
      known-answer said false s known = unsaid (λ other o k. false≢true (sym known ∙ ap (is_said_in second) (some-same (said_of l.said) said other s o) ∙ k))

      said-answer : (o : Option Said) → said_of l.said ≡ o
          → IsAnswer log_due text ((rule 7 o >>= (λ said. rule_holds 7 (is_said_in second said) >>= (λ known. rule_next (next_entry parameters log l.line l.session said)))) >>= log_next)
      said-answer None s = unsaid (λ said o k. none-some (said_of l.said) said s o)
      said-answer (Some said) s = known-answer said (is_said_in second said) s refl

    above-answer : (b : Bool) → ltb (last_line log) l.line ≡ b
        → IsAnswer log_due text ((rule_holds 6 b >>= (λ above. rule 7 (said_of l.said) >>= (λ said. rule_holds 7 (is_said_in second said) >>= (λ known. rule_next (next_entry parameters log l.line l.session said))))) >>= log_next)
    above-answer true above = said-answer above (said_of l.said) refl
    above-answer false above = r.no_later_line second left log text l.line l.session l.said log-line (ltb-false (last_line log) l.line above)

  line-answer : (o : Option LogLine) → log_line_of text ≡ o
      → IsAnswer log_due text ((rule 5 o >>= (λ l. rule_holds 6 (ltb (last_line log) l.line) >>= (λ above. rule 7 (said_of l.said) >>= (λ said. rule_holds 7 (is_said_in second said) >>= (λ known. rule_next (next_entry parameters log l.line l.session said)))))) >>= log_next)
  line-answer None e = r.no_log_line second left log text (λ line session said is.
      none-some (log_line_of text) (record { line = line; session = session; said = said }) e (ap log_line_of is.is ∙ log_line-again line session said is.lines.0 is.lines.1 is.sessions.0 is.sessions.1))
  line-answer (Some l) e = above-answer l e (ltb (last_line log) l.line) refl

  log-answer : IsAnswer log_due text (log_rule second log text >>= log_next)
  unfolding log_rule
  log-answer = line-answer (log_line_of text) refl

-- ---- tables

module _ (due : Due) (log : List Entry) (tables : List (List Span)) (text : List ℕ) (is : IsBetween due log tables) (kept : IsKept log) where
  module _ (table : Table) (next : IsNextTable log tables table) where
    abbrev rows_next : ℕ → Result Due ℕ
    rows_next rows = Ok (Rows rows log tables [])

    few-answer : (rows : ℕ) (b : Bool) → section_of table.name text ≡ Some rows → leb (spans_in tables + rows) MAX_SPANS ≡ b
        → IsAnswer due text ((rule_holds 10 b >>= (λ few. Ok rows)) >>= rows_next)
    few-answer rows true e few =
        let t = section-takes table.name text rows e in
        (r.begins_table due log tables table rows text is next (leb-true (spans_in tables + rows) MAX_SPANS few) t.0, (kept, (table, next)))
    few-answer rows false e few = r.no_table due log tables table text is next (λ other room same.
        let n = some-same (section_of table.name text) rows other e (ap (section_of table.name) same ∙ section-again table.name other (omega (arith, room))) in
        let above = leb-false (spans_in tables + rows) MAX_SPANS few in
        absurd (omega (arith, n, room, above)))

    rows-answer : (o : Option ℕ) → section_of table.name text ≡ o
        → IsAnswer due text ((rule 10 o >>= (λ rows. rule_holds 10 (leb (spans_in tables + rows) MAX_SPANS) >>= (λ few. Ok rows))) >>= rows_next)
    rows-answer None e = r.no_table due log tables table text is next (λ rows room same. none-some (section_of table.name text) rows e (ap (section_of table.name) same ∙ section-again table.name rows (omega (arith, room))))
    rows-answer (Some rows) e = few-answer rows (leb (spans_in tables + rows) MAX_SPANS) e refl

  end-answer : (b : Bool) → slice_get (tables_in log) (length tables) ≡ None → bytes_eq text end_text ≡ b
      → IsAnswer due text (rule_holds 14 b >>= (λ ended. Ok (Nothing (record { entries = log; tables = reverse tables }))))
  end-answer true none e = (r.ends due log tables text is none ((bytes_eq-Decides text end_text).0 e), tt)
  end-answer false none e = r.no_end due log tables text is none (λ same. false≢true (sym e ∙ (bytes_eq-Decides text end_text).1 same))

  table-answer : (o : Option Table) → slice_get (tables_in log) (length tables) ≡ o → IsAnswer due text (section_line log tables o text)
  unfolding section_rule
  table-answer None e = end-answer (bytes_eq text end_text) e refl
  table-answer (Some table) e = rows-answer table e (section_of table.name text) refl

  section-answer : IsAnswer due text (next_section log tables text)
  section-answer = table-answer (slice_get (tables_in log) (length tables)) refl

-- ---- rows

module _ (left : ℕ) (log : List Entry) (tables : List (List Span)) (rows : List Span) (text : List ℕ) (table : Table) (next : IsNextTable log tables table) (kept : IsKept log) where
  abbrev row_due : Due
  row_due = Rows (suc left) log tables rows

  abbrev row_next : Span → Result Due ℕ
  row_next span = Ok (Rows left log tables (span ∷ rows))

  laws : TableLaws table (versions_in log)
  laws = table-lawful log tables table kept next

  place-answer : (span : Span) (b : Bool) → span_of text ≡ Some span → fits_columns table.cols span.row ≡ true → is_in_place (versions_in log) rows span ≡ b
      → IsAnswer row_due text ((rule_holds 13 b >>= (λ placed. Ok span)) >>= row_next)
  unfolding row_rule
  place-answer span true e fits placed =
      let taken = laws.row_taken rows text span (rw (e, fits, placed) refl) in
      (r.adds_row left log tables rows table span text next taken.1 taken.0, (kept, (table, next)))
  place-answer span false e fits placed =
      let fails : row_rule table.cols (versions_in log) rows text ≡ Err 13 = rw (e, fits, placed) refl in
      r.is_misplaced left log tables rows table text span.row next (span-line text span e) fits
      (λ other are same. err-ok (row_rule table.cols (versions_in log) rows text) 13 other fails (ap (row_rule table.cols (versions_in log) rows) same ∙ laws.row_again rows other are))

  cells-answer : (span : Span) (b : Bool) → span_of text ≡ Some span → fits_columns table.cols span.row ≡ b
      → IsAnswer row_due text ((rule_holds 12 b >>= (λ fits. rule_holds 13 (is_in_place (versions_in log) rows span) >>= (λ placed. Ok span))) >>= row_next)
  cells-answer span true e fits = place-answer span (is_in_place (versions_in log) rows span) e fits refl
  cells-answer span false e fits = r.misfits left log tables rows table text span.row next (span-line text span e) fits

  span-answer : (o : Option Span) → span_of text ≡ o
      → IsAnswer row_due text ((rule 11 o >>= (λ span. rule_holds 12 (fits_columns table.cols span.row) >>= (λ fits. rule_holds 13 (is_in_place (versions_in log) rows span) >>= (λ placed. Ok span)))) >>= row_next)
  span-answer None e = r.no_row left log tables rows text (λ cells line. let read = line-span text cells line in none-some (span_of text) read.span e read.is)
  span-answer (Some span) e = cells-answer span (fits_columns table.cols span.row) e refl

  row-answer : IsAnswer row_due text (row_line left log tables rows text)
  unfolding row_rule
  row-answer = rw next (span-answer (span_of text) refl)

-- ---- what a text comes to, whatever is due

text-answer : (due : Due) (text : List ℕ) → (due ≡ Header → ⊥) → IsSound due → IsAnswer due text (after_text due text)
unfolding after_text
text-answer Header text other sound = absurd (other refl)
text-answer (Count second) text other sound = count-answer second text (count_of text) refl
text-answer (Logs second zero log) text other sound =
    section-answer (Logs second zero log) log [] text (r.logged second log) (record { readable = sound.0; few = omega (arith, sound.1) })
text-answer (Logs second (suc left) log) text other sound = log-answer second left log text sound
text-answer (Sections log tables) text other sound = section-answer (Sections log tables) log tables text (r.between log tables) sound
text-answer (Rows zero log tables rows) text other sound = section-answer (Rows zero log tables rows) log (reverse rows ∷ tables) text (r.filled log tables rows) sound.0
text-answer (Rows (suc left) log tables rows) text other sound = row-answer left log tables rows text sound.1.0 sound.1.1 sound.0
text-answer (Nothing dump) text other sound = r.goes_on dump text

header-answer : (text : List ℕ) (o : Option Bool) → header_of text ≡ o → IsAnswer Header text (rule 2 o >>= (λ second. Ok (Count second)))
header-answer text None e = r.no_format text (λ second is. none-some (header_of text) second e (ap header_of is ∙ header-again second))
header-answer text (Some second) e = (r.names_format second text (header-takes text second e), tt)

-- ---- lines

-- the last line is not ended by a line feed, and a missing one is the last
abbrev IsOpen : List DumpLine → Type 0
IsOpen [] = ⊥
IsOpen (Whole text ∷ lines) = IsOpen lines
IsOpen (Cut text ∷ lines) = Unit {0}
IsOpen (Missing ∷ lines) = lines ≡ []

onto-opens : (byte : ℕ) (lines : List DumpLine) → IsOpen lines → IsOpen (onto byte lines)
onto-opens byte [] opens = tt
onto-opens byte (Whole text ∷ lines) opens = opens
onto-opens byte (Cut text ∷ lines) opens = tt
onto-opens byte (Missing ∷ lines) opens = tt

lines-opens : (bytes : List ℕ) → IsOpen (lines_of bytes)
lines-opens [] = refl
lines-opens (byte ∷ bytes) = by (byte == 10) (lines-opens bytes)
  where
    by : (b : Bool) → IsOpen (lines_of bytes) → IsOpen (cond b (Whole [] ∷ lines_of bytes) (onto byte (lines_of bytes)))
    by true rest = rest
    by false rest = onto-opens byte (lines_of bytes) rest

-- what a line comes to
abbrev IsLineAnswer : Due → DumpLine → Result Due ℕ → Type 0
IsLineAnswer due line (Ok next) = (text : List ℕ) × (line ≡ Whole text) × (Leads due text next × IsSound next)
IsLineAnswer due line (Err f) = LineBreaks due line f

whole-answer : (due : Due) (text : List ℕ) (o : Result Due ℕ) → is_utf8 text ≡ true → IsAnswer due text o → IsLineAnswer due (Whole text) o
whole-answer due text (Ok next) utf8 is = (text, refl, is)
whole-answer due text (Err f) utf8 is = r.breaks due text f utf8 is

header-line : (line : DumpLine) → IsLineAnswer Header line (header_line line)
header-line (Whole text) = by (is_utf8 text) refl
  where
    by : (b : Bool) → is_utf8 text ≡ b → IsLineAnswer Header (Whole text) (cond b (rule 2 (header_of text) >>= (λ second. Ok (Count second))) (Err 1))
    by true utf8 = whole-answer Header text (rule 2 (header_of text) >>= (λ second. Ok (Count second))) utf8 (header-answer text (header_of text) refl)
    by false utf8 = r.no_text Header text utf8
header-line (Cut text) = by (is_utf8 text) refl
  where
    named : (o : Option Bool) → header_of text ≡ o → is_utf8 text ≡ true → IsLineAnswer Header (Cut text) (rule 2 o >>= (λ second. Err 3))
    named None e utf8 = r.unnamed text utf8 (r.no_format text (λ second is. none-some (header_of text) second e (ap header_of is ∙ header-again second)))
    named (Some second) e utf8 = r.unended Header text utf8 (λ header_due. (second, header-takes text second e))

    by : (b : Bool) → is_utf8 text ≡ b → IsLineAnswer Header (Cut text) (cond b (rule 2 (header_of text) >>= (λ second. Err 3)) (Err 1))
    by true utf8 = named (header_of text) refl utf8
    by false utf8 = r.no_cut_text Header text utf8
header-line Missing = r.missing Header (λ dump e. cc)

text-line : (due : Due) (line : DumpLine) → (due ≡ Header → ⊥) → ((dump : Dump) → due ≡ Nothing dump → ⊥) → IsSound due → IsLineAnswer due line (text_of line >>= after_text due)
text-line due (Whole text) other more sound = by (is_utf8 text) refl
  where
    by : (b : Bool) → is_utf8 text ≡ b → IsLineAnswer due (Whole text) (cond b (Ok text) (Err 1) >>= after_text due)
    by true utf8 = whole-answer due text (after_text due text) utf8 (text-answer due text other sound)
    by false utf8 = r.no_text due text utf8
text-line due (Cut text) other more sound = by (is_utf8 text) refl
  where
    by : (b : Bool) → is_utf8 text ≡ b → IsLineAnswer due (Cut text) (cond b (Err 3) (Err 1) >>= after_text due)
    by true utf8 = r.unended due text utf8 (λ header_due. absurd (other header_due))
    by false utf8 = r.no_cut_text due text utf8
text-line due Missing other more sound = r.missing due more

-- ---- what the verdict says

-- the lines are the dump of the verdict, or have its fault first
abbrev IsVerdictOn : List DumpLine → Due → ℕ → Verdict → Type 0
IsVerdictOn lines due number (Holds dump) = KeepRules lines due dump
IsVerdictOn lines due number (Fails f at) = FaultIn lines due number f at

-- the verdict on the lines after one that keeps the rules
one-more : (text : List ℕ) (lines : List DumpLine) (due next : Due) (number : ℕ) (v : Verdict) → Leads due text next → IsVerdictOn lines next (number + 1) v → IsVerdictOn (Whole text ∷ lines) due number v
one-more text lines due next number (Holds dump) leads rest = followed text lines due next dump leads rest
one-more text lines due next number (Fails f at) leads rest = later text lines due next number f at leads rest

-- the verdict on the lines after a line
abbrev Later : List DumpLine → ℕ → Type 0
Later lines number = (next : Due) → IsOpen lines → IsSound next → IsVerdictOn lines next number (verdict lines next number)

then-verdict : (line : DumpLine) (lines : List DumpLine) (due : Due) (number : ℕ) (o : Result Due ℕ) → IsOpen (line ∷ lines) → Later lines (number + 1) → IsLineAnswer due line o
    → IsVerdictOn (line ∷ lines) due number (then_verdict o number (λ next. verdict lines next (number + 1)))
then-verdict line lines due number (Err f) opens more is = here line lines due number f is
then-verdict line lines due number (Ok next) opens more is =
    let rest : IsOpen lines = subst (λ (l : DumpLine). IsOpen (l ∷ lines)) is.1 opens in
    subst (λ (l : DumpLine). IsVerdictOn (l ∷ lines) due number (verdict lines next (number + 1))) (sym is.1)
    (one-more is.0 lines due next number (verdict lines next (number + 1)) is.2.0 (more next rest is.2.1))

ends-verdict : (line : DumpLine) (lines : List DumpLine) (dump : Dump) (number : ℕ) → IsOpen (line ∷ lines) → IsVerdictOn (line ∷ lines) (Nothing dump) number (end_verdict (nothing_line line) number dump)
ends-verdict (Whole text) lines dump number opens = by (is_utf8 text) refl
  where
    by : (b : Bool) → is_utf8 text ≡ b → IsVerdictOn (Whole text ∷ lines) (Nothing dump) number (end_verdict (cond b (Err 14) (Err 1)) number dump)
    by true utf8 = here (Whole text) lines (Nothing dump) number 14 (r.breaks (Nothing dump) text 14 utf8 (r.goes_on dump text))
    by false utf8 = here (Whole text) lines (Nothing dump) number 1 (r.no_text (Nothing dump) text utf8)
ends-verdict (Cut text) lines dump number opens = by (is_utf8 text) refl
  where
    by : (b : Bool) → is_utf8 text ≡ b → IsVerdictOn (Cut text ∷ lines) (Nothing dump) number (end_verdict (cond b (Err 3) (Err 1)) number dump)
    by true utf8 = here (Cut text) lines (Nothing dump) number 3 (r.unended (Nothing dump) text utf8 (λ header_due. absurd cc))
    by false utf8 = here (Cut text) lines (Nothing dump) number 1 (r.no_cut_text (Nothing dump) text utf8)
ends-verdict Missing lines dump number opens = subst (λ (l : List DumpLine). KeepRules (Missing ∷ l) (Nothing dump) dump) (sym opens) (ended dump)

verdict-in : (lines : List DumpLine) (number : ℕ) → Later lines number
unfolding verdict
verdict-in [] number next opens sound = absurd opens
verdict-in (line ∷ lines) number Header opens sound = then-verdict line lines Header number (header_line line) opens (verdict-in lines (number + 1)) (header-line line)
verdict-in (line ∷ lines) number (Count second) opens sound =
    then-verdict line lines (Count second) number (text_of line >>= after_text (Count second)) opens (verdict-in lines (number + 1)) (text-line (Count second) line (λ h. cc) (λ dump h. cc) sound)
verdict-in (line ∷ lines) number (Logs second left log) opens sound =
    then-verdict line lines (Logs second left log) number (text_of line >>= after_text (Logs second left log)) opens (verdict-in lines (number + 1)) (text-line (Logs second left log) line (λ h. cc) (λ dump h. cc) sound)
verdict-in (line ∷ lines) number (Sections log tables) opens sound =
    then-verdict line lines (Sections log tables) number (text_of line >>= after_text (Sections log tables)) opens (verdict-in lines (number + 1)) (text-line (Sections log tables) line (λ h. cc) (λ dump h. cc) sound)
verdict-in (line ∷ lines) number (Rows left log tables rows) opens sound =
    then-verdict line lines (Rows left log tables rows) number (text_of line >>= after_text (Rows left log tables rows)) opens (verdict-in lines (number + 1)) (text-line (Rows left log tables rows) line (λ h. cc) (λ dump h. cc) sound)
verdict-in (line ∷ lines) number (Nothing dump) opens sound = ends-verdict line lines dump number opens

verdict-on : (bytes : List ℕ) (v : Verdict) → verdict_on bytes ≡ v → IsVerdictOn (lines_of bytes) Header 1 v
verdict-on bytes v is = subst (IsVerdictOn (lines_of bytes) Header 1) is (verdict-in (lines_of bytes) 1 Header (lines-opens bytes) tt)

-- the dump that the verdict holds is the one of the lines
pub kept-found : (bytes : List ℕ) (dump : Dump) → verdict_on bytes ≡ Holds dump → WellFormed bytes dump
kept-found bytes dump is = verdict-on bytes (Holds dump) is

verdict-fault : (bytes : List ℕ) (f line : ℕ) (v : Verdict) → verdict_on bytes ≡ v → fault_in v ≡ Some (f, line) → verdict_on bytes ≡ Fails f line
verdict-fault bytes f line (Holds dump) is e = absurd cc
verdict-fault bytes f line (Fails g other) is e = let same : (g, other) ≡ (f, line) = cc in is ∙ ap (λ (x : ℕ × ℕ). Fails x.0 x.1) same

-- the first rule that the verdict finds broken is the first one that is
pub fault-found : (bytes : List ℕ) (f line : ℕ) → first_fault bytes ≡ Some (f, line) → FirstFault bytes f line
fault-found bytes f line e = verdict-on bytes (Fails f line) (verdict-fault bytes f line (verdict_on bytes) refl e)

-- ---- where the rules say that a dump fails, or is one, the verdict says so

-- no value is read from a text
unread : {T : Type 0} (o : Option T) → ((x : T) → o ≡ Some x → ⊥) → o ≡ None
unread None never = refl
unread (Some x) never = absurd (never x refl)

-- a line that has a text, where the next table or the end is due
section-verdict : (due : Due) (log : List Entry) (tables : List (List Span)) (text : List ℕ) (o : Result Due ℕ) (lines : List DumpLine) (number : ℕ) → IsBetween due log tables → is_utf8 text ≡ true
    → next_section log tables text ≡ o → verdict (Whole text ∷ lines) due number ≡ then_verdict o number (λ next. verdict lines next (number + 1))
unfolding verdict after_text
section-verdict _ _ _ text o lines number (r.logged second log) utf8 e = rw (utf8, e) refl
section-verdict _ _ _ text o lines number (r.between log tables) utf8 e = rw (utf8, e) refl
section-verdict _ _ _ text o lines number (r.filled log tables rows) utf8 e = rw (utf8, e) refl

record IsFollowed (due : Due) (text : List ℕ) (next : Due) : Type 0 where
  sound : IsSound next
  verdict_is : (lines : List DumpLine) (number : ℕ) → verdict (Whole text ∷ lines) due number ≡ verdict lines next (number + 1)

utf8-as : (text other : List ℕ) → text ≡ other → is_utf8 other ≡ true → is_utf8 text ≡ true
utf8-as text other same is = ap is_utf8 same ∙ is

leads-followed : (due : Due) (text : List ℕ) (next : Due) → Leads due text next → IsSound due → IsFollowed due text next
unfolding verdict after_text section_rule
leads-followed _ _ _ (r.names_format second text is) sound =
    let utf8 = utf8-as text (header second) is (line-laws.header second).utf8 in
    record { sound = tt; verdict_is = λ lines number. rw (utf8, ap header_of is ∙ header-again second) refl }
leads-followed _ _ _ (r.counts second n text few is) sound =
    let utf8 = utf8-as text (count_text n) is (line-laws.count n few).utf8 in
    record { sound = (tt, omega (arith, few)); verdict_is = λ lines number. rw (utf8, ap count_of is ∙ count-again n few) refl }
leads-followed _ _ _ (r.logs second left log entry text next said known is) sound =
    let entry_is : IsEntry second log entry = record { next = next; said = is-said (said_by entry) said; format = known } in
    let utf8 = utf8-as text (entry_text entry) is (line-laws.entry second log entry entry_is).utf8 in
    let again : log_rule second log text ≡ Ok entry = ap (log_rule second log) is ∙ line-laws.entry_again second log entry entry_is in
    record { sound = ((said, sound.0), omega (arith, sound.1)); verdict_is = λ lines number. rw (utf8, again) refl }
leads-followed _ _ _ (r.begins_table due log tables table rows text standing next room is) sound =
    let kept = kept-between due log tables standing sound in
    let laws = table-lawful log tables table kept next in
    let utf8 = utf8-as text (section_text table.name rows) is (laws.section rows (omega (arith, room))).utf8 in
    let again : section_rule (spans_in tables) table text ≡ Ok rows = ap (section_rule (spans_in tables) table) is ∙ laws.section_again (spans_in tables) rows room in
    let whole : next_section log tables text ≡ Ok (Rows rows log tables []) =
    ap (λ (o : Option Table). section_line log tables o text) next ∙ ap (λ (o : Result ℕ ℕ). o >>= (λ rows. Ok (Rows rows log tables []))) again in
    record { sound = (kept, (table, next)); verdict_is = λ lines number. section-verdict due log tables text (Ok (Rows rows log tables [])) lines number standing utf8 whole }
leads-followed _ _ _ (r.adds_row left log tables rows table span text next row is) sound =
    let laws = table-lawful log tables table sound.0 next in
    let utf8 = utf8-as text (span_text span) is (laws.row rows span row).utf8 in
    let again : row_rule table.cols (versions_in log) rows text ≡ Ok span = ap (row_rule table.cols (versions_in log) rows) is ∙ laws.row_again rows span row in
    record { sound = (sound.0, (table, next)); verdict_is = λ lines number. rw (utf8, next, again) refl }
leads-followed _ _ _ (r.ends due log tables text standing none is) sound =
    let utf8 = utf8-as text end_text is line-laws.end.utf8 in
    let last : Due = Nothing (record { entries = log; tables = reverse tables }) in
    let whole : next_section log tables text ≡ Ok last =
    ap (λ (o : Option Table). section_line log tables o text) none ∙ ap (λ (b : Bool). rule_holds 14 b >>= (λ ended. Ok last)) ((bytes_eq-Decides text end_text).1 is) in
    record { sound = tt; verdict_is = λ lines number. section-verdict due log tables text (Ok last) lines number standing utf8 whole }

-- ---- the rules of a log line that fail

module _ (second : Bool) (log : List Entry) (text : List ℕ) where
  log-unread : ((line session : ℕ) (said : List ℕ) → ¬ IsLogLine text line session said) → log_rule second log text ≡ Err 5
  unfolding log_rule
  log-unread never =
      let none : log_line_of text ≡ None = unread (log_line_of text) (λ l e. let t = log_line-takes text l e in never l.line l.session l.said (record { is = t.is; lines = t.line; sessions = t.session })) in
      rw none refl

  module _ (line session : ℕ) (said : List ℕ) (is : IsLogLine text line session said) where
    log-read : log_line_of text ≡ Some (record { line = line; session = session; said = said })
    log-read = ap log_line_of is.is ∙ log_line-again line session said is.lines.0 is.lines.1 is.sessions.0 is.sessions.1

    log-low : line ≤ last_line log → log_rule second log text ≡ Err 6
    unfolding log_rule
    log-low low = rw (log-read, le-ltb (last_line log) line low) refl

    module _ (above : last_line log < line) where
      log-unsaid : ((x : Said) → IsSaid x → is_said_in second x ≡ true → said ≡ said_text x → ⊥) → log_rule second log text ≡ Err 7
      unfolding log_rule
      log-unsaid never = rw (log-read, lt-ltb (last_line log) line above) (by (said_of said) refl)
        where
          known : (x : Said) (b : Bool) → said_of said ≡ Some x → is_said_in second x ≡ b → (rule_holds 7 b >>= (λ known. rule_next (next_entry parameters log line session x))) ≡ Err 7
          known x false e k = refl
          known x true e k = let words : said ≡ said_text x = said-takes said x e in absurd (never x (said-is x (ap said_of (sym words) ∙ e)) k words)

          by : (o : Option Said) → said_of said ≡ o
              → (rule 7 o >>= (λ x. rule_holds 7 (is_said_in second x) >>= (λ known. rule_next (next_entry parameters log line session x)))) ≡ Err 7
          by None e = refl
          by (Some x) e = known x (is_said_in second x) e refl

  log-flawed : (line session : ℕ) (said : Said) (flaw : Flaw) → IsLogLine text line session (said_text said) → last_line log < line → IsSaid said → is_said_in second said ≡ true
      → next_entry parameters log line session said ≡ Err flaw → log_rule second log text ≡ Err (flaw_rule flaw)
  unfolding log_rule
  log-flawed line session said flaw is above may known e =
      rw (log-read line session (said_text said) is, lt-ltb (last_line log) line above, is-said said may, known, e) refl

-- ---- a text that breaks a rule

section-refused : (log : List Entry) (tables : List (List Span)) (table : Table) (text : List ℕ) → IsNextTable log tables table
    → ((rows : ℕ) → spans_in tables + rows ≤ MAX_SPANS → text ≡ section_text table.name rows → ⊥) → next_section log tables text ≡ Err 10
unfolding section_rule
section-refused log tables table text next never = rw next (by (section_of table.name text) refl)
  where
    few : (rows : ℕ) (b : Bool) → section_of table.name text ≡ Some rows → leb (spans_in tables + rows) MAX_SPANS ≡ b
        → ((rule_holds 10 b >>= (λ few. Ok rows)) >>= (λ rows. Ok (Rows rows log tables []))) ≡ Err 10
    few rows false e room = refl
    few rows true e room = absurd (never rows (leb-true (spans_in tables + rows) MAX_SPANS room) (section-takes table.name text rows e).0)

    by : (o : Option ℕ) → section_of table.name text ≡ o
        → ((rule 10 o >>= (λ rows. rule_holds 10 (leb (spans_in tables + rows) MAX_SPANS) >>= (λ few. Ok rows))) >>= (λ rows. Ok (Rows rows log tables []))) ≡ Err 10
    by None e = refl
    by (Some rows) e = few rows (leb (spans_in tables + rows) MAX_SPANS) e refl

end-refused : (log : List Entry) (tables : List (List Span)) (text : List ℕ) → slice_get (tables_in log) (length tables) ≡ None → (text ≡ end_text → ⊥) → next_section log tables text ≡ Err 14
end-refused log tables text none never =
    let other : bytes_eq text end_text ≡ false = elim (cases_Bool (bytes_eq text end_text)) [ inl same ↦ absurd (never ((bytes_eq-Decides text end_text).0 same)) | inr apart ↦ apart ] in
    rw (none, other) refl

misplaced-by : (log : List Entry) (rows : List Span) (table : Table) (text : List ℕ) (span : Span) → TableLaws table (versions_in log) → span_of text ≡ Some span → fits_columns table.cols span.row ≡ true
    → ((other : Span) → IsRow table.cols (versions_in log) rows other → text ≡ span_text other → ⊥) → (b : Bool) → is_in_place (versions_in log) rows span ≡ b → row_rule table.cols (versions_in log) rows text ≡ Err 13
unfolding row_rule
misplaced-by log rows table text span laws e fits never false placed = rw (e, fits, placed) refl
misplaced-by log rows table text span laws e fits never true placed =
    let taken = laws.row_taken rows text span (rw (e, fits, placed) refl) in absurd (never span taken.1 taken.0)

misplaced : (log : List Entry) (tables : List (List Span)) (rows : List Span) (table : Table) (text : List ℕ) (cells : List Cell) → IsKept log → IsNextTable log tables table → IsRowLine text cells
    → fits_columns table.cols cells ≡ true → ((span : Span) → IsRow table.cols (versions_in log) rows span → text ≡ span_text span → ⊥) → row_rule table.cols (versions_in log) rows text ≡ Err 13
misplaced log tables rows table text cells kept next line fits never =
    let read = line-span text cells line in
    let fit : fits_columns table.cols read.span.row ≡ true = ap (fits_columns table.cols) read.cells ∙ fits in
    misplaced-by log rows table text read.span (table-lawful log tables table kept next) read.is fit never (is_in_place (versions_in log) rows read.span) refl

breaks-verdict : (due : Due) (text : List ℕ) (f : ℕ) → Breaks due text f → IsSound due → is_utf8 text ≡ true → (lines : List DumpLine) (number : ℕ) → verdict (Whole text ∷ lines) due number ≡ Fails f number
unfolding verdict after_text row_rule
breaks-verdict _ _ _ (r.no_format text never) sound utf8 lines number =
    let none : header_of text ≡ None = unread (header_of text) (λ second e. never second (header-takes text second e)) in rw (utf8, none) refl
breaks-verdict _ _ _ (r.no_count second text never) sound utf8 lines number =
    let none : count_of text ≡ None = unread (count_of text) (λ n e. let t = count-takes text n e in never n t.1 t.0) in rw (utf8, none) refl
breaks-verdict _ _ _ (r.no_log_line second left log text never) sound utf8 lines number = rw (utf8, log-unread second log text never) refl
breaks-verdict _ _ _ (r.no_later_line second left log text line session said is low) sound utf8 lines number = rw (utf8, log-low second log text line session said is low) refl
breaks-verdict _ _ _ (r.says_nothing second left log text line session said is above never) sound utf8 lines number = rw (utf8, log-unsaid second log text line session said is above never) refl
breaks-verdict _ _ _ (r.is_flawed second left log text line session said flaw is above may known e) sound utf8 lines number =
    rw (utf8, log-flawed second log text line session said flaw is above may known e) refl
breaks-verdict _ _ _ (r.no_table due log tables table text standing next never) sound utf8 lines number =
    section-verdict due log tables text (Err 10) lines number standing utf8 (section-refused log tables table text next never)
breaks-verdict _ _ _ (r.no_row left log tables rows text never) sound utf8 lines number =
    let none : span_of text ≡ None = unread (span_of text) (λ span e. never span.row (span-line text span e)) in rw (utf8, none) refl
breaks-verdict _ _ _ (r.misfits left log tables rows table text cells next line fits) sound utf8 lines number =
    let read = line-span text cells line in
    let misfit : fits_columns table.cols read.span.row ≡ false = ap (fits_columns table.cols) read.cells ∙ fits in
    rw (utf8, next, read.is, misfit) refl
breaks-verdict _ _ _ (r.is_misplaced left log tables rows table text cells next line fits never) sound utf8 lines number =
    rw (utf8, next, misplaced log tables rows table text cells sound.0 next line fits never) refl
breaks-verdict _ _ _ (r.no_end due log tables text standing none never) sound utf8 lines number =
    section-verdict due log tables text (Err 14) lines number standing utf8 (end-refused log tables text none never)
breaks-verdict _ _ _ (r.goes_on dump text) sound utf8 lines number = rw utf8 refl

-- ---- a line that breaks a rule

between-header : (log : List Entry) (tables : List (List Span)) (due : Due) → IsBetween due log tables → due ≡ Header → ⊥
between-header _ _ _ (r.logged second log) e = absurd cc
between-header _ _ _ (r.between log tables) e = absurd cc
between-header _ _ _ (r.filled log tables rows) e = absurd cc

breaks-header : (due : Due) (text : List ℕ) (f : ℕ) → Breaks due text f → due ≡ Header → header_of text ≡ None
breaks-header _ _ _ (r.no_format text never) e = unread (header_of text) (λ second is. never second (header-takes text second is))
breaks-header _ _ _ (r.no_count second text never) e = absurd cc
breaks-header _ _ _ (r.no_log_line second left log text never) e = absurd cc
breaks-header _ _ _ (r.no_later_line second left log text line session said is low) e = absurd cc
breaks-header _ _ _ (r.says_nothing second left log text line session said is above never) e = absurd cc
breaks-header _ _ _ (r.is_flawed second left log text line session said flaw is above may known n) e = absurd cc
breaks-header _ _ _ (r.no_table due log tables table text standing next never) e = absurd (between-header log tables due standing e)
breaks-header _ _ _ (r.no_row left log tables rows text never) e = absurd cc
breaks-header _ _ _ (r.misfits left log tables rows table text cells next line fits) e = absurd cc
breaks-header _ _ _ (r.is_misplaced left log tables rows table text cells next line fits never) e = absurd cc
breaks-header _ _ _ (r.no_end due log tables text standing none never) e = absurd (between-header log tables due standing e)
breaks-header _ _ _ (r.goes_on dump text) e = absurd cc

module _ (lines : List DumpLine) (number : ℕ) where
  never-text : (due : Due) (text : List ℕ) → is_utf8 text ≡ false → verdict (Whole text ∷ lines) due number ≡ Fails 1 number
  unfolding verdict
  never-text Header text e = rw e refl
  never-text (Count second) text e = rw e refl
  never-text (Logs second left log) text e = rw e refl
  never-text (Sections log tables) text e = rw e refl
  never-text (Rows left log tables rows) text e = rw e refl
  never-text (Nothing dump) text e = rw e refl

  never-cut-text : (due : Due) (text : List ℕ) → is_utf8 text ≡ false → verdict (Cut text ∷ lines) due number ≡ Fails 1 number
  unfolding verdict
  never-cut-text Header text e = rw e refl
  never-cut-text (Count second) text e = rw e refl
  never-cut-text (Logs second left log) text e = rw e refl
  never-cut-text (Sections log tables) text e = rw e refl
  never-cut-text (Rows left log tables rows) text e = rw e refl
  never-cut-text (Nothing dump) text e = rw e refl

  unended : (due : Due) (text : List ℕ) → is_utf8 text ≡ true → (due ≡ Header → (second : Bool) × (text ≡ header second)) → verdict (Cut text ∷ lines) due number ≡ Fails 3 number
  unfolding verdict
  unended Header text e named = let format = named refl in rw (e, ap header_of format.1 ∙ header-again format.0) refl
  unended (Count second) text e named = rw e refl
  unended (Logs second left log) text e named = rw e refl
  unended (Sections log tables) text e named = rw e refl
  unended (Rows left log tables rows) text e named = rw e refl
  unended (Nothing dump) text e named = rw e refl

  missing : (due : Due) → ((dump : Dump) → due ≡ Nothing dump → ⊥) → verdict (Missing ∷ lines) due number ≡ Fails 3 number
  unfolding verdict
  missing Header other = refl
  missing (Count second) other = refl
  missing (Logs second left log) other = refl
  missing (Sections log tables) other = refl
  missing (Rows left log tables rows) other = refl
  missing (Nothing dump) other = absurd (other dump refl)

  line-breaks : (due : Due) (line : DumpLine) (f : ℕ) → LineBreaks due line f → IsSound due → verdict (line ∷ lines) due number ≡ Fails f number
  unfolding verdict
  line-breaks _ _ _ (r.no_text due text e) sound = never-text due text e
  line-breaks _ _ _ (r.no_cut_text due text e) sound = never-cut-text due text e
  line-breaks _ _ _ (r.breaks due text f utf8 is) sound = breaks-verdict due text f is sound utf8 lines number
  line-breaks _ _ _ (r.unnamed text utf8 is) sound = rw (utf8, breaks-header Header text 2 is refl) refl
  line-breaks _ _ _ (r.unended due text utf8 named) sound = unended due text utf8 named
  line-breaks _ _ _ (r.missing due other) sound = missing due other

fault-fails : (lines : List DumpLine) (due : Due) (number f at : ℕ) → FaultIn lines due number f at → IsSound due → verdict lines due number ≡ Fails f at
fault-fails _ _ _ _ _ (here line lines due number f is) sound = line-breaks lines number due line f is sound
fault-fails _ _ _ _ _ (later text lines due next number f at leads rest) sound =
    let k = leads-followed due text next leads sound in
    k.verdict_is lines number ∙ fault-fails lines next (number + 1) f at rest k.sound

-- the first rule that is broken is the first one that the verdict finds
pub fault-is : (bytes : List ℕ) (f line : ℕ) → FirstFault bytes f line → first_fault bytes ≡ Some (f, line)
fault-is bytes f line is = ap fault_in (fault-fails (lines_of bytes) Header 1 f line is tt)

-- ---- lines that all keep the rules

kept-holds : (lines : List DumpLine) (due : Due) (dump : Dump) (number : ℕ) → KeepRules lines due dump → IsSound due → verdict lines due number ≡ Holds dump
unfolding verdict
kept-holds _ _ _ number (ended dump) sound = refl
kept-holds _ _ _ number (followed text lines due next dump leads rest) sound =
    let k = leads-followed due text next leads sound in
    k.verdict_is lines number ∙ kept-holds lines next dump (number + 1) rest k.sound

-- the dump of the lines is the one that the verdict holds
pub kept-is : (bytes : List ℕ) (dump : Dump) → WellFormed bytes dump → verdict_on bytes ≡ Holds dump
kept-is bytes dump is = kept-holds (lines_of bytes) Header dump 1 is tt
