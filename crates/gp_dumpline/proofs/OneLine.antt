-- The lines of a dump are UTF-8 and have no line feed.
use Rattle.std.proofs.Common.{◌≡◌, ℕ, ◌<◌, ◌≤◌, Bool, true, false, not, leb, eqb, ◌&&◌, List, [], ◌∷◌, Some, length, refl, arith}
use Rattle.std.specs.List.{list_all}
use Rattle.std.proofs.lemmas.Bool.{and_parts, false≢true, ne_eqb}
use Rattle.std.proofs.lemmas.Bool.Decides.{nat_tests}
use Rattle.gp_base.specs.declared.name.TheConstants.{MAX_NAME_LENGTH}
use Rattle.gp_base.specs.UserCells.{is_user_cell}
use Rattle.gp_base.specs.Names.{is_lower_letter, is_name, is_name_byte, is_reserved}
use Rattle.gp_grammar.specs.declared.limits.TheConstants.{MAX_SESSION}
use Rattle.gp_versions.specs.declared.span.Span.{Span}
use Rattle.gp_base.specs.declared.limit.TheConstants.{MAX_SPANS}
use Rattle.gp_log.specs.declared.limit.TheConstants.{MAX_LINE, MAX_ENTRIES}
use Rattle.gp_machine.specs.Entries.{Entry, line_of, session_of}
use Rattle.gp_log.specs.Discipline.{said_by}
use Rattle.gp_dumpline.specs.Forms.{HasForm, said_of}
use Rattle.gp_dumpline.specs.Laws.{IsOneLine}
use Rattle.gp_dumpline.specs.Texts.{header, count_text, said_text, entry_text, section_text, span_text, end_text}
use Rattle.gp_dumpline.proofs.LineBytes.{IsLine, line-cons, line-nil, line-tested, span-line, words-alone}
use Rattle.gp_dumpline.proofs.LogLineLaws.{count-line, log_line-line, section-line}
use Rattle.gp_dumpline.proofs.SaidLaws.{said-line}

pub one_line : (text : List ℕ) → IsLine text → IsOneLine text
one_line text l = let t = line-tested text l in record { utf8 = t.0; free = t.1 }

-- ---- names

byte-low : (b : ℕ) → is_name_byte b ≡ true → b < 128
byte-low b is = grind (arith, nat_tests)

byte-high : (b : ℕ) → is_name_byte b ≡ true → 48 ≤ b
byte-high b is = grind (arith, nat_tests)

letter-low : (b : ℕ) → is_lower_letter b ≡ true → b < 128
letter-low b is = grind (arith, nat_tests)

letter-high : (b : ℕ) → is_lower_letter b ≡ true → 48 ≤ b
letter-high b is = grind (arith, nat_tests)

no_feed : (b : ℕ) → 48 ≤ b → eqb b 10 ≡ false
no_feed b high = ne_eqb b 10 (λ e. absurd (omega (arith, high, e)))

bytes-line : (bytes : List ℕ) → list_all is_name_byte bytes ≡ true → IsLine bytes
bytes-line [] all = line-nil
bytes-line (b ∷ bytes) all =
    let p = and_parts (is_name_byte b) (list_all is_name_byte bytes) all in
    line-cons b bytes (byte-low b p.0) (no_feed b (byte-high b p.0)) (bytes-line bytes p.1)

pub name-line : (name : List ℕ) → is_name name ≡ true → IsLine name
name-line [] is = absurd (false≢true is)
name-line (b ∷ bytes) is =
    let a = and_parts ((is_lower_letter b && list_all is_name_byte bytes) && leb (length (b ∷ bytes)) MAX_NAME_LENGTH) (not (is_reserved (b ∷ bytes))) is in
    let c = and_parts (is_lower_letter b && list_all is_name_byte bytes) (leb (length (b ∷ bytes)) MAX_NAME_LENGTH) a.0 in
    let d = and_parts (is_lower_letter b) (list_all is_name_byte bytes) c.0 in
    line-cons b bytes (letter-low b d.0) (no_feed b (letter-high b d.0)) (bytes-line bytes d.1)

-- ---- the lines

pub header-one_line : (second : Bool) → IsOneLine (header second)
header-one_line false = one_line (header false) (words-alone (header false) refl)
header-one_line true = one_line (header true) (words-alone (header true) refl)

pub end-one_line : IsOneLine end_text
end-one_line = one_line end_text (words-alone end_text refl)

pub count-one_line : (count : ℕ) → count ≤ MAX_ENTRIES → IsOneLine (count_text count)
count-one_line count few = one_line (count_text count) (count-line count few)

pub section-one_line : (name : List ℕ) (rows : ℕ) → is_name name ≡ true → rows ≤ MAX_SPANS → IsOneLine (section_text name rows)
section-one_line name rows is few = one_line (section_text name rows) (section-line name rows (name-line name is) few)

pub span-one_line : (span : Span) → HasForm span → list_all is_user_cell span.row ≡ true → IsOneLine (span_text span)
span-one_line span form all = one_line (span_text span) (span-line span form all)

pub entry-one_line : (entry : Entry) → line_of entry ≤ MAX_LINE → session_of entry ≤ MAX_SESSION → said_of (said_text (said_by entry)) ≡ Some (said_by entry) → IsOneLine (entry_text entry)
entry-one_line entry line session again =
    one_line (entry_text entry) (log_line-line (line_of entry) (session_of entry) (said_text (said_by entry)) line session (said-line (said_by entry) again))
