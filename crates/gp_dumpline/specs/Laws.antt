-- Of the law `lines_are_one_line`: a text of one line.
use Rattle.std.specs.Prelude.{◌≡◌, ◌==◌, ℕ, true, false, List}
use Rattle.std.specs.List.{list_any}
use Rattle.std.specs.Str.{is_utf8}

-- a text is UTF-8 and has no line feed
pub record IsOneLine (text : List ℕ) : Type 0 where
  pub utf8 : is_utf8 text ≡ true
  pub free : list_any (λ byte. byte == 10) text ≡ false
