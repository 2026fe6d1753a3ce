-- Words and the blanks between them.
use Rattle.std.specs.Prelude.{ℕ, ◌-◌, Bool, not, List, length, take, drop}
use Rattle.std.specs.Char.{is_ascii_whitespace}
use Rattle.std.specs.List.{prefix_len, suffix_len}

abbrev pub solid : ℕ → Bool
solid b = not (is_ascii_whitespace b)

-- What stands before the first blank.
abbrev pub word : List ℕ → List ℕ
word t = take (prefix_len solid t) t

abbrev pub after_blanks : List ℕ → List ℕ
after_blanks t = drop (prefix_len is_ascii_whitespace t) t

-- What follows the first word and the blanks after it.
abbrev pub after_word : List ℕ → List ℕ
after_word t = after_blanks (drop (prefix_len solid t) t)

abbrev pub before_blanks : List ℕ → List ℕ
before_blanks t = take (length t - suffix_len is_ascii_whitespace t) t

abbrev pub trimmed : List ℕ → List ℕ
trimmed t = before_blanks (after_blanks t)
