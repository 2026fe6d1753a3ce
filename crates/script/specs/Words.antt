-- The words of a line.
use Rattle.std.specs.Prelude.{ℕ, zero, suc, Bool, not, List, [], ◌∷◌, length, take, ◌==◌}
use Rattle.std.specs.List.{prefix_len}
use Rattle.sheet.specs.Word.{word, after_word, trimmed}

abbrev pub plain : ℕ → Bool
plain b = not (b == 35)

-- What stands before the first #.
abbrev pub before_comment : List ℕ → List ℕ
before_comment line = take (prefix_len plain line) line

-- At most k words.
abbrev pub words_by : ℕ → List ℕ → List (List ℕ)
words_by zero text = []
words_by (suc k) [] = []
words_by (suc k) (b ∷ bs) = word (b ∷ bs) ∷ words_by k (after_word (b ∷ bs))

-- The words of a text that does not begin with a blank.
unfoldable pub words : List ℕ → List (List ℕ)
words text = words_by (length text) text

-- The words of a line, up to a comment.
abbrev pub line_words : List ℕ → List (List ℕ)
line_words line = words (trimmed (before_comment line))
